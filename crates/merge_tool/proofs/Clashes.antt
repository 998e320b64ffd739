-- The least of the keys that clash.
use Rattle.std.proofs.Common.{◌≡◌, ◌&&◌, Bool, true, false, cond, List, [], ◌∷◌, Option, Some, None, is_some, slice_get, refl, sym, ap, ◌∙◌}
use Rattle.std.specs.Option.{option_map}
use Rattle.std.specs.List.{filter, find, list_any}
use Rattle.std.specs.FinMap as fin
use Rattle.osm_base.specs.Rank.{is_key}
use Rattle.osm_base.specs.Order.{ranked}
use Rattle.osm_base.proofs.RisingKeys.{in_filter}
use Rattle.osm_base.proofs.RankedKeys.{rises_ranked, named_ranked}
use Rattle.osm_base.proofs.ByRank.{sorted_filter}
use Rattle.osm_base.specs.declared.key.Key.{Key}
use Rattle.osm_table.specs.Table.{TableValue}
use Rattle.osm_table.specs.Told.{ToldValue, told_at}
use Rattle.tool_api.specs.declared.refusal.Refusal.{Refusal}
use Rattle.tool_api.specs.Merged.{clash_of, clash_test}
use Rattle.merge_tool.specs.Passes.{is_clashing}

find_filter : (p : Key → Bool) (ks : List Key) → slice_get (filter p ks) 0 ≡ find p ks
find_filter p [] = refl
find_filter p (k ∷ ks) = by (p k) (find_filter p ks)
  where
    by : (b : Bool) → slice_get (filter p ks) 0 ≡ find p ks → slice_get (cond b (k ∷ filter p ks) (filter p ks)) 0 ≡ cond b (Some k) (find p ks)
    by true e = refl
    by false e = e

-- the least by rank of those that are told of and pass a test
pub least_is : (p : Key → Bool) (m : ToldValue) (ks : List Key) → ks ≡ filter p m.order → ((k : Key) → list_any (is_key k) m.order ≡ is_some (told_at m k)) → slice_get (ranked ks) 0 ≡ find p (fin.keys m.told)
least_is p m ks are each =
    ap (λ (js : List Key). slice_get (ranked js) 0) are
    ∙ ap (λ (js : List Key). slice_get js 0) (sorted_filter p m.told (ranked (filter p m.order)) (rises_ranked (filter p m.order)) (λ q. named_ranked (filter p m.order) q ∙ in_filter p q m.order ∙ ap (λ b. p q && b) (each q ∙ fin.contains_key-keys m.told q)))
    ∙ find_filter p (fin.keys m.told)

pub clash_none : (t : TableValue) (m : ToldValue) (o : Option Key) → o ≡ find (is_clashing t m.told) (fin.keys m.told) → o ≡ None → None ≡ clash_test t m.told
clash_none t m o e is = sym (ap (option_map (clash_of m.told)) (sym e ∙ is))

pub clash_some : (t : TableValue) (m : ToldValue) (o : Option Key) (k : Key) (r : Refusal) → o ≡ find (is_clashing t m.told) (fin.keys m.told) → o ≡ Some k → r ≡ clash_of m.told k → Some r ≡ clash_test t m.told
clash_some t m o k r e is by = ap Some by ∙ sym (ap (option_map (clash_of m.told)) (sym e ∙ is))
