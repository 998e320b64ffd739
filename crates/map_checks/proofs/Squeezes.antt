-- Ways that are squeezed: the table stays sound, and none of them is repeated.
use Rattle.std.proofs.Common.{◌≡◌, ℕ, ℤ, true, false, cond, not, List, Option, Some, None, Ok, refl, sym, ap, ◌∙◌, subst}
use mathlib.Core.Logic.{inl}
use Rattle.std.specs.Ordering.{int_eq}
use Rattle.std.specs.Option.{option_map, option_and_then}
use Rattle.osm_base.specs.Content.{refers, node, kind_of_content}
use Rattle.osm_base.specs.Rank.{is_key}
use Rattle.osm_base.proofs.AnyMap.{list_any_map}
use Rattle.osm_base.specs.declared.key.Key.{Key}
use Rattle.osm_base.specs.declared.content.Content.{Content}
use Rattle.osm_base.specs.declared.content.Content.TheVariants.{Node, Way, Relation}
use Rattle.osm_base.proofs.Lists.{any_dedup}
use Rattle.osm_table.specs.declared.entry.Entry.{Entry}
use Rattle.osm_table.specs.declared.entry.Entry.TheVariants.{Incomplete, Known}
use Rattle.osm_table.specs.Table.{TableValue, entry_of, mine_of}
use Rattle.dataset.specs.Sound.{IsSound}
use Rattle.tool_api.specs.declared.kinds.Kinds.TheVariants.{Ways}
use Rattle.tool_api.specs.declared.refusal.Refusal.TheVariants.{NoFinding}
use Rattle.tool_api.specs.Basic.{with_refs}
use Rattle.tool_api.specs.Changes.{Outcome, done, changed, edit, with_mine}
use Rattle.tool_api.specs.Closing.{closing_tests}
use Rattle.tool_api.specs.Checks.{first_of, when, is_named, list_tests}
use Rattle.tool_api.specs.Findings.{has_repeat, is_repeated}
use Rattle.tool_api.specs.Split.{way_refs}
use Rattle.tool_api.specs.Squeeze.{squeezed, squeeze}
use Rattle.tool_api.proofs.Looks.{entry_changed}
use Rattle.tool_api.proofs.Passed.{named_lives, both_none}
use Rattle.tool_api.proofs.Sounds.{edit_sound}
use Rattle.map_checks.proofs.Dedups.{no_repeat}
use Rattle.map_checks.proofs.Ends.{through, last_through}

same_kind : (c : Content) → kind_of_content (with_refs squeezed c) ≡ kind_of_content c
same_kind (Node tags at) = refl
same_kind (Way tags refs) = refl
same_kind (Relation tags members) = refl

old_refs : (c : Content) (r : Key) → refers (with_refs squeezed c) r ≡ true → refers c r ≡ true
old_refs (Node tags at) r used = used
old_refs (Relation tags members) r used = used
old_refs (Way tags refs) r used =
    list_any_map (is_key r) node refs ∙ any_dedup (λ (id : ℤ). is_key r (node id)) int_eq refs (sym (list_any_map (is_key r) node (squeezed refs)) ∙ used)

pub squeezed_sound : (t : TableValue) (keys : List Key) (limit : ℕ) → IsSound t → list_tests t Ways keys ≡ None
    → closing_tests t limit keys (changed t (edit t (with_refs squeezed)) keys) ≡ None → IsSound (changed t (edit t (with_refs squeezed)) keys)
squeezed_sound t keys limit s passed closed =
    edit_sound t (with_refs squeezed) keys limit keys same_kind (λ c r used. inl (old_refs c r used))
    (λ k e. named_lives t Ways keys k e (both_none _ _ passed).1) s closed

-- an entry that is squeezed
calm_entry : (o : Option Entry) → has_repeat (way_refs (option_and_then mine_of (option_map (with_mine (with_refs squeezed)) o))) ≡ false
calm_entry None = refl
calm_entry (Some Incomplete) = refl
calm_entry (Some (Known base None conflict)) = refl
calm_entry (Some (Known base (Some (Node tags at)) conflict)) = refl
calm_entry (Some (Known base (Some (Way tags refs)) conflict)) = no_repeat refs
calm_entry (Some (Known base (Some (Relation tags members)) conflict)) = refl

calm : (t : TableValue) (keys : List Key) (k : Key) → is_named keys k ≡ true → is_repeated (changed t (edit t (with_refs squeezed)) keys) k ≡ false
calm t keys k named =
    ap (λ (o : Option Entry). has_repeat (way_refs (option_and_then mine_of o)))
    (entry_changed t (edit t (with_refs squeezed)) keys k ∙ ap (λ b. cond b (edit t (with_refs squeezed) k) (entry_of t k)) named)
    ∙ calm_entry (entry_of t k)

-- After a squeeze that isn't refused none of the named ways is repeated.
pub leaves_no_repeat : (t : TableValue) (limit : ℕ) (keys : List Key) (new : Outcome) → squeeze t limit keys ≡ Ok new → (k : Key) → is_named keys k ≡ true → is_repeated new.table k ≡ false
leaves_no_repeat t limit keys new e k named =
    let table = changed t (edit t (with_refs squeezed)) keys in
    let a = through (list_tests t Ways keys) _ new e in
    let b = through (first_of (λ (k : Key). when (not (is_repeated t k)) (NoFinding k)) keys) _ new a in
    subst (λ (o : Outcome). is_repeated o.table k ≡ false) (last_through (closing_tests t limit keys table) (done table) new b) (calm t keys k named)
