-- The difference as a function is the difference.
use Rattle.std.proofs.Common.{◌≡◌, ◌≢◌, Bool, true, false, cond, is_some, Option, Some, None, List, [], ◌∷◌, ◌++◌, refl, sym, ◌∙◌, ap, Decides}
use Rattle.std.specs.Prelude.{T}
use Rattle.std.specs.FinMap as fin
use Rattle.std.specs.FinMap.Entries.{find}
use Rattle.std.proofs.lemmas.Bool.Decides.{Decides-like}
use Rattle.osm_base.specs.Rank.{rank_cmp, is_key}
use Rattle.osm_base.specs.RankLaws.{rank_total}
use Rattle.osm_base.specs.declared.key.Key.{Key}
use Rattle.osm_table.specs.Same.{same_entry}
use Rattle.osm_table.proofs.SameLaws.{same_entry_decides}
use Rattle.osm_base.proofs.ByRank.{rises_keys}
use Rattle.osm_table.specs.declared.entry.Entry.{Entry}
use Rattle.osm_table.specs.Table.{TableValue, entry_of}
use Rattle.osm_base.specs.RisingKeys.{rises, is_in}
use Rattle.osm_base.proofs.Tests.{by_bool, none_from_test}
use Rattle.dataset.specs.Edit.{Edit}
use Rattle.dataset.specs.Patch.{PatchValue, IsDiff}
use Rattle.dataset.specs.Draft.{DiffOver}
use Rattle.dataset.specs.Diff.{same_at, keys_of_both, edits_over, diff}
use Rattle.dataset.proofs.Drafted.{order_over, changes_over, before_over, after_over, rest_over}
use Rattle.dataset.proofs.Laws.{one_diff}

pub same_at_decides : (a b : Option Entry) → Decides (same_at a b) (a ≡ b)
same_at_decides None None = (λ h. refl, λ e. refl)
same_at_decides None (Some b) = (λ h. cc, λ e. cc)
same_at_decides (Some a) None = (λ h. cc, λ e. cc)
same_at_decides (Some a) (Some b) = Decides-like (same_entry a b) (λ e. ap Some e) (λ e. cc) (same_entry_decides a b)

differs : (a b : Option Entry) → same_at a b ≡ false → a ≢ b
differs a b e same = let f : same_at a b ≡ true = (same_at_decides a b).1 same in cc

over_case : (t u : TableValue) (k : Key) (ks : List Key) (es : List Edit) (b : Bool) → same_at (entry_of t k) (entry_of u k) ≡ b → DiffOver t u ks es → DiffOver t u (k ∷ ks) (cond b es (record { key = k; before = entry_of t k; after = entry_of u k } ∷ es))
over_case t u k ks es true e d = DiffOver.alike k ks es ((same_at_decides _ _).0 e) d
over_case t u k ks es false e d = DiffOver.other k ks es (differs _ _ e) d

over : (t u : TableValue) (ks : List Key) → DiffOver t u ks (edits_over t u ks)
over t u [] = DiffOver.done
over t u (k ∷ ks) = over_case t u k ks (edits_over t u ks) (same_at (entry_of t k) (entry_of u k)) refl (over t u ks)

both_case : (b : Bool) (v : Entry) (o : Option Entry) (f : Option Entry) (w : Option Entry) → (is_some o ≡ false → (f ≡ None) × (w ≡ None)) → is_some (cond b (Some v) o) ≡ false → (cond b (Some v) f ≡ None) × (w ≡ None)
both_case true v o f w h e = let z : true ≡ false = e in cc
both_case false v o f w h e = h e

find_both : (q : Key) (es fs : List (Key × Entry)) → is_some (find rank_cmp q (es ++ fs)) ≡ false → (find rank_cmp q es ≡ None) × (find rank_cmp q fs ≡ None)
find_both q [] fs e = (refl, none_from_test (find rank_cmp q fs) e)
find_both q (x ∷ es) fs e = both_case (is_key q x.0) x.1 _ _ _ (find_both q es fs) e

-- The difference is one, and no other.
pub diff_is : (t u : TableValue) → IsDiff t u (diff t u)
diff_is t u =
    let order : T (rises (keys_of_both t u)) = rises_keys (fin.from_entries {R = rank_cmp} (fin.entries t.entries ++ fin.entries u.entries)) in
    record {
      patch = record { by_rank = order_over t u (keys_of_both t u) _ (over t u (keys_of_both t u)) order; changes = changes_over t u (keys_of_both t u) _ (over t u (keys_of_both t u)) };
      before = record { entries = before_over t u (keys_of_both t u) _ (over t u (keys_of_both t u)); number = refl };
      after = record { entries = after_over t u (keys_of_both t u) _ (over t u (keys_of_both t u)); number = refl };
      rest = λ q none. by_bool (is_in q (keys_of_both t u)) (rest_over t u (keys_of_both t u) _ (over t u (keys_of_both t u)) q none)
          (λ out.
          let p = find_both q (fin.entries t.entries) (fin.entries u.entries) (ap is_some (sym (fin.get-from_entries rank_total (fin.entries t.entries ++ fin.entries u.entries) q)) ∙ fin.contains_key-keys (fin.from_entries {R = rank_cmp} (fin.entries t.entries ++ fin.entries u.entries)) q ∙ out) in
          fin.get-entries t.entries q ∙ p.0 ∙ sym (fin.get-entries u.entries q ∙ p.1));
    }

pub is_diff : (t u : TableValue) (p : PatchValue) → IsDiff t u p → p ≡ diff t u
is_diff t u p d = one_diff t u p (diff t u) d (diff_is t u)
