-- A patch by which a table without objects gets entries that stand by rank.
use Rattle.std.proofs.Common.{◌≡◌, ℕ, ◌+◌, ◌<◌, Bool, true, false, is_some, Option, Some, None, List, [], ◌∷◌, ◌++◌, length, take, get_or, refl, sym, ◌∙◌, ap, subst}
use Rattle.std.specs.Prelude.{T}
use Rattle.std.specs.List.{list_any}
use Rattle.std.specs.Map.{keys_of, lookup}
use Rattle.std.specs.FinMap as fin
use Rattle.std.specs.FinMap.Entries.{is_some-find}
use Rattle.std.proofs.lemmas.List.{take_more}
use Rattle.osm_base.specs.KeyEq.{eq}
use Rattle.osm_base.specs.Rank.{rank_cmp, is_key}
use Rattle.osm_base.specs.RankLaws.{rank_total, rank_exact, rank_ties}
use Rattle.osm_base.specs.RisingKeys.{rises, is_in}
use Rattle.osm_base.specs.declared.key.Key.{Key}
use Rattle.osm_base.proofs.MapViews.{get_view}
use Rattle.osm_base.proofs.Tests.{by_bool, none_from_test}
use Rattle.osm_table.specs.declared.entry.Entry.{Entry}
use Rattle.osm_table.specs.Table.{TableValue, entry_of}
use Rattle.dataset.specs.Edit.{Edit}
use Rattle.dataset.specs.Draft.{DiffOver}
use Rattle.dataset.specs.Patch.{PatchValue, IsDiff, edit_at}
use Rattle.dataset.specs.PatchKept.{nothing}
use Rattle.dataset.proofs.Drafted.{more_other, order_over, changes_over, before_over, after_over, rest_over}
use Rattle.dataset.proofs.ToldPatch.{same_diff}

-- the table that has just some entries
abbrev pub table_with : List (Key × Entry) → ℕ → TableValue
table_with es next = record { entries = fin.from_entries es; next = next }

none_there : (k : Key) → entry_of nothing k ≡ None
none_there k = fin.get-empty rank_cmp k

comes_alike : (before after : Option Entry) (e : Entry) → before ≡ None → after ≡ Some e → before ≡ after → ⊥
comes_alike before after e n s same = let f : None ≡ Some e = sym n ∙ same ∙ s in cc

-- one entry more comes
pub more_comes : (es : List (Key × Entry)) (i : ℕ) (d k : Key) (e : Entry) (edit : Edit) (old new : List Edit) → i < length (keys_of es) → k ≡ get_or (keys_of es) i d → lookup (eq k) es ≡ Some e → edit ≡ record { key = k; before = None; after = Some e }
    → new ≡ old ++ edit ∷ [] → DiffOver nothing (table_with es 1) (take i (keys_of es)) old → DiffOver nothing (table_with es 1) (take (i + 1) (keys_of es)) new
more_comes es i d k e edit old new within at has is more over =
    let there : entry_of (table_with es 1) k ≡ Some e = sym (get_view rank_total rank_exact rank_ties es k) ∙ has in
    let one : edit ≡ record { key = k; before = entry_of nothing k; after = entry_of (table_with es 1) k } = is ∙ (λ j. record { key = k; before = sym (none_there k) j; after = sym there j }) in
    let keys : take (i + 1) (keys_of es) ≡ take i (keys_of es) ++ k ∷ [] = take_more (keys_of es) i d within ∙ ap (λ (j : Key). take i (keys_of es) ++ j ∷ []) (sym at) in
    subst (λ (ks : List Key). DiffOver nothing (table_with es 1) ks new) (sym keys)
    (subst (λ (fs : List Edit). DiffOver nothing (table_with es 1) (take i (keys_of es) ++ k ∷ []) fs) (sym (more ∙ ap (λ (f : Edit). old ++ f ∷ []) one))
    (more_other nothing (table_with es 1) (take i (keys_of es)) old k over (comes_alike (entry_of nothing k) (entry_of (table_with es 1) k) e (none_there k) there)))

-- a key that isn't among theirs has no entry
none_else : (es : List (Key × Entry)) (q : Key) → is_in q (keys_of es) ≡ false → entry_of (table_with es 1) q ≡ None
none_else es q out = none_from_test (fin.get (fin.from_entries es) q) (ap is_some (fin.get-from_entries rank_total es q) ∙ is_some-find rank_cmp q es ∙ out)

whole : (es : List (Key × Entry)) (edits : List Edit) → T (rises (keys_of es)) → DiffOver nothing (table_with es 1) (keys_of es) edits → IsDiff nothing (table_with es 1) (record { edits = edits; next_before = 1; next_after = 1 })
whole es edits order over = record {
  patch = record { by_rank = order_over nothing (table_with es 1) (keys_of es) edits over order; changes = changes_over nothing (table_with es 1) (keys_of es) edits over };
  before = record { entries = before_over nothing (table_with es 1) (keys_of es) edits over; number = refl };
  after = record { entries = after_over nothing (table_with es 1) (keys_of es) edits over; number = refl };
  rest = λ q none. by_bool (is_in q (keys_of es)) (rest_over nothing (table_with es 1) (keys_of es) edits over q none) (λ out. none_there q ∙ sym (none_else es q out));
}

-- the difference of any table without objects
pub entries_differ : (es : List (Key × Entry)) (edits : List Edit) (t t₀ : TableValue) (n m : ℕ) → t ≡ t₀ → fin.len t₀.entries ≡ 0 → n ≡ t.next → T (rises (keys_of es)) → DiffOver nothing (table_with es 1) (keys_of es) edits
    → IsDiff t₀ (table_with es m) (record { edits = edits; next_before = n; next_after = m })
entries_differ es edits t t₀ n m same none number order over =
    same_diff nothing (table_with es 1) t₀ (table_with es m) (record { edits = edits; next_before = 1; next_after = 1 }) n m (whole es edits order over)
    (sym (fin.empty_of_len t₀.entries none)) refl (ap (λ (x : TableValue). x.next) (sym same) ∙ sym number) refl
