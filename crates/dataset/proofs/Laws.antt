-- The laws of patches.
use Rattle.std.proofs.Common.{◌≡◌, ◌≢◌, Option, Some, None, List, [], ◌∷◌, map, refl, sym, ◌∙◌, ap}
use Rattle.std.specs.Option.{option_map_or}
use Rattle.std.specs.FinMap as fin
use Rattle.std.specs.FinMap.Entries.{same_entries}
use Rattle.osm_base.specs.Rank.{rank_cmp}
use Rattle.osm_base.specs.RankLaws.{rank_total, rank_exact}
use Rattle.osm_base.specs.declared.key.Key.{Key}
use Rattle.osm_table.specs.declared.entry.Entry.{Entry}
use Rattle.osm_table.specs.Table.{TableValue, entry_of}
use Rattle.osm_table.proofs.Each.{same_table}
use Rattle.dataset.specs.Edit.{Edit}
use Rattle.dataset.specs.Patch.{Entries, PatchValue, Leads, IsDiff, keyed, edit_at, edited, after_of, before_of}
use Rattle.dataset.proofs.Looked.{get_edited, found, found_key}

-- an edit that is found decides, and else the rest
pub by_edit : (P : Type 0) (o : Option Edit) → (o ≡ None → P) → ((e : Edit) → o ≡ Some e → P) → P
by_edit P None none some = none refl
by_edit P (Some e) none some = some e refl

at_edit : (side : Edit → Option Entry) (p : PatchValue) (m : Entries) (k : Key) (e : Edit) → edit_at k p.edits ≡ Some e → fin.get (edited side p.edits m) k ≡ side e
at_edit side p m k e is = get_edited side p.edits m k ∙ ap (λ (o : Option Edit). option_map_or side o (fin.get m k)) is

at_rest : (side : Edit → Option Entry) (p : PatchValue) (m : Entries) (k : Key) → edit_at k p.edits ≡ None → fin.get (edited side p.edits m) k ≡ fin.get m k
at_rest side p m k is = get_edited side p.edits m k ∙ ap (λ (o : Option Edit). option_map_or side o (fin.get m k)) is

-- the difference of two tables leads from the one to the other
pub diff_leads : (t u : TableValue) (p : PatchValue) → IsDiff t u p → Leads p t u
diff_leads t u p d = record {
  before = d.before;
  to = same_table u (after_of p t)
      (λ k. by_edit _ (edit_at k p.edits)
      (λ none. sym (d.rest k none) ∙ sym (at_rest (λ e. e.after) p t.entries k none))
      (λ e some. ap (entry_of u) (found_key p.edits k e some) ∙ found (λ e. entry_of u e.key ≡ e.after) p.edits d.after.entries k e some ∙ sym (at_edit (λ e. e.after) p t.entries k e some)))
      d.after.number;
  after = d.after;
  back = same_table t (before_of p u)
      (λ k. by_edit _ (edit_at k p.edits)
      (λ none. d.rest k none ∙ sym (at_rest (λ e. e.before) p u.entries k none))
      (λ e some. ap (entry_of t) (found_key p.edits k e some) ∙ found (λ e. entry_of t e.key ≡ e.before) p.edits d.before.entries k e some ∙ sym (at_edit (λ e. e.before) p u.entries k e some)))
      d.before.number;
}

-- two tables have one difference
same_edit : (t u : TableValue) (p q : PatchValue) → IsDiff t u p → IsDiff t u q → (k : Key) (e f : Edit) → edit_at k p.edits ≡ Some e → edit_at k q.edits ≡ Some f → e ≡ f
same_edit t u p q d g k e f x y =
    let j = sym (found_key p.edits k e x) ∙ found_key q.edits k f y in
    let b = sym (found (λ e. entry_of t e.key ≡ e.before) p.edits d.before.entries k e x) ∙ ap (entry_of t) j ∙ found (λ e. entry_of t e.key ≡ e.before) q.edits g.before.entries k f y in
    let a = sym (found (λ e. entry_of u e.key ≡ e.after) p.edits d.after.entries k e x) ∙ ap (entry_of u) j ∙ found (λ e. entry_of u e.key ≡ e.after) q.edits g.after.entries k f y in
    λ i. record { key = j i; before = b i; after = a i }

not_left_out : (t u : TableValue) (p q : PatchValue) → IsDiff t u p → IsDiff t u q → (k : Key) (e : Edit) → edit_at k p.edits ≡ Some e → edit_at k q.edits ≡ None → ⊥
not_left_out t u p q d g k e x none =
    let j = found_key p.edits k e x in
    found (λ e. e.before ≢ e.after) p.edits d.patch.changes k e x
    (sym (found (λ e. entry_of t e.key ≡ e.before) p.edits d.before.entries k e x) ∙ sym (ap (entry_of t) j) ∙ g.rest k none ∙ ap (entry_of u) j ∙ found (λ e. entry_of u e.key ≡ e.after) p.edits d.after.entries k e x)

pub same_edits : (t u : TableValue) (p q : PatchValue) → IsDiff t u p → IsDiff t u q → (k : Key) → edit_at k p.edits ≡ edit_at k q.edits
same_edits t u p q d g k =
    by_edit _ (edit_at k p.edits)
    (λ none. by_edit _ (edit_at k q.edits) (λ none2. none ∙ sym none2) (λ f some. absurd (not_left_out t u q p g d k f some none)))
    (λ e some. by_edit _ (edit_at k q.edits) (λ none. absurd (not_left_out t u p q d g k e some none)) (λ f some2. some ∙ ap Some (same_edit t u p q d g k e f some some2) ∙ sym some2))

unkeyed : (es : List Edit) → map (λ e. e.1) (keyed es) ≡ es
unkeyed [] = refl
unkeyed (e ∷ es) = ap (λ (fs : List Edit). e ∷ fs) (unkeyed es)

pub one_diff : (t u : TableValue) (p q : PatchValue) → IsDiff t u p → IsDiff t u q → p ≡ q
one_diff t u p q d g =
    let es = sym (unkeyed p.edits) ∙ ap (map (λ (e : Key × Edit). e.1)) (same_entries rank_cmp rank_total rank_exact (keyed p.edits) (keyed q.edits) d.patch.by_rank g.patch.by_rank (same_edits t u p q d g)) ∙ unkeyed q.edits in
    let b = sym d.before.number ∙ g.before.number in
    let a = sym d.after.number ∙ g.after.number in
    λ i. record { edits = es i; next_before = b i; next_after = a i }
