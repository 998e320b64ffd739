-- Edits of a table by rank, and the tables that they lead between.
use Rattle.std.specs.Prelude.{◌≡◌, ◌≢◌, ℕ, Bool, T, Option, Some, None, List, [], ◌∷◌, map}
use Rattle.std.specs.List.{AllByRecursion}
use Rattle.std.specs.FinMap as fin
use Rattle.std.specs.FinMap.Entries.{find, is_sorted}
use Rattle.osm_base.specs.Rank.{rank_cmp}
use Rattle.osm_base.specs.declared.key.Key.{Key}
use Rattle.osm_table.specs.declared.entry.Entry.{Entry}
use Rattle.osm_table.specs.Table.{TableValue, entry_of}
use Rattle.dataset.specs.Edit.{Edit}

pub record PatchValue : Type 0 where
  pub edits : List Edit
  pub next_before : ℕ
  pub next_after : ℕ

abbrev pub keyed : List Edit → List (Key × Edit)
keyed es = map (λ e. (e.key, e)) es

-- whether the keys strictly rise by rank
abbrev pub in_order : List Edit → Bool
in_order es = is_sorted rank_cmp (keyed es)

-- the edit of a key
abbrev pub edit_at : Key → List Edit → Option Edit
edit_at k es = find rank_cmp k (keyed es)

abbrev pub Entries : Type 0
Entries = fin.FinMap rank_cmp Entry

-- the entries with one set or taken out
abbrev pub placed : Entries → Key → Option Entry → Entries
placed m key None = fin.remove m key
placed m key (Some e) = fin.insert m key e

abbrev pub edited : (Edit → Option Entry) → List Edit → Entries → Entries
edited side [] m = m
edited side (e ∷ es) m = placed (edited side es m) e.key (side e)

-- what is true of each patch
pub record IsPatch (p : PatchValue) : Type 0 where
  pub by_rank : T (in_order p.edits)
  pub changes : AllByRecursion (λ e. e.before ≢ e.after) p.edits

pub record StandsBefore (p : PatchValue) (t : TableValue) : Type 0 where
  pub entries : AllByRecursion (λ e. entry_of t e.key ≡ e.before) p.edits
  pub number : t.next ≡ p.next_before

pub record StandsAfter (p : PatchValue) (t : TableValue) : Type 0 where
  pub entries : AllByRecursion (λ e. entry_of t e.key ≡ e.after) p.edits
  pub number : t.next ≡ p.next_after

abbrev pub after_of : PatchValue → TableValue → TableValue
after_of p t = record { entries = edited (λ e. e.after) p.edits t.entries; next = p.next_after }

abbrev pub before_of : PatchValue → TableValue → TableValue
before_of p t = record { entries = edited (λ e. e.before) p.edits t.entries; next = p.next_before }

-- the patch leads from t to u, and back
pub record Leads (p : PatchValue) (t u : TableValue) : Type 0 where
  pub before : StandsBefore p t
  pub to : u ≡ after_of p t
  pub after : StandsAfter p u
  pub back : t ≡ before_of p u

-- The patch is the difference of two tables: by rank those keys whose entries differ, with both entries, and the two numbers.
pub record IsDiff (t u : TableValue) (p : PatchValue) : Type 0 where
  pub patch : IsPatch p
  pub before : StandsBefore p t
  pub after : StandsAfter p u
  pub rest : (k : Key) → edit_at k p.edits ≡ None → entry_of t k ≡ entry_of u k
