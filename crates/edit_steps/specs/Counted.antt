-- The text of `count`.
use Rattle.std.specs.Prelude.{ℕ, ◌+◌, ◌<◌, ◌^◌, Bool, false, ◌&&◌, if◌then◌else◌, List, [], ◌∷◌, ◌++◌, Option, None, Some, codes, decimal}
use Rattle.std.specs.List.{count_by}
use Rattle.std.specs.Option.{option_map_or}
use Rattle.osm_base.specs.declared.key.Kind.{Kind}
use Rattle.osm_base.specs.declared.key.Kind.TheVariants.{Node, Way, Relation}
use Rattle.osm_base.specs.declared.key.Key.{Key}
use Rattle.osm_table.specs.Table.{TableValue, entry_of, keys_by_rank, is_incomplete, is_living, is_changed}
use Rattle.osm_table.specs.declared.entry.Entry.{Entry}
use Rattle.map_search.specs.Meets.{has_conflict, is_deleted, same_kind}
use Rattle.edit_steps.specs.declared.counting.Counts.{Counts}

-- how many of the keys have an entry that passes the test
abbrev pub counted : (Kind → Entry → Bool) → TableValue → List Key → ℕ
counted test t keys = count_by (λ key. option_map_or (test key.kind) (entry_of t key) false) keys

-- what is counted of the entries of these keys
abbrev pub counts_among : TableValue → List Key → Counts
counts_among t keys = record {
  nodes = counted (λ kind entry. is_living entry && same_kind Node kind) t keys;
  ways = counted (λ kind entry. is_living entry && same_kind Way kind) t keys;
  relations = counted (λ kind entry. is_living entry && same_kind Relation kind) t keys;
  incomplete = counted (λ kind entry. is_incomplete entry) t keys;
  deleted = counted (λ kind entry. is_deleted entry) t keys;
  changed = counted (λ kind entry. is_changed entry) t keys;
  conflicts = counted (λ kind entry. has_conflict entry) t keys;
}

-- a name and a number
unfoldable pub part : List ℕ → ℕ → List ℕ
part name count = name ++ decimal count

-- a name, a number and the end of the line
abbrev pub count_line : List ℕ → ℕ → List ℕ
count_line name count = part name count ++ 10 ∷ []

abbrev pub kinds_text : Counts → List ℕ
kinds_text c = part (codes "count nodes ") c.nodes ++ (part (codes " ways ") c.ways ++ part (codes " relations ") c.relations)

abbrev pub states_text : Counts → List ℕ
states_text c = part (codes " incomplete ") c.incomplete ++ (part (codes " deleted ") c.deleted ++ (part (codes " changed ") c.changed ++ (part (codes " conflicts ") c.conflicts ++ codes "\n")))

abbrev pub counts_text : Counts → List ℕ
counts_text c = kinds_text c ++ states_text c

-- The line that counts the entries of a table.
abbrev pub count_text : TableValue → List ℕ
count_text t = counts_text (counts_among t (keys_by_rank t))

abbrev pub one_if : Bool → ℕ
one_if test = if test then 1 else 0

-- the counts with one entry more
abbrev pub with_one : Counts → Kind → Entry → Counts
with_one c kind entry = record {
  nodes = c.nodes + one_if (is_living entry && same_kind Node kind);
  ways = c.ways + one_if (is_living entry && same_kind Way kind);
  relations = c.relations + one_if (is_living entry && same_kind Relation kind);
  incomplete = c.incomplete + one_if (is_incomplete entry);
  deleted = c.deleted + one_if (is_deleted entry);
  changed = c.changed + one_if (is_changed entry);
  conflicts = c.conflicts + one_if (has_conflict entry);
}

abbrev pub with_entry_of : Counts → Kind → Option Entry → Counts
with_entry_of c kind None = c
with_entry_of c kind (Some entry) = with_one c kind entry

abbrev pub with_key : Counts → TableValue → Key → Counts
with_key c t key = with_entry_of c key.kind (entry_of t key)

-- each number can rise by one
pub record HasRoom (c : Counts) : Type 0 where
  pub nodes : c.nodes + 1 < 2 ^ 64
  pub ways : c.ways + 1 < 2 ^ 64
  pub relations : c.relations + 1 < 2 ^ 64
  pub incomplete : c.incomplete + 1 < 2 ^ 64
  pub deleted : c.deleted + 1 < 2 ^ 64
  pub changed : c.changed + 1 < 2 ^ 64
  pub conflicts : c.conflicts + 1 < 2 ^ 64
