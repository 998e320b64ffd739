-- What a draft makes of a table, and its difference from it over some keys.
use Rattle.std.specs.Prelude.{◌≡◌, ◌≢◌, ℕ, refl, Option, Some, None, List, [], ◌∷◌}
use Rattle.std.specs.Coded.{Coded, code_by, coded×, coded_ℕ, coded_option}
use Rattle.std.specs.FinMap as map
use Rattle.osm_base.specs.Rank.{rank_cmp}
use Rattle.osm_base.specs.declared.key.Key.{Key}
use Rattle.osm_base.specs.contracts.key.Key as key
use Rattle.osm_table.specs.contracts.entry.Entry as entry
use Rattle.osm_table.specs.declared.entry.Entry.{Entry}
use Rattle.osm_table.specs.Table.{TableValue, entry_of}
use Rattle.dataset.specs.Edit.{Edit}
use Rattle.dataset.specs.Patch.{Entries, placed}

-- new entries, or none, by key, and a number
pub record DraftValue : Type 0 where
  pub puts : map.FinMap rank_cmp (Option Entry)
  pub next : ℕ

abbrev pub draft_code : Coded DraftValue
draft_code =
    code_by (map.FinMap rank_cmp (Option Entry) × ℕ) (coded× (map.code key.the_row.coded (coded_option entry.the_row.coded)) coded_ℕ) (λ d. (d.puts, d.next))
    (λ p. record { puts = p.0; next = p.1 })
    (λ _. refl)

abbrev pub overlaid : List (Key × Option Entry) → Entries → Entries
overlaid [] m = m
overlaid (e ∷ es) m = placed (overlaid es m) e.0 e.1

-- the table with the draft's entries in place of its own
abbrev pub drafted : DraftValue → TableValue → TableValue
drafted d t = record { entries = overlaid (map.entries d.puts) t.entries; next = d.next }

-- the edit of one key: none where both are one
abbrev pub IsEditOf : Option Entry → Key → Option Entry → Option Edit → Type 0
IsEditOf before k after None = before ≡ after
IsEditOf before k after (Some e) = (e ≡ record { key = k; before = before; after = after }) × (before ≢ after)

-- the edits of those of the keys whose entries differ, in the keys' order
pub data DiffOver (t u : TableValue) : List Key → List Edit → Type 0 where
  done : DiffOver t u [] []
  alike : (k : Key) (ks : List Key) (es : List Edit) → entry_of t k ≡ entry_of u k → DiffOver t u ks es → DiffOver t u (k ∷ ks) es
  other : (k : Key) (ks : List Key) (es : List Edit) → entry_of t k ≢ entry_of u k → DiffOver t u ks es → DiffOver t u (k ∷ ks) (record { key = k; before = entry_of t k; after = entry_of u k } ∷ es)
