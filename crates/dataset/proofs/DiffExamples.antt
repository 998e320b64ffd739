-- The difference of two tables, and what it leads to: a worked example.
use Rattle.std.proofs.Common.{◌≡◌, true, ℕ, ℤ, pos, negsuc, List, [], ◌∷◌, Option, Some, None, refl, length, sym, ◌∙◌, arith}
use Rattle.std.specs.FinMap as fin
use Rattle.std.specs.FinMap.Entries.{find}
use Rattle.osm_base.specs.OnMap.{is_on_map}
use Rattle.osm_base.specs.Rank.{rank_cmp}
use Rattle.osm_base.specs.RankLaws.{rank_total}
use Rattle.osm_base.specs.Content.{node}
use Rattle.osm_base.specs.declared.meta.Meta.{Meta}
use Rattle.osm_base.specs.declared.content.Content.{Content}
use Rattle.osm_base.specs.declared.content.Content.TheVariants as content
use Rattle.osm_base.specs.declared.key.Key.{Key}
use Rattle.osm_base.specs.declared.key.Kind.TheVariants as kind
use Rattle.osm_table.specs.declared.entry.Base.TheVariants.{New, Live}
use Rattle.osm_table.specs.declared.entry.Entry.{Entry}
use Rattle.osm_table.specs.declared.entry.Entry.TheVariants.{Incomplete, Known}
use Rattle.osm_table.specs.Table.{TableValue, entry_of}
use Rattle.dataset.specs.Patch.{PatchValue, StandsBefore, after_of}
use Rattle.dataset.specs.Diff.{diff}

abbrev n : ℤ → Key
n i = node i

abbrev w : ℤ → Key
w i = record { kind = kind.Way; id = i }

abbrev dot : (lon : ℕ) → is_on_map (pos lon) (pos 0) ≡ true → Content
dot lon on_map = content.Node [] (record { lon = pos lon; lat = pos 0; on_map = on_map })

abbrev line : List ℤ → Content
line ids = content.Way [] ids

abbrev server : Meta
server = record { changeset = 1; time = None; uid = 1; user = [] }

abbrev live : Content → Option Content → Entry
live c mine = Known (Live 1 c server) mine None

-- before: n1, n2, n3 and the new way w-1
abbrev before : List (Key × Entry)
before = (n (pos 1), live (dot 1 refl) (Some (dot 1 refl))) ∷ (n (pos 2), live (dot 2 refl) (Some (dot 2 refl))) ∷ (n (pos 3), Incomplete) ∷ (w (negsuc 0), Known New (Some (line (pos 1 ∷ pos 2 ∷ []))) None) ∷ []

-- after: n1 is as it was, n2 was moved, n3 came in, w-1 was taken out, and n-2 was added
abbrev after : List (Key × Entry)
after = (n (pos 1), live (dot 1 refl) (Some (dot 1 refl))) ∷ (n (pos 2), live (dot 2 refl) (Some (dot 7 refl))) ∷ (n (pos 3), live (dot 3 refl) (Some (dot 3 refl))) ∷ (n (negsuc 1), Known New (Some (dot 4 refl)) None) ∷ []

abbrev old : TableValue
old = record { entries = fin.from_sorted before; next = 2 }

abbrev new : TableValue
new = record { entries = fin.from_sorted after; next = 3 }

in_old : fin.entries (fin.from_sorted {R = rank_cmp} before) ≡ before
in_old = fin.entries-from_sorted rank_cmp before tt

in_new : fin.entries (fin.from_sorted {R = rank_cmp} after) ≡ after
in_new = fin.entries-from_sorted rank_cmp after tt

-- by rank the keys whose entries differ, and the two numbers
abbrev patch : PatchValue
patch = record {
  edits = record { key = n (pos 2); before = Some (live (dot 2 refl) (Some (dot 2 refl))); after = Some (live (dot 2 refl) (Some (dot 7 refl))) }
      ∷ record { key = n (pos 3); before = Some Incomplete; after = Some (live (dot 3 refl) (Some (dot 3 refl))) }
      ∷ record { key = n (negsuc 1); before = None; after = Some (Known New (Some (dot 4 refl)) None) }
      ∷ record { key = w (negsuc 0); before = Some (Known New (Some (line (pos 1 ∷ pos 2 ∷ []))) None); after = None }
      ∷ [];
  next_before = 2;
  next_after = 3;
}

empty_of_none : (es : List (Key × Entry)) → length es ≡ 0 → es ≡ []
empty_of_none [] h = refl
empty_of_none (e ∷ es) h = absurd (omega (arith, h))

no_entries : fin.entries (fin.empty {X = Entry} {R = rank_cmp}) ≡ []
no_entries = empty_of_none _ (sym (fin.len-entries fin.empty) ∙ fin.len-empty rank_cmp Entry)

differs : diff old new ≡ patch
differs = simp (fin.get-entries, fin.entries-insert {X = Entry} rank_total, in_old, in_new, no_entries) refl

at_old : (k : Key) → fin.get (fin.from_sorted {R = rank_cmp} before) k ≡ find rank_cmp k before
at_old k = fin.get-from_sorted rank_cmp before k tt

stands : StandsBefore patch old
stands = record {
  entries = (fin.get-from_sorted rank_cmp before (n (pos 2)) tt, (fin.get-from_sorted rank_cmp before (n (pos 3)) tt, (fin.get-from_sorted rank_cmp before (n (negsuc 1)) tt, (fin.get-from_sorted rank_cmp before (w (negsuc 0)) tt, tt))));
  number = refl;
}

-- after it each of these keys has what the new table has, and n9 nothing
stays : entry_of (after_of patch old) (n (pos 1)) ≡ Some (live (dot 1 refl) (Some (dot 1 refl)))
stays = simp (fin.get-insert {X = Entry} rank_total, fin.get-remove {X = Entry} rank_total, at_old) refl

moved : entry_of (after_of patch old) (n (pos 2)) ≡ Some (live (dot 2 refl) (Some (dot 7 refl)))
moved = simp (fin.get-insert {X = Entry} rank_total, fin.get-remove {X = Entry} rank_total, at_old) refl

told : entry_of (after_of patch old) (n (pos 3)) ≡ Some (live (dot 3 refl) (Some (dot 3 refl)))
told = simp (fin.get-insert {X = Entry} rank_total, fin.get-remove {X = Entry} rank_total, at_old) refl

added : entry_of (after_of patch old) (n (negsuc 1)) ≡ Some (Known New (Some (dot 4 refl)) None)
added = simp (fin.get-insert {X = Entry} rank_total, fin.get-remove {X = Entry} rank_total, at_old) refl

taken_out : entry_of (after_of patch old) (w (negsuc 0)) ≡ None
taken_out = simp (fin.get-insert {X = Entry} rank_total, fin.get-remove {X = Entry} rank_total, at_old) refl

nothing : entry_of (after_of patch old) (n (pos 9)) ≡ None
nothing = simp (fin.get-insert {X = Entry} rank_total, fin.get-remove {X = Entry} rank_total, at_old) refl

numbered : (after_of patch old).next ≡ 3
numbered = refl
