-- Worked examples, on which the definitions compute.
use Rattle.std.proofs.Common.{◌≡◌, ℕ, pos, true, false, [], ◌∷◌, Some, None, refl}
use Rattle.std.specs.Str.{chars}
use Rattle.osm_base.specs.Meta.{empty_meta}
use Rattle.osm_base.specs.Tags.{Pair}
use Rattle.osm_base.specs.declared.coord.Coord.{Coord}
use Rattle.osm_base.specs.declared.content.Content.{Content}
use Rattle.osm_base.specs.declared.content.Content.TheVariants.{Node, Way}
use Rattle.osm_table.specs.declared.entry.Base.{Base}
use Rattle.osm_table.specs.declared.entry.Base.TheVariants.{Live, Gone}
use Rattle.osm_table.specs.declared.entry.Why.TheVariants.{Withdrawn}
use Rattle.osm_table.specs.declared.entry.Entry.{Entry}
use Rattle.osm_table.specs.declared.entry.Entry.TheVariants.{Incomplete, Known}
use Rattle.osm_table.specs.declared.told.Told.{Told}
use Rattle.osm_table.specs.declared.told.Told.TheVariants as told
use Rattle.merge_cases.specs.declared.verdict.Verdict.TheVariants.{Stay, Mention, Take, Clash, Keep, Candidate, Settle, Join, Dispute}
use Rattle.merge_cases.specs.Case.{verdict_of}
use Rattle.merge_cases.specs.Join.{joined, joins}

abbrev tag : ℕ → ℕ → Pair
tag key value = (key ∷ [], value ∷ [])

abbrev here : Coord
here = record { lon = pos 0; lat = pos 0; on_map = refl }

abbrev there : Coord
there = record { lon = pos 1; lat = pos 0; on_map = refl }

abbrev elsewhere : Coord
elsewhere = record { lon = pos 2; lat = pos 0; on_map = refl }

-- a node with one tag, and what the user and the server make of it
abbrev old : Content
old = Node (tag 97 1 ∷ []) here

abbrev mine : Content
mine = Node (tag 97 2 ∷ []) here

abbrev theirs : Content
theirs = Node (tag 97 1 ∷ tag 98 3 ∷ []) there

abbrev both : Content
both = Node (tag 97 2 ∷ tag 98 3 ∷ []) there

abbrev other : Content
other = Node (tag 97 4 ∷ []) here

-- each side changed another part; both changed one tag; both moved it; one side alone took a tag away
joins_both : joined old mine theirs ≡ Some both
joins_both = refl

clash_of_tags : joined old mine other ≡ None
clash_of_tags = refl

clash_of_places : joined old (Node (tag 97 1 ∷ []) elsewhere) theirs ≡ None
clash_of_places = refl

tag_taken : joined old (Node [] here) theirs ≡ Some (Node (tag 98 3 ∷ []) there)
tag_taken = refl

-- a tag that one side took away and the other changed clashes, and one that both put with one value doesn't
taken_and_changed : joined old (Node [] here) other ≡ None
taken_and_changed = refl

put_alike : joined (Node [] here) mine (Node (tag 97 2 ∷ []) there) ≡ Some (Node (tag 97 2 ∷ []) there)
put_alike = refl

-- the nodes of a way are one part: two that were put at its two ends clash
whole_body : (joined (Way [] (pos 1 ∷ [])) (Way [] (pos 2 ∷ pos 1 ∷ [])) (Way [] (pos 1 ∷ pos 3 ∷ [])) ≡ None)
    × (joined (Way [] (pos 1 ∷ [])) (Way (tag 97 1 ∷ []) (pos 1 ∷ [])) (Way [] (pos 1 ∷ pos 3 ∷ [])) ≡ Some (Way (tag 97 1 ∷ []) (pos 1 ∷ pos 3 ∷ [])))
whole_body = (refl, refl)

other_kind : joined old mine (Way [] []) ≡ None
other_kind = refl

-- a way that comes of two is empty, so no upload could say it; where it is just theirs, no upload has to
unfit : joins (Way [] (pos 1 ∷ [])) (Way [] []) (Way (tag 97 1 ∷ []) (pos 1 ∷ [])) ≡ false
unfolding chars
unfit = refl

unfit_theirs : joins (Way [] (pos 1 ∷ [])) (Way [] (pos 1 ∷ [])) (Way [] []) ≡ true
unfolding chars
unfit_theirs = refl

abbrev base : Base
base = Live 3 old empty_meta

abbrev kept : Entry
kept = Known base (Some old) None

abbrev changed : Entry
changed = Known base (Some mine) None

abbrev deleted : Entry
deleted = Known base None None

abbrev back : Entry
back = Known base (Some old) (Some (record { why = Withdrawn; theirs = base }))

abbrev live : ℕ → Content → Told
live version content = told.Live version content empty_meta

abbrev gone : ℕ → Told
gone version = told.Gone version empty_meta

mentioned : (verdict_of None told.Mentioned ≡ Mention) × (verdict_of (Some kept) told.Mentioned ≡ Stay)
mentioned = (refl, refl)

not_known : (verdict_of None (live 1 old) ≡ Take) × (verdict_of (Some Incomplete) (gone 1) ≡ Take)
not_known = (refl, refl)

older : verdict_of (Some kept) (live 2 theirs) ≡ Stay
older = refl

one_version : (verdict_of (Some kept) (live 3 theirs) ≡ Stay) × (verdict_of (Some (Known (Gone 3 empty_meta) None None)) (gone 3) ≡ Stay)
one_version = (refl, refl)

one_version_two_ways : (verdict_of (Some kept) (gone 3) ≡ Clash) × (verdict_of (Some (Known (Gone 3 empty_meta) None None)) (live 3 old) ≡ Clash)
one_version_two_ways = (refl, refl)

unchanged : (verdict_of (Some kept) (live 4 theirs) ≡ Take) × (verdict_of (Some kept) (gone 4) ≡ Candidate) × (verdict_of (Some (Known (Gone 3 empty_meta) None None)) (gone 4) ≡ Take)
unchanged = (refl, refl, refl)

came_back : (verdict_of (Some back) (live 4 theirs) ≡ Keep) × (verdict_of (Some back) (gone 4) ≡ Candidate)
came_back = (refl, refl)

alike : (verdict_of (Some changed) (live 4 mine) ≡ Settle) × (verdict_of (Some deleted) (gone 4) ≡ Settle)
alike = (refl, refl)

other_parts : verdict_of (Some changed) (live 4 theirs) ≡ Join
unfolding chars
other_parts = refl

one_part : (verdict_of (Some changed) (live 4 other) ≡ Dispute) × (verdict_of (Some changed) (gone 4) ≡ Dispute) × (verdict_of (Some deleted) (live 4 theirs) ≡ Dispute)
one_part = (refl, refl, refl)
