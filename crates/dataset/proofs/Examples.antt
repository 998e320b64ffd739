-- The definitions at work.
use Rattle.std.proofs.Common.{◌≡◌, pos, negsuc, true, false, Option, Some, None, [], ◌∷◌, refl, arith}
use Rattle.osm_base.specs.Content.{node}
use Rattle.osm_base.specs.declared.key.Kind.TheVariants as kind
use Rattle.osm_base.specs.declared.key.Key.{Key}
use Rattle.osm_base.specs.declared.content.Content.TheVariants.{Way}
use Rattle.osm_table.specs.declared.entry.Base.TheVariants.{New}
use Rattle.osm_table.specs.declared.entry.Entry.{Entry}
use Rattle.osm_table.specs.declared.entry.Entry.TheVariants.{Incomplete, Known}
use Rattle.dataset.specs.Edit.{Edit}
use Rattle.dataset.specs.Patch.{in_order, edit_at}
use Rattle.dataset.specs.Diff.{same_at}
use Rattle.dataset.specs.Exact.{refs_at, keeps_refs, pairs_by}
use Rattle.dataset.specs.Sound.{IsGiven}

abbrev way : Key
way = record { kind = kind.Way; id = negsuc 0 }

-- a new way that goes round through node 7
abbrev round : Option Entry
round = Some (Known New (Some (Way [] (pos 7 ∷ pos 8 ∷ pos 7 ∷ []))) None)

-- the same with a tag
abbrev tagged : Option Entry
tagged = Some (Known New (Some (Way ((97 ∷ [], 98 ∷ []) ∷ []) (pos 7 ∷ pos 8 ∷ pos 7 ∷ []))) None)

abbrev tagging : Edit
tagging = record { key = way; before = round; after = tagged }

abbrev deleting : Edit
deleting = record { key = way; before = round; after = None }

abbrev noting : Edit
noting = record { key = node (pos 7); before = None; after = Some Incomplete }

each_naming : refs_at round ≡ node (pos 7) ∷ node (pos 8) ∷ node (pos 7) ∷ []
each_naming = refl

tags_keep_references : keeps_refs tagging ≡ true
tags_keep_references = refl

tags_move_nothing : pairs_by (λ e. e.before) (tagging ∷ []) ≡ []
tags_move_nothing = refl

-- each reference of what is taken away goes with it
all_go : pairs_by (λ e. e.before) (noting ∷ deleting ∷ []) ≡ record { of = node (pos 7); user = way } ∷ record { of = node (pos 8); user = way } ∷ record { of = node (pos 7); user = way } ∷ []
all_go = refl

by_rank : in_order (noting ∷ deleting ∷ []) ≡ true
by_rank = refl

not_by_rank : in_order (deleting ∷ noting ∷ []) ≡ false
not_by_rank = refl

found_by_key : edit_at way (noting ∷ deleting ∷ []) ≡ Some deleting
found_by_key = refl

other_tags_differ : same_at round tagged ≡ false
other_tags_differ = refl

-- with the number 3 the ids -1 and -2 are given, and -3 isn't
given : IsGiven 3 (negsuc 1)
given = omega arith

not_given : IsGiven 3 (negsuc 2) → ⊥
not_given h = omega (arith, h)
