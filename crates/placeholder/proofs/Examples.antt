-- Worked examples.
use Rattle.std.proofs.Common.{◌≡◌, ℤ, pos, negsuc, [], ◌∷◌, None, Some, refl}
use Rattle.osm_base.specs.Meta.{empty_meta}
use Rattle.osm_base.specs.Content.{node}
use Rattle.osm_base.specs.declared.key.Kind.TheVariants as kind
use Rattle.osm_base.specs.declared.key.Key.{Key}
use Rattle.osm_base.specs.declared.content.Content.TheVariants.{Way}
use Rattle.osm_table.specs.declared.entry.Base.TheVariants.{New, Live}
use Rattle.osm_table.specs.declared.entry.Entry.TheVariants.{Known}
use Rattle.upload_order.specs.declared.change.Change.TheVariants.{Create, Modify}
use Rattle.placeholder.specs.Confirmed.{moved, moved_entry, moved_change, based_on, names_of}

abbrev way : ℤ → Key
way id = record { kind = kind.Way; id = id }

-- n-1 became n50: a new way refers to it, and keeps what else it refers to
reference_moves : moved_entry (moved (node (negsuc 0)) (pos 50)) (Known New (Some (Way [] (negsuc 0 ∷ negsuc 1 ∷ pos 7 ∷ []))) None) ≡ Known New (Some (Way [] (pos 50 ∷ negsuc 1 ∷ pos 7 ∷ []))) None
reference_moves = refl

-- the way with the same number isn't the node
kinds_apart : moved (node (negsuc 0)) (pos 50) (way (negsuc 0)) ≡ way (negsuc 0)
kinds_apart = refl

-- w9 of version 3 was changed: it stands on version 4, as it was sent
next_version : based_on (Live 4 (Way [] (pos 7 ∷ [])) empty_meta) (Some (Known (Live 3 (Way [] (pos 8 ∷ [])) empty_meta) (Some (Way [] (pos 7 ∷ []))) None))
    ≡ Known (Live 4 (Way [] (pos 7 ∷ [])) empty_meta) (Some (Way [] (pos 7 ∷ []))) None
next_version = refl

-- two ways were made, and one was changed between them: each placeholder has its id
two_names : names_of (Create (way (negsuc 0)) (Way [] (pos 7 ∷ [])) ∷ Modify (way (pos 9)) 3 (Way [] (pos 8 ∷ [])) ∷ Create (way (negsuc 1)) (Way [] (pos 7 ∷ [])) ∷ []) (pos 50 ∷ pos 51 ∷ [])
    ≡ (way (negsuc 1), pos 51) ∷ (way (negsuc 0), pos 50) ∷ []
two_names = refl

-- a change that is left is renamed
change_moves : moved_change (moved (node (negsuc 0)) (pos 50)) (Create (way (negsuc 1)) (Way [] (negsuc 0 ∷ pos 7 ∷ []))) ≡ Create (way (negsuc 1)) (Way [] (pos 50 ∷ pos 7 ∷ []))
change_moves = refl
