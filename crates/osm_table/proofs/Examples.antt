-- Worked examples, on which the definitions compute.
use Rattle.std.proofs.Common.{◌≡◌, ℕ, pos, negsuc, true, false, List, [], ◌∷◌, Some, None, refl, ap, arith}
use Rattle.std.specs.FinMap as fin
use Rattle.osm_base.specs.Meta.{empty_meta}
use Rattle.osm_base.specs.Rank.{rank_cmp}
use Rattle.osm_base.specs.declared.key.Key.{Key}
use Rattle.osm_base.specs.declared.key.Kind.TheVariants as kind
use Rattle.osm_base.specs.declared.content.Content.{Content}
use Rattle.osm_base.specs.declared.content.Content.TheVariants as content
use Rattle.osm_table.specs.declared.entry.Base.{Base}
use Rattle.osm_table.specs.declared.entry.Base.TheVariants.{New, Live, Gone}
use Rattle.osm_table.specs.declared.entry.Why.TheVariants.{Changed, Held}
use Rattle.osm_table.specs.declared.entry.Entry.{Entry}
use Rattle.osm_table.specs.declared.entry.Entry.TheVariants.{Incomplete, Known}
use Rattle.osm_table.specs.declared.told.Told.TheVariants as told
use Rattle.osm_table.specs.Same.{same_entry}
use Rattle.osm_table.specs.Table.{TableValue, entry_of, users, users_among, is_living, is_changed, known_side, version_of, held_by}
use Rattle.osm_table.specs.Told.{IsTold, is_told_there}

abbrev node : ℕ → Key
node n = record { kind = kind.Node; id = pos n }

abbrev way : ℕ → Key
way n = record { kind = kind.Way; id = pos n }

-- a way of two nodes, and the same with one more
abbrev short : Content
short = content.Way [] (pos 2 ∷ pos 1 ∷ [])

abbrev long : Content
long = content.Way [] (pos 2 ∷ pos 1 ∷ pos 2 ∷ [])

abbrev base : Base
base = Live 3 short empty_meta

abbrev gone : Base
gone = Gone 4 empty_meta

-- a way that is as the server had it, one with a node more, one in conflict, and one that the user deleted
abbrev kept : Entry
kept = Known base (Some short) None

abbrev longer : Entry
longer = Known base (Some long) None

abbrev held : Entry
held = Known base (Some short) (Some (record { why = Held; theirs = gone }))

abbrev deleted : Entry
deleted = Known base None None

changed : (is_changed kept ≡ false) × (is_changed longer ≡ true) × (is_changed held ≡ false) × (is_changed deleted ≡ true) × (is_changed Incomplete ≡ false)
changed = (refl, refl, refl, refl, refl)

-- an object that no server knows is changed, and one that is deleted on both sides isn't
changed_new : (is_changed (Known New (Some short) None) ≡ true) × (is_changed (Known gone None None) ≡ false) × (is_changed (Known gone (Some short) None) ≡ true)
changed_new = (refl, refl, refl)

living : (is_living kept ≡ true) × (is_living deleted ≡ false) × (is_living Incomplete ≡ false)
living = (refl, refl, refl)

sides : (known_side kept ≡ Some base) × (known_side held ≡ Some gone) × (known_side Incomplete ≡ None)
sides = (refl, refl, refl)

versions : (version_of New ≡ 0) × (version_of base ≡ 3) × (version_of gone ≡ 4) × (held_by gone ≡ None)
versions = (refl, refl, refl, refl)

alike : (same_entry held held ≡ true) × (same_entry held kept ≡ false) × (same_entry kept longer ≡ false) × (same_entry held (Known base (Some short) (Some (record { why = Changed; theirs = gone }))) ≡ false)
alike = (refl, refl, refl, refl)

abbrev entries : List (Key × Entry)
entries = (node 1, Incomplete) ∷ (node 2, Incomplete) ∷ (way 1, longer) ∷ (way 2, deleted) ∷ []

abbrev table : TableValue
table = record { entries = fin.from_sorted entries; next = 1 }

-- a way that names a node twice is one user, and a deleted way is none
used : users table (node 2) ≡ way 1 ∷ []
used = ap (λ es. users_among es (node 2)) (fin.entries-from_sorted rank_cmp entries tt)

unused : users table (way 1) ≡ []
unused = ap (λ es. users_among es (way 1)) (fin.entries-from_sorted rank_cmp entries tt)

found : entry_of table (node 1) ≡ Some Incomplete
found = fin.get-from_sorted rank_cmp entries (node 1) tt

-- a way may be told of with its nodes, and not under a new object's key
told_way : IsTold (way 1) (told.Live 3 short empty_meta)
told_way = search arith

told_new : IsTold (record { kind = kind.Way; id = negsuc 0 }) told.Mentioned → ⊥
told_new h = h

-- an object that lives or is only referred to is there, one that is deleted isn't, nor one of which nothing is told
told_there : (is_told_there (Some (told.Live 3 short empty_meta)) ≡ true) × (is_told_there (Some told.Mentioned) ≡ true) × (is_told_there (Some (told.Gone 4 empty_meta)) ≡ false)
    × (is_told_there None ≡ false)
told_there = (refl, refl, refl, refl)
