-- What becomes of an object in conflict, by what the user chooses.
--
-- The state of the server becomes the base, and the conflict goes; mine is as chosen. For example of a node with the tags
-- `a=1,b=1`, of which mine has `a=2,b=1` and theirs `a=5,b=9`, the choice of parts makes `a=2,b=9`, and where the key `a`
-- is listed `a=5,b=9`: only `a` clashes.
use Rattle.std.specs.Prelude.{ℕ, Bool, true, false, not, if◌then◌else◌, List, Option, Some, None}
use Rattle.std.specs.List.{find}
use Rattle.std.specs.Option.{is_none}
use Rattle.osm_base.specs.Content.{tags_of}
use Rattle.osm_base.specs.declared.content.Content.{Content}
use Rattle.osm_table.specs.declared.entry.Base.{Base}
use Rattle.osm_table.specs.declared.entry.Conflict.{Conflict}
use Rattle.osm_table.specs.declared.entry.Why.TheVariants.{Changed}
use Rattle.osm_table.specs.declared.entry.Entry.{Entry}
use Rattle.osm_table.specs.declared.entry.Entry.TheVariants.{Incomplete, Known}
use Rattle.osm_table.specs.Same.{same_why}
use Rattle.osm_table.specs.Table.{held_by}
use Rattle.merge_cases.specs.declared.pick.Pick.{Pick}
use Rattle.merge_cases.specs.declared.pick.Pick.TheVariants as pick
use Rattle.merge_cases.specs.Case.{is_withdrawal}
use Rattle.merge_cases.specs.Join.{tag_pick, body_pick, picked, picked_by, both_of, with_body, is_clash}
use Rattle.merge_cases.specs.declared.choice.Side.{Side}
use Rattle.merge_cases.specs.declared.choice.Side.TheVariants as side
use Rattle.merge_cases.specs.declared.choice.Choice.{Choice}
use Rattle.merge_cases.specs.declared.choice.Choice.TheVariants as choice
use Rattle.merge_cases.specs.Keys.{is_listed}

-- the part of a side
abbrev pub of_side : {A : Type 0} → Side → A → A → A
of_side side.Mine m t = m
of_side side.Theirs m t = t

-- the tags of one side with the body of one
abbrev pub mixed : Side → Side → Content → Content → Content
mixed tags body mine theirs = with_body (tags_of (of_side tags mine theirs)) (of_side body mine theirs)

-- whose part stands, a side's where both changed it
abbrev pub settled : Side → Pick → Pick
settled side pick.Mine = pick.Mine
settled side pick.Theirs = pick.Theirs
settled side pick.Clash = of_side side pick.Mine pick.Theirs

-- the side whose tag is taken where both changed it: theirs where the key is listed, else mine
abbrev pub side_of_key : List (List ℕ) → List ℕ → Side
side_of_key listed key = if is_listed listed key then side.Theirs else side.Mine

-- whose tag stands, and whose body
abbrev pub settled_tag : List (List ℕ) → Content → Content → Content → List ℕ → Pick
settled_tag listed base mine theirs key = settled (side_of_key listed key) (tag_pick (tags_of base) (tags_of mine) (tags_of theirs) key)

abbrev pub settled_body : Side → Content → Content → Content → Pick
settled_body body base mine theirs = settled body (body_pick base mine theirs)

-- what comes of three contents where each clash is settled
abbrev pub in_parts : Side → List (List ℕ) → Content → Content → Content → Option Content
in_parts body listed base mine theirs = both_of (Some (picked_by (settled_tag listed base mine theirs) (tags_of mine) (tags_of theirs))) (picked (settled_body body base mine theirs) mine theirs)

-- the mix of two, where both stand
abbrev pub mix_of : Side → Side → Option Content → Option Content → Option Content
mix_of tags body (Some mine) (Some theirs) = Some (mixed tags body mine theirs)
mix_of tags body mine theirs = None

-- what comes of three in parts, where all stand
abbrev pub parts_of : Side → List (List ℕ) → Option Content → Option Content → Option Content → Option Content
parts_of body listed (Some base) (Some mine) (Some theirs) = in_parts body listed base mine theirs
parts_of body listed base mine theirs = None

-- mine, as it is chosen: none where the object is deleted
abbrev pub chosen : Choice → Base → Option Content → Conflict → Option Content
chosen choice.Mine base mine conflict = if is_withdrawal conflict.why then None else mine
chosen choice.Theirs base mine conflict = held_by conflict.theirs
chosen (choice.Mix tags body) base mine conflict = mix_of tags body mine (held_by conflict.theirs)
chosen (choice.Parts body listed) base mine conflict = parts_of body listed (held_by base) mine (held_by conflict.theirs)

-- The entry without its conflict. One that has none stays.
abbrev pub resolved : Choice → Entry → Entry
resolved choice Incomplete = Incomplete
resolved choice (Known base mine None) = Known base mine None
resolved choice (Known base mine (Some conflict)) = Known conflict.theirs (chosen choice base mine conflict) None

-- Whether the object can be settled so: mine and theirs always; a mix where both sides changed it and both stand; parts
-- where the base stands too.
abbrev pub can_mix : Option Content → Conflict → Bool
can_mix None conflict = false
can_mix (Some mine) conflict = if same_why conflict.why Changed then not (is_none (held_by conflict.theirs)) else false

abbrev pub can_choose : Choice → Base → Option Content → Conflict → Bool
can_choose choice.Mine base mine conflict = true
can_choose choice.Theirs base mine conflict = true
can_choose (choice.Mix tags body) base mine conflict = can_mix mine conflict
can_choose (choice.Parts body listed) base mine conflict = if is_none (held_by base) then false else can_mix mine conflict

-- the first listed key whose tag doesn't clash
abbrev pub unclashing : List (List ℕ) → Content → Content → Content → Option (List ℕ)
unclashing listed base mine theirs = find (λ key. not (is_clash (tag_pick (tags_of base) (tags_of mine) (tags_of theirs) key))) listed
