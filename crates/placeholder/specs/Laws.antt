-- Words of the laws.
use Rattle.std.specs.Prelude.{◌≡◌, ◌+◌, ◌++◌, if◌then◌else◌, ℕ, ℤ, List, map, Option, Some, None, Ok}
use Rattle.std.specs.Option.{option_map}
use Rattle.osm_base.specs.Meta.{empty_meta}
use Rattle.osm_base.specs.Rank.{is_key}
use Rattle.osm_base.specs.declared.key.Key.{Key}
use Rattle.osm_base.specs.declared.content.Content.{Content}
use Rattle.osm_table.specs.declared.entry.Base.{Base}
use Rattle.osm_table.specs.declared.entry.Base.TheVariants.{Live, Gone}
use Rattle.osm_table.specs.declared.entry.Entry.{Entry}
use Rattle.osm_table.specs.Table.{TableValue, entry_of}
use Rattle.dataset.specs.Sound.{IsSound}
use Rattle.upload_order.specs.declared.change.Change.{Change}
use Rattle.upload_order.specs.Plan.{plan}
use Rattle.upload_order.specs.Refused.{upload_refusal}
use Rattle.upload_order.specs.Rename.{called, with_id}
use Rattle.upload_order.specs.Run.{run_from, Ended}
use Rattle.upload_order.specs.World.{World, after}
use Rattle.renamed_content.specs.Renamed.{renamed}
use Rattle.placeholder.specs.Answered.{IsAnswered, AreAnswered}
use Rattle.placeholder.specs.Answers.{AreNew, AreWithin}
use Rattle.placeholder.specs.Confirm.{answers_of, confirms}
use Rattle.placeholder.specs.Confirmed.{based_on, confirmed, confirmed_all, made_entry, moved, moved_change, moved_entry, names_of}
use Rattle.placeholder.specs.Resumed.{left_after}

-- The table that is confirmed by the answer to the change has at each key what is told.
abbrev pub HasAfter : TableValue → Change → ℤ → (Key → Option Entry) → Type 0
HasAfter t c id told = (j : Key) → entry_of (confirmed t c id) j ≡ told j

-- What stands at the key j: the object under its id, nothing under its placeholder, and all other contents refer to the id.
abbrev pub made_by_key : TableValue → Key → Content → ℤ → Key → Option Entry
made_by_key t placeholder c id j =
    if is_key j (with_id placeholder id) then Some (made_entry (renamed (moved placeholder id) c)) else (if is_key j placeholder then None else option_map (moved_entry (moved placeholder id)) (entry_of t j))

-- What stands at the key j: the object k on another base, and all else as it was.
abbrev pub based_by_key : TableValue → Key → Base → Key → Option Entry
based_by_key t k base j = if is_key j k then Some (based_on base (entry_of t k)) else entry_of t j

-- the same, with the base that a Modify left: what was sent, in the next version
abbrev pub modified_by_key : TableValue → Key → ℕ → Content → Key → Option Entry
modified_by_key t k version c = based_by_key t k (Live (version + 1) c empty_meta)

-- the same, with the base that a Delete left: gone, in the next version
abbrev pub deleted_by_key : TableValue → Key → ℕ → Key → Option Entry
deleted_by_key t k version = based_by_key t k (Gone (version + 1) empty_meta)

-- The first change of the plan is answered, and the rest is left.
pub record FirstAnswer (w : World) (t : TableValue) : Type 0 where
  pub change : Change
  pub rest : List Change
  pub id : ℤ
  pub answered : IsAnswered w t change rest id

-- the server after that change
abbrev pub world_after : {w : World} {t : TableValue} → FirstAnswer w t → World
world_after {w} a = after w a.change a.id

-- the confirmed table
abbrev pub table_after : {w : World} {t : TableValue} → FirstAnswer w t → TableValue
table_after {w} {t} a = confirmed t a.change a.id

-- the rest of the plan, with the id that the object got
abbrev pub rest_after : {w : World} {t : TableValue} → FirstAnswer w t → List Change
rest_after a = left_after a.change a.id a.rest

-- First changes of the plan are answered, and the rest is left.
pub record FirstAnswers (w : World) (t : TableValue) : Type 0 where
  pub changes : List Change
  pub rest : List Change
  pub ids : List ℤ
  pub answered : AreAnswered w t changes rest ids

-- the server takes those changes, and is v then
abbrev pub EndsAs : {w : World} {t : TableValue} → FirstAnswers w t → World → Type 0
EndsAs {w} a v = run_from 1 w a.changes a.ids ≡ Ended v

-- the table that the answers confirm
abbrev pub table_after_all : {w : World} {t : TableValue} → FirstAnswers w t → TableValue
table_after_all {w} {t} a = confirmed_all t a.changes a.ids

-- the rest of the plan, where each placeholder that was answered has the id that its object got
abbrev pub rest_after_all : {w : World} {t : TableValue} → FirstAnswers w t → List Change
rest_after_all a = map (moved_change (called (names_of a.changes a.ids))) a.rest

-- the answers are taken, and the confirmed table comes of them
abbrev pub AreTaken : {w : World} {t : TableValue} → FirstAnswers w t → Type 0
AreTaken {w} {t} a = confirms t (a.changes ++ a.rest) (answers_of a.changes a.ids) ≡ Ok (confirmed_all t a.changes a.ids)

-- Whatever server answered first changes of the plan of a sound table: all is within the limits, and each id new to the table.
pub record FairAnswers (t : TableValue) : Type 0 where
  pub sound : IsSound t
  pub clear : upload_refusal t ≡ None
  pub changes : List Change
  pub rest : List Change
  pub ids : List ℤ
  pub planned : plan t ≡ changes ++ rest
  pub new : AreNew t changes ids
  pub within : AreWithin changes ids
