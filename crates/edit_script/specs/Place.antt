-- Where a step of a script stands: a meeting script begins with `serve`, and it and the others have lines of their own.
--
-- For example `serve a`, `fetch 0`, `begin` may stand in this order, and behind them no `send 1`, since that stands in no
-- group, and no `download b`, since that stands in no meeting script.
use Rattle.std.specs.Prelude.{◌≡◌, Bool, true, false, ◌&&◌, ◌||◌, if◌then◌else◌, List, [], ◌∷◌}
use Rattle.edit_script.specs.declared.place.Place.{Place}
use Rattle.edit_script.specs.declared.place.Place.TheVariants.{Start, Script, Meeting}
use Rattle.edit_script.specs.declared.step.Act.{Act}
use Rattle.edit_script.specs.declared.step.Act.TheVariants.{Generate, File, Serve, Editor, Meet}
use Rattle.edit_script.specs.declared.step.Purpose.TheVariants.{Import}
use Rattle.edit_script.specs.declared.step.Step.{Step}
use Rattle.edit_script.specs.Order.{may_stand, inside_after}

-- whether a script that begins with the act is a meeting script
abbrev pub begins_meeting : Act → Bool
begins_meeting (Serve name) = true
begins_meeting act = false

-- Whether the steps are those of a meeting script.
abbrev pub is_meeting : List Step → Bool
is_meeting [] = false
is_meeting (first ∷ steps) = begins_meeting first.act

-- Whether an act is one of those behind the first of a meeting script, or one of any other script.
abbrev pub belongs : (in_meeting : Bool) → Act → Bool
belongs true (Serve name) = false
belongs true (Generate streets) = false
belongs true (File name Import) = true
belongs true (File name purpose) = false
belongs true act = true
belongs false (Serve name) = false
belongs false (Editor n) = false
belongs false (Meet step) = false
belongs false act = true

-- Each act is one of those.
abbrev pub AllBelong : (in_meeting : Bool) → List Step → Type 0
AllBelong in_meeting [] = Unit {0}
AllBelong in_meeting (step ∷ steps) = (belongs in_meeting step.act ≡ true) × AllBelong in_meeting steps

-- whether an act may stand there
abbrev pub may_stand_at : Place → Act → Bool
may_stand_at Start act = begins_meeting act || (belongs false act && may_stand false act)
may_stand_at (Script is_inside) act = belongs false act && may_stand is_inside act
may_stand_at (Meeting is_inside) act = belongs true act && may_stand is_inside act

-- where the next act stands
abbrev pub place_after : Place → Act → Place
place_after Start act = if begins_meeting act then Meeting false else Script (inside_after false act)
place_after (Script is_inside) act = Script (inside_after is_inside act)
place_after (Meeting is_inside) act = Meeting (inside_after is_inside act)
