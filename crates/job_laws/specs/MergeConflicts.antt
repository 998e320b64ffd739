-- Which objects a merge leaves in conflict, by what is here before and after it and by what is told.
--
-- For example n1 was moved here, and is told moved elsewhere in a newer version. The two don't join, so theirs stands against mine. Where
-- w5 wasn't changed here, and is told gone while a relation still refers to it, it is to go and lives all the same: it is in conflict.
-- And where w5 was deleted here and something that is told refers to it, it comes back, in conflict.
use Rattle.std.specs.Prelude.{ℕ, ◌==◌, ◌&&◌, ◌||◌, Bool, false, not, nat_lt, is_some, if◌then◌else◌, Option, Some, None}
use Rattle.std.specs.Option.{option_map_or}
use Rattle.osm_base.specs.declared.content.Content.{Content}
use Rattle.osm_table.specs.declared.entry.Base.{Base}
use Rattle.osm_table.specs.declared.entry.Conflict.{Conflict}
use Rattle.osm_table.specs.declared.entry.Entry.{Entry}
use Rattle.osm_table.specs.declared.entry.Entry.TheVariants.{Known}
use Rattle.osm_table.specs.declared.told.Told.{Told}
use Rattle.osm_table.specs.declared.told.Told.TheVariants.{Live, Gone}
use Rattle.osm_table.specs.Table.{held_by, version_of, known_base, is_changed}
use Rattle.osm_table.specs.Same.{same_mine}
use Rattle.dataset.specs.Exact.{mine_at}
use Rattle.merge_cases.specs.Case.{all_join, is_withdrawn}

-- what the server holds (nothing where it is gone), if it is told in a newer version than the known one
abbrev pub if_newer : ℕ → ℕ → Option Content → Option (Option Content)
if_newer known version theirs = if nat_lt version known || version == known then None else Some theirs

abbrev pub news_of : ℕ → Option Told → Option (Option Content)
news_of known (Some (Live version content meta)) = if_newer known version (Some content)
news_of known (Some (Gone version meta)) = if_newer known version None
news_of known told = None

-- Whether what is told newer stands against what is here. Against an object that came back, as long as the server holds it; against a
-- change, unless theirs is the same or both join; against nothing else.
abbrev pub disputes : Base → Option Content → Option Conflict → Option Content → Bool
disputes base mine conflict theirs =
    if is_withdrawn conflict then is_some theirs
    else is_changed (Known base mine conflict) && (not (same_mine mine theirs) && not (all_join (held_by base) mine theirs))

-- so does the conflict that it had, where nothing newer is told
abbrev pub stands_against : Option Entry → Option Told → Bool
stands_against (Some (Known base mine conflict)) told = option_map_or (disputes base mine conflict) (news_of (version_of (known_base base conflict)) told) (is_some conflict)
stands_against before told = false

-- whether it is told gone in a newer version, and came back here, or lives unchanged
abbrev pub goes : Base → Option Content → Option Conflict → Option Content → Bool
goes base mine conflict theirs = not (is_some theirs) && (is_withdrawn conflict || (is_some mine && not (is_changed (Known base mine conflict))))

abbrev pub is_to_go : Option Entry → Option Told → Bool
is_to_go (Some (Known base mine conflict)) told = option_map_or (goes base mine conflict) (news_of (version_of (known_base base conflict)) told) false
is_to_go before told = false

-- whether it was deleted here
abbrev pub is_deleted : Option Entry → Bool
is_deleted (Some (Known base None conflict)) = is_changed (Known base None conflict)
is_deleted before = false

-- Whether it is in conflict after the merge: it was to go and lives, theirs stands against mine, or it was deleted and lives.
abbrev pub ends_in_conflict : Option Entry → Option Told → Option Entry → Bool
ends_in_conflict before told after =
    if is_to_go before told then is_some (mine_at after)
    else stands_against before told || (is_deleted before && is_some (mine_at after))
