-- A sound table, as a test: what `IsSound` of the data set asks of each entry and of its references.
use Rattle.std.specs.Prelude.{ℕ, ℤ, suc, pos, negsuc, Bool, true, false, not, ◌&&◌, ◌||◌, nat_le, nat_lt, is_some, List, Option, Some, None}
use Rattle.std.specs.List.{list_all, find}
use Rattle.osm_base.specs.Number.{id_test}
use Rattle.osm_base.specs.Rank.{is_key}
use Rattle.osm_base.specs.Content.{refs_of, kind_of_content, fits}
use Rattle.osm_base.specs.declared.key.Key.{Key}
use Rattle.osm_base.specs.declared.content.Content.{Content}
use Rattle.osm_table.specs.Same.{same_mine, same_base}
use Rattle.osm_table.specs.Table.{TableValue, entry_of, keys_by_rank, mine_of, held_by, version_of, is_changed}
use Rattle.osm_table.specs.declared.entry.Base.{Base}
use Rattle.osm_table.specs.declared.entry.Base.TheVariants.{New, Live, Gone}
use Rattle.osm_table.specs.declared.entry.Why.{Why}
use Rattle.osm_table.specs.declared.entry.Why.TheVariants.{Changed, Held, Withdrawn}
use Rattle.osm_table.specs.declared.entry.Conflict.{Conflict}
use Rattle.osm_table.specs.declared.entry.Entry.{Entry}
use Rattle.osm_table.specs.declared.entry.Entry.TheVariants.{Incomplete, Known}

abbrev pub is_positive : ℤ → Bool
is_positive (pos n) = id_test n
is_positive (negsuc n) = false

abbrev pub is_given : ℕ → ℤ → Bool
is_given next (pos n) = false
is_given next (negsuc n) = nat_lt (suc n) next

abbrev pub is_version : ℕ → Bool
is_version version = nat_le 1 version && nat_le version 2000000000

abbrev pub has_version : Base → Bool
has_version New = true
has_version (Live version content meta) = is_version version
has_version (Gone version meta) = is_version version

abbrev pub is_live : Base → Bool
is_live New = false
is_live (Live version content meta) = true
is_live (Gone version meta) = false

abbrev pub is_gone : Base → Bool
is_gone New = false
is_gone (Live version content meta) = false
is_gone (Gone version meta) = true

-- a content of the key's kind
abbrev pub of_kind : Key → Option Content → Bool
of_kind key None = true
of_kind key (Some c) = is_key (record { kind = kind_of_content c; id = key.id }) key

-- references to positive ids alone
abbrev pub from_server : Option Content → Bool
from_server None = true
from_server (Some c) = list_all (λ r. is_positive r.id) (refs_of c)

-- what a server told
abbrev pub told_fits : Key → Base → Bool
told_fits key base = of_kind key (held_by base) && from_server (held_by base) && has_version base

abbrev pub id_fits : ℕ → Key → Base → Option Content → Option Conflict → Bool
id_fits next key New mine conflict = is_given next key.id && is_some mine && not (is_some conflict)
id_fits next key (Live version content meta) mine conflict = is_positive key.id
id_fits next key (Gone version meta) mine conflict = is_positive key.id

abbrev pub why_fits : Why → Base → Base → Option Content → Bool
why_fits Changed theirs base mine = nat_lt (version_of base) (version_of theirs) && not (same_mine mine (held_by base)) && not (same_mine mine (held_by theirs))
why_fits Held theirs base mine = is_live base && same_mine mine (held_by base) && is_gone theirs && nat_lt (version_of base) (version_of theirs)
why_fits Withdrawn theirs base mine = is_live base && same_mine mine (held_by base) && same_base theirs base

abbrev pub conflict_fits : Key → Base → Option Content → Option Conflict → Bool
conflict_fits key base mine None = true
conflict_fits key base mine (Some c) = told_fits key c.theirs && why_fits c.why c.theirs base mine

-- what is changed and living fits into the limits
abbrev pub limits_fit : Bool → Option Content → Bool
limits_fit changed None = true
limits_fit changed (Some c) = not changed || fits c

-- one entry by itself
abbrev pub is_sound_entry : ℕ → Key → Entry → Bool
is_sound_entry next key Incomplete = is_positive key.id
is_sound_entry next key (Known base mine conflict) = id_fits next key base mine conflict && told_fits key base && of_kind key mine && conflict_fits key base mine conflict && limits_fit (is_changed (Known base mine conflict)) mine

-- living or Incomplete
abbrev pub is_there : Option Entry → Bool
is_there None = false
is_there (Some Incomplete) = true
is_there (Some (Known base mine conflict)) = is_some mine

-- the references of what lives are there
abbrev pub refs_there : TableValue → Option Content → Bool
refs_there t None = true
refs_there t (Some c) = list_all (λ r. is_there (entry_of t r)) (refs_of c)

abbrev pub is_sound_at : TableValue → Key → Entry → Bool
is_sound_at t key e = is_sound_entry t.next key e && refs_there t (mine_of e)

-- whether an entry breaks a condition
abbrev pub breaks : TableValue → Key → Option Entry → Bool
breaks t key None = false
breaks t key (Some e) = not (is_sound_at t key e)

abbrev pub is_unsound : TableValue → Key → Bool
is_unsound t key = breaks t key (entry_of t key)

-- the first of these keys whose entry breaks a condition
abbrev pub first_unsound : TableValue → List Key → Option Key
first_unsound t keys = find (is_unsound t) keys

-- The least key whose entry breaks a condition of a sound table.
abbrev pub least_unsound : TableValue → Option Key
least_unsound t = first_unsound t (keys_by_rank t)
