-- What a merge does with one object, by what is known of it and what is told.
--
-- For example of a node that is known in version 1 and unchanged, and told live in version 2, what is told is taken. Is
-- it told gone, it is a candidate to go, and whether it goes is for the whole table to say.
use Rattle.std.specs.Prelude.{ℕ, ◌==◌, Bool, true, false, nat_lt, Option, Some, None, if◌then◌else◌}
use Rattle.osm_base.specs.declared.content.Content.{Content}
use Rattle.osm_table.specs.declared.entry.Base.{Base}
use Rattle.osm_table.specs.declared.entry.Why.{Why}
use Rattle.osm_table.specs.declared.entry.Why.TheVariants.{Changed, Held, Withdrawn}
use Rattle.osm_table.specs.declared.entry.Conflict.{Conflict}
use Rattle.osm_table.specs.declared.entry.Entry.{Entry}
use Rattle.osm_table.specs.declared.entry.Entry.TheVariants.{Incomplete, Known}
use Rattle.osm_table.specs.declared.told.Told.{Told}
use Rattle.osm_table.specs.declared.told.Told.TheVariants.{Mentioned, Live, Gone}
use Rattle.osm_table.specs.Table.{held_by, version_of, known_base, is_changed}
use Rattle.osm_table.specs.Same.{same_mine}
use Rattle.merge_cases.specs.declared.verdict.Verdict.{Verdict}
use Rattle.merge_cases.specs.declared.verdict.Verdict.TheVariants.{Stay, Mention, Take, Clash, Keep, Candidate, Settle, Join, Dispute}
use Rattle.merge_cases.specs.Join.{joins}

abbrev pub is_withdrawal : Why → Bool
is_withdrawal Changed = false
is_withdrawal Held = false
is_withdrawal Withdrawn = true

-- whether the conflict is that the object came back
abbrev pub is_withdrawn : Option Conflict → Bool
is_withdrawn None = false
is_withdrawn (Some conflict) = is_withdrawal conflict.why

-- One version is told: what is known and what is told are both live, or both gone.
abbrev pub same_version_case : Option Content → Option Content → Verdict
same_version_case None None = Stay
same_version_case (Some known) (Some theirs) = Stay
same_version_case known theirs = Clash

-- A newer version of an object that came back.
abbrev pub withdrawn_case : Option Content → Verdict
withdrawn_case None = Candidate
withdrawn_case (Some theirs) = Keep

-- A newer version of an object that isn't changed.
abbrev pub unchanged_case : Option Content → Option Content → Verdict
unchanged_case (Some mine) None = Candidate
unchanged_case mine theirs = Take

-- whether one content comes of the base's, mine and theirs, where all three stand
abbrev pub all_join : Option Content → Option Content → Option Content → Bool
all_join (Some base) (Some mine) (Some theirs) = joins base mine theirs
all_join base mine theirs = false

-- A newer version of an object that is changed.
abbrev pub changed_case : Option Content → Option Content → Option Content → Verdict
changed_case base mine theirs = if same_mine mine theirs then Settle else (if all_join base mine theirs then Join else Dispute)

-- A newer version.
abbrev pub newer_case : Base → Option Content → Option Conflict → Option Content → Verdict
newer_case base mine conflict theirs =
    if is_withdrawn conflict then withdrawn_case theirs
    else (if is_changed (Known base mine conflict) then changed_case (held_by base) mine theirs else unchanged_case mine theirs)

-- A version and what it holds (nothing where it is gone), of an object that is known.
abbrev pub known_case : Base → Option Content → Option Conflict → ℕ → Option Content → Verdict
known_case base mine conflict version theirs =
    if nat_lt version (version_of (known_base base conflict)) then Stay
    else (if version == version_of (known_base base conflict) then same_version_case (held_by (known_base base conflict)) theirs else newer_case base mine conflict theirs)

-- A version of any object.
abbrev pub version_case : Option Entry → ℕ → Option Content → Verdict
version_case None version theirs = Take
version_case (Some Incomplete) version theirs = Take
version_case (Some (Known base mine conflict)) version theirs = known_case base mine conflict version theirs

-- A mention of any object.
abbrev pub mention_case : Option Entry → Verdict
mention_case None = Mention
mention_case (Some entry) = Stay

-- The case of an object.
abbrev pub verdict_of : Option Entry → Told → Verdict
verdict_of entry Mentioned = mention_case entry
verdict_of entry (Live version content meta) = version_case entry version (Some content)
verdict_of entry (Gone version meta) = version_case entry version None
