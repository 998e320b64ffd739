-- What a merge makes of one object by its case, before it is said over all objects which of them come back or stay.
--
-- For example of a way that is changed here and told in a newer version that changes other tags, the stage has the
-- told version as base and the joined content as mine.
use Rattle.std.specs.Prelude.{◌&&◌, Bool, true, false, not, is_some, if◌then◌else◌, List, [], Option, Some, None}
use Rattle.std.specs.Option.{option_map, option_map_or}
use Rattle.std.specs.FinMap as fin
use Rattle.osm_base.specs.Content.{refers, refs_of}
use Rattle.osm_base.specs.declared.key.Key.{Key}
use Rattle.osm_base.specs.declared.content.Content.{Content}
use Rattle.osm_table.specs.declared.entry.Base.{Base}
use Rattle.osm_table.specs.declared.entry.Base.TheVariants as base
use Rattle.osm_table.specs.declared.entry.Why.{Why}
use Rattle.osm_table.specs.declared.entry.Why.TheVariants.{Changed, Withdrawn}
use Rattle.osm_table.specs.declared.entry.Entry.{Entry}
use Rattle.osm_table.specs.declared.entry.Entry.TheVariants.{Incomplete, Known}
use Rattle.osm_table.specs.declared.told.Told.{Told}
use Rattle.osm_table.specs.declared.told.Told.TheVariants as told
use Rattle.osm_table.specs.Table.{TableValue, entry_of, held_by, known_base}
use Rattle.osm_table.specs.Told.{ToldEntries}
use Rattle.merge_cases.specs.declared.verdict.Verdict.{Verdict}
use Rattle.merge_cases.specs.declared.verdict.Verdict.TheVariants.{Stay, Mention, Take, Clash, Keep, Candidate, Settle, Join, Dispute}
use Rattle.merge_cases.specs.Case.{verdict_of}
use Rattle.merge_cases.specs.Join.{joined}

-- the case of a key; one of which nothing is told stays
abbrev pub verdict_at : TableValue → ToldEntries → Key → Verdict
verdict_at t m k = option_map_or (verdict_of (entry_of t k)) (fin.get m k) Stay

-- theirs: what the server is told to have, as a base
abbrev pub theirs_told : Told → Base
theirs_told told.Mentioned = base.New
theirs_told (told.Live version content meta) = base.Live version content meta
theirs_told (told.Gone version meta) = base.Gone version meta

abbrev pub theirs_at : ToldEntries → Key → Base
theirs_at m k = option_map_or theirs_told (fin.get m k) base.New

-- theirs alone
abbrev pub taken : Base → Entry
taken theirs = Known theirs (held_by theirs) None

-- base and mine, in conflict with theirs
abbrev pub against : Why → Base → Entry → Entry
against why theirs Incomplete = Incomplete
against why theirs (Known base mine conflict) = Known base mine (Some (record { why = why; theirs = theirs }))

-- an object that came back
abbrev pub withdrawn : Base → Entry
withdrawn theirs = Known theirs (held_by theirs) (Some (record { why = Withdrawn; theirs = theirs }))

-- the content that comes of three
abbrev pub all_joined : Option Content → Option Content → Option Content → Option Content
all_joined (Some base) (Some mine) (Some theirs) = joined base mine theirs
all_joined base mine theirs = None

-- mine joined with theirs
abbrev pub with_theirs : Base → Entry → Entry
with_theirs theirs Incomplete = Incomplete
with_theirs theirs (Known base mine conflict) = Known theirs (all_joined (held_by base) mine (held_by theirs)) None

-- What a case makes of an entry. A candidate's stays for the time.
abbrev pub staged : Verdict → Option Entry → Base → Option Entry
staged Mention entry theirs = Some Incomplete
staged Take entry theirs = Some (taken theirs)
staged Keep entry theirs = Some (withdrawn theirs)
staged Settle entry theirs = Some (taken theirs)
staged Join entry theirs = option_map (with_theirs theirs) entry
staged Dispute entry theirs = option_map (against Changed theirs) entry
staged verdict entry theirs = entry

abbrev pub is_candidate : Verdict → Bool
is_candidate Stay = false
is_candidate Mention = false
is_candidate Take = false
is_candidate Clash = false
is_candidate Keep = false
is_candidate Candidate = true
is_candidate Settle = false
is_candidate Join = false
is_candidate Dispute = false

abbrev pub is_clash : Verdict → Bool
is_clash Stay = false
is_clash Mention = false
is_clash Take = false
is_clash Clash = true
is_clash Keep = false
is_clash Candidate = false
is_clash Settle = false
is_clash Join = false
is_clash Dispute = false

-- an object between its case and what is said over all
pub record Staged : Type 0 where
  pub entry : Option Entry
  pub candidate : Bool
  pub theirs : Base

-- the stage of a key
abbrev pub stage_of : TableValue → ToldEntries → Key → Staged
stage_of t m k = record {
  entry = staged (verdict_at t m k) (entry_of t k) (theirs_at m k);
  candidate = is_candidate (verdict_at t m k);
  theirs = theirs_at m k;
}

-- what the known side holds, where the entry doesn't live: an object that was lost here
abbrev pub lost_of : Option Entry → Option Content
lost_of (Some (Known base None conflict)) = held_by (known_base base conflict)
lost_of e = None

-- whether the entry is known and doesn't live
abbrev pub is_dead : Entry → Bool
is_dead (Known base None conflict) = true
is_dead e = false

-- whether a content, if there is one, refers to the key
abbrev pub refers_by : Option Content → Key → Bool
refers_by content k = option_map_or (λ c. refers c k) content false

-- to what it refers
abbrev pub refs_by : Option Content → List Key
refs_by content = option_map_or refs_of content []

-- a lost object that is wanted: it comes back as its known side
abbrev pub back : Entry → Entry
back Incomplete = Incomplete
back (Known base mine conflict) = withdrawn (known_base base conflict)

-- What an object that lives in the end refers to: one that isn't there enters as Incomplete, and so does one that is
-- gone on both sides.
abbrev pub bared : Bool → Option Entry → Option Entry
bared named None = if named then Some Incomplete else None
bared named (Some e) = if is_dead e && (named && not (is_some (lost_of (Some e)))) then Some Incomplete else Some e
