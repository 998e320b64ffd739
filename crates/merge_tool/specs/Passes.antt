-- What the passes of a merge give.
--
-- For example where w1 Nn1,n2 is told for the first time, the pass over what is told gives w1 its entry and names n1 and
-- n2, and the pass over these names lets n1 and n2 enter as Incomplete, unless they were told too. Where w1 was known in
-- that version it names nothing, since n1 and n2 are there.
use Rattle.std.specs.Prelude.{◌≡◌, ◌==◌, ◌&&◌, ◌||◌, ℕ, Bool, true, false, is_some, nat_lt, if◌then◌else◌, filter, List, ◌++◌, Option, Some, None}
use Rattle.std.specs.List.{list_any}
use Rattle.std.specs.Option.{option_map, option_map_or, option_and_then}
use Rattle.osm_base.specs.Rank.{is_key}
use Rattle.osm_base.specs.declared.content.Content.{Content}
use Rattle.osm_base.specs.declared.key.Key.{Key}
use Rattle.osm_table.specs.declared.entry.Why.TheVariants.{Held}
use Rattle.osm_table.specs.declared.entry.Base.{Base}
use Rattle.osm_table.specs.declared.entry.Entry.{Entry}
use Rattle.osm_table.specs.declared.entry.Entry.TheVariants.{Incomplete, Known}
use Rattle.osm_table.specs.Table.{TableValue, entry_of, with_entry, users, base_of, held_by, version_of}
use Rattle.osm_table.specs.Told.{ToldEntries, told_of}
use Rattle.dataset.specs.Exact.{mine_at}
use Rattle.merge_cases.specs.declared.verdict.Verdict.{Verdict}
use Rattle.merge_cases.specs.declared.verdict.Verdict.TheVariants.{Stay, Mention, Take, Clash, Keep, Candidate, Settle, Join, Dispute}
use Rattle.closure.specs.Closure.{has}
use Rattle.tool_api.specs.Staged.{stage_of, staged, verdict_at, theirs_at, theirs_told, is_candidate, is_clash, refs_by, against, bared}

-- a new entry, or none where the old one stays
abbrev pub Gives : Option Entry → Option Entry → Option Entry → Type 0
Gives old new None = new ≡ old
Gives old new (Some e) = new ≡ Some e

-- what a case makes of an entry and of what is told
abbrev pub CaseGives : Verdict → Option Entry → Entry → Option Entry → Type 0
CaseGives verdict old news new = Gives old (staged verdict old (theirs_told (told_of news))) new

-- whether a case leaves an object as it is
abbrev pub rests : Verdict → Bool
rests Stay = true
rests Mention = false
rests Take = false
rests Clash = false
rests Keep = false
rests Candidate = false
rests Settle = false
rests Join = false
rests Dispute = false

-- whether both are there, or neither
abbrev pub are_alike : Option Content → Option Content → Bool
are_alike None None = true
are_alike (Some known) (Some theirs) = true
are_alike known theirs = false

-- whether a version and what it holds say nothing new of an object whose known side is this one
abbrev pub says_nothing : Base → ℕ → Option Content → Bool
says_nothing known version theirs = nat_lt version (version_of known) || ((version == version_of known) && are_alike (held_by known) theirs)

-- the content of an entry that its case changes, and that is no candidate
abbrev pub renewed_mine : Verdict → Option Entry → Option Content
renewed_mine verdict entry = if rests verdict then None else (if is_candidate verdict then None else mine_at entry)

-- a table with a new entry, if there is one
abbrev pub noted : TableValue → Key → Option Entry → TableValue
noted u k None = u
noted u k (Some e) = with_entry u k e

-- a new entry, if there is one, to which something may refer
abbrev pub new_bared : Bool → Option Entry → Option Entry
new_bared named None = None
new_bared named (Some e) = bared named (Some e)

-- The keys so far have what comes after, all others what was before.
abbrev pub IsPassed : (Key → Option Entry) → (Key → Option Entry) → List Key → TableValue → Type 0
IsPassed before after ks u = (q : Key) → entry_of u q ≡ (if has is_key ks q then after q else before q)

-- whether an object lives, or no more is known than that it is at the server
abbrev pub is_there : Option Entry → Bool
is_there None = false
is_there (Some Incomplete) = true
is_there (Some (Known base mine conflict)) = is_some mine

-- whether an object is left as it is: nothing is told of it, or nothing new
abbrev pub is_resting : TableValue → ToldEntries → Key → Bool
is_resting t m k = rests (verdict_at t m k)

-- whether an object that is left as it is refers to the key
abbrev pub has_resting_user : TableValue → ToldEntries → Key → Bool
has_resting_user t m k = list_any (is_resting t m) (users t k)

-- the outcome of a key's case, Incomplete where it is gone on both sides and an object that is left as it is refers to it
abbrev pub early : TableValue → ToldEntries → Key → Option Entry
early t m k = bared (has_resting_user t m k) (stage_of t m k).entry

-- to what an object refers that its case changes, that lives and is no candidate
abbrev pub renewed_refs : TableValue → ToldEntries → Key → List Key
renewed_refs t m k = refs_by (renewed_mine (verdict_at t m k) (stage_of t m k).entry)

-- whether an object is a candidate to go
abbrev pub is_going : TableValue → ToldEntries → Key → Bool
is_going t m k = (stage_of t m k).candidate

-- whether one version of an object is told in two ways
abbrev pub is_clashing : TableValue → ToldEntries → Key → Bool
is_clashing t m k = is_clash (verdict_at t m k)

-- the candidates to which one of the names refers, or an object that is left as it is
abbrev pub held_starts : TableValue → ToldEntries → List Key → List Key → List Key → List Key
held_starts t m candidates names late = (filter (has is_key candidates) names ++ filter (has is_key candidates) late) ++ filter (has_resting_user t m) candidates

-- what is left of a candidate: it stays where it is held, else it goes
abbrev pub left : TableValue → ToldEntries → List Key → Key → Option Entry
left t m held k = if has is_key held k then option_map (against Held (theirs_at m k)) (entry_of t k) else Some (Known (theirs_at m k) None None)

-- the version of the base of an entry, if there is one, else 0
abbrev pub version_told : Option Entry → ℕ
version_told o = option_map_or version_of (option_and_then base_of o) 0
