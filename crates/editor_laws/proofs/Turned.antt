-- Wrong definitions that the laws refuse (in `Refused`), and what would be too weak to refuse them.
--
-- For example a merge takes what others made as the base, leaves mine as it is and makes no conflict. The next upload would take
-- their change back.
use Rattle.std.specs.Prelude.{◌≡◌, ◌⊎◌, true, IsSome, Option, Some, None}
use Rattle.std.specs.Option.{option_map}
use Rattle.osm_base.specs.declared.key.Key.{Key}
use Rattle.osm_base.specs.declared.content.Content.{Content}
use Rattle.osm_table.specs.declared.entry.Base.{Base}
use Rattle.osm_table.specs.declared.entry.Base.TheVariants.{New, Live}
use Rattle.osm_table.specs.declared.entry.Entry.{Entry}
use Rattle.osm_table.specs.declared.entry.Entry.TheVariants.{Incomplete, Known}
use Rattle.osm_table.specs.declared.told.Told.{Told}
use Rattle.osm_table.specs.Table.{TableValue, entry_of, held_by, known_base}
use Rattle.osm_table.specs.Told.{ToldEntries}
use Rattle.merge_cases.specs.declared.verdict.Verdict.{Verdict}
use Rattle.merge_cases.specs.declared.verdict.Verdict.TheVariants.{Stay, Mention, Take, Clash, Keep, Candidate, Settle, Join, Dispute}
use Rattle.tool_api.specs.Staged.{Staged, staged, theirs_at, verdict_at, is_candidate, all_joined}
use Rattle.tool_api.specs.Merged.{both_keys, final}
use Rattle.editor_laws.specs.Kept.{wish, is_gone_there, IsWished}

-- theirs as the base, mine as it is, and no conflict
abbrev pub rebased : Base → Entry → Entry
rebased theirs Incomplete = Incomplete
rebased theirs (Known base mine conflict) = Known theirs mine None

-- What a case makes of an entry, where a dispute is turned into that.
abbrev pub turned : Verdict → Option Entry → Base → Option Entry
turned Stay entry theirs = staged Stay entry theirs
turned Mention entry theirs = staged Mention entry theirs
turned Take entry theirs = staged Take entry theirs
turned Clash entry theirs = staged Clash entry theirs
turned Keep entry theirs = staged Keep entry theirs
turned Candidate entry theirs = staged Candidate entry theirs
turned Settle entry theirs = staged Settle entry theirs
turned Join entry theirs = staged Join entry theirs
turned Dispute entry theirs = option_map (rebased theirs) entry

abbrev pub turned_stage : TableValue → ToldEntries → Key → Staged
turned_stage t m k = record {
  entry = turned (verdict_at t m k) (entry_of t k) (theirs_at m k);
  candidate = is_candidate (verdict_at t m k);
  theirs = theirs_at m k;
}

-- what a key has in the end
abbrev pub turned_at : TableValue → ToldEntries → Key → Option Entry
turned_at t m k = final (turned_stage t m) (both_keys t m) k

-- An entry whose base is mine, though nobody told so: no upload sends it.
abbrev pub base_with : Base → Option Content → Base
base_with New mine = New
base_with (Live version content meta) (Some mine) = Live version mine meta
base_with base mine = base

abbrev pub made_base : Entry → Entry
made_base Incomplete = Incomplete
made_base (Known base mine conflict) = Known (base_with base mine) mine None

-- Weaker than `IsJoined` of `Kept`: nobody need have told of the base.
abbrev pub HasJoined : Entry → Option Entry → Type 0
HasJoined (Known base mine conflict) (Some (Known theirs after None)) = IsSome after × (after ≡ all_joined (held_by base) mine (held_by theirs))
HasJoined e after = ⊥

-- Weaker than `IsAtServer`: so it is here, and mine is free.
abbrev pub IsHeldBy : Option Told → Entry → Option Entry → Type 0
IsHeldBy told e None = ⊥
IsHeldBy told e (Some Incomplete) = (wish (Some e) ≡ None) × (is_gone_there told e ≡ true)
IsHeldBy told e (Some (Known base mine conflict)) = held_by (known_base base conflict) ≡ wish (Some e)

-- Weaker than `Keeps`: the content is kept, and need not be sent.
abbrev pub KeepsContent : Option Told → Entry → Option Entry → Type 0
KeepsContent told e after = IsWished (wish (Some e)) after ⊎ (HasJoined e after ⊎ IsHeldBy told e after)
