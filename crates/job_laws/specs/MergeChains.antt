-- What comes back at a merge and what is held, said with no round: as the ends of chains.
--
-- For example w5 of n1 and n2 was deleted here with its nodes, and r1, which has w5 as a member, is told. Then w5 is wanted, and n1 and
-- n2, to which it leads. And where n3 and w6 that refers to it are told gone, and r2 that stays has w6 as a member, w6 is held, and n3.
use Rattle.osm_base.specs.declared.key.Key.{Key}
use Rattle.osm_table.specs.Table.{TableValue}
use Rattle.osm_table.specs.Told.{ToldEntries}
use Rattle.closure.specs.Closure.{Chain}
use Rattle.tool_api.specs.Staged.{stage_of}
use Rattle.tool_api.specs.Merged.{both_keys, held_leads, held_start, wanted_leads, wanted_start}

-- A chain of lost objects ends at the key: what lives and isn't about to go refers to the first, and each to the next.
abbrev pub EndsLost : TableValue → ToldEntries → Key → Type 0
EndsLost t m k = Chain (wanted_start (stage_of t m) (both_keys t m)) (wanted_leads (stage_of t m) (both_keys t m)) k

-- A chain of candidates ends there: what lives and isn't about to go, or comes back, refers to the first, and each to the next.
abbrev pub EndsCandidates : TableValue → ToldEntries → Key → Type 0
EndsCandidates t m k = Chain (held_start (stage_of t m) (both_keys t m)) (held_leads (stage_of t m) (both_keys t m)) k
