-- A query, read word by word.
use Rattle.std.proofs.Common.{ℕ, ◌+◌, nat_le, if◌then◌else◌, List, length, Option, None}
use Rattle.map_search.specs.declared.pending.Pending.{Pending}
use Rattle.map_search.specs.Query.{QueryValue}
use Rattle.map_search.specs.Reading.{read_on}

-- the query that is read with these words more, behind so many
abbrev pub Left : ℕ → List (List ℕ) → Option QueryValue → List Pending → Option QueryValue
Left n texts q waiting = if nat_le (n + length texts) 1000 then read_on texts q waiting else None
