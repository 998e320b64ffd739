-- What is answered of what was read.
use Rattle.std.specs.Prelude.{◌≡◌, List, Result, Ok, Err, Option, Some, None}
use Rattle.opl_line.specs.declared.fault.LineAnswer.{LineAnswer}
use Rattle.opl_line.specs.declared.fault.LineAnswer.TheVariants as answers
use Rattle.map_search.specs.declared.fault.QueryFault.{QueryFault}
use Rattle.map_search.specs.declared.fault.QueryFault.TheVariants as faults
use Rattle.map_search.specs.declared.pending.Pending.{Pending}
use Rattle.map_search.specs.Query.{QueryValue}
use Rattle.map_search.specs.Reading.{State}

-- what was returned is what was read, and nothing was read where it is refused, unless memory ran out
abbrev pub Gives : {A : Type 0} → Result A QueryFault → Option A → Type 0
Gives (Ok x) read = read ≡ Some x
Gives (Err faults.BadQuery) read = read ≡ None
Gives (Err faults.Memory) read = Unit {0}

-- what was returned is the query behind a word, with what waits, unless memory ran out
abbrev pub Reads : Result (Option QueryValue) QueryFault → List Pending → Option State → Type 0
Reads (Ok q) waiting read = read ≡ Some (record { query = q; waiting = waiting })
Reads (Err faults.BadQuery) waiting read = read ≡ None
Reads (Err faults.Memory) waiting read = Unit {0}

-- a field with a fault is no word of a query
abbrev pub fault_of_field : LineAnswer → QueryFault
fault_of_field (answers.Bad fault) = faults.BadQuery
fault_of_field answers.Memory = faults.Memory
