-- What is answered of a word or a line of a file that isn't OPL's.
use Rattle.std.specs.Prelude.{◌≡◌, Result, Ok, Err, Option, Some, None}
use Rattle.opl_line.specs.declared.fault.LineAnswer.{LineAnswer}
use Rattle.opl_line.specs.declared.fault.LineAnswer.TheVariants as answers
use Rattle.osm_base.specs.declared.text.TextFault.{TextFault}
use Rattle.osm_base.specs.declared.text.TextFault.TheVariants as texts
use Rattle.opl_file.specs.declared.unread.Unread.{Unread}
use Rattle.opl_file.specs.declared.unread.Unread.TheVariants.{Outside, Memory}

-- what was returned is what was read, unless memory ran out
abbrev pub Gives : {A : Type 0} → Result A Unread → Option A → Type 0
Gives (Ok x) read = read ≡ Some x
Gives (Err Outside) read = read ≡ None
Gives (Err Memory) read = Unit {0}

-- nothing was read, unless memory ran out
abbrev pub IsRefused : {A : Type 0} → Option A → Unread → Type 0
IsRefused read Outside = read ≡ None
IsRefused read Memory = Unit {0}

-- a line with a fault is outside the grammar
abbrev pub unread_line : LineAnswer → Unread
unread_line (answers.Bad fault) = Outside
unread_line answers.Memory = Memory

-- bytes that are no text are outside the grammar
abbrev pub unread_text : TextFault → Unread
unread_text texts.BadText = Outside
unread_text texts.Memory = Memory
