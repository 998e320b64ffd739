use Rattle.std.specs.Prelude.{ℕ}
use Rattle.opl_line.specs.declared.fault.LineFault.{LineFault}
use Rattle.opl_line.specs.declared.fault.LineFault.TheVariants.{BadStart, BadId, FieldTwice, UnknownField, BadNumber, BadText, BadTime, BadCoordinate, NoLocation, NoVersion, BadTags, BadRefs, BadMembers, WrongField, NegativeId}

-- The number by which a fault is told.
abbrev pub number_of : LineFault → ℕ
number_of BadStart = 1
number_of BadId = 2
number_of FieldTwice = 3
number_of UnknownField = 4
number_of BadNumber = 5
number_of BadText = 6
number_of BadTime = 7
number_of BadCoordinate = 8
number_of NoLocation = 9
number_of NoVersion = 10
number_of BadTags = 11
number_of BadRefs = 12
number_of BadMembers = 13
number_of WrongField = 14
number_of NegativeId = 15
