-- The answers that a server may give.
use Rattle.std.specs.Prelude.{◌≡◌, None, ◌≤◌, ◌+◌, ℤ, List, [], ◌∷◌}
use Rattle.osm_table.specs.Table.{TableValue, entry_of, IsPositive}
use Rattle.upload_order.specs.declared.change.Change.{Change}
use Rattle.upload_order.specs.declared.change.Change.TheVariants.{Create, Modify, Delete}
use Rattle.upload_order.specs.Rename.{Names, called, with_id}
use Rattle.upload_order.specs.World.{World, IsFresh}
use Rattle.upload_order.specs.Run.{AreFresh, pick_for, picks_left}
use Rattle.placeholder.specs.Confirmed.{confirmed, moved_change, named_by}

-- an object that is made gets the id of an object, and no version passes 2,000,000,000
abbrev pub IsWithin : Change → ℤ → Type 0
IsWithin (Create k c) id = IsPositive id
IsWithin (Modify k version c) id = version + 1 ≤ 2000000000
IsWithin (Delete k version) id = version + 1 ≤ 2000000000

-- An id that is given is new to the server and to the table, and all is within the limits.
abbrev pub IsAnswer : World → TableValue → Change → ℤ → Type 0
IsAnswer w t c id = IsFresh w t c id × IsWithin c id

abbrev pub AreWithin : List Change → List ℤ → Type 0
AreWithin [] ids = Unit {0}
AreWithin (c ∷ cs) ids = IsWithin c (pick_for c ids) × AreWithin cs (picks_left c ids)

-- Ids that are given are new to the server and to the table, no two for one kind are equal, and all is within the limits.
abbrev pub AreAnswers : World → TableValue → List Change → List ℤ → Type 0
AreAnswers w t cs ids = AreFresh w t cs ids × AreWithin cs ids

-- an object that is made gets an id under which nothing stands in the table
abbrev pub IsNewTo : TableValue → Change → ℤ → Type 0
IsNewTo t (Create k c) id = entry_of t (with_id k id) ≡ None
IsNewTo t (Modify k version c) id = Unit {0}
IsNewTo t (Delete k version) id = Unit {0}

abbrev pub AreNewFrom : Names → TableValue → List Change → List ℤ → Type 0
AreNewFrom names t [] ids = Unit {0}
AreNewFrom names t (c ∷ cs) ids =
    let id = pick_for c ids in
    IsNewTo t c id × AreNewFrom (named_by c id names) (confirmed t (moved_change (called names) c) id) cs (picks_left c ids)

-- Each id that is given is new to the table after the answers before it.
abbrev pub AreNew : TableValue → List Change → List ℤ → Type 0
AreNew t cs ids = AreNewFrom [] t cs ids
