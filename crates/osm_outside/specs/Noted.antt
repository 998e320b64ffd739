-- What the notes of a shelf say of a run: which files were begun, and what had been written before each.
--
-- For example where a run writes x, begins the file f, writes y and begins g, its reads are f with x, and g with x and y. The
-- shelf noted these, unless it was asked for g before y was handed to the sink.
use Rattle.std.specs.Prelude.{◌≡◌, ℕ, List, [], ◌∷◌, ◌++◌, take, Option, None, Some}
use Rattle.std.specs.Io.KnownBytes.{Appends}
use Rattle.osm_outside.specs.Outside.{Note}

-- A read of a run: the name of the file, and all the text that the run had written before it.
abbrev pub Read : Type 0
Read = List ℕ × List ℕ

-- Each note is that of a read, in this order, of a run that began when the sink had taken this.
abbrev pub AreNotes : Option (List ℕ) → List Note → List Read → Type 0
AreNotes taken [] [] = Unit {0}
AreNotes taken (note ∷ notes) (read ∷ reads) = (note.0 ≡ read.0) × Appends taken note.1 read.1 × AreNotes taken notes reads
AreNotes taken notes reads = ⊥

-- The shelf noted these reads, and no others, behind what it had noted before.
pub record Noted (taken : Option (List ℕ)) (old new : List Note) (reads : List Read) : Type 0 where
  pub notes : List Note
  pub behind : new ≡ old ++ notes
  pub are : AreNotes taken notes reads

-- It noted the first of them.
pub record NotedFirst (taken : Option (List ℕ)) (old new : List Note) (reads : List Read) : Type 0 where
  pub count : ℕ
  pub noted : Noted taken old new (take count reads)

-- the note of a call, where there is one
abbrev pub note_of : Option (List ℕ) → Option (List ℕ) → List Note
note_of None taken = []
note_of (Some name) taken = (name, taken) ∷ []

-- a read, where there is one
abbrev pub read_of : Option (List ℕ) → List ℕ → List Read
read_of None before = []
read_of (Some name) before = (name, before) ∷ []

-- The reads of steps, each of which begins at most one file and then writes its text, behind what was written before them.
abbrev pub reads_in : {X : Type 0} → (begins : X → Option (List ℕ)) (text : X → List ℕ) (before : List ℕ) → List X → List Read
reads_in begins text before [] = []
reads_in begins text before (step ∷ steps) = read_of (begins step) before ++ reads_in begins text (before ++ text step) steps
