-- A reader that is fed piece after piece.
use Rattle.std.specs.Prelude.{◌≡◌, ℕ, List, [], ◌∷◌, ◌++◌}
use Rattle.opl_line.specs.declared.mode.Mode.{Mode}
use Rattle.opl_file.specs.declared.reader.Reader.{Reader}
use Rattle.opl_file.specs.Reading.{objects_of, finished_of}
use Rattle.opl_file.specs.Feeding.{reads_on, lends_on}

-- the bytes of all pieces
abbrev pub joined : List (List ℕ) → List ℕ
joined [] = []
joined (piece ∷ pieces) = piece ++ joined pieces

-- What `new` says of its reader: it reads and lends what a file does.
pub record Begins (mode : Mode) (limit : ℕ) (new : Reader) : Type 0 where
  pub reads : (bytes : List ℕ) → reads_on new bytes ≡ objects_of mode limit bytes
  pub lends : (bytes : List ℕ) → lends_on new bytes ≡ finished_of mode limit bytes

-- What a `feed` that found memory says: the piece stands before what comes.
pub record Feeds (old : Reader) (piece : List ℕ) (new : Reader) : Type 0 where
  pub reads : (more : List ℕ) → reads_on new more ≡ reads_on old (piece ++ more)
  pub lends : (more : List ℕ) → lends_on new more ≡ lends_on old (piece ++ more)

-- The last of the readers that one feed after the other made.
pub data Fed : Reader → List (List ℕ) → Reader → Type 0 where
  none : (reader : Reader) → Fed reader [] reader
  one_more : (old new last : Reader) (piece : List ℕ) (pieces : List (List ℕ)) → Feeds old piece new → Fed new pieces last → Fed old (piece ∷ pieces) last
