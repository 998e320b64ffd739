-- The lines of an upload in chunks.
--
-- For example two deletions in chunks of one are these lines: upload changes 2 chunks 2, chunk 1 of 2, delete w5 v3,
-- chunk 2 of 2, delete n7 v1.
--
-- The law `chunks_are_told` says that `chunks` has these lines, so how they are put together needn't be known.
use Rattle.std.specs.Prelude.{ℕ, ◌+◌, ◌/◌, ◌%◌, ◌==◌, if◌then◌else◌, List, [], ◌∷◌, ◌++◌, length, Some, codes, decimal}
use Rattle.std.specs.List.{flat_map}
use Rattle.osm_base.specs.Meta.{empty_meta}
use Rattle.osm_base.specs.Number.{key_written}
use Rattle.opl_line.specs.Written.{written}
use Rattle.upload_order.specs.declared.change.Change.{Change}
use Rattle.upload_order.specs.declared.change.Change.TheVariants.{Create, Modify, Delete}
use Rattle.chunking.specs.Chunks.{chunk_count}

-- the line of a change: an object that is made has version 0, every other one the version that the change names
abbrev pub told_change : Change → List ℕ
told_change (Create k c) = codes "create " ++ written k 0 (Some c) empty_meta
told_change (Modify k version c) = codes "modify " ++ written k version (Some c) empty_meta
told_change (Delete k version) = codes "delete " ++ (key_written k ++ (codes " v" ++ decimal version))

-- two words, each with its number
abbrev pub numbered : List ℕ → ℕ → List ℕ → ℕ → List ℕ
numbered first m second n = first ++ (decimal m ++ (second ++ decimal n))

-- the lines of the changes from a place on; a chunk begins at each place that the size divides
abbrev pub told_lines : ℕ → ℕ → ℕ → List Change → List (List ℕ)
told_lines size chunks at [] = []
told_lines size chunks at (c ∷ cs) =
    (if at % size == 0 then numbered (codes "chunk ") (at / size + 1) (codes " of ") chunks ∷ [] else []) ++ told_change c ∷ told_lines size chunks (at + 1) cs

-- The text of an upload in chunks of a size: the first line, and those of all changes, each ended by LF.
abbrev pub told_text : List Change → ℕ → List ℕ
told_text cs size =
    let chunks = chunk_count (length cs) size in
    flat_map (λ line. line ++ 10 ∷ []) (numbered (codes "upload changes ") (length cs) (codes " chunks ") chunks ∷ told_lines size chunks 0 cs)
