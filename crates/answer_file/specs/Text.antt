-- The text of a server's answers.
--
-- For example the text of the answers to a Create of n-1, which became n50, and to a Modify of w5 with the version 3 is
-- `create n-1 n50 v1` and `modify w5 v4`, each a line.
use Rattle.std.specs.Prelude.{ℕ, codes, List, [], ◌∷◌, ◌++◌, decimal}
use Rattle.osm_base.specs.Number.{key_written}
use Rattle.opl_line.specs.Written.{spaced}
use Rattle.upload_order.specs.Rename.{with_id}
use Rattle.placeholder.specs.declared.answer.Answer.{Answer}
use Rattle.placeholder.specs.declared.answer.Answer.TheVariants.{Create, Modify, Delete}

-- the line of an answer: its words with single spaces between them
abbrev pub line_of : Answer → List ℕ
line_of (Create placeholder id) = codes "create" ++ spaced (key_written placeholder ∷ key_written (with_id placeholder id) ∷ codes "v1" ∷ [])
line_of (Modify key version) = codes "modify" ++ spaced (key_written key ∷ (118 ∷ decimal version) ∷ [])
line_of (Delete key version) = codes "delete" ++ spaced (key_written key ∷ (118 ∷ decimal version) ∷ [])

-- The text of answers: each one's line, ended by LF.
abbrev pub text_of : List Answer → List ℕ
text_of [] = []
text_of (answer ∷ answers) = line_of answer ++ 10 ∷ text_of answers
