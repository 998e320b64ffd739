-- The text of an upload has the lines that are told.
use Rattle.std.proofs.Common.{◌≡◌, ℕ, ◌+◌, ◌/◌, ◌%◌, Bool, true, false, cond, codes, decimal, List, [], ◌∷◌, ◌++◌, length, refl, sym, ap, ◌∙◌, append-nil}
use Rattle.std.specs.Prelude.{◌↔◌, ◌==◌}
use Rattle.std.specs.List.{flat_map}
use Rattle.std.proofs.lemmas.Grind.{flat_map-append}
use Rattle.std.proofs.lemmas.List.{append_assoc}
use Rattle.osm_base.specs.Number.{key_written}
use Rattle.upload_order.specs.declared.change.Change.{Change}
use Rattle.upload_order.specs.declared.change.Change.TheVariants.{Create, Modify, Delete}
use Rattle.chunking.specs.Chunks.{change_text, changes_text, chunk_count, chunk_line, chunks, head_text, part}
use Rattle.chunking.specs.Told.{numbered, told_change, told_lines, told_text}

abbrev ended : List ℕ → List ℕ
ended line = line ++ 10 ∷ []

change_told : (c : Change) → ended (told_change c) ≡ change_text c
change_told (Create k c) = refl
change_told (Modify k version c) = refl
change_told (Delete k version) = ap (λ (text : List ℕ). codes "delete " ++ text) (append_assoc (key_written k) (codes " v" ++ decimal version) (10 ∷ []))

numbers_told : (first : List ℕ) (m : ℕ) (second : List ℕ) (n : ℕ) → ended (numbered first m second n) ≡ part first m ++ (part second n ++ 10 ∷ [])
unfolding part
numbers_told first m second n =
    append_assoc first (decimal m ++ (second ++ decimal n)) (10 ∷ [])
    ∙ ap (λ (text : List ℕ). first ++ text) (append_assoc (decimal m) (second ++ decimal n) (10 ∷ []))
    ∙ sym (append_assoc first (decimal m) ((second ++ decimal n) ++ 10 ∷ []))

head_told : (b : Bool) (number chunks : ℕ) → flat_map ended (cond b (numbered (codes "chunk ") number (codes " of ") chunks ∷ []) []) ≡ cond b (chunk_line number chunks) []
head_told true number chunks = append-nil _ ∙ numbers_told (codes "chunk ") number (codes " of ") chunks
head_told false number chunks = refl

lines_told : (size all at : ℕ) (cs : List Change) → flat_map ended (told_lines size all at cs) ≡ changes_text size all at cs
lines_told size all at [] = refl
lines_told size all at (c ∷ cs) =
    flat_map-append ended (cond (at % size == 0) (numbered (codes "chunk ") (at / size + 1) (codes " of ") all ∷ []) []) (told_change c ∷ told_lines size all (at + 1) cs)
    ∙ (λ i. head_told (at % size == 0) (at / size + 1) all i ++ (change_told c i ++ lines_told size all (at + 1) cs i))
    ∙ sym (append_assoc (head_text size all at) (change_text c) (changes_text size all (at + 1) cs))

text_told : (cs : List Change) (size : ℕ) → told_text cs size ≡ chunks cs size
text_told cs size = λ i.
    numbers_told (codes "upload changes ") (length cs) (codes " chunks ") (chunk_count (length cs) size) i
    ++ lines_told size (chunk_count (length cs) size) 0 cs i

pub told_exactly : (cs : List Change) (size : ℕ) (answer : List ℕ) → (chunks cs size ≡ answer) ↔ (told_text cs size ≡ answer)
told_exactly cs size answer = (λ e. text_told cs size ∙ e, λ e. sym (text_told cs size) ∙ e)
