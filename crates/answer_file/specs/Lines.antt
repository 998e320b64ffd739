-- The answer that a line gives.
--
-- For example `create n-1 n50 v1` tells that the object of the placeholder n-1 was made and is n50, `modify w5 v4` that w5 has
-- the version 4 now, and `delete r9 v2` that r9 is gone with the version 2. The lines `create n-1 w50 v1` and `modify w5 v04`
-- give no answer.
use Rattle.std.specs.Prelude.{ℕ, ℤ, Bool, ◌==◌, ◌||◌, nat_lt, if◌then◌else◌, codes, List, [], ◌∷◌, slice_index, Option, Some, None}
use Rattle.std.specs.Str.{bytes_eq}
use Rattle.osm_base.specs.Number.{key_text, number_text}
use Rattle.osm_base.specs.declared.key.Key.{Key}
use Rattle.osm_base.specs.Rank.{is_key}
use Rattle.opl_text.specs.Time.{◌>>=◌}
use Rattle.edit_script.specs.Grammar.{by_first, word}
use Rattle.edit_script.specs.Items.{alone, words_of, behind}
use Rattle.edit_script.specs.Script.{has_outer_blank}
use Rattle.upload_order.specs.Rename.{with_id}
use Rattle.placeholder.specs.declared.answer.Answer.{Answer}
use Rattle.placeholder.specs.declared.answer.Answer.TheVariants as answer

abbrev pub begins_with_0 : List ℕ → Bool
begins_with_0 digits = slice_index digits 0 == 48

-- `v` and a number of 1 to 10 digits without leading zeros, at most 2,000,000,000
unfoldable pub version_word : List ℕ → Option ℕ
version_word text = do
  digits ← behind 118 text
  version ← number_text 10 digits
  if begins_with_0 digits || nat_lt 2000000000 version then None else Some version

-- whether an object that is made as a key may be the other key: they have one kind
abbrev pub has_kind_of : Key → Key → Bool
has_kind_of placeholder key = is_key key (with_id placeholder key.id)

-- the id of an object of the placeholder's kind
unfoldable pub id_word : Key → List ℕ → Option ℤ
id_word placeholder text = key_text text >>= λ key. if has_kind_of placeholder key then Some key.id else None

-- `v1`
abbrev pub first_version : List ℕ → Option ℕ
first_version text = if bytes_eq text (codes "v1") then Some 1 else None

-- the words with which answers begin
abbrev pub all_answers : List (List ℕ × (List (List ℕ) → Option Answer))
all_answers =
    (codes "create", word key_text (λ old. word (id_word old) (λ id. word first_version (λ version. alone (answer.Create old id)))))
    ∷ (codes "modify", word key_text (λ key. word version_word (λ version. alone (answer.Modify key version))))
    ∷ (codes "delete", word key_text (λ key. word version_word (λ version. alone (answer.Delete key version))))
    ∷ []

-- The answer that a line without its CR gives; none where it is no answer.
abbrev pub answer_of : List ℕ → Option Answer
answer_of line = if has_outer_blank line then None else by_first all_answers (words_of line)
