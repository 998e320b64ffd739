-- What is written of a head or a header is read again.
use Rattle.std.proofs.Common.{◌≡◌, ℕ, ◌≤◌, true, false, List, ◌∷◌, ◌++◌, Option, Some, None, refl, arith}
use Rattle.std.specs.Str.{bytes_eq}
use Rattle.std.proofs.lemmas.Slice.Eq.{bytes_eq-Decides}
use Rattle.std.proofs.lemmas.Bool.Decides.{nat_tests}
use Rattle.osm_base.specs.Number.{IsId, key_written, id_test}
use Rattle.osm_base.specs.declared.key.Key.{Key}
use Rattle.osm_base.proofs.KeyLaw.{key_again, number_again, id_small}
use Rattle.osm_table.specs.declared.entry.Why.{Why}
use Rattle.osm_table.specs.declared.entry.Why.TheVariants.{Changed, Held, Withdrawn}
use Rattle.opl_line.specs.Field.{is}
use Rattle.opl_line.proofs.Unbroken.{Unbroken, before_mark, after_mark, key_unbroken}
use Rattle.saved_session.specs.Words.{base_written, base_text, mine_written, mine_text, why_written, why_text, words_written, words_text, known_text, incomplete_text, head_text, head_of, head_written, header_text, header_of, header_written}
use Rattle.saved_session.specs.declared.words.BaseWord.{BaseWord}
use Rattle.saved_session.specs.declared.words.BaseWord.TheVariants.{New, Live, Gone}
use Rattle.saved_session.specs.declared.words.MineWord.{MineWord}
use Rattle.saved_session.specs.declared.words.MineWord.TheVariants.{Same, Absent, Own}
use Rattle.saved_session.specs.declared.words.Words.{Words}
use Rattle.saved_session.specs.declared.words.Head.{Head}
use Rattle.saved_session.specs.declared.words.Head.TheVariants.{Incomplete, Known, End}

pub same_bytes : (xs : List ℕ) → bytes_eq xs xs ≡ true
same_bytes xs = (bytes_eq-Decides xs xs).1 refl

-- ---- three words, one after the other

base_again : (word : BaseWord) → base_text (base_written word) ≡ Some word
unfolding base_text
base_again New = refl
base_again Live = refl
base_again Gone = refl

mine_again : (word : MineWord) → mine_text (mine_written word) ≡ Some word
unfolding mine_text
mine_again Same = refl
mine_again Absent = refl
mine_again Own = refl

why_again : (why : Option Why) → why_text (why_written why) ≡ Some why
unfolding why_text
why_again None = refl
why_again (Some Changed) = refl
why_again (Some Held) = refl
why_again (Some Withdrawn) = refl

base_whole : (word : BaseWord) → Unbroken (is 32) (base_written word)
base_whole New = (refl, (refl, (refl, tt)))
base_whole Live = (refl, (refl, (refl, (refl, tt))))
base_whole Gone = (refl, (refl, (refl, (refl, tt))))

mine_whole : (word : MineWord) → Unbroken (is 32) (mine_written word)
mine_whole Same = (refl, (refl, (refl, (refl, tt))))
mine_whole Absent = (refl, (refl, (refl, (refl, tt))))
mine_whole Own = (refl, (refl, (refl, tt)))

words_again : (w : Words) → words_text (words_written w) ≡ Some w
unfolding words_text
words_again w =
    let rest = mine_written w.mine ++ 32 ∷ why_written w.why in
    rw (
      before_mark (is 32) (base_written w.base) 32 rest refl (base_whole w.base),
      after_mark (is 32) (base_written w.base) 32 rest refl (base_whole w.base),
      before_mark (is 32) (mine_written w.mine) 32 (why_written w.why) refl (mine_whole w.mine),
      after_mark (is 32) (mine_written w.mine) 32 (why_written w.why) refl (mine_whole w.mine),
      base_again w.base,
      mine_again w.mine,
      why_again w.why,
    ) refl

-- ---- heads

above_space : (b : ℕ) → 48 ≤ b → is 32 b ≡ false
above_space b h = grind (arith, nat_tests)

key_spares : (key : Key) → Unbroken (is 32) (key_written key)
key_spares key = key_unbroken (is 32) key refl above_space

known_again : (key : Key) (w : Words) → IsId key.id → known_text (key_written key ++ 32 ∷ words_written w) ≡ Some (Known key w)
unfolding known_text
known_again key w id =
    rw (before_mark (is 32) (key_written key) 32 (words_written w) refl (key_spares key), after_mark (is 32) (key_written key) 32 (words_written w) refl (key_spares key), key_again key id, words_again w) refl

-- a head whose key has an id
abbrev pub IsHead : Head → Type 0
IsHead (Incomplete key) = IsId key.id
IsHead (Known key words) = IsId key.id
IsHead End = Unit {0}

text_again : (h : Head) → IsHead h → head_text (head_written h) ≡ Some h
unfolding head_text incomplete_text
text_again (Incomplete key) id = rw (key_again key id) refl
text_again (Known key w) id = known_again key w id
text_again End id = refl

pub head_again : (h : Head) → IsHead h → head_of (head_written h) ≡ Some h
unfolding head_of
head_again h good = rw (text_again h good, same_bytes (head_written h)) refl

number_read : (n : ℕ) → id_test n ≡ true → header_text (header_written n) ≡ Some n
unfolding header_text
number_read n e = rw (number_again 19 n (omega arith) (id_small n e) (omega (arith, id_small n e)), e) refl

pub header_again : (n : ℕ) → id_test n ≡ true → header_of (header_written n) ≡ Some n
unfolding header_of
header_again n e = rw (number_read n e, same_bytes (header_written n)) refl
