-- A head that was read has a key with an id.
use Rattle.std.proofs.Common.{◌≡◌, ℕ, ℤ, zero, suc, pos, ◌==◌, Bool, true, false, cond, List, [], ◌∷◌, drop, slice_index, Option, Some, None, option_map, refl, sym, ap, subst, ◌∙◌}
use Rattle.std.specs.Prelude.{codes}
use Rattle.std.specs.Str.{bytes_eq}
use Rattle.std.specs.Option.{option_and_then as and_then}
use Rattle.std.proofs.lemmas.Option.{same_Some, cond_some}
use Rattle.osm_base.specs.Number.{IsId, id_size, id_test, id_text, key_text, kind_letter, minus, number_text}
use Rattle.osm_base.specs.declared.key.Kind.{Kind}
use Rattle.osm_base.specs.declared.key.Key.{Key}
use Rattle.opl_text.specs.Time.{◌>>=◌}
use Rattle.saved_session.specs.Words.{behind_word, first_word, head_named, head_of, head_text, head_written, incomplete_text, known_text, words_text}
use Rattle.saved_session.specs.declared.words.Head.{Head}
use Rattle.saved_session.specs.declared.words.Head.TheVariants.{Incomplete, Known, End}
use Rattle.saved_session.proofs.LinesBack.{both_read}
use Rattle.saved_session.proofs.WordsAgain.{IsHead}

-- one reading behind the other gave something
both : {A B : Type 0} (f : A → Option B) (o : Option A) (y : B) → and_then f o ≡ Some y → (x : A) × (o ≡ Some x) × (f x ≡ Some y)
both f None y e = absurd cc
both f (Some x) y e = (x, refl, e)

minus_id : (n : ℕ) → id_test n ≡ true → IsId (minus n)
minus_id zero e = absurd cc
minus_id (suc n) e = e

size_id : (text : List ℕ) (n : ℕ) → id_size text ≡ Some n → id_test n ≡ true
size_id text n e =
    let p = both (λ n. cond (id_test n) (Some n) None) (number_text 19 text) n e in
    let q = cond_some (id_test p.0) p.0 n p.2 in
    ap id_test (sym q.1) ∙ q.0

signed_id : (sign : Bool) (plain rest : Option ℕ) (z : ℤ) → ((n : ℕ) → plain ≡ Some n → id_test n ≡ true) → ((n : ℕ) → rest ≡ Some n → id_test n ≡ true) → cond sign (option_map minus rest) (option_map pos plain) ≡ Some z → IsId z
signed_id true plain None z p q e = absurd cc
signed_id true plain (Some n) z p q e = subst IsId (same_Some (minus n) z e) (minus_id n (q n refl))
signed_id false None rest z p q e = absurd cc
signed_id false (Some n) rest z p q e = subst IsId (same_Some (pos n) z e) (p n refl)

text_id : (text : List ℕ) (z : ℤ) → id_text text ≡ Some z → IsId z
unfolding id_text
text_id text z e = signed_id (slice_index text 0 == 45) (id_size text) (id_size (drop 1 text)) z (size_id text) (size_id (drop 1 text)) e

mapped_id : (kind : Kind) (o : Option ℤ) (key : Key) → ((z : ℤ) → o ≡ Some z → IsId z) → option_map (λ id. record { kind = kind; id = id }) o ≡ Some key → IsId key.id
mapped_id kind None key h e = absurd cc
mapped_id kind (Some z) key h e = subst (λ (k : Key). IsId k.id) (same_Some (record { kind = kind; id = z }) key e) (h z refl)

key_id : (text : List ℕ) (key : Key) → key_text text ≡ Some key → IsId key.id
unfolding key_text
key_id [] key e = absurd cc
key_id (b ∷ text) key e =
    let p = both (λ kind. option_map (λ id. record { kind = kind; id = id }) (id_text text)) (kind_letter b) key e in
    mapped_id p.0 (id_text text) key (text_id text) p.2

known_id : (text : List ℕ) (h : Head) → known_text text ≡ Some h → IsHead h
unfolding known_text
known_id text h e =
    let p = both_read (λ key. behind_word text >>= λ rest. words_text rest >>= λ words. Some (Known key words)) (key_text (first_word text)) h e in
    let q = both_read (λ rest. words_text rest >>= λ words. Some (Known p.0 words)) (behind_word text) h p.2 in
    let r = both_read (λ words. Some (Known p.0 words)) (words_text q.0) h q.2 in
    subst IsHead (same_Some (Known p.0 r.0) h r.2) (key_id (first_word text) p.0 p.1)

incomplete_id : (text : List ℕ) (h : Head) → incomplete_text text ≡ Some h → IsHead h
unfolding incomplete_text
incomplete_id text h e =
    let p = both_read (λ key. Some (Incomplete key)) (key_text text) h e in
    subst IsHead (same_Some (Incomplete p.0) h p.2) (key_id text p.0 p.1)

named_id : (a b c : Bool) (x y : Option Head) (h : Head) → (x ≡ Some h → IsHead h) → (y ≡ Some h → IsHead h) → cond a x (cond b y (cond c (Some End) None)) ≡ Some h → IsHead h
named_id true b c x y h first second e = first e
named_id false true c x y h first second e = second e
named_id false false true x y h first second e = subst IsHead (same_Some End h e) tt
named_id false false false x y h first second e = absurd cc

spelled_id : (line : List ℕ) (h : Head) → head_text line ≡ Some h → IsHead h
unfolding head_text
spelled_id line h e =
    let p = both_read (λ rest. head_named (first_word line) line rest) (behind_word line) h e in
    named_id (bytes_eq (first_word line) (codes "incomplete")) (bytes_eq (first_word line) (codes "known")) (bytes_eq line (codes "session end")) (incomplete_text p.0) (known_text p.0) h
    (incomplete_id p.0 h) (known_id p.0 h) p.2

pub head_id : (line : List ℕ) (h : Head) → head_of line ≡ Some h → IsHead h
unfolding head_of
head_id line h e =
    let p = both_read (λ h. cond (bytes_eq (head_written h) line) (Some h) None) (head_text line) h e in
    let q = cond_some (bytes_eq (head_written p.0) line) p.0 h p.2 in
    subst IsHead q.1 (spelled_id line p.0 p.1)
