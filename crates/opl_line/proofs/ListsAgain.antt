-- What is written of tags, references and members is read again.
use Rattle.std.proofs.Common.{◌≡◌, ℕ, ℤ, suc, ◌<◌, Bool, true, false, T, List, [], ◌∷◌, ◌++◌, length, Result, Ok, refl, sym, ap, subst, ◌∙◌, arith, append_assoc}
use Rattle.std.specs.Prelude.{map, ◌==◌, nat_lt}
use Rattle.std.specs.List.{All, list_all}
use Rattle.std.specs.Fmt.{signed_decimal}
use Rattle.std.specs.FinMap.{is_sorted}
use Rattle.std.proofs.lemmas.Bool.Decides.{nat_tests}
use Rattle.std.proofs.lemmas.Grind.{common_steps}
use Rattle.osm_base.specs.Tags.{Pair, bytes_cmp, are_tags, has_tag, with_tag}
use Rattle.osm_base.specs.Number.{IsId, key_written}
use Rattle.osm_base.proofs.KeyLaw.{id_again, letter_again}
use Rattle.osm_base.proofs.TagLaws.{put_last, has_last}
use Rattle.osm_base.specs.declared.members.Member.{Member}
use Rattle.osm_base.proofs.Tests.{first_T, second_T}
use Rattle.opl_text.specs.Ends.{ends_nothing}
use Rattle.opl_text.specs.Text.{escaped}
use Rattle.opl_line.specs.declared.fault.LineFault.{LineFault}
use Rattle.opl_line.specs.Reads.{folded}
use Rattle.opl_line.specs.Cut.{split}
use Rattle.opl_line.specs.Field.{is, tag_into, tags_text, ref_text, ref_into, refs_text, member_at, member_into, members_text}
use Rattle.opl_line.specs.Written.{listed, tag_written, ref_written, member_written}
use Rattle.opl_line.specs.Writable.{IsText, AreTags, IsMember}
use Rattle.opl_line.proofs.Unbroken.{Unbroken, unbroken_append, unbroken_from, unbroken_items, cut_listed, before_mark, after_mark, before_all, after_none, signed_unbroken, key_unbroken}
use Rattle.opl_text.proofs.WrittenLaw.{text_again, text_plain}

-- the first and the others of what holds of all
pub first_of : {A : Type 0} (P : A → Type 0) (x : A) (xs : List A) → All P (x ∷ xs) → P x
first_of P x xs h = h 0 x (omega arith)

pub others_of : {A : Type 0} (P : A → Type 0) (x : A) (xs : List A) → All P (x ∷ xs) → All P xs
others_of P x xs h k d below = h (suc k) d (omega arith)

-- a text has none of these marks
pub text_unbroken : (ends : ℕ → Bool) (text : List ℕ) → ((b : ℕ) → ends_nothing b ≡ true → ends b ≡ false) → Unbroken ends (escaped text)
text_unbroken ends text apart = unbroken_from ends_nothing ends (escaped text) apart (text_plain text)

no_comma : (b : ℕ) → ends_nothing b ≡ true → is 44 b ≡ false
no_comma b h = grind (arith, nat_tests)

no_equals : (b : ℕ) → ends_nothing b ≡ true → is 61 b ≡ false
no_equals b h = grind (arith, nat_tests)

-- ---- tags

tag_again : (seen : List Pair) (key value : List ℕ) → IsText key → IsText value → (length key == 0) ≡ false → has_tag seen key ≡ false → tag_into seen (tag_written (key, value)) ≡ Ok (with_tag seen key value)
unfolding tag_into
tag_again seen key value k v some new =
    let left = text_unbroken (is 61) key no_equals in
    let right = text_unbroken (is 61) value no_equals in
    rw (
      before_mark (is 61) (escaped key) 61 (escaped value) refl left,
      after_mark (is 61) (escaped key) 61 (escaped value) refl left,
      text_again key k.0 k.1,
      some,
      new,
      before_all (is 61) (escaped value) right,
      after_none (is 61) (escaped value) right,
      text_again value v.0 v.1,
    ) refl

named : (key : List ℕ) → T (nat_lt 0 (length key)) → (length key == 0) ≡ false
named [] h = absurd h
named (b ∷ key) h = grind (arith, nat_tests)

-- tags that are read in their order: each goes to the end, and its key is new
all_tags_again : (seen tags : List Pair) → T (are_tags (seen ++ tags)) → T (list_all (λ t. nat_lt 0 (length t.0)) tags) → All (λ tag. IsText tag.0 × IsText tag.1) tags → folded tag_into seen (map tag_written tags) ≡ Ok (seen ++ tags)
all_tags_again seen [] good some texts = ap Ok (grind (arith, common_steps))
all_tags_again seen ((key, value) ∷ tags) good some texts =
    let first = first_of (λ (tag : Pair). IsText tag.0 × IsText tag.1) (key, value) tags texts in
    let along = append_assoc seen ((key, value) ∷ []) tags in
    rw (tag_again seen key value first.0 first.1 (named key (first_T _ _ some)) (has_last seen tags (key, value) good), put_last seen tags (key, value) good)
    (all_tags_again (seen ++ (key, value) ∷ []) tags (subst (λ (ts : List Pair). T (are_tags ts)) (sym along) good) (second_T (nat_lt 0 (length key)) _ some) (others_of (λ (tag : Pair). IsText tag.0 × IsText tag.1) (key, value) tags texts)
    ∙ ap Ok along)

tags_case : (text : List ℕ) (r : Result (List Pair) LineFault) → 0 < length text → folded tag_into [] (split (is 44) text) ≡ r → tags_text text ≡ r
unfolding tags_text
tags_case [] r some e = absurd (omega arith)
tags_case (b ∷ text) r some e = e

tag_unbroken : (tag : Pair) → Unbroken (is 44) (tag_written tag)
tag_unbroken tag = unbroken_append (is 44) (escaped tag.0) (61 ∷ escaped tag.1) (text_unbroken (is 44) tag.0 no_comma) (refl, text_unbroken (is 44) tag.1 no_comma)

pub tags_again : (tags : List Pair) → AreTags tags → tags_text (listed tag_written tags) ≡ Ok tags
unfolding tags_text
tags_again [] h = refl
tags_again (tag ∷ tags) h =
    tags_case (listed tag_written (tag ∷ tags)) (Ok (tag ∷ tags)) (grind (arith, common_steps))
    (ap (folded tag_into []) (cut_listed tag_written tag tags (unbroken_items (is 44) tag_written (tag ∷ tags) tag_unbroken))
    ∙ all_tags_again [] (tag ∷ tags) h.0 (second_T (is_sorted bytes_cmp (tag ∷ tags)) _ h.0) h.1)

-- ---- references

ref_again : (seen : List ℤ) (id : ℤ) → IsId id → ref_into seen (ref_written id) ≡ Ok (seen ++ id ∷ [])
unfolding ref_into ref_text
ref_again seen id h =
    let clear = signed_unbroken (is 120) id refl (λ b least most. grind (arith, nat_tests)) in
    rw (before_all (is 120) (signed_decimal id) clear, after_none (is 120) (signed_decimal id) clear, id_again id h) refl

all_refs_again : (seen ids : List ℤ) → All IsId ids → folded ref_into seen (map ref_written ids) ≡ Ok (seen ++ ids)
all_refs_again seen [] h = ap Ok (grind (arith, common_steps))
all_refs_again seen (id ∷ ids) h =
    rw (ref_again seen id (first_of IsId id ids h)) (all_refs_again (seen ++ id ∷ []) ids (others_of IsId id ids h) ∙ ap Ok (append_assoc seen (id ∷ []) ids))

ref_unbroken : (id : ℤ) → Unbroken (is 44) (ref_written id)
ref_unbroken id = (refl, signed_unbroken (is 44) id refl (λ b least most. grind (arith, nat_tests)))

pub refs_again : (ids : List ℤ) → All IsId ids → refs_text (listed ref_written ids) ≡ Ok ids
unfolding refs_text
refs_again [] h = refl
refs_again (id ∷ ids) h =
    ap (folded ref_into []) (cut_listed ref_written id ids (unbroken_items (is 44) ref_written (id ∷ ids) ref_unbroken)) ∙ all_refs_again [] (id ∷ ids) h

-- ---- members

member_again : (seen : List Member) (m : Member) → IsMember m → member_into seen (member_written m) ≡ Ok (seen ++ m ∷ [])
unfolding member_into member_at
member_again seen m h =
    let clear = signed_unbroken (is 64) m.key.id refl (λ b least most. grind (arith, nat_tests)) in
    rw (
      letter_again m.key.kind,
      before_mark (is 64) (signed_decimal m.key.id) 64 (escaped m.role) refl clear,
      after_mark (is 64) (signed_decimal m.key.id) 64 (escaped m.role) refl clear,
      id_again m.key.id h.0,
      text_again m.role h.1.0 h.1.1,
    ) refl

all_members_again : (seen ms : List Member) → All IsMember ms → folded member_into seen (map member_written ms) ≡ Ok (seen ++ ms)
all_members_again seen [] h = ap Ok (grind (arith, common_steps))
all_members_again seen (m ∷ ms) h =
    rw (member_again seen m (first_of IsMember m ms h)) (all_members_again (seen ++ m ∷ []) ms (others_of IsMember m ms h) ∙ ap Ok (append_assoc seen (m ∷ []) ms))

member_unbroken : (m : Member) → Unbroken (is 44) (member_written m)
member_unbroken m =
    unbroken_append (is 44) (key_written m.key) (64 ∷ escaped m.role) (key_unbroken (is 44) m.key refl (λ b least. grind (arith, nat_tests))) (refl, text_unbroken (is 44) m.role no_comma)

pub members_again : (ms : List Member) → All IsMember ms → members_text (listed member_written ms) ≡ Ok ms
unfolding members_text
members_again [] h = refl
members_again (m ∷ ms) h =
    ap (folded member_into []) (cut_listed member_written m ms (unbroken_items (is 44) member_written (m ∷ ms) member_unbroken)) ∙ all_members_again [] (m ∷ ms) h
