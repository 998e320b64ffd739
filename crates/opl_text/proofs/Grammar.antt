-- What is spelled is read, and what is read is spelled so.
use Rattle.std.proofs.Common.{◌≡◌, ℕ, ◌+◌, ◌*◌, ◌^◌, ◌<◌, ◌≤◌, ◌&&◌, Bool, true, false, cond, List, [], ◌∷◌, ◌++◌, length, Option, Some, None, refl, sym, ap, ◌∙◌, arith, eqb, ltb}
use Rattle.std.specs.Option.{option_map}
use Rattle.std.specs.Char.{digit_value}
use Rattle.std.specs.Str.Parse.{digits_value, digits_value_after, AllDigits}
use Rattle.std.proofs.lemmas.Bool.Decides.{nat_tests}
use Rattle.std.proofs.lemmas.Bool.{lt-ltb, and_from}
use Rattle.std.proofs.Math.Nat.{pow-le-pow_right}
use Rattle.std.proofs.Common.{lit<}
use lib.Utf8.{scalar, encode, encodes}
use Rattle.std.proofs.lemmas.List.{at_drop_more, at_drop_all, append-nil}
use Rattle.std.proofs.Common.{get_or, drop, append_assoc, is_some}
use Rattle.opl_text.specs.declared.escape.Escape.{Escape}
use Rattle.opl_text.specs.declared.escape.Next.{Next}
use Rattle.opl_text.specs.declared.escape.Next.TheVariants.{Bad, Inside, Gives}
use Rattle.opl_text.specs.Escape.{Spells, done, raw, escape, is_raw, next_of, carried, characters_of, ended}

raw_no_percent : (c : ℕ) → is_raw c ≡ true → eqb c 37 ≡ false
raw_no_percent c h = grind (arith, nat_tests)

gives_code : (b : Bool) (v : ℕ) (rest : Option Escape → Option (List ℕ)) → carried (cond b (Gives v) Bad) rest ≡ cond b (option_map (λ ds. v ∷ ds) (rest None)) None
gives_code true v rest = refl
gives_code false v rest = refl

no_percent_digit : (c : ℕ) → digit_value c < 16 → eqb c 37 ≡ false
no_percent_digit c h = grind (arith, nat_tests)

digit_taken : (c d : ℕ) → digit_value c < 16 → d < 6 → (ltb (digit_value c) 16 && ltb d 6) ≡ true
digit_taken c d h l = and_from _ _ (lt-ltb _ _ h) (lt-ltb _ _ l)

-- the digits of an escape, up to its end
hex_read : (hex cs : List ℕ) (d v : ℕ) → d + length hex ≤ 6 → AllDigits 16 hex → characters_of (Some (record { digits = d; code = v })) (hex ++ 37 ∷ cs)
    ≡ cond (ltb 0 (digits_value_after 16 v hex) && scalar (digits_value_after 16 v hex)) (option_map (λ ds. digits_value_after 16 v hex ∷ ds) (characters_of None cs)) None
hex_read [] cs d v h a = gives_code (ltb 0 v && scalar v) v (λ f. characters_of f cs)
hex_read (c ∷ hex) cs d v h a =
    rw (no_percent_digit c a.0, digit_taken c d a.0 (omega arith))
    (hex_read hex cs (d + 1) (v * 16 + digit_value c) (omega arith) a.1)

pub spelled_is_read : (cs ds : List ℕ) → Spells cs ds → characters_of None cs ≡ Some ds
spelled_is_read cs ds done = refl
spelled_is_read cs ds (raw c xs ys r s) = rw (r, raw_no_percent c r, spelled_is_read xs ys s) refl
spelled_is_read cs ds (escape hex xs ys least most all is some s) =
    hex_read hex xs 0 0 (omega arith) all ∙ rw (and_from _ _ (lt-ltb 0 (digits_value 16 hex) some) is, spelled_is_read xs ys s) refl

pub hex_fits : (d v : ℕ) → v < 16 ^ d → d < 6 → v * 16 + 15 < 2 ^ 32
hex_fits d v h l = omega (arith, pow-le-pow_right {n = 16} (lit< tt) {i = d} {j = 5} (omega arith))

-- one character
pub step : (e : Option Escape) (cs : List ℕ) (n c : ℕ) → (n < length cs) × (c ≡ get_or cs n c) → characters_of e (drop n cs) ≡ carried (next_of e c) (λ f. characters_of f (drop (n + 1) cs))
step e cs n c h = at_drop_more (characters_of e) cs n c h.0 ∙ ap (λ x. carried (next_of e x) (λ f. characters_of f (drop (n + 1) cs))) (sym h.1)

pub step_as : (e : Option Escape) (cs : List ℕ) (n c : ℕ) (next : Next) → (n < length cs) × (c ≡ get_or cs n c) → next ≡ next_of e c → characters_of e (drop n cs) ≡ carried next (λ f. characters_of f (drop (n + 1) cs))
step_as e cs n c next h is = step e cs n c h ∙ ap (λ (x : Next). carried x (λ f. characters_of f (drop (n + 1) cs))) (sym is)

pub pushed : (out : List ℕ) (g : ℕ) (o : Option (List ℕ)) → option_map (λ (ds : List ℕ). (out ++ encode g) ++ encodes ds) o ≡ option_map (λ (ds : List ℕ). out ++ encodes ds) (option_map (λ (ds : List ℕ). g ∷ ds) o)
pushed out g None = refl
pushed out g (Some ds) = ap Some (append_assoc out (encode g) (encodes ds))

-- the bytes so far, and those that the rest gives
abbrev pub given : List ℕ → Option (List ℕ) → Option (List ℕ)
given out rest = option_map (λ (ds : List ℕ). out ++ encodes ds) rest

pub reads_bad : (out cs : List ℕ) (e : Option Escape) (n c : ℕ) (whole : Option (List ℕ)) → (n < length cs) × (c ≡ get_or cs n c) → Bad ≡ next_of e c → given out (characters_of e (drop n cs)) ≡ whole → None ≡ whole
reads_bad out cs e n c whole h is reads = sym (ap (given out) (step_as e cs n c Bad h is)) ∙ reads

pub reads_inside : (out cs : List ℕ) (e : Option Escape) (f : Escape) (n m c : ℕ) (whole : Option (List ℕ)) → m ≡ n + 1 → (n < length cs) × (c ≡ get_or cs n c) → Inside f ≡ next_of e c → given out (characters_of e (drop n cs)) ≡ whole → given out (characters_of (Some f) (drop m cs)) ≡ whole
reads_inside out cs e f n m c whole later h is reads = ap (λ j. given out (characters_of (Some f) (drop j cs))) later ∙ sym (ap (given out) (step_as e cs n c (Inside f) h is)) ∙ reads

pub reads_gives : (out new cs : List ℕ) (e : Option Escape) (g n m c : ℕ) (whole : Option (List ℕ)) → new ≡ out ++ encode g → m ≡ n + 1 → (n < length cs) × (c ≡ get_or cs n c) → Gives g ≡ next_of e c → given out (characters_of e (drop n cs)) ≡ whole → given new (characters_of None (drop m cs)) ≡ whole
reads_gives out new cs e g n m c whole more later h is reads =
    ap (λ (xs : List ℕ). given xs (characters_of None (drop m cs))) more ∙ pushed out g (characters_of None (drop m cs))
    ∙ ap (λ j. given out (option_map (λ (ds : List ℕ). g ∷ ds) (characters_of None (drop j cs)))) later
    ∙ sym (ap (given out) (step_as e cs n c (Gives g) h is)) ∙ reads

pub reads_end : (out cs : List ℕ) (e : Option Escape) (n : ℕ) (whole : Option (List ℕ)) → length cs ≤ n → given out (characters_of e (drop n cs)) ≡ whole → given out (ended e) ≡ whole
reads_end out cs e n whole past reads = sym (ap (given out) (at_drop_all (characters_of e) cs n past)) ∙ reads

pub ended_none : (out : List ℕ) → given out (ended None) ≡ Some out
ended_none out = ap Some (append-nil out)

pub done_some : (out : List ℕ) (e : Option Escape) (whole : Option (List ℕ)) → is_some e ≡ false → given out (ended e) ≡ whole → Some out ≡ whole
done_some out None whole h reads = sym (ended_none out) ∙ reads
done_some out (Some e) whole h reads = cc

pub done_none : (out : List ℕ) (e : Option Escape) (whole : Option (List ℕ)) → is_some e ≡ true → given out (ended e) ≡ whole → None ≡ whole
done_none out None whole h reads = cc
done_none out (Some e) whole h reads = reads
