-- What is read is spelled so.
use Rattle.std.proofs.Common.{◌≡◌, ℕ, ◌+◌, ◌*◌, ◌<◌, ◌≤◌, ◌&&◌, Bool, true, false, cond, List, [], ◌∷◌, ◌++◌, length, Option, Some, None, refl, sym, ap, arith, subst, eqb, ltb}
use Rattle.std.specs.Option.{option_map}
use Rattle.std.specs.Char.{digit_value, IsScalar}
use Rattle.std.specs.Str.Parse.{digits_value_after, AllDigits}
use Rattle.std.proofs.lemmas.Bool.{ltb-true, and_parts}
use lib.Utf8.{scalar}
use Rattle.opl_text.specs.declared.escape.Next.TheVariants.{Bad, Inside, Gives}
use Rattle.opl_text.specs.Escape.{Spells, done, raw, escape, is_raw, carried, characters_of}
use Rattle.std.proofs.lemmas.Bool.Decides.{nat_tests}

-- an escape goes on, and then a text
record InEscape (d v : ℕ) (cs ds : List ℕ) : Type 0 where
  hex : List ℕ
  rest : List ℕ
  more : List ℕ
  split : cs ≡ hex ++ 37 ∷ rest
  room : d + length hex ≤ 6
  digits : AllDigits 16 hex
  is_scalar : IsScalar (digits_value_after 16 v hex)
  some : 0 < digits_value_after 16 v hex
  gives : ds ≡ digits_value_after 16 v hex ∷ more
  spells : Spells rest more

abbrev Both : List ℕ → Type 0
Both cs = ((ds : List ℕ) → characters_of None cs ≡ Some ds → Spells cs ds) × ((d v : ℕ) (ds : List ℕ) → d ≤ 6 → characters_of (Some (record { digits = d; code = v })) cs ≡ Some ds → InEscape d v cs ds)

mapped : (g : ℕ) (o : Option (List ℕ)) (ds : List ℕ) → option_map (λ xs. g ∷ xs) o ≡ Some ds → (more : List ℕ) × (o ≡ Some more) × (ds ≡ g ∷ more)
mapped g None ds e = cc
mapped g (Some xs) ds e = (xs, refl, cc)

some_digit : (hex : List ℕ) → 0 < digits_value_after 16 0 hex → 1 ≤ length hex
some_digit [] p = absurd (omega arith)
some_digit (c ∷ hex) p = omega arith

percent : (c : ℕ) → eqb c 37 ≡ true → c ≡ 37
percent c h = grind (arith, nat_tests)

moved : (c : ℕ) (cs ds xs ys : List ℕ) → c ≡ 37 → cs ≡ xs → ds ≡ ys → Spells (37 ∷ xs) ys → Spells (c ∷ cs) ds
moved c cs ds xs ys e f g s =
    subst (λ (x : ℕ). Spells (x ∷ cs) ds) (sym e) (subst (λ (zs : List ℕ). Spells (37 ∷ zs) ds) (sym f) (subst (λ (zs : List ℕ). Spells (37 ∷ xs) zs) (sym g) s))

out_step : (c : ℕ) (cs ds : List ℕ) (b r : Bool) → eqb c 37 ≡ b → is_raw c ≡ r → carried (cond b (Inside (record { digits = 0; code = 0 })) (cond r (Gives c) Bad)) (λ f. characters_of f cs) ≡ Some ds → Both cs → Spells (c ∷ cs) ds
out_step c cs ds true r e f h both =
    let i = both.1 0 0 ds (omega arith) h in
    moved c cs ds _ _ (percent c e) i.split i.gives (escape i.hex i.rest i.more (some_digit i.hex i.some) (omega (arith, i.room)) i.digits i.is_scalar i.some i.spells)
out_step c cs ds false true e f h both = let m = mapped c (characters_of None cs) ds h in subst (λ (zs : List ℕ). Spells (c ∷ cs) zs) (sym m.2) (raw c cs m.0 f (both.0 m.0 m.1))
out_step c cs ds false false e f h both = cc

in_step : (c : ℕ) (cs : List ℕ) (d v : ℕ) (ds : List ℕ) (b p q : Bool) → eqb c 37 ≡ b → (ltb 0 v && scalar v) ≡ p → (ltb (digit_value c) 16 && ltb d 6) ≡ q → d ≤ 6
    → carried (cond b (cond p (Gives v) Bad) (cond q (Inside (record { digits = d + 1; code = v * 16 + digit_value c })) Bad)) (λ f. characters_of f cs) ≡ Some ds → Both cs → InEscape d v (c ∷ cs) ds
in_step c cs d v ds true true q e f g l h both =
    let m = mapped v (characters_of None cs) ds h in
    let s = and_parts (ltb 0 v) (scalar v) f in
    record { hex = []; rest = cs; more = m.0; split = ap (λ x. x ∷ cs) (percent c e); room = omega arith; digits = tt; is_scalar = s.1; some = ltb-true 0 v s.0; gives = m.2; spells = both.0 m.0 m.1 }
in_step c cs d v ds true false q e f g l h both = cc
in_step c cs d v ds false p true e f g l h both =
    let s = and_parts (ltb (digit_value c) 16) (ltb d 6) g in
    let i = both.1 (d + 1) (v * 16 + digit_value c) ds (omega (arith, ltb-true d 6 s.1)) h in
    record { hex = c ∷ i.hex; rest = i.rest; more = i.more; split = ap (λ xs. c ∷ xs) i.split; room = omega (arith, i.room); digits = (ltb-true (digit_value c) 16 s.0, i.digits); is_scalar = i.is_scalar; some = i.some; gives = i.gives; spells = i.spells }
in_step c cs d v ds false p false e f g l h both = cc

both : (cs : List ℕ) → Both cs
both [] = (λ ds h. let e : ◌≡◌ {A = List ℕ} [] ds = cc in subst (Spells []) e done, λ d v ds l h. cc)
both (c ∷ cs) = (λ ds h. out_step c cs ds (eqb c 37) (is_raw c) refl refl h (both cs), λ d v ds l h. in_step c cs d v ds (eqb c 37) (ltb 0 v && scalar v) (ltb (digit_value c) 16 && ltb d 6) refl refl refl l h (both cs))

pub read_is_spelled : (cs ds : List ℕ) → characters_of None cs ≡ Some ds → Spells cs ds
read_is_spelled cs ds h = (both cs).0 ds h
