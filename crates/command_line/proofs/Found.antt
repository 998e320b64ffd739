-- What the getters of clap's matches give, by the rows that were found.
use Rattle.std.proofs.Common.{◌≡◌, ℕ, [], Option, None, Some, Result, refl, ap, arith, true, false, Bool, option_map, option_and_then, unwrap_or}
use Rattle.std.specs.Borrow.{Bor}
use Rattle.std.specs.Str.Parse.{ExplainsUnsignedError, HasUnsignedDigitsIfOk, ParsesUnsigned}
use Rattle.std.specs.declared.num.ParseIntError.{ParseIntError}
use Rattle.clap.specs.Words.{ReadsOne, Text}
use Rattle.clap.specs.ValueTests.{accepts}
use Rattle.clap.specs.declared.builder.value_parser.ValueParser.TheVariants.{Unsigned}
use Rattle.clap.proofs.ValueTestLemmas.{Accepts-accepts, accepts-Accepts}
use Rattle.command_line.specs.Words.{number_of}

-- the text that was found, or the empty one
pub text_found : (found : Option (Bor Text)) (empty : Bor Text) (text : Option Text) → option_map (λ s. s.now) found ≡ text → empty.now ≡ []
    → (unwrap_or found empty).now ≡ unwrap_or text []
text_found None empty text is e = rw (← is) e
text_found (Some s) empty text is e = rw (← is) refl

abbrev is_read : Text → Bool
is_read text = accepts false (Unsigned 0 18446744073709551615) text

-- how `u64` reads a text
abbrev reads : Text → Result ℕ ParseIntError → Type 0
reads t r = ParsesUnsigned 64 10 t r × ExplainsUnsignedError 10 t r × HasUnsignedDigitsIfOk t r

-- the number that was read
pub number_found : (text : Option Text) (found : Option ℕ) → (text ≡ None → found ≡ None) → ((t : Text) → text ≡ Some t → ReadsOne reads t found)
    → found ≡ option_and_then number_of text
number_found None found none some = none refl
number_found (Some t) (Some n) none some =
    let p = (some t refl).0 in
    let read : is_read t ≡ true = Accepts-accepts false (Unsigned 0 18446744073709551615) t (p.0.0, p.0.1, omega arith, omega arith) in
    rw read (ap Some p.1)
number_found (Some t) None none some = go (is_read t) refl
  where
    refused : is_read t ≡ true → ⊥
    refused read =
        let p = accepts-Accepts false (Unsigned 0 18446744073709551615) t read in
        (some t refl).1.0 (p.0, p.1)

    go : (b : Bool) → is_read t ≡ b → None ≡ number_of t
    go true read = absurd (refused read)
    go false read = rw read refl
