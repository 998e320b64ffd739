-- A tag is read in steps: its key, what is behind it, and its value.
use Rattle.std.proofs.Common.{◌≡◌, ◌<◌, ℕ, Bool, true, false, cond, is_some, List, [], ◌∷◌, Option, Some, None, Result, Ok, Err, refl, ◌∙◌, ◌||◌, length, arith}
use Rattle.std.specs.Prelude.{◌==◌}
use Rattle.opl_text.specs.Text.{unescaped}
use Rattle.osm_base.specs.Tags.{Pair, with_tag, has_tag}
use Rattle.opl_line.specs.declared.fault.LineFault.{LineFault}
use Rattle.opl_line.specs.declared.fault.LineFault.TheVariants as faults
use Rattle.opl_line.specs.Reads.{◌>>=◌, or_fault}
use Rattle.opl_line.specs.Cut.{before, after}
use Rattle.opl_line.specs.Field.{is, tag_into}
use Rattle.opl_line.specs.TagText.{behind_new, tag_value}

refused_once : {A : Type 0} (empty there : Bool) (rest : Option (List ℕ)) (f : List ℕ → Result A LineFault)
    → cond empty (Err faults.BadTags) (or_fault faults.BadTags rest >>= λ text. cond there (Err faults.BadTags) (f text)) ≡ (or_fault faults.BadTags (cond (empty || there) None rest) >>= f)
refused_once true there rest f = refl
refused_once false true None f = refl
refused_once false true (Some text) f = refl
refused_once false false None f = refl
refused_once false false (Some text) f = refl

then_put : {A : Type 0} (last : Bool) (value : Result (List ℕ) LineFault) (f : List ℕ → A)
    → (value >>= λ v. cond last (Err faults.BadTags) (Ok (f v))) ≡ ((value >>= λ v. cond last (Err faults.BadTags) (Ok v)) >>= λ v. Ok (f v))
then_put last (Err e) f = refl
then_put true (Ok v) f = refl
then_put false (Ok v) f = refl

pub tag_steps : (tags : List Pair) (item : List ℕ) → tag_into tags item
    ≡ (or_fault faults.BadText (unescaped (before (is 61) item)) >>= λ key. or_fault faults.BadTags (behind_new tags key (after (is 61) item)) >>= λ rest. tag_value rest >>= λ value. Ok (with_tag tags key value))
unfolding tag_into behind_new tag_value
tag_steps tags item i = or_fault faults.BadText (unescaped (before (is 61) item)) >>= λ key. step key i
  where
    step : (key : List ℕ) → cond (length key == 0) (Err faults.BadTags) (or_fault faults.BadTags (after (is 61) item) >>= λ rest. cond (has_tag tags key) (Err faults.BadTags)
        (or_fault faults.BadText (unescaped (before (is 61) rest)) >>= λ value. cond (is_some (after (is 61) rest)) (Err faults.BadTags) (Ok (with_tag tags key value))))
        ≡ (or_fault faults.BadTags (behind_new tags key (after (is 61) item)) >>= λ rest. tag_value rest >>= λ value. Ok (with_tag tags key value))
    step key = refused_once (length key == 0) (has_tag tags key) (after (is 61) item) (λ rest. or_fault faults.BadText (unescaped (before (is 61) rest)) >>= λ value. cond (is_some (after (is 61) rest)) (Err faults.BadTags) (Ok (with_tag tags key value)))
        ∙ (λ j. or_fault faults.BadTags (behind_new tags key (after (is 61) item)) >>= λ rest. then_put (is_some (after (is 61) rest)) (or_fault faults.BadText (unescaped (before (is 61) rest))) (with_tag tags key) j)

-- what stands behind a key tells that the key isn't empty
pub behind_named : (tags : List Pair) (key : List ℕ) (rest : Option (List ℕ)) (text : List ℕ) → Some text ≡ behind_new tags key rest → 0 < length key
unfolding behind_new
behind_named tags [] rest text e = absurd cc
behind_named tags (b ∷ key) rest text e = omega arith
