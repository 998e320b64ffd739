-- What reading gives where a step of it fails, and where its pieces are read one after the other.
use Rattle.std.proofs.Common.{◌≡◌, ℕ, Bool, List, Option, Some, None, Result, Ok, Err, IsErrAnd, sym, ap, subst, ◌∙◌}
use Rattle.std.specs.Option.{option_map}
use Rattle.opl_line.specs.declared.fault.LineFault.{LineFault}
use Rattle.opl_line.specs.declared.fault.LineAnswer.{LineAnswer}
use Rattle.opl_line.specs.declared.fault.LineAnswer.TheVariants as answers
use Rattle.opl_line.specs.Reads.{◌>>=◌, Fails, Gives, folded}
use Rattle.opl_line.specs.Cut.{before, after, split}
use Rattle.opl_line.proofs.Fronts.{pieces_behind, split_front}

-- what a `?` passes on
pub passed : {X Y : Type 0} (view : X → Y) (r : Result X LineAnswer) (e : LineAnswer) (read : Result Y LineFault) → IsErrAnd r (λ given. given ≡ e) → Fails e read → Gives view r read
passed view (Ok x) e read is h = absurd is
passed view (Err given) e read is h = subst (λ (a : LineAnswer). Fails a read) (sym is) h

module _ {A B : Type 0} where
  -- a first step that fails
  pub fails_first : (e : LineAnswer) (read : Result A LineFault) (f : A → Result B LineFault) → Fails e read → Fails e (read >>= f)
  fails_first answers.Memory read f h = tt
  fails_first (answers.Bad fault) read f h = ap (λ (r : Result A LineFault). r >>= f) h

module _ {A : Type 0} (f : A → List ℕ) (o : Option A) (behind : Option (List ℕ)) (is : option_map f o ≡ behind) where
  -- nothing behind a separator, or some bytes
  pub none_behind : o ≡ None → behind ≡ None
  none_behind none = sym is ∙ ap (option_map f) none

  pub some_behind : (rest : A) → o ≡ Some rest → behind ≡ Some (f rest)
  some_behind rest some = sym is ∙ ap (option_map f) some

-- the first of the pieces that are left
module _ {S : Type 0} (step : S → List ℕ → Result S LineFault) (ends : ℕ → Bool) (state : S) (rest : List ℕ) (whole : Result S LineFault) (so_far : folded step state (split ends rest) ≡ whole) where
  first_step : (step state (before ends rest) >>= λ next. folded step next (pieces_behind ends (after ends rest))) ≡ whole
  first_step = ap (folded step state) (sym (split_front ends rest)) ∙ so_far

  onward : (next : S) (behind : Option (List ℕ)) → step state (before ends rest) ≡ Ok next → after ends rest ≡ behind
      → (step state (before ends rest) >>= λ n. folded step n (pieces_behind ends (after ends rest))) ≡ folded step next (pieces_behind ends behind)
  onward next behind taken is = λ i. taken i >>= λ (n : S). folded step n (pieces_behind ends (is i))

  -- it is broken,
  pub fold_broken : (e : LineAnswer) → Fails e (step state (before ends rest)) → Fails e whole
  fold_broken e h = subst (Fails e) first_step (fails_first e (step state (before ends rest)) (λ n. folded step n (pieces_behind ends (after ends rest))) h)

  -- it is the last,
  pub fold_last : (next : S) → step state (before ends rest) ≡ Ok next → after ends rest ≡ None → whole ≡ Ok next
  fold_last next taken none = sym first_step ∙ onward next None taken none

  -- or others are behind it
  pub fold_more : (next : S) (text : List ℕ) → step state (before ends rest) ≡ Ok next → after ends rest ≡ Some text → folded step next (split ends text) ≡ whole
  fold_more next text taken some = sym (onward next (Some text) taken some) ∙ first_step
