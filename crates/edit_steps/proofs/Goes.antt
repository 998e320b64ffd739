-- A run of steps up to one of them: what they were given, and what they wrote. The steps of one editor run over states of its
-- machine, and those of a meeting over seats, in the same way.
use Rattle.std.proofs.Common.{◌≡◌, ℕ, ◌+◌, ◌<◌, ◌≤◌, List, [], ◌∷◌, ◌++◌, Option, IfSome, sym, ap, ◌∙◌, subst, append_assoc, append-nil, drop, take, get_or, length, flat_map, arith}
use Rattle.std.specs.List.{All}
use Rattle.std.specs.Io.KnownBytes.{Appends}
use Rattle.std.proofs.KnownBytes.{Appends-nil, Appends-trans}
use Rattle.std.proofs.lemmas.Grind.{flat_map-append}
use Rattle.std.proofs.lemmas.List.{drop_all, take_all, take-append-le}
use Rattle.std.proofs.lemmas.List.Elements.{All-nil, All-push, All-weaker}
use Rattle.osm_outside.specs.Noted.{Noted, NotedFirst, note_of, reads_in}
use Rattle.osm_outside.specs.Outside.{AppendsFront, Note, Shelved}
use Rattle.osm_outside.proofs.Along.{front_of_first, front_of_second}
use Rattle.osm_outside.proofs.Noting.{noted_none, noted_of_first, noted_push}
use Rattle.edit_script.specs.declared.step.Step.{Step}
use Rattle.edit_steps.specs.Given.{Given, given_by, all_given}
use Rattle.edit_steps.proofs.Gives.{on_files, rest_given, closes, first_files}
use Rattle.edit_steps.proofs.Steps.{steps-drop}

-- The steps before this one were given this, and wrote their texts. Whatever those from here on are given, these go on behind them.
pub record Goes {S : Type 0} (runs : List Given → List Step → S → List (Step × Given × S)) (text : Step × Given × S → List ℕ) (begins : Step × Given × S → Option (List ℕ)) (Good : Step × Given × S → Type 0) (o : Option Shelved) (old now : Option (List ℕ)) (seen seen_now : List Note) (i : ℕ) (steps : List Step) (first s : S) : Type 0 where
  pub given : List Given
  pub by_files : IfSome o (λ files. given ++ all_given files (drop i steps) ≡ all_given files steps)
  pub before : List (Step × Given × S)
  pub on : (more : List Given) → runs (given ++ more) steps first ≡ before ++ runs more (drop i steps) s
  pub written : Appends old now (flat_map text before)
  pub noted : Noted old seen seen_now (reads_in begins text [] before)
  pub good : All Good before

-- They stopped: a front of the text of the first of them was written. When the last of these began, the texts of those before it
-- were written, whole.
pub record Stopped {S : Type 0} (runs : List Given → List Step → S → List (Step × Given × S)) (text : Step × Given × S → List ℕ) (begins : Step × Given × S → Option (List ℕ)) (Ready : Step × Given × S → Type 0) (o : Option Shelved) (old mid new : Option (List ℕ)) (seen seen_then : List Note) (steps : List Step) (first : S) : Type 0 where
  pub given : List Given
  pub by_files : IfSome o (λ files. given ≡ all_given files steps)
  pub count : ℕ
  pub front : AppendsFront old new (flat_map text (take count (runs given steps first)))
  pub whole : AppendsFront old new (flat_map text (runs given steps first))
  pub ready : All Ready (take count (runs given steps first))
  pub finished : ℕ
  pub before : Appends old mid (flat_map text (take finished (runs given steps first)))
  pub noted : NotedFirst old seen seen_then (reads_in begins text [] (runs given steps first))

-- All of them ran.
pub record Ended {S : Type 0} (runs : List Given → List Step → S → List (Step × Given × S)) (text : Step × Given × S → List ℕ) (begins : Step × Given × S → Option (List ℕ)) (Good : Step × Given × S → Type 0) (o : Option Shelved) (old new : Option (List ℕ)) (seen seen_then : List Note) (steps : List Step) (first : S) : Type 0 where
  pub given : List Given
  pub by_files : IfSome o (λ files. given ≡ all_given files steps)
  pub written : Appends old new (flat_map text (runs given steps first))
  pub noted : Noted old seen seen_then (reads_in begins text [] (runs given steps first))
  pub good : All Good (runs given steps first)

texts_push : {X : Type 0} (text : X → List ℕ) (xs : List X) (x : X) → flat_map text (xs ++ x ∷ []) ≡ flat_map text xs ++ text x
texts_push text xs x = flat_map-append text xs (x ∷ []) ∙ ap (λ l. flat_map text xs ++ l) (append-nil (text x))

module _ {S : Type 0} (runs : List Given → List Step → S → List (Step × Given × S)) (text : Step × Given × S → List ℕ) (begins : Step × Given × S → Option (List ℕ)) (Good : Step × Given × S → Type 0) (o : Option Shelved) (old : Option (List ℕ)) (seen : List Note) (steps : List Step) (first : S) where
  pub starts : (s : S) → s ≡ first → Goes runs text begins Good o old old seen seen 0 steps first s
  starts s same = record { given = []; by_files = first_files o steps; before = []; on = λ more. ap (runs more steps) (sym same); written = Appends-nil old; noted = noted_none old seen; good = All-nil Good }

  -- the first steps of a run
  firsts_of : (given : List Given) (before rest : List (Step × Given × S)) → runs given steps first ≡ before ++ rest → take (length before) (runs given steps first) ≡ before
  firsts_of given before rest is = ap (take (length before)) is ∙ take-append-le (length before) before rest (omega arith) ∙ take_all (length before) before (omega arith)

  stopped_at : (Ready : Step × Given × S → Type 0) (mid new : Option (List ℕ)) (seen_then : List Note) (given : List Given) (ran : List (Step × Given × S)) (last : Step × Given × S) (rest : List (Step × Given × S)) → IfSome o (λ files. given ≡ all_given files steps)
      → runs given steps first ≡ (ran ++ last ∷ []) ++ rest → Appends old mid (flat_map text ran) → AppendsFront old new (flat_map text (ran ++ last ∷ [])) → All Ready (ran ++ last ∷ []) → Noted old seen seen_then (reads_in begins text [] (ran ++ last ∷ [])) → Stopped runs text begins Ready o old mid new seen seen_then steps first
  stopped_at Ready mid new seen_then given ran last rest by_files is whole front ready noted =
      let before = ran ++ last ∷ [] in
      let firsts : take (length before) (runs given steps first) ≡ before = firsts_of given before rest is in
      let finished : take (length ran) (runs given steps first) ≡ ran = firsts_of given ran (last ∷ rest) (is ∙ append_assoc ran (last ∷ []) rest) in
      record {
        given = given;
        by_files = by_files;
        count = length before;
        front = subst (λ l. AppendsFront old new (flat_map text l)) (sym firsts) front;
        whole = subst (AppendsFront old new) (sym (ap (flat_map text) is ∙ flat_map-append text before rest)) (front_of_first old new (flat_map text before) (flat_map text rest) front);
        ready = subst (All Ready) (sym firsts) ready;
        finished = length ran;
        before = subst (λ l. Appends old mid (flat_map text l)) (sym finished) whole;
        noted = noted_of_first begins text old seen seen_then (runs given steps first) before rest is noted;
      }

  module _ (mid : Option (List ℕ)) (seen_mid : List Note) (i : ℕ) (s : S) (goes : Goes runs text begins Good o old mid seen seen_mid i steps first s) where
    -- All steps have run.
    pub ends : length steps ≤ i → ((given : List Given) → runs given [] s ≡ []) → Ended runs text begins Good o old mid seen seen_mid steps first
    ends past none =
        let rest = rest_given o (drop i steps) in
        let all : runs (goes.given ++ rest) steps first ≡ goes.before = goes.on rest ∙ ap (λ l. goes.before ++ runs rest l s) (drop_all i steps past) ∙ ap (λ l. goes.before ++ l) (none rest) ∙ append-nil goes.before in
        record {
          given = goes.given ++ rest;
          by_files = closes o goes.given (drop i steps) steps goes.by_files;
          written = subst (λ l. Appends old mid (flat_map text l)) (sym all) goes.written;
          noted = subst (λ l. Noted old seen seen_mid (reads_in begins text [] l)) (sym all) goes.noted;
          good = subst (All Good) (sym all) goes.good;
        }

    -- The step is given this, and leads to another state.
    module _ (step : Step) (got : Given) (next : S) (h : i < length steps) (e : step ≡ get_or steps i step) (by_files : IfSome o (λ files. got ≡ given_by files step.act))
        (leads : (more : List Given) → runs (got ∷ more) (step ∷ drop (i + 1) steps) s ≡ (step, got, s) ∷ runs more (drop (i + 1) steps) next) where
      one_more : (more : List Given) → runs ((goes.given ++ got ∷ []) ++ more) steps first ≡ (goes.before ++ (step, got, s) ∷ []) ++ runs more (drop (i + 1) steps) next
      one_more more =
          ap (λ g. runs g steps first) (append_assoc goes.given (got ∷ []) more)
          ∙ goes.on (got ∷ more)
          ∙ ap (λ l. goes.before ++ runs (got ∷ more) l s) (steps-drop i steps step h e)
          ∙ ap (λ l. goes.before ++ l) (leads more)
          ∙ sym (append_assoc goes.before ((step, got, s) ∷ []) (runs more (drop (i + 1) steps) next))

      -- It writes its text,
      pub goes_on : (new : Option (List ℕ)) (seen_new : List Note) → Appends mid new (text (step, got, s)) → seen_new ≡ seen_mid ++ note_of (begins (step, got, s)) mid → Good (step, got, s) → Goes runs text begins Good o old new seen seen_new (i + 1) steps first next
      goes_on new seen_new written notes here = record {
        given = goes.given ++ got ∷ [];
        by_files = on_files o goes.given got i steps step h e goes.by_files by_files;
        before = goes.before ++ (step, got, s) ∷ [];
        on = one_more;
        written = subst (Appends old new) (sym (texts_push text goes.before (step, got, s))) (Appends-trans old mid new (flat_map text goes.before) (text (step, got, s)) goes.written written);
        noted = noted_push begins text old mid seen seen_mid seen_new goes.before (step, got, s) goes.written goes.noted notes;
        good = All-push Good goes.before (step, got, s) goes.good here;
      }

      -- or a front of it.
      pub fails : (Ready : Step × Given × S → Type 0) → ((at : Step × Given × S) → Good at → Ready at) → (new : Option (List ℕ)) (seen_new : List Note) → AppendsFront mid new (text (step, got, s)) → seen_new ≡ seen_mid ++ note_of (begins (step, got, s)) mid → Ready (step, got, s) → Stopped runs text begins Ready o old mid new seen seen_new steps first
      fails Ready weaker new seen_new front notes here =
          let more = rest_given o (drop (i + 1) steps) in
          stopped_at Ready mid new seen_new ((goes.given ++ got ∷ []) ++ more) goes.before (step, got, s) (runs more (drop (i + 1) steps) next)
          (closes o (goes.given ++ got ∷ []) (drop (i + 1) steps) steps (on_files o goes.given got i steps step h e goes.by_files by_files)) (one_more more) goes.written
          (subst (AppendsFront old new) (sym (texts_push text goes.before (step, got, s))) (front_of_second old mid new (flat_map text goes.before) (text (step, got, s)) goes.written front))
          (All-push Ready goes.before (step, got, s) (All-weaker Good Ready weaker goes.before goes.good) here)
          (noted_push begins text old mid seen seen_mid seen_new goes.before (step, got, s) goes.written goes.noted notes)
