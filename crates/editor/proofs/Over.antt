-- A session is right over its files and its text.
use Rattle.std.proofs.Common.{◌≡◌, ℕ, Bool, false, List, [], Option, refl, sym, ap, subst}
use Rattle.osm_outside.specs.Outside.{Note, Shelved}
use Rattle.tool_api.specs.declared.verb.Verb.{Verb}
use Rattle.edit_session.specs.declared.status.Status.{Status}
use Rattle.edit_session.specs.declared.status.Status.TheVariants as status
use Rattle.edit_session.specs.Moment.{outside}
use Rattle.editor.specs.Over.{IsRightOver, moment}
use Rattle.edit_session.specs.Right.{IsRight}
use Rattle.edit_session.proofs.Right.{memory_at_once}

-- It left all as it was.
pub unchanged : {S K : Type 0} (told : S → Option Shelved) (begun : S → Bool) (noted : S → List Note) (read_faults : S → ℕ) (taken : K → Option (List ℕ)) (write_faults : K → ℕ) (verbs : List Verb) (words : List (List ℕ)) (shelf shelf_then : S) (sink sink_then : K)
    → shelf_then ≡ shelf → sink_then ≡ sink → IsRight verbs words (outside told begun noted read_faults taken write_faults shelf sink) (outside told begun noted read_faults taken write_faults shelf_then sink_then) status.Memory
unchanged told begun noted read_faults taken write_faults verbs words shelf shelf_then sink sink_then same_shelf same_sink =
    let at = outside told begun noted read_faults taken write_faults in
    subst (λ s. IsRight verbs words (at shelf sink) (at s sink_then) status.Memory) (sym same_shelf)
    (subst (λ k. IsRight verbs words (at shelf sink) (at shelf k) status.Memory) (sym same_sink) (memory_at_once verbs words (at shelf sink)))

module _ {S K : Type 0} (told : S → Option Shelved) (begun : S → Bool) (noted : S → List Note) (read_faults : S → ℕ) (taken : K → Option (List ℕ)) (write_faults : K → ℕ) (verbs : List Verb) (words : List (List ℕ)) (shelf shelf_then : S) (sink sink_then : K) (answer : Status) where
  -- What holds the files and the text is as good as these.
  by_told : IsRight verbs words (outside told begun noted read_faults taken write_faults shelf sink) (outside told begun noted read_faults taken write_faults shelf_then sink_then) answer
      → IsRight verbs words (moment (told shelf) (taken sink) (begun shelf) (noted shelf) (read_faults shelf) (write_faults sink)) (moment (told shelf) (taken sink_then) (begun shelf_then) (noted shelf_then) (read_faults shelf_then) (write_faults sink_then)) answer
  by_told right = record {
    given = right.given;
    by_files = right.by_files;
    outcome = right.outcome;
    stopped = right.stopped;
    noted = right.noted;
    lines = right.lines;
    complete = right.complete;
    read = right.read;
    write = right.write;
    read_quiet = right.read_quiet;
    write_quiet = right.write_quiet;
    later = right.later;
    words = right.words;
    bad_words = right.bad_words;
    unread = λ none. (refl, ap taken (right.unread none).1);
    unwritten = λ early. ap taken (right.unwritten early);
    asked = right.asked;
    told = refl;
    no_tool = right.no_tool;
    tables = right.tables;
    uploads = right.uploads;
    saves = right.saves;
    confirms = right.confirms;
    meetings = right.meetings;
    keeps = right.keeps;
  }

  -- So it is over the files and the text that they tell, where none is begun, nothing noted and no call has failed before.
  pub over : (files : Option Shelved) (old new : Option (List ℕ)) → told shelf ≡ files → begun shelf ≡ false → noted shelf ≡ [] → read_faults shelf ≡ 0 → taken sink ≡ old → write_faults sink ≡ 0 → taken sink_then ≡ new
      → IsRight verbs words (outside told begun noted read_faults taken write_faults shelf sink) (outside told begun noted read_faults taken write_faults shelf_then sink_then) answer
      → IsRightOver verbs words files old new answer
  over files old new told_is begun_is notes_are reads_are old_is writes_are new_is right =
      let at : Option Shelved → Option (List ℕ) → Option (List ℕ) → Bool → List Note → ℕ → ℕ → Type 0 = λ f o n b s r w. IsRight verbs words (moment f o b s r w) (moment f n (begun shelf_then) (noted shelf_then) (read_faults shelf_then) (write_faults sink_then)) answer in
      record {
        begun = begun shelf_then;
        noted = noted shelf_then;
        read_faults = read_faults shelf_then;
        write_faults = write_faults sink_then;
        right =
            subst (λ f. at f old new false [] 0 0) told_is
            (subst (λ o. at (told shelf) o new false [] 0 0) old_is
            (subst (λ n. at (told shelf) (taken sink) n false [] 0 0) new_is
            (subst (λ b. at (told shelf) (taken sink) (taken sink_then) b [] 0 0) begun_is
            (subst (λ s. at (told shelf) (taken sink) (taken sink_then) (begun shelf) s 0 0) notes_are
            (subst (λ r. at (told shelf) (taken sink) (taken sink_then) (begun shelf) (noted shelf) r 0) reads_are
            (subst (λ w. at (told shelf) (taken sink) (taken sink_then) (begun shelf) (noted shelf) (read_faults shelf) w) writes_are (by_told right)))))));
      }
