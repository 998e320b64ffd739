-- A session is right, whether it came to its end or stopped.
use Rattle.std.proofs.Common.{◌≡◌, ◌⊎◌, ◌<◌, ◌∙◌, inl, inr, ℕ, Bool, List, None, Result, Ok, Err, refl, sym, ap, subst, arith}
use Rattle.osm_outside.specs.Lines.{CutsNoLine}
use Rattle.osm_outside.specs.Outside.{Rose}
use Rattle.command_line.specs.Words.{command_of}
use Rattle.tool_api.specs.declared.verb.Verb.{Verb}
use Rattle.edit_session.specs.declared.status.Status.{Status}
use Rattle.edit_session.specs.declared.status.Status.TheVariants as status
use Rattle.edit_steps.specs.declared.stop.Stop.{Stop}
use Rattle.edit_steps.specs.declared.stop.Stop.TheVariants as stops
use Rattle.edit_steps.specs.Needs.{count_verb}
use Rattle.edit_session.specs.Moment.{Outside}
use Rattle.edit_session.specs.Right.{IsRight}
use Rattle.edit_session.specs.Reads.{reads_by}
use Rattle.edit_session.specs.Runs.{LinePromised, LineReached, LineStopped}
use Rattle.edit_session.specs.Session.{outcome_by, line_given, IsAsked, IsEarly, IsEnd, IsStop}
use Rattle.edit_steps.specs.Stop.{StopCause}
use Rattle.edit_session.specs.StopStatus.{status_of}
use Rattle.edit_session.proofs.Alone.{nothing_noted}
use Rattle.edit_session.proofs.Confirms.{confirmed_by}
use Rattle.edit_session.proofs.Missing.{missed_by}
use Rattle.edit_session.proofs.Script.{comes_stop, line_none}
use Rattle.edit_session.proofs.Words.{ComesTo, agrees_by, cut_short, first_noted, keeps_by, meetings_by, no_stop, noted_by, saves_by, stopped_by, tables_by, that_stop, uploads_by}

-- what words that ask for nothing come to
abbrev IsBad : Result Status Stop → Type 0
IsBad result = (result ≡ Ok status.BadWords) ⊎ (result ≡ Err stops.Memory)

bad_ended : (answer : Status) → IsBad (Ok answer) → (answer ≡ status.BadWords) ⊎ (answer ≡ status.Memory)
bad_ended answer (inl is) = inl cc
bad_ended answer (inr is) = absurd cc

bad_stopped : (stop : Stop) → IsBad (Err stop) → (status_of stop ≡ status.BadWords) ⊎ (status_of stop ≡ status.Memory)
bad_stopped stop (inl is) = absurd cc
bad_stopped stop (inr is) = inr cc

-- The status of a stop is that of a fault or of want of memory,
is_stop : (stop : Stop) → IsStop (status_of stop)
is_stop stops.ReadFault = tt
is_stop stops.WriteFault = tt
is_stop stops.Memory = tt

not_early : (stop : Stop) → IsEarly (status_of stop) → ⊥
not_early stops.ReadFault early = early
not_early stops.WriteFault early = early
not_early stops.Memory early = early

nothing_asked : (begun : Bool) (stop : Stop) → IsAsked begun (status_of stop)
nothing_asked begun stops.ReadFault = tt
nothing_asked begun stops.WriteFault = tt
nothing_asked begun stops.Memory = tt

-- and of the very stop that it tells.
abbrev stopped : Stop → Result Status Stop
stopped stop = Err stop

same_stop : (a b : Stop) → stopped a ≡ stopped b → a ≡ b
same_stop a b is = cc

read_told : (stop : Stop) → status_of stop ≡ status.ReadFault → stop ≡ stops.ReadFault
read_told stops.ReadFault is = refl
read_told stops.WriteFault is = absurd cc
read_told stops.Memory is = absurd cc

write_told : (stop : Stop) → status_of stop ≡ status.WriteFault → stop ≡ stops.WriteFault
write_told stops.ReadFault is = absurd cc
write_told stops.WriteFault is = refl
write_told stops.Memory is = absurd cc

-- Where no call failed, what stopped it is want of memory.
by_memory : (stop : Stop) (R W : Type 0) → (stop ≡ stops.ReadFault → R) → (stop ≡ stops.WriteFault → W) → (R → ⊥) → (W → ⊥) → status_of stop ≡ status.Memory
by_memory stops.ReadFault R W read write no_read no_write = absurd (no_read (read refl))
by_memory stops.WriteFault R W read write no_read no_write = absurd (no_write (write refl))
by_memory stops.Memory R W read write no_read no_write = refl

not_done : (stop : Stop) → status_of stop ≡ status.Done → ⊥
not_done stops.ReadFault is = cc
not_done stops.WriteFault is = cc
not_done stops.Memory is = cc

module _ {S K : Type 0} (verbs : List Verb) (words : List (List ℕ)) (before after : Outside S K) where
  pub right_ended : (answer : Status) → IsEnd answer → ComesTo before.files verbs words before.text after.text before.noted after.noted (Ok answer)
      → StopCause {T = Status} before.read_faults after.read_faults before.write_faults after.write_faults (Ok answer)
      → CutsNoLine {T = Status} stops.WriteFault before.text after.text (Ok answer)
      → after.files ≡ before.files → (IsEarly answer → after.sink ≡ before.sink) → IsAsked after.begun answer
      → ((verb : Verb) → answer ≡ status.NoTool verb → count_verb verbs verb < 4) → (answer ≡ status.BadWords → command_of words ≡ None)
      → (command_of words ≡ None → IsBad (Ok answer)) → (command_of words ≡ None → (after.shelf ≡ before.shelf) × (after.sink ≡ before.sink))
      → IsRight verbs words before after answer
  right_ended answer end comes cause cuts told unwritten asked no_tool bad bad_is unread =
      let given = comes.given in
      record {
        given = given;
        by_files = comes.by_files;
        outcome = agrees_by before.text after.text answer (outcome_by verbs words given) end comes.ok;
        stopped = no_stop answer (λ stop. LineStopped (command_of words) before.text after.text stop given) end;
        noted = noted_by before.text before.noted after.noted answer (reads_by verbs words given) end comes.noted;
        lines = λ other. cuts.lines (λ is. cc);
        complete = λ done no_read no_write. inl (comes.ok.0 ∙ done);
        read = λ is. absurd (subst IsEnd is end);
        write = λ is. absurd (subst IsEnd is end);
        read_quiet = λ other. cause.read_quiet (λ is. cc);
        write_quiet = λ other. cause.write_quiet (λ is. cc);
        later = (cause.read_later, cause.write_later);
        words = bad;
        bad_words = λ none. bad_ended answer (bad_is none);
        unread = unread;
        unwritten = unwritten;
        asked = asked;
        told = told;
        no_tool = λ verb is. missed_by verbs verb (command_of words) given (no_tool verb is) (sym comes.ok.0 ∙ is);
        tables = λ done. tables_by (command_of words) given (comes.done done);
        uploads = λ done. uploads_by (command_of words) given (comes.done done);
        saves = λ done. saves_by (command_of words) given (comes.done done);
        confirms = confirmed_by (command_of words) given;
        meetings = λ done. meetings_by (command_of words) given (comes.done done);
        keeps = λ done. keeps_by (command_of words) given (comes.done done);
      }

  pub right_stopped : (stop : Stop) → ComesTo before.files verbs words before.text after.text before.noted after.noted (Err stop)
      → StopCause {T = Status} before.read_faults after.read_faults before.write_faults after.write_faults (Err stop)
      → CutsNoLine {T = Status} stops.WriteFault before.text after.text (Err stop)
      → after.files ≡ before.files → (command_of words ≡ None → IsBad (Err stop)) → (command_of words ≡ None → (after.shelf ≡ before.shelf) × (after.sink ≡ before.sink))
      → IsRight verbs words before after (status_of stop)
  right_stopped stop comes cause cuts told bad_is unread =
      let given = comes.given in
      record {
        given = given;
        by_files = comes.by_files;
        outcome = cut_short before.text after.text stop (outcome_by verbs words given) comes.err;
        stopped = that_stop stop (λ s. LineStopped (command_of words) before.text after.text s given) (stopped_by (command_of words) before.text after.text stop given comes.stopped);
        noted = first_noted before.text before.noted after.noted stop (reads_by verbs words given) comes.noted_first;
        lines = λ other. cuts.lines (λ is. other (ap status_of (same_stop stop stops.WriteFault is)));
        complete = λ done no_read no_write. inr (by_memory stop (Rose before.read_faults after.read_faults) (Rose before.write_faults after.write_faults)
            (λ is. cause.read (ap Err is)) (λ is. cause.write (ap Err is)) no_read no_write);
        read = λ is. cause.read (ap Err (read_told stop is));
        write = λ is. cause.write (ap Err (write_told stop is));
        read_quiet = λ other. cause.read_quiet (λ is. other (ap status_of (same_stop stop stops.ReadFault is)));
        write_quiet = λ other. cause.write_quiet (λ is. other (ap status_of (same_stop stop stops.WriteFault is)));
        later = (cause.read_later, cause.write_later);
        words = λ is. absurd (subst IsStop is (is_stop stop));
        bad_words = λ none. bad_stopped stop (bad_is none);
        unread = unread;
        unwritten = λ early. absurd (not_early stop early);
        asked = nothing_asked after.begun stop;
        told = told;
        no_tool = λ verb is. absurd (subst IsStop is (is_stop stop));
        tables = λ done. absurd (not_done stop done);
        uploads = λ done. absurd (not_done stop done);
        saves = λ done. absurd (not_done stop done);
        confirms = confirmed_by (command_of words) given;
        meetings = λ done. absurd (not_done stop done);
        keeps = λ done. absurd (not_done stop done);
      }

-- The verbs are those of the tools, however they are told.
pub with_verbs : {S K : Type 0} (verbs others : List Verb) (words : List (List ℕ)) (before after : Outside S K) (answer : Status) → verbs ≡ others → IsRight verbs words before after answer → IsRight others words before after answer
with_verbs verbs others words before after answer same right = subst (λ vs. IsRight vs words before after answer) same right

-- Want of memory may end a session before anything is read or written.
pub memory_at_once : {S K : Type 0} (verbs : List Verb) (words : List (List ℕ)) (before : Outside S K) → IsRight verbs words before before status.Memory
memory_at_once verbs words before =
    right_stopped verbs words before before stops.Memory
    (comes_stop before.files (line_given (command_of words)) before.text before.noted before.noted stops.Memory (outcome_by verbs words) (reads_by verbs words) (λ given. LinePromised (command_of words) given) (LineReached (command_of words) before.text before.text) (λ given. nothing_noted before.text before.noted (reads_by verbs words given)) (line_none (command_of words) before.text stops.Memory))
    (record { read_later = omega arith; write_later = omega arith; read = λ is. absurd cc; write = λ is. absurd cc; read_quiet = λ other. refl; write_quiet = λ other. refl })
    (record { lines = λ other told. told }) refl (λ none. inr refl) (λ none. (refl, refl))
