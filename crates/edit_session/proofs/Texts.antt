-- The tables of a run have texts that may be written.
use Rattle.std.proofs.Common.{◌≡◌, ℕ, Bool, true, false, if◌then◌else◌, List, [], ◌∷◌, drop, Option, None, Some, Result, Ok, Err, refl}
use Rattle.std.specs.List.{All, AllByRecursion}
use Rattle.std.specs.Option.{option_map}
use Rattle.std.specs.FinMap as fin
use Rattle.std.proofs.lemmas.List.Elements.{All-nil, All-cons}
use Rattle.osm_base.specs.Rank.{rank_cmp}
use Rattle.osm_table.specs.Table.{TableValue, entry_of}
use Rattle.dataset.specs.Patch.{PatchValue, after_of}
use Rattle.download.specs.Filter.{filtered}
use Rattle.import_tool.specs.Counted.{new_objects_of}
use Rattle.opl_line.specs.declared.mode.Mode.{Mode}
use Rattle.opl_line.specs.declared.mode.Mode.TheVariants as mode
use Rattle.opl_line.specs.declared.object.OplObject.{OplObject}
use Rattle.opl_file.specs.declared.fault.FileFault.{FileFault}
use Rattle.opl_file.specs.Reading.{objects_of}
use Rattle.sample_city.specs.City.{city}
use Rattle.upload_order.proofs.Basics.{none_some}
use Rattle.placeholder.specs.declared.fault.ConfirmFault.{ConfirmFault}
use Rattle.placeholder.specs.Confirm as placeholder
use Rattle.answer_file.specs.Answers.{FileAnswers, answers_of, by_lines, unless_wrong}
use Rattle.saved_session.specs.declared.fault.SavedFault.{SavedFault}
use Rattle.saved_session.specs.Resumed.{patch_to, saved_patch, saved_table}
use Rattle.tool_api.specs.declared.job.Job as jobs
use Rattle.tool_api.specs.declared.job.Job.TheVariants.{Import, Merge}
use Rattle.tool_api.specs.Plain.{plain}
use Rattle.edit_history.specs.Machine.{State, first_state, fresh}
use Rattle.edit_script.specs.declared.step.Act.{Act}
use Rattle.edit_script.specs.declared.step.Act.TheVariants as act
use Rattle.edit_script.specs.declared.step.HistoryStep.{HistoryStep}
use Rattle.edit_script.specs.declared.step.HistoryStep.TheVariants as history
use Rattle.edit_script.specs.declared.step.Purpose.{Purpose}
use Rattle.edit_script.specs.declared.step.Purpose.TheVariants as purpose
use Rattle.edit_script.specs.declared.step.Step.{Step}
use Rattle.edit_script.specs.declared.reply.StepRefusal.{StepRefusal}
use Rattle.edit_history.specs.declared.edit_step.EditStep.TheVariants.{Begin, End, Redo, Undo}
use Rattle.editor_laws.specs.Editing.{EachTable}
use Rattle.editor_laws.proofs.SeenSteps.{ran_tables, refused_tables}
use Rattle.editor_laws.specs.Texts.{BringsTexts, IsTextTable}
use Rattle.editor_laws.proofs.TextCity.{city_texts}
use Rattle.editor_laws.proofs.TextConfirming.{LeadsToTexts, confirm_texts, diff_texts}
use Rattle.editor_laws.proofs.TextFiles.{IsTextObject, filtered_texts, read_texts}
use Rattle.editor_laws.proofs.TextJobs.{job_keeps}
use Rattle.editor_laws.proofs.TextResuming.{HasTable, saved_texts}
use Rattle.edit_session.proofs.ScriptTexts.{ActBringsTexts, StepsBringTexts}
use Rattle.editor_laws.proofs.TextSteps.{steps_keep}
use Rattle.edit_steps.specs.declared.files.Fetched.{Fetched}
use Rattle.edit_steps.specs.declared.files.Fetched.TheVariants.{Missing, TooLong, Whole}
use Rattle.edit_steps.specs.declared.limits.Limits.{Limits}
use Rattle.edit_steps.specs.declared.loading.Found.{Found}
use Rattle.edit_steps.specs.declared.loading.Found.TheVariants as found
use Rattle.edit_steps.specs.Groups.{is_given_up}
use Rattle.edit_steps.specs.Load.{act_found, bytes_found, file_found, found_in, job_found, objects_found}
use Rattle.edit_steps.specs.Fetch.{reading}
use Rattle.edit_steps.specs.Given.{Given, first_given}
use Rattle.edit_steps.specs.States.{states_before}
use Rattle.edit_steps.specs.Settled.{confirmed, of_answers, of_saved, resumed}
use Rattle.edit_session.proofs.NewTexts.{new_texts}
use Rattle.edit_steps.specs.Turn.{Turn, act_turn, confirm_turn, file_turn, history_turn, job_turn, purpose_turn, resume_turn, settled_turn, skipped_turn, step_turn, turn}

-- What a step finds.

abbrev pub FoundBrings : Found → Type 0
FoundBrings (found.Job job) = BringsTexts job
FoundBrings (found.Objects objects) = AllByRecursion IsTextObject objects
FoundBrings f = Unit {0}

objects_bring : (job : List OplObject → jobs.Job) (r : Result (List OplObject) FileFault) → ((objects : List OplObject) → r ≡ Ok objects → BringsTexts (job objects)) → FoundBrings (job_found job (Some r))
objects_bring job (Err fault) h = tt
objects_bring job (Ok objects) h = h objects refl

file_brings : (job : List OplObject → jobs.Job) (m : Mode) (limit : ℕ) (o : Option (List ℕ)) → ((bytes : List ℕ) (objects : List OplObject) → objects_of m limit bytes ≡ Ok objects → BringsTexts (job objects)) → FoundBrings (job_found job (option_map (objects_of m limit) o))
file_brings job m limit None h = tt
file_brings job m limit (Some bytes) h = objects_bring job (objects_of m limit bytes) (h bytes)

bytes_bring : (f : Fetched) → FoundBrings (bytes_found f)
bytes_bring Missing = tt
bytes_bring TooLong = tt
bytes_bring (Whole bytes) = tt

served_read : (r : Result (List OplObject) FileFault) → ((objects : List OplObject) → r ≡ Ok objects → AllByRecursion IsTextObject objects) → FoundBrings (objects_found (Some r))
served_read (Err fault) h = tt
served_read (Ok objects) h = h objects refl

served_brings : (limit : ℕ) (o : Option (List ℕ)) → FoundBrings (objects_found (option_map (objects_of mode.Download limit) o))
served_brings limit None = tt
served_brings limit (Some bytes) = served_read (objects_of mode.Download limit bytes) (read_texts mode.Download limit bytes)

file_found_brings : (limits : Limits) (given : Given) (p : Purpose) → FoundBrings (file_found limits p given)
file_found_brings limits given (purpose.Download area wanted) =
    file_brings (λ objects. Merge (filtered objects area wanted)) mode.Download limits.file given (λ bytes objects is. filtered_texts objects area wanted (read_texts mode.Download limits.file bytes objects is))
file_found_brings limits given purpose.Import =
    file_brings (λ objects. Import (new_objects_of objects)) mode.Import limits.file given (λ bytes objects is. new_texts objects (read_texts mode.Import limits.file bytes objects is))
file_found_brings limits given purpose.Confirm = bytes_bring (reading limits.file given)
file_found_brings limits given purpose.Resume = bytes_bring (reading limits.file given)

pub found_brings : (limits : Limits) (given : Given) (a : Act) → FoundBrings (act_found limits given a)
found_brings limits given (act.File name p) = file_found_brings limits given p
found_brings limits given (act.Serve name) = served_brings limits.file given
found_brings limits given a = tt

pub if_given : (b : Bool) (f : Found) → FoundBrings f → FoundBrings (if b then found.Nothing else f)
if_given true f h = tt
if_given false f h = h

-- What a step makes of the tables.

abbrev pub HaveTexts : State → Type 0
HaveTexts s = EachTable IsTextTable s

fresh_texts : (t : TableValue) → IsTextTable t → HaveTexts (fresh t)
fresh_texts t h = record { past = tt; now = h; undone = tt; start = h }

settle_texts : (r : Result PatchValue StepRefusal) (s : State) → LeadsToTexts s.now r → HaveTexts s → HaveTexts (settled_turn r s).state
settle_texts (Ok patch) s i h = fresh_texts (after_of patch s.now) i
settle_texts (Err why) s i h = h

wrong_leads : (t : TableValue) (o : Option ℕ) (patch : PatchValue) → IsTextTable (after_of patch t) → LeadsToTexts t (of_answers (unless_wrong o patch))
wrong_leads t None patch h = h
wrong_leads t (Some line) patch h = tt

lines_lead : (t : TableValue) (file : FileAnswers) (r : Result PatchValue ConfirmFault) → LeadsToTexts t r → LeadsToTexts t (of_answers (by_lines file r))
lines_lead t file (Ok patch) h = wrong_leads t file.wrong patch h
lines_lead t file (Err fault) h = tt

confirmed_leads : (t : TableValue) (bytes : List ℕ) → IsTextTable t → LeadsToTexts t (confirmed t bytes)
confirmed_leads t bytes h = lines_lead t (answers_of bytes) (placeholder.confirm t (answers_of bytes).answers) (confirm_texts t (answers_of bytes).answers h)

table_leads : (t : TableValue) (r : Result TableValue SavedFault) → HasTable r → LeadsToTexts t (of_saved (patch_to t r))
table_leads t (Ok u) h = diff_texts t u h
table_leads t (Err fault) h = tt

resumed_leads : (limit : ℕ) (t : TableValue) (bytes : List ℕ) → LeadsToTexts t (resumed limit t bytes)
unfolding saved_patch
resumed_leads limit t bytes = table_leads t (saved_table limit bytes) (saved_texts limit bytes)

job_texts : (limit : ℕ) (job : jobs.Job) (s : State) → BringsTexts job → HaveTexts s → HaveTexts (job_turn limit job s).state
job_texts limit job s i h = let a = plain job s.now limit in ran_tables IsTextTable a.reply a.table s (job_keeps s.now h.now job limit i) h

file_texts : (limit : ℕ) (f : Found) (s : State) → FoundBrings f → HaveTexts s → HaveTexts (file_turn limit f s).state
file_texts limit (found.Job job) s i h = job_texts limit job s i h
file_texts limit f s i h = refused_tables IsTextTable s.group s h

confirm_texts_of : (f : Found) (s : State) → HaveTexts s → HaveTexts (confirm_turn f s).state
confirm_texts_of (found.Bytes bytes) s h = settle_texts (confirmed s.now bytes) s (confirmed_leads s.now bytes h.now) h
confirm_texts_of f s h = refused_tables IsTextTable s.group s h

resume_texts : (limit : ℕ) (f : Found) (s : State) → HaveTexts s → HaveTexts (resume_turn limit f s).state
resume_texts limit (found.Bytes bytes) s h = settle_texts (resumed limit s.now bytes) s (resumed_leads limit s.now bytes) h
resume_texts limit f s h = refused_tables IsTextTable s.group s h

either_texts : (b : Bool) (x y : Turn) → HaveTexts x.state → HaveTexts y.state → HaveTexts (if b then x else y).state
either_texts true x y h i = h
either_texts false x y h i = i

purpose_texts : (limits : Limits) (f : Found) (p : Purpose) (s : State) → FoundBrings f → HaveTexts s → HaveTexts (purpose_turn limits f p s).state
purpose_texts limits f (purpose.Download area wanted) s i h = file_texts limits.objects f s i h
purpose_texts limits f purpose.Import s i h = file_texts limits.objects f s i h
purpose_texts limits f purpose.Confirm s i h = confirm_texts_of f s h
purpose_texts limits f purpose.Resume s i h = resume_texts limits.objects f s h

history_texts : (limit : ℕ) (step : HistoryStep) (s : State) → HaveTexts s → HaveTexts (history_turn step s).state
history_texts limit history.Begin s h = steps_keep limit Begin s tt h
history_texts limit history.End s h = steps_keep limit End s tt h
history_texts limit (history.Undo n) s h = steps_keep limit (Undo n) s tt h
history_texts limit (history.Redo n) s h = steps_keep limit (Redo n) s tt h

act_texts : (limits : Limits) (f : Found) (a : Act) (s : State) → FoundBrings f → ActBringsTexts a → HaveTexts s → HaveTexts (act_turn limits f a s).state
act_texts limits f (act.Job job) s i j h = job_texts limits.objects job s j h
act_texts limits f (act.Generate streets) s i j h = job_texts limits.objects (Merge (city streets)) s (city_texts streets) h
act_texts limits f (act.History step) s i j h = history_texts limits.objects step s h
act_texts limits f (act.File name p) s i j h = purpose_texts limits f p s i h
act_texts limits f a s i j h = h

skipped_texts : (limit : ℕ) (a : Act) (s : State) → HaveTexts s → HaveTexts (skipped_turn a s).state
skipped_texts limit (act.History history.End) s h = steps_keep limit End s tt h
skipped_texts limit a s h = h

pub turn_texts : (limits : Limits) (f : Found) (a : Act) (s : State) → FoundBrings f → ActBringsTexts a → HaveTexts s → HaveTexts (turn limits f a s).state
turn_texts limits f a s i j h = either_texts (is_given_up s.group) (skipped_turn a s) (act_turn limits f a s) (skipped_texts limits.objects a s h) (act_texts limits f a s i j h)

-- So each table of a run has texts that may be written.

abbrev pub AreTextTables : List (Step × Given × State) → Type 0
AreTextTables steps = All (λ (at : Step × Given × State). IsTextTable at.2.now) steps

pub run_texts : (limits : Limits) (given : List Given) (steps : List Step) (s : State) → StepsBringTexts steps → HaveTexts s → AreTextTables (states_before limits given steps s)
run_texts limits given [] s i h = All-nil (λ (at : Step × Given × State). IsTextTable at.2.now)
run_texts limits given (step ∷ steps) s i h =
    let got = first_given given in
    let next : State = (step_turn limits got step s).state in
    All-cons (λ (at : Step × Given × State). IsTextTable at.2.now) (step, got, s) (states_before limits (drop 1 given) steps next) h.now
    (run_texts limits (drop 1 given) steps next i.1
    (turn_texts limits (found_in limits got s.group step.act) step.act s (if_given (is_given_up s.group) (act_found limits got step.act) (found_brings limits got step.act)) i.0 h))

nothing_known : IsTextTable (record { entries = fin.empty; next = 1 })
nothing_known = record { entries = λ k e is. none_some e (entry_of (record { entries = fin.empty; next = 1 }) k) (fin.get-empty rank_cmp k) is }

pub first_texts : HaveTexts first_state
first_texts = fresh_texts (record { entries = fin.empty; next = 1 }) nothing_known
