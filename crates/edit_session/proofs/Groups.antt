-- A group that is given up leaves the table over which it began.
use Rattle.std.proofs.Common.{◌≡◌, ℕ, zero, suc, Bool, true, false, cond, List, [], ◌∷◌, drop, length, take, refl, sym, ap, ◌∙◌, subst, arith}
use Rattle.std.proofs.lemmas.Bool.{true≢false}
use Rattle.std.proofs.lemmas.List.{take_all}
use Rattle.osm_table.specs.Table.{TableValue}
use Rattle.sample_city.specs.City.{city}
use Rattle.tool_api.specs.declared.job.Job as jobs
use Rattle.tool_api.specs.declared.job.Job.TheVariants.{Merge}
use Rattle.tool_api.specs.declared.reply.Reply.{Reply}
use Rattle.tool_api.specs.declared.reply.Reply.TheVariants as reply
use Rattle.tool_api.specs.Plain.{plain}
use Rattle.edit_script.specs.Order.{IsOrderly, may_stand}
use Rattle.edit_script.specs.Place.{is_meeting}
use Rattle.edit_script.specs.declared.step.Act.{Act}
use Rattle.edit_script.specs.declared.step.Act.TheVariants as act
use Rattle.edit_script.specs.declared.step.HistoryStep.TheVariants as history
use Rattle.edit_script.specs.declared.step.Purpose.TheVariants as purpose
use Rattle.edit_script.specs.declared.step.Step.{Step}
use Rattle.edit_history.specs.declared.counts.Group.{Group}
use Rattle.edit_history.specs.declared.counts.Group.TheVariants.{Outside, Running, Refused}
use Rattle.edit_history.specs.Machine.{State, began, done_in, first_state, ran, refused_in}
use Rattle.edit_steps.specs.declared.limits.Limits.{Limits}
use Rattle.edit_steps.specs.declared.loading.Found.{Found}
use Rattle.edit_steps.specs.declared.loading.Found.TheVariants as found
use Rattle.edit_steps.specs.Given.{Given, first_given}
use Rattle.edit_steps.specs.Groups.{is_given_up, is_open}
use Rattle.edit_steps.specs.Load.{found_in}
use Rattle.edit_steps.specs.States.{states_before}
use Rattle.edit_steps.specs.Turn.{act_turn, file_turn, job_turn, skipped_turn, step_turn}
use Rattle.edit_steps.proofs.Steps.{orderly_on}
use Rattle.edit_session.specs.Groups.{AreTakenBack, TakesBack}
use Rattle.edit_session.specs.Said.{alone}

-- Where a group ran before a turn: if it is given up, the table is the one at its start, and if it runs on, its start stays.
abbrev GoesBack : State → State → Type 0
GoesBack s after = (after.group ≡ Refused → after.now ≡ s.start) × (after.group ≡ Running → after.start ≡ s.start)

module _ (s : State) where
  stays_back : s.group ≡ Running → GoesBack s s
  stays_back running = ((λ refused. let both : Running ≡ Refused = sym running ∙ refused in absurd cc), (λ on. refl))

  done_back : (g : Group) (u : TableValue) → g ≡ Running → GoesBack s (done_in g u s)
  done_back Outside u running = absurd cc
  done_back Running u running = ((λ refused. absurd cc), (λ on. refl))
  done_back Refused u running = absurd cc

  refused_back : (g : Group) → g ≡ Running → GoesBack s (refused_in g s)
  refused_back Outside running = absurd cc
  refused_back Running running = ((λ refused. refl), (λ on. absurd cc))
  refused_back Refused running = absurd cc

  ran_back : (r : Reply) (u : TableValue) → s.group ≡ Running → GoesBack s (ran r u s)
  ran_back (reply.Done keys) u running = done_back s.group u running
  ran_back (reply.Refused why) u running = refused_back s.group running

  module _ (running : s.group ≡ Running) where
    job_back : (limit : ℕ) (job : jobs.Job) → GoesBack s (job_turn limit job s).state
    job_back limit job = ran_back (plain job s.now limit).reply (plain job s.now limit).table running

    file_back : (limit : ℕ) (f : Found) → GoesBack s (file_turn limit f s).state
    file_back limit (found.Job job) = job_back limit job
    file_back limit found.Nothing = refused_back s.group running
    file_back limit (found.Bad fault) = refused_back s.group running
    file_back limit (found.Bytes bytes) = refused_back s.group running
    file_back limit (found.Objects objects) = refused_back s.group running

    act_back : (limits : Limits) (f : Found) (a : Act) → may_stand true a ≡ true → GoesBack s (act_turn limits f a s).state
    act_back limits f (act.Job job) stands = job_back limits.objects job
    act_back limits f (act.Generate streets) stands = job_back limits.objects (Merge (city streets))
    act_back limits f (act.History history.Begin) stands = absurd (true≢false (sym stands))
    act_back limits f (act.History history.End) stands = ((λ refused. absurd cc), (λ on. absurd cc))
    act_back limits f (act.History (history.Undo n)) stands = absurd (true≢false (sym stands))
    act_back limits f (act.History (history.Redo n)) stands = absurd (true≢false (sym stands))
    act_back limits f (act.File name (purpose.Download area wanted)) stands = file_back limits.objects f
    act_back limits f (act.File name purpose.Import) stands = file_back limits.objects f
    act_back limits f (act.File name purpose.Confirm) stands = absurd (true≢false (sym stands))
    act_back limits f (act.File name purpose.Resume) stands = absurd (true≢false (sym stands))
    act_back limits f a stands = stays_back running

running_open : (g : Group) → g ≡ Running → is_open g ≡ true
running_open g is = ap is_open is

running_goes : (g : Group) → g ≡ Running → is_given_up g ≡ false
running_goes g is = ap is_given_up is

-- A step of a group that runs.
step_back : (limits : Limits) (given : Given) (step : Step) (s : State) → s.group ≡ Running → may_stand (is_open s.group) step.act ≡ true → GoesBack s (step_turn limits given step s).state
step_back limits given step s running stands =
    let f = found_in limits given s.group step.act in
    subst (λ (b : Bool). GoesBack s (cond b (skipped_turn step.act s) (act_turn limits f step.act s)).state) (sym (running_goes s.group running))
    (act_back s running limits f step.act (ap (λ b. may_stand b step.act) (sym (running_open s.group running)) ∙ stands))

-- The rest of a group that began over this table.
taken_back : (limits : Limits) (n : ℕ) (given : List Given) (steps : List Step) (s : State) (start : TableValue) → s.start ≡ start → s.group ≡ Running → IsOrderly (is_open s.group) steps → TakesBack limits start (take n (states_before limits given steps s))
taken_back limits zero given steps s start begun running orderly = tt
taken_back limits (suc n) given [] s start begun running orderly = tt
taken_back limits (suc n) given (step ∷ steps) s start begun running orderly =
    let got = first_given given in
    let next = (step_turn limits got step s).state in
    let back = step_back limits got step s running orderly.1 in (
      (λ refused. back.0 refused ∙ begun),
      (λ on. taken_back limits n (drop 1 given) steps next start (back.1 on ∙ begun) on (orderly_on limits (found_in limits got s.group step.act) step.act s next steps orderly.1 refl orderly.2)),
    )

-- A group begins where none is open.
begins_there : (limits : Limits) (f : Found) (a : Act) (s : State) (b : Bool) → a ≡ act.History history.Begin → b ≡ false → (cond b (skipped_turn a s) (act_turn limits f a s)).state ≡ began s
begins_there limits f a s true is free = absurd (true≢false free)
begins_there limits f a s false is free = ap (λ x. (act_turn limits f x s).state) is

outside_goes : (g : Group) (a : Act) → a ≡ act.History history.Begin → may_stand (is_open g) a ≡ true → is_given_up g ≡ false
outside_goes Outside a is stands = refl
outside_goes Running a is stands = refl
outside_goes Refused a is stands = let never : may_stand true (act.History history.Begin) ≡ true = ap (may_stand true) (sym is) ∙ stands in absurd (true≢false (sym never))

first_taken_back : (limits : Limits) (n : ℕ) (given : List Given) (steps : List Step) (s : State) → IsOrderly (is_open s.group) steps → AreTakenBack limits (take n (states_before limits given steps s))
first_taken_back limits zero given steps s orderly = tt
first_taken_back limits (suc n) given [] s orderly = tt
first_taken_back limits (suc n) given (step ∷ steps) s orderly =
    let got = first_given given in
    let next = (step_turn limits got step s).state in
    let behind = orderly_on limits (found_in limits got s.group step.act) step.act s next steps orderly.1 refl orderly.2 in (
      (λ begins.
          let there : next ≡ began s = begins_there limits (found_in limits got s.group step.act) step.act s (is_given_up s.group) begins (outside_goes s.group step.act begins orderly.1) in
          taken_back limits n (drop 1 given) steps next s.now (ap (λ (x : State). x.start) there) (ap (λ (x : State). x.group) there) behind),
      first_taken_back limits n (drop 1 given) steps next behind,
    )

module _ (limits : Limits) (given : List Given) (steps : List Step) where
  pub none_taken_back : (n : ℕ) → AreTakenBack limits (take n [])
  none_taken_back zero = tt
  none_taken_back (suc n) = tt

  by_meeting : (n : ℕ) (meets : Bool) → IsOrderly false steps → AreTakenBack limits (take n (cond meets [] (states_before limits given steps first_state)))
  by_meeting n true orderly = none_taken_back n
  by_meeting n false orderly = first_taken_back limits n given steps first_state orderly

  -- What is refused in a group takes back nothing that was done before it, among the first steps of a script,
  pub groups_first : (n : ℕ) → IsOrderly false steps → AreTakenBack limits (take n (alone limits given steps))
  groups_first n orderly = by_meeting n (is_meeting steps) orderly

  -- and among all of them.
  pub groups_in : IsOrderly false steps → AreTakenBack limits (alone limits given steps)
  groups_in orderly =
      let all = alone limits given steps in
      subst (AreTakenBack limits) (take_all (length all) all (omega arith)) (groups_first (length all) orderly)
