-- What a part of a session promises, from where it begins to the session's end.
use Rattle.std.specs.Prelude.{◌≡◌, ◌<◌, ℕ, List, IfOk, Result}
use Rattle.osm_outside.specs.Noted.{Read}
use Rattle.osm_outside.specs.Outside.{Shelved}
use Rattle.tool_api.specs.declared.verb.Verb.{Verb}
use Rattle.edit_steps.specs.declared.stop.Stop.{Stop}
use Rattle.edit_steps.specs.Given.{Given}
use Rattle.edit_steps.specs.Needs.{count_verb}
use Rattle.edit_session.specs.declared.status.Status.{Status}
use Rattle.edit_session.specs.declared.status.Status.TheVariants as status
use Rattle.edit_session.specs.Moment.{Outside}
use Rattle.edit_session.specs.Session.{Comes, IsAsked, IsEarly}

-- the answers with which a session ends whose words ask for one
abbrev pub IsRun : Status → Type 0
IsRun status.BadWords = ⊥
IsRun status.ReadFault = ⊥
IsRun status.WriteFault = ⊥
IsRun status.Memory = ⊥
IsRun other = Unit {0}

-- What is left of a session comes to its end, between these two moments: its answer is such a one. Each field is a promise of
-- its own, as in `IsRight`.
pub record Part {S K : Type 0} (verbs : List Verb) (before after : Outside S K) (result : Result Status Stop) (there : Shelved → List Given) (end : List Given → Status × List ℕ) (reads : List Given → List Read) (Then : List Given → Type 0) (Stopped : Stop → List Given → Type 0) (IsSo : Status → Type 0) : Type 0 where
  pub comes : Comes before.files there before.text after.text before.noted after.noted result end reads Then Stopped
  pub no_tool : IfOk result (λ answer. (verb : Verb) → answer ≡ status.NoTool verb → count_verb verbs verb < 4)
  pub early : IfOk result (λ answer. IsEarly answer → after.sink ≡ before.sink)
  pub asked : IfOk result (IsAsked after.begun)
  pub told : after.files ≡ before.files
  pub is_so : IfOk result IsSo
