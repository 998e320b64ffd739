-- Which tool a session misses.
--
-- For example with one box of each verb no script for one editor misses a tool, and a meeting of two misses that of the first job of the
-- second.
use Rattle.std.specs.Prelude.{◌≡◌, ◌<◌, List, Option, None, Some}
use Rattle.command_line.specs.Words.{CommandLineValue}
use Rattle.tool_api.specs.declared.verb.Verb.{Verb}
use Rattle.edit_script.specs.declared.step.Step.{Step}
use Rattle.edit_steps.specs.Fetch.{reading}
use Rattle.edit_steps.specs.Given.{Given, first_given}
use Rattle.edit_steps.specs.Limits.{limits_of}
use Rattle.edit_steps.specs.Needs.{count_verb, last_editor, missing_verb}
use Rattle.edit_session.specs.Session.{steps_in}

-- A step needs a tool of the verb, and fewer boxes have it than there are editors. There are at most four.
pub record Misses (verbs : List Verb) (steps : List Step) (verb : Verb) : Type 0 where
  pub missing : missing_verb verbs steps ≡ Some verb
  pub fewer : count_verb verbs verb < last_editor steps
  pub four : count_verb verbs verb < 4

-- So do the steps of the script for which a command line asks, where its reads gave this.
abbrev pub MissesBy : Option CommandLineValue → List Given → List Verb → Verb → Type 0
MissesBy None given verbs verb = ⊥
MissesBy (Some line) given verbs verb = Misses verbs (steps_in (reading (limits_of line).script (first_given given))) verb
