-- No edit is lost in a session's run, and nothing that others changed goes unheard.
use Rattle.std.specs.Prelude.{List, drop, Option, None, Some}
use Rattle.command_line.specs.Words.{CommandLineValue}
use Rattle.edit_script.specs.declared.step.Step.{Step}
use Rattle.edit_steps.specs.declared.limits.Limits.{Limits}
use Rattle.edit_steps.specs.Fetch.{reading}
use Rattle.edit_steps.specs.Given.{Given, first_given}
use Rattle.edit_steps.specs.Limits.{limits_of}
use Rattle.edit_session.specs.Groups.{AreTakenBack}
use Rattle.edit_session.specs.Heard.{AreHeard, AreHeardMet}
use Rattle.edit_session.specs.Invents.{AreAsked}
use Rattle.edit_session.specs.Owed.{AreOwed}
use Rattle.edit_session.specs.Parts.{LeaveParts}
use Rattle.edit_session.specs.Said as said
use Rattle.edit_session.specs.Said.{AreKept}
use Rattle.edit_session.specs.SaidMet.{AreKeptMet}
use Rattle.edit_session.specs.Session as session
use Rattle.edit_session.specs.Session.{steps_in}

-- Each step keeps what is edited, of a script for one editor and of a meeting, so that each edit of the former is owed up to an upload;
-- no step of a script for one editor makes an edit of which it doesn't say so, drops a part of an object that it isn't asked for, or takes
-- back what was done before its group; and what a step tells in a newer version is heard.
pub record RunKeeps (limits : Limits) (given : List Given) (steps : List Step) : Type 0 where
  pub alone : AreKept limits (said.alone limits given steps)
  pub meetings : AreKeptMet limits (session.meetings limits given steps)
  pub owed : AreOwed limits (said.alone limits given steps)
  pub asked : AreAsked limits (said.alone limits given steps)
  pub parts : LeaveParts limits (said.alone limits given steps)
  pub groups : AreTakenBack limits (said.alone limits given steps)
  pub heard : AreHeard limits (said.alone limits given steps)
  pub heard_met : AreHeardMet limits (session.meetings limits given steps)

-- Each step of the run that a command line asks for does so where its reads gave this, if the words are one.
abbrev pub AreKeptBy : Option CommandLineValue → List Given → Type 0
AreKeptBy None given = Unit {0}
AreKeptBy (Some line) given = RunKeeps (limits_of line) (drop 1 given) (steps_in (reading (limits_of line).script (first_given given)))
