use Rattle.std.proofs.Common.{◌∙◌, sym}
use Rattle.merge_tool.proofs.Plans.{refused}
use Rattle.merge_tool.proofs.merge.cases_plan.Goals as goal

pub clear_plan-requires : goal.clear_plan-requires
clear_plan-requires c = record {
  sound = c.requires.sound;
  clear = sym c.in_ok-refusal.ensures ∙ c.in-None.is;
  entries = c.in_ok-draft.ensures.entries;
  number = c.in_ok-draft.ensures.number;
  names = c.deref.ensures.value ∙ c.in_ok-draft.ensures.names;
  candidates = c.deref-in-None.ensures.value ∙ c.in_ok-draft.ensures.candidates;
}

pub returns-in-Some : goal.returns-in-Some
returns-in-Some c = refused c.args.ds.now c.args.told.now c.args.limit c.in-Some.refusal (sym c.in-Some.is ∙ c.in_ok-refusal.ensures)
