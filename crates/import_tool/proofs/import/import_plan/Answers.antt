use Rattle.std.proofs.Common.{ℕ, sym, subst, IfOk}
use Rattle.tool_api.specs.Import.{AreNewObjects, import}
use Rattle.tool_api.specs.Planned.{Plans}
use Rattle.import_tool.specs.Known.{Names}
use Rattle.import_tool.proofs.import.import_plan.Goals as goal

pub named_plan-requires : goal.named_plan-requires
named_plan-requires c = record {
  sound = c.requires;
  objects = subst AreNewObjects (sym c.as_slice-objects.ensures.value) c.as_slice-objects.ensures.new_objects;
  names = subst (λ (next : ℕ). Names next c.as_slice-objects.result.now c.in_ok-names.names.keys.entries) c.next.ensures c.in_ok-names.ensures;
}

pub returns : goal.returns
returns c = subst (λ objects. IfOk c.named_plan.result (Plans c.args.ds.now (import c.args.ds.now c.args.limit objects))) c.as_slice-objects.ensures.value c.named_plan.ensures
