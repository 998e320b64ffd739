use Rattle.std.proofs.Common.{◌∙◌, sym, ap}
use Rattle.std.specs.Option.{option_copied}
use Rattle.conflict.proofs.Sounds.{after_sound}
use Rattle.conflict.proofs.resolve.resolve_plan.Goals as goal

pub settle_plan-requires : goal.settle_plan-requires
settle_plan-requires c = record {
  sound = after_sound c.args.ds.now c.args.key c.args.choice.now c.in-Some.entry.now c.in_ok-after.after c.requires.sound (sym c.entry.ensures ∙ ap option_copied c.in-Some.is)
      (sym c.in_ok-refusal.ensures ∙ c.in_default-2.is) c.in_ok-after.ensures;
}
