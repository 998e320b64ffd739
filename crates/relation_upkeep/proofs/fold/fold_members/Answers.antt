use Rattle.std.proofs.Common.{arith, ◌<◌, ◌≤◌, length}
use Rattle.relation_upkeep.proofs.Folds.{skipped, read_none, read_some}
use Rattle.relation_upkeep.proofs.fold.fold_members.Goals as goal

pub loop-i-preserved-then-skip-gt0 : goal.loop-i-preserved-then-skip-gt0
loop-i-preserved-then-skip-gt0 c =
    skipped c.args.ways.now c.args.kept _ c.loop-i.skip c.loop-i.i c.as_slice-items.result.now _ (let some : 0 < c.loop-i.skip = omega arith in some)
    (let h : c.loop-i.i < length c.as_slice-items.result.now = omega arith in h) c.loop-i.invariant

pub returns-in-None : goal.returns-in-None
returns-in-None c =
    read_none c.args.ways.now c.args.kept c.loop-i.folded.items c.read_first.new.folded.items c.loop-i.skip c.loop-i.i c.as_slice-items.result.now c.members_from-rest.result.now _ c.in_ok-read_first.field-0 (let none : c.loop-i.skip ≤ 0 = omega arith in none)
    c.members_from-rest.ensures c.loop-i.invariant c.in_ok-read_first.ensures c.in-None.is

pub loop-i-preserved : goal.loop-i-preserved
loop-i-preserved c =
    read_some c.args.ways.now c.args.kept c.loop-i.folded.items c.read_first.new.folded.items c.loop-i.skip c.loop-i.i c.in-Some.behind c.as_slice-items.result.now c.members_from-rest.result.now _ c.in_ok-read_first.field-0 (let none : c.loop-i.skip ≤ 0 = omega arith in none)
    c.members_from-rest.ensures c.loop-i.invariant c.in_ok-read_first.ensures c.in-Some.is
