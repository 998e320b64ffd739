use Rattle.std.proofs.Common.{arith}
use Rattle.ref_index.proofs.BagView.{counted, counted_in}
use Rattle.ref_index.proofs.index.RefIndex.take.Goals as goal

pub take-requires-clause-there : goal.take-requires-clause-there
take-requires-clause-there c =
    let old = counted_in c.args.self.now c.self.inside.repeats.entries c.self.inside.lists.entries c.args.pair c.self.view_is in
    omega (arith, c.requires, old)

pub returns : goal.returns
returns c = λ q.
    let old = counted_in c.args.self.now c.self.inside.repeats.entries c.self.inside.lists.entries q c.self.view_is in
    let new = counted c.take.new.repeats.entries c.take.new.lists.entries q in
    let less = c.take.ensures.count q in
    cc
