use Rattle.std.proofs.Common.{arith, ◌≡◌}
use Rattle.std.specs.Ordering.{int_eq}
use Rattle.std.specs.Cmp.Lexicographic.{pointwise}
use Rattle.std.proofs.lemmas.Slice.Eq.{slice_eq-Decides}
use Rattle.std.proofs.lemmas.Bool.Decides.{Decides-int_eq}
use Rattle.osm_base.proofs.refs.Refs.same.Goals as goal

pub returns : goal.returns
returns c =
    let e : c.eq.result ≡ pointwise int_eq c.args.self.now c.args.other.now = cc in
    let d = slice_eq-Decides Decides-int_eq c.args.self.now c.args.other.now c.eq.result e in
    grind (arith, d.0, d.1)
