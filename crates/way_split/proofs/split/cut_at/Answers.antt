use Rattle.std.proofs.Common.{◌<◌, ◌≤◌, length, sym, refl, arith}
use Rattle.way_split.proofs.Endings.{incomplete_refuses, few_refuse, pieces_pass}
use Rattle.way_split.proofs.split.cut_at.Goals as goal

pub returns-in-Some : goal.returns-in-Some
returns-in-Some c = incomplete_refuses c.args.ds.now c.args.way c.args.cuts.now c.args.refs.now c.requires.refs c.requires.target _ (sym c.requires.cuts) c.in-Some.ensures

pub returns-then-len-lt2 : goal.returns-then-len-lt2
returns-then-len-lt2 c =
    few_refuse c.args.ds.now c.args.way c.args.cuts.now c.args.refs.now c.requires.refs c.requires.target c.args.cuts.now c.in_ok-pieces.pieces.items (sym c.requires.cuts) c.in_default.ensures refl c.in_ok-pieces.ensures
    (let h : length c.in_ok-pieces.pieces.items < 2 = omega (arith, c.in_ok-pieces.pieces.ok.0) in h)

pub returns : goal.returns
returns c =
    pieces_pass c.args.ds.now c.args.way c.args.cuts.now c.args.refs.now c.requires.refs c.requires.target c.args.cuts.now c.in_ok-pieces.pieces.items (sym c.requires.cuts) c.in_default.ensures refl c.in_ok-pieces.ensures
    (let h : 2 ≤ length c.in_ok-pieces.pieces.items = omega (arith, c.in_ok-pieces.pieces.ok.0) in h)
