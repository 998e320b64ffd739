use Rattle.std.proofs.Common.{◌∙◌, ◌<◌, length, sym, arith}
use Rattle.std.proofs.lemmas.Bool.{not-true}
use Rattle.osm_base.proofs.Halving.{goes_behind, goes_no_further}
use Rattle.osm_table.proofs.rising.is_between.Goals as goal

pub returns-then-is_before-clause-start : goal.returns-then-is_before-clause-start
returns-then-is_before-clause-start c = λ both.
    let within : c.args.start < length c.args.keys.now = grind (arith, c.requires.order, c.if-end-keys.false) in
    goes_behind c.args.key c.args.keys.now c.args.start _ c.requires.rises within (sym c.is_before.ensures ∙ c.if-is_before.true)

pub returns-then-is_before-clause-end : goal.returns-then-is_before-clause-end
returns-then-is_before-clause-end c = λ both.
    goes_no_further c.args.key c.args.keys.now c.args.end _ c.requires.rises (grind (arith, c.if-end-keys.false)) (sym c.is_before-then-is_before.ensures ∙ not-true _ both)
