use Rattle.std.proofs.Common.{◌++◌, ◌∙◌, arith, drop, flat_map, get_or, pos, refl, rules, subst, sym}
use Rattle.std.proofs.lemmas.Result.{err_from_is_err_and}
use Rattle.osm_base.specs.declared.key.Kind.TheVariants.{Node}
use Rattle.osm_base.specs.declared.key.Key.{Key}
use Rattle.edit_steps.specs.Printed.{lines_of}
use Rattle.edit_steps.proofs.LineEnds.{object_lines}
use Rattle.osm_outside.specs.Lines.{AreLines}
use Rattle.osm_outside.proofs.Lines.{both_lines, took_lines}
use Rattle.osm_outside.proofs.Along.{along-front, item_next}
use Rattle.osm_outside.proofs.Pieces.{along-stop, piece_more, piece_front, piece_end}
use Rattle.edit_steps.proofs.sending.send_lines.Goals as goal

-- what stands at an index past the end
abbrev none : Key
none = record { kind = Node; id = pos 0 }

pub returns-in_err-write_lines-clause-err : goal.returns-in_err-write_lines-clause-err
returns-in_err-write_lines-clause-err g c =
    let p = err_from_is_err_and c.from_residual-in_err-write_lines.result c.from_residual-in_err-write_lines.ensures.1 in
    rw p.1 (along-stop (g.K.Sink.taken c.args.out.now) (g.K.Sink.taken c.loop-key.out) (c.loop-key.piece.items ++ flat_map (lines_of c.args.lines c.args.ds.now) (drop c.loop-key.key-index c.args.keys.now)) (flat_map (lines_of c.args.lines c.args.ds.now) c.args.keys.now) c.loop-key.invariant.text)

pub returns-in_err-write_lines-clause-lines : goal.returns-in_err-write_lines-clause-lines
returns-in_err-write_lines-clause-lines g c = record { lines = λ quiet. c.loop-key.invariant.taken }

pub returns-in-Err-clause-err : goal.returns-in-Err-clause-err
returns-in-Err-clause-err g c =
    piece_front _ _ _ _ _ _ _ _ (item_next (lines_of c.args.lines c.args.ds.now) c.args.keys.now c.loop-key.key-index (get_or c.args.keys.now c.loop-key.key-index none) none (omega arith) refl)
    c.loop-key.invariant.text c.in_ok-write_lines.ensures.written _ c.in-Err.ensures.err

pub loop-key-preserved : goal.loop-key-preserved
loop-key-preserved g c =
    let passed = c.in-Ok.ensures in
    let filled = both_lines _ _ c.loop-key.invariant.lines (object_lines c.args.lines c.args.ds.now (get_or c.args.keys.now c.loop-key.key-index none)) in
    let left = passed.lines (subst AreLines (sym c.in_ok-write_lines.ensures.written) filled) in
    record {
      lines = left.0;
      taken = λ told. left.1 (c.loop-key.invariant.taken told);
      quiet = passed.cause.quiet ∙ c.loop-key.invariant.quiet;
      text = piece_more _ _ _ _ _ _ _ _ (item_next (lines_of c.args.lines c.args.ds.now) c.args.keys.now c.loop-key.key-index (get_or c.args.keys.now c.loop-key.key-index none) none (omega arith) refl)
          c.loop-key.invariant.text c.in_ok-write_lines.ensures.written _ _ passed.ok;
    }

pub returns-in_err-put-clause-err : goal.returns-in_err-put-clause-err
returns-in_err-put-clause-err g c =
    let p = err_from_is_err_and c.from_residual-in_err-put.result c.from_residual-in_err-put.ensures.1 in
    rw p.1 (along-front (g.K.Sink.taken c.args.out.now) (g.K.Sink.taken c.loop-key.out) (g.K.Sink.taken c.put.new.out) c.loop-key.piece.items (flat_map (lines_of c.args.lines c.args.ds.now) (drop c.loop-key.key-index c.args.keys.now)) (flat_map (lines_of c.args.lines c.args.ds.now) c.args.keys.now) c.loop-key.invariant.text (rw c.deref.ensures.value at c.in_err-put.ensures.err))

pub returns-clause-ok : goal.returns-clause-ok
returns-clause-ok g c =
    piece_end (lines_of c.args.lines c.args.ds.now) _ _ _ _ c.args.keys.now c.loop-key.key-index _ (omega arith) c.loop-key.invariant.text (rw c.deref.ensures.value at c.in_ok-put.ensures.ok)

pub returns-clause-lines : goal.returns-clause-lines
returns-clause-lines g c = record {
  lines = λ quiet told. took_lines _ _ _ c.loop-key.invariant.lines (rw c.deref.ensures.value at c.in_ok-put.ensures.ok) (c.loop-key.invariant.taken told);
}

pub returns-in_err-put-clause-lines : goal.returns-in_err-put-clause-lines
returns-in_err-put-clause-lines g c =
    let p = err_from_is_err_and c.from_residual-in_err-put.result c.from_residual-in_err-put.ensures.1 in
    let put = c.in_err-put.ensures.lines (subst AreLines (sym c.deref.ensures.value) c.loop-key.invariant.lines) in
    rw p.1 (record { lines = λ quiet told. put.lines (λ is. quiet (search rules)) (c.loop-key.invariant.taken told) })
