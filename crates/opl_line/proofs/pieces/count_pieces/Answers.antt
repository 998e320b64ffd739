use Rattle.std.proofs.Common.{◌≡◌, sym, ◌∙◌, ap, ◌+◌, length, arith}
use Rattle.std.proofs.lemmas.List.Sums.{count_by-le-length}
use Rattle.opl_line.specs.Cut.{is_one_of}
use Rattle.opl_line.proofs.Cutting.{pieces_counted}
use Rattle.opl_line.proofs.Marks.{marks_counted}
use Rattle.opl_line.proofs.pieces.count_pieces.Goals as goal

pub overflow_add-result : goal.overflow_add-result
overflow_add-result c = omega (arith, c.count.ensures, c.memchr_iter.ensures.len)

pub returns : goal.returns
returns c = ap (λ n. n + 1) (c.count.ensures ∙ ap (λ xs. length xs) c.memchr_iter.ensures.value ∙ marks_counted c.args.mark c.args.bytes.now) ∙ sym (pieces_counted (is_one_of c.args.mark c.args.mark) c.args.bytes.now)
