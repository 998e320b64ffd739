use Rattle.std.proofs.Common.{◌≡◌, ◌++◌, ◌∙◌, ap, inr, length, subst, sym}
use Rattle.osm_outside.specs.Lines.{AreLines}
use Rattle.osm_outside.proofs.Lines.{took_lines}
use Rattle.chunking.specs.Chunks.{upload_line}
use Rattle.chunking.proofs.Ends.{upload_ends}
use Rattle.chunking.proofs.sending.send_first.Goals as goal

pub returns-clause-lines : goal.returns-clause-lines
returns-clause-lines g c =
    let line = upload_line (length c.args.changes.now) c.args.count in
    let text : c.write_upload_line.new.out.items ≡ line = c.in_ok-write_upload_line.ensures.written ∙ ap (λ l. l ++ line) c.new-text.ensures.items in
    let lines = subst AreLines (sym text) (inr (upload_ends (length c.args.changes.now) c.args.count)) in
    record { lines = λ quiet told. took_lines _ _ _ lines (rw c.deref.ensures.value at c.in_ok-put.ensures.ok) told }
