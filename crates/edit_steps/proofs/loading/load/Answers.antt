use Rattle.opl_file.specs.Reading.{objects_of}
use Rattle.edit_steps.proofs.Gives.{finds_read}
use Rattle.edit_steps.proofs.loading.load.Goals as goal

pub returns-clause-loaded : goal.returns-clause-loaded
returns-clause-loaded g c =
    finds_read (g.S.Shelf.told c.args.shelf.now) c.args.name.now (g.S.Shelf.rest c.begin.new.self) c.in-Ok.found c.in_ok-read.read (objects_of c.args.mode c.args.limit) c.if-not-found.false
    c.in-Ok.ensures.found c.in_ok-read.ensures.objects c.in_ok-read.ensures.bytes
