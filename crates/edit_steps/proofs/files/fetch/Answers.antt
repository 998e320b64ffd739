use Rattle.edit_steps.specs.Fetch.{reading}
use Rattle.edit_steps.proofs.Gives.{begun_read}
use Rattle.edit_steps.proofs.files.fetch.Goals as goal

pub returns-clause-found : goal.returns-clause-found
returns-clause-found g c =
    begun_read (g.S.Shelf.told c.args.shelf.now) c.args.name.now (g.S.Shelf.rest c.begin.new.self) c.in-Ok.found c.read_rest.result (reading c.args.limit) c.if-not-found.false
    c.in-Ok.ensures.found c.read_rest.ensures.found c.read_rest.ensures.read
