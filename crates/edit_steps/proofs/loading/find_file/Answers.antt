use Rattle.std.specs.Option.{option_copied}
use Rattle.edit_steps.proofs.Finding.{map_is_found}
use Rattle.edit_steps.proofs.loading.find_file.Goals as goal

pub returns-in-Download-clause-found : goal.returns-in-Download-clause-found
returns-in-Download-clause-found g c =
    map_is_found (g.S.Shelf.told c.args.shelf.now) c.args.limits c.args.purpose.now c.find_map.result c.args.name.now c.in-Download.area c.in-Download.wanted
    (option_copied c.as_ref.result) c.in-Download.is c.as_ref.ensures.value c.find_map.ensures.found
