use Rattle.edit_steps.proofs.loading.find_new.Goals as goal

pub new_objects-requires : goal.new_objects-requires
new_objects-requires g c =
    let read = rw (c.in-Some-Ok.is, c.in-Some-Ok.field-0-is) at c.in_ok-load.ensures.read in
    (c.args.limit, read.0, read.1)
