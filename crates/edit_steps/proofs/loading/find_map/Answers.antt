use Rattle.edit_steps.proofs.loading.find_map.Goals as goal

pub filter-requires : goal.filter-requires
filter-requires g c =
    let read = rw (c.in-Some-Ok.is, c.in-Some-Ok.field-0-is) at c.in_ok-load.ensures.read in
    c.what_is_read_may_be_told.ensures c.args.limit read.0 c.in-Some-Ok.objects read.1
