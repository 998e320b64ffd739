use Rattle.dataset.proofs.Results.{and_ok}
use Rattle.dataset.proofs.told_index.lists_by.Goals as goal

pub put_objects-requires : goal.put_objects-requires
put_objects-requires c = record { places = c.in_ok-lists.ensures.places; none = c.in_ok-lists.ensures.none; keys = c.requires }

pub returns : goal.returns
returns c = and_ok _ c.put_objects.result c.put_objects.new.lists c.and.result c.and.ensures (λ beside. beside) c.put_objects.ensures
