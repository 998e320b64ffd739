use Rattle.std.proofs.Common.{rules}
use Rattle.opl_line.proofs.ManyTags.{given_alike}
use Rattle.opl_line.proofs.many_tags.put_sorted.Goals as goal

pub returns : goal.returns
returns c =
    given_alike (λ _. c.put_all.new.tags) c.put_all.result c.args.list.now.items c.sort_by_key.new.tags.items c.as_slice.result.now c.args.tags.now c.in_ok-sort_by_key.ensures (search rules) c.requires c.put_all.ensures
