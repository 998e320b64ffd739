use Rattle.std.proofs.Common.{rules}
use Rattle.opl_line.proofs.ManyTags.{listed_tag, listed_key}
use Rattle.opl_line.proofs.many_tags.list_tag.Goals as goal

pub returns-in_ok-push-in-Ok : goal.returns-in_ok-push-in-Ok
returns-in_ok-push-in-Ok c =
    listed_tag c.args.list.now.items c.push.new.self.items c.args.item.now c.in_ok-key.key c.in-Some.rest.now c.in-Ok.value (search rules) (search rules) (search rules) c.in_ok-push-in-Ok.ensures.items

pub returns-in_ok-list_key-in-Err : goal.returns-in_ok-list_key-in-Err
returns-in_ok-list_key-in-Err c =
    listed_key c.in-Err.answer c.args.list.now.items c.list_key.new.list.items c.args.item.now c.in_ok-key.key c.in-Some.rest.now (search rules) (search rules) (search rules) (search rules)
