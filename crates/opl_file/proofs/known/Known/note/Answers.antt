use Rattle.std.proofs.Common.{sym, subst, ◌∙◌}
use Rattle.std.specs.HashSet.{contains}
use Rattle.osm_base.specs.KeyEq.{eq}
use Rattle.opl_file.specs.Objects.{keys_of}
use Rattle.opl_file.specs.Known.{Knows}
use Rattle.opl_file.proofs.Finding.{comes}
use Rattle.opl_file.proofs.Keys.{new_key, new_last}
use Rattle.opl_file.proofs.known.Known.note.Goals as goal

pub returns-in-Rising-clause-new : goal.returns-in-Rising-clause-new
returns-in-Rising-clause-new c = new_last c.args.objects.now c.args.key (sym c.comes_last.ensures ∙ c.if-comes_last.true)

pub returns-in_ok-new-in-Rising-2-clause-new : goal.returns-in_ok-new-in-Rising-2-clause-new
returns-in_ok-new-in-Rising-2-clause-new c = c.in_ok-new-in-Rising-2.ensures.added ∙ new_key c.args.objects.now _ c.args.key (c.in_ok-keys-in-Rising-2.ensures c.args.key)

pub returns-in_ok-new-in-Rising-2-clause-ok : goal.returns-in_ok-new-in-Rising-2-clause-ok
returns-in_ok-new-in-Rising-2-clause-ok c =
    comes (contains eq c.in_ok-keys-in-Rising-2.keys) _ (keys_of c.args.objects.now) c.args.key _ c.in_ok-keys-in-Rising-2.ensures c.in_ok-new-in-Rising-2.ensures.updates.0 c.in_ok-new-in-Rising-2.ensures.added

pub returns-in_ok-insert-in-Hashed-clause-new : goal.returns-in_ok-insert-in-Hashed-clause-new
returns-in_ok-insert-in-Hashed-clause-new c =
    let keys = subst (λ known. Knows known (keys_of c.args.objects.now)) c.in-Hashed.is c.requires in
    c.in_ok-insert-in-Hashed.ensures.added ∙ new_key c.args.objects.now _ c.args.key (keys c.args.key)

pub returns-in_ok-insert-in-Hashed-clause-ok : goal.returns-in_ok-insert-in-Hashed-clause-ok
returns-in_ok-insert-in-Hashed-clause-ok c =
    let keys = subst (λ known. Knows known (keys_of c.args.objects.now)) c.in-Hashed.is c.requires in
    comes (contains eq c.in-Hashed.keys) _ (keys_of c.args.objects.now) c.args.key _ keys c.in_ok-insert-in-Hashed.ensures.updates.0 c.in_ok-insert-in-Hashed.ensures.added
