use Rattle.std.proofs.Common.{◌+◌, drop, sym, ◌∙◌, ap, subst, arith}
use Rattle.std.specs.Prelude.{T}
use Rattle.std.proofs.lemmas.List.{drop_more}
use Rattle.osm_base.specs.RisingKeys.{rises}
use Rattle.osm_table.specs.Table.{users}
use Rattle.upload_order.specs.Counts.{Counts, put_all}
use Rattle.upload_order.proofs.Raising.{by_room, raises_by_more, raises_by_none}
use Rattle.upload_order.proofs.Users.{are_users}
use Rattle.upload_order.proofs.order.count.Goals as goal

pub loop-key-init : goal.loop-key-init
loop-key-init c = raises_by_none (users c.args.ds.now) c.args.keys.now c.put_keys.new.waiting (c.in_ok-put_keys.ensures ∙ ap (λ (m : Counts). put_all m c.args.keys.now) c.requires)

pub raise_all-requires : goal.raise_all-requires
raise_all-requires c =
    let ks = c.args.keys.now in
    let i = c.loop-key.key-index in
    record {
      rise = subst (λ us. T (rises us)) (sym c.users.ensures) ((are_users c.args.ds.now).rise _);
      room = by_room (users c.args.ds.now) ks i c.loop-key.waiting (drop i ks) c.loop-key.invariant (omega arith);
    }

pub loop-key-preserved : goal.loop-key-preserved
loop-key-preserved c =
    let ks = c.args.keys.now in
    let i = c.loop-key.key-index in
    raises_by_more (users c.args.ds.now) ks i c.loop-key.waiting (drop i ks) c.loop-key.invariant _ (drop (i + 1) ks) c.users.result.now c.raise_all.new.waiting
    (drop_more ks i _ (omega arith)) c.users.ensures
    (subst (λ us. T (rises us)) (sym c.users.ensures) ((are_users c.args.ds.now).rise _)) c.in_ok-raise_all.ensures
