use Rattle.std.proofs.Common.{arith, not, ap, sym, ◌≡◌, ◌∙◌}
use Rattle.osm_base.specs.RisingKeys.{place_in}
use Rattle.osm_base.proofs.RisingKeys.{place_le, put_there, put_new}
use Rattle.osm_base.proofs.Halving.{in_there, stands_nowhere}
use Rattle.ref_index.specs.Listed.{listed}
use Rattle.ref_index.proofs.users.put_item.Goals as goal

pub insert_at-requires : goal.insert_at-requires
insert_at-requires c =
    let at : c.place_among-at.result ≡ place_in c.args.key (listed c.args.items.now) = cc in
    omega (arith, place_le c.args.key (listed c.args.items.now))

pub returns-then-stands_at-clause-ok : goal.returns-then-stands_at-clause-ok
returns-then-stands_at-clause-ok c = put_there c.args.key (listed c.args.items.now) c.place_among-at.result (cc) (cc)

pub returns-then-stands_at-clause-first : goal.returns-then-stands_at-clause-first
returns-then-stands_at-clause-first c = ap not (sym (in_there c.args.key (listed c.args.items.now) c.place_among-at.result (cc) (cc)))

pub returns-clause-ok : goal.returns-clause-ok
returns-clause-ok c =
    c.in_ok-insert_at.ensures.ok ∙ put_new c.args.key (listed c.args.items.now) c.place_among-at.result (cc) (cc)

pub returns-clause-first : goal.returns-clause-first
returns-clause-first c = ap not (sym (stands_nowhere c.args.key (listed c.args.items.now) c.place_among-at.result c.requires (cc) (cc)))
