use Rattle.osm_base.proofs.ExtendLaws.{extends_more, failed_after}
use Rattle.osm_base.proofs.coord_text.write_size.Goals as goal

pub returns-in_err-write_places-clause-kept : goal.returns-in_err-write_places-clause-kept
returns-in_err-write_places-clause-kept c =
    failed_after c.from_residual-in_err-write_places.result c.args.out.now.items c.write_digits.new.out.items c.write_places.new.out.items _ c.in_ok-write_digits.ensures.written
    (extends_more c.write_digits.new.out.items c.push.new.self.items c.write_places.new.out.items _ c.in_ok-push.ensures.items c.in_err-write_places.ensures.kept)
