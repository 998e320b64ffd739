-- Whether an entry is in a part of the plan depends on its kind of change alone.
use Rattle.std.proofs.Common.{◌≡◌, false, refl}
use Rattle.osm_base.specs.declared.key.Kind.{Kind}
use Rattle.osm_base.specs.declared.key.Kind.TheVariants as kind
use Rattle.osm_table.specs.declared.entry.Entry.{Entry}
use Rattle.upload_order.specs.Kinds.{is_rising, is_falling}
use Rattle.upload_order.specs.Part.{is_part}
use Rattle.upload_order.proofs.Where.{rising_part, falling_part}

pub rising_alike : (kd a : Kind) (e f : Entry) → is_rising e ≡ is_rising f → is_part (rising_part kd) a e ≡ is_part (rising_part kd) a f
rising_alike kind.Node kind.Node e f h = h
rising_alike kind.Node kind.Way e f h = refl
rising_alike kind.Node kind.Relation e f h = refl
rising_alike kind.Way kind.Node e f h = refl
rising_alike kind.Way kind.Way e f h = h
rising_alike kind.Way kind.Relation e f h = refl
rising_alike kind.Relation kind.Node e f h = refl
rising_alike kind.Relation kind.Way e f h = refl
rising_alike kind.Relation kind.Relation e f h = h

pub falling_alike : (kd a : Kind) (e f : Entry) → is_falling e ≡ is_falling f → is_part (falling_part kd) a e ≡ is_part (falling_part kd) a f
falling_alike kind.Node kind.Node e f h = h
falling_alike kind.Node kind.Way e f h = refl
falling_alike kind.Node kind.Relation e f h = refl
falling_alike kind.Way kind.Node e f h = refl
falling_alike kind.Way kind.Way e f h = h
falling_alike kind.Way kind.Relation e f h = refl
falling_alike kind.Relation kind.Node e f h = refl
falling_alike kind.Relation kind.Way e f h = refl
falling_alike kind.Relation kind.Relation e f h = h

pub not_rising : (kd a : Kind) (e : Entry) → is_rising e ≡ false → is_part (rising_part kd) a e ≡ false
not_rising kind.Node kind.Node e h = h
not_rising kind.Node kind.Way e h = refl
not_rising kind.Node kind.Relation e h = refl
not_rising kind.Way kind.Node e h = refl
not_rising kind.Way kind.Way e h = h
not_rising kind.Way kind.Relation e h = refl
not_rising kind.Relation kind.Node e h = refl
not_rising kind.Relation kind.Way e h = refl
not_rising kind.Relation kind.Relation e h = h

pub not_falling : (kd a : Kind) (e : Entry) → is_falling e ≡ false → is_part (falling_part kd) a e ≡ false
not_falling kind.Node kind.Node e h = h
not_falling kind.Node kind.Way e h = refl
not_falling kind.Node kind.Relation e h = refl
not_falling kind.Way kind.Node e h = refl
not_falling kind.Way kind.Way e h = h
not_falling kind.Way kind.Relation e h = refl
not_falling kind.Relation kind.Node e h = refl
not_falling kind.Relation kind.Way e h = refl
not_falling kind.Relation kind.Relation e h = h
