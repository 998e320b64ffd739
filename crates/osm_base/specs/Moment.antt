-- Times as they are kept.
use Rattle.std.specs.Prelude.{Option, None, Some}
use Rattle.osm_base.specs.declared.meta.Stamp.{Stamp}
use Rattle.osm_base.specs.declared.moment.Kept.{Kept}
use Rattle.osm_base.specs.declared.moment.Kept.TheVariants.{Unknown, Known}

abbrev pub time_kept : Kept → Option Stamp
time_kept Unknown = None
time_kept (Known month day hour minute second year) = Some (record { year = year; month = month; day = day; hour = hour; minute = minute; second = second })
