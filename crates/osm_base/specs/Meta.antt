use Rattle.std.specs.Prelude.{None, []}
use Rattle.osm_base.specs.declared.meta.Meta.{Meta}

-- the metadata of an object of which no last change is known
abbrev pub empty_meta : Meta
empty_meta = record { changeset = 0; time = None; uid = 0; user = [] }
