-- What a file tells.
--
-- For example a file with n1 and w5 Nn1,n2 tells of n1 and w5 as they stand, and mentions n2.
use Rattle.std.specs.Prelude.{ℕ, Bool, if◌then◌else◌, List, [], ◌∷◌, Option, None, Some}
use Rattle.std.specs.List.{fold, flat_map, list_any, AllByRecursion}
use Rattle.std.specs.Option.{option_or}
use Rattle.std.specs.FinMap as fin
use Rattle.osm_base.specs.Rank.{is_key}
use Rattle.osm_base.specs.Content.{refs_of}
use Rattle.osm_base.specs.declared.key.Key.{Key}
use Rattle.osm_base.specs.declared.meta.Meta.{Meta}
use Rattle.osm_base.specs.declared.content.Content.{Content}
use Rattle.osm_table.specs.declared.told.Told.{Told}
use Rattle.osm_table.specs.declared.told.Told.TheVariants.{Mentioned, Live, Gone}
use Rattle.osm_table.specs.Told.{ToldValue, with_told, with_mention, IsTold}
use Rattle.opl_line.specs.declared.object.OplObject.{OplObject}

-- the references of an object; a deleted one has none
abbrev pub refs_of_side : Option Content → List Key
refs_of_side None = []
refs_of_side (Some content) = refs_of content

-- what is told of an object with this version, content or none, and metadata
abbrev pub told_side : ℕ → Option Content → Meta → Told
told_side version None meta = Gone version meta
told_side version (Some content) meta = Live version content meta

-- an object as it stands in the file
abbrev pub told_of_object : OplObject → Told
told_of_object o = told_side o.version o.side o.meta

-- a map that tells nothing
abbrev pub nothing : ToldValue
nothing = record { told = fin.empty; order = [] }

-- all that the objects refer to, each as often as it stands
abbrev pub references : List OplObject → List Key
references objects = flat_map (λ o. refs_of_side o.side) objects

-- the objects as they stand, told one after the other
abbrev pub all_told : ToldValue → List OplObject → ToldValue
all_told m objects = fold (λ so_far o. with_told so_far o.key (told_of_object o)) m objects

-- What a file tells: each object as it stands, and then each reference of which nothing is told is mentioned. So the
-- keys stand in the order of the file, and behind them those that are only referred to.
abbrev pub told_of : List OplObject → ToldValue
told_of objects = fold with_mention (all_told nothing objects) (references objects)

-- The object may be told of: it has a positive id, and the version and the content of a server.
abbrev pub IsTellable : OplObject → Type 0
IsTellable o = IsTold o.key (told_of_object o)

abbrev pub AreTellable : List OplObject → Type 0
AreTellable objects = AllByRecursion IsTellable objects

-- By look-up.

-- what the last object of the key tells, if there is one
abbrev pub telling : List OplObject → Key → Option Told
telling [] key = None
telling (o ∷ os) key = option_or (telling os key) (if is_key key o.key then Some (told_of_object o) else None)

-- whether one of the objects refers to the key
abbrev pub is_mentioned : List OplObject → Key → Bool
is_mentioned objects key = list_any (λ o. list_any (is_key key) (refs_of_side o.side)) objects

-- what is told of a key: what its object tells, else a mention where an object refers to it
abbrev pub told_by : List OplObject → Key → Option Told
told_by objects key = option_or (telling objects key) (if is_mentioned objects key then Some Mentioned else None)
