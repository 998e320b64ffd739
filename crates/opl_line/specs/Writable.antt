-- What an object has that has a written form.
use Rattle.std.specs.Prelude.{◌≡◌, ℕ, ℤ, pos, negsuc, ◌≤◌, ◌<◌, ◌^◌, T, true, List, ◌∷◌, [], Option, Some, None}
use Rattle.std.specs.List.{All, list_all}
use Rattle.std.specs.Str.{IsUtf8}
use Rattle.osm_base.specs.Number.{IsId}
use Rattle.osm_base.specs.Tags.{Pair, are_tags}
use Rattle.osm_base.specs.Content.{kind_of_content, refs_of}
use Rattle.osm_base.specs.declared.key.Key.{Key}
use Rattle.osm_base.specs.declared.meta.Meta.{Meta}
use Rattle.osm_base.specs.declared.members.Member.{Member}
use Rattle.osm_base.specs.declared.content.Content.{Content}
use Rattle.osm_base.specs.declared.content.Content.TheVariants as content
use Rattle.opl_text.specs.Text.{HasNoZero}
use Rattle.opl_text.specs.Time.{IsTime}
use Rattle.opl_line.specs.declared.mode.Mode.{Mode}
use Rattle.opl_line.specs.declared.mode.Mode.TheVariants.{Download, Import}
use Rattle.opl_line.specs.declared.object.LineKind.{LineKind}
use Rattle.opl_line.specs.declared.object.LineKind.TheVariants.{Skipped, Object}
use Rattle.opl_line.specs.Field.{is_allowed}

-- UTF-8 without U+0000.
abbrev pub IsText : List ℕ → Type 0
IsText text = IsUtf8 text × HasNoZero text

-- The version of a positive id is known, and that of a negative one stands as 0.
abbrev pub HasVersion : ℤ → ℕ → Type 0
HasVersion (pos n) version = (1 ≤ version) × (version ≤ 2000000000)
HasVersion (negsuc n) version = version ≡ 0

-- Tags in the order of their keys, of which none is empty and none comes twice.
abbrev pub AreTags : List Pair → Type 0
AreTags tags = T (are_tags tags) × All (λ tag. IsText tag.0 × IsText tag.1) tags

abbrev pub IsMember : Member → Type 0
IsMember member = IsId member.key.id × IsText member.role

abbrev pub IsContent : Content → Type 0
IsContent (content.Node tags at) = AreTags tags
IsContent (content.Way tags refs) = AreTags tags × All IsId refs
IsContent (content.Relation tags members) = AreTags tags × All IsMember members

-- What stands of a visible object is a content of its key's kind.
abbrev pub IsSide : Key → Option Content → Type 0
IsSide key None = Unit {0}
IsSide key (Some c) = (kind_of_content c ≡ key.kind) × IsContent c

pub record IsMeta (meta : Meta) : Type 0 where
  pub changeset : meta.changeset < 2 ^ 32
  pub time : IsTime meta.time
  pub uid : meta.uid < 2 ^ 32
  pub user : IsText meta.user

-- An object whose written form spells it. Each that was read is one.
pub record IsWritable (key : Key) (version : ℕ) (side : Option Content) (meta : Meta) : Type 0 where
  pub id : IsId key.id
  pub version_fits : HasVersion key.id version
  pub content : IsSide key side
  pub known : IsMeta meta

-- The keys that an object names: its own and its references.
abbrev pub keys_of : Key → Option Content → List Key
keys_of key None = key ∷ []
keys_of key (Some c) = key ∷ refs_of c

-- Each key that the object names may stand in a file of the mode.
abbrev pub MayStand : Mode → Key → Option Content → Type 0
MayStand Import key side = Unit {0}
MayStand Download key side = list_all (λ k. is_allowed Download k.id) (keys_of key side) ≡ true

-- An object that was read has a written form, and may stand in a file of the mode.
abbrev pub IsReadObject : Mode → LineKind → Type 0
IsReadObject mode Skipped = Unit {0}
IsReadObject mode (Object o) = IsWritable o.key o.version o.side o.meta × MayStand mode o.key o.side
