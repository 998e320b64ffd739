-- Tables whose texts and metadata a reader of lines can give.
--
-- For example the tag `name=Elm St` may stand in a table, and `name=` with the bytes 255 or 0 may not: no written form
-- spells them. Which ids a table has and refers to is no matter here; a sound one has none that couldn't be written.
use Rattle.std.specs.Prelude.{◌≡◌, ℕ, T, List, Some}
use Rattle.std.specs.List.{AllByRecursion}
use Rattle.std.specs.FinMap as fin
use Rattle.osm_base.specs.Tags.{Pair, are_tags}
use Rattle.osm_base.specs.declared.key.Key.{Key}
use Rattle.osm_base.specs.declared.members.Member.{Member}
use Rattle.osm_base.specs.declared.content.Content.{Content}
use Rattle.osm_base.specs.declared.content.Content.TheVariants.{Node, Way, Relation}
use Rattle.osm_table.specs.declared.entry.Base.{Base}
use Rattle.osm_table.specs.declared.entry.Base.TheVariants as base
use Rattle.osm_table.specs.declared.entry.Entry.{Entry}
use Rattle.osm_table.specs.declared.told.Told.{Told}
use Rattle.osm_table.specs.declared.told.Told.TheVariants as told
use Rattle.osm_table.specs.Table.{TableValue, IfContent, entry_of}
use Rattle.osm_table.specs.Told.{ToldValue}
use Rattle.dataset.specs.Sound.{IfKnown, IfTheirs}
use Rattle.opl_line.specs.Writable.{IsMeta, IsText}
use Rattle.tool_api.specs.declared.job.Job.{Job}
use Rattle.tool_api.specs.declared.job.Job.TheVariants as job
use Rattle.tool_api.specs.declared.new_objects.NewObject.{NewObject}
use Rattle.tool_api.specs.Plain.{plain}
use Rattle.edit_history.specs.declared.edit_step.EditStep.{EditStep}
use Rattle.edit_history.specs.declared.edit_step.EditStep.TheVariants.{Run, Settle}

abbrev pub IsTag : Pair → Type 0
IsTag tag = IsText tag.0 × IsText tag.1

-- Tags in the order of their keys, of which none is empty and none comes twice, with texts that may be written.
abbrev pub AreTexts : List Pair → Type 0
AreTexts tags = T (are_tags tags) × AllByRecursion IsTag tags

abbrev pub AreRoles : List Member → Type 0
AreRoles members = AllByRecursion (λ m. IsText m.role) members

-- the texts of a content
abbrev pub HasTexts : Content → Type 0
HasTexts (Node tags at) = AreTexts tags
HasTexts (Way tags refs) = AreTexts tags
HasTexts (Relation tags members) = AreTexts tags × AreRoles members

-- and the metadata of what a server has
abbrev pub IsTextBase : Base → Type 0
IsTextBase base.New = Unit {0}
IsTextBase (base.Live version content meta) = HasTexts content × IsMeta meta
IsTextBase (base.Gone version meta) = IsMeta meta

abbrev pub IsTextEntry : Entry → Type 0
IsTextEntry e = IfKnown e (λ base mine conflict. IsTextBase base × IfContent mine HasTexts × IfTheirs conflict IsTextBase)

-- So are all entries of a table.
pub record IsTextTable (t : TableValue) : Type 0 where
  pub entries : (k : Key) (e : Entry) → entry_of t k ≡ Some e → IsTextEntry e

-- and what is told
abbrev pub IsTextSide : Told → Type 0
IsTextSide told.Mentioned = Unit {0}
IsTextSide (told.Live version content meta) = HasTexts content × IsMeta meta
IsTextSide (told.Gone version meta) = IsMeta meta

pub record IsTextTold (m : ToldValue) : Type 0 where
  pub sides : (k : Key) (s : Told) → fin.get m.told k ≡ Some s → IsTextSide s

-- what a job brings with it
abbrev pub BringsTexts : Job → Type 0
BringsTexts (job.AddNode tags at) = AreTexts tags
BringsTexts (job.AddWay tags refs) = AreTexts tags
BringsTexts (job.AddRelation tags members) = AreTexts tags × AreRoles members
BringsTexts (job.SetTags keys tags) = AreTexts tags
BringsTexts (job.SetMembers key members) = AreRoles members
BringsTexts (job.Merge told) = IsTextTold told
BringsTexts (job.Import objects) = AllByRecursion (λ (o : NewObject). HasTexts o.content) objects
BringsTexts j = Unit {0}

-- Whatever the table and the limit, the table after the job has such texts where the one before it has.
abbrev pub KeepsTexts : Job → Type 0
KeepsTexts j = (t : TableValue) (limit : ℕ) → IsTextTable t → IsTextTable (plain j t limit).table

-- The job of a step brings such texts, and the step settles nothing.
abbrev pub StepBringsTexts : EditStep → Type 0
StepBringsTexts (Run job) = BringsTexts job.now
StepBringsTexts (Settle patch) = ⊥
StepBringsTexts step = Unit {0}
