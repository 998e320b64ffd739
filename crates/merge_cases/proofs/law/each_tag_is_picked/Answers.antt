use Rattle.osm_base.proofs.TagLaws.{in_order}
use Rattle.merge_cases.proofs.EachTag.{each_tag, some_clash}
use Rattle.merge_cases.proofs.law.each_tag_is_picked.Goals as goal

pub returns-clause-value : goal.returns-clause-value
returns-clause-value c = λ b m t tags g h. each_tag b m t (in_order m g) (in_order t h) tags

pub returns-clause-clash : goal.returns-clause-clash
returns-clause-clash c = some_clash
