use Rattle.std.proofs.Common.{◌≡◌, drop, length, nat_lt}
use Rattle.std.specs.Prelude.{T}
use Rattle.std.specs.List.{list_all}
use Rattle.std.specs.FinMap.{is_sorted}
use Rattle.osm_base.specs.Tags.{Pair, bytes_cmp}
use Rattle.merge_cases.specs.declared.pick.Pick.TheVariants.{Mine, Theirs}
use Rattle.merge_cases.specs.Join.{picked_by, with_tags, standing_by}
use Rattle.merge_cases.proofs.joining.picked_by.Given as goal

abbrev pub invariant-loop-tag : goal.invariant-loop-tag
invariant-loop-tag g l = record {
  sorted : T (is_sorted bytes_cmp l.tags);
  named : T (list_all (λ (t : Pair). nat_lt 0 (length t.0)) l.rest);
  tags : with_tags (with_tags l.tags (standing_by (g.R.TagRule.whose l.rule) Mine l.rest)) (standing_by (g.R.TagRule.whose l.rule) Theirs (drop l.tag-index l.theirs)) ≡ picked_by (g.R.TagRule.whose l.rule) l.mine l.theirs;
}
