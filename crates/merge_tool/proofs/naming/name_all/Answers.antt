use Rattle.std.proofs.Common.{add-one, arith, ◌∙◌, ◌<◌, ap, ◌++◌, List, length}
use Rattle.std.proofs.lemmas.Option.{slice_get-get_or}
use Rattle.osm_base.specs.declared.key.Key.{Key}
use Rattle.dataset.specs.Draft.{drafted}
use Rattle.merge_tool.specs.Walks.{is_lost}
use Rattle.merge_tool.proofs.Appends.{filter_more}
use Rattle.merge_tool.proofs.Puts.{named_more, still_lost}
use Rattle.merge_tool.proofs.naming.name_all.Goals as goal

pub loop-key-preserved : goal.loop-key-preserved
loop-key-preserved c =
    let h : c.loop-key.key-index < length c.args.names.now = omega arith in
    rw add-one (
      named_more (drafted c.args.draft.now c.args.ds.now) (drafted c.loop-key.draft c.args.ds.now) (drafted c.name.new.draft c.args.ds.now) c.args.names.now c.loop-key.key-index _ c.loop-key.invariant.0 (slice_get-get_or c.args.names.now c.loop-key.key-index _ h) c.in_ok-name.ensures.entries,
      filter_more (is_lost (drafted c.args.draft.now c.args.ds.now)) c.args.names.now _ _ _ c.loop-key.key-index _ c.loop-key.invariant.1 (slice_get-get_or c.args.names.now c.loop-key.key-index _ h)
          (c.in_ok-name.ensures.lost ∙ ap (λ (l : List Key). c.loop-key.out.items ++ l) (still_lost (drafted c.args.draft.now c.args.ds.now) (drafted c.loop-key.draft c.args.ds.now) _ _ c.loop-key.invariant.0)),
      c.in_ok-name.ensures.number ∙ c.loop-key.invariant.2,
    )
