use Rattle.std.proofs.Common.{add-one, arith, ◌≡◌, length, ◌∙◌, ap, subst, sym, List, []}
use Rattle.osm_base.specs.declared.key.Key.{Key}
use Rattle.osm_table.specs.Table.{entry_of}
use Rattle.dataset.specs.Draft.{DraftValue, drafted}
use Rattle.merge_tool.specs.Passes.{IsPassed, early, renewed_refs, is_going, is_clashing}
use Rattle.merge_tool.proofs.Appends.{taken_all, taken_more, flat_more, filter_more}
use Rattle.merge_tool.proofs.Cases.{none_yet, passed_all}
use Rattle.merge_tool.proofs.staging.Staging.of.Goals as goal

pub loop-i-preserved : goal.loop-i-preserved
loop-i-preserved c = rw add-one (
  subst (λ (ks : List Key). IsPassed (entry_of c.args.ds.now) (early c.args.ds.now c.args.told.now.told) ks (drafted c.stage.new.self.draft c.args.ds.now)) (sym (taken_more c.args.told.now.order c.loop-i.i _ c.entry_at.ensures.key)) (c.in_ok-stage.ensures.entries _ c.loop-i.invariant.0),
  flat_more (renewed_refs c.args.ds.now c.args.told.now.told) c.args.told.now.order [] _ _ c.loop-i.i _ c.loop-i.invariant.1 c.entry_at.ensures.key c.in_ok-stage.ensures.names,
  filter_more (is_going c.args.ds.now c.args.told.now.told) c.args.told.now.order [] _ _ c.loop-i.i _ c.loop-i.invariant.2 c.entry_at.ensures.key c.in_ok-stage.ensures.candidates,
  filter_more (is_clashing c.args.ds.now c.args.told.now.told) c.args.told.now.order [] _ _ c.loop-i.i _ c.loop-i.invariant.3 c.entry_at.ensures.key c.in_ok-stage.ensures.clashes,
  c.in_ok-stage.ensures.number ∙ c.loop-i.invariant.4,
)

pub loop-i-init : goal.loop-i-init
loop-i-init c = (none_yet c.args.ds.now c.in_ok-empty_draft.field-0 c.in_ok-empty_draft.ensures, c.new.ensures.items, c.new-2.ensures.items, c.new-3.ensures.items, ap (λ (d : DraftValue). d.next) c.in_ok-empty_draft.ensures)

pub returns-clause-entries : goal.returns-clause-entries
returns-clause-entries c =
    let t = c.args.ds.now in
    let m = c.args.told.now in
    let end : c.loop-i.i ≡ length m.order = omega arith in
    passed_all t m (drafted c.loop-i.staging.draft t) c.sound.ensures (subst (λ (ks : List Key). IsPassed (entry_of t) (early t m.told) ks (drafted c.loop-i.staging.draft t)) (taken_all m.order c.loop-i.i end) c.loop-i.invariant.0) c.sound-2.ensures.each
