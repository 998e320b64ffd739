use Rattle.std.proofs.Common.{[], ◌++◌, List, sym, ◌∙◌, ap, subst, fold, arith}
use Rattle.std.proofs.lemmas.Option.{get_or_from_slice_get, slice_get_within}
use Rattle.osm_base.specs.declared.key.Key.{Key}
use Rattle.osm_base.specs.Rank.{is_key}
use Rattle.osm_base.proofs.RisingKeys.{key_itself, one_key}
use Rattle.closure.specs.Closure.{with_key}
use Rattle.closure.proofs.Walk.{Adds, adds, walk_starts, walk_goes, walk_ends}
use Rattle.closure.proofs.marks.reach.Goals as goal

pub loop-done-init : goal.loop-done-init
loop-done-init g c = walk_starts is_key key_itself one_key (g.L.Links.next c.args.links.now) c.args.starts.now c.put_all.new.self
    (subst (λ (l : List Key). Adds is_key key_itself one_key [] c.args.starts.now l)
    (sym (c.in_ok-put_all.ensures ∙ ap (λ (l : List Key). fold (with_key is_key) l c.args.starts.now) c.new-marks.ensures))
    (adds is_key key_itself one_key [] c.args.starts.now))

pub loop-done-preserved : goal.loop-done-preserved
loop-done-preserved g c =
    let led = c.deref.ensures.value ∙ c.in_ok-append.ensures ∙ ap (λ (l : List Key). l ++ g.L.Links.next c.args.links.now c.index-key.result.now) c.clear.ensures.items in
    walk_goes is_key key_itself one_key (g.L.Links.next c.args.links.now) c.args.starts.now c.loop-done.marks c.put_all-in-loop-done.new.self c.loop-done.done c.index-key.result.now c.loop-done.invariant
    (slice_get_within c.loop-done.marks c.loop-done.done c.index-key.result.now c.index-key.ensures)
    (sym (get_or_from_slice_get c.loop-done.marks c.loop-done.done c.index-key.result.now c.index-key.result.now c.index-key.ensures))
    (subst (λ (l : List Key). Adds is_key key_itself one_key c.loop-done.marks (g.L.Links.next c.args.links.now c.index-key.result.now) l)
    (sym (c.in_ok-put_all-2.ensures ∙ ap (fold (with_key is_key) c.loop-done.marks) led))
    (adds is_key key_itself one_key c.loop-done.marks (g.L.Links.next c.args.links.now c.index-key.result.now)))

pub returns : goal.returns
returns g c = record { ends = walk_ends is_key key_itself one_key (g.L.Links.next c.args.links.now) c.args.starts.now c.loop-done.marks c.loop-done.done c.loop-done.invariant (let e = c.len.ensures in let f = c.loop-done-test.false in omega (arith, e, f)) }
