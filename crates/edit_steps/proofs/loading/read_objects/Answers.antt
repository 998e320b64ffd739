use Rattle.std.proofs.Common.{◌∙◌, arith, rules, take}
use Rattle.edit_steps.proofs.Fed.{feeds-start, feeds-more, feeds-over, fed_first, fed_more, finished_read, finished_bytes, over_bytes}
use Rattle.edit_steps.proofs.loading.read_objects.Goals as goal

pub loop-count-init : goal.loop-count-init
loop-count-init g c = record {
  told = search rules;
  begun = c.requires.begun;
  noted = search rules;
  quiet = search rules;
  fed = fed_first c.args.mode c.args.limit c.new-reader.result c.new-reader.ensures.reads;
  so_far = feeds-start c.args.mode c.args.limit c.new-reader.result (g.S.Shelf.rest c.args.shelf.now) c.new-reader.ensures.reads;
}

pub loop-count-preserved : goal.loop-count-preserved
loop-count-preserved g c =
    let next = c.in-Ok.ensures in
    let before = c.loop-count.invariant in
    record {
      told = next.told ∙ before.told;
      begun = next.begun;
      noted = next.noted ∙ before.noted;
      quiet = next.cause.quiet ∙ before.quiet;
      fed = fed_more c.args.mode c.args.limit c.loop-count.left c.in-Ok.count c.loop-count.reader c.feed.new.self before.fed (take c.in-Ok.count c.next.new.into) c.in_ok-feed.ensures.reads next.count.1 (omega arith);
      so_far = feeds-more c.args.mode c.args.limit c.loop-count.left c.in-Ok.count c.loop-count.reader c.feed.new.self _ _ _ (take c.in-Ok.count c.next.new.into)
          before.so_far next.bytes.0 c.in_ok-feed.ensures.reads next.count.1 (omega arith);
    }

pub returns-then-left-count-clause-objects : goal.returns-then-left-count-clause-objects
returns-then-left-count-clause-objects g c =
    let next = c.in-Ok.ensures in
    feeds-over c.args.mode c.args.limit c.loop-count.left c.in-Ok.count c.loop-count.reader _ _ _ (take c.in-Ok.count c.next.new.into) c.loop-count.invariant.so_far next.bytes.0 next.count.1 (omega arith)

pub returns-then-count-eq0-clause-read : goal.returns-then-count-eq0-clause-read
returns-then-count-eq0-clause-read g c = finished_read c.args.mode c.args.limit c.loop-count.left c.loop-count.reader c.finished.result c.loop-count.invariant.fed c.finished.ensures.objects

pub returns-then-count-eq0-clause-bytes : goal.returns-then-count-eq0-clause-bytes
returns-then-count-eq0-clause-bytes g c = finished_bytes c.args.mode c.args.limit c.loop-count.left c.loop-count.reader c.finished.result c.loop-count.invariant.fed c.finished.ensures.objects

pub returns-then-left-count-clause-bytes : goal.returns-then-left-count-clause-bytes
returns-then-left-count-clause-bytes g c =
    over_bytes c.args.mode c.args.limit c.loop-count.left c.in-Ok.count c.loop-count.reader (take c.in-Ok.count c.next.new.into) c.loop-count.invariant.fed c.in-Ok.ensures.count.1 (omega arith)
