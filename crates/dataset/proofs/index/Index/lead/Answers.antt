use Rattle.std.proofs.Common.{◌≡◌, ◌+◌, ◌≤◌, not, sym, ◌∙◌, ap, true, subst}
use Rattle.std.specs.List.{list_all}
use Rattle.std.proofs.lemmas.Result.{on_ok_weaker, on_err_weaker}
use Rattle.ref_index.specs.Bag.{times}
use Rattle.dataset.specs.Exact.{keeps_pairs, pairs_by}
use Rattle.dataset.specs.Index.{count_kept}
use Rattle.dataset.specs.Sides.{side}
use Rattle.dataset.specs.declared.index.Index.{Index}
use Rattle.dataset.proofs.Exactness.{no_pairs_move}
use Rattle.dataset.proofs.index.Index.lead.Goals as goal

pub returns-then-keep_pairs-clause-ok : goal.returns-then-keep_pairs-clause-ok
returns-then-keep_pairs-clause-ok c = λ p.
    let kept : list_all keeps_pairs c.args.edits.now ≡ true = sym c.keep_pairs.ensures ∙ c.if-keep_pairs.true in
    let same = ap (λ (x : Index). count_kept x p) c.in-Told.is in
    ap (λ n. times p (pairs_by (side (not c.args.forth)) c.args.edits.now) + n) (sym same)
    ∙ (λ i. times p ((no_pairs_move (not c.args.forth) c.args.edits.now kept ∙ sym (no_pairs_move c.args.forth c.args.edits.now kept)) i) + count_kept c.args.self.now p)

pub lead_pairs-requires : goal.lead_pairs-requires
lead_pairs-requires c = λ p. subst (λ (x : Index). times p (pairs_by (side (not c.args.forth)) c.args.edits.now) ≤ count_kept x p) c.in-Own.is (c.requires p)

pub own_led-requires : goal.own_led-requires
own_led-requires c = λ p. subst (λ (x : Index). times p (pairs_by (side (not c.args.forth)) c.args.edits.now) ≤ count_kept x p) c.in-Told.is (c.requires p)

pub returns-in-Own-clause-ok : goal.returns-in-Own-clause-ok
returns-in-Own-clause-ok c =
    on_ok_weaker c.lead_pairs.result (λ led p. led p ∙ ap (λ n. times p (pairs_by (side c.args.forth) c.args.edits.now) + n) (sym (ap (λ (x : Index). count_kept x p) c.in-Own.is))) c.lead_pairs.ensures.ok

pub returns-in-Own-clause-err : goal.returns-in-Own-clause-err
returns-in-Own-clause-err c = on_err_weaker c.lead_pairs.result (λ same p. same p ∙ sym (ap (λ (x : Index). count_kept x p) c.in-Own.is)) c.lead_pairs.ensures.err

pub returns-in_ok-index-in-Told-clause-ok : goal.returns-in_ok-index-in-Told-clause-ok
returns-in_ok-index-in-Told-clause-ok c = λ p.
    ap (λ (x : Index). times p (pairs_by (side (not c.args.forth)) c.args.edits.now) + count_kept x p) c.replace.ensures.after
    ∙ c.in_ok-index-in-Told.ensures p
    ∙ ap (λ (x : Index). times p (pairs_by (side c.args.forth) c.args.edits.now) + count_kept x p) (sym c.in-Told.is)
