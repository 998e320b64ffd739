use Rattle.std.proofs.Common.{List, [], ◌∙◌, ap}
use Rattle.osm_base.specs.declared.key.Key.{Key}
use Rattle.upload_order.specs.Marked.{vouchers}
use Rattle.upload_order.specs.Refused.{loose_among, is_loose_in, vouched_among}
use Rattle.upload_order.proofs.Vouchers.{loose_by_vouchers}
use Rattle.upload_order.proofs.Vouching.{none_loose}
use Rattle.upload_order.proofs.refused.loose_refusal.Goals as goal

pub returns-then-is_none : goal.returns-then-is_none
returns-then-is_none c = none_loose c.args.ds.now _ _ _ c.new.ensures c.requires c.loose_among-2.ensures (c.if-is_none.ensures)

pub returns : goal.returns
returns c =
    let t = c.args.ds.now in
    c.loose_among-3.ensures
    ∙ ap (λ (s : List Key). loose_among (is_loose_in t s) t c.args.changed.now) (c.in_ok-put_vouched.ensures ∙ ap (λ (s : List Key). vouched_among t s c.deref.result.now) c.new-vouched.ensures)
    ∙ ap (λ (ks : List Key). loose_among (is_loose_in t (vouched_among t [] ks)) t c.args.changed.now) (c.deref.ensures.value ∙ c.in_ok-keys.ensures)
    ∙ ap (λ (ks : List Key). loose_among (is_loose_in t (vouched_among t [] (vouchers t ks))) t ks) c.requires
    ∙ loose_by_vouchers t
