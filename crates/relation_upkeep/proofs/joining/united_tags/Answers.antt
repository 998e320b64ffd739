use Rattle.std.proofs.Common.{Option, sym, ap, ◌∙◌}
use Rattle.tool_api.specs.declared.refusal.Refusal.{Refusal}
use Rattle.relation_upkeep.specs.Union.{unless}
use Rattle.relation_upkeep.proofs.Unions.{named_sorted, union_walked}
use Rattle.relation_upkeep.proofs.joining.united_tags.Goals as goal

pub put_on-requires : goal.put_on-requires
put_on-requires c = named_sorted c.in_ok-all.all.items c.sort_by_key.new.tags.items c.deref.result.now c.in_ok-all.ensures.named c.in_ok-sort_by_key.ensures.moved c.deref.ensures.value

pub returns-in-None : goal.returns-in-None
returns-in-None c =
    ap (λ (o : Option Refusal). unless o c.put_on.new.tags) (sym c.in-None.is)
    ∙ union_walked _ c.in_ok-all.all.items c.sort_by_key.new.tags.items c.deref.result.now _ c.put_on.new.tags c.in_ok-put_on.field-0 c.in_ok-all.ensures.value c.in_ok-sort_by_key.ensures.moved c.in_ok-sort_by_key.ensures.sorted c.deref.ensures.value c.new-tags.ensures c.in_ok-put_on.ensures

pub returns : goal.returns
returns c =
    ap (λ (o : Option Refusal). unless o c.put_on.new.tags) (sym c.in-Some.is)
    ∙ union_walked _ c.in_ok-all.all.items c.sort_by_key.new.tags.items c.deref.result.now _ c.put_on.new.tags c.in_ok-put_on.field-0 c.in_ok-all.ensures.value c.in_ok-sort_by_key.ensures.moved c.in_ok-sort_by_key.ensures.sorted c.deref.ensures.value c.new-tags.ensures c.in_ok-put_on.ensures
