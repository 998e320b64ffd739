use Rattle.std.proofs.Common.{◌∙◌, List, length, sym, ap, subst}
use Rattle.std.specs.List.{zip}
use Rattle.std.proofs.lemmas.List.Elements.{same_from_all_zip}
use Rattle.osm_base.specs.declared.key.Key.{Key}
use Rattle.osm_table.specs.InOrder.{AreInPlace}
use Rattle.osm_table.specs.declared.entry.Entry.{Entry}
use Rattle.osm_table.proofs.keyed_entries.KeyedEntries.copy.Goals as goal

pub invariant_of-result : goal.invariant_of-result
invariant_of-result c =
    let keys = same_from_all_zip _ c.self.inside.keys.items c.in_ok-clone.field-0.items c.in_ok-clone.ensures.cases.0 (λ x y same. same) in
    let entries = same_from_all_zip _ c.self.inside.entries.items c.in_ok-clone-2.field-0.items c.in_ok-clone-2.ensures.cases.0 (λ x y same. same) in (
      subst (λ (ks : List Key). AreInPlace ks c.in_ok-copy.field-0) (sym keys) (c.in_ok-copy.ensures c.self.inside.keys.items c.self.invariant.0),
      ap (λ (ks : List Key). length ks) keys ∙ c.self.invariant.1 ∙ ap (λ (es : List Entry). length es) (sym entries),
    )

pub returns : goal.returns
returns c =
    let keys = same_from_all_zip _ c.self.inside.keys.items c.in_ok-clone.field-0.items c.in_ok-clone.ensures.cases.0 (λ x y same. same) in
    let entries = same_from_all_zip _ c.self.inside.entries.items c.in_ok-clone-2.field-0.items c.in_ok-clone-2.ensures.cases.0 (λ x y same. same) in
    (λ j. zip (keys j) (entries j)) ∙ c.self.view_is
