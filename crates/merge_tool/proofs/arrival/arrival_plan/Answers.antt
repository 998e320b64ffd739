use Rattle.std.proofs.Common.{◌≡◌, ◌∙◌, ◌≤◌, ap, sym, subst, arith}
use Rattle.std.specs.FinMap as fin
use Rattle.std.specs.Prelude.{Err}
use Rattle.osm_table.specs.Told.{ToldValue, IsClosed, IsToldMap}
use Rattle.tool_api.specs.declared.refusal.Refusal.TheVariants.{TableFull}
use Rattle.tool_api.specs.Merged.{merge}
use Rattle.merge_tool.proofs.Arrived.{too_many, all_come}
use Rattle.merge_tool.proofs.arrival.arrival_plan.Goals as goal

pub returns-then-limit-len : goal.returns-then-limit-len
returns-then-limit-len c =
    subst (λ (m : ToldValue). merge c.args.ds.now c.args.limit m ≡ Err TableFull) c.value-map.ensures
    (too_many c.args.ds.now c.value-map.result.now c.args.limit c.len.result c.requires.empty (subst (λ (m : ToldValue). IsClosed m.told) (sym c.value-map.ensures) c.requires.closed) c.len.ensures.value c.if-limit-len.true)

pub returns : goal.returns
returns c =
    let t = c.args.ds.now in
    let p = c.in_ok-patch_of_told.field-0 in
    let few : c.len.result ≤ c.args.limit = omega (arith, c.if-limit-len.false) in
    let is : c.value-map.result.now ≡ c.args.told.now = c.value-map.ensures in
    all_come t c.args.told.now c.args.limit c.len.result p c.requires.sound (subst (λ (m : ToldValue). IsToldMap m.told) is c.sound.ensures.told_map) c.requires.empty c.requires.closed (c.len.ensures.value ∙ ap (λ (m : ToldValue). fin.len m.told) is)
    few c.in_ok-patch_of_told.ensures.value c.in_ok-patch_of_told.ensures.differs
