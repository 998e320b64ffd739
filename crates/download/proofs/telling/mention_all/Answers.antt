use Rattle.std.proofs.Common.{◌≡◌, ℕ, ◌+◌, ◌<◌, ◌∙◌, ◌∷◌, [], ◌++◌, List, length, get_or, drop, ap, sym, subst, arith}
use Rattle.std.proofs.lemmas.Grind.{flat_map-append}
use Rattle.std.proofs.lemmas.List.{append-nil, drop_more}
use Rattle.osm_base.specs.declared.key.Key.{Key}
use Rattle.osm_table.specs.Table.{IsPositive}
use Rattle.download.specs.declared.telling.ReferenceList.{ReferenceList}
use Rattle.download.specs.TellCode.{keys_of_list, keys_in, ArePositive}
use Rattle.download.proofs.Closed.{fore, aft, next_mentioned}
use Rattle.download.proofs.telling.mention_all.Goals as goal

-- the keys of a list and those of the lists behind it
split : (lists : List ReferenceList) (i : ℕ) (list : ReferenceList) → i < length lists → list ≡ get_or lists i list → ArePositive (keys_in (drop i lists)) → ArePositive (keys_of_list list ++ keys_in (drop (i + 1) lists))
split lists i list within at are =
    subst (λ (ls : List ReferenceList). ArePositive (keys_in ls)) (drop_more lists i list within ∙ ap (λ (l : ReferenceList). l ∷ drop (i + 1) lists) (sym at)) are

pub mention_list-requires : goal.mention_list-requires
mention_list-requires c =
    let within : c.loop-list.list-index < length c.args.lists.now = omega arith in
    fore (λ (key : Key). IsPositive key.id) (keys_of_list c.list-item.result) (keys_in (drop (c.loop-list.list-index + 1) c.args.lists.now))
    (split c.args.lists.now c.loop-list.list-index c.list-item.result within c.list-item.is c.loop-list.invariant.positive)

pub loop-list-preserved : goal.loop-list-preserved
loop-list-preserved c =
    let within : c.loop-list.list-index < length c.args.lists.now = omega arith in
    let list : ReferenceList = c.list-item.result in
    record {
      positive = aft (λ (key : Key). IsPositive key.id) (keys_of_list list) (keys_in (drop (c.loop-list.list-index + 1) c.args.lists.now))
          (split c.args.lists.now c.loop-list.list-index list within c.list-item.is c.loop-list.invariant.positive);
      mentioned = next_mentioned keys_in (flat_map-append keys_of_list) c.args.lists.now c.loop-list.list-index list (keys_of_list list) c.args.told.now c.loop-list.told c.mention_list.new.told c.loop-list.there c.in_ok-there.field-0
          within (sym (append-nil (keys_of_list list)) ∙ ap (λ (l : ReferenceList). keys_in (l ∷ [])) c.list-item.is) c.loop-list.invariant.mentioned c.in_ok-there.ensures;
    }
