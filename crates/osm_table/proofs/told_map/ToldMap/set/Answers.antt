use Rattle.std.proofs.Common.{◌≡◌, true, false, sym, ap, subst, ◌∙◌}
use Rattle.std.specs.Map.{keys_of}
use Rattle.osm_table.specs.Told.{ToldValue, IsToldMap, told_of, with_told}
use Rattle.osm_table.specs.ToldCode.{told_kept, AreThere}
use Rattle.osm_table.proofs.ToldLaws.{told_with, there_with, put_updates, kept_with, are_told_with, order_with}
use Rattle.osm_table.proofs.told_map.ToldMap.set.Goals as goal
use Rattle.osm_table.proofs.told_map.ToldMap.set.Goals.{then-self, else-self}

pub invariant_of-self-2 : goal.invariant_of-self-2
invariant_of-self-2 c =
    let es = c.self.inside.entries in
    let updates = put_updates es c.insert.new.self c.args.key c.args.entry c.in_ok-insert.ensures.ok in (
      subst IsToldMap (sym (kept_with es c.insert.new.self c.args.key c.args.entry updates)) (told_with (told_kept es) c.args.key (told_of c.args.entry) c.self.invariant.0 c.requires.told),
      are_told_with es c.insert.new.self c.args.key c.args.entry updates c.self.invariant.1 c.requires.entry,
      c.in_ok-insert.ensures.unique,
      c.self.invariant.3,
      λ there. subst AreThere (sym (kept_with es c.insert.new.self c.args.key c.args.entry updates))
          (elim c.if-self.branch [
            | then-self w ↦ there_with (told_kept es) c.args.key (told_of c.args.entry) (c.self.invariant.4 w.if-self.true) (sym w.is_there-all_there.ensures ∙ sym w.all_there-is ∙ there)
            | else-self w ↦ let h : false ≡ true = sym w.if-self.false ∙ sym w.all_there-is ∙ there in cc
          ]),
      λ closed. cc,
    )

pub returns-clause-ok : goal.returns-clause-ok
returns-clause-ok c =
    let es = c.self.inside.entries in
    (λ i. record {
      told = kept_with es c.insert.new.self c.args.key c.args.entry (put_updates es c.insert.new.self c.args.key c.args.entry c.in_ok-insert.ensures.ok) i;
      order = (ap (λ fs. keys_of fs) c.in_ok-insert.ensures.ok ∙ order_with c.self.inside.entries c.args.key c.args.entry) i;
    })
    ∙ ap (λ (m : ToldValue). with_told m c.args.key (told_of c.args.entry)) c.self.view_is
