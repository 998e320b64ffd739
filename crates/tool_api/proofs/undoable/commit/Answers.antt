use Rattle.std.proofs.Common.{◌∙◌, ◌≡◌, sym, ap, subst, ◌++◌, ◌∷◌, [], List, Result, Ok, Err, OnOk}
use Rattle.osm_table.specs.Table.{TableValue}
use Rattle.dataset.specs.Patch.{PatchValue}
use Rattle.dataset.specs.Diff.{diff}
use Rattle.dataset.specs.Draft.{drafted}
use Rattle.dataset.proofs.Laws.{diff_leads}
use Rattle.dataset.proofs.Kept.{diff_sound}
use Rattle.tool_api.proofs.undoable.commit.Goals as goal

-- what is put last is the difference of the tables
put_last : {T E : Type 0} (r : Result T E) (t u v : TableValue) (p : PatchValue) (ps qs : List PatchValue) → p ≡ diff t v → OnOk r (u ≡ v) → OnOk r (qs ≡ ps ++ p ∷ []) → OnOk r (qs ≡ ps ++ diff t u ∷ [])
put_last (Ok x) t u v p ps qs is to put = put ∙ ap (λ (q : PatchValue). ps ++ q ∷ []) (is ∙ ap (diff t) (sym to))
put_last (Err e) t u v p ps qs is to put = put

pub lead_on-requires-clause-sound : goal.lead_on-requires-clause-sound
lead_on-requires-clause-sound c = diff_sound c.args.draft c.args.ds.now c.in_ok-patch.patch c.in_ok-patch.ensures.differs c.requires.sound

pub returns-clause-table : goal.returns-clause-table
returns-clause-table c =
    let leads = diff_leads c.args.ds.now (drafted c.args.draft c.args.ds.now) c.in_ok-patch.patch c.in_ok-patch.ensures.differs in
    subst (λ (t : TableValue). OnOk c.lead_on.result (c.lead_on.new.ds ≡ t)) (sym leads.to) c.lead_on.ensures.table

pub returns-clause-done : goal.returns-clause-done
returns-clause-done c = put_last c.lead_on.result c.args.ds.now c.lead_on.new.ds (drafted c.args.draft c.args.ds.now) c.in_ok-patch.patch _ _ c.in_ok-patch.ensures.value (returns-clause-table c) c.lead_on.ensures.done
