use Rattle.std.proofs.Common.{◌∙◌, sym, ap, Option}
use Rattle.std.specs.Option.{unwrap_or}
use Rattle.osm_table.specs.declared.entry.Entry.{Entry}
use Rattle.osm_table.specs.Table.{entry_of}
use Rattle.dataset.proofs.Drafted.{get_drafted}
use Rattle.dataset.proofs.draft.Draft.entry.Goals as goal

pub returns-in-Some : goal.returns-in-Some
returns-in-Some c =
    c.as_ref.ensures.value ∙ sym (get_drafted c.args.self.now c.args.ds.now c.args.key ∙ ap (λ (o : Option (Option Entry)). unwrap_or o (entry_of c.args.ds.now c.args.key)) (sym c.in-Some.ensures))

pub returns-in-None : goal.returns-in-None
returns-in-None c =
    c.entry.ensures ∙ sym (get_drafted c.args.self.now c.args.ds.now c.args.key ∙ ap (λ (o : Option (Option Entry)). unwrap_or o (entry_of c.args.ds.now c.args.key)) (sym c.in-None.ensures))
