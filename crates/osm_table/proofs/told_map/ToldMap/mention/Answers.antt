use Rattle.std.proofs.Common.{◌∙◌, ap, sym, Some}
use Rattle.osm_table.specs.declared.entry.Entry.{Entry}
use Rattle.osm_table.specs.Told.{ToldValue, told_at, told_of, is_told_there}
use Rattle.osm_table.proofs.ToldLaws.{told_last}
use Rattle.osm_table.proofs.told_map.ToldMap.mention.Goals as goal

pub returns-in_ok-set-in-None-clause-there : goal.returns-in_ok-set-in-None-clause-there
returns-in_ok-set-in-None-clause-there c =
    sym (
    ap (λ (m : ToldValue). is_told_there (told_at m c.args.key)) c.in_ok-set-in-None.ensures.ok
    ∙ ap is_told_there (told_last c.args.self.now c.args.key (told_of c.in_ok-entry-in-None.entry))
    ∙ ap (λ (e : Entry). is_told_there (Some (told_of e))) (c.in_ok-entry-in-None.ensures ∙ c.self.invariant.3)
    )
