use Rattle.std.proofs.Common.{◌∙◌, ap, subst, Option}
use Rattle.std.specs.Option.{option_copied}
use Rattle.osm_table.specs.declared.entry.Entry.{Entry}
use Rattle.osm_table.specs.Told.{told_of}
use Rattle.dataset.specs.Draft.{drafted}
use Rattle.merge_tool.specs.Passes.{Gives, noted}
use Rattle.merge_tool.proofs.Cases.{passed_more, stage_is}
use Rattle.merge_tool.proofs.staging.Staging.stage.Goals as goal

pub returns-clause-entries : goal.returns-clause-entries
returns-clause-entries c ks before =
    let t = c.args.ds.now in
    let m = c.args.told.now.told in
    let old = option_copied c.entry_along-old.result in
    passed_more t m c.requires.sound c.args.key old c.in_ok-new.new c.entry_along-old.ensures
    (subst (λ (s : Option Entry). Gives old s c.in_ok-new.new) (stage_is t m c.args.key (told_of c.args.news.now) old c.decide-verdict.result c.requires.told c.entry_along-old.ensures c.decide-verdict.ensures) c.in_ok-new.ensures)
    (drafted c.args.self.now.draft t) (drafted c.note.new.draft t) ks before
    (c.in_ok-note.ensures.table t ∙ ap (noted (drafted c.args.self.now.draft t) c.args.key) c.in_ok-new-2.ensures)
