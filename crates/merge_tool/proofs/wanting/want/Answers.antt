use Rattle.std.proofs.Common.{◌∙◌, ap, ◌++◌, List, filter}
use Rattle.osm_base.specs.declared.key.Key.{Key}
use Rattle.dataset.specs.Draft.{drafted}
use Rattle.merge_tool.specs.Walks.{is_lost}
use Rattle.merge_tool.proofs.WantedEnds.{wants_are, late_are, lost_named}
use Rattle.merge_tool.proofs.wanting.want.Goals as goal

pub returns-clause-wanted : goal.returns-clause-wanted
returns-clause-wanted c =
    let t = c.args.ds.now in
    let m = c.args.told.now in
    wants_are t m c.requires.sound c.sound.ensures.each (drafted c.args.draft.now t) (drafted c.name_all.new.draft t) c.args.names.now c.name_all.new.out.items c.requires.entries c.requires.names c.in_ok-name_all.ensures.entries
    c.deref.result.now c.in_ok-keys.keys (c.in_ok-name_all.ensures.lost ∙ ap (λ (ks : List Key). ks ++ filter (is_lost (drafted c.args.draft.now t)) c.args.names.now) c.new-lost.ensures.items) c.deref.ensures.value c.in_ok-keys.ensures

pub returns-clause-names : goal.returns-clause-names
returns-clause-names c =
    let t = c.args.ds.now in
    let m = c.args.told.now in
    late_are t m c.requires.sound c.sound.ensures.each (drafted c.name_all.new.draft t)
    (lost_named t m c.requires.sound c.sound.ensures.each (drafted c.args.draft.now t) (drafted c.name_all.new.draft t) c.args.names.now c.name_all.new.out.items c.requires.entries c.requires.names c.in_ok-name_all.ensures.entries)
    c.in_ok-keys.keys c.in_ok-late.late.items
    (wants_are t m c.requires.sound c.sound.ensures.each (drafted c.args.draft.now t) (drafted c.name_all.new.draft t) c.args.names.now c.name_all.new.out.items c.requires.entries c.requires.names c.in_ok-name_all.ensures.entries
    c.deref.result.now c.in_ok-keys.keys (c.in_ok-name_all.ensures.lost ∙ ap (λ (ks : List Key). ks ++ filter (is_lost (drafted c.args.draft.now t)) c.args.names.now) c.new-lost.ensures.items) c.deref.ensures.value c.in_ok-keys.ensures)
    c.in_ok-late.ensures
