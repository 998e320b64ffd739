use Rattle.std.proofs.Common.{◌∙◌, ap, List}
use Rattle.osm_base.specs.Rank.{is_key}
use Rattle.osm_base.specs.declared.key.Key.{Key}
use Rattle.osm_table.specs.Table.{entry_of}
use Rattle.dataset.specs.Draft.{drafted}
use Rattle.closure.specs.Closure.{has}
use Rattle.tool_api.specs.Staged.{bared}
use Rattle.merge_tool.proofs.Namers.{names_are}
use Rattle.merge_tool.proofs.HeldEnds.{held_ends, last_are}
use Rattle.merge_tool.proofs.holding.hold.Goals as goal

pub returns-clause-held : goal.returns-clause-held
returns-clause-held c =
    let t = c.args.ds.now in
    let m = c.args.told.now in
    held_ends t m c.requires.sound c.sound.ensures.each c.args.candidates.now c.requires.candidates c.args.names.now c.args.late.now (names_are t m c.requires.sound c.sound.ensures.each c.args.names.now c.requires.names) c.requires.late c.in_ok-keys.keys c.in_ok-keys.ensures

pub returns-clause-entries : goal.returns-clause-entries
returns-clause-entries c k =
    let t = c.args.ds.now in
    let m = c.args.told.now in
    c.in_ok-name_all.ensures.entries k
    ∙ ap (λ b. bared b (entry_of (drafted c.args.draft.now t) k)) (ap (λ (ks : List Key). has is_key ks k) c.deref.ensures.value
    ∙ last_are t m c.requires.sound c.sound.ensures.each c.args.candidates.now c.requires.candidates c.in_ok-keys.keys c.in_ok-last.last.items
    (held_ends t m c.requires.sound c.sound.ensures.each c.args.candidates.now c.requires.candidates c.args.names.now c.args.late.now (names_are t m c.requires.sound c.sound.ensures.each c.args.names.now c.requires.names) c.requires.late c.in_ok-keys.keys c.in_ok-keys.ensures)
    c.in_ok-last.ensures k)
