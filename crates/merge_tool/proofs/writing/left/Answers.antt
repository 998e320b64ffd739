use Rattle.std.proofs.Common.{Some, ap, ◌∙◌, sym, ◌≡◌}
use Rattle.std.specs.Option.{option_copied}
use Rattle.osm_table.specs.declared.entry.Entry.{Entry}
use Rattle.merge_tool.specs.Passes.{left}
use Rattle.merge_tool.proofs.Appends.{if_ok}
use Rattle.merge_tool.proofs.Cases.{left_gone}
use Rattle.merge_tool.proofs.writing.left.Goals as goal

pub returns-else-contains : goal.returns-else-contains
returns-else-contains c = if_ok (λ (e : Entry). e ≡ c.unwrap-news.result.now) (λ (e : Entry). Some e ≡ left c.args.ds.now c.args.told.now.told c.args.held.now c.args.key) c.copy.result
    (λ (e : Entry) is. ap Some is ∙ left_gone c.args.ds.now c.args.told.now.told c.args.held.now c.args.key c.unwrap-news.result.now c.requires.going (ap option_copied (sym c.unwrap-news.ensures) ∙ c.get.ensures.value) (sym c.contains.ensures ∙ c.if-contains.false)) c.copy.ensures
