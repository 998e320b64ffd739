use Rattle.std.proofs.Common.{◌∙◌, ap, sym, Some}
use Rattle.std.specs.Option.{option_copied}
use Rattle.osm_table.specs.Told.{told_of}
use Rattle.tool_api.specs.Staged.{theirs_told, staged}
use Rattle.merge_cases.specs.declared.verdict.Verdict.{Verdict}
use Rattle.merge_tool.proofs.News.{mention_told}
use Rattle.merge_tool.proofs.entries.staged.Goals as goal

pub returns-in_ok-copy-in-Mention : goal.returns-in_ok-copy-in-Mention
returns-in_ok-copy-in-Mention c =
    ap (λ (v : Verdict). staged v (option_copied c.args.old) (theirs_told (told_of c.args.news.now))) c.in-Mention.is
    ∙ ap Some (sym (c.in_ok-copy-in-Mention.ensures ∙ sym c.requires.told ∙ mention_told (told_of c.args.news.now) (option_copied c.args.old) c.args.verdict c.in-Mention.is c.requires.case))
