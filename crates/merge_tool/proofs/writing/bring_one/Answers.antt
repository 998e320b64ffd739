use Rattle.std.proofs.Common.{Some, ap, ◌∙◌}
use Rattle.std.specs.Option.{option_map}
use Rattle.tool_api.specs.Staged.{back}
use Rattle.merge_tool.proofs.Puts.{put_mapped}
use Rattle.merge_tool.proofs.writing.bring_one.Goals as goal

pub returns-in_ok-put_shared-in-Some-clause-entries : goal.returns-in_ok-put_shared-in-Some-clause-entries
returns-in_ok-put_shared-in-Some-clause-entries c = put_mapped c.args.draft.now c.put_shared.new.self c.args.ds.now c.args.key _ (option_map back) c.in_ok-put_shared-in-Some.ensures.ok (ap Some c.in_ok-entry-in-Some.ensures ∙ ap (option_map back) c.in-Some.ensures)
