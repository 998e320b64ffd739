use Rattle.std.proofs.Common.{map}
use Rattle.renamed_content.specs.Renamed.{renamed}
use Rattle.import_tool.specs.Known.{called}
use Rattle.import_tool.proofs.Ends.{begun}
use Rattle.import_tool.proofs.import.import_draft.Goals as goal

pub loop-object-init : goal.loop-object-init
loop-object-init c = begun c.args.ds.now _ (map (λ o. renamed (called c.args.names.now.keys.entries) o.content) c.args.objects.now) c.requires c.in_ok-draft.ensures
