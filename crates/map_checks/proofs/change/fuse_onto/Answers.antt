use Rattle.std.proofs.lemmas.Result.{on_ok_weaker}
use Rattle.map_checks.proofs.Drafts.{draft_is}
use Rattle.map_checks.proofs.change.fuse_onto.Goals as goal

pub returns : goal.returns
returns c = on_ok_weaker c.edit_all.result (λ last. draft_is c.args.ds.now c.args.nodes.now c.args.kept _ c.args.draft.now _ _ _ c.requires.none c.in_ok-refer_to_kept.ensures c.in_ok-delete_others.ensures last c.requires.tags) c.edit_all.ensures
