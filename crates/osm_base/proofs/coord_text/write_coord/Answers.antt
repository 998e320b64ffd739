use Rattle.std.proofs.Common.{◌≡◌, [], ◌∷◌, ◌++◌}
use Rattle.std.proofs.lemmas.List.{append-nil}
use Rattle.osm_base.proofs.CoordLaw.{coord_again}
use Rattle.osm_base.proofs.ExtendLaws.{failed_after, failed_first}
use Rattle.osm_base.proofs.coord_text.write_coord.Goals as goal
use Rattle.osm_base.proofs.coord_text.write_coord.Goals.{then-value-lt0+in_ok-push, else-value-lt0}

pub returns-in_err-write_size-clause-kept : goal.returns-in_err-write_size-clause-kept
returns-in_err-write_size-clause-kept c =
    let new = c.write_size.new.out.items in
    elim c.if-value-lt0.branch [
      | then-value-lt0+in_ok-push w ↦
          let sign : c.if-value-lt0.out.items ≡ c.args.out.now.items ++ (45 ∷ []) = cc (w.out-is, w.in_ok-push.ensures.items) in
          failed_after c.from_residual-in_err-write_size.result c.args.out.now.items c.if-value-lt0.out.items new (45 ∷ []) sign c.in_err-write_size.ensures.kept
      | else-value-lt0 w ↦
          let same : c.if-value-lt0.out.items ≡ c.args.out.now.items ++ [] = cc (w.out-is, append-nil c.args.out.now.items) in
          failed_after c.from_residual-in_err-write_size.result c.args.out.now.items c.if-value-lt0.out.items new [] same c.in_err-write_size.ensures.kept
    ]

pub returns-in_err-push-clause-kept : goal.returns-in_err-push-clause-kept
returns-in_err-push-clause-kept c = failed_first c.from_residual.result c.args.out.now.items c.push.new.self.items c.in_err-push.ensures.items

pub returns-in_err-push-clause-law : goal.returns-in_err-push-clause-law
returns-in_err-push-clause-law c = coord_again c.args.value c.requires

pub returns-in_err-write_size-clause-law : goal.returns-in_err-write_size-clause-law
returns-in_err-write_size-clause-law c = coord_again c.args.value c.requires

pub returns-clause-law : goal.returns-clause-law
returns-clause-law c = coord_again c.args.value c.requires
