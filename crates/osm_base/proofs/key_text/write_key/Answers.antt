use Rattle.std.proofs.Common.{◌≡◌, [], ◌∷◌, ◌++◌, length, take}
use Rattle.osm_base.proofs.ExtendLaws.{extends_itself, extends_more, failed_after, failed_first}
use Rattle.osm_base.proofs.KeyLaw.{key_again}
use Rattle.osm_base.proofs.key_text.write_key.Goals as goal
use Rattle.osm_base.proofs.key_text.write_key.Goals.{then-key-lt0+in_ok-push-2, else-key-lt0}

pub returns-in_err-write_digits-clause-kept : goal.returns-in_err-write_digits-clause-kept
returns-in_err-write_digits-clause-kept c =
    let new = c.write_digits.new.out.items in
    elim c.if-key-lt0.branch [
      | then-key-lt0+in_ok-push-2 w ↦
          let sign : c.if-key-lt0.out.items ≡ c.push.new.self.items ++ (45 ∷ []) = cc (w.out-is, w.in_ok-push-2.ensures.items) in
          failed_after c.from_residual-in_err-write_digits.result c.args.out.now.items c.push.new.self.items new _ c.in_ok-push.ensures.items
          (extends_more c.push.new.self.items c.if-key-lt0.out.items new (45 ∷ []) sign c.in_err-write_digits.ensures.kept)
      | else-key-lt0 w ↦
          let kept : take (length c.push.new.self.items) new ≡ c.push.new.self.items = cc (w.out-is, c.in_err-write_digits.ensures.kept) in
          failed_after c.from_residual-in_err-write_digits.result c.args.out.now.items c.push.new.self.items new _ c.in_ok-push.ensures.items kept
    ]

pub returns-in_err-push-clause-kept : goal.returns-in_err-push-clause-kept
returns-in_err-push-clause-kept c = failed_first c.from_residual.result c.args.out.now.items c.push.new.self.items c.in_err-push.ensures.items

pub returns-in_err-push-2-clause-kept : goal.returns-in_err-push-2-clause-kept
returns-in_err-push-2-clause-kept c =
    failed_after c.from_residual-in_err-push-2.result c.args.out.now.items c.push.new.self.items c.push-then-key-lt0.new.self.items _ c.in_ok-push.ensures.items
    (extends_itself c.push.new.self.items c.push-then-key-lt0.new.self.items c.in_err-push-2.ensures.items)

pub returns-in_err-push-clause-law : goal.returns-in_err-push-clause-law
returns-in_err-push-clause-law c = key_again c.args.key

pub returns-in_err-push-2-clause-law : goal.returns-in_err-push-2-clause-law
returns-in_err-push-2-clause-law c = key_again c.args.key

pub returns-in_err-write_digits-clause-law : goal.returns-in_err-write_digits-clause-law
returns-in_err-write_digits-clause-law c = key_again c.args.key

pub returns-clause-law : goal.returns-clause-law
returns-clause-law c = key_again c.args.key
