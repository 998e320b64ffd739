use Rattle.std.proofs.Common.{◌&&◌, ap, ◌∙◌, int_eq, rules}
use Rattle.std.specs.List.{dedup}
use Rattle.std.proofs.lemmas.Fn.{dedup_same}
use Rattle.map_checks.proofs.change.without_runs.Goals as goal

pub returns : goal.returns
returns c =
    dedup_same _ (λ a b. int_eq a c.args.id && int_eq b c.args.id) _ (λ x y b f' x' y' k. search rules) _ _ c.dedup_by.ensures.filtered
    ∙ ap (dedup (λ a b. int_eq a c.args.id && int_eq b c.args.id)) c.in_ok-left.ensures.items
