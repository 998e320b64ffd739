use Rattle.std.proofs.Common.{◌∙◌, ℕ, List, ap}
use Rattle.merge_cases.specs.Keys.{is_listed}
use Rattle.merge_cases.proofs.tag_keys.TagKeys.has.Goals as goal

pub returns : goal.returns
returns c = c.contains.ensures ∙ c.self.invariant.1 c.args.key.now ∙ ap (λ (keys : List (List ℕ)). is_listed keys c.args.key.now) c.self.view_is
