use Rattle.std.proofs.Common.{◌≡◌, ℕ, false, List, [], ◌∷◌, ◌++◌, ap, subst, sym, ◌∙◌}
use Rattle.std.specs.Prelude.{T}
use Rattle.merge_cases.specs.Keys.{is_listed, are_tag_keys}
use Rattle.merge_cases.proofs.Pushed.{pushed, found_too}
use Rattle.merge_cases.proofs.tag_keys.TagKeys.push.Goals as goal

pub invariant_of-self-2 : goal.invariant_of-self-2
invariant_of-self-2 c =
    let keys : c.push.new.self.items ≡ c.self.inside.keys.items ++ c.args.key ∷ [] = c.in-Ok.ensures.items ∙ (λ i. c.in_ok-reserve.ensures.items i ++ c.new.ensures i ∷ []) in
    let out : is_listed c.self.inside.keys.items c.args.key ≡ false = ap (λ (ks : List (List ℕ)). is_listed ks c.args.key) c.self.view_is ∙ c.requires.new in (
      subst (λ (ks : List (List ℕ)). T (are_tag_keys ks)) (sym keys) (pushed c.args.key c.self.inside.keys.items c.requires.named out c.self.invariant.0),
      λ q.
          found_too (λ listed. listed.items) c.self.inside.keys.items c.self.inside.index.keys c.insert.new.self.keys c.in_ok-from_slice.field-0 c.args.key c.in_ok-insert.field-0
          c.self.invariant.1 (c.in_ok-from_slice.ensures.items ∙ c.as_bytes.ensures.value) out c.in_ok-insert.ensures.added c.in_ok-insert.ensures.keys q
          ∙ ap (λ (ks : List (List ℕ)). is_listed ks q) (sym keys),
    )
