-- A look-up finds the id that was picked last.
use Rattle.std.proofs.Common.{◌≡◌, ℤ, cond, [], ◌∷◌, ◌++◌, Some, sym, ◌∙◌, ap}
use Rattle.std.specs.Prelude.{reverse}
use Rattle.std.specs.Map.{lookup}
use Rattle.std.proofs.lemmas.List.{reverse-append}
use Rattle.osm_base.specs.KeyEq.{eq}
use Rattle.osm_base.specs.RankLaws.{rank_ties}
use Rattle.osm_base.specs.declared.key.Key.{Key}
use Rattle.osm_base.proofs.RisingKeys.{key_turned}
use Rattle.upload_order.specs.Rename.{Names, named}
use Rattle.server_world.specs.Named.{FindsNames}

-- with one name more
pub one_named : (given given₁ ids ids₁ : Names) (k : Key) (id : ℤ) → FindsNames given ids → given₁ ≡ given ++ (k, id) ∷ []
    → ((q : Key) → lookup (eq q) ids₁ ≡ cond (eq k q) (Some id) (lookup (eq q) ids)) → FindsNames given₁ ids₁
one_named given given₁ ids ids₁ k id finds more put q =
    put q
    ∙ (λ i. cond (rank_ties k q i) (Some id) (finds q i))
    ∙ ap (λ b. cond b (Some id) (named (reverse given) q)) (key_turned k q)
    ∙ ap (λ (ns : Names). named ns q) (sym (ap (λ (ns : Names). reverse ns) more ∙ reverse-append given ((k, id) ∷ [])))
