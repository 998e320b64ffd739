-- Distinct keys are the same keys.
use Rattle.std.proofs.Common.{◌≡◌, Bool, true, false, List, [], ◌∷◌, ◌++◌, if◌then◌else◌, refl, ap, ◌∙◌}
use Rattle.osm_base.specs.declared.key.Key.{Key}
use Rattle.closure.proofs.Held.{has_all}
use Rattle.tool_api.specs.Checks.{is_named}
use Rattle.tool_api.specs.Distinct.{with_new, distinct}

-- a key is among distinct keys where it is among the keys
pub in_distinct : (q : Key) (ks : List Key) → is_named (distinct ks) q ≡ is_named ks q
in_distinct q ks = has_all [] ks q

-- keys that follow are put behind those that were seen
append_new : (seen ks more : List Key) → with_new seen (ks ++ more) ≡ with_new (with_new seen ks) more
append_new seen [] more = refl
append_new seen (k ∷ ks) more = append_new (if is_named seen k then seen else seen ++ k ∷ []) ks more

one_once : (seen : List Key) (k : Key) (b : Bool) → is_named seen k ≡ b → distinct seen ≡ seen → distinct (if b then seen else seen ++ k ∷ []) ≡ (if b then seen else seen ++ k ∷ [])
one_once seen k true is once = once
one_once seen k false is once = append_new [] seen (k ∷ []) ∙ ap (λ s. with_new s (k ∷ [])) once ∙ ap (λ b. if b then seen else seen ++ k ∷ []) is

stays_once : (seen ks : List Key) → distinct seen ≡ seen → distinct (with_new seen ks) ≡ with_new seen ks
stays_once seen [] once = once
stays_once seen (k ∷ ks) once = stays_once (if is_named seen k then seen else seen ++ k ∷ []) ks (one_once seen k (is_named seen k) refl once)

-- none of them comes twice
pub distinct_once : (ks : List Key) → distinct (distinct ks) ≡ distinct ks
distinct_once ks = stays_once [] ks refl
