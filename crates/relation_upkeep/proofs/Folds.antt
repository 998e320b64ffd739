-- Members are read one by one, and those of a run at once.
use Rattle.std.proofs.Common.{◌≡◌, ◌+◌, ◌-◌, ◌<◌, ◌≤◌, ℕ, zero, suc, List, [], ◌∷◌, length, drop, get_or, Option, Some, None, sym, ap, ◌∙◌, arith, add-one, drop-cons}
use Rattle.std.proofs.lemmas.List.{drop-drop}
use Rattle.osm_base.specs.declared.key.Key.{Key}
use Rattle.osm_base.specs.declared.members.Member.{Member}
use Rattle.tool_api.specs.Upkeep.{folded_from}
use Rattle.relation_upkeep.specs.Folding.{behind, read_on}

skip_step : (ways : List Key) (kept : Key) (skip : ℕ) (m : Member) (ms : List Member) → 0 < skip → folded_from ways kept skip (m ∷ ms) ≡ folded_from ways kept (skip - 1) ms
skip_step ways kept zero m ms h = absurd (omega (arith, h))
skip_step ways kept (suc n) m ms h = (let e : n ≡ suc n - 1 = omega arith in ap (λ (k : ℕ). folded_from ways kept k ms) e)

-- one member of a run is passed over
pub skipped : (ways : List Key) (kept : Key) (made : List Member) (skip i : ℕ) (ms : List Member) (all : Option (List Member)) → 0 < skip → i < length ms
    → behind made (folded_from ways kept skip (drop i ms)) ≡ all → behind made (folded_from ways kept (skip - 1) (drop (i + 1) ms)) ≡ all
skipped ways kept made skip i ms all some lt is =
    let none : Member = record { key = kept; role = [] } in
    rw add-one (ap (behind made) (sym (ap (folded_from ways kept skip) (drop-cons ms i none lt) ∙ skip_step ways kept skip (get_or ms i none) (drop (suc i) ms) some)) ∙ is)

nothing_left : (skip : ℕ) → skip ≤ 0 → skip ≡ 0
nothing_left skip h = omega arith

-- a run that isn't whole
pub read_none : (ways : List Key) (kept : Key) (made made₁ : List Member) (skip i : ℕ) (ms rest : List Member) (all : Option (List Member)) (found : Option ℕ) → skip ≤ 0 → rest ≡ drop i ms
    → behind made (folded_from ways kept skip (drop i ms)) ≡ all → behind made (folded_from ways kept 0 rest) ≡ read_on ways kept made₁ found (drop 1 rest) → found ≡ None → None ≡ all
read_none ways kept made made₁ skip i ms rest all found h same is read none =
    sym (ap (λ (s : Option ℕ). read_on ways kept made₁ s (drop 1 rest)) none) ∙ sym read ∙ ap (λ (r : List Member). behind made (folded_from ways kept 0 r)) same
    ∙ sym (ap (λ (n : ℕ). behind made (folded_from ways kept n (drop i ms))) (nothing_left skip h)) ∙ is

-- a member, or a whole run, is read
pub read_some : (ways : List Key) (kept : Key) (made made₁ : List Member) (skip i n : ℕ) (ms rest : List Member) (all : Option (List Member)) (found : Option ℕ) → skip ≤ 0 → rest ≡ drop i ms
    → behind made (folded_from ways kept skip (drop i ms)) ≡ all → behind made (folded_from ways kept 0 rest) ≡ read_on ways kept made₁ found (drop 1 rest) → found ≡ Some n
    → behind made₁ (folded_from ways kept n (drop (i + 1) ms)) ≡ all
read_some ways kept made made₁ skip i n ms rest all found h same is read some =
    ap (λ (r : List Member). behind made₁ (folded_from ways kept n r)) (sym (ap (drop 1) same ∙ drop-drop 1 i ms))
    ∙ sym (ap (λ (s : Option ℕ). read_on ways kept made₁ s (drop 1 rest)) some) ∙ sym read ∙ ap (λ (r : List Member). behind made (folded_from ways kept 0 r)) same
    ∙ sym (ap (λ (n : ℕ). behind made (folded_from ways kept n (drop i ms))) (nothing_left skip h)) ∙ is
