-- There are fresh ids for any changes: those above all that stand.
use Rattle.std.proofs.Common.{◌≡◌, ℕ, ◌+◌, ◌≤◌, ℤ, pos, negsuc, false, cond, List, [], ◌∷◌, Some, None, refl, ◌∙◌, ap, inl, inr, arith}
use Rattle.std.proofs.lemmas.Bool.{cases_Bool, lt-ltb}
use Rattle.std.specs.FinMap as fin
use Rattle.std.specs.FinMap.Entries as list
use Rattle.osm_base.specs.Rank.{rank_cmp, is_key}
use Rattle.osm_base.specs.declared.key.Key.{Key}
use Rattle.osm_base.proofs.RisingKeys.{one_key}
use Rattle.osm_table.specs.Table.{TableValue}
use Rattle.upload_order.specs.declared.change.Change.{Change}
use Rattle.upload_order.specs.declared.change.Change.TheVariants.{Create, Modify, Delete}
use Rattle.upload_order.specs.Rename.{with_id}
use Rattle.upload_order.specs.Run.{picked, IsAmong, AreFresh}
use Rattle.upload_order.specs.World.{World}

-- a positive id as a number
abbrev number : ℤ → ℕ
number (pos n) = n
number (negsuc n) = 0

-- a number above all ids of the entries
abbrev above : {V : Type 0} → List (Key × V) → ℕ
above [] = 0
above (e ∷ es) = number e.0.id + 1 + above es

apart : (k j : Key) → number j.id + 1 ≤ number k.id → is_key k j ≡ false
apart k j less = elim (cases_Bool (is_key k j)) [
  | inl e ↦ (let same : number k.id ≡ number j.id = ap (λ (x : Key). number x.id) (one_key k j e) in absurd (omega (arith, less, same)))
  | inr e ↦ e
]

not_listed : {V : Type 0} (k : Key) (es : List (Key × V)) → above es ≤ number k.id → list.find rank_cmp k es ≡ None
not_listed k [] h = refl
not_listed k (e ∷ es) h =
    let less : number e.0.id + 1 + above es ≤ number k.id = h in
    ap (λ b. cond b (Some e.1) (list.find rank_cmp k es)) (apart k e.0 (omega (arith, less))) ∙ not_listed k es (omega (arith, less))

not_there : {V : Type 0} (m : fin.FinMap rank_cmp V) (k : Key) → above (fin.entries m) ≤ number k.id → fin.get m k ≡ None
not_there m k h = fin.get-entries m k ∙ not_listed k (fin.entries m) h

-- the ids from this one on
abbrev ids_from : ℕ → List Change → List ℤ
ids_from n [] = []
ids_from n (Create k c ∷ cs) = pos n ∷ ids_from (n + 1) cs
ids_from n (Modify k v c ∷ cs) = ids_from n cs
ids_from n (Delete k v ∷ cs) = ids_from n cs

from_there : (n : ℕ) (cs : List Change) (q : Key) → IsAmong q (picked cs (ids_from n cs)) → n ≤ number q.id
from_there n [] q i = absurd i
from_there n (Create k c ∷ cs) q (inl e) = let same : n ≡ number q.id = ap (λ (x : Key). number x.id) e in omega (arith, same)
from_there n (Create k c ∷ cs) q (inr i) = let less : n + 1 ≤ number q.id = from_there (n + 1) cs q i in omega (arith, less)
from_there n (Modify k v c ∷ cs) q i = from_there n cs q i
from_there n (Delete k v ∷ cs) q i = from_there n cs q i

ids_fresh : (w : World) (t : TableValue) (n : ℕ) (cs : List Change) → 1 ≤ n → above (fin.entries w.entries) ≤ n → above (fin.entries t.entries) ≤ n → AreFresh w t cs (ids_from n cs)
ids_fresh w t n [] one a b = tt
ids_fresh w t n (Create k c ∷ cs) one a b =
    let never : IsAmong (with_id k (pos n)) (picked cs (ids_from (n + 1) cs)) → ⊥ =
    λ i. let less : n + 1 ≤ n = from_there (n + 1) cs (with_id k (pos n)) i in omega (arith, less) in
    (lt-ltb 0 n (omega (arith, one)), not_there w.entries (with_id k (pos n)) a, not_there t.entries (with_id k (pos n)) b, never, ids_fresh w t (n + 1) cs (omega (arith, one)) (omega (arith, a)) (omega (arith, b)))
ids_fresh w t n (Modify k v c ∷ cs) one a b = ids_fresh w t n cs one a b
ids_fresh w t n (Delete k v ∷ cs) one a b = ids_fresh w t n cs one a b

pub fresh_exist : (w : World) (t : TableValue) (cs : List Change) → (picks : List ℤ) × AreFresh w t cs picks
fresh_exist w t cs = (
  ids_from (above (fin.entries w.entries) + above (fin.entries t.entries) + 1) cs,
  ids_fresh w t (above (fin.entries w.entries) + above (fin.entries t.entries) + 1) cs (omega arith) (omega arith) (omega arith),
)
