-- A set of keys to which a key comes, or from which one goes.
use Rattle.std.proofs.Common.{◌≡◌, ◌||◌, Bool, true, false, not, cond, List, [], ◌∷◌, ◌++◌, fold, if◌then◌else◌, refl, sym, ap, ◌∙◌}
use Rattle.std.specs.List.{list_any}
use Rattle.std.proofs.Math.Bool.{or-false}
use Rattle.std.proofs.lemmas.List.Folds.{list_any-append}
use Rattle.osm_base.specs.KeyEq.{eq}
use Rattle.osm_base.specs.RankLaws.{rank_ties, eq_decides}
use Rattle.osm_base.specs.declared.key.Key.{Key}
use Rattle.osm_base.proofs.RisingKeys.{key_turned}
use Rattle.opl_file.specs.Known.{finds, Finds}

turned : (j k : Key) → eq j k ≡ eq k j
turned j k = rank_ties j k ∙ key_turned j k ∙ sym (rank_ties k j)

or_new : (b c : Bool) → cond c true b ≡ (b || c)
or_new true true = refl
or_new true false = refl
or_new false true = refl
or_new false false = refl

-- what is found with one key more
pub one_more : (found : Bool) (j k : Key) → cond (eq j k) true found ≡ finds k found j
one_more found j k = ap (λ c. cond c true found) (turned j k) ∙ or_new found (eq k j)

or_assoc : (a b c : Bool) → ((a || b) || c) ≡ (a || (b || c))
or_assoc true b c = refl
or_assoc false b c = refl

-- what is found with many more
pub with_all : (k : Key) (found : Bool) (ks : List Key) → fold (finds k) found ks ≡ (found || list_any (eq k) ks)
with_all k found [] = sym (or-false found)
with_all k found (j ∷ ks) = with_all k (finds k found j) ks ∙ or_assoc found (eq k j) (list_any (eq k) ks)

there : (b c : Bool) → (c ≡ true → b ≡ true) → (b || c) ≡ b
there true c h = refl
there false true h = sym (h refl)
there false false h = refl

was_found : (b : Bool) → false ≡ not b → b ≡ true
was_found true e = refl
was_found false e = e

last : (k key : Key) (ks : List Key) → list_any (eq k) (ks ++ key ∷ []) ≡ (list_any (eq k) ks || eq k key)
last k key ks = list_any-append (eq k) ks (key ∷ []) ∙ ap (λ b. list_any (eq k) ks || b) (or-false (eq k key))

-- a key that comes stands last, unless it is there
pub comes : (found found₁ : Key → Bool) (ks : List Key) (key : Key) (new : Bool) → Finds found ks → ((k : Key) → found₁ k ≡ cond (eq key k) true (found k)) → new ≡ not (found key)
    → Finds found₁ (if new then ks ++ key ∷ [] else ks)
comes found found₁ ks key true same put is k = put k ∙ one_more (found k) key k ∙ ap (λ b. b || eq k key) (same k) ∙ sym (last k key ks)
comes found found₁ ks key false same put is k =
    put k ∙ one_more (found k) key k ∙ there (found k) (eq k key) (λ e. ap found ((eq_decides k key).0 e) ∙ was_found (found key) is) ∙ same k

left : (b c : Bool) → (c ≡ true → b ≡ false) → cond c false (b || c) ≡ b
left b true h = sym (h refl)
left b false h = or-false b

-- a key that goes was the last
pub goes : (found found₁ : Key → Bool) (ks : List Key) (key : Key) → list_any (eq key) ks ≡ false → Finds found (ks ++ key ∷ []) → ((k : Key) → found₁ k ≡ cond (eq key k) false (found k)) → Finds found₁ ks
goes found found₁ ks key new same gone k =
    gone k ∙ ap (λ b. cond (eq key k) false b) (same k ∙ last k key ks) ∙ ap (λ c. cond c false (list_any (eq k) ks || eq k key)) (turned key k)
    ∙ left (list_any (eq k) ks) (eq k key) (λ e. ap (λ (j : Key). list_any (eq j) ks) ((eq_decides k key).0 e) ∙ new)
