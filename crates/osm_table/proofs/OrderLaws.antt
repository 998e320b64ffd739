-- Entries in the order in which they were put: what is looked up and put, by key and by place.
use Rattle.std.proofs.Common.{◌≡◌, ℕ, zero, suc, ◌<◌, ◌||◌, Bool, true, false, cond, is_some, List, [], ◌∷◌, ◌++◌, length, take, set, get_or, Option, Some, None, refl, sym, ◌∙◌, ap, arith, subst}
use Rattle.std.specs.declared.cmp.Ordering.TheVariants.{Less}
use Rattle.std.specs.Ordering.{is_eq}
use Rattle.std.specs.List.{zip, IsDistinct, AllByRecursion}
use Rattle.std.specs.Map.{keys_of, lookup}
use Rattle.std.specs.Prelude.{slice_get, IfNone, IfOk, OnOk, OnErr, Result, Ok, Err, T}
use Rattle.std.specs.Result.{result_and}
use Rattle.std.proofs.lemmas.List.{length-map}
use Rattle.std.proofs.lemmas.Map.Keys.{IsDistinct-head, IsDistinct-tail}
use Rattle.std.proofs.lemmas.Slice.Zip.{firsts-zip}
use Rattle.std.proofs.lemmas.Option.{same_Some}
use Rattle.osm_base.specs.KeyEq.{eq}
use Rattle.osm_base.specs.Rank.{rank_cmp, is_key}
use Rattle.osm_base.specs.RankLaws.{rank_ties, eq_decides}
use Rattle.osm_base.specs.RisingKeys.{rises, is_in}
use Rattle.osm_base.specs.declared.key.Key.{Key}
use Rattle.osm_base.proofs.ByRank.{eq_turned}
use Rattle.osm_base.proofs.Halving.{IsBelow, below_at}
use Rattle.osm_base.proofs.RisingKeys.{key_itself, key_turned}
use Rattle.osm_base.proofs.Tests.{first_T, second_T, less_from_T, never}
use Rattle.osm_table.specs.InOrder.{insert_entry}
use Rattle.osm_table.specs.declared.entry.Entry.{Entry}

pub less_apart : (x k : Key) → rank_cmp x k ≡ Less → is_key k x ≡ false
less_apart x k e = key_turned k x ∙ ap is_eq e

-- An entry put.

keys_case : (b : Bool) (x k : Key) (ks : List Key) → x ∷ cond b ks (ks ++ k ∷ []) ≡ cond b (x ∷ ks) (x ∷ (ks ++ k ∷ []))
keys_case true x k ks = refl
keys_case false x k ks = refl

keys_step : (b : Bool) (x : Key × Entry) (es : List (Key × Entry)) (k : Key) (e : Entry) → keys_of (insert_entry eq es k e) ≡ cond (is_some (lookup (eq k) es)) (keys_of es) (keys_of es ++ k ∷ [])
    → keys_of (cond b ((x.0, e) ∷ es) (x ∷ insert_entry eq es k e)) ≡ cond (is_some (cond b (Some x.1) (lookup (eq k) es))) (x.0 ∷ keys_of es) (x.0 ∷ (keys_of es ++ k ∷ []))
keys_step true x es k e rest = refl
keys_step false x es k e rest = ap (λ ks. x.0 ∷ ks) rest ∙ keys_case (is_some (lookup (eq k) es)) x.0 k (keys_of es)

-- a new key comes last
pub keys_put : (es : List (Key × Entry)) (k : Key) (e : Entry) → keys_of (insert_entry eq es k e) ≡ cond (is_some (lookup (eq k) es)) (keys_of es) (keys_of es ++ k ∷ [])
keys_put [] k e = refl
keys_put (x ∷ es) k e = keys_step (eq k x.0) x es k e (keys_put es k e)

same_case : (b : Bool) (d e : Entry) (o : Option Entry) → cond b (Some e) o ≡ cond b (Some e) (cond b (Some d) o)
same_case true d e o = refl
same_case false d e o = refl

other_case : (b c : Bool) (d e : Entry) (o : Option Entry) → (b ≡ true → c ≡ true → d ≡ e) → cond b (Some d) (cond c (Some e) o) ≡ cond c (Some e) (cond b (Some d) o)
other_case true true d e o same = ap Some (same refl refl)
other_case true false d e o same = refl
other_case false c d e o same = refl

both_one : (k q x : Key) → eq k x ≡ false → eq q x ≡ true → eq k q ≡ true → (d e : Entry) → d ≡ e
both_one k q x apart this that d e =
    let one : eq k x ≡ true = subst (λ (j : Key). eq k j ≡ true) ((eq_decides q x).0 this) that in
    never (eq k x) one apart

found_step : (b : Bool) (x : Key × Entry) (es : List (Key × Entry)) (k : Key) (e : Entry) (q : Key) → eq k x.0 ≡ b → lookup (eq q) (insert_entry eq es k e) ≡ cond (eq k q) (Some e) (lookup (eq q) es)
    → lookup (eq q) (cond b ((x.0, e) ∷ es) (x ∷ insert_entry eq es k e)) ≡ cond (eq k q) (Some e) (cond (eq q x.0) (Some x.1) (lookup (eq q) es))
found_step true x es k e q is rest =
    let one : k ≡ x.0 = (eq_decides k x.0).0 is in
    let turn : eq q x.0 ≡ eq k q = subst (λ (j : Key). eq q j ≡ eq k q) one (eq_turned q k) in
    rw turn (same_case (eq k q) x.1 e (lookup (eq q) es))
found_step false x es k e q is rest =
    ap (cond (eq q x.0) (Some x.1)) rest ∙ other_case (eq q x.0) (eq k q) x.1 e (lookup (eq q) es) (λ this that. both_one k q x.0 is this that x.1 e)

pub found_put : (es : List (Key × Entry)) (k : Key) (e : Entry) (q : Key) → lookup (eq q) (insert_entry eq es k e) ≡ cond (eq k q) (Some e) (lookup (eq q) es)
found_put [] k e q = ap (λ b. cond b (Some e) None) (eq_turned q k)
found_put (x ∷ es) k e q = found_step (eq k x.0) x es k e q refl (found_put es k e q)

-- what follows where there is none
pub if_none : {A P Q : Type 0} (o : Option A) → IfNone o P → (P → Q) → IfNone o Q
if_none None p f = f p
if_none (Some a) p f = tt

pub when_ok : {A B P : Type 0} (r : Result A B) → P → OnOk r P
when_ok (Ok a) p = p
when_ok (Err e) p = tt

pub if_err : {A B P : Type 0} (r : Result A B) → P → OnErr r P
if_err (Ok a) p = tt
if_err (Err e) p = p

-- what is answered where a step passes
pub and_ok : {T U E P : Type 0} (Q : U → Type 0) (r : Result T E) (u : U) → (P → Q u) → OnOk r P → IfOk (result_and r (Ok u)) Q
and_ok Q (Ok x) u more h = more h
and_ok Q (Err e) u more h = tt

-- Entries beside their keys.

pub keys_zip : (ks : List Key) (es : List Entry) → length ks ≡ length es → keys_of (zip ks es) ≡ ks
keys_zip ks es len = firsts-zip ks es (sym len)

pub zip_len : (ks : List Key) (es : List Entry) → length ks ≡ length es → length ks ≡ length (zip ks es)
zip_len ks es len = ap (λ (js : List Key). length js) (sym (keys_zip ks es len)) ∙ length-map (zip ks es) (λ (e : Key × Entry). e.0)

pub eq_itself : (k : Key) → eq k k ≡ true
eq_itself k = rank_ties k k ∙ key_itself k

pub later_apart : (x : Key) (ks : List Key) (i : ℕ) (k : Key) → AllByRecursion (λ y. eq x y ≡ false) ks → slice_get ks i ≡ Some k → eq k x ≡ false
later_apart x [] i k h at = let no : None ≡ Some k = at in cc
later_apart x (y ∷ ks) zero k h at = eq_turned k x ∙ ap (eq x) (sym (same_Some y k at)) ∙ h.0
later_apart x (y ∷ ks) (suc i) k h at = later_apart x ks i k h.1 at

-- the entry at the place of a key
pub found_at : (ks : List Key) (es : List Entry) (i : ℕ) (k : Key) → IsDistinct eq ks → slice_get ks i ≡ Some k → lookup (eq k) (zip ks es) ≡ slice_get es i
found_at [] es i k h at = let no : None ≡ Some k = at in cc
found_at (x ∷ ks) [] i k h at = refl
found_at (x ∷ ks) (e ∷ es) zero k h at =
    let one : eq k x ≡ true = subst (λ (j : Key). eq k j ≡ true) (sym (same_Some x k at)) (eq_itself k) in
    rw one refl
found_at (x ∷ ks) (e ∷ es) (suc i) k h at = rw (later_apart x ks i k (IsDistinct-head eq x ks h) at) (found_at ks es i k (IsDistinct-tail eq x ks h) at)

-- a key and its entry stand at one place
pub zip_at : (ks : List Key) (es : List Entry) (i : ℕ) (k : Key) (e : Entry) → slice_get ks i ≡ Some k → slice_get es i ≡ Some e → slice_get (zip ks es) i ≡ Some (k, e)
zip_at [] es i k e here there = let no : None ≡ Some k = here in cc
zip_at (x ∷ ks) [] i k e here there = let no : None ≡ Some e = there in cc
zip_at (x ∷ ks) (y ∷ es) zero k e here there = λ j. Some (same_Some x k here j, same_Some y e there j)
zip_at (x ∷ ks) (y ∷ es) (suc i) k e here there = zip_at ks es i k e here there

pub neither : (a b : Bool) → (a || b) ≡ false → (a ≡ false) × (b ≡ false)
neither true b h = cc
neither false b h = (refl, h)

-- a key that isn't among them has none
pub found_nowhere : (ks : List Key) (es : List Entry) (k : Key) → is_in k ks ≡ false → lookup (eq k) (zip ks es) ≡ None
found_nowhere [] es k h = refl
found_nowhere (x ∷ ks) [] k h = refl
found_nowhere (x ∷ ks) (e ∷ es) k h =
    let apart : eq k x ≡ false = rank_ties k x ∙ (neither (is_key k x) (is_in k ks) h).0 in
    rw apart (found_nowhere ks es k (neither (is_key k x) (is_in k ks) h).1)

-- another entry at the place of a key
pub put_at : (ks : List Key) (es : List Entry) (i : ℕ) (k : Key) (e : Entry) → IsDistinct eq ks → length ks ≡ length es → slice_get ks i ≡ Some k → zip ks (set es i e) ≡ insert_entry eq (zip ks es) k e
put_at [] es i k e h len at = let no : None ≡ Some k = at in cc
put_at (x ∷ ks) [] i k e h len at = absurd (omega (arith, len))
put_at (x ∷ ks) (d ∷ es) zero k e h len at =
    let one : eq k x ≡ true = subst (λ (j : Key). eq k j ≡ true) (sym (same_Some x k at)) (eq_itself k) in
    rw one refl
put_at (x ∷ ks) (d ∷ es) (suc i) k e h len at =
    rw (later_apart x ks i k (IsDistinct-head eq x ks h) at) (ap (λ (ps : List (Key × Entry)). (x, d) ∷ ps) (put_at ks es i k e (IsDistinct-tail eq x ks h) (omega (arith, len)) at))

-- a key that isn't among them, with its entry behind the others
pub put_last : (ks : List Key) (es : List Entry) (k : Key) (e : Entry) → length ks ≡ length es → is_in k ks ≡ false → zip (ks ++ k ∷ []) (es ++ e ∷ []) ≡ insert_entry eq (zip ks es) k e
put_last [] [] k e len h = refl
put_last [] (d ∷ es) k e len h = absurd (omega (arith, len))
put_last (x ∷ ks) [] k e len h = absurd (omega (arith, len))
put_last (x ∷ ks) (d ∷ es) k e len h =
    let apart : eq k x ≡ false = rank_ties k x ∙ (neither (is_key k x) (is_in k ks) h).0 in
    rw apart (ap (λ (ps : List (Key × Entry)). (x, d) ∷ ps) (put_last ks es k e (omega (arith, len)) (neither (is_key k x) (is_in k ks) h).1))

below_last : (x k : Key) (ks : List Key) → IsBelow x (ks ++ k ∷ []) → rank_cmp x k ≡ Less
below_last x k [] h = less_from_T _ (first_T _ _ h)
below_last x k (y ∷ ks) h = below_last x k ks (second_T _ _ h)

-- the others come before the last of keys that rise
pub before_last : (ks : List Key) (k : Key) (i : ℕ) (d : Key) → T (rises (ks ++ k ∷ [])) → i < length ks → rank_cmp (get_or ks i d) k ≡ Less
before_last [] k i d h l = absurd (omega (arith, l))
before_last (x ∷ ks) k zero d h l = below_last x k ks (first_T _ _ h)
before_last (x ∷ ks) k (suc i) d h l = before_last ks k i d (second_T _ _ h) (omega (arith, l))

-- and it is new
pub last_new : (ks : List Key) (k : Key) → T (rises (ks ++ k ∷ [])) → is_in k ks ≡ false
last_new [] k h = refl
last_new (x ∷ ks) k h = rw (less_apart x k (below_last x k ks (first_T _ _ h))) (last_new ks k (second_T _ _ h))

-- nor is any among those before it
pub next_new : (ks : List Key) (i : ℕ) (d : Key) → T (rises ks) → i < length ks → is_in (get_or ks i d) (take i ks) ≡ false
next_new [] i d h l = absurd (omega (arith, l))
next_new (x ∷ ks) zero d h l = refl
next_new (x ∷ ks) (suc i) d h l =
    rw (less_apart x (get_or ks i d) (below_at x ks i d (first_T _ _ h) (omega (arith, l)))) (next_new ks i d (second_T _ _ h) (omega (arith, l)))

each_apart : (x : Key) (ks : List Key) → IsBelow x ks → AllByRecursion (λ y. eq x y ≡ false) ks
each_apart x [] h = tt
each_apart x (y ∷ ks) h = (rank_ties x y ∙ ap is_eq (less_from_T _ (first_T _ _ h)), each_apart x ks (second_T _ _ h))

-- keys that rise are distinct
pub rises_distinct : (ks : List Key) → T (rises ks) → IsDistinct eq ks
unfolding IsDistinct
rises_distinct [] h = tt
rises_distinct (x ∷ ks) h = (each_apart x ks (first_T _ _ h), rises_distinct ks (second_T _ _ h))
