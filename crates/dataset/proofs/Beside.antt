-- Lists of users beside a told map: what is kept when one more user is put in.
use Rattle.std.proofs.Common.{◌≡◌, ℕ, ◌+◌, ◌<◌, ◌≤◌, zero, suc, ◌&&◌, ◌||◌, Bool, true, false, cond, is_some, Option, Some, None, List, [], ◌∷◌, ◌++◌, length, take, map, set, replicate, get_or, refl, sym, ◌∙◌, ap, arith}
use Rattle.std.specs.Prelude.{nat_lt, slice_get}
use Rattle.std.specs.Option.{option_map, unwrap_or}
use Rattle.std.specs.List.{list_any, zip, IsDistinct}
use Rattle.std.specs.Map.{lookup}
use Rattle.std.specs.FinMap as fin
use Rattle.std.proofs.lemmas.Bool.{lt-ltb}
use Rattle.std.proofs.lemmas.List.{take_more, take_all}
use Rattle.std.proofs.lemmas.List.Folds.{list_any-append}
use Rattle.std.proofs.lemmas.Map.Keys.{IsDistinct-head, IsDistinct-tail}
use Rattle.std.proofs.lemmas.Option.{slice_get_within, get_or_from_slice_get}
use Rattle.osm_base.specs.KeyEq.{eq}
use Rattle.osm_base.specs.Rank.{is_key}
use Rattle.osm_base.specs.RankLaws.{rank_ties, eq_decides}
use Rattle.osm_base.specs.RisingKeys.{is_in, with_key}
use Rattle.osm_base.specs.declared.key.Key.{Key}
use Rattle.osm_base.proofs.ByRank.{eq_turned}
use Rattle.osm_base.proofs.RisingKeys.{one_key, key_itself}
use Rattle.osm_table.specs.declared.told.Told.{Told}
use Rattle.osm_table.specs.Told.{ToldValue, entry_told, told_at}
use Rattle.ref_index.specs.declared.pair.Pair.{Pair}
use Rattle.ref_index.specs.Bag.{Bag, count, is_pair, pair_cmp}
use Rattle.ref_index.specs.Users.{users_of, is_listed}
use Rattle.ref_index.proofs.Agreement.{one_pair, pair_parts}
use Rattle.ref_index.proofs.ListViews as views
use Rattle.dataset.specs.Exact.{refs_at, pairs_with}
use Rattle.dataset.specs.ToldIndex.{refs_told, is_kept, AreBeside}
use Rattle.dataset.proofs.ToldIndex.{apart}

-- Lists without users.

no_user : (b : Bool) (o : Option (List Key)) (u : Key) → is_in u (unwrap_or o []) ≡ false → is_in u (unwrap_or (cond b (Some []) o) []) ≡ false
no_user true o u h = refl
no_user false o u h = h

none_listed : (ks : List Key) (n : ℕ) (p : Pair) → is_listed (zip ks (replicate n [])) p ≡ false
none_listed [] n p = refl
none_listed (k ∷ ks) zero p = refl
none_listed (k ∷ ks) (suc n) p = no_user (eq p.of k) (lookup (eq p.of) (zip ks (replicate n []))) p.user (none_listed ks n p)

both_false : (a b c : Bool) → b ≡ false → c ≡ false → cond a b c ≡ false
both_false true b c e f = e
both_false false b c e f = f

pub none_kept : (m : ToldValue) (users : List (List Key)) (others : Bag) (n : ℕ) → users ≡ replicate n [] → others ≡ fin.empty → (p : Pair) → is_kept m users others p ≡ false
none_kept m users others n no_users no_others p =
    both_false (is_in p.of m.order) _ _
    (ap (λ (us : List (List Key)). is_listed (zip m.order us) p) no_users ∙ none_listed m.order n p)
    (ap (λ (b : Bag). nat_lt 0 (count b p)) no_others ∙ ap (λ (o : Option ℕ). nat_lt 0 (unwrap_or o 0)) (fin.get-empty pair_cmp p))

-- A list at a place.

at_head : (b c : Bool) (us vs o : Option (List Key)) → b ≡ c → cond b us o ≡ cond c us (cond b vs o)
at_head true true us vs o e = refl
at_head true false us vs o e = cc
at_head false true us vs o e = cc
at_head false false us vs o e = refl

at_tail : (b c : Bool) (us vs o p : Option (List Key)) → (c ≡ true → b ≡ false) → p ≡ cond c us o → cond b vs p ≡ cond c us (cond b vs o)
at_tail true true us vs o p h e = let f : true ≡ false = h refl in cc
at_tail true false us vs o p h e = refl
at_tail false c us vs o p h e = e

other_place : (j k : Key) (ks : List Key) (i : ℕ) → IsDistinct eq (j ∷ ks) → slice_get ks i ≡ Some k → eq k j ≡ false
other_place j k ks i distinct at =
    rank_ties k j
    ∙ ap (λ (x : Key). is_key x j) (sym (get_or_from_slice_get ks i k k at))
    ∙ apart j ks i (IsDistinct-head eq j ks distinct) k (slice_get_within ks i k at)

same_some : (j k : Key) → Some j ≡ Some k → j ≡ k
same_some j k e = ap (λ (o : Option Key). unwrap_or o j) e

-- the list at the place of a key, replaced
sets_list : (ks : List Key) (uss : List (List Key)) (i : ℕ) (k : Key) (us : List Key) → IsDistinct eq ks → slice_get ks i ≡ Some k → i < length uss
    → (q : Key) → lookup (eq q) (zip ks (set uss i us)) ≡ cond (eq k q) (Some us) (lookup (eq q) (zip ks uss))
sets_list [] uss i k us distinct at within q = cc
sets_list (j ∷ ks) [] i k us distinct at within q = absurd (let f : i < 0 = within in omega (arith, f))
sets_list (j ∷ ks) (vs ∷ uss) zero k us distinct at within q =
    at_head (eq q j) (eq k q) (Some us) (Some vs) (lookup (eq q) (zip ks uss)) (eq_turned q j ∙ ap (λ (x : Key). eq x q) (same_some j k at))
sets_list (j ∷ ks) (vs ∷ uss) (suc i) k us distinct at within q =
    at_tail (eq q j) (eq k q) (Some us) (Some vs) (lookup (eq q) (zip ks uss)) (lookup (eq q) (zip ks (set uss i us)))
    (λ e. ap (λ (x : Key). eq x j) (sym ((eq_decides k q).0 e)) ∙ other_place j k ks i distinct at)
    (sets_list ks uss i k us (IsDistinct-tail eq j ks distinct) at (omega (arith, within)) q)

found : (b : Bool) (us : List Key) (o : Option (List Key)) → b ≡ true → unwrap_or (cond b (Some us) o) [] ≡ us
found true us o e = refl
found false us o e = cc

passed : (b : Bool) (us : List Key) (o : Option (List Key)) → b ≡ false → unwrap_or (cond b (Some us) o) [] ≡ unwrap_or o []
passed true us o e = cc
passed false us o e = refl

users_at_place : (ks : List Key) (uss : List (List Key)) (i : ℕ) (k : Key) (d : List Key) → IsDistinct eq ks → slice_get ks i ≡ Some k → i < length uss → users_of (zip ks uss) k ≡ get_or uss i d
users_at_place [] uss i k d distinct at within = cc
users_at_place (j ∷ ks) [] i k d distinct at within = absurd (let f : i < 0 = within in omega (arith, f))
users_at_place (j ∷ ks) (us ∷ uss) zero k d distinct at within = found (eq k j) us (lookup (eq k) (zip ks uss)) ((eq_decides k j).1 (sym (same_some j k at)))
users_at_place (j ∷ ks) (us ∷ uss) (suc i) k d distinct at within =
    passed (eq k j) us (lookup (eq k) (zip ks uss)) (other_place j k ks i distinct at)
    ∙ users_at_place ks uss i k d (IsDistinct-tail eq j ks distinct) at (omega (arith, within))

or_true : (a b : Bool) → b ≡ true → (a || b) ≡ true
or_true true b e = refl
or_true false b e = e

-- a key that stands at a place is among the keys
in_order_at : (ks : List Key) (i : ℕ) (k : Key) → slice_get ks i ≡ Some k → is_in k ks ≡ true
in_order_at [] i k at = cc
in_order_at (j ∷ ks) zero k at = ap (λ (x : Key). is_in k (x ∷ ks)) (same_some j k at) ∙ ap (λ b. b || is_in k ks) (key_itself k)
in_order_at (j ∷ ks) (suc i) k at = or_true (is_key k j) (is_in k ks) (in_order_at ks i k at)

-- One more pair.

place_case : (told one : Bool) (new old other : Bool) → (one ≡ true → told ≡ true) → new ≡ (one || old) → cond told new other ≡ (one || cond told old other)
place_case true one new old other h e = e
place_case false true new old other h e = let f : false ≡ true = h refl in cc
place_case false false new old other h e = refl

-- its user is put into the list at the place of its key
pub put_at_place : (m : ToldValue) (users new : List (List Key)) (others : Bag) (i : ℕ) (pair : Pair) (d us : List Key) → IsDistinct eq m.order → slice_get m.order i ≡ Some pair.of → i < length users → us ≡ with_key pair.user (get_or users i d) → new ≡ set users i us
    → (p : Pair) → is_kept m new others p ≡ (is_pair p pair || is_kept m users others p)
put_at_place m users new others i pair d us distinct at within with is p =
    ap (λ (uss : List (List Key)). is_kept m uss others p) is
    ∙ place_case (is_in p.of m.order) (is_pair p pair) (is_listed (zip m.order (set users i us)) p) (is_listed (zip m.order users) p) (nat_lt 0 (count others p))
    (λ one. ap (λ (x : Pair). is_in x.of m.order) (one_pair p pair one) ∙ in_order_at m.order i pair.of at)
    (views.put (zip m.order users) (zip m.order (set users i us)) pair us (with ∙ ap (with_key pair.user) (sym (users_at_place m.order users i pair.of d distinct at within))) (sets_list m.order users i pair.of us distinct at within) p)

other_case : (told one listed : Bool) (new old : ℕ) → (one ≡ true → told ≡ false) → new ≡ cond one 1 0 + old → cond told listed (nat_lt 0 new) ≡ (one || cond told listed (nat_lt 0 old))
other_case true true listed new old h e = let f : true ≡ false = h refl in cc
other_case true false listed new old h e = refl
other_case false true listed new old h e = lt-ltb 0 new (omega (arith, e))
other_case false false listed new old h e = let z : 0 + old ≡ old = omega arith in ap (nat_lt 0) (e ∙ z)

-- or it is added to the others
pub put_other : (m : ToldValue) (users : List (List Key)) (old new : Bag) (pair : Pair) → is_in pair.of m.order ≡ false → ((p : Pair) → count new p ≡ cond (is_pair p pair) 1 0 + count old p)
    → (p : Pair) → is_kept m users new p ≡ (is_pair p pair || is_kept m users old p)
put_other m users old new pair none adds p =
    other_case (is_in p.of m.order) (is_pair p pair) (is_listed (zip m.order users) p) (count new p) (count old p)
    (λ one. ap (λ (x : Pair). is_in x.of m.order) (one_pair p pair one) ∙ none)
    (adds p)

pub not_told : (m : ToldValue) (k : Key) → told_at m k ≡ None → list_any (is_key k) m.order ≡ is_some (told_at m k) → is_in k m.order ≡ false
not_told m k none each = each ∙ ap (λ (o : Option Told). is_some o) none

more_case : (a b c old new : Bool) → new ≡ (b || (a || c)) → new ≡ ((a || (b || false)) || c)
more_case true true c old new e = e
more_case true false c old new e = e
more_case false true c old new e = e
more_case false false c old new e = e

-- the pairs of the first few references, and of one more
pub more_pairs : (ps : List Pair) (i : ℕ) (x p : Pair) (old new first : Bool) → i < length ps → x ≡ get_or ps i x → old ≡ (list_any (is_pair p) (take i ps) || first) → new ≡ (is_pair p x || old) → new ≡ (list_any (is_pair p) (take (i + 1) ps) || first)
more_pairs ps i x p old new first within at was is =
    more_case (list_any (is_pair p) (take i ps)) (is_pair p x) first old new (is ∙ ap (λ b. is_pair p x || b) was)
    ∙ ap (λ b. b || first) (sym (ap (λ (xs : List Pair). list_any (is_pair p) xs) (take_more ps i x within ∙ ap (λ (y : Pair). take i ps ++ y ∷ []) (sym at)) ∙ list_any-append (is_pair p) (take i ps) (x ∷ [])))

-- All objects.

-- the pairs of the objects among some keys are kept, and no others
abbrev pub AreKept : ToldValue → List Key → List (List Key) → Bag → Type 0
AreKept m ks users others = (p : Pair) → is_kept m users others p ≡ (is_in p.user ks && is_in p.of (refs_told m p.user))

pair_step : (a b rest : Bool) → ((a && b) || (b && rest)) ≡ (b && (a || rest))
pair_step true true rest = refl
pair_step true false rest = refl
pair_step false true rest = refl
pair_step false false rest = refl

no_pair : (b : Bool) → false ≡ (b && false)
no_pair true = refl
no_pair false = refl

-- a pair is among those of one user where that is its user, who refers to its key
pairs_any : (user : Key) (ks : List Key) (p : Pair) → list_any (is_pair p) (map (λ k. record { of = k; user = user }) ks) ≡ (is_key p.user user && is_in p.of ks)
pairs_any user [] p = no_pair (is_key p.user user)
pairs_any user (k ∷ ks) p =
    (λ i. pair_parts p (record { of = k; user = user }) i || pairs_any user ks p i)
    ∙ pair_step (is_key p.of k) (is_key p.user user) (is_in p.of ks)

object_case : (one among of_one of_user new : Bool) → (one ≡ true → of_one ≡ of_user) → new ≡ ((one && of_one) || (among && of_user)) → new ≡ ((among || (one || false)) && of_user)
object_case true true of_one true new h e = let f : of_one ≡ true = h refl in cc
object_case true true of_one false new h e = let f : of_one ≡ false = h refl in cc
object_case true false of_one true new h e = let f : of_one ≡ true = h refl in cc
object_case true false of_one false new h e = let f : of_one ≡ false = h refl in cc
object_case false true of_one of_user new h e = e
object_case false false of_one of_user new h e = e

-- one object more
pub more_kept : (m : ToldValue) (ks : List Key) (i : ℕ) (k d : Key) (old new : List (List Key)) (others added : Bag) → i < length ks → k ≡ get_or ks i d
    → ((p : Pair) → is_kept m new added p ≡ (list_any (is_pair p) (pairs_with k (refs_told m k)) || is_kept m old others p)) → AreKept m (take i ks) old others → AreKept m (take (i + 1) ks) new added
more_kept m ks i k d old new others added within at puts kept p =
    object_case (is_key p.user k) (is_in p.user (take i ks)) (is_in p.of (refs_told m k)) (is_in p.of (refs_told m p.user)) (is_kept m new added p)
    (λ one. ap (λ (j : Key). is_in p.of (refs_told m j)) (sym (one_key p.user k one)))
    (puts p ∙ (λ j. pairs_any k (refs_told m k) p j || kept p j))
    ∙ ap (λ b. b && is_in p.of (refs_told m p.user)) (sym (ap (λ (js : List Key). is_in p.user js) (take_more ks i d within ∙ ap (λ (j : Key). take i ks ++ j ∷ []) (sym at)) ∙ list_any-append (is_key p.user) (take i ks) (k ∷ [])))

told_case : (of : Key) (o : Option Told) (b : Bool) → b ≡ is_some o → (b && is_in of (refs_at (option_map entry_told o))) ≡ is_in of (refs_at (option_map entry_told o))
told_case of None true e = cc
told_case of None false e = refl
told_case of (Some told) true e = refl
told_case of (Some told) false e = cc

-- and all of them
pub all_kept : (m : ToldValue) (ks : List Key) (i : ℕ) (users : List (List Key)) (others : Bag) → ks ≡ fin.keys m.told → length ks ≤ i → length users ≡ length m.order → AreKept m (take i ks) users others → AreBeside m users others
all_kept m ks i users others by_rank all places kept = record {
  places = places;
  exact = λ p. kept p ∙ told_case p.of (told_at m p.user) (is_in p.user (take i ks)) (ap (λ (js : List Key). is_in p.user js) (take_all i ks all ∙ by_rank) ∙ sym (fin.contains_key-keys m.told p.user));
}

-- What is lent.

kept_there : (b x y : Bool) → b ≡ true → x ≡ cond b x y
kept_there true x y e = refl
kept_there false x y e = cc

pub lent_at_place : (m : ToldValue) (users : List (List Key)) (others : Bag) (i : ℕ) (of user : Key) (us : List Key) → IsDistinct eq m.order → AreBeside m users others → slice_get m.order i ≡ Some of → us ≡ get_or users i us → is_in user us ≡ is_in of (refs_told m user)
lent_at_place m users others i of user us distinct beside at is =
    let within : i < length users = let e = beside.places in let l = slice_get_within m.order i of at in omega (arith, e, l) in
    ap (λ (ks : List Key). is_in user ks) (is ∙ sym (users_at_place m.order users i of us distinct at within))
    ∙ kept_there (is_in of m.order) (is_listed (zip m.order users) (record { of = of; user = user })) (nat_lt 0 (count others (record { of = of; user = user }))) (in_order_at m.order i of at)
    ∙ beside.exact (record { of = of; user = user })
