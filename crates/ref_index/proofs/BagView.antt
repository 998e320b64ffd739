-- The bag that the lists and the numbers make: how often each pair is in it, and that no other answers alike.
use Rattle.std.proofs.Common.{◌≡◌, ℕ, ◌<◌, ◌&&◌, ◌||◌, Bool, true, false, cond, is_some, Option, Some, None, List, [], ◌∷◌, ◌++◌, refl, sym, ◌∙◌, ap, arith}
use Rattle.std.specs.Prelude.{map, flat_map, nat_lt}
use Rattle.std.specs.List.{list_any}
use Rattle.std.specs.Map.{lookup, keys_of}
use Rattle.std.specs.Option.{unwrap_or, option_or}
use Rattle.std.specs.FinMap as fin
use Rattle.std.proofs.lemmas.Bool.{lt-ltb}
use Rattle.std.proofs.lemmas.Map.Made.{is_some-lookup}
use Rattle.osm_base.specs.declared.key.Key.{Key}
use Rattle.osm_base.specs.KeyEq.{eq}
use Rattle.osm_base.specs.RankLaws.{rank_ties, eq_decides}
use Rattle.osm_base.specs.RisingKeys.{is_in}
use Rattle.osm_base.proofs.MapViews.{get_view}
use Rattle.ref_index.specs.declared.pair.Pair.{Pair}
use Rattle.ref_index.specs.Bag.{Bag, count, pair_eq}
use Rattle.ref_index.specs.PairRank.{pair_total, pair_exact, pair_ties}
use Rattle.ref_index.specs.Users.{Lists, users_of, is_listed}
use Rattle.ref_index.specs.Repeats.{Repeats, AreRepeats, numbered, number_of, times_there, bag_of}
use Rattle.ref_index.proofs.Agreement.{one_pair, number_more}

lookup_both : (test : Pair → Bool) (es fs : List (Pair × ℕ)) → lookup test (es ++ fs) ≡ option_or (lookup test es) (lookup test fs)
lookup_both test [] fs = refl
lookup_both test (e ∷ es) fs = elim (test e.0) as (λ b. cond b (Some e.1) (lookup test (es ++ fs)) ≡ option_or (cond b (Some e.1) (lookup test es)) (lookup test fs)) [ true ↦ refl | false ↦ lookup_both test es fs ]

no_user : (b : Bool) (n : ℕ) → ◌≡◌ {A = Option ℕ} None (cond (b && false) (Some n) None)
no_user true n = refl
no_user false n = refl

user_case : (a b c : Bool) (n m : ℕ) (o : Option ℕ) → ((a && b) ≡ true → n ≡ m) → o ≡ cond (a && c) (Some m) None → cond (a && b) (Some n) o ≡ cond (a && (b || c)) (Some m) None
user_case true true c n m o h e = ap Some (h refl)
user_case true false c n m o h e = e
user_case false b c n m o h e = e

same_pair : (p q : Pair) → pair_eq p q ≡ true → p ≡ q
same_pair p q e = one_pair p q (sym (pair_ties p q) ∙ e)

-- the pairs of one key
of_key : (repeats : Repeats) (k : Key) (us : List Key) (q : Pair) → lookup (pair_eq q) (map (λ u. numbered repeats (record { of = k; user = u })) us) ≡ cond (eq q.of k && is_in q.user us) (Some (number_of repeats q)) None
of_key repeats k [] q = no_user (eq q.of k) (number_of repeats q)
of_key repeats k (u ∷ us) q =
    user_case (eq q.of k) (eq q.user u) (is_in q.user us) (number_of repeats (record { of = k; user = u })) (number_of repeats q) _ (λ e. ap (number_of repeats) (sym (same_pair q (record { of = k; user = u }) e))) (of_key repeats k us q)
    ∙ ap (λ b. cond (eq q.of k && (b || is_in q.user us)) (Some (number_of repeats q)) None) (rank_ties q.user u)

key_case : (a b c d : Bool) (n : ℕ) → (a ≡ true → c ≡ d) → option_or (cond (a && c) (Some n) None) (cond (b && d) (Some n) None) ≡ cond ((a || b) && d) (Some n) None
key_case true b true d n h = rw (sym (h refl)) refl
key_case true b false d n h = rw (sym (h refl)) (sym (no_user b n))
key_case false b c d n h = refl

-- the pairs of several
of_keys : (repeats : Repeats) (lists : Lists) (ks : List Key) (q : Pair) → lookup (pair_eq q) (flat_map (λ k. map (λ u. numbered repeats (record { of = k; user = u })) (users_of lists k)) ks) ≡ cond (list_any (eq q.of) ks && is_listed lists q) (Some (number_of repeats q)) None
of_keys repeats lists [] q = refl
of_keys repeats lists (k ∷ ks) q =
    lookup_both (pair_eq q) (map (λ u. numbered repeats (record { of = k; user = u })) (users_of lists k)) _
    ∙ (λ i. option_or (of_key repeats k (users_of lists k) q i) (of_keys repeats lists ks q i))
    ∙ key_case (eq q.of k) (list_any (eq q.of) ks) (is_in q.user (users_of lists k)) (is_listed lists q) (number_of repeats q) (λ e. ap (λ j. is_in q.user (users_of lists j)) (sym ((eq_decides q.of k).0 e)))

listed_case : (o : Option (List Key)) (u : Key) → (is_some o && is_in u (unwrap_or o [])) ≡ is_in u (unwrap_or o [])
listed_case None u = refl
listed_case (Some us) u = refl

get_bag : (repeats : Repeats) (lists : Lists) (q : Pair) → fin.get (bag_of repeats lists) q ≡ cond (is_listed lists q) (Some (number_of repeats q)) None
get_bag repeats lists q =
    sym (get_view pair_total pair_exact pair_ties (flat_map (λ k. map (λ u. numbered repeats (record { of = k; user = u })) (users_of lists k)) (keys_of lists)) q)
    ∙ of_keys repeats lists (keys_of lists) q
    ∙ ap (λ b. cond b (Some (number_of repeats q)) None) (ap (λ b. b && is_listed lists q) (sym (is_some-lookup (eq q.of) lists)) ∙ listed_case (lookup (eq q.of) lists) q.user)

count_case : (b : Bool) (n : ℕ) → unwrap_or (cond b (Some n) None) 0 ≡ cond b n 0
count_case true n = refl
count_case false n = refl

pub counted : (repeats : Repeats) (lists : Lists) (q : Pair) → count (bag_of repeats lists) q ≡ times_there repeats lists q
counted repeats lists q = ap (λ (o : Option ℕ). unwrap_or o 0) (get_bag repeats lists q) ∙ count_case (is_listed lists q) (number_of repeats q)

-- in a bag that is theirs
pub counted_in : (bag : Bag) (repeats : Repeats) (lists : Lists) (q : Pair) → bag_of repeats lists ≡ bag → count bag q ≡ times_there repeats lists q
counted_in bag repeats lists q is = ap (λ (b : Bag). count b q) (sym is) ∙ counted repeats lists q

same_case : (b c : Bool) (n m : ℕ) → 0 < n → 0 < m → cond b n 0 ≡ cond c m 0 → ◌≡◌ {A = Option ℕ} (cond b (Some n) None) (cond c (Some m) None)
same_case true true n m h g e = ap Some e
same_case true false n m h g e = absurd (omega (arith, h, e))
same_case false true n m h g e = absurd (omega (arith, g, e))
same_case false false n m h g e = refl

pub same_bag : (repeats : Repeats) (lists : Lists) (numbers : Repeats) (users : Lists) → AreRepeats repeats lists → AreRepeats numbers users → ((q : Pair) → times_there numbers users q ≡ times_there repeats lists q) → bag_of numbers users ≡ bag_of repeats lists
same_bag repeats lists numbers users a b same = fin.same_map pair_total pair_exact _ _ (λ q.
    get_bag numbers users q
    ∙ same_case (is_listed users q) (is_listed lists q) (number_of numbers q) (number_of repeats q) (number_more numbers users q b) (number_more repeats lists q a) (same q)
    ∙ sym (get_bag repeats lists q))

member_case : (b : Bool) (n : ℕ) → 0 < n → b ≡ nat_lt 0 (cond b n 0)
member_case true n h = sym (lt-ltb 0 n h)
member_case false n h = refl

-- the users of a key are those of the pairs that are there
pub member : (repeats : Repeats) (lists : Lists) (k u : Key) → AreRepeats repeats lists → is_in u (users_of lists k) ≡ nat_lt 0 (count (bag_of repeats lists) (record { of = k; user = u }))
member repeats lists k u a =
    let p : Pair = record { of = k; user = u } in
    member_case (is_listed lists p) (number_of repeats p) (number_more repeats lists p a) ∙ ap (nat_lt 0) (sym (counted repeats lists p))
