-- How often each pair is there after one more or one less, and that only pairs that are there more than once have a number.
use Rattle.std.proofs.Common.{◌≡◌, ℕ, ◌+◌, ◌<◌, ◌≤◌, ◌&&◌, ◌||◌, Bool, true, false, not, cond, is_some, Option, Some, None, refl, sym, ◌∙◌, ap, arith, subst}
use Rattle.std.proofs.lemmas.Bool.{or_right}
use Rattle.std.specs.Map.{lookup}
use Rattle.std.specs.Option.{unwrap_or, IfSome}
use Rattle.std.specs.Cmp.{eq_by_cmp_equiv, Equal-is}
use Rattle.osm_base.specs.Rank.{rank_cmp, is_key}
use Rattle.ref_index.specs.declared.pair.Pair.{Pair}
use Rattle.ref_index.specs.Bag.{is_pair, pair_cmp, pair_eq}
use Rattle.ref_index.specs.PairRank.{pair_total, pair_exact, pair_ties, eq_then}
use Rattle.ref_index.specs.Users.{Lists, is_listed}
use Rattle.ref_index.specs.Repeats.{Repeats, AreRepeats, SetsNumber, number_of, times_there}

pub one_pair : (p q : Pair) → is_pair p q ≡ true → p ≡ q
one_pair p q e = pair_exact p q ((Equal-is (pair_cmp p q)).0 e)

pub pair_parts : (p q : Pair) → is_pair p q ≡ (is_key p.of q.of && is_key p.user q.user)
pair_parts p q = eq_then (rank_cmp p.of q.of) (rank_cmp p.user q.user)

eq_pair : (p q : Pair) → pair_eq p q ≡ is_pair q p
eq_pair p q = pair_ties p q ∙ (eq_by_cmp_equiv pair_total).symm p q

-- what the number of a pair says, where b is whether the pair is listed
abbrev IsRepeat : Bool → ℕ → Type 0
IsRepeat b n = (2 ≤ n) × (b ≡ true)

some_number : (o : Option ℕ) (b : Bool) → IfSome o (IsRepeat b) → 0 < unwrap_or o 1
some_number None b h = omega arith
some_number (Some n) b h = omega (arith, h.0)

-- a listed pair is there
pub number_more : (repeats : Repeats) (lists : Lists) (p : Pair) → AreRepeats repeats lists → 0 < number_of repeats p
number_more repeats lists p a = some_number (lookup (pair_eq p) repeats) (is_listed lists p) (a p)

unlisted : (o : Option ℕ) (b : Bool) → b ≡ false → IfSome o (IsRepeat b) → unwrap_or o 1 ≡ 1
unlisted None b e h = refl
unlisted (Some n) b e h = let f : b ≡ true = h.1 in cc

single : (o : Option ℕ) (b : Bool) → unwrap_or o 1 ≡ 1 → IfSome o (IsRepeat b) → is_some o ≡ false
single None b e h = refl
single (Some n) b e h = absurd (omega (arith, e, h.0))

-- a pair that is there more than once has a number
several : (o : Option ℕ) (n : ℕ) → n ≡ unwrap_or o 1 → 1 < n → o ≡ Some n
several None n e more = absurd (omega (arith, e, more))
several (Some m) n e more = ap Some (sym e)

kept_case : (b : Bool) (n : ℕ) (o : Option ℕ) → (b ≡ true → o ≡ Some n) → cond b (Some n) o ≡ o
kept_case true n o h = sym (h refl)
kept_case false n o h = refl

-- a number, written back
pub kept_number : (old new : Repeats) (p : Pair) (n : ℕ) → n ≡ number_of old p → 1 < n → SetsNumber old new p (Some n) → (q : Pair) → lookup (pair_eq q) new ≡ lookup (pair_eq q) old
kept_number old new p n e more sets q =
    sets q ∙ kept_case (pair_eq p q) n (lookup (pair_eq q) old) (λ f.
    ap (λ (x : Pair). lookup (pair_eq x) old) (one_pair q p (sym (eq_pair p q) ∙ f)) ∙ several (lookup (pair_eq p) old) n e more)

listed_case : (b : Bool) (n : ℕ) → 0 < cond b n 0 → b ≡ true
listed_case true n h = refl
listed_case false n h = absurd (omega (arith, h))

-- only a listed pair is there
pub listed : (repeats : Repeats) (lists : Lists) (p : Pair) → 0 < times_there repeats lists p → is_listed lists p ≡ true
listed repeats lists p h = listed_case (is_listed lists p) (number_of repeats p) h

repeat_case : (o : Option ℕ) (b c : Bool) → IfSome o (IsRepeat b) → (is_some o ≡ true → b ≡ true → c ≡ true) → IfSome o (IsRepeat c)
repeat_case None b c h g = tt
repeat_case (Some n) b c h g = (h.0, g refl h.1)

-- the lists where each pair with a number stays listed
listed_repeats : (repeats : Repeats) (old new : Lists) → AreRepeats repeats old → ((q : Pair) → is_some (lookup (pair_eq q) repeats) ≡ true → is_listed old q ≡ true → is_listed new q ≡ true) → AreRepeats repeats new
listed_repeats repeats old new a stays q = repeat_case (lookup (pair_eq q) repeats) (is_listed old q) (is_listed new q) (a q) (stays q)

-- a pair that comes for the first time
pub first_repeats : (repeats : Repeats) (old new : Lists) (p : Pair) → AreRepeats repeats old → ((q : Pair) → is_listed new q ≡ (is_pair q p || is_listed old q)) → AreRepeats repeats new
first_repeats repeats old new p a puts = listed_repeats repeats old new a (λ q s e. puts q ∙ or_right (is_pair q p) (is_listed old q) e)

first_case : (b l : Bool) (n : ℕ) → (b ≡ true → (l ≡ false) × (n ≡ 1)) → cond (b || l) n 0 ≡ cond b 1 0 + cond l n 0
first_case true true n h = let e : true ≡ false = (h refl).0 in cc
first_case true false n h = (h refl).1
first_case false true n h = omega arith
first_case false false n h = refl

pub first_times : (repeats : Repeats) (old new : Lists) (p : Pair) → AreRepeats repeats old → is_listed old p ≡ false → ((q : Pair) → is_listed new q ≡ (is_pair q p || is_listed old q)) → (q : Pair) → times_there repeats new q ≡ cond (is_pair q p) 1 0 + times_there repeats old q
first_times repeats old new p a none puts q =
    ap (λ b. cond b (number_of repeats q) 0) (puts q)
    ∙ first_case (is_pair q p) (is_listed old q) (number_of repeats q) (λ e.
    (ap (is_listed old) (one_pair q p e) ∙ none, ap (number_of repeats) (one_pair q p e) ∙ unlisted (lookup (pair_eq p) repeats) (is_listed old p) none (a p)))

there_case : (b l : Bool) → (b ≡ true → l ≡ true) → (b || l) ≡ l
there_case true l h = sym (h refl)
there_case false l h = refl

-- a pair that is listed already
pub kept_listed : (old new : Lists) (p : Pair) → is_listed old p ≡ true → ((q : Pair) → is_listed new q ≡ (is_pair q p || is_listed old q)) → (q : Pair) → is_listed new q ≡ is_listed old q
kept_listed old new p there puts q = puts q ∙ there_case (is_pair q p) (is_listed old q) (λ e. ap (is_listed old) (one_pair q p e) ∙ there)

-- the last pair of a kind, taken out
last_stays : (b l : Bool) → b ≡ false → l ≡ true → (not b && l) ≡ true
last_stays true l e f = cc
last_stays false l e f = f

other_case : (b : Bool) → (b ≡ true → false ≡ true) → b ≡ false
other_case true h = sym (h refl)
other_case false h = refl

pub last_repeats : (repeats : Repeats) (old new : Lists) (p : Pair) → AreRepeats repeats old → number_of repeats p ≡ 1 → ((q : Pair) → is_listed new q ≡ (not (is_pair q p) && is_listed old q)) → AreRepeats repeats new
last_repeats repeats old new p a one takes = listed_repeats repeats old new a (λ q s e.
    let none = single (lookup (pair_eq p) repeats) (is_listed old p) one (a p) in
    let other = other_case (is_pair q p) (λ f. sym (ap (λ (x : Pair). is_some (lookup (pair_eq x) repeats)) (one_pair q p f) ∙ none) ∙ s) in
    takes q ∙ last_stays (is_pair q p) (is_listed old q) other e)

last_case : (b l : Bool) (n : ℕ) → (b ≡ true → (l ≡ true) × (n ≡ 1)) → cond b 1 0 + cond (not b && l) n 0 ≡ cond l n 0
last_case true true n h = sym (h refl).1
last_case true false n h = let e : false ≡ true = (h refl).0 in cc
last_case false true n h = omega arith
last_case false false n h = refl

pub last_times : (repeats : Repeats) (old new : Lists) (p : Pair) → number_of repeats p ≡ 1 → is_listed old p ≡ true → ((q : Pair) → is_listed new q ≡ (not (is_pair q p) && is_listed old q)) → (q : Pair) → cond (is_pair q p) 1 0 + times_there repeats new q ≡ times_there repeats old q
last_times repeats old new p one there takes q =
    ap (λ b. cond (is_pair q p) 1 0 + cond b (number_of repeats q) 0) (takes q)
    ∙ last_case (is_pair q p) (is_listed old q) (number_of repeats q) (λ e. (ap (is_listed old) (one_pair q p e) ∙ there, ap (number_of repeats) (one_pair q p e) ∙ one))

-- a pair with another number or none
set_repeat : (b : Bool) (n o : Option ℕ) (l k : Bool) → (b ≡ true → k ≡ l) → IfSome n (IsRepeat l) → IfSome o (IsRepeat k) → IfSome (cond b n o) (IsRepeat k)
set_repeat true n o l k e h g = repeat_case n l k h (λ s t. e refl ∙ t)
set_repeat false n o l k e h g = g

pub sets_repeats : (old new : Repeats) (lists : Lists) (p : Pair) (n : Option ℕ) → AreRepeats old lists → SetsNumber old new p n → IfSome n (λ m. (2 ≤ m) × (is_listed lists p ≡ true)) → AreRepeats new lists
sets_repeats old new lists p n a sets h q =
    subst (λ (o : Option ℕ). IfSome o (IsRepeat (is_listed lists q))) (sym (sets q ∙ ap (λ b. cond b n (lookup (pair_eq q) old)) (eq_pair p q)))
    (set_repeat (is_pair q p) n (lookup (pair_eq q) old) (is_listed lists p) (is_listed lists q) (λ e. ap (is_listed lists) (one_pair q p e)) h (a q))

set_case : (b l : Bool) (n o : Option ℕ) → (b ≡ true → l ≡ true) → cond l (unwrap_or (cond b n o) 1) 0 ≡ cond b (unwrap_or n 1) (cond l (unwrap_or o 1) 0)
set_case true true n o h = refl
set_case true false n o h = let e : false ≡ true = h refl in cc
set_case false l n o h = refl

sets_times : (old new : Repeats) (lists : Lists) (p : Pair) (n : Option ℕ) → SetsNumber old new p n → is_listed lists p ≡ true → (q : Pair) → times_there new lists q ≡ cond (is_pair q p) (unwrap_or n 1) (times_there old lists q)
sets_times old new lists p n sets there q =
    ap (λ (o : Option ℕ). cond (is_listed lists q) (unwrap_or o 1) 0) (sets q ∙ ap (λ b. cond b n (lookup (pair_eq q) old)) (eq_pair p q))
    ∙ set_case (is_pair q p) (is_listed lists q) n (lookup (pair_eq q) old) (λ e. ap (is_listed lists) (one_pair q p e) ∙ there)

times_listed : (repeats : Repeats) (lists : Lists) (p q : Pair) → is_listed lists p ≡ true → is_pair q p ≡ true → times_there repeats lists q ≡ number_of repeats p
times_listed repeats lists p q there e = ap (times_there repeats lists) (one_pair q p e) ∙ ap (λ b. cond b (number_of repeats p) 0) there

-- once more
pub again_repeats : (old new : Repeats) (lists : Lists) (p : Pair) → AreRepeats old lists → SetsNumber old new p (Some (number_of old p + 1)) → is_listed lists p ≡ true → AreRepeats new lists
again_repeats old new lists p a sets there =
    let more = number_more old lists p a in
    sets_repeats old new lists p _ a sets (omega (arith, more), there)

more_case : (b : Bool) (n m : ℕ) → (b ≡ true → m ≡ n) → cond b (n + 1) m ≡ cond b 1 0 + m
more_case true n m h = let e = h refl in omega arith
more_case false n m h = omega arith

pub again_times : (old new : Repeats) (lists : Lists) (p : Pair) → SetsNumber old new p (Some (number_of old p + 1)) → is_listed lists p ≡ true → (q : Pair) → times_there new lists q ≡ cond (is_pair q p) 1 0 + times_there old lists q
again_times old new lists p sets there q =
    sets_times old new lists p _ sets there q
    ∙ more_case (is_pair q p) (number_of old p) (times_there old lists q) (times_listed old lists p q there)

less_case : (b : Bool) (n l m : ℕ) → l + 1 ≡ n → (b ≡ true → m ≡ n) → cond b 1 0 + cond b l m ≡ m
less_case true n l m i h = let e = h refl in omega arith
less_case false n l m i h = omega arith

-- once less
pub less_times : (old new : Repeats) (lists : Lists) (p : Pair) (n : Option ℕ) → SetsNumber old new p n → unwrap_or n 1 + 1 ≡ number_of old p → is_listed lists p ≡ true → (q : Pair) → cond (is_pair q p) 1 0 + times_there new lists q ≡ times_there old lists q
less_times old new lists p n sets one there q =
    ap (λ m. cond (is_pair q p) 1 0 + m) (sets_times old new lists p n sets there q)
    ∙ less_case (is_pair q p) (number_of old p) (unwrap_or n 1) (times_there old lists q) one (times_listed old lists p q there)

-- maps that answer as others do
pub same_times : (repeats same : Repeats) (old new : Lists) → ((q : Pair) → lookup (pair_eq q) same ≡ lookup (pair_eq q) repeats) → ((q : Pair) → is_listed new q ≡ is_listed old q) → (q : Pair) → times_there same new q ≡ times_there repeats old q
same_times repeats same old new numbers users q = λ i. cond (users q i) (unwrap_or (numbers q i) 1) 0
