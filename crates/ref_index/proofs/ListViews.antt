-- Which pairs are listed after one list is set or taken out.
use Rattle.std.proofs.Common.{◌≡◌, ◌&&◌, ◌||◌, Bool, true, false, not, cond, Option, Some, None, List, [], refl, sym, ◌∙◌, ap}
use Rattle.std.specs.Map.{lookup}
use Rattle.std.specs.Option.{unwrap_or}
use Rattle.std.specs.Cmp.{eq_by_cmp_equiv}
use Rattle.osm_base.specs.declared.key.Key.{Key}
use Rattle.osm_base.specs.Rank.{is_key}
use Rattle.osm_base.specs.KeyEq.{eq}
use Rattle.osm_base.specs.RankLaws.{rank_total, rank_ties}
use Rattle.osm_base.specs.RisingKeys.{is_in, with_key, without_key}
use Rattle.osm_base.proofs.RisingKeys.{in_with, in_without, one_key}
use Rattle.ref_index.specs.declared.pair.Pair.{Pair}
use Rattle.ref_index.specs.Bag.{is_pair}
use Rattle.ref_index.specs.Users.{Lists, users_of, is_listed}
use Rattle.ref_index.proofs.Agreement.{one_pair, pair_parts}

-- one key has another list or none, and the rest stays
abbrev SetsList : Lists → Lists → Key → Option (List Key) → Type 0
SetsList old new k us = (q : Key) → lookup (eq q) new ≡ cond (eq k q) us (lookup (eq q) old)

set_case : (b : Bool) (us o : Option (List Key)) → unwrap_or (cond b us o) [] ≡ cond b (unwrap_or us []) (unwrap_or o [])
set_case true us o = refl
set_case false us o = refl

eq_key : (k q : Key) → eq k q ≡ is_key q k
eq_key k q = rank_ties k q ∙ (eq_by_cmp_equiv rank_total).symm k q

users_set : (old new : Lists) (k : Key) (us : Option (List Key)) → SetsList old new k us → (q : Key) → users_of new q ≡ cond (is_key q k) (unwrap_or us []) (users_of old q)
users_set old new k us sets q =
    ap (λ (o : Option (List Key)). unwrap_or o []) (sets q) ∙ set_case (eq k q) us (lookup (eq q) old)
    ∙ ap (λ b. cond b (unwrap_or us []) (users_of old q)) (eq_key k q)

in_cond : (u : Key) (us vs : List Key) (b : Bool) → is_in u (cond b us vs) ≡ cond b (is_in u us) (is_in u vs)
in_cond u us vs true = refl
in_cond u us vs false = refl

listed_set : (old new : Lists) (k : Key) (us : Option (List Key)) → SetsList old new k us → (q : Pair) → is_listed new q ≡ cond (is_key q.of k) (is_in q.user (unwrap_or us [])) (is_listed old q)
listed_set old new k us sets q = ap (is_in q.user) (users_set old new k us sets q.of) ∙ in_cond q.user (unwrap_or us []) (users_of old q.of) (is_key q.of k)

same_key : (lists : Lists) (k : Key) (q : Pair) → is_key q.of k ≡ true → is_in q.user (users_of lists k) ≡ is_listed lists q
same_key lists k q e = ap (λ j. is_in q.user (users_of lists j)) (sym (one_key q.of k e))

put_case : (b c s t : Bool) → (b ≡ true → t ≡ s) → cond b (c || t) s ≡ ((b && c) || s)
put_case true true s t h = refl
put_case true false s t h = h refl
put_case false c s t h = refl

-- the user of a pair, put into the list of its key
pub put : (old new : Lists) (p : Pair) (us : List Key) → us ≡ with_key p.user (users_of old p.of) → SetsList old new p.of (Some us) → (q : Pair) → is_listed new q ≡ (is_pair q p || is_listed old q)
put old new p us e sets q =
    listed_set old new p.of (Some us) sets q
    ∙ ap (λ b. cond (is_key q.of p.of) b (is_listed old q)) (ap (is_in q.user) e ∙ in_with q.user p.user (users_of old p.of))
    ∙ put_case (is_key q.of p.of) (is_key q.user p.user) (is_listed old q) _ (same_key old p.of q)
    ∙ ap (λ b. b || is_listed old q) (sym (pair_parts q p))

take_case : (b c s t : Bool) → (b ≡ true → t ≡ s) → cond b (not c && t) s ≡ (not (b && c) && s)
take_case true true s t h = refl
take_case true false s t h = h refl
take_case false c s t h = refl

-- taken out of it
pub taken : (old new : Lists) (p : Pair) (us : List Key) → us ≡ without_key p.user (users_of old p.of) → SetsList old new p.of (Some us) → (q : Pair) → is_listed new q ≡ (not (is_pair q p) && is_listed old q)
taken old new p us e sets q =
    listed_set old new p.of (Some us) sets q
    ∙ ap (λ b. cond (is_key q.of p.of) b (is_listed old q)) (ap (is_in q.user) e ∙ in_without q.user p.user (users_of old p.of))
    ∙ take_case (is_key q.of p.of) (is_key q.user p.user) (is_listed old q) _ (same_key old p.of q)
    ∙ ap (λ b. not b && is_listed old q) (sym (pair_parts q p))

same_case : (b s t : Bool) → (b ≡ true → t ≡ s) → cond b t s ≡ s
same_case true s t h = h refl
same_case false s t h = refl

-- the list of a key, written back, or taken out where it was empty
pub same_users : (old new : Lists) (k : Key) (us : Option (List Key)) → unwrap_or us [] ≡ users_of old k → SetsList old new k us → (q : Pair) → is_listed new q ≡ is_listed old q
same_users old new k us e sets q =
    listed_set old new k us sets q
    ∙ same_case (is_key q.of k) (is_listed old q) _ (λ f. ap (is_in q.user) e ∙ same_key old k q f)

none_case : (b s : Bool) → (b ≡ true → s ≡ false) → s ≡ (not b && s)
none_case true s h = h refl
none_case false s h = refl

-- where the key has no list there is nothing to take out
pub not_there : (old new : Lists) (p : Pair) → lookup (eq p.of) old ≡ None → new ≡ old → (q : Pair) → is_listed new q ≡ (not (is_pair q p) && is_listed old q)
not_there old new p none same q =
    ap (λ (lists : Lists). is_listed lists q) same
    ∙ none_case (is_pair q p) (is_listed old q) (λ e. ap (is_listed old) (one_pair q p e) ∙ ap (λ (o : Option (List Key)). is_in p.user (unwrap_or o [])) none)
