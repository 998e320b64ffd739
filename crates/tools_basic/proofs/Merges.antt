-- Pairs that are set one after the other, and merged with the tags.
use Rattle.std.proofs.Common.{◌≡◌, ℕ, suc, ◌<◌, Bool, true, false, not, cond, List, [], ◌∷◌, ◌++◌, length, Option, Some, None, refl, sym, ap, subst, ◌∙◌, arith, append_assoc}
use Rattle.std.specs.Prelude.{T, nat_lt, ◌==◌}
use Rattle.std.specs.Option.{unwrap_or}
use Rattle.std.specs.declared.cmp.Ordering.{Ordering}
use Rattle.std.specs.declared.cmp.Ordering.TheVariants.{Less, Equal, Greater}
use Rattle.std.specs.Ordering.{eq_by_cmp, is_lt, is_eq, ordering_reverse}
use Rattle.std.specs.FinMap.{is_sorted}
use Rattle.std.specs.FinMap.Entries.{below_all, by_order}
use Rattle.std.proofs.lemmas.Bool.{ltb-true}
use Rattle.std.proofs.lemmas.Bool.Decides.{nat_tests}
use Rattle.std.proofs.lemmas.Cmp.{nat_list_cmp_total}
use Rattle.osm_base.specs.Tags.{Pair, bytes_cmp, are_tags, with_tag, without_tag}
use Rattle.osm_base.proofs.Tests.{first_T, second_T, both_T, true_from_T, less_from_T}
use Rattle.osm_base.proofs.TagLaws.{one_key, are_tags_put, are_tags_without, put_last}
use Rattle.tool_api.specs.Basic.{retag_one, retagged}
use Rattle.tools_basic.specs.Merging.{lesser_first, behind}

-- Tags and their order.

sorted_in : (ts : List Pair) → T (are_tags ts) → T (is_sorted bytes_cmp ts)
sorted_in ts h = first_T (is_sorted bytes_cmp ts) _ h

below_in : (t : Pair) (ts : List Pair) → T (are_tags (t ∷ ts)) → T (below_all bytes_cmp t.0 ts)
below_in t ts h = first_T (below_all bytes_cmp t.0 ts) _ (sorted_in (t ∷ ts) h)

pub tags_behind : (t : Pair) (ts : List Pair) → T (are_tags (t ∷ ts)) → T (are_tags ts)
tags_behind t ts h =
    both_T _ _ (second_T (below_all bytes_cmp t.0 ts) _ (sorted_in (t ∷ ts) h)) (second_T (nat_lt 0 (length t.0)) _ (second_T (is_sorted bytes_cmp (t ∷ ts)) _ h))

named_first : (t : Pair) (ts : List Pair) → T (are_tags (t ∷ ts)) → T (nat_lt 0 (length t.0))
named_first t ts h = first_T (nat_lt 0 (length t.0)) _ (second_T (is_sorted bytes_cmp (t ∷ ts)) _ h)

-- a key above one is not below it, and no other
not_below : (j k : List ℕ) → T (is_lt (bytes_cmp j k)) → bytes_cmp k j ≡ Greater
not_below j k h = nat_list_cmp_total.antisymm k j ∙ ap ordering_reverse (less_from_T (bytes_cmp j k) h)

further : (j k : List ℕ) (ts : List Pair) → T (is_lt (bytes_cmp j k)) → T (below_all bytes_cmp k ts) → T (below_all bytes_cmp j ts)
further j k [] h below = tt
further j k (t ∷ ts) h below =
    both_T _ _ (subst (λ (o : Ordering). T (is_lt o)) (sym (nat_list_cmp_total.trans j k t.0 (less_from_T _ h) (less_from_T _ (first_T (is_lt (bytes_cmp k t.0)) _ below)))) tt)
    (further j k ts h (second_T (is_lt (bytes_cmp k t.0)) _ below))

-- a key below all is none of them
without_none : (k : List ℕ) (ts : List Pair) → T (below_all bytes_cmp k ts) → without_tag ts k ≡ ts
without_none k [] h = refl
without_none k (t ∷ ts) h =
    ap (λ (o : Ordering). cond (not (is_eq o)) (t ∷ without_tag ts k) (without_tag ts k)) (less_from_T (bytes_cmp k t.0) (first_T (is_lt (bytes_cmp k t.0)) _ h))
    ∙ ap (λ (l : List Pair). t ∷ l) (without_none k ts (second_T (is_lt (bytes_cmp k t.0)) _ h))

-- Pairs above a tag leave it.

past_one : (t : Pair) (ts : List Pair) (k v : List ℕ) → T (is_lt (bytes_cmp t.0 k)) → retag_one (t ∷ ts) (k, v) ≡ t ∷ retag_one ts (k, v)
past_one t ts k [] h = rw (not_below t.0 k h) refl
past_one t ts k (b ∷ bs) h = rw (not_below t.0 k h) refl

past : (t : Pair) (ts ps : List Pair) → T (below_all bytes_cmp t.0 ps) → retagged (t ∷ ts) ps ≡ t ∷ retagged ts ps
past t ts [] h = refl
past t ts (p ∷ ps) h =
    ap (λ (l : List Pair). retagged l ps) (past_one t ts p.0 p.1 (first_T (is_lt (bytes_cmp t.0 p.0)) _ h))
    ∙ past t (retag_one ts p) ps (second_T (is_lt (bytes_cmp t.0 p.0)) _ h)

-- The order stays.

one_tags : (ts : List Pair) (k v : List ℕ) → T (nat_lt 0 (length k)) → T (are_tags ts) → T (are_tags (retag_one ts (k, v)))
one_tags ts k [] named h = are_tags_without k ts h
one_tags ts k (b ∷ bs) named h = are_tags_put k (b ∷ bs) ts named h

pub all_tags : (ts ps : List Pair) → T (are_tags ts) → T (are_tags ps) → T (are_tags (retagged ts ps))
all_tags ts [] h g = h
all_tags ts (p ∷ ps) h g = all_tags (retag_one ts p) ps (one_tags ts p.0 p.1 (named_first p ps g) h) (tags_behind p ps g)

-- What the merging has put, and what is left of it.
abbrev pub Merged : List Pair → List Pair → List Pair → List Pair → Type 0
Merged new rest left all = (new ++ retagged rest left ≡ all) × T (are_tags rest) × T (are_tags left) × T (are_tags all)

pub begun : (new rest ts ps : List Pair) → new ≡ [] → rest ≡ ts → T (are_tags ts) → T (are_tags ps) → Merged new rest ps (retagged ts ps)
begun new rest ts ps none same h g = ((λ i. none i ++ retagged (same i) ps), subst (λ (l : List Pair). T (are_tags l)) (sym same) h, g, all_tags ts ps h g)

-- the next of all goes to the end
at_end : (new front behind all : List Pair) (t : Pair) → front ≡ t ∷ behind → new ++ front ≡ all → T (are_tags all) → (with_tag new t.0 t.1 ++ behind ≡ all)
at_end new front behind all t next is h =
    let whole : new ++ t ∷ behind ≡ all = ap (λ (l : List Pair). new ++ l) (sym next) ∙ is in
    ap (λ (l : List Pair). l ++ behind) (put_last new behind t (subst (λ (l : List Pair). T (are_tags l)) (sym whole) h)) ∙ append_assoc new (t ∷ []) behind ∙ whole

split_case : (b : Bool) (s r : Pair × List Pair) → cond b (Some s) None ≡ Some r → (b ≡ true) × (s ≡ r)
split_case true s r e = (refl, ap (λ (o : Option (Pair × List Pair)). unwrap_or o s) e)
split_case false s r e = absurd cc

pub lesser_is : (key : List ℕ) (ts us : List Pair) (u : Pair) → lesser_first key ts ≡ Some (u, us) → (T (is_lt (bytes_cmp u.0 key))) × (ts ≡ u ∷ us)
lesser_is key [] us u e = absurd cc
lesser_is key (t ∷ ts) us u e =
    let s = split_case (is_lt (bytes_cmp t.0 key)) (t, ts) (u, us) e in
    let same : t ∷ ts ≡ u ∷ us = ap (λ (s : Pair × List Pair). s.0 ∷ s.1) s.1 in
    (subst (λ (x : List Pair). T (first_lesser x)) same (subst T (sym s.0) tt), same)
  where
    first_lesser : List Pair → Bool
    first_lesser [] = true
    first_lesser (x ∷ xs) = is_lt (bytes_cmp x.0 key)

-- a tag whose key comes before the next pair's
pub tag_put : (new ts us ps all : List Pair) (u p : Pair) → lesser_first p.0 ts ≡ Some (u, us) → Merged new ts (p ∷ ps) all → Merged (with_tag new u.0 u.1) us (p ∷ ps) all
tag_put new ts us ps all u p first h =
    let s = lesser_is p.0 ts us u first in
    let tags : T (are_tags (u ∷ us)) = subst (λ (l : List Pair). T (are_tags l)) s.1 h.1 in
    let below : T (below_all bytes_cmp u.0 (p ∷ ps)) = both_T _ _ s.0 (further u.0 p.0 ps s.0 (below_in p ps h.2)) in (
      at_end new (retagged ts (p ∷ ps)) (retagged us (p ∷ ps)) all u (ap (λ (l : List Pair). retagged l (p ∷ ps)) s.1 ∙ past u us (p ∷ ps) below) h.0 h.3,
      tags_behind u us tags,
      h.2,
      h.3,
    )

-- Where no tag comes before the next pair.

no_lesser : (k : List ℕ) (t : Pair) (ts : List Pair) → lesser_first k (t ∷ ts) ≡ None → bytes_cmp k t.0 ≡ Greater → ⊥
no_lesser k t ts none e =
    let less : bytes_cmp t.0 k ≡ Less = nat_list_cmp_total.antisymm t.0 k ∙ ap ordering_reverse e in
    let some : ◌≡◌ {A = Option (Pair × List Pair)} (Some (t, ts)) None = sym (ap (λ (o : Ordering). cond (is_lt o) (Some (t, ts)) None) less) ∙ none in
    cc

less_T : (o : Ordering) → o ≡ Less → T (is_lt o)
less_T o e = subst (λ (x : Ordering). T (is_lt x)) (sym e) tt

left_below : (k : List ℕ) (ts : List Pair) → T (are_tags ts) → lesser_first k ts ≡ None → T (below_all bytes_cmp k (behind k ts))
left_below k [] h none = tt
left_below k (t ∷ ts) h none = elim (bytes_cmp k t.0) as (λ o. bytes_cmp k t.0 ≡ o → T (below_all bytes_cmp k (cond (is_eq o) ts (t ∷ ts)))) [
  | Less ↦ λ e. both_T _ _ (less_T (bytes_cmp k t.0) e) (further k t.0 ts (less_T (bytes_cmp k t.0) e) (below_in t ts h))
  | Equal ↦ λ e. subst (λ (j : List ℕ). T (below_all bytes_cmp j ts)) (sym (one_key k t.0 e)) (below_in t ts h)
  | Greater ↦ λ e. absurd (no_lesser k t ts none e)
] refl

left_tags : (k : List ℕ) (ts : List Pair) → T (are_tags ts) → T (are_tags (behind k ts))
left_tags k [] h = h
left_tags k (t ∷ ts) h = elim (eq_by_cmp bytes_cmp k t.0) as (λ b. T (are_tags (cond b ts (t ∷ ts)))) [ true ↦ tags_behind t ts h | false ↦ h ]

one_empty : (k : List ℕ) (ts : List Pair) → T (are_tags ts) → lesser_first k ts ≡ None → without_tag ts k ≡ behind k ts
one_empty k [] h none = refl
one_empty k (t ∷ ts) h none = elim (bytes_cmp k t.0) as (λ o. bytes_cmp k t.0 ≡ o → cond (not (is_eq o)) (t ∷ without_tag ts k) (without_tag ts k) ≡ cond (is_eq o) ts (t ∷ ts)) [
  | Less ↦ λ e. ap (λ (l : List Pair). t ∷ l) (without_none k ts (further k t.0 ts (less_T (bytes_cmp k t.0) e) (below_in t ts h)))
  | Equal ↦ λ e. without_none k ts (subst (λ (j : List ℕ). T (below_all bytes_cmp j ts)) (sym (one_key k t.0 e)) (below_in t ts h))
  | Greater ↦ λ e. absurd (no_lesser k t ts none e)
] refl

one_valued : (k v : List ℕ) (ts : List Pair) → lesser_first k ts ≡ None → with_tag ts k v ≡ (k, v) ∷ behind k ts
one_valued k v [] none = refl
one_valued k v (t ∷ ts) none = elim (bytes_cmp k t.0) as (λ o. bytes_cmp k t.0 ≡ o → by_order o ((k, v) ∷ t ∷ ts) ((t.0, v) ∷ ts) (t ∷ with_tag ts k v) ≡ (k, v) ∷ cond (is_eq o) ts (t ∷ ts)) [
  | Less ↦ λ e. refl
  | Equal ↦ λ e. (let same = sym (one_key k t.0 e) in λ i. (same i, v) ∷ ts)
  | Greater ↦ λ e. absurd (no_lesser k t ts none e)
] refl

-- a pair without a value
pub pair_left : (new ts ps all : List Pair) (p : Pair) → lesser_first p.0 ts ≡ None → (length p.1 == 0) ≡ true → Merged new ts (p ∷ ps) all → Merged new (behind p.0 ts) ps all
pair_left new ts ps all (k, []) none empty h =
    (ap (λ (l : List Pair). new ++ retagged l ps) (sym (one_empty k ts h.1 none)) ∙ h.0, left_tags k ts h.1, tags_behind (k, []) ps h.2, h.3)
pair_left new ts ps all (k, b ∷ bs) none empty h = (let some : (length (b ∷ bs) == 0) ≡ false = grind (arith, nat_tests) in absurd cc)

-- one with a value
pub pair_put : (new ts ps all : List Pair) (p : Pair) → lesser_first p.0 ts ≡ None → (length p.1 == 0) ≡ false → Merged new ts (p ∷ ps) all → Merged (with_tag new p.0 p.1) (behind p.0 ts) ps all
pair_put new ts ps all (k, []) none some h = absurd cc
pair_put new ts ps all (k, b ∷ bs) none some h = (
  at_end new (retagged ts ((k, b ∷ bs) ∷ ps)) (retagged (behind k ts) ps) all (k, b ∷ bs)
      (ap (λ (l : List Pair). retagged l ps) (one_valued k (b ∷ bs) ts none) ∙ past (k, b ∷ bs) (behind k ts) ps (below_in (k, b ∷ bs) ps h.2)) h.0 h.3,
  left_tags k ts h.1,
  tags_behind (k, b ∷ bs) ps h.2,
  h.3,
)

-- a tag behind all pairs
pub rest_put : (new ts all : List Pair) (t : Pair) → Merged new (t ∷ ts) [] all → Merged (with_tag new t.0 t.1) ts [] all
rest_put new ts all t h = (at_end new (t ∷ ts) ts all t refl h.0 h.3, tags_behind t ts h.1, h.2, h.3)

-- The same of what the code made of them.

from : (P : List Pair → Type 0) (out made : List Pair) → out ≡ made → P made → P out
from P out made is h = subst P (sym is) h

pub tag_step : (new out ts us ps all : List Pair) (u p : Pair) → out ≡ with_tag new u.0 u.1 → lesser_first p.0 ts ≡ Some (u, us) → Merged new ts (p ∷ ps) all → Merged out us (p ∷ ps) all
tag_step new out ts us ps all u p is first h = from (λ x. Merged x us (p ∷ ps) all) out (with_tag new u.0 u.1) is (tag_put new ts us ps all u p first h)

pub left_step : (new out ts left ps all : List Pair) (p : Pair) → out ≡ new → left ≡ behind p.0 ts → lesser_first p.0 ts ≡ None → (length p.1 == 0) ≡ true → Merged new ts (p ∷ ps) all → Merged out left ps all
left_step new out ts left ps all p is rest none empty h =
    from (λ x. Merged x left ps all) out new is (from (λ x. Merged new x ps all) left (behind p.0 ts) rest (pair_left new ts ps all p none empty h))

pub put_step : (new out ts left ps all : List Pair) (p : Pair) → out ≡ with_tag new p.0 p.1 → left ≡ behind p.0 ts → lesser_first p.0 ts ≡ None → (length p.1 == 0) ≡ false → Merged new ts (p ∷ ps) all → Merged out left ps all
put_step new out ts left ps all p is rest none some h =
    from (λ x. Merged x left ps all) out (with_tag new p.0 p.1) is (from (λ x. Merged (with_tag new p.0 p.1) x ps all) left (behind p.0 ts) rest (pair_put new ts ps all p none some h))

pub rest_step : (new out rest ts all : List Pair) (t : Pair) → out ≡ with_tag new t.0 t.1 → rest ≡ t ∷ ts → Merged new rest [] all → Merged out ts [] all
rest_step new out rest ts all t is split h =
    from (λ x. Merged x ts [] all) out (with_tag new t.0 t.1) is (rest_put new ts all t (subst (λ x. Merged new x [] all) split h))

-- What is put has a key.

pub named_head : (t : Pair) (ts : List Pair) → T (are_tags (t ∷ ts)) → 0 < length t.0
named_head t ts h = ltb-true 0 (length t.0) (true_from_T (nat_lt 0 (length t.0)) (named_first t ts h))

pub named_lesser : (key : List ℕ) (ts us : List Pair) (u : Pair) → lesser_first key ts ≡ Some (u, us) → T (are_tags ts) → 0 < length u.0
named_lesser key ts us u first h = named_head u us (subst (λ (l : List Pair). T (are_tags l)) (lesser_is key ts us u first).1 h)

pub fewer : (key : List ℕ) (ts us : List Pair) (u : Pair) → lesser_first key ts ≡ Some (u, us) → length us < length ts
fewer key ts us u first = (let l : length ts ≡ suc (length us) = ap (λ (l : List Pair). length l) (lesser_is key ts us u first).1 in omega (arith, l))
