-- The index is exact after a patch, if the pairs of one side go and those of the other come.
use Rattle.std.proofs.Common.{◌≡◌, ℕ, ℤ, not, ◌+◌, ◌<◌, ◌≤◌, ◌&&◌, ◌||◌, Bool, true, false, cond, Option, Some, None, List, [], ◌∷◌, ◌++◌, length, get_or, take, drop, map, refl, sym, ◌∙◌, ap, arith}
use Rattle.std.specs.Cmp.{eq_by_cmp_equiv}
use Rattle.std.specs.Option.{option_map_or}
use Rattle.std.specs.Prelude.{T}
use Rattle.std.proofs.lemmas.List.{take_more, take-take, take-append-drop}
use Rattle.std.proofs.lemmas.List.Sums.{sum_by-cons, sum_by-append}
use Rattle.std.specs.FinMap as fin
use Rattle.osm_base.specs.Rank.{rank_cmp, is_key}
use Rattle.osm_base.specs.Content.{node, refs_of}
use Rattle.osm_base.proofs.SameLaws.{same_refs_decides, same_members_decides}
use Rattle.osm_base.specs.declared.key.Key.{Key}
use Rattle.osm_base.specs.declared.members.Member.{Member}
use Rattle.osm_base.specs.declared.content.Content.{Content}
use Rattle.osm_base.specs.declared.content.Content.TheVariants.{Node, Way, Relation}
use Rattle.osm_table.specs.declared.entry.Entry.{Entry}
use Rattle.osm_table.specs.Table.{TableValue, entry_of}
use Rattle.ref_index.specs.declared.pair.Pair.{Pair}
use Rattle.ref_index.specs.Bag.{times, is_pair}
use Rattle.ref_index.specs.PairRank.{pair_total}
use Rattle.ref_index.proofs.Agreement.{pair_parts}
use Rattle.dataset.specs.Edit.{Edit}
use Rattle.dataset.specs.Patch.{Entries, in_order, edit_at, edited}
use Rattle.std.specs.List.{list_all}
use Rattle.std.proofs.lemmas.Bool.{and_parts}
use Rattle.dataset.specs.Exact.{mine_at, refs_at, times_key, IsExact, pairs_of, pairs_with, pairs_by, moved_pairs, is_none_of, keeps_pairs, keeps_refs, same_lists}
use Rattle.dataset.specs.Sides.{side}
use Rattle.osm_base.proofs.RisingKeys.{one_key}
use Rattle.dataset.proofs.Looked.{get_edited, tail_none, tail_order}
use Rattle.dataset.proofs.Laws.{by_edit}

count_step : (a b : Bool) (n m : ℕ) → n ≡ cond b m 0 → cond (a && b) 1 0 + n ≡ cond b (cond a 1 0 + m) 0
count_step true true n m e = ap (λ x. 1 + x) e
count_step true false n m e = let z : n ≡ 0 = e in omega arith
count_step false true n m e = ap (λ x. 0 + x) e
count_step false false n m e = let z : n ≡ 0 = e in omega arith

no_pairs : (b : Bool) → ◌≡◌ {A = ℕ} 0 (cond b 0 0)
no_pairs true = refl
no_pairs false = refl

-- a pair is among the pairs of one user only where it is that user's
pub listed_pairs : (of user key : Key) (ks : List Key) → times (record { of = of; user = user }) (map (λ k. record { of = k; user = key }) ks) ≡ cond (is_key user key) (times_key of ks) 0
listed_pairs of user key [] = no_pairs (is_key user key)
listed_pairs of user key (k ∷ ks) =
    sum_by-cons (λ (p : Pair). cond (is_pair (record { of = of; user = user }) p) 1 0) (record { of = k; user = key }) (map (λ k. record { of = k; user = key }) ks)
    ∙ ap (λ b. cond b 1 0 + times (record { of = of; user = user }) (map (λ k. record { of = k; user = key }) ks)) (pair_parts (record { of = of; user = user }) (record { of = k; user = key }))
    ∙ count_step (is_key of k) (is_key user key) _ (times_key of ks) (listed_pairs of user key ks)
    ∙ ap (λ n. cond (is_key user key) n 0) (sym (sum_by-cons (λ (j : Key). cond (is_key of j) 1 0) k ks))

times_both : (p : Pair) (ps qs : List Pair) → times p (ps ++ qs) ≡ times p ps + times p qs
times_both p ps qs = sum_by-append (λ (q : Pair). cond (is_pair p q) 1 0) ps qs

moved_case : (b k : Bool) (p : Pair) (ps : List Pair) (n : ℕ) → times p ps ≡ cond k n 0 → times p (cond b [] ps) ≡ cond k (cond b 0 n) 0
moved_case true k p ps n e = no_pairs k
moved_case false k p ps n e = e

-- how often an edit's user refers to a key by one side of it, if its references move
abbrev pub times_moved : (Edit → Option Entry) → Key → Edit → ℕ
times_moved side of e = cond (keeps_refs e) 0 (times_key of (refs_at (side e)))

edit_step : (b : Bool) (a n : ℕ) (e : Edit) (o : Option Edit) (f : Edit → ℕ) → f e ≡ a → (b ≡ true → o ≡ None) → n ≡ option_map_or f o 0 → cond b a 0 + n ≡ option_map_or f (cond b (Some e) o) 0
edit_step true a n e o f is none h = let z : n ≡ 0 = h ∙ ap (λ (x : Option Edit). option_map_or f x 0) (none refl) in omega (arith, is)
edit_step false a n e o f is none h = let z : 0 + n ≡ n = omega arith in z ∙ h

-- how often a pair is among those of edits in order: as in the edit of its user
pub times_by : (side : Edit → Option Entry) (es : List Edit) (of user : Key) → T (in_order es) → times (record { of = of; user = user }) (pairs_by side es) ≡ option_map_or (times_moved side of) (edit_at user es) 0
times_by side [] of user h = refl
times_by side (e ∷ es) of user h =
    times_both (record { of = of; user = user }) (moved_pairs side e) (pairs_by side es)
    ∙ ap (λ n. n + times (record { of = of; user = user }) (pairs_by side es)) (moved_case (keeps_refs e) (is_key user e.key) (record { of = of; user = user }) (pairs_of e.key (side e)) _ (listed_pairs of user e.key (refs_at (side e))))
    ∙ edit_step (is_key user e.key) (times_moved side of e) _ e (edit_at user es) (times_moved side of) refl
    (λ t. ap (λ (k : Key). edit_at k es) (one_key user e.key t) ∙ tail_none e es h)
    (times_by side es of user (tail_order e es h))

fewer : (b : Bool) (n m : ℕ) → m ≡ n → cond b 0 n ≤ m
fewer true n m e = omega arith
fewer false n m e = omega arith

more_edits : (side : Edit → Option Entry) (es : List Edit) (e : Edit) (p : Pair) → times p (pairs_by side (es ++ e ∷ [])) ≡ times p (moved_pairs side e) + times p (pairs_by side es)
more_edits side [] e p = times_both p (moved_pairs side e) []
more_edits side (x ∷ es) e p =
    let all = times_both p (moved_pairs side x) (pairs_by side (es ++ e ∷ [])) in
    let rest = more_edits side es e p in
    let first = times_both p (moved_pairs side x) (pairs_by side es) in
    omega (arith, all, rest, first)

-- the pairs of the first few edits, and of one more
pub next_edit : (side : Edit → Option Entry) (es : List Edit) (i : ℕ) (e : Edit) (p : Pair) → i < length es → e ≡ get_or es i e → times p (pairs_by side (take (i + 1) es)) ≡ times p (moved_pairs side e) + times p (pairs_by side (take i es))
next_edit side es i e p within at =
    ap (λ (xs : List Edit). times p (pairs_by side xs)) (take_more es i e within ∙ ap (λ (x : Edit). take i es ++ x ∷ []) (sym at)) ∙ more_edits side (take i es) e p

pub last_edit : (side : Edit → Option Entry) (es : List Edit) (i j : ℕ) (e : Edit) (p : Pair) → i ≡ j + 1 → j < length es → e ≡ get_or es j e → times p (pairs_by side (take i es)) ≡ times p (moved_pairs side e) + times p (pairs_by side (take j es))
last_edit side es i j e p last within at = ap (λ n. times p (pairs_by side (take n es))) last ∙ next_edit side es j e p within at

-- one pair more from the front
pub next_pair : (ps : List Pair) (i : ℕ) (x p : Pair) → i < length ps → x ≡ get_or ps i x → times p (take (i + 1) ps) ≡ cond (is_pair p x) 1 0 + times p (take i ps)
next_pair ps i x p within at =
    let more = ap (times p) (take_more ps i x within ∙ ap (λ (y : Pair). take i ps ++ y ∷ []) (sym at)) ∙ times_both p (take i ps) (x ∷ []) in
    let one : times p (x ∷ []) ≡ cond (is_pair p x) 1 0 + 0 = sum_by-cons (λ (q : Pair). cond (is_pair p q) 1 0) x [] in
    omega (arith, more, one)

-- of the first few one that comes behind others is left when they are gone
pub one_left : (ps : List Pair) (i few : ℕ) (x : Pair) → i < few → few ≤ length ps → x ≡ get_or ps i x → times x (take i ps) + 1 ≤ times x (take few ps)
one_left ps i few x later few_there at =
    let next = next_pair ps i x x (omega (arith, later, few_there)) at in
    let itself : ◌≡◌ {A = ℕ} (cond (is_pair x x) 1 0) 1 = ap (λ (b : Bool). cond b 1 0) ((eq_by_cmp_equiv pair_total).refl x) in
    let parts : times x (take few ps) ≡ times x (take (i + 1) ps) + times x (drop (i + 1) (take few ps)) =
    ap (times x) (sym (take-append-drop (i + 1) (take few ps))) ∙ times_both x (take (i + 1) (take few ps)) (drop (i + 1) (take few ps))
    ∙ ap (λ (qs : List Pair). times x qs + times x (drop (i + 1) (take few ps))) (take-take (i + 1) few ps (omega (arith, later))) in
    omega (arith, next, itself, parts)

-- the pairs of what stands there are counted by an exact index
pub gone_there : (side : Edit → Option Entry) (es : List Edit) (t : TableValue) (number : Pair → ℕ) → T (in_order es) → ((k : Key) (e : Edit) → edit_at k es ≡ Some e → entry_of t k ≡ side e) → IsExact t number → (p : Pair) → times p (pairs_by side es) ≤ number p
gone_there side es t number h stands exact p =
    let is = times_by side es p.of p.user h in
    let there : number p ≡ times_key p.of (refs_at (entry_of t p.user)) = exact p.of p.user in
    by_edit _ (edit_at p.user es)
    (λ none. let z : times p (pairs_by side es) ≡ 0 = is ∙ ap (λ (o : Option Edit). option_map_or (times_moved side p.of) o 0) none in omega (arith, z))
    (λ e some.
    let z : times p (pairs_by side es) ≡ times_moved side p.of e = is ∙ ap (λ (o : Option Edit). option_map_or (times_moved side p.of) o 0) some in
    let w : number p ≡ times_key p.of (refs_at (side e)) = there ∙ ap (λ (o : Option Entry). times_key p.of (refs_at o)) (stands p.user e some) in
    let f : times_moved side p.of e ≤ number p = fewer (keeps_refs e) (times_key p.of (refs_at (side e))) (number p) w in
    omega (arith, z, f))

moved_count : (b : Bool) (gone come old new f t : ℕ) → (b ≡ true → f ≡ t) → gone ≡ cond b 0 f → come ≡ cond b 0 t → gone + new ≡ come + old → old ≡ f → new ≡ t
moved_count true gone come old new f t kept g c m was = let same = kept refl in omega arith
moved_count false gone come old new f t kept g c m was = omega arith

-- the index is exact for the edited entries
pub stays_exact : (from to : Edit → Option Entry) (es : List Edit) (t u : TableValue) (old new : Pair → ℕ) → T (in_order es) → ((e : Edit) → keeps_refs e ≡ true → refs_at (from e) ≡ refs_at (to e)) → ((k : Key) (e : Edit) → edit_at k es ≡ Some e → entry_of t k ≡ from e)
    → u.entries ≡ edited to es t.entries → IsExact t old → ((p : Pair) → times p (pairs_by from es) + new p ≡ times p (pairs_by to es) + old p) → IsExact u new
stays_exact from to es t u old new h kept stands is exact changed of user =
    let gone = times_by from es of user h in
    let come = times_by to es of user h in
    let moved = changed (record { of = of; user = user }) in
    let there = exact of user in
    let now : entry_of u user ≡ option_map_or to (edit_at user es) (entry_of t user) = ap (λ (m : Entries). fin.get m user) is ∙ get_edited to es t.entries user in
    by_edit _ (edit_at user es)
    (λ none.
    let g : times (record { of = of; user = user }) (pairs_by from es) ≡ 0 = gone ∙ ap (λ (o : Option Edit). option_map_or (times_moved from of) o 0) none in
    let c : times (record { of = of; user = user }) (pairs_by to es) ≡ 0 = come ∙ ap (λ (o : Option Edit). option_map_or (times_moved to of) o 0) none in
    let n : entry_of u user ≡ entry_of t user = now ∙ ap (λ (o : Option Edit). option_map_or to o (entry_of t user)) none in
    let m : new (record { of = of; user = user }) ≡ old (record { of = of; user = user }) = omega (arith, g, c, moved) in
    m ∙ there ∙ ap (λ (o : Option Entry). times_key of (refs_at o)) (sym n))
    (λ e some.
    let g : times (record { of = of; user = user }) (pairs_by from es) ≡ times_moved from of e = gone ∙ ap (λ (o : Option Edit). option_map_or (times_moved from of) o 0) some in
    let c : times (record { of = of; user = user }) (pairs_by to es) ≡ times_moved to of e = come ∙ ap (λ (o : Option Edit). option_map_or (times_moved to of) o 0) some in
    let n : entry_of u user ≡ to e = now ∙ ap (λ (o : Option Edit). option_map_or to o (entry_of t user)) some in
    let was : old (record { of = of; user = user }) ≡ times_key of (refs_at (from e)) = there ∙ ap (λ (o : Option Entry). times_key of (refs_at o)) (stands user e some) in
    moved_count (keeps_refs e) _ _ _ _ _ (times_key of (refs_at (to e))) (λ k. ap (times_key of) (kept e k)) g c moved was
    ∙ ap (λ (o : Option Entry). times_key of (refs_at o)) (sym n))

-- two contents with one list refer alike
kept_lists : (a b : Option Content) → same_lists a b ≡ true → option_map_or refs_of a [] ≡ option_map_or refs_of b []
kept_lists (Some (Way tags refs)) (Some (Way others theirs)) e = ap (λ (ids : List ℤ). map node ids) ((same_refs_decides refs theirs).0 e)
kept_lists (Some (Relation tags members)) (Some (Relation others theirs)) e = ap (λ (ms : List Member). map (λ m. m.key) ms) ((same_members_decides members theirs).0 e)
kept_lists (Some (Way tags refs)) (Some (Relation others theirs)) e = cc
kept_lists (Some (Way tags refs)) (Some (Node others at)) e = cc
kept_lists (Some (Relation tags members)) (Some (Way others theirs)) e = cc
kept_lists (Some (Relation tags members)) (Some (Node others at)) e = cc
kept_lists (Some (Node tags at)) (Some b) e = cc
kept_lists (Some (Node tags at)) None e = cc
kept_lists (Some (Way tags refs)) None e = cc
kept_lists (Some (Relation tags members)) None e = cc
kept_lists None b e = cc

-- an edit that keeps the references has the same ones on both sides
pub kept_refs : (forth : Bool) (e : Edit) → keeps_refs e ≡ true → refs_at (side (not forth) e) ≡ refs_at (side forth e)
kept_refs true e k = kept_lists (mine_at e.before) (mine_at e.after) k
kept_refs false e k = sym (kept_lists (mine_at e.before) (mine_at e.after) k)

empty_pairs : (of : Key) (n : ℕ) (x : Option Entry) → n ≡ 0 → x ≡ None → n ≡ times_key of (refs_at x)
empty_pairs of n x e f = rw (e, f) refl

-- no pair is exact for an empty table
pub empty_exact : (t : TableValue) (number : Pair → ℕ) (n : ℕ) → t ≡ record { entries = fin.empty; next = n } → ((p : Pair) → number p ≡ 0) → IsExact t number
empty_exact t number n et none of user =
    empty_pairs of (number (record { of = of; user = user })) (entry_of t user) (none (record { of = of; user = user }))
    (ap (λ (x : TableValue). entry_of x user) et ∙ fin.get-empty rank_cmp user)

-- edits that keep their pairs have none that move
no_keys : (ks : List Key) → is_none_of ks ≡ true → ks ≡ []
no_keys [] e = refl
no_keys (k ∷ ks) e = cc

kept_case : (kept before after forth : Bool) (ps qs : List Pair) → (kept || (before && after)) ≡ true → (before ≡ true → ps ≡ []) → (after ≡ true → qs ≡ []) → cond kept [] (cond forth qs ps) ≡ []
kept_case true before after forth ps qs e f g = refl
kept_case false true true true ps qs e f g = g refl
kept_case false true true false ps qs e f g = f refl
kept_case false true false forth ps qs e f g = cc
kept_case false false after forth ps qs e f g = cc

side_pairs : (forth : Bool) (e : Edit) → pairs_of e.key (side forth e) ≡ cond forth (pairs_of e.key e.after) (pairs_of e.key e.before)
side_pairs true e = refl
side_pairs false e = refl

none_moved : (forth : Bool) (e : Edit) → keeps_pairs e ≡ true → moved_pairs (side forth) e ≡ []
none_moved forth e kept =
    ap (λ (ps : List Pair). cond (keeps_refs e) [] ps) (side_pairs forth e)
    ∙ kept_case (keeps_refs e) (is_none_of (refs_at e.before)) (is_none_of (refs_at e.after)) forth (pairs_of e.key e.before) (pairs_of e.key e.after) kept
    (λ none. ap (pairs_with e.key) (no_keys (refs_at e.before) none))
    (λ none. ap (pairs_with e.key) (no_keys (refs_at e.after) none))

pub no_pairs_move : (forth : Bool) (es : List Edit) → list_all keeps_pairs es ≡ true → pairs_by (side forth) es ≡ []
no_pairs_move forth [] h = refl
no_pairs_move forth (e ∷ es) h =
    let parts = and_parts (keeps_pairs e) (list_all keeps_pairs es) h in
    ap (λ (ps : List Pair). ps ++ pairs_by (side forth) es) (none_moved forth e parts.0) ∙ no_pairs_move forth es parts.1
