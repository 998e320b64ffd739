-- How many entries a draft's table has.
use Rattle.std.proofs.Common.{◌≡◌, ◌+◌, ◌-◌, ◌≤◌, ◌||◌, ℕ, zero, suc, Bool, true, false, cond, is_some, Option, Some, None, List, [], ◌∷◌, map, refl, sym, subst, ◌∙◌, ap, arith}
use Rattle.std.specs.Prelude.{T, nat_lt}
use Rattle.std.specs.Ordering.{is_lt}
use Rattle.std.specs.List.{AllByRecursion, count_by}
use Rattle.std.proofs.lemmas.List.{length-map}
use Rattle.std.proofs.lemmas.List.Sums.{sum_by-cons, count_by-le-length}
use Rattle.std.proofs.lemmas.Bool.Decides.{nat_tests}
use Rattle.std.proofs.lemmas.Bool.{le-ltb}
use Rattle.std.specs.FinMap as fin
use Rattle.std.specs.FinMap.Entries.{is_sorted, below_all}
use Rattle.osm_base.specs.Rank.{rank_cmp}
use Rattle.osm_base.specs.RankLaws.{rank_total}
use Rattle.osm_base.proofs.RisingKeys.{key_itself, key_turned}
use Rattle.osm_base.specs.declared.key.Key.{Key}
use Rattle.osm_base.proofs.Tests.{first_T, second_T, no_tie}
use Rattle.osm_table.specs.declared.entry.Entry.{Entry}
use Rattle.osm_table.specs.Table.{TableValue, entry_of}
use Rattle.dataset.specs.Patch.{Entries, placed}
use Rattle.dataset.specs.Draft.{DraftValue, overlaid, drafted}
use Rattle.dataset.proofs.Looked.{get_placed}
use Rattle.tool_api.specs.Closing.{is_full}
use Rattle.tool_api.proofs.Bools.{or_false}

abbrev Puts : Type 0
Puts = List (Key × Option Entry)

abbrev keys_of : Puts → List Key
keys_of es = map (λ e. e.0) es

-- how many of the keys have an entry
abbrev held : Entries → List Key → ℕ
held m ks = count_by (λ k. is_some (fin.get m k)) ks

abbrev one_if : Bool → ℕ
one_if b = cond b 1 0

-- a map with a key isn't empty
empty_has : (m : Entries) (k : Key) → m ≡ fin.empty → is_some (fin.get m k) ≡ true → ⊥
empty_has m k e has = let never : false ≡ true = sym (ap is_some (ap (λ (x : Entries). fin.get x k) e ∙ fin.get-empty rank_cmp k)) ∙ has in cc

some_case : (m : Entries) (k : Key) (n : ℕ) → fin.len m ≡ n → is_some (fin.get m k) ≡ true → 1 ≤ n
some_case m k zero e has = absurd (empty_has m k (fin.empty_of_len m e) has)
some_case m k (suc n) e has = omega arith

len_case : (m : Entries) (k : Key) (o : Option Entry) (b : Bool) → is_some (fin.get m k) ≡ b → fin.len (placed m k o) + one_if b ≡ fin.len m + one_if (is_some o)
len_case m k None true e =
    let l : fin.len (fin.remove m k) ≡ fin.len m - 1 = fin.len-remove rank_total m k ∙ ap (λ b. cond b (fin.len m - 1) (fin.len m)) e in
    let some : 1 ≤ fin.len m = some_case m k _ refl e in
    omega (arith, l, some)
len_case m k None false e =
    let l : fin.len (fin.remove m k) ≡ fin.len m = fin.len-remove rank_total m k ∙ ap (λ b. cond b (fin.len m - 1) (fin.len m)) e in
    omega (arith, l)
len_case m k (Some v) true e =
    let l : fin.len (fin.insert m k v) ≡ fin.len m = fin.len-insert rank_total m k v ∙ ap (λ b. cond b (fin.len m) (fin.len m + 1)) e in
    omega (arith, l)
len_case m k (Some v) false e =
    let l : fin.len (fin.insert m k v) ≡ fin.len m + 1 = fin.len-insert rank_total m k v ∙ ap (λ b. cond b (fin.len m) (fin.len m + 1)) e in
    omega (arith, l)

-- a key below all others has what it had
untouched : (es : Puts) (m : Entries) (q : Key) → T (below_all rank_cmp q es) → fin.get (overlaid es m) q ≡ fin.get m q
untouched [] m q h = refl
untouched (e ∷ es) m q h =
    get_placed (overlaid es m) e.0 e.1 q ∙ ap (λ b. cond b e.1 (fin.get (overlaid es m) q)) (no_tie (rank_cmp q e.0) (first_T (is_lt (rank_cmp q e.0)) _ h))
    ∙ untouched es m q (second_T (is_lt (rank_cmp q e.0)) _ h)

-- each of the keys has what is put there
abbrev Has : Entries → Puts → Type 0
Has m es = AllByRecursion (λ e. fin.get m e.0 ≡ e.1) es

has_placed : (m : Entries) (k : Key) (o : Option Entry) (es : Puts) → T (below_all rank_cmp k es) → Has m es → Has (placed m k o) es
has_placed m k o [] h all = tt
has_placed m k o (e ∷ es) h all = (
  get_placed m k o e.0 ∙ ap (λ b. cond b o (fin.get m e.0)) (key_turned e.0 k ∙ no_tie (rank_cmp k e.0) (first_T (is_lt (rank_cmp k e.0)) _ h)) ∙ all.0,
  has_placed m k o es (second_T (is_lt (rank_cmp k e.0)) _ h) all.1,
)

has_overlaid : (es : Puts) (m : Entries) → T (is_sorted rank_cmp es) → Has (overlaid es m) es
has_overlaid [] m h = tt
has_overlaid (e ∷ es) m h = (
  get_placed (overlaid es m) e.0 e.1 e.0 ∙ ap (λ b. cond b e.1 (fin.get (overlaid es m) e.0)) (key_itself e.0),
  has_placed (overlaid es m) e.0 e.1 es (first_T (below_all rank_cmp e.0 es) _ h) (has_overlaid es m (second_T (below_all rank_cmp e.0 es) _ h)),
)

held_step : (a b c d h g x y : ℕ) → a + x ≡ b + y → b + h ≡ c + g → a + (x + h) ≡ c + (y + g)
held_step a b c d h g x y e f = omega (arith, e, f)

len_overlaid : (es : Puts) (m u : Entries) → T (is_sorted rank_cmp es) → Has u es → fin.len (overlaid es m) + held m (keys_of es) ≡ fin.len m + held u (keys_of es)
len_overlaid [] m u h all = refl
len_overlaid (e ∷ es) m u h all =
    let was : is_some (fin.get (overlaid es m) e.0) ≡ is_some (fin.get m e.0) = ap is_some (untouched es m e.0 (first_T (below_all rank_cmp e.0 es) _ h)) in
    let one : fin.len (placed (overlaid es m) e.0 e.1) + one_if (is_some (fin.get m e.0)) ≡ fin.len (overlaid es m) + one_if (is_some (fin.get u e.0)) =
    len_case (overlaid es m) e.0 e.1 _ was ∙ ap (λ (o : Option Entry). fin.len (overlaid es m) + one_if (is_some o)) (sym all.0) in
    ap (λ n. fin.len (placed (overlaid es m) e.0 e.1) + n) (sum_by-cons (λ (k : Key). one_if (is_some (fin.get m k))) e.0 (keys_of es))
    ∙ held_step _ _ _ 0 _ _ _ _ one (len_overlaid es m u (second_T (below_all rank_cmp e.0 es) _ h) all.1)
    ∙ sym (ap (λ n. fin.len m + n) (sum_by-cons (λ (k : Key). one_if (is_some (fin.get u k))) e.0 (keys_of es)))

-- the entries that come less those that go
pub len_drafted : (d : DraftValue) (t : TableValue) → fin.len (drafted d t).entries + count_by (λ k. is_some (entry_of t k)) (fin.keys d.puts) ≡ fin.len t.entries + count_by (λ k. is_some (entry_of (drafted d t) k)) (fin.keys d.puts)
len_drafted d t = len_overlaid (fin.entries d.puts) t.entries (drafted d t).entries (fin.entries_sorted d.puts) (has_overlaid (fin.entries d.puts) t.entries (fin.entries_sorted d.puts))

more : (limit before after len new : ℕ) → new + before ≡ len + after → nat_lt (limit + before) (len + after) ≡ nat_lt limit new
more limit before after len new e = grind (arith, nat_tests)

abbrev number_full : ℕ → Bool
number_full next = nat_lt 1000000000000000000 next

-- whether there are too many entries, from the numbers of keys with one before and after
len_full : (d : DraftValue) (t : TableValue) (ks : List Key) (limit before after len : ℕ) → ks ≡ fin.keys d.puts → before ≡ count_by (λ k. is_some (entry_of t k)) ks → after ≡ count_by (λ k. is_some (entry_of (drafted d t) k)) ks
    → len ≡ fin.len t.entries → nat_lt (limit + before) (len + after) ≡ nat_lt limit (fin.len (drafted d t).entries)
len_full d t ks limit before after len keys is_before is_after is_len =
    more limit before after len (fin.len (drafted d t).entries)
    (ap (λ n. fin.len (drafted d t).entries + n) (is_before ∙ ap (count_by (λ k. is_some (entry_of t k))) keys) ∙ len_drafted d t
    ∙ (let a = sym (is_after ∙ ap (count_by (λ k. is_some (entry_of (drafted d t) k))) keys) in let b = sym is_len in λ i. b i + a i))

pub too_many : (d : DraftValue) (t : TableValue) (ks : List Key) (limit before after len : ℕ) → ks ≡ fin.keys d.puts → before ≡ count_by (λ k. is_some (entry_of t k)) ks → after ≡ count_by (λ k. is_some (entry_of (drafted d t) k)) ks
    → len ≡ fin.len t.entries → d.next ≤ 1000000000000000000 → nat_lt (limit + before) (len + after) ≡ is_full limit (drafted d t)
too_many d t ks limit before after len keys is_before is_after is_len numbers =
    len_full d t ks limit before after len keys is_before is_after is_len
    ∙ or_false (nat_lt limit (fin.len (drafted d t).entries)) (number_full d.next) (le-ltb _ _ numbers)

-- a draft has at most its keys more than the table
at_most : (new before len after keys : ℕ) → new + before ≡ len + after → after ≤ keys → new ≤ len + keys
at_most new before len after keys e h = omega (arith, e, h)

few_after : (d : DraftValue) (t : TableValue) → count_by (λ k. is_some (entry_of (drafted d t) k)) (fin.keys d.puts) ≤ fin.len d.puts
few_after d t =
    subst (λ n. count_by (λ k. is_some (entry_of (drafted d t) k)) (fin.keys d.puts) ≤ n)
    (length-map (fin.entries d.puts) (λ (e : Key × Option Entry). e.0) ∙ sym (fin.len-entries d.puts))
    (count_by-le-length (λ k. is_some (entry_of (drafted d t) k)) (fin.keys d.puts))

len_keys : (d : DraftValue) (t : TableValue) → fin.len (drafted d t).entries ≤ fin.len t.entries + fin.len d.puts
len_keys d t = at_most _ _ _ _ _ (len_drafted d t) (few_after d t)

no_more : (new len keys limit : ℕ) → new ≤ len + keys → len + keys ≤ limit → new ≤ limit
no_more new len keys limit h fits = omega (arith, h, fits)

-- the limit has room for each key
pub room_for_all : (d : DraftValue) (t : TableValue) (limit len keys : ℕ) → len ≡ fin.len t.entries → keys ≡ fin.len d.puts → d.next ≤ 1000000000000000000 → len + keys ≤ limit → false ≡ is_full limit (drafted d t)
room_for_all d t limit len keys is_len is_keys numbers fits =
    let few : nat_lt limit (fin.len (drafted d t).entries) ≡ false = le-ltb limit _ (no_more _ len keys limit (subst (λ n. fin.len (drafted d t).entries ≤ n + keys) (sym is_len) (subst (λ n. fin.len (drafted d t).entries ≤ fin.len t.entries + n) (sym is_keys) (len_keys d t))) fits) in
    sym (ap (λ b. b || number_full d.next) few ∙ le-ltb _ _ numbers)
