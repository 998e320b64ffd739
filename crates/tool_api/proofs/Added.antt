-- Tables with new objects: what they have, and that they are sound.
use Rattle.std.proofs.Common.{◌≡◌, ◌||◌, ◌+◌, ◌-◌, ◌<◌, ◌≤◌, ◌^◌, ℕ, suc, negsuc, Bool, true, false, cond, nat_lt, List, [], ◌∷◌, length, Option, Some, None, refl, sym, ap, ◌∙◌, subst, arith}
use Rattle.std.proofs.lemmas.Bool.{ltb-false}
use Rattle.std.specs.List.{AllByRecursion}
use Rattle.std.specs.Option.{option_and_then}
use Rattle.std.specs.FinMap as fin
use Rattle.osm_base.specs.Rank.{is_key}
use Rattle.osm_base.specs.Content.{refers, fits, kind_of_content}
use Rattle.osm_base.specs.declared.key.Key.{Key}
use Rattle.osm_base.specs.declared.key.Kind.{Kind}
use Rattle.osm_base.specs.declared.content.Content.{Content}
use Rattle.osm_base.proofs.RisingKeys.{one_key}
use Rattle.osm_base.proofs.Tests.{by_bool}
use Rattle.osm_table.specs.declared.entry.Base.TheVariants.{New, Live, Gone}
use Rattle.osm_table.specs.declared.entry.Entry.{Entry}
use Rattle.osm_table.specs.declared.entry.Entry.TheVariants.{Incomplete, Known}
use Rattle.osm_table.specs.Table.{TableValue, entry_of, mine_of, Each, IsThere}
use Rattle.osm_table.proofs.Each.{get_with, get_with_same, each_with}
use Rattle.dataset.specs.Draft.{DraftValue, drafted}
use Rattle.dataset.specs.Sound.{IsSound, IsSoundEntry, IdFits, LivesIn}
use Rattle.dataset.proofs.Changes.{drafted_put, new_entry}
use Rattle.dataset.proofs.Kept.{entry_more}
use Rattle.tool_api.specs.Changes.{new_key, added, all_added, content_of}
use Rattle.tool_api.specs.Closing.{makes_unfit}
use Rattle.tool_api.proofs.Passed.{fits_or_stays}
use Rattle.tool_api.proofs.Sounds.{only_fits, second_false}

-- What they have.

pub added_at : (x : TableValue) (c : Content) (q : Key) → entry_of (added x c) q ≡ cond (is_key q (new_key (kind_of_content c) x.next)) (Some (Known New (Some c) None)) (entry_of x q)
added_at x c q = get_with x (new_key (kind_of_content c) x.next) (Known New (Some c) None) q

pub next_added : (x : TableValue) (cs : List Content) → (all_added x cs).next ≡ x.next + length cs
next_added x [] = omega arith
next_added x (c ∷ cs) = let e : (x.next + 1) + length cs ≡ x.next + suc (length cs) = omega arith in next_added (added x c) cs ∙ e

-- what is there stays there
there_case : (b : Bool) (c : Content) (o : Option Entry) → IsThere o → IsThere (cond b (Some (Known New (Some c) None)) o)
there_case true c o h = refl
there_case false c o h = h

there_added : (x : TableValue) (c : Content) (r : Key) → IsThere (entry_of x r) → IsThere (entry_of (added x c) r)
there_added x c r h = subst IsThere (sym (added_at x c r)) (there_case (is_key r (new_key (kind_of_content c) x.next)) c (entry_of x r) h)

pub there_all : (x : TableValue) (cs : List Content) (r : Key) → IsThere (entry_of x r) → IsThere (entry_of (all_added x cs) r)
there_all x [] r h = h
there_all x (c ∷ cs) r h = there_all (added x c) cs r (there_added x c r h)

-- keys with different numbers differ
numbers : (j k : Kind) (m n : ℕ) → new_key j m ≡ new_key k n → m - 1 ≡ n - 1
numbers j k m n e = let f : negsuc (m - 1) ≡ negsuc (n - 1) = ap (λ (x : Key). x.id) e in cc

pub new_differs : (j k : Kind) (m n : ℕ) → 1 ≤ m → m < n → is_key (new_key j m) (new_key k n) ≡ false
new_differs j k m n one less =
    by_bool (is_key (new_key j m) (new_key k n))
    (λ is. let e = numbers j k m n (one_key (new_key j m) (new_key k n) is) in absurd (omega (arith, e))) (λ other. other)

-- a new key is there from when it is added
low_kept : (x : TableValue) (cs : List Content) (k : Kind) (m : ℕ) → 1 ≤ m → m < x.next → entry_of (all_added x cs) (new_key k m) ≡ entry_of x (new_key k m)
low_kept x [] k m one low = refl
low_kept x (c ∷ cs) k m one low =
    low_kept (added x c) cs k m one (omega arith) ∙ added_at x c (new_key k m)
    ∙ ap (λ b. cond b (Some (Known New (Some c) None)) (entry_of x (new_key k m))) (new_differs k (kind_of_content c) m x.next one low)

pub at_added : (x : TableValue) (c : Content) (cs : List Content) → 1 ≤ x.next → entry_of (all_added x (c ∷ cs)) (new_key (kind_of_content c) x.next) ≡ Some (Known New (Some c) None)
at_added x c cs one = low_kept (added x c) cs (kind_of_content c) x.next one (omega arith) ∙ get_with_same x (new_key (kind_of_content c) x.next) (Known New (Some c) None)

-- no sound table has a new key from its number on
no_new : (n m : ℕ) (k : Kind) (e : Entry) → 1 ≤ n → n ≤ m → IdFits n (new_key k m) e → ⊥
no_new n m k Incomplete one low h = h
no_new n m k (Known New mine conflict) one low h = absurd (omega (arith, one, h.0))
no_new n m k (Known (Live v c meta) mine conflict) one low h = h
no_new n m k (Known (Gone v meta) mine conflict) one low h = h

fresh_case : (t : TableValue) (k : Kind) (m : ℕ) (o : Option Entry) → IsSound t → t.next ≤ m → entry_of t (new_key k m) ≡ o → o ≡ None
fresh_case t k m None s low is = refl
fresh_case t k m (Some e) s low is = absurd (no_new t.next m k e s.number.0 low (s.entries _ e is).id)

pub fresh : (t : TableValue) (k : Kind) (m : ℕ) → IsSound t → t.next ≤ m → entry_of t (new_key k m) ≡ None
fresh t k m s low = fresh_case t k m _ s low refl

-- the draft with one put more makes the table with one added
pub added_new : (d d₁ d₂ : DraftValue) (n : ℕ) (k : Key) (kind : Kind) (c : Content) → n ≡ d.next → kind ≡ kind_of_content c → k ≡ new_key kind n → d₁ ≡ record { puts = d.puts; next = n + 1 }
    → d₂ ≡ record { puts = fin.insert d₁.puts k (Some (Known New (Some c) None)); next = d₁.next } → (t : TableValue) → drafted d₂ t ≡ added (drafted d t) c
added_new d d₁ d₂ n k kind c number same key first put t =
    ap (λ (x : DraftValue). drafted x t) put
    ∙ ap (λ (x : DraftValue). drafted (record { puts = fin.insert x.puts k (Some (Known New (Some c) None)); next = x.next }) t) first
    ∙ drafted_put (record { puts = d.puts; next = n + 1 }) t k (Some (Known New (Some c) None))
    ∙ ap (λ (x : Key). record { entries = fin.insert (drafted d t).entries x (Known New (Some c) None); next = n + 1 }) key
    ∙ (λ i. record { entries = fin.insert (drafted d t).entries (new_key (same i) (number i)) (Known New (Some c) None); next = number i + 1 })

-- That they are sound.

-- New objects that aren't made unfit fit.
pub new_fit : (t u x : TableValue) (cs : List Content) → u ≡ all_added x cs → 1 ≤ x.next → ((k : Kind) (m : ℕ) → x.next ≤ m → entry_of t (new_key k m) ≡ None)
    → ((k : Key) (e : Entry) → entry_of u k ≡ Some e → makes_unfit (content_of t k) (content_of u k) ≡ false) → AllByRecursion (λ c. fits c ≡ true) cs
new_fit t u x [] is one new keeps_fit = tt
new_fit t u x (c ∷ cs) is one new keeps_fit =
    let k = new_key (kind_of_content c) x.next in
    let there : entry_of u k ≡ Some (Known New (Some c) None) = ap (λ (y : TableValue). entry_of y k) is ∙ at_added x c cs one in
    let fine : makes_unfit None (Some c) ≡ false =
    (let a = sym (new (kind_of_content c) x.next (omega arith)) in let b = sym there in λ i. makes_unfit (option_and_then mine_of (a i)) (option_and_then mine_of (b i))) ∙ keeps_fit k _ there in
    (only_fits c (fits_or_stays None c fine), new_fit t u (added x c) cs is (omega arith) (λ j m low. new j m (omega arith)) keeps_fit)

-- each reference of the content is there
abbrev pub RefersIn : TableValue → Content → Type 0
RefersIn t c = (r : Key) → refers c r ≡ true → IsThere (entry_of t r)

-- a condition of each entry, which the new ones meet
abbrev pub NewHold : (Key → Entry → Type 0) → ℕ → List Content → Type 0
NewHold P n [] = Unit {0}
NewHold P n (c ∷ cs) = P (new_key (kind_of_content c) n) (Known New (Some c) None) × NewHold P (n + 1) cs

pub each_added : (P : Key → Entry → Type 0) (x : TableValue) (cs : List Content) → Each x P → NewHold P x.next cs → Each (all_added x cs) P
each_added P x [] all new = all
each_added P x (c ∷ cs) all new = each_added P (added x c) cs (each_with P x (new_key (kind_of_content c) x.next) (Known New (Some c) None) all new.0) new.1

new_entries : (last n : ℕ) (cs : List Content) → 1 ≤ n → n + length cs ≤ last → AllByRecursion (λ c. fits c ≡ true) cs → NewHold (IsSoundEntry last) n cs
new_entries last n [] one high fit = tt
new_entries last n (c ∷ cs) one high fit =
    (new_entry last (new_key (kind_of_content c) n) c (omega (arith, one, high)) refl fit.0, new_entries last (n + 1) cs (omega arith) (omega (arith, high)) fit.1)

new_live : (u : TableValue) (n : ℕ) (cs : List Content) → AllByRecursion (RefersIn u) cs → NewHold (λ k e. LivesIn u e) n cs
new_live u n [] refs = tt
new_live u n (c ∷ cs) refs = (refs.0, new_live u (n + 1) cs refs.1)

-- New objects that fit keep a table sound where all that they refer to is there in the end.
pub all_added_sound : (t : TableValue) (cs : List Content) → IsSound t → AllByRecursion (λ c. fits c ≡ true) cs → AllByRecursion (RefersIn (all_added t cs)) cs → t.next + length cs ≤ 10 ^ 18 → IsSound (all_added t cs)
all_added_sound t cs s fit refs room =
    let u = all_added t cs in
    let next : u.next ≡ t.next + length cs = next_added t cs in
    record {
      entries = each_added (IsSoundEntry u.next) t cs (λ k e has. entry_more t.next u.next k e (omega (arith, next)) (s.entries k e has)) (new_entries u.next t.next cs s.number.0 (omega (arith, next)) fit);
      closed = each_added (λ k e. LivesIn u e) t cs (λ k e has r used. there_all t cs r (s.closed k e has r used)) (new_live u t.next cs refs);
      number = (let one = s.number.0 in omega (arith, next, one), omega (arith, next, room));
    }

pub number_room : (full : Bool) (next last : ℕ) → (full || nat_lt 1000000000000000000 next) ≡ false → next ≡ last → last ≤ 10 ^ 18
number_room full next last e is = let h : next ≤ 1000000000000000000 = ltb-false 1000000000000000000 next (second_false full _ e) in omega (arith, h, is)
