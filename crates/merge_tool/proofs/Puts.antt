-- One key more of a pass that puts entries.
use Rattle.std.proofs.Common.{◌≡◌, ◌||◌, ℕ, zero, suc, Bool, true, false, List, [], ◌∷◌, take, filter, slice_get, Option, Some, is_some, cond, refl, sym, ap, ◌∙◌}
use Rattle.std.specs.FinMap as fin
use Rattle.std.specs.Option.{option_map}
use Rattle.osm_base.specs.Rank.{is_key}
use Rattle.osm_base.proofs.RisingKeys.{one_key, key_itself}
use Rattle.osm_base.specs.declared.key.Key.{Key}
use Rattle.osm_table.specs.declared.entry.Entry.{Entry}
use Rattle.osm_table.specs.declared.entry.Entry.TheVariants.{Incomplete}
use Rattle.osm_table.specs.Table.{TableValue, entry_of}
use Rattle.dataset.specs.Draft.{DraftValue, drafted}
use Rattle.tool_api.proofs.Looks.{put_placed, entry_placed}
use Rattle.closure.specs.Closure.{has}
use Rattle.tool_api.specs.Staged.{lost_of, bared, back}
use Rattle.merge_tool.specs.Walks.{is_lost}
use Rattle.merge_tool.specs.Passes.{noted, is_there}
use Rattle.merge_tool.proofs.Appends.{has_taken}
use Rattle.job_laws.proofs.MergeStand.{bared_none}
use Rattle.merge_tool.proofs.Bareds.{bared_lost, bared_gone, lost_bared, bared_twice, back_twice}

-- what a draft's table has after one put
pub put_at : (d e : DraftValue) (t : TableValue) (k : Key) (x : Entry) → e ≡ record { puts = fin.insert d.puts k (Some x); next = d.next } → (q : Key) → entry_of (drafted e t) q ≡ cond (is_key q k) (Some x) (entry_of (drafted d t) q)
put_at d e t k x put q = ap (λ (y : DraftValue). entry_of (drafted y t) q) put ∙ ap (λ (u : TableValue). entry_of u q) (put_placed t d k (Some x)) ∙ entry_placed (drafted d t) k (Some x) q

-- as a note
pub note_put : (d e : DraftValue) (t : TableValue) (k : Key) (o : Option Entry) (x : Entry) → e ≡ record { puts = fin.insert d.puts k (Some x); next = d.next } → o ≡ Some x → drafted e t ≡ noted (drafted d t) k o
note_put d e t k o x put is = ap (λ (y : DraftValue). drafted y t) put ∙ put_placed t d k (Some x) ∙ ap (noted (drafted d t) k) (sym is)

-- where the key is that which was put
at_one : (q k : Key) (b : Bool) (x : Option Entry) (f : Option Entry → Option Entry) (look : Key → Option Entry) → is_key q k ≡ b → x ≡ f (look k) → cond b x (look q) ≡ cond b (f (look q)) (look q)
at_one q k true x f look e is = is ∙ sym (ap (λ (j : Key). f (look j)) (one_key q k e))
at_one q k false x f look e is = refl

-- an entry that came from what was there
pub put_mapped : (d e : DraftValue) (t : TableValue) (k : Key) (x : Entry) (f : Option Entry → Option Entry) → e ≡ record { puts = fin.insert d.puts k (Some x); next = d.next } → Some x ≡ f (entry_of (drafted d t) k)
    → (q : Key) → entry_of (drafted e t) q ≡ cond (is_key q k) (f (entry_of (drafted d t) q)) (entry_of (drafted d t) q)
put_mapped d e t k x f put is q = put_at d e t k x put q ∙ at_one q k (is_key q k) (Some x) f (entry_of (drafted d t)) refl is

-- Names.

-- a name that is there, or was lost
pub name_stays : (u : TableValue) (k : Key) → bared true (entry_of u k) ≡ entry_of u k → (q : Key) → entry_of u q ≡ bared (is_key q k) (entry_of u q)
name_stays u k same q = by (is_key q k) refl
  where
    by : (b : Bool) → is_key q k ≡ b → entry_of u q ≡ bared b (entry_of u q)
    by true e = sym (ap (λ (j : Key). bared true (entry_of u j)) (one_key q k e) ∙ same ∙ sym (ap (entry_of u) (one_key q k e)))
    by false e = sym (bared_none (entry_of u q))

pub name_lost : (u : TableValue) (k : Key) (o : Option Entry) (b : Bool) → o ≡ entry_of u k → b ≡ is_some (lost_of o) → b ≡ true → (q : Key) → entry_of u q ≡ bared (is_key q k) (entry_of u q)
name_lost u k o b at is lost = name_stays u k (bared_lost true (entry_of u k) (sym (ap (λ (x : Option Entry). is_some (lost_of x)) at) ∙ sym is ∙ lost))

as_bared : (b : Bool) (o : Option Entry) → cond b (bared true o) o ≡ bared b o
as_bared true o = refl
as_bared false o = sym (bared_none o)

-- one that isn't there
pub name_enters : (d e : DraftValue) (t : TableValue) (k : Key) (x : Entry) (o : Option Entry) (a b : Bool) → x ≡ Incomplete → o ≡ entry_of (drafted d t) k → a ≡ is_there o → a ≡ false → b ≡ is_some (lost_of o) → b ≡ false
    → e ≡ record { puts = fin.insert d.puts k (Some x); next = d.next } → (q : Key) → entry_of (drafted e t) q ≡ bared (is_key q k) (entry_of (drafted d t) q)
name_enters d e t k x o a b new at is absent was gone put q =
    put_mapped d e t k x (bared true) put (ap Some new ∙ sym (ap (bared true) (sym at) ∙ bared_gone o (sym is ∙ absent) (sym was ∙ gone))) q
    ∙ as_bared (is_key q k) (entry_of (drafted d t) q)

-- one name more
pub named_more : (u v w : TableValue) (ks : List Key) (i : ℕ) (k : Key) → ((q : Key) → entry_of v q ≡ bared (has is_key (take i ks) q) (entry_of u q)) → slice_get ks i ≡ Some k → ((q : Key) → entry_of w q ≡ bared (is_key q k) (entry_of v q))
    → (q : Key) → entry_of w q ≡ bared (has is_key (take (suc i) ks) q) (entry_of u q)
named_more u v w ks i k before at step q =
    step q ∙ ap (bared (is_key q k)) (before q) ∙ bared_twice (is_key q k) (has is_key (take i ks) q) (entry_of u q)
    ∙ ap (λ b. bared b (entry_of u q)) (sym (has_taken ks i k q at))

-- names leave the lost ones as they are
pub still_lost : (u v : TableValue) (ks : List Key) (k : Key) → ((q : Key) → entry_of v q ≡ bared (has is_key ks q) (entry_of u q)) → filter (is_lost v) (k ∷ []) ≡ filter (is_lost u) (k ∷ [])
still_lost u v ks k before = ap (λ (b : Bool). cond b (k ∷ []) []) (ap (λ (o : Option Entry). is_some (lost_of o)) (before k) ∙ ap is_some (lost_bared (has is_key ks k) (entry_of u k)))

-- What comes back.

stepped : (f : Option Entry → Option Entry) (a b : Bool) (o : Option Entry) → f (f o) ≡ f o → cond b (f (cond a (f o) o)) (cond a (f o) o) ≡ cond (a || b) (f o) o
stepped f true true o e = e
stepped f true false o e = refl
stepped f false true o e = refl
stepped f false false o e = refl

-- one object more
pub brought_more : (u v w : TableValue) (ks : List Key) (i : ℕ) (k : Key) → ((q : Key) → entry_of v q ≡ cond (has is_key (take i ks) q) (option_map back (entry_of u q)) (entry_of u q)) → slice_get ks i ≡ Some k
    → ((q : Key) → entry_of w q ≡ cond (is_key q k) (option_map back (entry_of v q)) (entry_of v q)) → (q : Key) → entry_of w q ≡ cond (has is_key (take (suc i) ks) q) (option_map back (entry_of u q)) (entry_of u q)
brought_more u v w ks i k before at step q =
    step q ∙ ap (λ (o : Option Entry). cond (is_key q k) (option_map back o) o) (before q)
    ∙ stepped (option_map back) (has is_key (take i ks) q) (is_key q k) (entry_of u q) (back_twice (entry_of u q))
    ∙ ap (λ b. cond b (option_map back (entry_of u q)) (entry_of u q)) (sym (has_taken ks i k q at))

-- What goes.

set : (a b : Bool) (x o : Option Entry) → cond b x (cond a x o) ≡ cond (a || b) x o
set true true x o = refl
set true false x o = refl
set false true x o = refl
set false false x o = refl

pub gone_more : (f : Key → Option Entry) (u v w : TableValue) (ks : List Key) (i : ℕ) (k : Key) → ((q : Key) → entry_of v q ≡ cond (has is_key (take i ks) q) (f q) (entry_of u q)) → slice_get ks i ≡ Some k
    → ((q : Key) → entry_of w q ≡ cond (is_key q k) (f q) (entry_of v q)) → (q : Key) → entry_of w q ≡ cond (has is_key (take (suc i) ks) q) (f q) (entry_of u q)
gone_more f u v w ks i k before at step q =
    step q ∙ ap (cond (is_key q k) (f q)) (before q) ∙ set (has is_key (take i ks) q) (is_key q k) (f q) (entry_of u q)
    ∙ ap (λ b. cond b (f q) (entry_of u q)) (sym (has_taken ks i k q at))

-- one key is put
pub put_left : (f : Key → Option Entry) (d e : DraftValue) (t : TableValue) (k : Key) (x : Entry) → e ≡ record { puts = fin.insert d.puts k (Some x); next = d.next } → Some x ≡ f k
    → (q : Key) → entry_of (drafted e t) q ≡ cond (is_key q k) (f q) (entry_of (drafted d t) q)
put_left f d e t k x put is q = put_at d e t k x put q ∙ by (is_key q k) refl
  where
    by : (b : Bool) → is_key q k ≡ b → cond b (Some x) (entry_of (drafted d t) q) ≡ cond b (f q) (entry_of (drafted d t) q)
    by true e = is ∙ sym (ap f (one_key q k e))
    by false e = refl

has_at : (ks : List Key) (i : ℕ) (k : Key) → slice_get ks i ≡ Some k → has is_key ks k ≡ true
has_at [] i k e = cc
has_at (x ∷ xs) zero k e = let same : x ≡ k = cc in ap (λ (j : Key). is_key k j || has is_key xs k) same ∙ ap (λ b. b || has is_key xs k) (key_itself k)
has_at (x ∷ xs) (suc i) k e = ap (λ b. is_key k x || b) (has_at xs i k e) ∙ by (is_key k x)
  where
    by : (b : Bool) → (b || true) ≡ true
    by true = refl
    by false = refl

-- each item meets what all meet
pub each_at : (p : Key → Bool) (ks : List Key) (i : ℕ) (k : Key) → ((j : Key) → has is_key ks j ≡ true → p j ≡ true) → slice_get ks i ≡ Some k → p k ≡ true
each_at p ks i k all at = all k (has_at ks i k at)
