-- What a draft's table has once keys have entered.
use Rattle.std.proofs.Common.{◌≡◌, ◌||◌, ◌+◌, ◌<◌, ℕ, suc, Bool, true, false, cond, List, length, drop, get_or, Option, Some, None, refl, sym, ap, ◌∙◌, drop-cons, add-one}
use Rattle.std.specs.FinMap as fin
use Rattle.osm_base.specs.Rank.{is_key}
use Rattle.osm_base.proofs.RisingKeys.{one_key}
use Rattle.osm_base.specs.declared.key.Key.{Key}
use Rattle.osm_table.specs.declared.entry.Entry.{Entry}
use Rattle.osm_table.specs.declared.entry.Entry.TheVariants.{Incomplete}
use Rattle.osm_table.specs.Table.{TableValue, entry_of}
use Rattle.dataset.specs.Draft.{DraftValue, drafted}
use Rattle.tool_api.specs.Checks.{is_named}
use Rattle.tool_api.proofs.Looks.{put_placed, entry_placed}
use Rattle.conflict.specs.Settled.{entered}

pub entered_false : (o : Option Entry) → entered false o ≡ o
entered_false None = refl
entered_false (Some e) = refl

-- what a draft's table has after one put
pub put_at : (d e : DraftValue) (t : TableValue) (k : Key) (o : Option Entry) → e ≡ record { puts = fin.insert d.puts k o; next = d.next } → (q : Key) → entry_of (drafted e t) q ≡ cond (is_key q k) o (entry_of (drafted d t) q)
put_at d e t k o put q = ap (λ (y : DraftValue). entry_of (drafted y t) q) put ∙ ap (λ (u : TableValue). entry_of u q) (put_placed t d k o) ∙ entry_placed (drafted d t) k o q

-- one that isn't there enters
pub enters : (d e : DraftValue) (t : TableValue) (k : Key) → None ≡ entry_of (drafted d t) k → e ≡ record { puts = fin.insert d.puts k (Some Incomplete); next = d.next }
    → (q : Key) → entry_of (drafted e t) q ≡ entered (is_key q k) (entry_of (drafted d t) q)
enters d e t k none put q = put_at d e t k (Some Incomplete) put q ∙ by (is_key q k) refl
  where
    by : (a : Bool) → is_key q k ≡ a → cond a (Some Incomplete) (entry_of (drafted d t) q) ≡ entered a (entry_of (drafted d t) q)
    by true s = sym (ap (λ (j : Key). entered true (entry_of (drafted d t) j)) (one_key q k s) ∙ ap (entered true) (sym none))
    by false s = sym (entered_false (entry_of (drafted d t) q))

-- one that is there stays as it is
pub stays : (u : TableValue) (k : Key) (x : Entry) → Some x ≡ entry_of u k → (q : Key) → entry_of u q ≡ entered (is_key q k) (entry_of u q)
stays u k x at q = by (is_key q k) refl
  where
    by : (a : Bool) → is_key q k ≡ a → entry_of u q ≡ entered a (entry_of u q)
    by true s = let i = ap (entry_of u) (one_key q k s) ∙ sym at in i ∙ sym (ap (entered true) i)
    by false s = sym (entered_false (entry_of u q))

twice : (a b : Bool) (o : Option Entry) → entered b (entered a o) ≡ entered (a || b) o
twice true true None = refl
twice true false None = refl
twice false true None = refl
twice false false None = refl
twice a b (Some e) = refl

-- one key more of a loop: what is left to enter leads to the same
pub one_more : (u v w : TableValue) (ks : List Key) (i : ℕ) (none : Key) → i < length ks
    → ((q : Key) → entered (is_named (drop i ks) q) (entry_of v q) ≡ entered (is_named ks q) (entry_of u q))
    → ((q : Key) → entry_of w q ≡ entered (is_key q (get_or ks i none)) (entry_of v q))
    → (q : Key) → entered (is_named (drop (i + 1) ks) q) (entry_of w q) ≡ entered (is_named ks q) (entry_of u q)
one_more u v w ks i none lt before step q =
    let k = get_or ks i none in
    rw add-one (
    ap (entered (is_named (drop (suc i) ks) q)) (step q)
    ∙ twice (is_key q k) (is_named (drop (suc i) ks) q) (entry_of v q)
    ∙ sym (ap (λ (l : List Key). entered (is_named l q) (entry_of v q)) (drop-cons ks i none lt))
    ∙ before q
    )
