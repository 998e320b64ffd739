-- What a changed table has at a key, and the drafts that make it.
use Rattle.std.proofs.Common.{◌≡◌, ◌||◌, ◌+◌, ◌<◌, ℕ, suc, Bool, true, false, cond, List, [], ◌∷◌, length, drop, get_or, Option, Some, None, refl, sym, ap, ◌∙◌, drop-cons, add-one}
use Rattle.std.specs.FinMap as fin
use Rattle.osm_base.specs.Rank.{is_key}
use Rattle.osm_base.proofs.RisingKeys.{one_key}
use Rattle.osm_base.specs.declared.key.Key.{Key}
use Rattle.osm_table.specs.declared.entry.Entry.{Entry}
use Rattle.osm_table.specs.Table.{TableValue, entry_of}
use Rattle.osm_table.proofs.Each.{get_with, get_without}
use Rattle.dataset.specs.Draft.{DraftValue, drafted}
use Rattle.dataset.specs.Patch as patch
use Rattle.dataset.proofs.Changes.{drafted_none, drafted_put}
use Rattle.tool_api.specs.Checks.{is_named}
use Rattle.tool_api.specs.Changes.{placed, changed}

-- a table with one entry put in or taken out
pub entry_placed : (t : TableValue) (k : Key) (o : Option Entry) (q : Key) → entry_of (placed t k o) q ≡ cond (is_key q k) o (entry_of t q)
entry_placed t k None q = get_without t k q
entry_placed t k (Some e) q = get_with t k e q

pub next_placed : (t : TableValue) (k : Key) (o : Option Entry) → (placed t k o).next ≡ t.next
next_placed t k None = refl
next_placed t k (Some e) = refl

pub either : (g : Key → Option Entry) (q k : Key) (a b : Bool) (old : Option Entry) → is_key q k ≡ b → cond a (g q) (cond b (g k) old) ≡ cond (b || a) (g q) old
either g q k true true old e = refl
either g q k true false old e = refl
either g q k false true old e = sym (ap g (one_key q k e))
either g q k false false old e = refl

-- at each of the keys what g gives it, elsewhere what was there
pub entry_changed : (t : TableValue) (g : Key → Option Entry) (ks : List Key) (q : Key) → entry_of (changed t g ks) q ≡ cond (is_named ks q) (g q) (entry_of t q)
entry_changed t g [] q = refl
entry_changed t g (k ∷ ks) q =
    entry_changed (placed t k (g k)) g ks q
    ∙ ap (cond (is_named ks q) (g q)) (entry_placed t k (g k) q)
    ∙ either g q k (is_named ks q) (is_key q k) (entry_of t q) refl

pub next_changed : (t : TableValue) (g : Key → Option Entry) (ks : List Key) → (changed t g ks).next ≡ t.next
next_changed t g [] = refl
next_changed t g (k ∷ ks) = next_changed (placed t k (g k)) g ks ∙ next_placed t k (g k)

one_placed : (t : TableValue) (k : Key) (o : Option Entry) → record { entries = patch.placed t.entries k o; next = t.next } ≡ placed t k o
one_placed t k None = refl
one_placed t k (Some e) = refl

-- one put more in a draft is one change more of its table
pub put_placed : (t : TableValue) (d : DraftValue) (k : Key) (o : Option Entry) → drafted (record { puts = fin.insert d.puts k o; next = d.next }) t ≡ placed (drafted d t) k o
put_placed t d k o = drafted_put d t k o ∙ one_placed (drafted d t) k o

step : (t : TableValue) (g : Key → Option Entry) (ks : List Key) (i : ℕ) (none : Key) (d d₁ : DraftValue) (o : Option Entry) (u : TableValue)
    → i < length ks → o ≡ g (get_or ks i none) → d₁ ≡ record { puts = fin.insert d.puts (get_or ks i none) o; next = d.next }
    → changed (drafted d t) g (drop i ks) ≡ u → changed (drafted d₁ t) g (drop (suc i) ks) ≡ u
step t g ks i none d d₁ o u lt is put before =
    ap (λ x. changed (drafted x t) g (drop (suc i) ks)) put
    ∙ ap (λ x. changed x g (drop (suc i) ks)) (put_placed t d (get_or ks i none) o)
    ∙ ap (λ x. changed (placed (drafted d t) (get_or ks i none) x) g (drop (suc i) ks)) is
    ∙ sym (ap (changed (drafted d t) g) (drop-cons ks i none lt))
    ∙ before

-- a loop that puts what g gives each of the keys: what is left to do leads to the same table
pub one_more : (t : TableValue) (g : Key → Option Entry) (ks : List Key) (i : ℕ) (none : Key) (d d₁ : DraftValue) (o : Option Entry) (u : TableValue)
    → i < length ks → o ≡ g (get_or ks i none) → d₁ ≡ record { puts = fin.insert d.puts (get_or ks i none) o; next = d.next }
    → changed (drafted d t) g (drop i ks) ≡ u → changed (drafted d₁ t) g (drop (i + 1) ks) ≡ u
one_more t g ks i none d d₁ o u lt is put before = rw add-one (step t g ks i none d d₁ o u lt is put before)

-- changes that begin with an empty draft
pub from_none : (t : TableValue) (g : Key → Option Entry) (ks : List Key) (d d₁ : DraftValue) → d ≡ record { puts = fin.empty; next = t.next } → drafted d₁ t ≡ changed (drafted d t) g ks → drafted d₁ t ≡ changed t g ks
from_none t g ks d d₁ none is = is ∙ ap (λ (x : DraftValue). changed (drafted x t) g ks) none ∙ ap (λ (x : TableValue). changed x g ks) (drafted_none t.next t)
