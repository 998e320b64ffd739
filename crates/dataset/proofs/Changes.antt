-- A sound table after one change: an entry set, taken away, made Incomplete, given another content, or new.
use Rattle.std.proofs.Common.{◌≡◌, ◌≤◌, ℕ, Bool, true, false, cond, Option, Some, None, refl, sym, ◌∙◌, ap, subst, IsTrue}
use Rattle.std.specs.Option.{option_map_or, unwrap_or}
use Rattle.std.specs.FinMap as fin
use Rattle.osm_base.specs.Rank.{rank_cmp, is_key}
use Rattle.osm_base.specs.RankLaws.{rank_total}
use Rattle.osm_base.specs.Content.{refers, fits, kind_of_content}
use Rattle.osm_base.specs.declared.key.Key.{Key}
use Rattle.osm_base.specs.declared.content.Content.{Content}
use Rattle.osm_table.specs.declared.entry.Base.{Base}
use Rattle.osm_table.specs.declared.entry.Base.TheVariants.{New, Live, Gone}
use Rattle.osm_table.specs.declared.entry.Conflict.{Conflict}
use Rattle.osm_table.specs.declared.entry.Entry.{Entry}
use Rattle.osm_table.specs.declared.entry.Entry.TheVariants.{Incomplete, Known}
use Rattle.osm_table.specs.Table.{TableValue, entry_of, with_entry, is_new, IsThere, IsPositive, uses}
use Rattle.osm_table.proofs.Each.{get_with, each_with, same_table}
use Rattle.dataset.specs.Patch.{placed}
use Rattle.dataset.specs.Draft.{DraftValue, drafted}
use Rattle.dataset.specs.Sound.{IsSound, IsSoundEntry, IsNumber, LivesIn, BaseFits, ConflictFits, IsGiven}
use Rattle.dataset.proofs.Looked.{get_placed}
use Rattle.dataset.proofs.Drafted.{get_drafted}
use Rattle.dataset.proofs.Kept.{entry_more}

-- Entries by themselves.

-- made Incomplete
pub incomplete_entry : (next : ℕ) (k : Key) → IsPositive k.id → IsSoundEntry next k Incomplete
incomplete_entry next k positive = record { id = positive; kinds = tt; server = tt; versions = tt; limits = λ changed. tt; conflict = tt }

-- new
pub new_entry : (next : ℕ) (k : Key) (c : Content) → IsGiven next k.id → kind_of_content c ≡ k.kind → IsTrue (fits c) → IsSoundEntry next k (Known New (Some c) None)
new_entry next k c given kind fit = record { id = (given, refl, refl); kinds = (tt, kind, tt); server = (tt, tt); versions = (tt, tt); limits = λ changed. fit; conflict = tt }

base_some : (n : ℕ) (k : Key) (base : Base) (mine : Option Content) (c : Content) (conflict : Option Conflict) → BaseFits n k base mine conflict → BaseFits n k base (Some c) conflict
base_some n k New mine c conflict h = (h.0, refl, h.2)
base_some n k (Live v d m) mine c conflict h = h
base_some n k (Gone v m) mine c conflict h = h

-- given another content, or one again
pub mine_entry : (n : ℕ) (k : Key) (base : Base) (mine : Option Content) (c : Content) (conflict : Option Conflict) → IsSoundEntry n k (Known base mine conflict) → kind_of_content c ≡ k.kind → IsTrue (fits c) → ConflictFits base (Some c) conflict → IsSoundEntry n k (Known base (Some c) conflict)
mine_entry n k base mine c conflict s kind fit why = record {
  id = base_some n k base mine c conflict s.id;
  kinds = (s.kinds.0, kind, s.kinds.2);
  server = s.server;
  versions = s.versions;
  limits = λ changed. fit;
  conflict = why;
}

base_none : (n : ℕ) (k : Key) (base : Base) (mine : Option Content) (conflict : Option Conflict) → is_new base ≡ false → BaseFits n k base mine conflict → BaseFits n k base None None
base_none n k New mine conflict known h = let f : true ≡ false = known in cc
base_none n k (Live v d m) mine conflict known h = h
base_none n k (Gone v m) mine conflict known h = h

-- deleted, where a server knows it
pub deleted_entry : (n : ℕ) (k : Key) (base : Base) (mine : Option Content) (conflict : Option Conflict) → is_new base ≡ false → IsSoundEntry n k (Known base mine conflict) → IsSoundEntry n k (Known base None None)
deleted_entry n k base mine conflict known s = record {
  id = base_none n k base mine conflict known s.id;
  kinds = (s.kinds.0, tt, tt);
  server = (s.server.0, tt);
  versions = (s.versions.0, tt);
  limits = λ changed. tt;
  conflict = tt;
}

-- Tables.

pub either_there : (b : Bool) (x y : Option Entry) → IsThere x → IsThere y → IsThere (cond b x y)
either_there true x y h g = h
either_there false x y h g = g

there_with : (t : TableValue) (k : Key) (e : Entry) (r : Key) → IsThere (Some e) → IsThere (entry_of t r) → IsThere (entry_of (with_entry t k e) r)
there_with t k e r here there = subst IsThere (sym (get_with t k e r)) (either_there (is_key r k) (Some e) (entry_of t r) here there)

-- an entry set that lives or is Incomplete
pub set_sound : (t : TableValue) (k : Key) (e : Entry) → IsSound t → IsSoundEntry t.next k e → IsThere (Some e) → ((r : Key) → IsTrue (uses e r) → IsThere (entry_of (with_entry t k e) r)) → IsSound (with_entry t k e)
set_sound t k e s own here lives = record {
  entries = each_with (IsSoundEntry t.next) t k e s.entries own;
  closed = each_with (λ j f. LivesIn (with_entry t k e) f) t k e (λ j f has r u. there_with t k e r here (s.closed j f has r u)) lives;
  number = s.number;
}

-- a new object, whose references are there
pub new_sound : (t : TableValue) (k : Key) (c : Content) → IsSound t → IsGiven t.next k.id → kind_of_content c ≡ k.kind → IsTrue (fits c) → ((r : Key) → IsTrue (refers c r) → IsThere (entry_of t r)) → IsSound (with_entry t k (Known New (Some c) None))
new_sound t k c s given kind fit there =
    set_sound t k (Known New (Some c) None) s (new_entry t.next k c given kind fit) refl (λ r u. there_with t k (Known New (Some c) None) r refl (there r u))

used_case : (o : Option Entry) (e : Entry) (k : Key) (b : Bool) → o ≡ Some e → b ≡ option_map_or (λ e. uses e k) o false → b ≡ false → uses e k ≡ false
used_case o e k b has is none = sym (ap (λ (x : Option Entry). option_map_or (λ e. uses e k) x false) has) ∙ sym is ∙ none

-- a number that rises
pub number_sound : (t : TableValue) (n : ℕ) → IsSound t → t.next ≤ n → IsNumber n → IsSound (record { entries = t.entries; next = n })
number_sound t n s more number = record {
  entries = λ k e has. entry_more t.next n k e more (s.entries k e has);
  closed = s.closed;
  number = number;
}

-- Drafts, one put at a time.

put_case : (b : Bool) (y : Option Entry) (f : Option (Option Entry)) (x : Option Entry) → unwrap_or (cond b (Some y) f) x ≡ cond b y (unwrap_or f x)
put_case true y f x = refl
put_case false y f x = refl

-- an empty draft leaves the entries
pub drafted_none : (n : ℕ) (t : TableValue) → drafted (record { puts = fin.empty; next = n }) t ≡ record { entries = t.entries; next = n }
drafted_none n t = same_table _ _
    (λ q. get_drafted (record { puts = fin.empty; next = n }) t q ∙ ap (λ (o : Option (Option Entry)). unwrap_or o (entry_of t q)) (fin.get-empty rank_cmp q)) refl

-- one put more changes one entry more
pub drafted_put : (d : DraftValue) (t : TableValue) (k : Key) (y : Option Entry) → drafted (record { puts = fin.insert d.puts k y; next = d.next }) t ≡ record { entries = placed (drafted d t).entries k y; next = d.next }
drafted_put d t k y = same_table _ _
    (λ q. get_drafted (record { puts = fin.insert d.puts k y; next = d.next }) t q ∙ ap (λ (o : Option (Option Entry)). unwrap_or o (entry_of t q)) (fin.get-insert rank_total d.puts k y q)
    ∙ put_case (is_key q k) y (fin.get d.puts q) (entry_of t q) ∙ ap (cond (is_key q k) y) (sym (get_drafted d t q)) ∙ sym (get_placed (drafted d t).entries k y q)) refl
