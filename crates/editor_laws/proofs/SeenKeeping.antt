-- A table is made of another entry by entry: what that asks of one entry, and that changes keep it.
use Rattle.std.proofs.Common.{◌≡◌, ℕ, Bool, true, false, cond, List, [], ◌∷◌, Option, Some, None, refl, sym, ap, ◌∙◌, subst}
use Rattle.std.proofs.lemmas.Bool.{or_right, or_left}
use Rattle.std.specs.List.{AllByRecursion, list_any}
use Rattle.std.specs.Option.{option_map, option_and_then}
use Rattle.osm_base.specs.Rank.{is_key}
use Rattle.osm_base.specs.Content.{kind_of_content, refers, refs_of}
use Rattle.osm_base.specs.declared.key.Key.{Key}
use Rattle.osm_base.specs.declared.key.Kind.{Kind}
use Rattle.osm_base.specs.declared.content.Content.{Content}
use Rattle.osm_base.proofs.RisingKeys.{one_key, key_itself}
use Rattle.osm_base.proofs.Lists.{all_at}
use Rattle.osm_table.specs.declared.entry.Base.{Base}
use Rattle.osm_table.specs.declared.entry.Base.TheVariants.{New, Live, Gone}
use Rattle.osm_table.specs.declared.entry.Entry.{Entry}
use Rattle.osm_table.specs.declared.entry.Entry.TheVariants.{Incomplete, Known}
use Rattle.osm_table.specs.Table.{TableValue, entry_of, mine_of, held_by, is_new, IfContent}
use Rattle.osm_table.proofs.Each.{get_with}
use Rattle.tool_api.specs.Checks.{is_named}
use Rattle.tool_api.specs.Changes.{changed, content_of, with_mine, deleted, edit, delete, new_key, added, all_added}
use Rattle.tool_api.proofs.Looks.{entry_changed}
use Rattle.upload_order.specs.Rename.{is_positive}
use Rattle.editor_laws.specs.Bases.{HasSide, KeepsSides, Mentions, has_key, mine_refers, side_refers, KeepsBases}

-- if a server gave the key's id, the table mentions the key
abbrev pub IsSeen : TableValue → Key → Type 0
IsSeen t k = is_positive k.id ≡ true → Mentions t k

-- so of each reference of a content
abbrev pub RefersSeen : TableValue → Content → Type 0
RefersSeen t c = AllByRecursion (IsSeen t) (refs_of c)

-- What another table may have under a key: bases and theirs that the table has there, a key that is seen, and references
-- that are.
pub record IsFrom (t : TableValue) (k : Key) (o : Option Entry) : Type 0 where
  pub sides : KeepsSides (entry_of t k) o
  pub key : (e : Entry) → o ≡ Some e → IsSeen t k
  pub refs : IfContent (option_and_then mine_of o) (RefersSeen t)

pub record AllFrom (t u : TableValue) : Type 0 where
  pub at : (k : Key) → IsFrom t k (entry_of u k)

pub all_named : (P : Key → Type 0) (ks : List Key) → ((r : Key) → list_any (is_key r) ks ≡ true → P r) → AllByRecursion P ks
all_named P [] h = tt
all_named P (k ∷ ks) h = (h k (or_left (is_key k k) (list_any (is_key k) ks) (key_itself k)), all_named P ks (λ r e. h r (or_right (is_key r k) (list_any (is_key r) ks) e)))

-- Of a table itself.

mine_case : (t : TableValue) (k : Key) (o : Option Content) → content_of t k ≡ o → IfContent o (RefersSeen t)
mine_case t k None is = tt
mine_case t k (Some c) is = all_named (IsSeen t) (refs_of c) (λ r e p. mine_refers k c is e)

pub mine_seen : (t : TableValue) (k : Key) → IfContent (content_of t k) (RefersSeen t)
mine_seen t k = mine_case t k (content_of t k) refl

side_case : (t : TableValue) (k : Key) (b : Base) (o : Option Content) → HasSide (entry_of t k) b → held_by b ≡ o → IfContent o (RefersSeen t)
side_case t k b None has is = tt
side_case t k b (Some c) has is = all_named (IsSeen t) (refs_of c) (λ r e p. side_refers k b c has is e)

pub side_seen : (t : TableValue) (k : Key) (b : Base) → HasSide (entry_of t k) b → IfContent (held_by b) (RefersSeen t)
side_seen t k b has = side_case t k b (held_by b) has refl

itself : (t : TableValue) (k : Key) → IsFrom t k (entry_of t k)
itself t k = record { sides = λ b n h. h; key = λ e is p. has_key e is; refs = mine_seen t k }

pub from_entry : (t : TableValue) (k : Key) (o : Option Entry) → entry_of t k ≡ o → IsFrom t k o
from_entry t k o is = subst (IsFrom t k) is (itself t k)

pub all_itself : (t : TableValue) → AllFrom t t
all_itself t = record { at = itself t }

-- What is made of a table entry by entry keeps its bases.

-- what holds a content isn't New
pub not_new : (b : Base) (c : Content) → held_by b ≡ Some c → is_new b ≡ false
not_new New c e = cc
not_new (Live version content meta) c e = refl
not_new (Gone version meta) c e = refl

by_content : (t : TableValue) (o : Option Content) (c : Content) (r : Key) → IfContent o (RefersSeen t) → o ≡ Some c → refers c r ≡ true → IsSeen t r
by_content t None c r h is e = cc
by_content t (Some d) c r h is e = all_at (IsSeen t) (refs_of d) r h (let same : d ≡ c = cc in ap (λ (x : Content). refers x r) same ∙ e)

pub keeps_bases : (t u : TableValue) → AllFrom t u → KeepsBases t u
keeps_bases t u h = record { sides = λ k. (h.at k).sides; keys = mentioned }
  where
    mentioned : (k : Key) → is_positive k.id ≡ true → Mentions u k → Mentions t k
    mentioned k p (has_key e is) = (h.at k).key e is p
    mentioned k p (mine_refers user c is e) = by_content t (content_of u user) c k (h.at user).refs is e p
    mentioned k p (side_refers user b c has held e) = side_refers user b c ((h.at user).sides b (not_new b c held) has) held e

-- Entries.

edit_side : (f : Content → Content) (o : Option Entry) → KeepsSides o (option_map (with_mine f) o)
edit_side f None b n h = h
edit_side f (Some Incomplete) b n h = h
edit_side f (Some (Known base mine None)) b n h = h
edit_side f (Some (Known base mine (Some c))) b n h = h

edited_from : (t : TableValue) (k : Key) (f : Content → Content) (o : Option Entry) → ((c : Content) → RefersSeen t c → RefersSeen t (f c)) → IsFrom t k o → IsFrom t k (option_map (with_mine f) o)
edited_from t k f None refs h = h
edited_from t k f (Some Incomplete) refs h = h
edited_from t k f (Some (Known base None conflict)) refs h = h
edited_from t k f (Some (Known base (Some c) conflict)) refs h = record {
  sides = λ b n s. h.sides b n (edit_side f (Some (Known base (Some c) conflict)) b n s);
  key = λ e is. h.key (Known base (Some c) conflict) refl;
  refs = refs c h.refs;
}

delete_side : (o : Option Entry) → KeepsSides o (option_and_then deleted o)
delete_side None b n h = h
delete_side (Some Incomplete) b n h = h
delete_side (Some (Known New mine conflict)) b n h = absurd h
delete_side (Some (Known (Live v c m) mine None)) b n h = h
delete_side (Some (Known (Live v c m) mine (Some x))) b n h = h
delete_side (Some (Known (Gone v m) mine None)) b n h = h
delete_side (Some (Known (Gone v m) mine (Some x))) b n h = h

none_from : (t : TableValue) (k : Key) → IsFrom t k None
none_from t k = record { sides = λ b n h. absurd h; key = λ e is. cc; refs = tt }

pub incomplete_from : (t : TableValue) (k : Key) → IsSeen t k → IsFrom t k (Some Incomplete)
incomplete_from t k seen = record { sides = λ b n h. absurd h; key = λ e is. seen; refs = tt }

deleted_from : (t : TableValue) (k : Key) (o : Option Entry) → IsFrom t k o → IsFrom t k (option_and_then deleted o)
deleted_from t k None h = h
deleted_from t k (Some Incomplete) h = h
deleted_from t k (Some (Known New mine conflict)) h = none_from t k
deleted_from t k (Some (Known (Live v c m) mine conflict)) h = record {
  sides = λ b n s. h.sides b n (delete_side (Some (Known (Live v c m) mine conflict)) b n s);
  key = λ e is. h.key (Known (Live v c m) mine conflict) refl;
  refs = tt;
}
deleted_from t k (Some (Known (Gone v m) mine conflict)) h = record {
  sides = λ b n s. h.sides b n (delete_side (Some (Known (Gone v m) mine conflict)) b n s);
  key = λ e is. h.key (Known (Gone v m) mine conflict) refl;
  refs = tt;
}

pub purged_from : (t : TableValue) (k : Key) (b : Bool) → IsSeen t k → IsFrom t k (cond b (Some Incomplete) None)
purged_from t k true seen = incomplete_from t k seen
purged_from t k false seen = none_from t k

negative : (k : Key) (kind : Kind) (n : ℕ) → k ≡ new_key kind n → is_positive k.id ≡ false
negative k kind n e = ap (λ (j : Key). is_positive j.id) e

new_from : (t : TableValue) (k : Key) (c : Content) → is_positive k.id ≡ false → RefersSeen t c → IsFrom t k (Some (Known New (Some c) None))
new_from t k c neg refs = record { sides = λ b n h. (let x = ap is_new h in cc); key = λ e is p. cc; refs = refs }

-- Tables.

either_from : (t : TableValue) (k : Key) (b : Bool) (o p : Option Entry) → (b ≡ true → IsFrom t k o) → IsFrom t k p → IsFrom t k (cond b o p)
either_from t k true o p h i = h refl
either_from t k false o p h i = i

pub changed_from : (t u : TableValue) (g : Key → Option Entry) (ks : List Key) → AllFrom t u → ((k : Key) → is_named ks k ≡ true → IsFrom t k (g k)) → AllFrom t (changed u g ks)
changed_from t u g ks h i = record {
  at = λ k. subst (IsFrom t k) (sym (entry_changed u g ks k)) (either_from t k (is_named ks k) (g k) (entry_of u k) (i k) (h.at k));
}

pub edits_from : (t u : TableValue) (f : Content → Content) (ks : List Key) → AllFrom t u → ((c : Content) → RefersSeen t c → RefersSeen t (f c)) → AllFrom t (changed u (edit t f) ks)
edits_from t u f ks h refs = changed_from t u (edit t f) ks h (λ k named. edited_from t k f (entry_of t k) refs (itself t k))

pub deletes_from : (t u : TableValue) (ks : List Key) → AllFrom t u → AllFrom t (changed u (delete t) ks)
deletes_from t u ks h = changed_from t u (delete t) ks h (λ k named. deleted_from t k (entry_of t k) (itself t k))

pub added_from : (t u : TableValue) (c : Content) → RefersSeen t c → AllFrom t u → AllFrom t (added u c)
added_from t u c refs h = record {
  at = λ k. subst (IsFrom t k) (sym (get_with u (new_key (kind_of_content c) u.next) (Known New (Some c) None) k))
      (either_from t k (is_key k (new_key (kind_of_content c) u.next)) (Some (Known New (Some c) None)) (entry_of u k)
      (λ is. new_from t k c (negative k (kind_of_content c) u.next (one_key k (new_key (kind_of_content c) u.next) is)) refs) (h.at k));
}

pub all_added_from : (t u : TableValue) (cs : List Content) → AllByRecursion (RefersSeen t) cs → AllFrom t u → AllFrom t (all_added u cs)
all_added_from t u [] refs h = h
all_added_from t u (c ∷ cs) refs h = all_added_from t (added u c) cs refs.1 (added_from t u c refs.0 h)
