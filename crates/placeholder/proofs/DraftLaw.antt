-- A draft that renames only the users in the table before all answers makes the confirmed table.
use Rattle.std.proofs.Common.{◌≡◌, ℤ, ◌||◌, Bool, true, false, cond, List, [], ◌∷◌, Option, Some, None, refl, sym, ◌∙◌, ap, inl, inr}
use Rattle.std.proofs.lemmas.Bool.{cases_Bool}
use Rattle.std.specs.Prelude.{T}
use Rattle.std.specs.Option.{option_map, option_map_or}
use Rattle.std.specs.FinMap as fin
use Rattle.osm_base.specs.Rank.{is_key}
use Rattle.osm_base.specs.RankLaws.{rank_total}
use Rattle.osm_base.specs.RisingKeys.{rises, is_in}
use Rattle.osm_base.specs.Content.{refers}
use Rattle.osm_base.specs.declared.key.Key.{Key}
use Rattle.osm_base.specs.declared.content.Content.{Content}
use Rattle.osm_base.proofs.RisingKeys.{one_key}
use Rattle.osm_base.proofs.Tests.{never}
use Rattle.osm_table.specs.declared.entry.Base.TheVariants.{New, Live, Gone}
use Rattle.osm_table.specs.declared.entry.Entry.{Entry}
use Rattle.osm_table.specs.declared.entry.Entry.TheVariants.{Incomplete, Known}
use Rattle.osm_table.specs.Table.{TableValue, entry_of, without_entry, mine_of, users, uses}
use Rattle.osm_table.proofs.Each.{get_with, same_table}
use Rattle.dataset.specs.Exact.{mine_at}
use Rattle.dataset.proofs.Listed.{user_uses, rises_users}
use Rattle.upload_order.specs.declared.change.Change.TheVariants.{Create}
use Rattle.upload_order.specs.Kinds.{held_of}
use Rattle.upload_order.specs.Refused.{is_open}
use Rattle.upload_order.specs.Rename.{with_id, is_positive}
use Rattle.renamed_content.specs.Renamed.{renamed}
use Rattle.upload_order.proofs.Keys.{head_once, rises_tail}
use Rattle.placeholder.specs.Confirmed.{moved, moved_entry, made_entry, confirmed}
use Rattle.placeholder.specs.Drafting.{with_mine, mine_moved_at, all_moved, made_from}
use Rattle.placeholder.proofs.LookUps.{made_at}

-- an entry that isn't in conflict, and whose base has no such reference
with_mine_is : (f : Key → Key) (e : Entry) → is_open e ≡ false → ((b : Content) → held_of e ≡ Some b → renamed f b ≡ b) → with_mine f e ≡ moved_entry f e
with_mine_is f Incomplete o h = refl
with_mine_is f (Known b m (Some d)) o h = cc
with_mine_is f (Known New m None) o h = refl
with_mine_is f (Known (Live v b x) m None) o h = ap (λ (c : Content). Known (Live v c x) (option_map (renamed f) m) None) (sym (h b refl))
with_mine_is f (Known (Gone v x) m None) o h = refl

-- and neither has mine
stays_is : (f : Key → Key) (e : Entry) → ((c : Content) → mine_of e ≡ Some c → renamed f c ≡ c) → with_mine f e ≡ e
stays_is f Incomplete h = refl
stays_is f (Known b None d) h = refl
stays_is f (Known b (Some c) d) h = ap (λ (x : Content). Known b (Some x) d) (h c refl)

module _ (f : Key → Key) where
  one_at : (u : TableValue) (x : Key) (o : Option Entry) → entry_of u x ≡ o → (j : Key) → entry_of (mine_moved_at f u x o) j ≡ cond (is_key j x) (option_map (with_mine f) o) (entry_of u j)
  one_at u x None e j = by_key (is_key j x) refl where
    by_key : (b : Bool) → is_key j x ≡ b → entry_of u j ≡ cond b None (entry_of u j)
    by_key true i = ap (entry_of u) (one_key j x i) ∙ e
    by_key false i = refl
  one_at u x (Some g) e j = get_with u x (with_mine f g) j

  all_at : (us : List Key) (u : TableValue) (j : Key) → T (rises us) → entry_of (all_moved f u us) j ≡ cond (is_in j us) (option_map (with_mine f) (entry_of u j)) (entry_of u j)
  all_at [] u j r = refl
  all_at (x ∷ xs) u j r =
      all_at xs (mine_moved_at f u x (entry_of u x)) j (rises_tail x xs r)
      ∙ by_key (is_key j x) (is_in j xs) refl refl where
        here : entry_of (mine_moved_at f u x (entry_of u x)) j ≡ cond (is_key j x) (option_map (with_mine f) (entry_of u x)) (entry_of u j)
        here = one_at u x (entry_of u x) refl j

        by_key : (b c : Bool) → is_key j x ≡ b → is_in j xs ≡ c
            → cond c (option_map (with_mine f) (entry_of (mine_moved_at f u x (entry_of u x)) j)) (entry_of (mine_moved_at f u x (entry_of u x)) j) ≡ cond (b || c) (option_map (with_mine f) (entry_of u j)) (entry_of u j)
        by_key true true i l = never (is_in j xs) l (ap (λ (y : Key). is_in y xs) (one_key j x i) ∙ head_once x xs r)
        by_key true false i l = here ∙ ap (λ b. cond b (option_map (with_mine f) (entry_of u x)) (entry_of u j)) i ∙ ap (λ (y : Key). option_map (with_mine f) (entry_of u y)) (sym (one_key j x i))
        by_key false true i l = ap (option_map (with_mine f)) (here ∙ ap (λ b. cond b (option_map (with_mine f) (entry_of u x)) (entry_of u j)) i)
        by_key false false i l = here ∙ ap (λ b. cond b (option_map (with_mine f) (entry_of u x)) (entry_of u j)) i

-- who refers to a placeholder did so before all answers
abbrev pub AreUsersOf : TableValue → TableValue → Type 0
AreUsersOf t u = (j r : Key) (e : Entry) → entry_of u j ≡ Some e → uses e r ≡ true → is_positive r.id ≡ false → is_in j (users t r) ≡ true

pub own_users : (t : TableValue) → AreUsersOf t t
own_users t j r e h x n = user_uses t r j ∙ ap (λ o. option_map_or (λ e. uses e r) o false) h ∙ x

rises_of : (t : TableValue) (k : Key) → T (rises (users t k))
rises_of t k = rises_users (λ e. uses e.1 k) (fin.entries t.entries) (fin.entries_sorted t.entries)

-- What is drafted for a Create is the confirmed table.
module _ (t u : TableValue) (k : Key) (p : ℤ) (c : Content) (negative : is_positive k.id ≡ false) (mine : mine_at (entry_of u k) ≡ Some c)
    (settled : (j : Key) (e : Entry) → entry_of u j ≡ Some e → is_open e ≡ false)
    (held : (j : Key) (e : Entry) (b : Content) → entry_of u j ≡ Some e → held_of e ≡ Some b → renamed (moved k p) b ≡ b)
    (free : (c : Content) → refers c k ≡ false → renamed (moved k p) c ≡ c) (from : AreUsersOf t u) where
  abbrev f : Key → Key
  f = moved k p

  uses_not : (e : Entry) (d : Content) → uses e k ≡ false → mine_of e ≡ Some d → refers d k ≡ false
  uses_not e d n h = sym (ap (λ o. option_map_or (λ c. refers c k) o false) h) ∙ n

  at_entry : (j : Key) (o : Option Entry) → entry_of u j ≡ o → cond (is_in j (users t k)) (option_map (with_mine f) o) o ≡ option_map (moved_entry f) o
  at_entry j None h = none_case (is_in j (users t k)) where
    none_case : (b : Bool) → cond {A = Option Entry} b None None ≡ None
    none_case true = refl
    none_case false = refl
  at_entry j (Some e) h = by_user (is_in j (users t k)) refl where
    same : with_mine f e ≡ moved_entry f e
    same = with_mine_is f e (settled j e h) (λ b m. held j e b h m)

    by_user : (b : Bool) → is_in j (users t k) ≡ b → cond b (Some (with_mine f e)) (Some e) ≡ Some (moved_entry f e)
    by_user true i = ap (λ (x : Entry). Some x) same
    by_user false i =
        let none : uses e k ≡ false = elim (cases_Bool (uses e k)) [ inl x ↦ never (is_in j (users t k)) (from j k e h x negative) i | inr x ↦ x ] in
        ap (λ (x : Entry). Some x) (sym (stays_is f e (λ d m. free d (uses_not e d none m))) ∙ same)

  pub drafted_made : made_from u k p (users t k) (mine_at (entry_of u k)) ≡ confirmed u (Create k c) p
  drafted_made =
      ap (made_from u k p (users t k)) mine
      ∙ same_table (made_from u k p (users t k) (Some c)) (confirmed u (Create k c) p) (λ j.
      get_with (without_entry (all_moved f u (users t k)) k) (with_id k p) (made_entry (renamed f c)) j
      ∙ ap (λ (o : Option Entry). cond (is_key j (with_id k p)) (Some (made_entry (renamed f c))) o)
      (fin.get-remove rank_total (all_moved f u (users t k)).entries k j
      ∙ ap (λ (o : Option Entry). cond (is_key j k) None o) (all_at f (users t k) u j (rises_of t k) ∙ at_entry j (entry_of u j) refl))
      ∙ sym (made_at u k c p j)) (next_same (users t k) u) where
        next_same : (us : List Key) (v : TableValue) → (all_moved f v us).next ≡ v.next
        next_same [] v = refl
        next_same (x ∷ xs) v = next_same xs (mine_moved_at f v x (entry_of v x)) ∙ one_next (entry_of v x) where
          one_next : (o : Option Entry) → (mine_moved_at f v x o).next ≡ v.next
          one_next None = refl
          one_next (Some e) = refl
