-- Deleting what nothing else uses keeps a table sound.
use Rattle.std.proofs.Common.{◌≡◌, ℕ, Bool, true, false, cond, not, List, [], Option, Some, None, refl, sym, ap, ◌∙◌, subst}
use Rattle.std.proofs.lemmas.Bool.{not-false}
use Rattle.std.proofs.lemmas.Option.{same_Some}
use Rattle.std.specs.List.{find}
use Rattle.std.specs.Option.{option_and_then}
use Rattle.osm_base.specs.declared.key.Key.{Key}
use Rattle.osm_base.proofs.Tests.{by_bool, never}
use Rattle.osm_table.specs.declared.entry.Base.TheVariants.{New, Live, Gone}
use Rattle.osm_table.specs.declared.entry.Entry.{Entry}
use Rattle.osm_table.specs.declared.entry.Entry.TheVariants.{Incomplete, Known}
use Rattle.osm_table.specs.Table.{TableValue, entry_of, uses, users, Each, IsThere}
use Rattle.dataset.specs.Draft.{DraftValue, drafted}
use Rattle.dataset.specs.Sound.{IsSound, IsSoundEntry, IsNumber, LivesIn}
use Rattle.dataset.proofs.Changes.{deleted_entry}
use Rattle.tool_api.specs.declared.kinds.Kinds.TheVariants.{Any}
use Rattle.tool_api.specs.declared.refusal.Refusal.TheVariants.{InUse}
use Rattle.tool_api.specs.Checks.{is_named, first_of, list_tests, target_test, twice_test, use_test}
use Rattle.tool_api.specs.Changes.{changed, delete, deleted}
use Rattle.tool_api.specs.Gone.{delete_all}
use Rattle.tool_api.specs.declared.plan.Plan.TheVariants.{Change}
use Rattle.tool_api.specs.Planned.{Plans}
use Rattle.tool_api.proofs.Looks.{entry_changed}
use Rattle.tool_api.proofs.Passed.{Lives, lives, named_lives, both_none, passes, none_passes, none_in}
use Rattle.tool_api.proofs.Sounds.{each_changed, next_is}
use Rattle.tool_api.proofs.Named.{is_user}

-- What is left of a deleted entry.

-- is sound by itself
pub left_sound : (n : ℕ) (k : Key) (x e : Entry) → Lives x → deleted x ≡ Some e → IsSoundEntry n k x → IsSoundEntry n k e
left_sound n k x e (lives New c) is s = cc
left_sound n k x e (lives (Live v d m) c) is s = subst (IsSoundEntry n k) (same_Some _ e is) (deleted_entry n k (Live v d m) (Some c) None refl s)
left_sound n k x e (lives (Gone v m) c) is s = subst (IsSoundEntry n k) (same_Some _ e is) (deleted_entry n k (Gone v m) (Some c) None refl s)

-- and refers to nothing
pub left_refers : (x e : Entry) (r : Key) → deleted x ≡ Some e → uses e r ≡ false
left_refers Incomplete e r is = ap (λ y. uses y r) (sym (same_Some Incomplete e is))
left_refers (Known New mine conflict) e r is = cc
left_refers (Known (Live v d m) mine conflict) e r is = ap (λ y. uses y r) (sym (same_Some _ e is))
left_refers (Known (Gone v m) mine conflict) e r is = ap (λ y. uses y r) (sym (same_Some _ e is))

pub left_from : (P : Type 0) (e : Entry) (o : Option Entry) → option_and_then deleted o ≡ Some e → ((x : Entry) → o ≡ Some x → deleted x ≡ Some e → P) → P
left_from P e None has h = cc
left_from P e (Some x) has h = h x refl has

-- Users.

-- where the test of uses passed, each user is named
user_named : (t : TableValue) (named : List Key) (k r : Key) (e : Entry) → use_test t named r ≡ None → entry_of t k ≡ Some e → uses e r ≡ true → is_named named k ≡ true
user_named t named k r e free has used =
    not-false (is_named named k) (none_passes (λ u. not (is_named named u)) (users t r) k (none_in (find (λ u. not (is_named named u)) (users t r)) (λ by. InUse r by) free) (is_user t k r e has used))

-- Changed tables.

-- an entry after a change is a new one at a key that changed, or an old one elsewhere
pub either : (P : Type 0) (b : Bool) (new old : Option Entry) (e : Entry) → cond b new old ≡ Some e → (b ≡ true → new ≡ Some e → P) → (b ≡ false → old ≡ Some e → P) → P
either P true new old e has at elsewhere = at refl has
either P false new old e has at elsewhere = elsewhere refl has

-- what is there stays there where it doesn't change
unchanged_there : (b : Bool) (new old : Option Entry) → b ≡ false → IsThere old → IsThere (cond b new old)
unchanged_there true new old e h = cc
unchanged_there false new old e h = h

-- Delete.

closed_deleted : (t : TableValue) (ks : List Key) → IsSound t → first_of (use_test t ks) ks ≡ None → Each (changed t (delete t) ks) (λ k e. LivesIn (changed t (delete t) ks) e)
closed_deleted t ks s free k e has r used =
    either _ (is_named ks k) (delete t k) (entry_of t k) e (sym (entry_changed t (delete t) ks k) ∙ has)
    (λ named left. left_from _ e (entry_of t k) left (λ x old is. never (uses e r) used (left_refers x e r is)))
    (λ unnamed old. subst IsThere (sym (entry_changed t (delete t) ks r)) (unchanged_there (is_named ks r) (delete t r) (entry_of t r)
    (by_bool (is_named ks r) (λ gone. never (is_named ks k) (user_named t ks k r e (passes (use_test t ks) ks r free gone) old used) unnamed) (λ stays. stays))
    (s.closed k e old r used)))

delete_sound : (t : TableValue) (ks : List Key) → IsSound t → list_tests t Any ks ≡ None → first_of (use_test t ks) ks ≡ None → IsSound (changed t (delete t) ks)
delete_sound t ks s passed free =
    let live = λ (k : Key) (e : Entry) (named : is_named ks k ≡ true) (has : entry_of t k ≡ Some e). named_lives t Any ks k e (both_none (twice_test [] ks) (first_of (target_test t Any) ks) passed).1 named has in
    record {
      entries = next_is (λ n. Each (changed t (delete t) ks) (IsSoundEntry n)) t (delete t) ks
          (each_changed (IsSoundEntry t.next) t (delete t) ks s.entries
          (λ k e named left. left_from (IsSoundEntry t.next k e) e (entry_of t k) left (λ x has is. left_sound t.next k x e (live k x named has) is (s.entries k x has))));
      closed = closed_deleted t ks s free;
      number = next_is IsNumber t (delete t) ks s.number;
    }

-- a draft that deletes what passed the tests is the job's plan
pub delete_planned : (t : TableValue) (d : DraftValue) (ks named made : List Key) → IsSound t → list_tests t Any ks ≡ None → named ≡ ks → first_of (use_test t named) ks ≡ None → made ≡ []
    → drafted d t ≡ changed t (delete t) ks → Plans t (delete_all t ks) (Change d made)
delete_planned t d ks named made s passed set unused nil is =
    let free : first_of (use_test t ks) ks ≡ None = ap (λ (ns : List Key). first_of (use_test t ns) ks) (sym set) ∙ unused in
    (subst IsSound (sym is) (delete_sound t ks s passed free), rw (passed, free, nil, is) refl)
