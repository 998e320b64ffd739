-- Purging keeps a table sound.
use Rattle.std.proofs.Common.{◌≡◌, ℕ, Bool, true, false, cond, not, List, [], Option, Some, None, refl, sym, ap, ◌∙◌, subst}
use Rattle.std.proofs.lemmas.Bool.{not_from_false}
use Rattle.std.specs.List.{find}
use Rattle.osm_base.specs.declared.key.Key.{Key}
use Rattle.osm_base.proofs.Tests.{never}
use Rattle.osm_table.specs.declared.entry.Base.TheVariants.{New, Live, Gone}
use Rattle.osm_table.specs.declared.entry.Entry.{Entry}
use Rattle.osm_table.specs.declared.entry.Entry.TheVariants.{Incomplete, Known}
use Rattle.osm_table.specs.Table.{TableValue, entry_of, uses, users, Each, IsThere, IsPositive}
use Rattle.dataset.specs.Draft.{DraftValue, drafted}
use Rattle.dataset.specs.Sound.{IsSound, IsSoundEntry, IsNumber, LivesIn, IdFits}
use Rattle.dataset.proofs.Changes.{incomplete_entry}
use Rattle.tool_api.specs.declared.refusal.Refusal.TheVariants.{InUse}
use Rattle.tool_api.specs.declared.plan.Plan.TheVariants.{Change}
use Rattle.tool_api.specs.Checks.{is_named, first_of, twice_test, use_test, purge_entry_test, is_new}
use Rattle.tool_api.specs.Changes.{changed}
use Rattle.tool_api.specs.Gone.{is_used, purge}
use Rattle.tool_api.specs.Planned.{Plans}
use Rattle.tool_api.proofs.Looks.{entry_changed}
use Rattle.tool_api.proofs.Passed.{passes, none_in}
use Rattle.tool_api.proofs.Sounds.{each_changed, next_is}
use Rattle.tool_api.proofs.Named.{is_user}
use Rattle.tools_delete.specs.Purged.{new_use_test, purged}
use Rattle.tools_delete.proofs.Anys.{any_passes, none_any}
use Rattle.tools_delete.proofs.Deletes.{either}

-- where the test of uses passed, nothing else uses the key
not_used : (t : TableValue) (named : List Key) (k : Key) → use_test t named k ≡ None → is_used t named k ≡ false
not_used t named k free = none_any (λ u. not (is_named named u)) (users t k) (none_in (find (λ u. not (is_named named u)) (users t k)) (λ by. InUse k by) free)

-- a purged entry

used_case : (P : Type 0) (b : Bool) (e : Entry) → cond b (Some Incomplete) None ≡ Some e → (b ≡ true → Incomplete ≡ e → P) → P
used_case P true e is h = h refl cc
used_case P false e is h = cc

new_case : (t : TableValue) (named : List Key) (k : Key) (b : Bool) → cond b (use_test t named k) None ≡ None → b ≡ true → is_used t named k ≡ false
new_case t named k true free e = not_used t named k free
new_case t named k false free e = cc

positive_case : (n : ℕ) (k : Key) (o : Option Entry) (used : Bool) → ((e : Entry) → o ≡ Some e → IdFits n k e) → purge_entry_test k o ≡ None → (is_new o ≡ true → used ≡ false) → used ≡ true → IsPositive k.id
positive_case n k None used fits passed free used_now = cc
positive_case n k (Some Incomplete) used fits passed free used_now = fits Incomplete refl
positive_case n k (Some (Known New mine conflict)) used fits passed free used_now = never used used_now (free refl)
positive_case n k (Some (Known (Live v c m) mine conflict)) used fits passed free used_now = fits (Known (Live v c m) mine conflict) refl
positive_case n k (Some (Known (Gone v m) mine conflict)) used fits passed free used_now = fits (Known (Gone v m) mine conflict) refl

purged_there : (named used : Bool) (old : Option Entry) → (named ≡ true → used ≡ true) → IsThere old → IsThere (cond named (cond used (Some Incomplete) None) old)
purged_there true used old h there = subst (λ b. IsThere (cond b (Some Incomplete) None)) (sym (h refl)) tt
purged_there false used old h there = there

closed_purged : (t : TableValue) (ks : List Key) → IsSound t → Each (changed t (purged t ks) ks) (λ k e. LivesIn (changed t (purged t ks) ks) e)
closed_purged t ks s k e has r used =
    either _ (is_named ks k) (purged t ks k) (entry_of t k) e (sym (entry_changed t (purged t ks) ks k) ∙ has)
    (λ named left. used_case _ (is_used t ks k) e left (λ now is. never (uses e r) used (ap (λ x. uses x r) (sym is))))
    (λ unnamed old. subst IsThere (sym (entry_changed t (purged t ks) ks r)) (purged_there (is_named ks r) (is_used t ks r) (entry_of t r)
    (λ named. any_passes (λ u. not (is_named ks u)) k (users t r) (is_user t k r e old used) (not_from_false (is_named ks k) unnamed))
    (s.closed k e old r used)))

purge_sound : (t : TableValue) (ks : List Key) → IsSound t → first_of (λ k. purge_entry_test k (entry_of t k)) ks ≡ None → first_of (new_use_test t ks) ks ≡ None → IsSound (changed t (purged t ks) ks)
purge_sound t ks s passed free = record {
  entries = next_is (λ n. Each (changed t (purged t ks) ks) (IsSoundEntry n)) t (purged t ks) ks
      (each_changed (IsSoundEntry t.next) t (purged t ks) ks s.entries
      (λ k e named left. used_case _ (is_used t ks k) e left
      (λ now is. subst (IsSoundEntry t.next k) is (incomplete_entry t.next k
      (positive_case t.next k (entry_of t k) (is_used t ks k) (λ x has. (s.entries k x has).id) (passes (λ k. purge_entry_test k (entry_of t k)) ks k passed named)
      (new_case t ks k (is_new (entry_of t k)) (passes (new_use_test t ks) ks k free named)) now)))));
  closed = closed_purged t ks s;
  number = next_is IsNumber t (purged t ks) ks s.number;
}

-- a draft that purges what passed the tests is the job's plan
pub purge_planned : (t : TableValue) (d : DraftValue) (ks named made : List Key) → IsSound t → twice_test [] ks ≡ None → first_of (λ k. purge_entry_test k (entry_of t k)) ks ≡ None → named ≡ ks
    → first_of (new_use_test t named) ks ≡ None → made ≡ [] → drafted d t ≡ changed t (purged t named) ks → Plans t (purge t ks) (Change d made)
purge_planned t d ks named made s once passed set unused nil is =
    let free : first_of (new_use_test t ks) ks ≡ None = ap (λ (ns : List Key). first_of (new_use_test t ns) ks) (sym set) ∙ unused in
    let to : drafted d t ≡ changed t (purged t ks) ks = is ∙ ap (λ (ns : List Key). changed t (purged t ns) ks) set in
    (subst IsSound (sym to) (purge_sound t ks s passed free), rw (once, passed, free, nil, to) refl)
