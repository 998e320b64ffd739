-- The table after an import is sound where it passes the tests.
use Rattle.std.proofs.Common.{◌≡◌, ◌||◌, ◌+◌, ◌≤◌, ℕ, Bool, true, false, cond, not, nat_lt, List, [], ◌∷◌, length, map, Option, Some, None, refl, sym, ap, ◌∙◌, subst, arith}
use Rattle.std.specs.List.{AllByRecursion}
use Rattle.std.specs.Option.{unwrap_or}
use Rattle.std.specs.FinMap as fin
use Rattle.std.proofs.lemmas.List.Folds.{list_any-append}
use Rattle.std.proofs.lemmas.Bool.{or_right, or_left}
use Rattle.osm_base.specs.Rank.{is_key}
use Rattle.osm_base.specs.Content.{refs_of, refers, kind_of_content}
use Rattle.osm_base.specs.declared.key.Key.{Key}
use Rattle.osm_table.specs.declared.entry.Entry.{Entry}
use Rattle.osm_table.specs.Table.{TableValue, entry_of, IsThere}
use Rattle.dataset.specs.Sound.{IsSound}
use Rattle.renamed_content.specs.Renamed.{renamed}
use Rattle.renamed_content.proofs.Refs.{renamed_kind, renamed_refers}
use Rattle.tool_api.specs.declared.new_objects.NewObject.{NewObject}
use Rattle.tool_api.specs.declared.refusal.Refusal.TheVariants.{Absent}
use Rattle.tool_api.specs.Checks.{is_named, first_of, when, ref_entry_test}
use Rattle.tool_api.specs.Changes.{new_key, added, all_added}
use Rattle.tool_api.specs.Closing.{closing_tests}
use Rattle.tool_api.specs.Import.{IsNewObject, file_keys, references, file_reference_test, new_key_of, key_named, new_contents, is_negative}
use Rattle.tool_api.proofs.Added.{RefersIn, next_added, there_all, at_added, fresh, new_fit, all_added_sound, number_room}
use Rattle.tool_api.proofs.Passed.{passes, passed_tests, keeps_fit, ref_there, passed_when}
use Rattle.import_tool.proofs.Naming.{named_kind, positive_none}

-- The new key of an object is there once all were added.
there_case : (P : Key → Type 0) (b : Bool) (k q : Key) (o : Option Key) (rest : Bool) → (b || rest) ≡ true → P k → (rest ≡ true → P (unwrap_or o q)) → P (unwrap_or (cond b (Some k) o) q)
there_case P true k q o rest e here there = here
there_case P false k q o rest e here there = there e

own_there : (f : Key → Key) (objects : List NewObject) (x : TableValue) (q : Key) → 1 ≤ x.next → is_named (file_keys objects) q ≡ true
    → IsThere (entry_of (all_added x (map (λ o. renamed f o.content) objects)) (key_named x.next objects q))
own_there f [] x q one e = let h : false ≡ true = e in cc
own_there f (o ∷ os) x q one e =
    let c = renamed f o.content in
    let u = all_added (added x c) (map (λ o. renamed f o.content) os) in
    let here : IsThere (entry_of u (new_key (kind_of_content o.content) x.next)) =
    subst (λ k. IsThere (entry_of u (new_key k x.next))) (renamed_kind f o.content) (subst IsThere (sym (at_added x c (map (λ o. renamed f o.content) os) one)) refl) in
    there_case (λ k. IsThere (entry_of u k)) (is_key q o.key) _ q (new_key_of (x.next + 1) os q) (is_named (file_keys os) q) e here (own_there f os (added x c) q (omega arith))

-- What passed its test is there under its new name.

passed_case : (P : Type 0) (negative own : Bool) (q : Key) (o : Option Entry) → cond negative (when (not own) (Absent q)) (ref_entry_test q o) ≡ None
    → (own ≡ true → P) → (negative ≡ false → IsThere o → P) → P
passed_case P true own q o e of_file of_table = of_file (passed_when own (Absent q) e)
passed_case P false own q o e of_file of_table = of_table refl (ref_there q o e)

module _ (t : TableValue) (objects : List NewObject) (are : AllByRecursion IsNewObject objects) (s : IsSound t)
    (passed : first_of (file_reference_test t (is_named (file_keys objects))) (references objects) ≡ None) where
  abbrev f : Key → Key
  f = key_named t.next objects

  abbrev u : TableValue
  u = all_added t (new_contents t.next objects)

  named_there : (q : Key) → is_named (references objects) q ≡ true → IsThere (entry_of u (f q))
  named_there q among =
      passed_case (IsThere (entry_of u (f q))) (is_negative q.id) (is_named (file_keys objects) q) q (entry_of t q)
      (passes (file_reference_test t (is_named (file_keys objects))) (references objects) q passed among)
      (own_there f objects t q s.number.0)
      (λ positive there. subst (λ (k : Key). IsThere (entry_of u k)) (sym (ap (λ (o : Option Key). unwrap_or o q) (positive_none t.next objects are q positive)))
      (there_all t (new_contents t.next objects) q there))

  each_refers : (os : List NewObject) → ((q : Key) → is_named (references os) q ≡ true → IsThere (entry_of u (f q))) → AllByRecursion (RefersIn u) (map (λ o. renamed f o.content) os)
  each_refers [] there = tt
  each_refers (o ∷ os) there = (
    renamed_refers f (named_kind t.next objects are) (λ (k : Key). IsThere (entry_of u k)) o.content
        (λ q used. there q (list_any-append (is_key q) (refs_of o.content) (references os) ∙ or_left (refers o.content q) (is_named (references os) q) used)),
    each_refers os (λ q among. there q (list_any-append (is_key q) (refs_of o.content) (references os) ∙ or_right (refers o.content q) (is_named (references os) q) among)),
  )

  pub import_sound : (limit : ℕ) → closing_tests t limit [] u ≡ None → IsSound u
  import_sound limit closed =
      let cs = new_contents t.next objects in
      all_added_sound t cs s
      (new_fit t u t cs refl s.number.0 (λ k m low. fresh t k m s low) (λ k e has. keeps_fit t u limit [] k e closed has))
      (each_refers objects named_there)
      (number_room (nat_lt limit (fin.len u.entries)) u.next (t.next + length cs) (passed_tests t u limit [] closed).room (next_added t cs))
