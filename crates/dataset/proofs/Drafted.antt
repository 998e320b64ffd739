-- The difference over the keys of a draft is the difference of the tables.
use Rattle.std.proofs.Common.{◌≡◌, ◌≢◌, ℕ, ◌||◌, Bool, true, false, cond, is_some, Option, Some, None, List, [], ◌∷◌, ◌++◌, refl, sym, ◌∙◌, ap, subst}
use Rattle.std.specs.Option.{unwrap_or, option_to_list}
use Rattle.std.specs.Prelude.{T}
use Rattle.std.specs.Ordering.{is_lt}
use Rattle.std.specs.List.{AllByRecursion}
use Rattle.std.specs.FinMap as fin
use Rattle.std.specs.FinMap.Entries.{find, below_all}
use Rattle.osm_base.specs.Rank.{rank_cmp, is_key}
use Rattle.osm_base.specs.declared.key.Key.{Key}
use Rattle.osm_base.proofs.ByRank.{rises_keys}
use Rattle.osm_table.specs.declared.entry.Entry.{Entry}
use Rattle.osm_table.specs.Table.{TableValue, entry_of}
use Rattle.osm_base.specs.RisingKeys.{marked, rises, is_in}
use Rattle.dataset.specs.Edit.{Edit}
use Rattle.dataset.specs.Patch.{Entries, PatchValue, IsDiff, keyed, in_order, edit_at}
use Rattle.dataset.specs.Draft.{DraftValue, DiffOver, IsEditOf, overlaid, drafted}
use Rattle.osm_base.proofs.RisingKeys.{one_key}
use Rattle.osm_base.proofs.Tests.{both_T, first_T, second_T, none_from_test, by_bool}
use Rattle.dataset.proofs.Looked.{get_placed}

over_case : (b : Bool) (o : Option Entry) (f : Option (Option Entry)) (x : Option Entry) → cond b o (unwrap_or f x) ≡ unwrap_or (cond b (Some o) f) x
over_case true o f x = refl
over_case false o f x = refl

get_overlaid : (es : List (Key × Option Entry)) (m : Entries) (q : Key) → fin.get (overlaid es m) q ≡ unwrap_or (find rank_cmp q es) (fin.get m q)
get_overlaid [] m q = refl
get_overlaid (e ∷ es) m q = get_placed (overlaid es m) e.0 e.1 q ∙ ap (cond (is_key q e.0) e.1) (get_overlaid es m q) ∙ over_case (is_key q e.0) e.1 (find rank_cmp q es) (fin.get m q)

pub get_drafted : (d : DraftValue) (t : TableValue) (q : Key) → entry_of (drafted d t) q ≡ unwrap_or (fin.get d.puts q) (entry_of t q)
get_drafted d t q = get_overlaid (fin.entries d.puts) t.entries q ∙ ap (λ (o : Option (Option Entry)). unwrap_or o (entry_of t q)) (sym (fin.get-entries d.puts q))

-- one key more at the end
pub more_alike : (t u : TableValue) (ks : List Key) (es : List Edit) (k : Key) → DiffOver t u ks es → entry_of t k ≡ entry_of u k → DiffOver t u (ks ++ k ∷ []) es
more_alike t u ks es k DiffOver.done e = DiffOver.alike k [] [] e DiffOver.done
more_alike t u ks es k (DiffOver.alike j js fs f d) e = DiffOver.alike j (js ++ k ∷ []) fs f (more_alike t u js fs k d e)
more_alike t u ks es k (DiffOver.other j js fs f d) e = DiffOver.other j (js ++ k ∷ []) fs f (more_alike t u js fs k d e)

pub more_other : (t u : TableValue) (ks : List Key) (es : List Edit) (k : Key) → DiffOver t u ks es → entry_of t k ≢ entry_of u k → DiffOver t u (ks ++ k ∷ []) (es ++ record { key = k; before = entry_of t k; after = entry_of u k } ∷ [])
more_other t u ks es k DiffOver.done e = DiffOver.other k [] [] e DiffOver.done
more_other t u ks es k (DiffOver.alike j js fs f d) e = DiffOver.alike j (js ++ k ∷ []) (fs ++ record { key = k; before = entry_of t k; after = entry_of u k } ∷ []) f (more_other t u js fs k d e)
more_other t u ks es k (DiffOver.other j js fs f d) e = DiffOver.other j (js ++ k ∷ []) (fs ++ record { key = k; before = entry_of t k; after = entry_of u k } ∷ []) f (more_other t u js fs k d e)

-- what it is at the end
below_over : (t u : TableValue) (k : Key) (ks : List Key) (es : List Edit) → DiffOver t u ks es → T (below_all rank_cmp k (marked ks)) → T (below_all rank_cmp k (keyed es))
below_over t u k ks es DiffOver.done h = tt
below_over t u k ks es (DiffOver.alike j js fs f d) h = below_over t u k js fs d (second_T (is_lt (rank_cmp k j)) _ h)
below_over t u k ks es (DiffOver.other j js fs f d) h = both_T _ _ (first_T (is_lt (rank_cmp k j)) _ h) (below_over t u k js fs d (second_T (is_lt (rank_cmp k j)) _ h))

pub order_over : (t u : TableValue) (ks : List Key) (es : List Edit) → DiffOver t u ks es → T (rises ks) → T (in_order es)
order_over t u ks es DiffOver.done h = tt
order_over t u ks es (DiffOver.alike j js fs f d) h = order_over t u js fs d (second_T (below_all rank_cmp j (marked js)) _ h)
order_over t u ks es (DiffOver.other j js fs f d) h = both_T _ _ (below_over t u j js fs d (first_T (below_all rank_cmp j (marked js)) _ h)) (order_over t u js fs d (second_T (below_all rank_cmp j (marked js)) _ h))

pub changes_over : (t u : TableValue) (ks : List Key) (es : List Edit) → DiffOver t u ks es → AllByRecursion (λ e. e.before ≢ e.after) es
changes_over t u ks es DiffOver.done = tt
changes_over t u ks es (DiffOver.alike j js fs f d) = changes_over t u js fs d
changes_over t u ks es (DiffOver.other j js fs f d) = (f, changes_over t u js fs d)

pub before_over : (t u : TableValue) (ks : List Key) (es : List Edit) → DiffOver t u ks es → AllByRecursion (λ e. entry_of t e.key ≡ e.before) es
before_over t u ks es DiffOver.done = tt
before_over t u ks es (DiffOver.alike j js fs f d) = before_over t u js fs d
before_over t u ks es (DiffOver.other j js fs f d) = (refl, before_over t u js fs d)

pub after_over : (t u : TableValue) (ks : List Key) (es : List Edit) → DiffOver t u ks es → AllByRecursion (λ e. entry_of u e.key ≡ e.after) es
after_over t u ks es DiffOver.done = tt
after_over t u ks es (DiffOver.alike j js fs f d) = after_over t u js fs d
after_over t u ks es (DiffOver.other j js fs f d) = (refl, after_over t u js fs d)

alike_case : (t u : TableValue) (q j : Key) (b : Bool) (r : Bool) → is_key q j ≡ b → entry_of t j ≡ entry_of u j → (r ≡ true → entry_of t q ≡ entry_of u q) → (b || r) ≡ true → entry_of t q ≡ entry_of u q
alike_case t u q j true r e f rest h = ap (entry_of t) (one_key q j e) ∙ f ∙ sym (ap (entry_of u) (one_key q j e))
alike_case t u q j false r e f rest h = rest h

other_case : (P : Type 0) (b r : Bool) (e : Edit) (o : Option Edit) → cond b (Some e) o ≡ None → (b || r) ≡ true → (o ≡ None → r ≡ true → P) → P
other_case P true r e o n h rest = let f : true ≡ false = ap is_some n in cc
other_case P false r e o n h rest = rest n h

pub rest_over : (t u : TableValue) (ks : List Key) (es : List Edit) → DiffOver t u ks es → (q : Key) → edit_at q es ≡ None → is_in q ks ≡ true → entry_of t q ≡ entry_of u q
rest_over t u ks es DiffOver.done q n h = cc
rest_over t u ks es (DiffOver.alike j js fs f d) q n h = alike_case t u q j (is_key q j) (is_in q js) refl f (rest_over t u js fs d q n) h
rest_over t u ks es (DiffOver.other j js fs f d) q n h = other_case _ (is_key q j) (is_in q js) (record { key = j; before = entry_of t j; after = entry_of u j }) (edit_at q fs) n h (rest_over t u js fs d q)

-- the difference over all keys of the draft
pub whole : (d : DraftValue) (t : TableValue) (ks : List Key) (es : List Edit) → ks ≡ fin.keys d.puts → DiffOver t (drafted d t) ks es → IsDiff t (drafted d t) (record { edits = es; next_before = t.next; next_after = d.next })
whole d t ks es keys over =
    let order : T (rises ks) = subst (λ (js : List Key). T (rises js)) (sym keys) (rises_keys d.puts) in
    record {
      patch = record { by_rank = order_over t (drafted d t) ks es over order; changes = changes_over t (drafted d t) ks es over };
      before = record { entries = before_over t (drafted d t) ks es over; number = refl };
      after = record { entries = after_over t (drafted d t) ks es over; number = refl };
      rest = λ q none. by_bool (is_in q ks) (rest_over t (drafted d t) ks es over q none)
          (λ out. sym (get_drafted d t q ∙ ap (λ (o : Option (Option Entry)). unwrap_or o (entry_of t q)) (none_from_test (fin.get d.puts q) (fin.contains_key-keys d.puts q ∙ sym (ap (is_in q) keys) ∙ out))));
    }

append_nil : {A : Type 0} (xs : List A) → xs ++ [] ≡ xs
append_nil [] = refl
append_nil {A = A} (x ∷ xs) = ap (λ (ys : List A). x ∷ ys) (append_nil xs)

-- one step of the code
edit_step : (d : DraftValue) (t : TableValue) (k : Key) (after : Option Entry) (o : Option Edit) (ks : List Key) (es : List Edit) → fin.get d.puts k ≡ Some after → IsEditOf (entry_of t k) k after o → DiffOver t (drafted d t) ks es → DiffOver t (drafted d t) (ks ++ k ∷ []) (es ++ option_to_list o)
edit_step d t k after None ks es there is over =
    let now : entry_of (drafted d t) k ≡ after = get_drafted d t k ∙ ap (λ (o : Option (Option Entry)). unwrap_or o (entry_of t k)) there in
    subst (λ (fs : List Edit). DiffOver t (drafted d t) (ks ++ k ∷ []) fs) (sym (append_nil es)) (more_alike t (drafted d t) ks es k over (is ∙ sym now))
edit_step d t k after (Some e) ks es there is over =
    let now : entry_of (drafted d t) k ≡ after = get_drafted d t k ∙ ap (λ (o : Option (Option Entry)). unwrap_or o (entry_of t k)) there in
    let same : e ≡ record { key = k; before = entry_of t k; after = entry_of (drafted d t) k } = is.0 ∙ (λ i. record { key = k; before = entry_of t k; after = sym now i }) in
    subst (λ (f : Edit). DiffOver t (drafted d t) (ks ++ k ∷ []) (es ++ f ∷ [])) (sym same) (more_other t (drafted d t) ks es k over (λ x. is.1 (x ∙ now)))

pub none_step : (d : DraftValue) (t : TableValue) (k : Key) (ks : List Key) (es : List Edit) → fin.get d.puts k ≡ None → DiffOver t (drafted d t) ks es → DiffOver t (drafted d t) (ks ++ k ∷ []) es
none_step d t k ks es gone over = more_alike t (drafted d t) ks es k over (sym (get_drafted d t k ∙ ap (λ (o : Option (Option Entry)). unwrap_or o (entry_of t k)) gone))

-- where what was found is pushed
pub found_step : (d : DraftValue) (t : TableValue) (k : Key) (after : Option Entry) (o : Option Edit) (ks : List Key) (es fs : List Edit) → fin.get d.puts k ≡ Some after → IsEditOf (entry_of t k) k after o → fs ≡ es ++ option_to_list o → DiffOver t (drafted d t) ks es → DiffOver t (drafted d t) (ks ++ k ∷ []) fs
found_step d t k after o ks es fs there is items over = subst (λ (gs : List Edit). DiffOver t (drafted d t) (ks ++ k ∷ []) gs) (sym items) (edit_step d t k after o ks es there is over)

-- an edit to what is the same
pub edit_to : (before : Option Entry) (k : Key) (after new : Option Entry) (o : Option Edit) → after ≡ new → IsEditOf before k after o → IsEditOf before k new o
edit_to before k after new o e is = subst (λ (a : Option Entry). IsEditOf before k a o) e is

pub whole_at : (d : DraftValue) (t t₀ : TableValue) (ks : List Key) (es : List Edit) (n m : ℕ) → t ≡ t₀ → ks ≡ fin.keys d.puts → DiffOver t (drafted d t) ks es → n ≡ t.next → m ≡ d.next → IsDiff t₀ (drafted d t₀) (record { edits = es; next_before = n; next_after = m })
whole_at d t t₀ ks es n m same keys over is_n is_m =
    subst (λ (x : TableValue). IsDiff x (drafted d x) (record { edits = es; next_before = n; next_after = m })) same
    (subst (λ (p : PatchValue). IsDiff t (drafted d t) p) (λ i. record { edits = es; next_before = sym is_n i; next_after = sym is_m i }) (whole d t ks es keys over))
