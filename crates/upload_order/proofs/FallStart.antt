-- The steps down at the start, and by the bases of a table.
use Rattle.std.proofs.Common.{◌≡◌, ℕ, ◌+◌, ◌<◌, ◌||◌, Bool, true, false, cond, Option, Some, None, List, [], ◌∷◌, ◌++◌, length, refl, sym, ◌∙◌, ap, subst, arith}
use Rattle.std.proofs.lemmas.Bool.{or_right}
use Rattle.std.specs.Prelude.{T}
use Rattle.std.specs.Option.{option_map_or}
use Rattle.std.specs.List.{list_any}
use Rattle.std.specs.Cmp.{both_ways}
use Rattle.std.specs.FinMap as fin
use Rattle.osm_base.specs.declared.key.Key.{Key}
use Rattle.osm_base.specs.declared.content.Content.{Content}
use Rattle.osm_base.specs.Content.{refers, refs_of}
use Rattle.osm_base.specs.Rank.{is_key}
use Rattle.osm_base.specs.RisingKeys.{rises, is_in}
use Rattle.osm_base.proofs.RisingKeys.{key_itself}
use Rattle.osm_table.specs.Table.{TableValue, entry_of}
use Rattle.upload_order.specs.declared.down.Down.{Down}
use Rattle.upload_order.specs.declared.down.Down.TheVariants.{Remove}
use Rattle.upload_order.specs.Counts.{Counts, has, changed_all, one_less, put_all, put_where, raised_by}
use Rattle.upload_order.specs.Fall.{fall}
use Rattle.upload_order.specs.Kinds.{held_at, held_refs, held_refers}
use Rattle.osm_base.proofs.RankedKeys.{rises_ranked, named_ranked}
use Rattle.osm_base.proofs.Lists.{length-filter_le}
use Rattle.upload_order.proofs.Counted.{AreCounts}
use Rattle.upload_order.proofs.Starting.{counts_at_start, keys_at_start}
use Rattle.upload_order.proofs.FallSteps.{waits, can_clear, items}
use Rattle.upload_order.proofs.FallCounts.{any_alike, any_there, clearable_of}
use Rattle.upload_order.proofs.FallTurns.{Falls, put_filter}

is_case : (b : Bool) (p : Key → Bool) (k : Key) (ks : List Key) → p k ≡ b → (b || list_any p ks) ≡ true → (list_any p ks ≡ true → (j : Key) × (is_in j ks ≡ true) × (p j ≡ true)) → (j : Key) × (is_in j (k ∷ ks) ≡ true) × (p j ≡ true)
is_case true p k ks is h f = (k, ap (λ b. b || is_in k ks) (key_itself k), is)
is_case false p k ks is h f = let r = f h in (r.0, or_right (is_key r.0 k) (is_in r.0 ks) r.1, r.2)

any_is : (p : Key → Bool) (ks : List Key) → list_any p ks ≡ true → (k : Key) × (is_in k ks ≡ true) × (p k ≡ true)
any_is p [] h = cc
any_is p (k ∷ ks) h = is_case (p k) p k ks refl h (λ f. any_is p ks f)

meet : (xs ys : List Key) → list_any (λ r. is_in r xs) ys ≡ true → list_any (λ j. is_in j ys) xs ≡ true
meet xs ys h = let r = any_is (λ r. is_in r xs) ys h in any_there (λ j. is_in j ys) r.0 xs r.2 r.1

-- two lists have a key in common
meets : (xs ys : List Key) → list_any (λ r. is_in r xs) ys ≡ list_any (λ j. is_in j ys) xs
meets xs ys = both_ways _ _ (meet xs ys) (meet ys xs)

module _ (uses : Key → Key → Bool) (refs : Key → List Key) (refs_rise : (k : Key) → T (rises (refs k))) (refs_are : (k q : Key) → is_in q (refs k) ≡ uses k q) (ks : List Key) (up : T (rises ks)) where
  abbrev counts : Counts
  counts = raised_by refs (put_all fin.empty ks) ks

  at_start : fin.keys (raised_by refs (put_all fin.empty ks) ks) ≡ ks
  at_start = keys_at_start (λ q k. uses k q) refs (record { rise = refs_rise; are = refs_are }) ks up

  uses_one : (k : Key) → list_any (has (raised_by refs (put_all fin.empty ks) ks)) (refs k) ≡ can_clear uses [] ks k
  uses_one k =
      any_alike (has (raised_by refs (put_all fin.empty ks) ks)) (λ r. is_in r ks) (refs k)
      (λ r. fin.contains_key-keys (raised_by refs (put_all fin.empty ks) ks) r ∙ ap (is_in r) at_start)
      ∙ meets ks (refs k) ∙ any_alike (λ j. is_in j (refs k)) (uses k) ks (λ j. refs_are k j)

  pub falls_start : Falls uses ks (raised_by refs (put_all fin.empty ks) ks) (put_where (λ k. list_any (has (raised_by refs (put_all fin.empty ks) ks)) (refs k)) [] ks) [] []
  falls_start =
      let listed : put_where (λ k. list_any (has (raised_by refs (put_all fin.empty ks) ks)) (refs k)) [] ks ≡ clearable_of uses [] ks =
      put_filter (λ k. list_any (has (raised_by refs (put_all fin.empty ks) ks)) (refs k)) (can_clear uses [] ks) ks up uses_one in
      let fewer = length-filter_le (can_clear uses [] ks) ks in
      let same_length = ap length at_start in
      let listed_length = ap length listed in
      record {
        counted = subst (λ (js : List Key). AreCounts (waits uses []) js (raised_by refs (put_all fin.empty ks) ks)) (sym at_start)
            (counts_at_start (λ q k. uses k q) refs (record { rise = refs_rise; are = refs_are }) ks);
        clear = listed ∙ ap (clearable_of uses []) (sym at_start);
        fuel = length ks + length ks;
        enough = omega arith;
        same = ap (λ (js : List Key). fall uses (length ks + length ks) (items [] js)) (sym at_start);
      }

pub held_case : (o : Option Content) (q : Key) → is_in q (option_map_or refs_of o []) ≡ option_map_or (λ c. refers c q) o false
held_case None q = refl
held_case (Some c) q = refl

pub held_rise : (t : TableValue) (k : Key) → T (rises (held_refs t k))
held_rise t k = rises_ranked (option_map_or refs_of (held_at (entry_of t k)) [])

pub held_are : (t : TableValue) (k q : Key) → is_in q (held_refs t k) ≡ held_refers t k q
held_are t k q = named_ranked (option_map_or refs_of (held_at (entry_of t k)) []) q ∙ held_case (held_at (entry_of t k)) q

-- the same at values that the code has
pub falls_after : (uses : Key → Key → Bool) (all : List Key) (m n : Counts) (s r c d : List Key) (ds es : List Down) → n ≡ m → r ≡ s → d ≡ c → es ≡ ds → Falls uses all m s c ds → Falls uses all n r d es
falls_after uses all m n s r c d ds es e f g h x =
    subst (λ (z : Counts). Falls uses all z r d es) (sym e) (subst (λ (z : List Key). Falls uses all m z d es) (sym f) (subst (λ (z : List Key). Falls uses all m s z es) (sym g) (subst (λ (z : List Down). Falls uses all m s c z) (sym h) x)))

pub less_after : (m n : Counts) (s r : List Key) {x : ℕ} → n ≡ m → r ≡ s → length (fin.keys m) + length s < x → length (fin.keys n) + length r < x
less_after m n s r {x} e f h =
    let a : length (fin.keys n) ≡ length (fin.keys m) = ap (λ (w : Counts). length (fin.keys w)) e in
    let b : length r ≡ length s = ap length f in
    omega arith

pub released_is : (ks : List Key) (m n w : Counts) (a b : Bool) → w ≡ cond a (changed_all one_less m ks) m → m ≡ n → a ≡ b → w ≡ cond b (changed_all one_less n ks) n
released_is ks m n w a b h e f = h ∙ (λ i. cond (f i) (changed_all one_less (e i) ks) (e i))

pub remove_is : (ds es : List Down) (k : Key) (a b : Bool) → es ≡ ds ++ Remove k a ∷ [] → a ≡ b → es ≡ ds ++ Remove k b ∷ []
remove_is ds es k a b h e = h ∙ ap (λ x. ds ++ Remove k x ∷ []) e
