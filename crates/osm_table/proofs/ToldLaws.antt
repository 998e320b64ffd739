-- What stays true of a told map when one key is put.
use Rattle.std.proofs.Common.{◌≡◌, ◌∙◌, ◌++◌, Bool, true, false, cond, is_some, List, [], ◌∷◌, length, Option, Some, None, refl, sym, ap, subst}
use Rattle.std.specs.FinMap as fin
use Rattle.std.specs.FinMap.Entries.{is_some-find}
use Rattle.std.specs.List.{list_any, IsDistinct}
use Rattle.std.specs.Map.{keys_of, lookup}
use Rattle.std.specs.Option.{option_map}
use Rattle.std.proofs.lemmas.List.{length-map}
use Rattle.osm_table.specs.InOrder.{insert_entry}
use Rattle.osm_base.specs.KeyEq.{eq}
use Rattle.osm_base.specs.Rank.{rank_cmp, is_key}
use Rattle.osm_base.specs.RankLaws.{rank_total, rank_exact, rank_ties}
use Rattle.osm_base.specs.declared.key.Key.{Key}
use Rattle.osm_table.specs.declared.entry.Entry.{Entry}
use Rattle.osm_table.specs.declared.told.Told.{Told}
use Rattle.osm_table.specs.Told.{ToldEntries, ToldValue, IsTold, IsToldMap, entry_told, told_of, told_at, with_told, is_told_there}
use Rattle.osm_table.specs.ToldCode.{each_told, told_kept, AreTold, AreThere}
use Rattle.osm_table.proofs.Each.{with_cases}
use Rattle.osm_table.proofs.OrderLaws.{keys_put, found_put}
use Rattle.osm_base.proofs.ByRank.{rises_keys}
use Rattle.osm_base.proofs.MapViews.{get_view, inserted, distinct_len}
use Rattle.osm_base.proofs.RisingKeys.{key_itself, same_keys}

-- what may be told of a key keeps a told map one
pub told_with : (m : ToldEntries) (k : Key) (u : Told) → IsToldMap m → IsTold k u → IsToldMap (fin.insert m k u)
told_with m k u all here j t has = with_cases IsTold j k u t (fin.get m j) (is_key j k) refl (sym (fin.get-insert rank_total m k u j) ∙ has) here (all j t)

pub told_empty : IsToldMap fin.empty
told_empty j t has = let h : None ≡ Some t = sym (fin.get-empty rank_cmp j) ∙ has in cc

-- what is told of as there leaves all that is told of there
pub there_with : (m : ToldEntries) (k : Key) (u : Told) → AreThere m → is_told_there (Some u) ≡ true → AreThere (fin.insert m k u)
there_with m k u all here j t has =
    with_cases (λ _ v. is_told_there (Some v) ≡ true) j k u t (fin.get m j) (is_key j k) refl (sym (fin.get-insert rank_total m k u j) ∙ has) here (all j t)

pub there_empty : AreThere fin.empty
there_empty j t has = let h : None ≡ Some t = sym (fin.get-empty rank_cmp j) ∙ has in cc

-- what is told last of a key is what is told of it
pub told_last : (m : ToldValue) (k : Key) (u : Told) → told_at (with_told m k u) k ≡ Some u
told_last m k u = fin.get-insert rank_total m.told k u k ∙ ap (λ b. cond b (Some u) (told_at m k)) (key_itself k)

-- What is told, and the entries that are kept.

told_step : (b : Bool) (e : Entry) (o : Option Entry) → cond b (Some (told_of e)) (option_map told_of o) ≡ option_map told_of (cond b (Some e) o)
told_step true e o = refl
told_step false e o = refl

pub lookup_told : (es : List (Key × Entry)) (q : Key) → lookup (eq q) (each_told es) ≡ option_map told_of (lookup (eq q) es)
lookup_told [] q = refl
lookup_told (e ∷ es) q = ap (cond (eq q e.0) (Some (told_of e.1))) (lookup_told es q) ∙ told_step (eq q e.0) e.1 (lookup (eq q) es)

keys_told : (es : List (Key × Entry)) → keys_of (each_told es) ≡ keys_of es
keys_told [] = refl
keys_told (e ∷ es) = ap (λ ks. e.0 ∷ ks) (keys_told es)

-- what is told of a key is read off its entry
pub told_kept_at : (es : List (Key × Entry)) (q : Key) → fin.get (told_kept es) q ≡ option_map told_of (lookup (eq q) es)
told_kept_at es q = sym (get_view rank_total rank_exact rank_ties (each_told es) q) ∙ lookup_told es q

back_again : (o : Option Entry) → ((e : Entry) → o ≡ Some e → entry_told (told_of e) ≡ e) → o ≡ option_map entry_told (option_map told_of o)
back_again None h = refl
back_again (Some e) h = ap Some (sym (h e refl))

-- and the entry is the one that is told so
pub entry_kept_at : (es : List (Key × Entry)) (q : Key) → AreTold es → lookup (eq q) es ≡ option_map entry_told (fin.get (told_kept es) q)
entry_kept_at es q all = back_again (lookup (eq q) es) (all q) ∙ ap (option_map entry_told) (sym (told_kept_at es q))

-- One key put.

abbrev Updates : List (Key × Entry) → List (Key × Entry) → Key → Entry → Type 0
Updates es fs k e = (q : Key) → lookup (eq q) fs ≡ cond (eq k q) (Some e) (lookup (eq q) es)

pub put_updates : (es fs : List (Key × Entry)) (k : Key) (e : Entry) → fs ≡ insert_entry eq es k e → Updates es fs k e
put_updates es fs k e is q = ap (λ (gs : List (Key × Entry)). lookup (eq q) gs) is ∙ found_put es k e q

pub kept_with : (es fs : List (Key × Entry)) (k : Key) (e : Entry) → Updates es fs k e → told_kept fs ≡ fin.insert (told_kept es) k (told_of e)
kept_with es fs k e h =
    inserted rank_total rank_exact rank_ties (each_told es) (each_told fs) k (told_of e)
    (λ q. lookup_told fs q ∙ ap (option_map told_of) (h q) ∙ sym (told_step (eq k q) e (lookup (eq q) es)) ∙ ap (cond (eq k q) (Some (told_of e))) (sym (lookup_told es q)))

are_told_case : (b : Bool) (e f : Entry) (o : Option Entry) → cond b (Some e) o ≡ Some f → entry_told (told_of e) ≡ e → (o ≡ Some f → entry_told (told_of f) ≡ f) → entry_told (told_of f) ≡ f
are_told_case true e f o is here there = subst (λ (x : Entry). entry_told (told_of x) ≡ x) (let h : e ≡ f = cc in h) here
are_told_case false e f o is here there = there is

pub are_told_with : (es fs : List (Key × Entry)) (k : Key) (e : Entry) → Updates es fs k e → AreTold es → entry_told (told_of e) ≡ e → AreTold fs
are_told_with es fs k e h all here q f has = are_told_case (eq k q) e f (lookup (eq q) es) (sym (h q) ∙ has) here (all q f)

some_told : (o : Option Entry) → is_some o ≡ is_some (option_map told_of o)
some_told None = refl
some_told (Some e) = refl

-- the keys after one is put: a new key comes last
pub order_with : (es : List (Key × Entry)) (k : Key) (e : Entry) → keys_of (insert_entry eq es k e) ≡ cond (is_some (fin.get (told_kept es) k)) (keys_of es) (keys_of es ++ k ∷ [])
order_with es k e = keys_put es k e ∙ ap (λ b. cond b (keys_of es) (keys_of es ++ k ∷ [])) (some_told (lookup (eq k) es) ∙ ap is_some (sym (told_kept_at es k)))

-- the keys in order are those of the map
pub order_any : (es : List (Key × Entry)) (q : Key) → list_any (is_key q) (keys_of es) ≡ is_some (fin.get (told_kept es) q)
order_any es q = ap (list_any (is_key q)) (sym (keys_told es)) ∙ sym (is_some-find rank_cmp q (each_told es)) ∙ ap is_some (sym (fin.get-from_entries rank_total (each_told es) q))

-- as many are told of as there are entries
pub told_len : (es : List (Key × Entry)) → IsDistinct eq (keys_of es) → length es ≡ fin.len (told_kept es)
told_len es h = sym (length-map es (λ (e : Key × Entry). (e.0, told_of e.1))) ∙ distinct_len rank_total rank_exact rank_ties (each_told es) (subst (IsDistinct eq) (sym (keys_told es)) h)

-- the keys that are told of by rank are those of the entries
pub keys_kept : (es : List (Key × Entry)) → fin.keys (fin.from_entries {R = rank_cmp} es) ≡ fin.keys (told_kept es)
keys_kept es =
    let m = fin.from_entries {R = rank_cmp} es in
    same_keys (fin.keys m) (fin.keys (told_kept es)) (rises_keys m) (rises_keys (told_kept es))
    (λ q. sym (fin.contains_key-keys m q) ∙ ap is_some (sym (get_view rank_total rank_exact rank_ties es q)) ∙ some_told (lookup (eq q) es) ∙ ap is_some (sym (told_kept_at es q)) ∙ fin.contains_key-keys (told_kept es) q)
