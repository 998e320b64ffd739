-- The world of a table's bases, by look-up, and the objects that are put one after the other to make it.
use Rattle.std.proofs.Common.{◌≡◌, Bool, true, false, cond, not, ◌&&◌, ◌||◌, List, [], ◌∷◌, ◌++◌, Option, Some, None, is_some, refl, sym, ◌∙◌, ap, inl, inr}
use Rattle.std.specs.Prelude.{flat_map, ◌⊎◌}
use Rattle.std.specs.List.{list_any}
use Rattle.std.specs.Option.{option_or, option_map_or}
use Rattle.std.specs.FinMap as fin
use Rattle.std.proofs.lemmas.List.Folds.{list_any-append}
use Rattle.std.proofs.lemmas.Bool.{or_parts, cases_Bool}
use Rattle.osm_base.specs.Rank.{rank_cmp, is_key}
use Rattle.osm_base.specs.RankLaws.{rank_total, rank_exact}
use Rattle.osm_base.specs.RisingKeys.{is_in}
use Rattle.osm_base.specs.Content.{refs_of}
use Rattle.osm_base.specs.declared.key.Key.{Key}
use Rattle.osm_base.specs.declared.content.Content.{Content}
use Rattle.osm_base.proofs.RisingKeys.{one_key}
use Rattle.osm_base.proofs.Tests.{none_from_test, option_or-none}
use Rattle.osm_table.specs.declared.entry.Entry.{Entry}
use Rattle.osm_table.specs.declared.entry.Entry.TheVariants.{Incomplete, Known}
use Rattle.osm_table.specs.Table.{TableValue, entry_of, keys_by_rank}
use Rattle.upload_order.specs.Kinds.{content_refers, held_at, held_list, held_refers}
use Rattle.upload_order.specs.Rename.{is_positive}
use Rattle.upload_order.specs.World.{WorldEntry, stands, is_known}
use Rattle.upload_order.proofs.Basics.{at_key_put, at_other}
use Rattle.server_world.specs.Codes.{Objects}
use Rattle.server_world.specs.Bases.{of_mention, of_entry, standing, keys_told, at_key, of_bases}
use Rattle.server_world.specs.Putting.{based, with_some, with_base, with_bases, empty_object, is_open, with_mention, with_mentions, with_all_mentions}

-- an object put, if there is one
some_put : (m : Objects) (k q : Key) (o : Option WorldEntry) (b : Bool) → is_key q k ≡ b → fin.get (with_some m k o) q ≡ cond b (option_or o (fin.get m q)) (fin.get m q)
some_put m k q None true e = refl
some_put m k q None false e = refl
some_put m k q (Some x) true e = at_key_put m k q x e
some_put m k q (Some x) false e = at_other m k q x e

twice : (o g : Option WorldEntry) → option_or o (option_or o g) ≡ option_or o g
twice None g = refl
twice (Some x) g = refl

base_case : (a b : Bool) (o p g : Option WorldEntry) → (a ≡ true → p ≡ o) → cond b (option_or o (cond a (option_or p g) g)) (cond a (option_or p g) g) ≡ cond (a || b) (option_or o g) g
base_case true true o p g same = ap (λ x. option_or o (option_or x g)) (same refl) ∙ twice o g
base_case true false o p g same = ap (λ x. option_or x g) (same refl)
base_case false true o p g same = refl
base_case false false o p g same = refl

bases_put : (t : TableValue) (m : Objects) (ks : List Key) (q : Key) → fin.get (with_bases t m ks) q ≡ cond (is_in q ks) (option_or (based (entry_of t q)) (fin.get m q)) (fin.get m q)
bases_put t m [] q = refl
bases_put t m (k ∷ ks) q =
    bases_put t (with_base t m k) ks q
    ∙ ap (λ (g : Option WorldEntry). cond (is_in q ks) (option_or (based (entry_of t q)) g) g) (some_put m k q (based (entry_of t k)) (is_key q k) refl)
    ∙ base_case (is_key q k) (is_in q ks) (based (entry_of t q)) (based (entry_of t k)) (fin.get m q) (λ e. ap (λ (j : Key). based (entry_of t j)) (sym (one_key q k e)))

-- of a key that isn't among those of the table nothing is known
no_entry : (t : TableValue) (q : Key) → is_in q (keys_by_rank t) ≡ false → entry_of t q ≡ None
no_entry t q e = none_from_test (entry_of t q) (fin.contains_key-keys t.entries q ∙ e)

all_bases : (t : TableValue) (q : Key) → fin.get (with_bases t fin.empty (keys_by_rank t)) q ≡ based (entry_of t q)
all_bases t q =
    bases_put t fin.empty (keys_by_rank t) q
    ∙ ap (λ (g : Option WorldEntry). cond (is_in q (keys_by_rank t)) (option_or (based (entry_of t q)) g) g) (fin.get-empty rank_cmp q)
    ∙ in_or_out (cases_Bool (is_in q (keys_by_rank t))) where
      in_or_out : ((is_in q (keys_by_rank t) ≡ true) ⊎ (is_in q (keys_by_rank t) ≡ false)) → cond (is_in q (keys_by_rank t)) (option_or (based (entry_of t q)) None) None ≡ based (entry_of t q)
      in_or_out (inl i) = ap (λ b. cond b (option_or (based (entry_of t q)) None) None) i ∙ option_or-none (based (entry_of t q))
      in_or_out (inr o) = ap (λ b. cond b (option_or (based (entry_of t q)) None) None) o ∙ sym (ap based (no_entry t q o))

-- an empty object put, where nothing stands
put_where : (m : Objects) (k q : Key) (e : WorldEntry) (opened some : Bool) (b : Bool) → is_key q k ≡ b → (b ≡ true → is_some (fin.get m q) ≡ some) → fin.get (cond (not opened || some) m (fin.insert m k e)) q ≡ cond (opened && b) (option_or (fin.get m q) (Some e)) (fin.get m q)
put_where m k q e true true true h s = stays (fin.get m q) (s refl) where
  stays : (g : Option WorldEntry) → is_some g ≡ true → g ≡ option_or g (Some e)
  stays None h = cc
  stays (Some x) h = refl
put_where m k q e true false true h s = at_key_put m k q e h ∙ comes (fin.get m q) (s refl) where
  comes : (g : Option WorldEntry) → is_some g ≡ false → ◌≡◌ {A = Option WorldEntry} (Some e) (option_or g (Some e))
  comes None h = refl
  comes (Some x) h = cc
put_where m k q e true true false h s = refl
put_where m k q e true false false h s = at_other m k q e h
put_where m k q e false some b h s = refl

neither_put : (b : Bool) (g o : Option WorldEntry) → cond (b && false) (option_or g o) g ≡ g
neither_put true g o = refl
neither_put false g o = refl

one_mention : (t : TableValue) (m : Objects) (k q : Key) → fin.get (with_mention t m k) q ≡ cond (is_open t q && is_key q k) (option_or (fin.get m q) (Some (empty_object q.kind))) (fin.get m q)
one_mention t m k q =
    put_where m k q (empty_object k.kind) (is_open t k) (is_some (fin.get m k)) (is_key q k) refl (λ e. ap (λ (j : Key). is_some (fin.get m j)) (one_key q k e))
    ∙ same_open (cases_Bool (is_key q k)) where
      same_open : ((is_key q k ≡ true) ⊎ (is_key q k ≡ false)) → cond (is_open t k && is_key q k) (option_or (fin.get m q) (Some (empty_object k.kind))) (fin.get m q) ≡ cond (is_open t q && is_key q k) (option_or (fin.get m q) (Some (empty_object q.kind))) (fin.get m q)
      same_open (inl e) = ap (λ (j : Key). cond (is_open t j && is_key q k) (option_or (fin.get m q) (Some (empty_object j.kind))) (fin.get m q)) (sym (one_key q k e))
      same_open (inr e) = ap (λ b. cond (is_open t k && b) (option_or (fin.get m q) (Some (empty_object k.kind))) (fin.get m q)) e ∙ (neither_put (is_open t k) (fin.get m q) (Some (empty_object k.kind)) ∙ sym (neither_put (is_open t q) (fin.get m q) (Some (empty_object q.kind)))) ∙ ap (λ b. cond (is_open t q && b) (option_or (fin.get m q) (Some (empty_object q.kind))) (fin.get m q)) (sym e)

once : (g : Option WorldEntry) (e : WorldEntry) → option_or (option_or g (Some e)) (Some e) ≡ option_or g (Some e)
once None e = refl
once (Some x) e = refl

mention_case : (opened a b : Bool) (g : Option WorldEntry) (e : WorldEntry) → cond (opened && b) (option_or (cond (opened && a) (option_or g (Some e)) g) (Some e)) (cond (opened && a) (option_or g (Some e)) g) ≡ cond (opened && (a || b)) (option_or g (Some e)) g
mention_case true true true g e = once g e
mention_case true true false g e = refl
mention_case true false b g e = refl
mention_case false a b g e = refl

mentions_put : (t : TableValue) (m : Objects) (rs : List Key) (q : Key) → fin.get (with_mentions t m rs) q ≡ cond (is_open t q && is_in q rs) (option_or (fin.get m q) (Some (empty_object q.kind))) (fin.get m q)
mentions_put t m [] q = no_mention (is_open t q) where
  no_mention : (b : Bool) → fin.get m q ≡ cond (b && false) (option_or (fin.get m q) (Some (empty_object q.kind))) (fin.get m q)
  no_mention true = refl
  no_mention false = refl
mentions_put t m (r ∷ rs) q =
    mentions_put t (with_mention t m r) rs q
    ∙ ap (λ (g : Option WorldEntry). cond (is_open t q && is_in q rs) (option_or g (Some (empty_object q.kind))) g) (one_mention t m r q)
    ∙ mention_case (is_open t q) (is_key q r) (is_in q rs) (fin.get m q) (empty_object q.kind)

mentions_append : (t : TableValue) (m : Objects) (rs ss : List Key) → with_mentions t (with_mentions t m rs) ss ≡ with_mentions t m (rs ++ ss)
mentions_append t m [] ss = refl
mentions_append t m (r ∷ rs) ss = mentions_append t (with_mention t m r) rs ss

mentions_flat : (t : TableValue) (m : Objects) (ks : List Key) → with_all_mentions t m ks ≡ with_mentions t m (flat_map (held_list t) ks)
mentions_flat t m [] = refl
mentions_flat t m (k ∷ ks) = mentions_flat t (with_mentions t m (held_list t k)) ks ∙ mentions_append t m (held_list t k) (flat_map (held_list t) ks)

listed_case : (q : Key) (o : Option Content) → is_in q (option_map_or refs_of o []) ≡ content_refers o q
listed_case q None = refl
listed_case q (Some c) = refl

-- a key is among the references of bases where one of these refers to it
held_in : (t : TableValue) (ks : List Key) (q : Key) → is_in q (flat_map (held_list t) ks) ≡ list_any (λ u. held_refers t u q) ks
held_in t [] q = refl
held_in t (k ∷ ks) q = list_any-append (is_key q) (held_list t k) (flat_map (held_list t) ks) ∙ (λ i. listed_case q (held_at (entry_of t k)) i || held_in t ks q i)

standing_case : (positive refers : Bool) (m : WorldEntry) (e : Option Entry) → cond ((positive && not (option_map_or is_known e false)) && refers) (option_or (based e) (Some m)) (based e) ≡ of_entry (cond (positive && refers) (Some m) None) e
standing_case true true m None = refl
standing_case true false m None = refl
standing_case false r m None = refl
standing_case true true m (Some Incomplete) = refl
standing_case true false m (Some Incomplete) = refl
standing_case false r m (Some Incomplete) = refl
standing_case true r m (Some (Known b x d)) = refl
standing_case false r m (Some (Known b x d)) = refl

all_put : (t : TableValue) (q : Key) → fin.get (with_all_mentions t (with_bases t fin.empty (keys_by_rank t)) (keys_by_rank t)) q ≡ standing t q
all_put t q =
    ap (λ (m : Objects). fin.get m q) (mentions_flat t (with_bases t fin.empty (keys_by_rank t)) (keys_by_rank t))
    ∙ mentions_put t (with_bases t fin.empty (keys_by_rank t)) (flat_map (held_list t) (keys_by_rank t)) q
    ∙ ap (λ (g : Option WorldEntry). cond (is_open t q && is_in q (flat_map (held_list t) (keys_by_rank t))) (option_or g (Some (empty_object q.kind))) g) (all_bases t q)
    ∙ ap (λ b. cond (is_open t q && b) (option_or (based (entry_of t q)) (Some (empty_object q.kind))) (based (entry_of t q))) (held_in t (keys_by_rank t) q)
    ∙ standing_case (is_positive q.id) (list_any (λ u. held_refers t u q) (keys_by_rank t)) (empty_object q.kind) (entry_of t q)

-- what is put of some keys
pub those_put : (t : TableValue) (ks : List Key) (q : Key) → fin.get (with_all_mentions t (with_bases t fin.empty ks) ks) q ≡ cond (is_open t q && list_any (λ u. held_refers t u q) ks) (option_or (cond (is_in q ks) (based (entry_of t q)) None) (Some (empty_object q.kind))) (cond (is_in q ks) (based (entry_of t q)) None)
those_put t ks q =
    let g : Option WorldEntry → Bool → Option WorldEntry = λ g b. cond (is_open t q && b) (option_or g (Some (empty_object q.kind))) g in
    let first : fin.get (with_bases t fin.empty ks) q ≡ cond (is_in q ks) (based (entry_of t q)) None =
    bases_put t fin.empty ks q
    ∙ ap (λ (g : Option WorldEntry). cond (is_in q ks) (option_or (based (entry_of t q)) g) g) (fin.get-empty rank_cmp q)
    ∙ ap (λ (x : Option WorldEntry). cond (is_in q ks) x None) (option_or-none (based (entry_of t q))) in
    ap (λ (m : Objects). fin.get m q) (mentions_flat t (with_bases t fin.empty ks) ks)
    ∙ mentions_put t (with_bases t fin.empty ks) (flat_map (held_list t) ks) q
    ∙ (λ i. g (first i) (held_in t ks q i))

each_case : (k q : Key) (o : Option WorldEntry) (rest : List (Key × WorldEntry)) (b : Bool) → is_key q k ≡ b → fin.get (fin.from_entries {R = rank_cmp} (at_key k o ++ rest)) q ≡ cond b (option_or o (fin.get (fin.from_entries {R = rank_cmp} rest) q)) (fin.get (fin.from_entries {R = rank_cmp} rest) q)
each_case k q None rest true e = refl
each_case k q None rest false e = refl
each_case k q (Some x) rest true e = at_key_put (fin.from_entries rest) k q x e
each_case k q (Some x) rest false e = at_other (fin.from_entries rest) k q x e

told_case : (a b : Bool) (o p : Option WorldEntry) → (a ≡ true → p ≡ o) → cond a (option_or p (cond b o None)) (cond b o None) ≡ cond (a || b) o None
told_case true true o p same = ap (λ x. option_or x o) (same refl) ∙ again o where
  again : (o : Option WorldEntry) → option_or o o ≡ o
  again None = refl
  again (Some x) = refl
told_case true false o p same = ap (λ x. option_or x None) (same refl) ∙ option_or-none o
told_case false b o p same = refl

each_at : (t : TableValue) (ks : List Key) (q : Key) → fin.get (fin.from_entries {R = rank_cmp} (flat_map (λ k. at_key k (standing t k)) ks)) q ≡ cond (is_in q ks) (standing t q) None
each_at t [] q = fin.get-empty rank_cmp q
each_at t (k ∷ ks) q =
    each_case k q (standing t k) (flat_map (λ k. at_key k (standing t k)) ks) (is_key q k) refl
    ∙ ap (λ (g : Option WorldEntry). cond (is_key q k) (option_or (standing t k) g) g) (each_at t ks q)
    ∙ told_case (is_key q k) (is_in q ks) (standing t q) (standing t k) (λ e. ap (standing t) (sym (one_key q k e)))

unmentioned : (b : Bool) (m : WorldEntry) → cond (b && false) (Some m) None ≡ None
unmentioned true m = refl
unmentioned false m = refl

-- nothing stands of a key that is neither in the table nor referred to by a base
untold : (t : TableValue) (q : Key) → is_in q (keys_told t) ≡ false → standing t q ≡ None
untold t q e =
    let n = or_parts (is_in q (keys_by_rank t)) (is_in q (flat_map (held_list t) (keys_by_rank t))) (sym (list_any-append (is_key q) (keys_by_rank t) (flat_map (held_list t) (keys_by_rank t))) ∙ e) in
    ap (λ (x : Option Entry). of_entry (of_mention t q) x) (no_entry t q n.0)
    ∙ ap (λ b. cond (is_positive q.id && b) (Some (empty_object q.kind)) None) (sym (held_in t (keys_by_rank t) q) ∙ n.1)
    ∙ unmentioned (is_positive q.id) (empty_object q.kind)

-- The world of the bases has of each key what stands.
pub bases_stand : (t : TableValue) (q : Key) → stands (of_bases t) q ≡ standing t q
bases_stand t q = each_at t (keys_told t) q ∙ told_or_not (cases_Bool (is_in q (keys_told t))) where
  told_or_not : ((is_in q (keys_told t) ≡ true) ⊎ (is_in q (keys_told t) ≡ false)) → cond (is_in q (keys_told t)) (standing t q) None ≡ standing t q
  told_or_not (inl i) = ap (λ b. cond b (standing t q) None) i
  told_or_not (inr o) = ap (λ b. cond b (standing t q) None) o ∙ sym (untold t q o)

-- what is put makes that world
pub put_bases : (t : TableValue) → with_all_mentions t (with_bases t fin.empty (keys_by_rank t)) (keys_by_rank t) ≡ (of_bases t).entries
put_bases t = fin.same_map rank_total rank_exact _ _ (λ q. all_put t q ∙ sym (bases_stand t q))
