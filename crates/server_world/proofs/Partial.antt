-- The part of a server that changes meet answers as the whole.
use Rattle.std.proofs.Common.{◌≡◌, ℕ, ◌+◌, ◌-◌, ℤ, pos, Bool, true, false, cond, not, ◌||◌, List, [], ◌∷◌, Option, Some, None, is_some, refl, sym, ◌∙◌, ap, subst, inl, inr}
use Rattle.std.specs.Prelude.{◌⊎◌, nat_eq}
use Rattle.std.specs.List.{find}
use Rattle.std.specs.Option.{option_map, option_map_or, unwrap_or}
use Rattle.std.specs.FinMap as fin
use Rattle.std.proofs.lemmas.Bool.{cases_Bool, or_right}
use Rattle.osm_base.specs.Rank.{is_key}
use Rattle.osm_base.specs.Content.{refs_of, refers, fits}
use Rattle.osm_base.specs.RisingKeys.{is_in}
use Rattle.osm_base.specs.declared.key.Kind.{Kind}
use Rattle.osm_base.specs.declared.key.Key.{Key}
use Rattle.osm_base.specs.declared.content.Content.{Content}
use Rattle.osm_base.proofs.ByRank.{same_least}
use Rattle.osm_base.proofs.RisingKeys.{one_key}
use Rattle.osm_base.proofs.Tests.{some_passed}
use Rattle.osm_table.specs.declared.entry.Base.{Base}
use Rattle.osm_table.specs.declared.entry.Base.TheVariants.{New, Live, Gone}
use Rattle.osm_table.specs.declared.entry.Entry.{Entry}
use Rattle.osm_table.specs.declared.entry.Entry.TheVariants.{Incomplete, Known}
use Rattle.osm_table.specs.Same.{same_mine}
use Rattle.osm_table.specs.Table.{TableValue, entry_of, held_by, is_changed, mine_of, users, uses, IsThere}
use Rattle.osm_table.proofs.SameLaws.{same_mine_decides}
use Rattle.dataset.specs.Sound.{IsSound}
use Rattle.dataset.proofs.Listed.{user_uses}
use Rattle.upload_order.specs.declared.change.Change.{Change}
use Rattle.upload_order.specs.declared.change.Change.TheVariants.{Create, Modify, Delete}
use Rattle.upload_order.specs.Kinds.{at_key, content_refers, held_of}
use Rattle.upload_order.specs.Rename.{Names, named, meant, called, with_id, is_positive}
use Rattle.upload_order.specs.World.{World, WorldEntry, stands, user_of, reaches, on_content, on_modify, on_delete, refusal, after, is_known, IsFresh}
use Rattle.upload_order.specs.declared.world.WorldRefusal.{WorldRefusal}
use Rattle.upload_order.specs.declared.world.WorldRefusal.TheVariants.{BadRef, Unfit, Exists, Missing, OldVersion, Used}
use Rattle.upload_order.specs.Pieces.{content_in, entry_refers, has_content}
use Rattle.renamed_content.specs.Renamed.{renamed}
use Rattle.upload_order.proofs.Basics.{both, key_same, at_key_put, at_other}
use Rattle.upload_order.proofs.Entries.{in_any}
use Rattle.server_world.specs.Bases.{empty_content, of_base, of_entry, of_mention, is_mentioned, standing}
use Rattle.server_world.specs.Free.{is_taken, first_free, last_id, free_id}
use Rattle.server_world.specs.Sent.{pick_for}
use Rattle.server_world.specs.Starts.{AreStarts, key_at}
use Rattle.server_world.specs.declared.starts.Starts.{Starts}
use Rattle.server_world.proofs.Rehearsals.{empty_alone}
use Rattle.server_world.proofs.Walking.{first_entry}

-- The keys have all that is changed, and the users of each of them that isn't Known.
pub record Covers (t : TableValue) (ks : List Key) : Type 0 where
  pub changed : (u : Key) → at_key t is_changed u ≡ true → is_in u ks ≡ true
  pub unknown : (r u : Key) → is_in r ks ≡ true → at_key t is_known r ≡ false → is_in u (users t r) ≡ true → is_in u ks ≡ true

-- The keys have what a change meets.
abbrev pub HasMet : TableValue → List Key → Change → Type 0
HasMet t ks (Create k c) = (r : Key) → refers c r ≡ true → is_in r ks ≡ true
HasMet t ks (Modify k v c) = (is_in k ks ≡ true) × ((r : Key) → refers c r ≡ true → is_in r ks ≡ true)
HasMet t ks (Delete k v) = (is_in k ks ≡ true) × ((u : Key) → is_in u (users t k) ≡ true → is_in u ks ≡ true)

-- An object of the whole world that the part doesn't have: it stands as at first, and its key is in the table.
pub record IsLeftOut (t : TableValue) (ks : List Key) (w v : World) (q : Key) : Type 0 where
  pub out : is_in q ks ≡ false
  pub there : is_some (entry_of t q) ≡ true
  pub nothing : stands v q ≡ None
  pub first : stands w q ≡ standing t q

-- A part of a world, where each pick is new to the table.
pub record IsPart (t : TableValue) (ks : List Key) (w v : World) : Type 0 where
  pub names : v.names ≡ w.names
  pub at : (q : Key) → (stands v q ≡ stands w q) ⊎ IsLeftOut t ks w v q
  pub picked : (k : Key) (p : ℤ) → named w.names k ≡ Some p → (stands v (with_id k p) ≡ stands w (with_id k p)) × (entry_of t (with_id k p) ≡ None)

pub same_conclusion : {A : Type 0} (b : Bool) → b ≡ true → b ≡ false → A
same_conclusion true e f = cc
same_conclusion false e f = cc

-- mine of an entry that isn't changed is what its base holds
pub held_mine : (e : Entry) (c : Content) → is_changed e ≡ false → held_of e ≡ Some c → mine_of e ≡ Some c
held_mine Incomplete c u h = cc
held_mine (Known New m d) c u h = cc
held_mine (Known (Live v b n) m d) c u h = (same_mine_decides m (Some b)).0 (same_true (same_mine m (Some b)) u) ∙ h where
  same_true : (b : Bool) → not b ≡ false → b ≡ true
  same_true true e = refl
  same_true false e = cc
held_mine (Known (Gone v n) m d) c u h = cc

-- so to what its base refers it refers too
pub user_held : (t : TableValue) (u r : Key) (e : Entry) → entry_of t u ≡ Some e → is_changed e ≡ false → content_refers (held_of e) r ≡ true → is_in u (users t r) ≡ true
user_held t u r e h same refer =
    let some = some_passed (λ c. refers c r) (held_of e) refer in
    user_uses t r u ∙ ap (λ (o : Option Entry). option_map_or (λ e. uses e r) o false) h
    ∙ ap (λ (o : Option Content). option_map_or (λ c. refers c r) o false) (held_mine e some.0 same some.1) ∙ some.2

-- an empty object refers to nothing
mention_refers : (b : Bool) (kind : Kind) (d : Key) → option_map_or (entry_refers d) (cond b (Some (record { version = 1; content = Some (empty_content kind) })) None) false ≡ false
mention_refers true kind d = empty_alone kind d
mention_refers false kind d = refl

base_refers : (b : Base) (d : Key) → option_map_or (entry_refers d) (of_base b) false ≡ content_refers (held_by b) d
base_refers New d = refl
base_refers (Live v c i) d = refl
base_refers (Gone v i) d = refl

not_true : (b : Bool) → (b ≡ true → false ≡ true) → b ≡ false
not_true true f = sym (f refl)
not_true false f = refl

-- nobody refers to what isn't in a sound table
pub no_user : (t : TableValue) → IsSound t → (d u : Key) → entry_of t d ≡ None → is_in u (users t d) ≡ true → ⊥
no_user t sound d u none i =
    let one = some_passed (λ e. uses e d) (entry_of t u) (sym (user_uses t d u) ∙ i) in
    subst IsThere none (sound.closed u one.0 one.1 d one.2)

module _ (t : TableValue) (ks : List Key) (covers : Covers t ks) (w v : World) (part : IsPart t ks w v) where
  -- the part has what is met
  pub met_alike : (q : Key) → is_in q ks ≡ true → stands v q ≡ stands w q
  met_alike q i = elim (part.at q) [ inl e ↦ e | inr o ↦ same_conclusion (is_in q ks) i o.out ]

  pub absent_alike : (q : Key) → entry_of t q ≡ None → stands v q ≡ stands w q
  absent_alike q n = elim (part.at q) [ inl e ↦ e | inr o ↦ same_conclusion (is_some (entry_of t q)) o.there (ap is_some n) ]

  -- so has it what a name means
  called_by : (k : Key) (b : Bool) (o : Option ℤ) → is_in k ks ≡ true → is_positive k.id ≡ b → named w.names k ≡ o → stands v (called w.names k) ≡ stands w (called w.names k)
  called_by k true o i e f = subst (λ (q : Key). stands v q ≡ stands w q) (sym (ap (λ b. with_id k (unwrap_or (cond b (Some k.id) (named w.names k)) k.id)) e)) (met_alike k i)
  called_by k false None i e f = subst (λ (q : Key). stands v q ≡ stands w q) (sym (ap (λ b. with_id k (unwrap_or (cond b (Some k.id) (named w.names k)) k.id)) e ∙ ap (λ (o : Option ℤ). with_id k (unwrap_or o k.id)) f)) (met_alike k i)
  called_by k false (Some p) i e f = subst (λ (q : Key). stands v q ≡ stands w q) (sym (ap (λ b. with_id k (unwrap_or (cond b (Some k.id) (named w.names k)) k.id)) e ∙ ap (λ (o : Option ℤ). with_id k (unwrap_or o k.id)) f)) (part.picked k p f).0

  pub called_alike : (k : Key) → is_in k ks ≡ true → stands v (called v.names k) ≡ stands w (called w.names k)
  called_alike k i = ap (λ (ns : Names). stands v (called ns k)) part.names ∙ called_by k (is_positive k.id) (named w.names k) i refl refl

  reached_by : (k : Key) (b : Bool) (o : Option ℤ) → is_in k ks ≡ true → is_positive k.id ≡ b → named w.names k ≡ o → has_content v (meant w.names k) ≡ has_content w (meant w.names k)
  reached_by k true o i e f =
      let is : meant w.names k ≡ Some k = ap (λ b. option_map (with_id k) (cond b (Some k.id) (named w.names k))) e in
      ap (has_content v) is ∙ ap (λ (x : Option WorldEntry). is_some (content_in x)) (met_alike k i) ∙ sym (ap (has_content w) is)
  reached_by k false None i e f =
      let is : meant w.names k ≡ None = ap (λ b. option_map (with_id k) (cond b (Some k.id) (named w.names k))) e ∙ ap (option_map (with_id k)) f in
      ap (has_content v) is ∙ sym (ap (has_content w) is)
  reached_by k false (Some p) i e f =
      let is : meant w.names k ≡ Some (with_id k p) = ap (λ b. option_map (with_id k) (cond b (Some k.id) (named w.names k))) e ∙ ap (option_map (with_id k)) f in
      ap (has_content v) is ∙ ap (λ (x : Option WorldEntry). is_some (content_in x)) (part.picked k p f).0 ∙ sym (ap (has_content w) is)

  reaches_alike : (k : Key) → is_in k ks ≡ true → reaches v k ≡ reaches w k
  reaches_alike k i = ap (λ (ns : Names). has_content v (meant ns k)) part.names ∙ reached_by k (is_positive k.id) (named w.names k) i refl refl

  refs_alike : (rs : List Key) → ((r : Key) → is_in r rs ≡ true → is_in r ks ≡ true) → find (λ r. not (reaches v r)) rs ≡ find (λ r. not (reaches w r)) rs
  refs_alike [] h = refl
  refs_alike (r ∷ rs) h = λ i.
      cond (not (reaches_alike r (h r (in_any (r ∷ rs) r (inl refl))) i)) (Some r) (refs_alike rs (λ j there. h j (or_right (is_key j r) (is_in j rs) there)) i)

  -- so it takes the same contents
  pub content_alike : (c : Content) → ((r : Key) → refers c r ≡ true → is_in r ks ≡ true) → on_content v c ≡ on_content w c
  content_alike c h = ap (λ (o : Option Key). cond (fits c) (option_map BadRef o) (Some Unfit)) (refs_alike (refs_of c) h)

  -- what it doesn't have refers to nothing whose users it has
  left_case : (q d : Key) (o : Option Entry) → entry_of t q ≡ o → is_in q ks ≡ false → is_some o ≡ true → ((u : Key) → is_in u (users t d) ≡ true → is_in u ks ≡ true) → option_map_or (entry_refers d) (of_entry (of_mention t q) o) false ≡ false
  left_case q d None e out there us = cc
  left_case q d (Some Incomplete) e out there us = mention_refers (is_mentioned t q) q.kind d
  left_case q d (Some (Known b m x)) e out there us =
      let same : is_changed (Known b m x) ≡ false =
      not_true (is_changed (Known b m x)) (λ c. sym out ∙ covers.changed q (ap (λ (o : Option Entry). option_map_or is_changed o false) e ∙ c)) in
      base_refers b d ∙ not_true (content_refers (held_by b) d) (λ refer. sym out ∙ us q (user_held t q d (Known b m x) e same refer))

  tests_alike : (d : Key) → ((u : Key) → is_in u (users t d) ≡ true → is_in u ks ≡ true) → (q : Key) → option_map_or (entry_refers d) (stands v q) false ≡ option_map_or (entry_refers d) (stands w q) false
  tests_alike d us q = elim (part.at q) [
    | inl e ↦ ap (λ (o : Option WorldEntry). option_map_or (entry_refers d) o false) e
    | inr o ↦ ap (λ (x : Option WorldEntry). option_map_or (entry_refers d) x false) o.nothing
        ∙ sym (ap (λ (x : Option WorldEntry). option_map_or (entry_refers d) x false) o.first ∙ left_case q d (entry_of t q) refl o.out o.there us)
  ]

  some_test : (d : Key) (o : Option WorldEntry) → option_map_or (entry_refers d) o false ≡ true → is_some o ≡ true
  some_test d None h = h
  some_test d (Some x) h = refl

  keys_alike : (d q : Key) → option_map_or (entry_refers d) (stands v q) false ≡ true → is_in q (fin.keys v.entries) ≡ is_in q (fin.keys w.entries)
  keys_alike d q h =
      sym (fin.contains_key-keys v.entries q) ∙ elim (part.at q) [
        | inl e ↦ ap is_some e
        | inr o ↦ same_conclusion (is_some (stands v q)) (some_test d (stands v q) h) (ap is_some o.nothing)
      ] ∙ fin.contains_key-keys w.entries q

  find_tests : (p q : Key → Bool) → ((k : Key) → p k ≡ q k) → (js : List Key) → find p js ≡ find q js
  find_tests p q h [] = refl
  find_tests p q h (k ∷ js) = λ i. cond (h k i) (Some k) (find_tests p q h js i)

  -- so the least user is the same
  pub user_alike : (d : Key) → ((u : Key) → is_in u (users t d) ≡ true → is_in u ks ≡ true) → user_of v d ≡ user_of w d
  user_alike d us =
      let p : Key → Bool = λ q. option_map_or (entry_refers d) (stands v q) false in
      let r : Key → Bool = λ q. option_map_or (entry_refers d) (stands w q) false in
      sym (first_entry v (entry_refers d))
      ∙ same_least p v.entries w.entries (keys_alike d)
      ∙ find_tests p r (tests_alike d us) (fin.keys w.entries)
      ∙ first_entry w (entry_refers d)

  -- and so are the ids that are free
  taken_by : (a b c : Bool) → (a ≡ b) ⊎ (c ≡ true) → (a || c) ≡ (b || c)
  taken_by a b c (inl e) = ap (λ x. x || c) e
  taken_by a b true (inr h) = or_right a true refl ∙ sym (or_right b true refl)
  taken_by a b false (inr h) = cc

  taken_alike : (kind : Kind) (n : ℕ) → is_taken v t kind n ≡ is_taken w t kind n
  taken_alike kind n =
      taken_by (is_some (stands v (key_at kind n))) (is_some (stands w (key_at kind n))) (is_some (entry_of t (key_at kind n)))
      (elim (part.at (key_at kind n)) [ inl e ↦ inl (ap is_some e) | inr o ↦ inr o.there ])

  free_alike : (kind : Kind) → free_id v t kind ≡ free_id w t kind
  unfolding free_id
  free_alike kind = λ i. pos (first_free (λ n. taken_alike kind n i) (last_id - 1) 1)

  pub pick_alike : (c : Change) → pick_for v t c ≡ pick_for w t c
  pick_alike (Create k c) = free_alike k.kind
  pick_alike (Modify k x c) = refl
  pick_alike (Delete k x) = refl

  pub starts_alike : (s : Starts) → AreStarts v t s → AreStarts w t s
  starts_alike s h kind = record {
    least = (h kind).least;
    most = (h kind).most;
    below = λ n l g. sym (taken_alike kind n) ∙ (h kind).below n l g;
  }

  deletes_by : (k : Key) (b : Bool) (o : Option ℤ) → ((u : Key) → is_in u (users t k) ≡ true → is_in u ks ≡ true) → IsSound t → is_positive k.id ≡ b → named w.names k ≡ o
      → (u : Key) → is_in u (users t (called w.names k)) ≡ true → is_in u ks ≡ true
  deletes_by k true o us sound e f u i = us u (ap (λ (q : Key). is_in u (users t q)) (sym (ap (λ b. with_id k (unwrap_or (cond b (Some k.id) (named w.names k)) k.id)) e)) ∙ i)
  deletes_by k false None us sound e f u i = us u (ap (λ (q : Key). is_in u (users t q)) (sym (ap (λ b. with_id k (unwrap_or (cond b (Some k.id) (named w.names k)) k.id)) e ∙ ap (λ (o : Option ℤ). with_id k (unwrap_or o k.id)) f)) ∙ i)
  deletes_by k false (Some p) us sound e f u i =
      let is : called w.names k ≡ with_id k p = ap (λ b. with_id k (unwrap_or (cond b (Some k.id) (named w.names k)) k.id)) e ∙ ap (λ (o : Option ℤ). with_id k (unwrap_or o k.id)) f in
      absurd (no_user t sound (with_id k p) u (part.picked k p f).1 (ap (λ (q : Key). is_in u (users t q)) (sym is) ∙ i))

  modify_alike : (x : ℕ) (c : Content) (o : Option WorldEntry) → on_content v c ≡ on_content w c → on_modify v x c o ≡ on_modify w x c o
  modify_alike x c None h = refl
  modify_alike x c (Some e) h = ap (λ (o : Option WorldRefusal). cond (nat_eq e.version x) o (Some (OldVersion e.version))) h

  delete_alike : (d f : Key) (x : ℕ) (o : Option WorldEntry) → user_of v d ≡ user_of w f → on_delete v d x o ≡ on_delete w f x o
  delete_alike d f x None h = refl
  delete_alike d f x (Some e) h = ap (λ (o : Option Key). cond (is_some e.content) (cond (nat_eq e.version x) (option_map Used o) (Some (OldVersion e.version))) (Some Missing)) h

  -- it refuses what the whole refuses
  pub refusal_alike : IsSound t → (c : Change) (p : ℤ) → HasMet t ks c → IsFresh v t c p → refusal v c p ≡ refusal w c p
  refusal_alike sound (Create k c) p met fresh = λ i. cond (is_some (absent_alike (with_id k p) fresh.2 i)) (Some Exists) (content_alike c met i)
  refusal_alike sound (Modify k x c) p met fresh = modify_alike x c (stands v (called v.names k)) (content_alike c met.1) ∙ ap (on_modify w x c) (called_alike k met.0)
  refusal_alike sound (Delete k x) p met fresh =
      delete_alike (called v.names k) (called w.names k) x (stands v (called v.names k))
      (ap (λ (ns : Names). user_of v (called ns k)) part.names ∙ user_alike (called w.names k) (deletes_by k (is_positive k.id) (named w.names k) met.1 sound refl refl))
      ∙ ap (on_delete w (called w.names k) x) (called_alike k met.0)

  -- after an object was put into both, the one is a part of the other
  module _ (at : Key) (x : WorldEntry) (ns : Names) where
    abbrev whole_put : World
    whole_put = record { entries = fin.insert w.entries at x; names = ns }

    abbrev part_put : World
    part_put = record { entries = fin.insert v.entries at x; names = ns }

    here_alike : (q : Key) → is_key q at ≡ true → stands part_put q ≡ stands whole_put q
    here_alike q e = at_key_put v.entries at q x e ∙ sym (at_key_put w.entries at q x e)

    still_by : (q : Key) → (is_key q at ≡ true) ⊎ (is_key q at ≡ false) → stands v q ≡ stands w q → stands part_put q ≡ stands whole_put q
    still_by q (inl e) h = here_alike q e
    still_by q (inr e) h = at_other v.entries at q x e ∙ h ∙ sym (at_other w.entries at q x e)

    still_alike : (q : Key) → stands v q ≡ stands w q → stands part_put q ≡ stands whole_put q
    still_alike q h = still_by q (cases_Bool (is_key q at)) h

    put_by : (q : Key) → (is_key q at ≡ true) ⊎ (is_key q at ≡ false) → (stands v q ≡ stands w q) ⊎ IsLeftOut t ks w v q → (stands part_put q ≡ stands whole_put q) ⊎ IsLeftOut t ks whole_put part_put q
    put_by q b (inl h) = inl (still_by q b h)
    put_by q (inl e) (inr o) = inl (here_alike q e)
    put_by q (inr e) (inr o) = inr (record { out = o.out; there = o.there; nothing = at_other v.entries at q x e ∙ o.nothing; first = at_other w.entries at q x e ∙ o.first })

    put_part : ((k : Key) (p : ℤ) → named ns k ≡ Some p → (stands part_put (with_id k p) ≡ stands whole_put (with_id k p)) × (entry_of t (with_id k p) ≡ None)) → IsPart t ks whole_put part_put
    put_part picked = record { names = refl; at = λ q. put_by q (cases_Bool (is_key q at)) (part.at q); picked = picked }

    put_kept : ns ≡ w.names → IsPart t ks whole_put part_put
    put_kept same = put_part (λ k p h. let was = part.picked k p (sym (ap (λ (ms : Names). named ms k) same) ∙ h) in (still_alike (with_id k p) was.0, was.1))

    picked_by : (k j : Key) (p q : ℤ) (b : Bool) → at ≡ with_id k p → entry_of t (with_id k p) ≡ None → is_key j k ≡ b → cond b (Some p) (named w.names j) ≡ Some q
        → (stands part_put (with_id j q) ≡ stands whole_put (with_id j q)) × (entry_of t (with_id j q) ≡ None)
    picked_by k j p q true here none is e =
        let same : with_id k p ≡ with_id j q = λ i. with_id (sym (one_key j k is) i) (both p q (Some p) refl e i) in
        subst (λ (r : Key). (stands part_put r ≡ stands whole_put r) × (entry_of t r ≡ None)) same (here_alike (with_id k p) (key_same (with_id k p) at (sym here)), none)
    picked_by k j p q false here none is e = let was = part.picked j q e in (still_alike (with_id j q) was.0, was.1)

  abbrev named_alike : World
  named_alike = record { entries = v.entries; names = w.names }

  same_part : v ≡ named_alike
  same_part = λ i. let x : World = record { entries = v.entries; names = part.names i } in x

  after_by : (c : Change) (p : ℤ) → IsFresh v t c p → IsPart t ks (after w c p) (after named_alike c p)
  after_by (Create k c) p fresh =
      let x : WorldEntry = record { version = 1; content = Some (renamed (called w.names) c) } in
      put_part (with_id k p) x ((k, p) ∷ w.names) (λ j q h. picked_by (with_id k p) x ((k, p) ∷ w.names) k j p q (is_key j k) refl fresh.2 refl h)
  after_by (Modify k n c) p fresh = let x : WorldEntry = record { version = n + 1; content = Some (renamed (called w.names) c) } in put_kept (called w.names k) x w.names refl
  after_by (Delete k n) p fresh = let x : WorldEntry = record { version = n + 1; content = None } in put_kept (called w.names k) x w.names refl

  -- and after a change it is a part of the whole after it
  pub after_part : (c : Change) (p : ℤ) → IsFresh v t c p → IsPart t ks (after w c p) (after v c p)
  after_part c p fresh = subst (λ (u : World). IsPart t ks (after w c p) (after u c p)) (sym same_part) (after_by c p fresh)
