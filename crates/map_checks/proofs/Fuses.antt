-- The table after nodes are fused is sound, and of the nodes the kept one lives alone.
use Rattle.std.proofs.Common.{◌≡◌, ◌≤◌, ◌||◌, ℕ, Bool, true, false, cond, not, is_some, List, [], ◌∷◌, length, Option, Some, None, Ok, refl, sym, ap, ◌∙◌, subst, IsTrue, arith}
use Rattle.std.proofs.lemmas.Bool.{and_from}
use mathlib.Core.Logic.{◌⊎◌, inl, inr}
use Rattle.std.specs.List.{filter, find}
use Rattle.std.specs.Option.{option_map, option_map_or, option_and_then, option_or}
use Rattle.std.specs.Cmp.{second_so}
use Rattle.osm_base.specs.Content.{refers, kind_of_content}
use Rattle.osm_base.specs.Rank.{is_key}
use Rattle.osm_base.specs.Tags.{Pair}
use Rattle.osm_base.proofs.RisingKeys.{one_key, key_itself, key_turned, in_filter}
use Rattle.osm_base.specs.declared.key.Key.{Key}
use Rattle.osm_base.specs.declared.key.Kind.TheVariants as kind
use Rattle.osm_base.specs.declared.content.Content.{Content}
use Rattle.osm_base.specs.declared.content.Content.TheVariants as content
use Rattle.osm_table.specs.declared.entry.Base.{Base}
use Rattle.osm_table.specs.declared.entry.Base.TheVariants.{New, Live, Gone}
use Rattle.osm_table.specs.declared.entry.Conflict.{Conflict}
use Rattle.osm_table.specs.declared.entry.Entry.{Entry}
use Rattle.osm_table.specs.declared.entry.Entry.TheVariants.{Incomplete, Known}
use Rattle.osm_table.specs.Table.{TableValue, entry_of, uses, mine_of, Each, IsThere}
use Rattle.dataset.specs.Sound.{IsSound, IsSoundEntry, IsNumber, LivesIn}
use Rattle.dataset.proofs.Changes.{deleted_entry, either_there}
use Rattle.tool_api.specs.declared.kinds.Kinds.TheVariants.{Nodes}
use Rattle.tool_api.specs.Checks.{is_named, first_of, target_test, entry_test, twice_test, list_tests}
use Rattle.tool_api.specs.Changes.{Outcome, done, edit, delete, deleted, with_mine}
use Rattle.tool_api.specs.Closing.{closing_tests, in_conflict}
use Rattle.tool_api.specs.Basic.{with_tags}
use Rattle.tool_api.specs.Combine.{united, all_tags, clash_test, is_positive}
use Rattle.tool_api.specs.Fuse.{place_test, kept_node, fused_content, users_among, fused, fused_table, fuse}
use Rattle.tool_api.proofs.Bools.{left_alone}
use Rattle.tool_api.proofs.Passed.{Lives, lives, named_lives, passes, both_none, passed_tests}
use Rattle.tool_api.proofs.Sounds.{edited_there}
use Rattle.tool_api.proofs.Changed.{entry_thrice, next_thrice, four_cases, leaves_conflict, fits_edited, sound_edited, edited_from, deleted_from, kind_with}
use Rattle.tool_api.proofs.Named.{kept_named}
use Rattle.map_checks.specs.Kept.{lives_at, KeepsOne}
use Rattle.map_checks.proofs.Ends.{first_none, through, last_through}
use Rattle.map_checks.proofs.Renames.{same_kind, refers_moved, RefersMoved}
use Rattle.map_checks.proofs.Users.{node_kind, user_among}

-- a node refers to nothing
no_refs : (f : List Pair → List Pair) (c : Content) (r : Key) → kind_of_content c ≡ kind.Node → refers (with_tags f c) r ≡ false
no_refs f (content.Node tags at) r is = refl
no_refs f (content.Way tags refs) r is = cc
no_refs f (content.Relation tags members) r is = cc

-- What stands at the nodes.
module _ (t : TableValue) (nodes : List Key) (kept : Key) (tests : list_tests t Nodes nodes ≡ None) (kept_is : kept_node nodes ≡ Some kept) where
  abbrev others : List Key
  others = filter (λ k. not (is_key kept k)) nodes

  abbrev rels : List Key
  rels = users_among t nodes

  abbrev whole : Content → Content
  whole = with_tags (λ _. united (all_tags t nodes))

  abbrev moves : Content → Content
  moves = fused_content nodes kept

  abbrev after : TableValue
  after = fused t nodes kept

  targets : first_of (target_test t Nodes) nodes ≡ None
  targets = (both_none (twice_test [] nodes) (first_of (target_test t Nodes) nodes) tests).1

  looks : (q : Key) → entry_of after q ≡ cond (is_named (kept ∷ []) q) (edit t whole q) (cond (is_named others q) (delete t q) (cond (is_named rels q) (edit t moves q) (entry_of t q)))
  looks q = entry_thrice t (edit t moves) (delete t) (edit t whole) rels others (kept ∷ []) q

  named_node : (q : Key) → is_named nodes q ≡ true → q.kind ≡ kind.Node
  named_node q named = node_kind t nodes q targets named

  live : (q : Key) (x : Entry) → is_named nodes q ≡ true → entry_of t q ≡ Some x → Lives x
  live q x named is = named_lives t Nodes nodes q x targets named is

  only_kept : (q : Key) → is_named (kept ∷ []) q ≡ true → q ≡ kept
  only_kept q h = one_key q kept (left_alone (is_key q kept) h)

  kept_in : is_named nodes kept ≡ true
  kept_in = kept_named nodes kept kept_is

  kept_among : (q : Key) → is_named (kept ∷ []) q ≡ true → is_named nodes q ≡ true
  kept_among q h = ap (is_named nodes) (only_kept q h) ∙ kept_in

  kept_kind : kept.kind ≡ kind.Node
  kept_kind = named_node kept kept_in

  other_among : (q : Key) → is_named others q ≡ true → is_named nodes q ≡ true
  other_among q h = second_so (not (is_key kept q)) (is_named nodes q) (sym (in_filter (λ (k : Key). not (is_key kept k)) q nodes) ∙ h)

  living : (x : Entry) → Lives x → IsThere (Some x)
  living x (lives base c) = refl

  -- The kept one lives, the others don't.

  edited_lives : (x : Entry) → Lives x → is_some (option_and_then mine_of (Some (with_mine whole x))) ≡ true
  edited_lives x (lives base c) = refl

  deleted_dies : (x : Entry) → Lives x → is_some (option_and_then mine_of (option_and_then deleted (Some x))) ≡ false
  deleted_dies x (lives New c) = refl
  deleted_dies x (lives (Live v d m) c) = refl
  deleted_dies x (lives (Gone v m) c) = refl

  -- a named key has an entry that lives
  with_entry : (P : Type 0) (q : Key) → is_named nodes q ≡ true → (o : Option Entry) → entry_of t q ≡ o → ((x : Entry) → entry_of t q ≡ Some x → Lives x → P) → P
  with_entry P q named None is h = (let e : entry_test Nodes q None ≡ None = ap (entry_test Nodes q) (sym is) ∙ passes (target_test t Nodes) nodes q targets named in cc)
  with_entry P q named (Some x) is h = h x is (live q x named is)

  alone_case : (q : Key) (b : Bool) → is_key kept q ≡ b → is_named nodes q ≡ true → lives_at after q ≡ b
  alone_case q true is named = with_entry (lives_at after q ≡ true) q named (entry_of t q) refl (λ x was l.
      (λ i. is_some (option_and_then mine_of (looks q i)))
      ∙ (λ i. is_some (option_and_then mine_of (cond ((ap (λ b. b || false) (key_turned q kept ∙ is)) i) (edit t whole q) (cond (is_named others q) (delete t q) (cond (is_named rels q) (edit t moves q) (entry_of t q))))))
      ∙ (λ i. is_some (option_and_then mine_of (option_map (with_mine whole) (was i))))
      ∙ edited_lives x l)
  alone_case q false is named = with_entry (lives_at after q ≡ false) q named (entry_of t q) refl (λ x was l.
      let other : is_named others q ≡ true = in_filter (λ (k : Key). not (is_key kept k)) q nodes ∙ and_from _ _ (ap not is) named in
      (λ i. is_some (option_and_then mine_of (looks q i)))
      ∙ (λ i. is_some (option_and_then mine_of (cond ((ap (λ b. b || false) (key_turned q kept ∙ is)) i) (edit t whole q) (cond (other i) (delete t q) (cond (is_named rels q) (edit t moves q) (entry_of t q))))))
      ∙ (λ i. is_some (option_and_then mine_of (option_and_then deleted (was i))))
      ∙ deleted_dies x l)

  pub keeps_one : KeepsOne nodes after
  keeps_one = record { kept = kept; is_kept = kept_is; alone = λ q named. alone_case q (is_key kept q) refl named }

  -- Each entry by itself, where the job passes the closing tests.
  module _ (limit : ℕ) (s : IsSound t) (passed_closing : closing_tests t limit nodes after ≡ None) where
    kept_sound : (q : Key) (e : Entry) → entry_of after q ≡ Some e → is_named (kept ∷ []) q ≡ true → edit t whole q ≡ Some e → IsSoundEntry t.next q e
    kept_sound q e has here is = edited_from (IsSoundEntry t.next q) whole e (entry_of t q) is (λ x was same. by x (live q x (kept_among q here) was) was same)
      where
        by : (x : Entry) → Lives x → entry_of t q ≡ Some x → with_mine whole x ≡ e → IsSoundEntry t.next q e
        by x (lives base c) was same = subst (IsSoundEntry t.next q) same
            (sound_edited t.next q base c (whole c) (kind_with _ c ∙ (s.entries q _ was).kinds.1) (fits_edited t after limit nodes q base c (whole c) passed_closing was (has ∙ ap Some (sym same))) (s.entries q _ was))

    other_sound : (q : Key) (e : Entry) → is_named others q ≡ true → delete t q ≡ Some e → IsSoundEntry t.next q e
    other_sound q e here is = deleted_from (IsSoundEntry t.next q) e (entry_of t q) is (λ x was same. by x (live q x (other_among q here) was) was same)
      where
        at : (base : Base) (c : Content) → IsSoundEntry t.next q (Known base (Some c) None) → deleted (Known base (Some c) None) ≡ Some e → IsSoundEntry t.next q e
        at New c h same = cc
        at (Live v d m) c h same = subst (IsSoundEntry t.next q) (let i : Known (Live v d m) None None ≡ e = cc in i) (deleted_entry t.next q (Live v d m) (Some c) None refl h)
        at (Gone v m) c h same = subst (IsSoundEntry t.next q) (let i : Known (Gone v m) None None ≡ e = cc in i) (deleted_entry t.next q (Gone v m) (Some c) None refl h)

        by : (x : Entry) → Lives x → entry_of t q ≡ Some x → deleted x ≡ Some e → IsSoundEntry t.next q e
        by x (lives base c) was same = at base c (s.entries q _ was) same

    no_conflict : (x : Entry) → Lives x → in_conflict (Some x) ≡ false
    no_conflict x (lives base c) = refl

    calm : (q : Key) (base : Base) (c : Content) (conflict : Conflict) → entry_of t q ≡ Some (Known base (Some c) (Some conflict)) → (b : Bool) → is_named nodes q ≡ b → entry_of after q ≡ entry_of t q
    calm q base c conflict was true named = (let e : true ≡ false = no_conflict _ (live q _ named was) in cc)
    calm q base c conflict was false named = sym (leaves_conflict t after nodes q (passed_tests t after limit nodes passed_closing).leaves_conflict (ap in_conflict was) named)

    user_sound : (q : Key) (e : Entry) → entry_of after q ≡ Some e → edit t moves q ≡ Some e → IsSoundEntry t.next q e
    user_sound q e has is = edited_from (IsSoundEntry t.next q) moves e (entry_of t q) is by
      where
        by : (x : Entry) → entry_of t q ≡ Some x → with_mine moves x ≡ e → IsSoundEntry t.next q e
        by Incomplete was same = subst (IsSoundEntry t.next q) same (s.entries q _ was)
        by (Known base None conflict) was same = subst (IsSoundEntry t.next q) same (s.entries q _ was)
        by (Known base (Some c) None) was same = subst (IsSoundEntry t.next q) same
            (sound_edited t.next q base c (moves c) (same_kind nodes kept c ∙ (s.entries q _ was).kinds.1) (fits_edited t after limit nodes q base c (moves c) passed_closing was (has ∙ ap Some (sym same))) (s.entries q _ was))
        by (Known base (Some c) (Some conflict)) was same = s.entries q e (sym (calm q base c conflict was (is_named nodes q) refl) ∙ has)

    entry_sound : (q : Key) (e : Entry) → entry_of after q ≡ Some e → IsSoundEntry t.next q e
    entry_sound q e has = four_cases (IsSoundEntry t.next q e) (is_named (kept ∷ []) q) (is_named others q) (is_named rels q) (edit t whole q) (delete t q) (edit t moves q) (entry_of t q) e (sym (looks q) ∙ has)
        (kept_sound q e has) (other_sound q e) (λ here is. user_sound q e has is) (λ a b c is. s.entries q e is)

    -- What entries refer to.

    cut_there : (a b : Bool) (x y z : Option Entry) → (a ≡ true) ⊎ (b ≡ false) → IsThere x → IsThere z → IsThere (cond a x (cond b y z))
    cut_there true b x y z h f g = f
    cut_there false false x y z h f g = g
    cut_there false true x y z (inl e) f g = cc
    cut_there false true x y z (inr e) f g = cc

    -- what isn't deleted stays there
    stays : (r : Key) → (is_named (kept ∷ []) r ≡ true) ⊎ (is_named others r ≡ false) → IsThere (entry_of t r) → IsThere (entry_of after r)
    stays r h there = subst IsThere (sym (looks r)) (cut_there (is_named (kept ∷ []) r) (is_named others r) (edit t whole r) (delete t r) _ h (edited_there whole (entry_of t r) there)
        (either_there (is_named rels r) (edit t moves r) (entry_of t r) (edited_there moves (entry_of t r) there) there))

    not_other : (r : Key) (b : Bool) → is_named others r ≡ b → (is_named nodes r ≡ true → b ≡ false) → b ≡ false
    not_other r true is h = h (other_among r is)
    not_other r false is h = refl

    apart_stays : (r : Key) → is_named nodes r ≡ false → IsThere (entry_of t r) → IsThere (entry_of after r)
    apart_stays r apart there = stays r (inr (not_other r (is_named others r) refl (λ named. let e : true ≡ false = sym named ∙ apart in cc))) there

    -- the kept node is there
    kept_there : IsThere (entry_of after kept)
    kept_there = stays kept (inl (ap (λ b. b || false) (key_itself kept))) (with_entry (IsThere (entry_of t kept)) kept kept_in (entry_of t kept) refl (λ x was l. subst IsThere (sym was) (living x l)))

    kept_closed : (q : Key) (e : Entry) → is_named (kept ∷ []) q ≡ true → edit t whole q ≡ Some e → LivesIn after e
    kept_closed q e here is = edited_from (LivesIn after) whole e (entry_of t q) is (λ x was same. by x (live q x (kept_among q here) was) was same)
      where
        by : (x : Entry) → Lives x → entry_of t q ≡ Some x → with_mine whole x ≡ e → LivesIn after e
        by x (lives base c) was same = subst (LivesIn after) same
            (λ r used. let n : true ≡ false = sym used ∙ no_refs _ c r ((s.entries q _ was).kinds.1 ∙ named_node q (kept_among q here)) in cc)

    other_closed : (q : Key) (e : Entry) → is_named others q ≡ true → delete t q ≡ Some e → LivesIn after e
    other_closed q e here is = deleted_from (LivesIn after) e (entry_of t q) is (λ x was same. by x (live q x (other_among q here) was) same)
      where
        at : (base : Base) (c : Content) → deleted (Known base (Some c) None) ≡ Some e → LivesIn after e
        at New c same = cc
        at (Live v d m) c same = subst (LivesIn after) (let i : Known (Live v d m) None None ≡ e = cc in i) (λ r used. cc)
        at (Gone v m) c same = subst (LivesIn after) (let i : Known (Gone v m) None None ≡ e = cc in i) (λ r used. cc)

        by : (x : Entry) → Lives x → deleted x ≡ Some e → LivesIn after e
        by x (lives base c) same = at base c same

    moved_there : (q : Key) (base : Base) (c : Content) (conflict : Option Conflict) (r : Key) → entry_of t q ≡ Some (Known base (Some c) conflict) → RefersMoved nodes kept c r → IsThere (entry_of after r)
    moved_there q base c conflict r was (inl e) = subst (λ (k : Key). IsThere (entry_of after k)) (sym e) kept_there
    moved_there q base c conflict r was (inr h) = apart_stays r h.0 (s.closed q _ was r h.1)

    moved_closed : (q : Key) (x : Entry) → entry_of t q ≡ Some x → LivesIn after (with_mine moves x)
    moved_closed q Incomplete was r used = cc
    moved_closed q (Known base None conflict) was r used = cc
    moved_closed q (Known base (Some c) conflict) was r used = moved_there q base c conflict r was (refers_moved nodes kept c r kept_kind used)

    user_closed : (q : Key) (e : Entry) → edit t moves q ≡ Some e → LivesIn after e
    user_closed q e is = edited_from (LivesIn after) moves e (entry_of t q) is (λ x was same. subst (LivesIn after) same (moved_closed q x was))

    rest_case : (q r : Key) (e : Entry) (b : Bool) → is_named nodes r ≡ b → is_named rels q ≡ false → entry_of t q ≡ Some e → IsTrue (uses e r) → IsThere (entry_of after r)
    rest_case q r e true named apart is used =
        (let e : true ≡ false = sym (user_among t nodes q r named (ap (λ (o : Option Entry). option_map_or (λ (x : Entry). uses x r) o false) is ∙ used)) ∙ apart in cc)
    rest_case q r e false named apart is used = apart_stays r named (s.closed q e is r used)

    closed : (q : Key) (e : Entry) → entry_of after q ≡ Some e → LivesIn after e
    closed q e has = four_cases (LivesIn after e) (is_named (kept ∷ []) q) (is_named others q) (is_named rels q) (edit t whole q) (delete t q) (edit t moves q) (entry_of t q) e (sym (looks q) ∙ has)
        (kept_closed q e) (other_closed q e) (λ here is. user_closed q e is) (λ a b c is r used. rest_case q r e (is_named nodes r) refl c is used)

    next_is : after.next ≡ t.next
    next_is = next_thrice t (edit t moves) (delete t) (edit t whole) rels others (kept ∷ [])

    -- The table after nodes are fused is sound, where the job passes its tests.
    pub fused_sound : IsSound after
    fused_sound = record {
      entries = subst (λ (n : ℕ). Each after (IsSoundEntry n)) (sym next_is) entry_sound;
      closed = closed;
      number = subst IsNumber (sym next_is) s.number;
    }

-- Of at least two nodes one is kept.

kept_of : (first : Key) (o : Option Key) → (k : Key) × (option_or o (Some first) ≡ Some k)
kept_of first None = (first, refl)
kept_of first (Some k) = (k, refl)

some_kept : (nodes : List Key) → 2 ≤ length nodes → (k : Key) × (kept_node nodes ≡ Some k)
some_kept [] h = absurd (omega (arith, h))
some_kept (k ∷ ks) h = kept_of k (find (λ (j : Key). is_positive j.id) (k ∷ ks))

-- After a fuse that isn't refused the kept node is the only one of the named that lives.
pub leaves_one : (t : TableValue) (limit : ℕ) (nodes : List Key) (new : Outcome) → 2 ≤ length nodes → fuse t limit nodes ≡ Ok new → KeepsOne nodes new.table
leaves_one t limit nodes new two e =
    let k = some_kept nodes two in
    let a = through (list_tests t Nodes nodes) _ new e in
    let b = through (place_test t nodes) _ new a in
    let c = through (clash_test (all_tags t nodes)) _ new b in
    let table = fused_table t nodes (kept_node nodes) in
    subst (λ (o : Outcome). KeepsOne nodes o.table) (last_through (closing_tests t limit nodes table) (done table) new c)
    (subst (λ (o : Option Key). KeepsOne nodes (fused_table t nodes o)) (sym k.1) (keeps_one t nodes k.0 (first_none (list_tests t Nodes nodes) _ new e) k.1))
