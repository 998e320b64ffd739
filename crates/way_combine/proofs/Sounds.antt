-- The table after ways are joined is sound.
use Rattle.std.proofs.Common.{◌≡◌, ◌||◌, ◌&&◌, ℕ, ℤ, pos, Bool, true, false, cond, not, is_some, List, [], ◌∷◌, Option, Some, None, Ok, refl, sym, ap, ◌∙◌, subst, map, IsTrue}
use mathlib.Core.Logic.{◌⊎◌, inl, inr}
use Rattle.std.specs.List.{filter, find, list_any}
use Rattle.std.specs.Ordering.{int_eq}
use Rattle.std.specs.Option.{option_map_or, option_and_then, unwrap_or, is_none}
use Rattle.std.specs.Cmp.{second_so}
use Rattle.std.proofs.lemmas.Bool.Decides.{Decides-int_eq}
use Rattle.std.proofs.lemmas.Bool.{and_from}
use Rattle.std.proofs.Math.Bool.{or-true}
use Rattle.osm_base.specs.Content.{node, kind_of_content}
use Rattle.osm_base.specs.Rank.{is_key}
use Rattle.osm_base.specs.Tags.{Pair}
use Rattle.osm_base.proofs.AnyMap.{list_any_map}
use Rattle.osm_base.proofs.RisingKeys.{one_key, key_itself, in_filter}
use Rattle.osm_base.specs.declared.key.Key.{Key}
use Rattle.osm_base.specs.declared.key.Kind.TheVariants as kind
use Rattle.osm_base.specs.declared.members.Member.{Member}
use Rattle.osm_base.specs.declared.content.Content.{Content}
use Rattle.osm_base.specs.declared.content.Content.TheVariants as content
use Rattle.osm_table.specs.declared.entry.Base.{Base}
use Rattle.osm_table.specs.declared.entry.Base.TheVariants.{New, Live, Gone}
use Rattle.osm_table.specs.declared.entry.Conflict.{Conflict}
use Rattle.osm_table.specs.declared.entry.Entry.{Entry}
use Rattle.osm_table.specs.declared.entry.Entry.TheVariants.{Incomplete, Known}
use Rattle.osm_table.specs.Table.{TableValue, entry_of, keys_by_rank, uses, mine_of, Each, IsThere}
use Rattle.dataset.specs.Sound.{IsSound, IsSoundEntry, IsNumber, LivesIn}
use Rattle.dataset.proofs.Changes.{deleted_entry, either_there}
use Rattle.dataset.proofs.Listed.{user_uses}
use Rattle.tool_api.specs.declared.kinds.Kinds.TheVariants.{Ways}
use Rattle.tool_api.specs.declared.refusal.Refusal.TheVariants.{MemberClash}
use Rattle.tool_api.specs.Checks.{is_named, first_of, target_test, entry_test, twice_test, list_tests}
use Rattle.tool_api.specs.Changes.{edit, delete, deleted, with_mine, content_of}
use Rattle.tool_api.specs.Closing.{closing_tests, in_conflict}
use Rattle.tool_api.specs.Gone.{is_relation}
use Rattle.tool_api.specs.Upkeep.{is_among, folded}
use Rattle.tool_api.specs.Split.{way_refs}
use Rattle.tool_api.specs.Combine.{joined, united, all_tags, clashes, member_test, kept_way, as_way, fold_runs, relations_among, combined}
use Rattle.tool_api.proofs.Least.{has_key}
use Rattle.tool_api.proofs.Passed.{Lives, lives, named_lives, passes, both_none, none_passes, passed_tests, none_in}
use Rattle.way_combine.proofs.Among.{way_kind, user_is}
use Rattle.way_combine.proofs.Joints.{Only, joined_only}
use Rattle.way_combine.proofs.Runs.{folds_alike, folded_stays, Stays}
use Rattle.tool_api.proofs.Bools.{left_alone}
use Rattle.tool_api.proofs.Sounds.{edited_there}
use Rattle.tool_api.proofs.Changed.{entry_thrice, next_thrice, four_cases, leaves_conflict, fits_edited, sound_edited, edited_from, deleted_from}
use Rattle.tool_api.proofs.Named.{uses_one, some_user, kept_named}

-- The nodes of references.

int_itself : (n : ℤ) → int_eq n n ≡ true
int_itself n = (Decides-int_eq n n).1 refl

int_one : (n m : ℤ) → int_eq n m ≡ true → n ≡ m
int_one n m e = (Decides-int_eq n m).0 e

nodes_case : (n m : ℤ) (ids : List ℤ) (b : Bool) → int_eq n m ≡ b → (b || is_among ids n) ≡ true → (is_among ids n ≡ true → list_any (is_key (node n)) (map node ids) ≡ true) → list_any (is_key (node n)) (map node (m ∷ ids)) ≡ true
nodes_case n m ids true is e rest = ap (λ b. b || list_any (is_key (node n)) (map node ids)) (ap (λ (x : ℤ). is_key (node n) (node x)) (sym (int_one n m is)) ∙ key_itself (node n))
nodes_case n m ids false is e rest = ap (λ b. is_key (node n) (node m) || b) (rest e) ∙ or-true (is_key (node n) (node m))

among_nodes : (ids : List ℤ) (n : ℤ) → is_among ids n ≡ true → list_any (is_key (node n)) (map node ids) ≡ true
among_nodes [] n h = cc
among_nodes (m ∷ ids) n h = nodes_case n m ids (int_eq n m) refl h (among_nodes ids n)

abbrev NodeOf : List ℤ → Key → Type 0
NodeOf ids r = (n : ℤ) × (r ≡ node n) × (is_among ids n ≡ true)

node_case : (m : ℤ) (ids : List ℤ) (r : Key) (b : Bool) → is_key r (node m) ≡ b → (b || list_any (is_key r) (map node ids)) ≡ true → (list_any (is_key r) (map node ids) ≡ true → NodeOf ids r) → NodeOf (m ∷ ids) r
node_case m ids r true is e rest = (m, one_key r (node m) is, ap (λ b. b || is_among ids m) (int_itself m))
node_case m ids r false is e rest = let w = rest e in (w.0, w.1, ap (λ b. int_eq w.0 m || b) w.2 ∙ or-true (int_eq w.0 m))

node_among : (ids : List ℤ) (r : Key) → list_any (is_key r) (map node ids) ≡ true → NodeOf ids r
node_among [] r h = cc
node_among (m ∷ ids) r h = node_case m ids r (is_key r (node m)) refl h (node_among ids r)

-- The premises, in one place.
pub record Passed (t : TableValue) (limit : ℕ) (ways : List Key) (refs : List ℤ) (kept : Key) : Type 0 where
  pub sound : IsSound t
  pub tests : list_tests t Ways ways ≡ None
  pub joins : joined t ways ≡ Ok refs
  pub members : member_test t ways ≡ None
  pub kept_is : kept_way ways ≡ Some kept
  pub closed : closing_tests t limit ways (combined t ways refs kept) ≡ None

module _ (t : TableValue) (limit : ℕ) (ways : List Key) (refs : List ℤ) (kept : Key) (p : Passed t limit ways refs kept) where
  abbrev others : List Key
  others = filter (λ k. not (is_key kept k)) ways

  abbrev rels : List Key
  rels = relations_among t ways

  abbrev whole : Content → Content
  whole = as_way refs (united (all_tags t ways))

  abbrev folds : Content → Content
  folds = fold_runs ways kept

  abbrev after : TableValue
  after = combined t ways refs kept

  targets : first_of (target_test t Ways) ways ≡ None
  targets = (both_none (twice_test [] ways) (first_of (target_test t Ways) ways) p.tests).1

  looks : (q : Key) → entry_of after q ≡ cond (is_named (kept ∷ []) q) (edit t whole q) (cond (is_named others q) (delete t q) (cond (is_named rels q) (edit t folds q) (entry_of t q)))
  looks q = entry_thrice t (edit t folds) (delete t) (edit t whole) rels others (kept ∷ []) q

  named_way : (q : Key) → is_named ways q ≡ true → q.kind ≡ kind.Way
  named_way q named = way_kind t ways q targets named

  live : (q : Key) (x : Entry) → is_named ways q ≡ true → entry_of t q ≡ Some x → Lives x
  live q x named is = named_lives t Ways ways q x targets named is

  only_kept : (q : Key) → is_named (kept ∷ []) q ≡ true → q ≡ kept
  only_kept q h = one_key q kept (left_alone (is_key q kept) h)

  kept_among : (q : Key) → is_named (kept ∷ []) q ≡ true → is_named ways q ≡ true
  kept_among q h = ap (is_named ways) (only_kept q h) ∙ kept_named ways kept p.kept_is

  other_among : (q : Key) → is_named others q ≡ true → is_named ways q ≡ true
  other_among q h = second_so (not (is_key kept q)) (is_named ways q) (sym (in_filter (λ (k : Key). not (is_key kept k)) q ways) ∙ h)

  -- Each entry by itself.

  kept_sound : (q : Key) (e : Entry) → entry_of after q ≡ Some e → is_named (kept ∷ []) q ≡ true → edit t whole q ≡ Some e → IsSoundEntry t.next q e
  kept_sound q e has here is = edited_from (IsSoundEntry t.next q) whole e (entry_of t q) is (λ x was same. by x (live q x (kept_among q here) was) was same)
    where
      by : (x : Entry) → Lives x → entry_of t q ≡ Some x → with_mine whole x ≡ e → IsSoundEntry t.next q e
      by x (lives base c) was same = subst (IsSoundEntry t.next q) same
          (sound_edited t.next q base c (whole c) (sym (named_way q (kept_among q here))) (fits_edited t after limit ways q base c (whole c) p.closed was (has ∙ ap Some (sym same))) (p.sound.entries q _ was))

  other_sound : (q : Key) (e : Entry) → is_named others q ≡ true → delete t q ≡ Some e → IsSoundEntry t.next q e
  other_sound q e here is = deleted_from (IsSoundEntry t.next q) e (entry_of t q) is (λ x was same. by x (live q x (other_among q here) was) was same)
    where
      at : (base : Base) (c : Content) → IsSoundEntry t.next q (Known base (Some c) None) → deleted (Known base (Some c) None) ≡ Some e → IsSoundEntry t.next q e
      at New c s same = cc
      at (Live v d m) c s same = subst (IsSoundEntry t.next q) (let i : Known (Live v d m) None None ≡ e = cc in i) (deleted_entry t.next q (Live v d m) (Some c) None refl s)
      at (Gone v m) c s same = subst (IsSoundEntry t.next q) (let i : Known (Gone v m) None None ≡ e = cc in i) (deleted_entry t.next q (Gone v m) (Some c) None refl s)

      by : (x : Entry) → Lives x → entry_of t q ≡ Some x → deleted x ≡ Some e → IsSoundEntry t.next q e
      by x (lives base c) was same = at base c (p.sound.entries q _ was) same

  kind_folds : (c : Content) → kind_of_content (folds c) ≡ kind_of_content c
  kind_folds (content.Node tags at) = refl
  kind_folds (content.Way tags refs) = refl
  kind_folds (content.Relation tags members) = refl

  no_conflict : (x : Entry) → Lives x → in_conflict (Some x) ≡ false
  no_conflict x (lives base c) = refl

  calm : (q : Key) (base : Base) (c : Content) (conflict : Conflict) → entry_of t q ≡ Some (Known base (Some c) (Some conflict)) → (b : Bool) → is_named ways q ≡ b → entry_of after q ≡ entry_of t q
  calm q base c conflict was true named = (let e : true ≡ false = no_conflict _ (live q _ named was) in cc)
  calm q base c conflict was false named = sym (leaves_conflict t after ways q (passed_tests t after limit ways p.closed).leaves_conflict (ap in_conflict was) named)

  rel_sound : (q : Key) (e : Entry) → entry_of after q ≡ Some e → edit t folds q ≡ Some e → IsSoundEntry t.next q e
  rel_sound q e has is = edited_from (IsSoundEntry t.next q) folds e (entry_of t q) is by
    where
      by : (x : Entry) → entry_of t q ≡ Some x → with_mine folds x ≡ e → IsSoundEntry t.next q e
      by Incomplete was same = subst (IsSoundEntry t.next q) same (p.sound.entries q _ was)
      by (Known base None conflict) was same = subst (IsSoundEntry t.next q) same (p.sound.entries q _ was)
      by (Known base (Some c) None) was same = subst (IsSoundEntry t.next q) same
          (sound_edited t.next q base c (folds c) (kind_folds c ∙ (p.sound.entries q _ was).kinds.1) (fits_edited t after limit ways q base c (folds c) p.closed was (has ∙ ap Some (sym same))) (p.sound.entries q _ was))
      by (Known base (Some c) (Some conflict)) was same = p.sound.entries q e (sym (calm q base c conflict was (is_named ways q) refl) ∙ has)

  entry_sound : (q : Key) (e : Entry) → entry_of after q ≡ Some e → IsSoundEntry t.next q e
  entry_sound q e has = four_cases (IsSoundEntry t.next q e) (is_named (kept ∷ []) q) (is_named others q) (is_named rels q) (edit t whole q) (delete t q) (edit t folds q) (entry_of t q) e (sym (looks q) ∙ has)
      (kept_sound q e has) (other_sound q e) (λ here is. rel_sound q e has is) (λ a b c is. p.sound.entries q e is)

  -- What entries refer to.

  cut_there : (a b : Bool) (x y z : Option Entry) → (a ≡ true) ⊎ (b ≡ false) → IsThere x → IsThere z → IsThere (cond a x (cond b y z))
  cut_there true b x y z h f g = f
  cut_there false false x y z h f g = g
  cut_there false true x y z (inl e) f g = cc
  cut_there false true x y z (inr e) f g = cc

  -- what isn't deleted stays there
  stays : (r : Key) → (is_named (kept ∷ []) r ≡ true) ⊎ (is_named others r ≡ false) → IsThere (entry_of t r) → IsThere (entry_of after r)
  stays r h there = subst IsThere (sym (looks r)) (cut_there (is_named (kept ∷ []) r) (is_named others r) (edit t whole r) (delete t r) _ h (edited_there whole (entry_of t r) there)
      (either_there (is_named rels r) (edit t folds r) (entry_of t r) (edited_there folds (entry_of t r) there) there))

  not_other : (r : Key) (b : Bool) → is_named others r ≡ b → (is_named ways r ≡ true → b ≡ false) → b ≡ false
  not_other r true is h = h (other_among r is)
  not_other r false is h = refl

  node_stays : (r : Key) → r.kind ≡ kind.Node → IsThere (entry_of t r) → IsThere (entry_of after r)
  node_stays r is there = stays r (inr (not_other r (is_named others r) refl (λ named. let e : kind.Way ≡ kind.Node = sym (named_way r named) ∙ is in cc))) there

  living : (x : Entry) → Lives x → IsThere (Some x)
  living x (lives base c) = refl

  -- the kept way is there
  kept_there : IsThere (entry_of after kept)
  kept_there = stays kept (inl (ap (λ b. b || false) (key_itself kept))) (at (entry_of t kept) refl)
    where
      at : (o : Option Entry) → entry_of t kept ≡ o → IsThere (entry_of t kept)
      at None is = (let e : entry_test Ways kept None ≡ None = ap (entry_test Ways kept) (sym is) ∙ passes (target_test t Ways) ways kept targets (kept_named ways kept p.kept_is) in cc)
      at (Some x) is = subst IsThere (sym is) (living x (live kept x (kept_named ways kept p.kept_is) is))

  -- the references of the ways are there, and so are the joined ones
  abbrev NodeThere : ℤ → Type 0
  NodeThere n = IsThere (entry_of t (node n))

  way_nodes : (k : Key) (o : Option Entry) → entry_of t k ≡ o → Only NodeThere (way_refs (option_and_then mine_of o))
  way_nodes k None is n h = cc
  way_nodes k (Some Incomplete) is n h = cc
  way_nodes k (Some (Known base None conflict)) is n h = cc
  way_nodes k (Some (Known base (Some (content.Node tags at)) conflict)) is n h = cc
  way_nodes k (Some (Known base (Some (content.Relation tags members)) conflict)) is n h = cc
  way_nodes k (Some (Known base (Some (content.Way tags ids)) conflict)) is n h = p.sound.closed k _ is (node n) (among_nodes ids n h)

  joined_there : Only NodeThere refs
  joined_there = joined_only NodeThere t ways refs (λ k named. way_nodes k (entry_of t k) refl) p.joins

  whole_closed : (r : Key) → list_any (is_key r) (map node refs) ≡ true → IsThere (entry_of after r)
  whole_closed r h =
      let w = node_among refs r h in
      subst (λ (k : Key). IsThere (entry_of after k)) (sym w.1) (node_stays (node w.0) refl (joined_there w.0 w.2))

  kept_closed : (q : Key) (e : Entry) → is_named (kept ∷ []) q ≡ true → edit t whole q ≡ Some e → LivesIn after e
  kept_closed q e here is = edited_from (LivesIn after) whole e (entry_of t q) is (λ x was same. by x (live q x (kept_among q here) was) same)
    where
      by : (x : Entry) → Lives x → with_mine whole x ≡ e → LivesIn after e
      by x (lives base c) same = subst (LivesIn after) same whole_closed

  other_closed : (q : Key) (e : Entry) → is_named others q ≡ true → delete t q ≡ Some e → LivesIn after e
  other_closed q e here is = deleted_from (LivesIn after) e (entry_of t q) is (λ x was same. by x (live q x (other_among q here) was) same)
    where
      at : (base : Base) (c : Content) → deleted (Known base (Some c) None) ≡ Some e → LivesIn after e
      at New c same = cc
      at (Live v d m) c same = subst (LivesIn after) (let i : Known (Live v d m) None None ≡ e = cc in i) (λ r used. cc)
      at (Gone v m) c same = subst (LivesIn after) (let i : Known (Gone v m) None None ≡ e = cc in i) (λ r used. cc)

      by : (x : Entry) → Lives x → deleted x ≡ Some e → LivesIn after e
      by x (lives base c) same = at base c same

  -- a living relation's members fold
  no_clash : (q : Key) (e : Entry) → entry_of t q ≡ Some e → clashes ways (content_of t q) ≡ false
  no_clash q e is = none_passes (λ (k : Key). clashes ways (content_of t k)) (keys_by_rank t) q (none_in (find (λ (k : Key). clashes ways (content_of t k)) (keys_by_rank t)) MemberClash p.members) (has_key t q (ap is_some is))

  members_closed : (q : Key) (base : Base) (tags : List Pair) (ms : List Member) (conflict : Option Conflict) (r : Key) (o : Option (List Member)) → entry_of t q ≡ Some (Known base (Some (content.Relation tags ms)) conflict) → folded ways kept ms ≡ o
      → list_any (is_key r) (map (λ (m : Member). m.key) (unwrap_or o ms)) ≡ true → IsThere (entry_of after r)
  members_closed q base tags ms conflict r None was is used =
      let calm : is_none (folded ways (record { kind = kind.Way; id = pos 0 }) ms) ≡ false = ap (λ (o : Option Entry). clashes ways (option_and_then mine_of o)) (sym was) ∙ no_clash q _ was in
      let e : true ≡ false = ap is_none (sym is) ∙ folds_alike ways kept (record { kind = kind.Way; id = pos 0 }) ms ∙ calm in cc
  members_closed q base tags ms conflict r (Some out) was is used = by (folded_stays ways kept r ms out is (sym (list_any_map (is_key r) (λ (m : Member). m.key) out) ∙ used))
    where
      by : Stays ways kept ms r → IsThere (entry_of after r)
      by (inl e) = subst (λ (k : Key). IsThere (entry_of after k)) (sym e) kept_there
      by (inr h) = stays r (inr (not_other r (is_named others r) refl (λ named. let e : true ≡ false = sym named ∙ h.0 in cc))) (p.sound.closed q _ was r (list_any_map (is_key r) (λ (m : Member). m.key) ms ∙ h.1))

  folded_closed : (q : Key) (x : Entry) → entry_of t q ≡ Some x → LivesIn after (with_mine folds x)
  folded_closed q Incomplete was r used = cc
  folded_closed q (Known base None conflict) was r used = cc
  folded_closed q (Known base (Some (content.Node tags at)) conflict) was r used = cc
  folded_closed q (Known base (Some (content.Way tags ids)) conflict) was r used =
      node_stays r (ap (λ (k : Key). k.kind) (node_among ids r used).1) (p.sound.closed q _ was r used)
  folded_closed q (Known base (Some (content.Relation tags ms)) conflict) was r used = members_closed q base tags ms conflict r (folded ways kept ms) was refl used

  rel_closed : (q : Key) (e : Entry) → edit t folds q ≡ Some e → LivesIn after e
  rel_closed q e is = edited_from (LivesIn after) folds e (entry_of t q) is (λ x was same. subst (LivesIn after) same (folded_closed q x was))

  -- who refers to one of the ways is one of the relations
  user_among : (q r : Key) (e : Entry) → entry_of t q ≡ Some e → IsTrue (uses e r) → is_named ways r ≡ true → is_named rels q ≡ true
  user_among q r e is used named =
      let usage : option_map_or (λ (x : Entry). uses x r) (entry_of t q) false ≡ true = ap (λ (o : Option Entry). option_map_or (λ (x : Entry). uses x r) o false) is ∙ used in
      let h = user_is r (entry_of t q) (named_way r named) usage in
      in_filter (λ (k : Key). option_map_or is_relation (content_of t k) false && uses_one t ways k) q (keys_by_rank t)
      ∙ and_from _ _ (and_from _ _ h.1 (some_user t ways q r named (user_uses t r q ∙ usage))) (has_key t q h.0)

  rest_closed : (q : Key) (e : Entry) → is_named rels q ≡ false → entry_of t q ≡ Some e → LivesIn after e
  rest_closed q e apart is r used =
      stays r (inr (not_other r (is_named others r) refl (λ named. let e : true ≡ false = sym (user_among q r e is used named) ∙ apart in cc))) (p.sound.closed q e is r used)

  closed : (q : Key) (e : Entry) → entry_of after q ≡ Some e → LivesIn after e
  closed q e has = four_cases (LivesIn after e) (is_named (kept ∷ []) q) (is_named others q) (is_named rels q) (edit t whole q) (delete t q) (edit t folds q) (entry_of t q) e (sym (looks q) ∙ has)
      (kept_closed q e) (other_closed q e) (λ here has_rel. rel_closed q e has_rel) (λ a b c is. rest_closed q e c is)

  next_is : after.next ≡ t.next
  next_is = next_thrice t (edit t folds) (delete t) (edit t whole) rels others (kept ∷ [])

  -- The table after ways are joined is sound, where the job passes its tests.
  pub combined_sound : IsSound after
  combined_sound = record {
    entries = subst (λ (n : ℕ). Each after (IsSoundEntry n)) (sym next_is) entry_sound;
    closed = closed;
    number = subst IsNumber (sym next_is) p.sound.number;
  }
