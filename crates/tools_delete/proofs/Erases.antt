-- Erasing keeps a table sound.
use Rattle.std.proofs.Common.{◌≡◌, ◌&&◌, ℕ, ℤ, Bool, true, false, not, is_some, List, [], filter, map, Option, Some, None, refl, sym, ap, ◌∙◌, subst, int_eq}
use mathlib.Core.Logic.{◌⊎◌, inl, inr}
use Rattle.std.proofs.Math.Bool.{and_comm}
use Rattle.std.proofs.lemmas.Bool.{not-true, not_from_false, or_parts, and_right, or_from}
use Rattle.std.specs.List.{find, list_all, list_any}
use Rattle.std.specs.Option.{option_map_or, option_and_then}
use Rattle.std.specs.Cmp.{first_so, second_so}
use Rattle.osm_base.specs.Rank.{is_key}
use Rattle.osm_base.specs.Content.{node, kind_of_content}
use Rattle.osm_base.specs.declared.key.Kind.{Kind}
use Rattle.osm_base.specs.declared.key.Kind.TheVariants as kind
use Rattle.osm_base.specs.declared.key.Key.{Key}
use Rattle.osm_base.specs.declared.members.Member.{Member}
use Rattle.osm_base.specs.declared.content.Content.{Content}
use Rattle.osm_base.specs.declared.content.Content.TheVariants as content
use Rattle.osm_base.proofs.AnyMap.{list_any_map}
use Rattle.osm_base.proofs.RisingKeys.{one_key}
use Rattle.osm_base.proofs.Tests.{by_bool, by_either, never}
use Rattle.osm_base.proofs.Lists.{any_dedup}
use Rattle.osm_table.specs.declared.entry.Entry.{Entry}
use Rattle.osm_table.specs.declared.entry.Entry.TheVariants.{Incomplete, Known}
use Rattle.osm_table.specs.Table.{TableValue, entry_of, mine_of, uses, users, keys_by_rank, Each, IfContent, IsThere}
use Rattle.dataset.specs.Diff.{same_at}
use Rattle.dataset.specs.Sound.{IsSound, IsSoundEntry, IsNumber, LivesIn}
use Rattle.dataset.proofs.Differs.{same_at_decides}
use Rattle.tool_api.specs.declared.kinds.Kinds.TheVariants.{Any}
use Rattle.tool_api.specs.declared.refusal.Refusal.TheVariants.{InConflict}
use Rattle.tool_api.specs.Checks.{is_named, first_of, list_tests, target_test, twice_test}
use Rattle.tool_api.specs.Changes.{content_of, with_mine}
use Rattle.tool_api.specs.Basic.{with_members, with_refs}
use Rattle.tool_api.specs.Closing.{closing, closing_tests, in_conflict, makes_unfit}
use Rattle.tool_api.specs.Gone.{erase, erased, falls, goes, is_bare, is_left, is_mended, is_mended_content, is_relation, is_short, members_without, mended}
use Rattle.tool_api.proofs.Least.{changes_conflict_at, has_key}
use Rattle.tool_api.proofs.Passed.{Lives, lives, named_lives, both_none, passed_tests, keeps_fit, fits_or_stays, none_passes, none_in}
use Rattle.tool_api.proofs.Sounds.{content_edited, edited_there}
use Rattle.tool_api.proofs.Named.{is_user, node_kind}
use Rattle.tools_delete.specs.Touched.{lives_as_relation, lives_as_way}
use Rattle.tools_delete.proofs.Anys.{any_filter, any_gives, any_weaker, not_all}
use Rattle.tools_delete.proofs.Deletes.{left_refers, left_sound}
use Rattle.tools_delete.proofs.Erased.{After, related, remade, left, untouched, after, entry_erased, loss, mends, next_erased, stays_related, touched}

-- What the closing tests let pass.

calm : (a b : Bool) (c : Bool) → b ≡ false → (a && not b && not c) ≡ false → (a ≡ false) ⊎ (c ≡ true)
calm true true c e h = cc
calm true false true e h = inr refl
calm true false false e h = cc
calm false b c e h = inl refl

-- an entry that isn't named has no conflict, or stays as it is
leaves_conflict : (t u : TableValue) (limit : ℕ) (named : List Key) (k : Key) (e : Entry) → closing_tests t limit named u ≡ None → is_named named k ≡ false → entry_of t k ≡ Some e → (in_conflict (entry_of t k) ≡ false) ⊎ (entry_of t k ≡ entry_of u k)
leaves_conflict t u limit named k e passed unnamed has =
    elim (calm (in_conflict (entry_of t k)) (is_named named k) (same_at (entry_of t k) (entry_of u k)) unnamed
    (none_passes (changes_conflict_at t named u) (keys_by_rank t) k (none_in (find (changes_conflict_at t named u) (keys_by_rank t)) InConflict (passed_tests t u limit named passed).leaves_conflict) (has_key t k (ap is_some has)))) [
      | inl calm ↦ inl calm
      | inr same ↦ inr ((same_at_decides (entry_of t k) (entry_of u k)).0 same)
    ]

-- References of what is left.

-- what stays of a list was there, and isn't gone
module _ {X : Type 0} (key : X → Key) (gone : Key → Bool) (r : Key) (xs : List X) where
  left_among : list_any (λ x. is_key r (key x)) (filter (λ x. not (gone (key x))) xs) ≡ true → (gone r ≡ false) × (is_named (map key xs) r ≡ true)
  left_among has =
      let any : list_any (λ x. not (gone (key x)) && is_key r (key x)) xs ≡ true = sym (any_filter (λ x. not (gone (key x))) (λ x. is_key r (key x)) xs) ∙ has in (
        any_gives (gone r ≡ false) (λ x. not (gone (key x)) && is_key r (key x)) xs any
            (λ x e. ap gone (one_key r (key x) (second_so (not (gone (key x))) (is_key r (key x)) e)) ∙ not-true (gone (key x)) (first_so (not (gone (key x))) (is_key r (key x)) e)),
        list_any_map (is_key r) key xs ∙ any_weaker (λ x. not (gone (key x)) && is_key r (key x)) (λ x. is_key r (key x)) xs (λ x e. second_so (not (gone (key x))) (is_key r (key x)) e) any,
      )

members_left : (gone : Key → Bool) (r : Key) (members : List Member) → is_named (map (λ (m : Member). m.key) (members_without gone members)) r ≡ true
    → (gone r ≡ false) × (is_named (map (λ (m : Member). m.key) members) r ≡ true)
members_left gone r members has = left_among (λ (m : Member). m.key) gone r members (sym (list_any_map (is_key r) (λ (m : Member). m.key) (members_without gone members)) ∙ has)

refs_left : (named : List Key) (r : Key) (refs : List ℤ) → is_named (map node (mended named refs)) r ≡ true → (is_named named r ≡ false) × (is_named (map node refs) r ≡ true)
refs_left named r refs has =
    left_among node (is_named named) r refs
    (any_dedup (λ n. is_key r (node n)) int_eq (filter (λ n. not (is_named named (node n))) refs) (sym (list_any_map (is_key r) node (mended named refs)) ∙ has))

-- a way that isn't mended has no named node
unnamed_ref : (named : List Key) (r : Key) (refs : List ℤ) → list_any (λ n. is_named named (node n)) refs ≡ false → is_named (map node refs) r ≡ true → is_named named r ≡ false
unnamed_ref named r refs none has =
    by_bool (is_named named r)
    (λ is. never (list_any (λ n. is_named named (node n)) refs)
    (any_weaker (λ n. is_key r (node n)) (λ n. is_named named (node n)) refs (λ n e. ap (is_named named) (sym (one_key r (node n) e)) ∙ is) (sym (list_any_map (is_key r) node refs) ∙ has)) none)
    (λ isnt. isnt)

-- Nodes of ways that stay.

-- what is of a node's kind is no way
no_way : (named : List Key) (k : Kind) (o : Option Content) → IfContent o (λ c. kind_of_content c ≡ k) → k ≡ kind.Node → option_map_or (is_mended_content named) o false ≡ false
no_way named k None of is = refl
no_way named k (Some (content.Node tags at)) of is = refl
no_way named k (Some (content.Way tags refs)) of is = let e : kind.Way ≡ kind.Node = of ∙ is in cc
no_way named k (Some (content.Relation tags members)) of is = refl

mine_kind : (n : ℕ) (k : Key) (o : Option Entry) → ((e : Entry) → o ≡ Some e → IsSoundEntry n k e) → IfContent (option_and_then mine_of o) (λ c. kind_of_content c ≡ k.kind)
mine_kind n k None s = tt
mine_kind n k (Some Incomplete) s = tt
mine_kind n k (Some (Known base mine conflict)) s = (s (Known base mine conflict) refl).kinds.1

-- a node that isn't named, of a way that doesn't fall, stays
node_stays : (t : TableValue) (named : List Key) (k r : Key) → IsSound t → is_named (users t r) k ≡ true → falls t named k ≡ false → r.kind ≡ kind.Node → is_named named r ≡ false → goes t named r ≡ false
node_stays t named k r s used stays is unnamed =
    let unmended : is_mended t named r ≡ false = and_right (not (is_named named r)) _ (no_way named r.kind (content_of t r) (mine_kind t.next r (entry_of t r) (s.entries r)) is) in
    let upright : falls t named r ≡ false = or_from (is_named named r) _ unnamed (ap (λ b. b && option_map_or (is_short named) (content_of t r) false) unmended) in
    or_from (falls t named r) (is_left t named r) upright
    (and_right (is_bare (entry_of t r) && list_any (λ u. falls t named u && lives_as_way t u) (users t r)) _ (not_all (falls t named) k (users t r) used stays))

-- what is there stays there, unless it goes
there_touched : (mending losing : Bool) (f g : Content → Content) (o : Option Entry) → IsThere o → IsThere (touched false mending losing f g o)
there_touched true true f g o there = edited_there g o there
there_touched false true f g o there = edited_there g o there
there_touched true false f g o there = edited_there f o there
there_touched false false f g o there = there

stays_there : (t : TableValue) (named : List Key) (r : Key) → goes t named r ≡ false → IsThere (entry_of t r) → IsThere (entry_of (erased t named) r)
stays_there t named r stays there =
    subst IsThere (sym (entry_erased t named r ∙ ap (λ b. touched b (mends t named r) (stays_related t named r) (with_refs (mended named)) (loss t named) (entry_of t r)) stays))
    (there_touched (mends t named r) (stays_related t named r) (with_refs (mended named)) (loss t named) (entry_of t r) there)

-- Who refers to what.

loss_refers : (gone : Key → Bool) (x : Entry) (r : Key) → option_map_or is_relation (mine_of x) false ≡ true → uses (with_mine (with_members (members_without gone)) x) r ≡ true → (gone r ≡ false) × (uses x r ≡ true)
loss_refers gone Incomplete r is used = cc
loss_refers gone (Known base None conflict) r is used = cc
loss_refers gone (Known base (Some (content.Node tags at)) conflict) r is used = cc
loss_refers gone (Known base (Some (content.Way tags refs)) conflict) r is used = cc
loss_refers gone (Known base (Some (content.Relation tags members)) conflict) r is used = members_left gone r members used

-- a reference of a way that stays: to a node that isn't named
abbrev IsNodeLeft : List Key → Key → Type 0
IsNodeLeft named r = (r.kind ≡ kind.Node) × (is_named named r ≡ false)

mend_refers : (named : List Key) (x : Entry) (r : Key) → option_map_or (is_mended_content named) (mine_of x) false ≡ true → uses (with_mine (with_refs (mended named)) x) r ≡ true → IsNodeLeft named r × (uses x r ≡ true)
mend_refers named Incomplete r is used = cc
mend_refers named (Known base None conflict) r is used = cc
mend_refers named (Known base (Some (content.Node tags at)) conflict) r is used = cc
mend_refers named (Known base (Some (content.Way tags refs)) conflict) r is used = let p = refs_left named r refs used in ((node_kind r refs p.1, p.0), p.1)
mend_refers named (Known base (Some (content.Relation tags members)) conflict) r is used = cc

kept_refers : (named : List Key) (x : Entry) (r : Key) → option_map_or is_relation (mine_of x) false ≡ false → option_map_or (is_mended_content named) (mine_of x) false ≡ false → uses x r ≡ true → IsNodeLeft named r
kept_refers named Incomplete r unrelated unmended used = cc
kept_refers named (Known base None conflict) r unrelated unmended used = cc
kept_refers named (Known base (Some (content.Node tags at)) conflict) r unrelated unmended used = cc
kept_refers named (Known base (Some (content.Way tags refs)) conflict) r unrelated unmended used = (node_kind r refs used, unnamed_ref named r refs unmended used)
kept_refers named (Known base (Some (content.Relation tags members)) conflict) r unrelated unmended used = cc

-- what a content passes, by the entry that is there
of_content : (t : TableValue) (k : Key) (x : Entry) (test : Content → Bool) → entry_of t k ≡ Some x → option_map_or test (mine_of x) false ≡ option_map_or test (content_of t k) false
of_content t k x test old = ap (λ (o : Option Entry). option_map_or test (option_and_then mine_of o) false) (sym old)

right_false : (a b : Bool) → (a && b) ≡ false → a ≡ true → b ≡ false
right_false a b e h = ap (λ c. c && b) (sym h) ∙ e

module _ (t : TableValue) (named : List Key) (s : IsSound t) (k r : Key) where
  -- what an entry refers to is there if it stays
  refers_there : (x : Entry) → entry_of t k ≡ Some x → uses x r ≡ true → goes t named r ≡ false → IsThere (entry_of (erased t named) r)
  refers_there x old used stays = stays_there t named r stays (s.closed k x old r used)

  way_there : (x : Entry) → entry_of t k ≡ Some x → uses x r ≡ true → falls t named k ≡ false → IsNodeLeft named r → IsThere (entry_of (erased t named) r)
  way_there x old used upright node = refers_there x old used (node_stays t named k r s (is_user t k r x old used) upright node.0 node.1)

  after_there : (e : Entry) → After t named k e → uses e r ≡ true → IsThere (entry_of (erased t named) r)
  after_there e (related x old same is) used =
      let p = loss_refers (goes t named) x r (of_content t k x is_relation old ∙ second_so (not (falls t named k)) (lives_as_relation t k) is) (ap (λ y. uses y r) same ∙ used) in
      refers_there x old p.1 p.0
  after_there e (remade x old same is) used =
      let way = of_content t k x (is_mended_content named) old ∙ second_so (not (is_named named k)) _ (first_so (is_mended t named k) (not (falls t named k)) is) in
      let p = mend_refers named x r way (ap (λ y. uses y r) same ∙ used) in
      way_there x old p.1 (not-true (falls t named k) (second_so (is_mended t named k) (not (falls t named k)) is)) p.0
  after_there e (left x old same gone) used = never (uses e r) used (left_refers x e r same)
  after_there e (untouched old unrelated unmended stays) used =
      let upright : falls t named k ≡ false = (or_parts (falls t named k) (is_left t named k) stays).0 in
      let unnamed : is_named named k ≡ false = (or_parts (is_named named k) _ upright).0 in
      let up = not_from_false (falls t named k) upright in
      way_there e old used upright
      (kept_refers named e r (of_content t k e is_relation old ∙ right_false (not (falls t named k)) (lives_as_relation t k) unrelated up)
      (of_content t k e (is_mended_content named) old
      ∙ right_false (not (is_named named k)) _ (right_false (not (falls t named k)) (is_mended t named k) (and_comm (not (falls t named k)) (is_mended t named k) ∙ unmended) up) (not_from_false (is_named named k) unnamed))
      used)

closed_erased : (t : TableValue) (named : List Key) → IsSound t → Each (erased t named) (λ k e. LivesIn (erased t named) e)
closed_erased t named s k e has r used = after_there t named s k r e (after t named k e has) used

-- Entries by themselves.

edited_sound : (n : ℕ) (f : Content → Content) (k : Key) (x : Entry) → ((c : Content) → kind_of_content (f c) ≡ kind_of_content c) → in_conflict (Some x) ≡ false → makes_unfit (mine_of x) (mine_of (with_mine f x)) ≡ false → IsSoundEntry n k x → IsSoundEntry n k (with_mine f x)
edited_sound n f k Incomplete kind calm fine s = s
edited_sound n f k (Known base None conflict) kind calm fine s = s
edited_sound n f k (Known base (Some c) None) kind calm fine s = content_edited n f k base c (kind c) (fits_or_stays (Some c) (f c) fine) s
edited_sound n f k (Known base (Some c) (Some conflict)) kind calm fine s = cc

refs_kind : (f : List ℤ → List ℤ) (c : Content) → kind_of_content (with_refs f c) ≡ kind_of_content c
refs_kind f (content.Node tags at) = refl
refs_kind f (content.Way tags refs) = refl
refs_kind f (content.Relation tags members) = refl

members_kind : (f : List Member → List Member) (c : Content) → kind_of_content (with_members f c) ≡ kind_of_content c
members_kind f (content.Node tags at) = refl
members_kind f (content.Way tags refs) = refl
members_kind f (content.Relation tags members) = refl

lives_of : (x : Entry) → in_conflict (Some x) ≡ false → is_some (mine_of x) ≡ true → Lives x
lives_of Incomplete calm some = cc
lives_of (Known base None conflict) calm some = cc
lives_of (Known base (Some c) None) calm some = lives base c
lives_of (Known base (Some c) (Some conflict)) calm some = cc

some_mended : (named : List Key) (o : Option Content) → option_map_or (is_mended_content named) o false ≡ true → is_some o ≡ true
some_mended named None e = cc
some_mended named (Some c) e = refl

some_bare : (o : Option Entry) → is_bare o ≡ true → is_some (option_and_then mine_of o) ≡ true
some_bare None e = cc
some_bare (Some Incomplete) e = cc
some_bare (Some (Known base None conflict)) e = cc
some_bare (Some (Known base (Some c) conflict)) e = refl

-- what goes without being named has a content
some_going : (t : TableValue) (named : List Key) (k : Key) → goes t named k ≡ true → is_named named k ≡ false → is_some (content_of t k) ≡ true
some_going t named k gone unnamed =
    by_either (falls t named k) (is_left t named k) gone
    (λ fallen. by_either (is_named named k) _ fallen (λ is. never (is_named named k) is unnamed)
    (λ short. some_mended named (content_of t k) (second_so (not (is_named named k)) _ (first_so (is_mended t named k) _ short))))
    (λ bare. some_bare (entry_of t k) (first_so (is_bare (entry_of t k)) _ (first_so _ (list_all (falls t named) (users t k)) bare)))

-- what doesn't fall isn't named
unnamed_at : (t : TableValue) (named : List Key) (k : Key) → not (falls t named k) ≡ true → is_named named k ≡ false
unnamed_at t named k upright = (or_parts (is_named named k) _ (not-true (falls t named k) upright)).0

module _ (t : TableValue) (named : List Key) (limit : ℕ) (s : IsSound t) (listed : list_tests t Any named ≡ None) (passed : closing_tests t limit named (erased t named) ≡ None) (k : Key) (e : Entry) (has : entry_of (erased t named) k ≡ Some e) where
  -- an entry that isn't named stays as it is, or had no conflict
  by_calm : (x : Entry) → entry_of t k ≡ Some x → is_named named k ≡ false → (in_conflict (Some x) ≡ false → IsSoundEntry t.next k e) → IsSoundEntry t.next k e
  by_calm x old unnamed sound =
      elim (leaves_conflict t (erased t named) limit named k x passed unnamed old) [
        | inl calm ↦ sound (ap in_conflict (sym old) ∙ calm)
        | inr stays ↦ s.entries k e (stays ∙ has)
      ]

  edit_sound : (f : Content → Content) → ((c : Content) → kind_of_content (f c) ≡ kind_of_content c) → (x : Entry) → entry_of t k ≡ Some x → with_mine f x ≡ e → is_named named k ≡ false → IsSoundEntry t.next k e
  edit_sound f kind x old same unnamed =
      by_calm x old unnamed (λ calm. subst (IsSoundEntry t.next k) same (edited_sound t.next f k x kind calm
      ((let a = sym old in let b = sym (has ∙ ap Some (sym same)) in λ i. makes_unfit (option_and_then mine_of (a i)) (option_and_then mine_of (b i))) ∙ keeps_fit t (erased t named) limit named k e passed has)
      (s.entries k x old)))

  after_sound : After t named k e → IsSoundEntry t.next k e
  after_sound (related x old same is) = edit_sound (loss t named) (members_kind (members_without (goes t named))) x old same (unnamed_at t named k (first_so (not (falls t named k)) (lives_as_relation t k) is))
  after_sound (remade x old same is) = edit_sound (with_refs (mended named)) (refs_kind (mended named)) x old same (unnamed_at t named k (second_so (is_mended t named k) (not (falls t named k)) is))
  after_sound (left x old same gone) =
      by_bool (is_named named k)
      (λ is. left_sound t.next k x e (named_lives t Any named k x (both_none (twice_test [] named) (first_of (target_test t Any) named) listed).1 is old) same (s.entries k x old))
      (λ unnamed. by_calm x old unnamed
      (λ calm. left_sound t.next k x e (lives_of x calm (ap (λ (o : Option Entry). is_some (option_and_then mine_of o)) (sym old) ∙ some_going t named k gone unnamed)) same (s.entries k x old)))
  after_sound (untouched old unrelated unmended stays) = s.entries k e old

entries_erased : (t : TableValue) (named : List Key) (limit : ℕ) → IsSound t → list_tests t Any named ≡ None → closing_tests t limit named (erased t named) ≡ None → Each (erased t named) (IsSoundEntry t.next)
entries_erased t named limit s listed passed k e has = after_sound t named limit s listed passed k e has (after t named k e has)

-- Erasing keeps a table sound where the named objects pass the list tests and the new table the closing tests.
pub erase_sound : (t u : TableValue) (named : List Key) (limit : ℕ) → IsSound t → list_tests t Any named ≡ None → u ≡ erased t named → closing_tests t limit named u ≡ None → IsSound u
erase_sound t u named limit s listed is passed =
    subst IsSound (sym is) (record {
      entries = subst (λ n. Each (erased t named) (IsSoundEntry n)) (sym (next_erased t named)) (entries_erased t named limit s listed (ap (closing_tests t limit named) (sym is) ∙ passed));
      closed = closed_erased t named s;
      number = subst IsNumber (sym (next_erased t named)) s.number;
    })

pub erase_ends : (t u : TableValue) (ks made : List Key) (limit : ℕ) → list_tests t Any ks ≡ None → made ≡ [] → u ≡ erased t ks → closing t limit ks (record { keys = made; table = u }) ≡ erase t limit ks
erase_ends t u ks made limit passed nil is = rw (nil, is, passed) refl
