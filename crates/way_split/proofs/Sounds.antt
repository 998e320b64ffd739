-- The table after a split is sound where it passes the closing tests.
--
-- It is seen as the old table with the new ways, in which the relations and then the way are changed: so each key that
-- a member names after the split is there before the relations change.
use Rattle.std.proofs.Common.{◌≡◌, ◌&&◌, ◌||◌, ◌+◌, ◌≤◌, ◌^◌, ℕ, ℤ, Bool, true, false, cond, not, is_some, nat_lt, List, [], ◌∷◌, ◌++◌, length, map, Option, Some, None, refl, sym, ap, ◌∙◌, subst, arith}
use mathlib.Core.Logic.{◌⊎◌, inl, inr}
use Rattle.std.specs.List.{AllByRecursion, find}
use Rattle.std.specs.Option.{option_map, option_map_or, option_and_then}
use Rattle.std.specs.FinMap as fin
use Rattle.std.specs.Cmp.{first_so}
use Rattle.osm_base.specs.Rank.{is_key}
use Rattle.osm_base.specs.RisingKeys.{is_in}
use Rattle.osm_base.specs.Content.{fits, kind_of_content, node}
use Rattle.osm_base.specs.Tags.{Pair}
use Rattle.osm_base.specs.declared.key.Key.{Key}
use Rattle.osm_base.specs.declared.key.Kind.{Kind}
use Rattle.osm_base.specs.declared.key.Kind.TheVariants as kind
use Rattle.osm_base.specs.declared.members.Member.{Member}
use Rattle.osm_base.specs.declared.content.Content.{Content}
use Rattle.osm_base.specs.declared.content.Content.TheVariants as content
use Rattle.osm_base.proofs.RisingKeys.{one_key, key_turned, in_filter}
use Rattle.osm_base.proofs.Tests.{by_bool}
use Rattle.osm_table.specs.declared.entry.Base.{Base}
use Rattle.osm_table.specs.declared.entry.Conflict.{Conflict}
use Rattle.osm_table.specs.declared.entry.Entry.{Entry}
use Rattle.osm_table.specs.declared.entry.Entry.TheVariants.{Incomplete, Known}
use Rattle.osm_table.specs.Table.{TableValue, entry_of, mine_of, keys_by_rank, users, Each, IsThere}
use Rattle.dataset.specs.Diff.{same_at}
use Rattle.dataset.specs.Sound.{IsSound, IsSoundEntry, IsNumber, LivesIn}
use Rattle.dataset.proofs.Differs.{same_at_decides}
use Rattle.dataset.proofs.Kept.{entry_more}
use Rattle.tool_api.specs.declared.kinds.Kinds.TheVariants.{Nodes, Ways}
use Rattle.tool_api.specs.declared.refusal.Refusal.TheVariants.{InConflict, WrongKind, NamedTwice, NotInWay}
use Rattle.tool_api.specs.Checks.{is_named, takes, conflict_test, entry_test, target_test, when}
use Rattle.tool_api.specs.Changes.{changed, edit, with_mine, new_key, all_added, content_of}
use Rattle.tool_api.specs.Closing.{closing_tests, in_conflict, changes_conflict, makes_unfit}
use Rattle.tool_api.specs.Basic.{with_refs}
use Rattle.tool_api.specs.Gone.{is_relation}
use Rattle.tool_api.specs.Upkeep.{is_among, replaced}
use Rattle.tool_api.specs.Split.{way_refs, tags_at, node_tests, split_pieces, keyed, piece_of, others, kept_refs, relations_of, split_table}
use Rattle.tool_api.proofs.Least.{has_key, changes_conflict_at}
use Rattle.tool_api.proofs.Looks.{entry_changed, next_changed}
use Rattle.tool_api.proofs.Passed.{both_none, none_passes, passed_tests, keeps_fit, fits_or_stays, none_in, passed_when}
use Rattle.tool_api.proofs.Sounds.{content_edited, each_changed, next_is}
use Rattle.job_laws.proofs.SplitHolds.{all_pieces_hold, parts_hold, all_filtered, found_holds}
use Rattle.job_laws.proofs.SplitMembers.{has_piece, replaced_refers, replaced_kind}
use Rattle.job_laws.proofs.SplitPartKeys.{pieces_are}
use Rattle.tool_api.proofs.Added.{RefersIn, next_added, there_all, fresh, new_fit, all_added_sound, number_room}
use Rattle.way_split.proofs.Added.{ways_of, new_there, all_added_changed, refer_on, nodes_there, there_nodes, ways_refer}
use Rattle.tool_api.proofs.Bools.{left_alone}

-- What passed the target tests of a way is a living way without conflict.
pub data IsWay : Option Entry → Type 0 where
  is_way : (base : Base) (tags : List Pair) (refs : List ℤ) → IsWay (Some (Known base (Some (content.Way tags refs)) None))

no_conflict : (base : Base) (tags : List Pair) (refs : List ℤ) (way : Key) (conflict : Option Conflict) → conflict_test way conflict ≡ None → IsWay (Some (Known base (Some (content.Way tags refs)) conflict))
no_conflict base tags refs way None e = is_way base tags refs
no_conflict base tags refs way (Some x) e = cc

way_content : (base : Base) (c : Content) (conflict : Option Conflict) (way : Key) → kind_of_content c ≡ way.kind → cond (takes Ways way.kind) (conflict_test way conflict) (Some (WrongKind way)) ≡ None → IsWay (Some (Known base (Some c) conflict))
way_content base (content.Node tags at) conflict way kind e = let f : Some (WrongKind way) ≡ None = ap (λ (k : Kind). cond (takes Ways k) (conflict_test way conflict) (Some (WrongKind way))) kind ∙ e in cc
way_content base (content.Way tags refs) conflict way kind e = no_conflict base tags refs way conflict (ap (λ (k : Kind). cond (takes Ways k) (conflict_test way conflict) (Some (WrongKind way))) kind ∙ e)
way_content base (content.Relation tags members) conflict way kind e = let f : Some (WrongKind way) ≡ None = ap (λ (k : Kind). cond (takes Ways k) (conflict_test way conflict) (Some (WrongKind way))) kind ∙ e in cc

way_case : (n : ℕ) (way : Key) (o : Option Entry) → ((e : Entry) → o ≡ Some e → IsSoundEntry n way e) → entry_test Ways way o ≡ None → IsWay o
way_case n way None sound e = cc
way_case n way (Some Incomplete) sound e = cc
way_case n way (Some (Known base None conflict)) sound e = cc
way_case n way (Some (Known base (Some c) conflict)) sound e = way_content base c conflict way (sound _ refl).kinds.1 e

pub way_lives : (t : TableValue) (way : Key) → IsSound t → target_test t Ways way ≡ None → IsWay (entry_of t way)
way_lives t way s passed = way_case t.next way (entry_of t way) (λ e is. s.entries way e is) passed

-- The relations of a split are living relations, other than the way and its nodes.
data IsRelation : Option Entry → Type 0 where
  is_rel : (base : Base) (tags : List Pair) (members : List Member) (conflict : Option Conflict) → IsRelation (Some (Known base (Some (content.Relation tags members)) conflict))

rel_case : (o : Option Entry) → option_map_or is_relation (option_and_then mine_of o) false ≡ true → IsRelation o
rel_case None e = let f : false ≡ true = e in cc
rel_case (Some Incomplete) e = let f : false ≡ true = e in cc
rel_case (Some (Known base None conflict)) e = let f : false ≡ true = e in cc
rel_case (Some (Known base (Some (content.Node tags at)) conflict)) e = let f : false ≡ true = e in cc
rel_case (Some (Known base (Some (content.Way tags refs)) conflict)) e = let f : false ≡ true = e in cc
rel_case (Some (Known base (Some (content.Relation tags members)) conflict)) e = is_rel base tags members conflict

related : (t : TableValue) (way k : Key) → is_named (relations_of t way) k ≡ true → IsRelation (entry_of t k)
related t way k named =
    rel_case (entry_of t k) (first_so (option_map_or is_relation (content_of t k) false) (is_in k (users t way))
    (sym (in_filter (λ j. option_map_or is_relation (content_of t j) false) k (users t way)) ∙ named))

way_there : (o : Option Entry) → IsWay o → IsThere o
way_there o (is_way base tags refs) = refl

is_turned : (j k : Key) → is_key k j ≡ false → is_key j k ≡ false
is_turned j k e = key_turned j k ∙ e

-- a key of relations isn't new
never_new : (o : Option Entry) → IsRelation o → o ≡ None → ⊥
never_new o (is_rel base tags members conflict) e = cc

relations_old : (t : TableValue) (way : Key) → IsSound t → (k : Kind) (m : ℕ) → t.next ≤ m → is_named (relations_of t way) (new_key k m) ≡ false
relations_old t way s k m low =
    by_bool (is_named (relations_of t way) (new_key k m)) (λ named. absurd (never_new _ (related t way (new_key k m) named) (fresh t k m s low))) (λ out. out)

never_way : (o : Option Entry) → IsWay o → o ≡ None → ⊥
never_way o (is_way base tags refs) e = cc

way_old : (t : TableValue) (way : Key) → IsSound t → IsWay (entry_of t way) → (k : Kind) (m : ℕ) → t.next ≤ m → is_key (new_key k m) way ≡ false
way_old t way s lives k m low =
    by_bool (is_key (new_key k m) way) (λ is. absurd (never_way _ lives (ap (entry_of t) (sym (one_key (new_key k m) way is)) ∙ fresh t k m s low))) (λ out. out)

both_kinds : (o : Option Entry) → IsWay o → IsRelation o → ⊥
both_kinds o (is_way base tags refs) r = elim r [ ]

not_way : (t : TableValue) (way k : Key) → IsWay (entry_of t way) → IsRelation (entry_of t k) → is_key k way ≡ false
not_way t way k lives rel = by_bool (is_key k way) (λ is. absurd (both_kinds (entry_of t way) lives (subst (λ (j : Key). IsRelation (entry_of t j)) (one_key k way is) rel))) (λ out. out)

-- nodes that passed their tests are nodes
node_case : (k j : Key) (b rest : Bool) → is_key k j ≡ b → (b || rest) ≡ true → takes Nodes j.kind ≡ true → (rest ≡ true → takes Nodes k.kind ≡ true) → takes Nodes k.kind ≡ true
node_case k j true rest is e here there = ap (λ (x : Key). takes Nodes x.kind) (one_key k j is) ∙ here
node_case k j false rest is e here there = there e

node_kinds : (refs : List ℤ) (seen ks : List Key) (k : Key) → node_tests refs seen ks ≡ None → is_named ks k ≡ true → takes Nodes k.kind ≡ true
node_kinds refs seen [] k passed named = let f : false ≡ true = named in cc
node_kinds refs seen (j ∷ ks) k passed named =
    let p = both_none (when (is_named seen j) (NamedTwice j)) _ passed in
    let q = both_none (when (not (takes Nodes j.kind)) (WrongKind j)) _ p.1 in
    let r = both_none (when (not (is_among refs j.id)) (NotInWay j)) _ q.1 in
    node_case k j (is_key k j) (is_named ks k) refl named (passed_when (takes Nodes j.kind) (WrongKind j) q.0) (node_kinds refs (seen ++ j ∷ []) ks k r.1)

not_node : (n : ℕ) (k : Key) (o : Option Entry) → IsRelation o → ((e : Entry) → o ≡ Some e → IsSoundEntry n k e) → takes Nodes k.kind ≡ true → ⊥
not_node n k o (is_rel base tags members conflict) sound e =
    let f : false ≡ true = ap (takes Nodes) (sound _ refl).kinds.1 ∙ e in cc

-- Changes of sound tables.

-- what is put is there, so what was there stays there
there_case : (b named : Bool) (g old : Option Entry) → named ≡ b → (named ≡ true → IsThere g) → IsThere old → IsThere (cond b g old)
there_case true named g old is here h = here is
there_case false named g old is here h = h

there_changed : (x : TableValue) (g : Key → Option Entry) (ks : List Key) → ((k : Key) → is_named ks k ≡ true → IsThere (g k)) → (r : Key) → IsThere (entry_of x r) → IsThere (entry_of (changed x g ks) r)
there_changed x g ks here r h = subst IsThere (sym (entry_changed x g ks r)) (there_case (is_named ks r) (is_named ks r) (g r) (entry_of x r) refl (here r) h)

-- a table with sound entries put, whose references are there
put_sound : (x : TableValue) (g : Key → Option Entry) (ks : List Key) → IsSound x → ((k : Key) (e : Entry) → is_named ks k ≡ true → g k ≡ Some e → IsSoundEntry x.next k e × LivesIn x e)
    → ((k : Key) → is_named ks k ≡ true → IsThere (g k)) → IsSound (changed x g ks)
put_sound x g ks s own here = record {
  entries = next_is (λ n. Each (changed x g ks) (IsSoundEntry n)) x g ks (each_changed (IsSoundEntry x.next) x g ks s.entries (λ k e named is. (own k e named is).0));
  closed = each_changed (λ k e. LivesIn (changed x g ks) e) x g ks (λ k e is r used. there_changed x g ks here r (s.closed k e is r used))
      (λ k e named is r used. there_changed x g ks here r ((own k e named is).1 r used));
  number = next_is IsNumber x g ks s.number;
}

-- an entry with another content, which fits or is the same, and the same where it is in conflict
content_sound : (n : ℕ) (k : Key) (base : Base) (c d : Content) (conflict : Option Conflict) → IsSoundEntry n k (Known base (Some c) conflict) → kind_of_content d ≡ kind_of_content c → (fits d ≡ true) ⊎ (Some c ≡ Some d)
    → (is_some conflict ≡ true → Known base (Some c) conflict ≡ Known base (Some d) conflict) → IsSoundEntry n k (Known base (Some d) conflict)
content_sound n k base c d None s kind fit calm = content_edited n (λ _. d) k base c kind fit s
content_sound n k base c d (Some x) s kind fit calm = subst (IsSoundEntry n k) (calm refl) s

-- an entry in conflict that isn't named stays
calm_case : (a b c : Bool) (P : Type 0) → a ≡ true → b ≡ false → (a && not b && not c) ≡ false → (c ≡ true → P) → P
calm_case true false true P e f g same = same refl
calm_case true false false P e f g same = cc
calm_case true true c P e f g same = cc
calm_case false b c P e f g same = cc

calm : (t u : TableValue) (limit : ℕ) (named : List Key) (k : Key) (e f : Entry) → closing_tests t limit named u ≡ None → is_named named k ≡ false → entry_of t k ≡ Some e → entry_of u k ≡ Some f → in_conflict (Some e) ≡ true → e ≡ f
calm t u limit named k e f passed out is there conflict =
    let d : changes_conflict named k (Some e) (Some f) ≡ false =
    (let a = sym is in let b = sym there in λ i. changes_conflict named k (a i) (b i))
    ∙ none_passes (changes_conflict_at t named u) (keys_by_rank t) k (none_in (find (changes_conflict_at t named u) (keys_by_rank t)) InConflict (passed_tests t u limit named passed).leaves_conflict) (has_key t k (ap is_some is)) in
    calm_case (in_conflict (Some e)) (is_named named k) (same_at (Some e) (Some f)) (e ≡ f) conflict out d (λ same. ap (λ (o : Option Entry). option_map_or (λ (x : Entry). x) o e) ((same_at_decides (Some e) (Some f)).0 same))

-- The split.

-- the contents of the new ways
abbrev news : TableValue → Key → List (Key × List ℤ) → List Content
news t way parts = ways_of (tags_at t way) (others way parts)

-- the edit of the relations, and of the way
abbrev members_edit : TableValue → Key → List (Key × List ℤ) → Key → Option Entry
members_edit t way parts = edit t (replaced t way (map (piece_of way) parts))

abbrev refs_edit : TableValue → Key → List (Key × List ℤ) → Key → Option Entry
refs_edit t way parts = edit t (with_refs (λ _. kept_refs way parts))

-- the table with the new ways, then with the relations changed, then with the way changed
abbrev begun : TableValue → Key → List (Key × List ℤ) → TableValue
begun t way parts = all_added t (news t way parts)

abbrev joined : TableValue → Key → List (Key × List ℤ) → TableValue
joined t way parts = changed (begun t way parts) (members_edit t way parts) (relations_of t way)

abbrev ended : TableValue → Key → List (Key × List ℤ) → TableValue
ended t way parts = changed (joined t way parts) (refs_edit t way parts) (way ∷ [])

no_more : (b : Bool) → b ≡ false → (b || false) ≡ false
no_more false e = refl
no_more true e = cc

split_ended : (t : TableValue) (way : Key) (parts : List (Key × List ℤ)) → IsSound t → IsWay (entry_of t way) → split_table t way parts ≡ ended t way parts
split_ended t way parts s lives =
    all_added_changed (changed t (members_edit t way parts) (relations_of t way)) (refs_edit t way parts) (way ∷ []) (news t way parts)
    (λ k m low. no_more (is_key (new_key k m) way) (way_old t way s lives k m (subst (λ n. n ≤ m) (next_changed t (members_edit t way parts) (relations_of t way)) low)))
    ∙ ap (λ (x : TableValue). changed x (refs_edit t way parts) (way ∷ []))
    (all_added_changed t (members_edit t way parts) (relations_of t way) (news t way parts) (relations_old t way s))

-- the nodes of the way, and so of its pieces, are there
way_nodes : (t : TableValue) (way : Key) (o : Option Entry) → IsWay o → ((e : Entry) → o ≡ Some e → LivesIn t e) → AllByRecursion (λ n. IsThere (entry_of t (node n))) (way_refs (option_and_then mine_of o))
way_nodes t way o (is_way base tags refs) closed = there_nodes t tags refs (closed _ refl)

parts_there : (t : TableValue) (way : Key) (nodes : List Key) (kept : ℕ) → IsSound t → IsWay (entry_of t way)
    → AllByRecursion (λ (p : Key × List ℤ). AllByRecursion (λ n. IsThere (entry_of t (node n))) p.1) (keyed way kept 0 t.next (split_pieces t way nodes))
parts_there t way nodes kept s lives =
    parts_hold (λ n. IsThere (entry_of t (node n))) way kept 0 t.next (split_pieces t way nodes)
    (all_pieces_hold (λ n. IsThere (entry_of t (node n))) (λ n. is_named nodes (node n)) (way_refs (content_of t way))
    (way_nodes t way (entry_of t way) lives (λ e is. s.closed way e is)))

begun_sound : (t : TableValue) (limit : ℕ) (named : List Key) (way : Key) (parts : List (Key × List ℤ)) → IsSound t → IsWay (entry_of t way) → AllByRecursion (λ (p : Key × List ℤ). AllByRecursion (λ n. IsThere (entry_of t (node n))) p.1) parts
    → closing_tests t limit named (split_table t way parts) ≡ None → IsSound (begun t way parts)
begun_sound t limit named way parts s lives there passed =
    let u = split_table t way parts in
    let changed_all = changed (changed t (members_edit t way parts) (relations_of t way)) (refs_edit t way parts) (way ∷ []) in
    let next : changed_all.next ≡ t.next = next_changed (changed t (members_edit t way parts) (relations_of t way)) (refs_edit t way parts) (way ∷ []) ∙ next_changed t (members_edit t way parts) (relations_of t way) in
    let one : 1 ≤ changed_all.next = subst (λ n. 1 ≤ n) (sym next) s.number.0 in
    let room : t.next + length (news t way parts) ≤ 10 ^ 18 =
    number_room (nat_lt limit (fin.len u.entries)) u.next (t.next + length (news t way parts)) (passed_tests t u limit named passed).room
    (next_added changed_all (news t way parts) ∙ ap (λ n. n + length (news t way parts)) next) in
    all_added_sound t (news t way parts) s
    (new_fit t u changed_all (news t way parts) refl one (λ k m low. fresh t k m s (subst (λ n. n ≤ m) next low)) (λ k e has. keeps_fit t u limit named k e passed has))
    (refer_on t (news t way parts) (news t way parts) (ways_refer t (tags_at t way) (others way parts) (all_filtered (λ (p : Key × List ℤ). AllByRecursion (λ n. IsThere (entry_of t (node n))) p.1) (λ p. not (is_key way p.0)) parts there))) room

-- each piece's key is there in the table with the new ways
piece_there : (t : TableValue) (way : Key) (kept : ℕ) (ps : List (List ℤ)) (r : Key) → IsSound t → IsWay (entry_of t way) → has_piece r (map (piece_of way) (keyed way kept 0 t.next ps)) ≡ true → IsThere (entry_of (begun t way (keyed way kept 0 t.next ps)) r)
piece_there t way kept ps r s lives e =
    let parts = keyed way kept 0 t.next ps in
    pieces_are (λ k. IsThere (entry_of (begun t way parts) k)) way
    (there_all t (news t way parts) way (way_there (entry_of t way) lives)) kept t.next r ps
    (λ m low. is_turned way (new_key kind.Way m) (way_old t way s lives kind.Way m low))
    (λ m low high. new_there t (tags_at t way) (others way parts) m s.number.0 low high) e

-- what passed the tests of a split
pub record Passed (t : TableValue) (limit : ℕ) (way : Key) (nodes : List Key) (kept : ℕ) : Type 0 where
  pub sound : IsSound t
  pub lives : IsWay (entry_of t way)
  pub tested : node_tests (way_refs (content_of t way)) [] nodes ≡ None
  pub closing : closing_tests t limit (way ∷ nodes) (split_table t way (keyed way kept 0 t.next (split_pieces t way nodes))) ≡ None

abbrev parts_of : TableValue → Key → List Key → ℕ → List (Key × List ℤ)
parts_of t way nodes kept = keyed way kept 0 t.next (split_pieces t way nodes)

module _ (t : TableValue) (limit : ℕ) (way : Key) (nodes : List Key) (kept : ℕ) (p : Passed t limit way nodes kept) where
  end_passed : closing_tests t limit (way ∷ nodes) (ended t way (parts_of t way nodes kept)) ≡ None
  end_passed = ap (closing_tests t limit (way ∷ nodes)) (sym (split_ended t way (parts_of t way nodes kept) p.sound p.lives)) ∙ p.closing

  more : t.next ≤ (begun t way (parts_of t way nodes kept)).next
  more = let e = next_added t (news t way (parts_of t way nodes kept)) in omega (arith, e)

  -- the relations
  relation_out : (k : Key) → IsRelation (entry_of t k) → is_named (way ∷ nodes) k ≡ false
  relation_out k rel =
      let apart = not_way t way k p.lives rel in
      ap (λ b. b || is_named nodes k) apart
      ∙ by_bool (is_named nodes k)
      (λ named. absurd (not_node t.next k (entry_of t k) rel (λ e is. p.sound.entries k e is) (node_kinds (way_refs (content_of t way)) [] nodes k p.tested named))) (λ out. out)

  relation_at : (k : Key) (e : Entry) → is_named (relations_of t way) k ≡ true → members_edit t way (parts_of t way nodes kept) k ≡ Some e → entry_of (ended t way (parts_of t way nodes kept)) k ≡ Some e
  relation_at k e named put =
      let parts = parts_of t way nodes kept in
      let apart = not_way t way k p.lives (related t way k named) in
      entry_changed (joined t way parts) (refs_edit t way parts) (way ∷ []) k
      ∙ ap (λ b. cond (b || false) (refs_edit t way parts k) (entry_of (joined t way parts) k)) apart
      ∙ entry_changed (begun t way parts) (members_edit t way parts) (relations_of t way) k
      ∙ (λ i. cond (named i) (put i) (entry_of (begun t way parts) k))

  relation_case : (k : Key) (o : Option Entry) (e : Entry) → IsRelation o → entry_of t k ≡ o → is_named (relations_of t way) k ≡ true → option_map (with_mine (replaced t way (map (piece_of way) (parts_of t way nodes kept)))) o ≡ Some e
      → IsSoundEntry (begun t way (parts_of t way nodes kept)).next k e × LivesIn (begun t way (parts_of t way nodes kept)) e
  relation_case k o e (is_rel base tags members conflict) is named put =
      let parts = parts_of t way nodes kept in
      let u = ended t way parts in
      let c = content.Relation tags members in
      let d = replaced t way (map (piece_of way) parts) c in
      let same : Known base (Some d) conflict ≡ e = ap (λ (o : Option Entry). option_map_or (λ (x : Entry). x) o e) put in
      let there : entry_of u k ≡ Some (Known base (Some d) conflict) = relation_at k (Known base (Some d) conflict) named (ap (option_map (with_mine (replaced t way (map (piece_of way) parts)))) is) in
      let fine : makes_unfit (Some c) (Some d) ≡ false =
      (let a = sym is in let b = sym there in λ i. makes_unfit (option_and_then mine_of (a i)) (option_and_then mine_of (b i))) ∙ keeps_fit t u limit (way ∷ nodes) k _ end_passed there in
      let rel : IsRelation (entry_of t k) = subst IsRelation (sym is) (is_rel base tags members conflict) in
      let own : IsSoundEntry t.next k (Known base (Some d) conflict) =
      content_sound t.next k base c d conflict (p.sound.entries k _ is) (replaced_kind t way (map (piece_of way) parts) c) (fits_or_stays (Some c) d fine)
      (λ conf. calm t u limit (way ∷ nodes) k _ _ end_passed (relation_out k rel) is there conf) in
      subst (λ (x : Entry). IsSoundEntry (begun t way parts).next k x × LivesIn (begun t way parts) x) same (
        entry_more t.next (begun t way parts).next k _ more own,
        λ r used. elim (replaced_refers t way (map (piece_of way) parts) c r used) [
          | inl old ↦ there_all t (news t way parts) r (p.sound.closed k _ is r old)
          | inr piece ↦ piece_there t way kept (split_pieces t way nodes) r p.sound p.lives piece
        ],
      )

  relation_there : (k : Key) (o : Option Entry) → IsRelation o → IsThere (option_map (with_mine (replaced t way (map (piece_of way) (parts_of t way nodes kept)))) o)
  relation_there k o (is_rel base tags members conflict) = refl

  joined_sound : IsSound (joined t way (parts_of t way nodes kept))
  joined_sound =
      let parts = parts_of t way nodes kept in
      put_sound (begun t way parts) (members_edit t way parts) (relations_of t way)
      (begun_sound t limit (way ∷ nodes) way parts p.sound p.lives (parts_there t way nodes kept p.sound p.lives) p.closing)
      (λ k e named put. relation_case k (entry_of t k) e (related t way k named) refl named put)
      (λ k named. relation_there k (entry_of t k) (related t way k named))

  -- the way
  way_at : (k : Key) (e : Entry) → is_key k way ≡ true → refs_edit t way (parts_of t way nodes kept) k ≡ Some e → entry_of (ended t way (parts_of t way nodes kept)) k ≡ Some e
  way_at k e named put =
      let parts = parts_of t way nodes kept in
      entry_changed (joined t way parts) (refs_edit t way parts) (way ∷ []) k ∙ (λ i. cond (named i || false) (put i) (entry_of (joined t way parts) k))

  stays : (r : Key) → IsThere (entry_of t r) → IsThere (entry_of (joined t way (parts_of t way nodes kept)) r)
  stays r h =
      let parts = parts_of t way nodes kept in
      there_changed (begun t way parts) (members_edit t way parts) (relations_of t way) (λ k named. relation_there k (entry_of t k) (related t way k named)) r (there_all t (news t way parts) r h)

  joined_more : t.next ≤ (joined t way (parts_of t way nodes kept)).next
  joined_more = let parts = parts_of t way nodes kept in subst (λ n. t.next ≤ n) (sym (next_changed (begun t way parts) (members_edit t way parts) (relations_of t way))) more

  way_own : (k : Key) (o : Option Entry) (e : Entry) → IsWay o → entry_of t k ≡ o → is_key k way ≡ true → option_map (with_mine (with_refs (λ _. kept_refs way (parts_of t way nodes kept)))) o ≡ Some e
      → IsSoundEntry (joined t way (parts_of t way nodes kept)).next k e × LivesIn (joined t way (parts_of t way nodes kept)) e
  way_own k o e (is_way base tags refs) is named put =
      let parts = parts_of t way nodes kept in
      let u = ended t way parts in
      let c = content.Way tags refs in
      let d = content.Way tags (kept_refs way parts) in
      let same : Known base (Some d) None ≡ e = ap (λ (o : Option Entry). option_map_or (λ (x : Entry). x) o e) put in
      let there : entry_of u k ≡ Some (Known base (Some d) None) = way_at k (Known base (Some d) None) named (ap (option_map (with_mine (with_refs (λ _. kept_refs way parts)))) is) in
      let fine : makes_unfit (Some c) (Some d) ≡ false =
      (let a = sym is in let b = sym there in λ i. makes_unfit (option_and_then mine_of (a i)) (option_and_then mine_of (b i))) ∙ keeps_fit t u limit (way ∷ nodes) k _ end_passed there in
      let own : IsSoundEntry t.next k (Known base (Some d) None) =
      content_edited t.next (λ _. d) k base c refl (fits_or_stays (Some c) d fine) (p.sound.entries k _ is) in
      let nodes_in : RefersIn t d =
      nodes_there t tags (kept_refs way parts) (found_holds (λ n. IsThere (entry_of t (node n))) (λ p. is_key way p.0) parts (parts_there t way nodes kept p.sound p.lives)) in
      subst (λ (x : Entry). IsSoundEntry (joined t way parts).next k x × LivesIn (joined t way parts) x) same
      (entry_more t.next (joined t way parts).next k _ joined_more own, λ r used. stays r (nodes_in r used))

  way_still : (k : Key) (o : Option Entry) → IsWay o → IsThere (option_map (with_mine (with_refs (λ _. kept_refs way (parts_of t way nodes kept)))) o)
  way_still k o (is_way base tags refs) = refl

  at_way : (k : Key) → is_key k way ≡ true → IsWay (entry_of t k)
  at_way k is = subst (λ (j : Key). IsWay (entry_of t j)) (sym (one_key k way is)) p.lives

  -- The table after a split is sound.
  pub split_sound : IsSound (split_table t way (keyed way kept 0 t.next (split_pieces t way nodes)))
  split_sound =
      let parts = parts_of t way nodes kept in
      subst IsSound (sym (split_ended t way parts p.sound p.lives))
      (put_sound (joined t way parts) (refs_edit t way parts) (way ∷ []) joined_sound
      (λ k e named put. let is = left_alone (is_key k way) named in way_own k (entry_of t k) e (at_way k is) refl is put)
      (λ k named. way_still k (entry_of t k) (at_way k (left_alone (is_key k way) named))))
