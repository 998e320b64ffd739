-- What the contents that jobs make refer to is seen.
use Rattle.std.proofs.Common.{◌≡◌, ◌+◌, ◌-◌, ◌&&◌, ℕ, zero, suc, ℤ, Bool, true, false, cond, not, List, [], ◌∷◌, ◌++◌, length, take, drop, map, reverse, Option, Some, None, Result, Ok, Err, refl}
use Rattle.std.specs.List.{AllByRecursion, filter}
use Rattle.std.specs.Option.{option_map, unwrap_or}
use Rattle.std.specs.Ordering.{int_eq}
use Rattle.osm_base.specs.Rank.{is_key}
use Rattle.osm_base.specs.Content.{kind_of_content, node, tags_of}
use Rattle.osm_base.specs.Tags.{Pair}
use Rattle.osm_base.specs.declared.coord.Coord.{Coord}
use Rattle.osm_base.specs.declared.key.Key.{Key}
use Rattle.osm_base.specs.declared.members.Member.{Member}
use Rattle.osm_base.specs.declared.content.Content.{Content}
use Rattle.osm_base.specs.declared.content.Content.TheVariants as content
use Rattle.osm_base.proofs.Lists.{all_joined, all_dropped}
use Rattle.osm_table.specs.declared.entry.Base.{Base}
use Rattle.osm_table.specs.declared.entry.Conflict.{Conflict}
use Rattle.osm_table.specs.Table.{TableValue, held_by, IfContent}
use Rattle.merge_cases.specs.declared.pick.Pick.{Pick}
use Rattle.merge_cases.specs.declared.pick.Pick.TheVariants as pick
use Rattle.merge_cases.specs.Case.{is_withdrawal}
use Rattle.merge_cases.specs.Join.{both_of, picked, picked_by, with_body}
use Rattle.renamed_content.specs.Renamed.{renamed}
use Rattle.merge_cases.specs.declared.choice.Side.{Side}
use Rattle.merge_cases.specs.declared.choice.Side.TheVariants as side
use Rattle.merge_cases.specs.declared.choice.Choice.{Choice}
use Rattle.merge_cases.specs.declared.choice.Choice.TheVariants as choice
use Rattle.merge_cases.specs.Resolve.{chosen, mix_of, of_side, parts_of, settled_body, settled_tag}
use Rattle.tool_api.specs.declared.new_objects.NewObject.{NewObject}
use Rattle.tool_api.specs.declared.refusal.Refusal.{Refusal}
use Rattle.tool_api.specs.Checks.{◌>>=◌, is_named}
use Rattle.tool_api.specs.Changes.{content_of, new_key}
use Rattle.tool_api.specs.Basic.{with_tags, with_place, with_refs, with_members}
use Rattle.tool_api.specs.Gone.{mended, members_without}
use Rattle.tool_api.specs.Squeeze.{squeezed}
use Rattle.tool_api.specs.Split.{way_refs}
use Rattle.tool_api.specs.Upkeep.{first_in, is_run, folded_from, folded}
use Rattle.tool_api.specs.Combine.{refs_at, is_end, same_end, last_in, first_way, next_way, joined_on, joined, fold_runs, as_way}
use Rattle.tool_api.specs.Fuse.{fused_key, fused_content, without_runs}
use Rattle.tool_api.specs.Import.{new_key_of, key_named}
use Rattle.upload_order.specs.Rename.{is_positive}
use Rattle.job_laws.proofs.SplitHolds.{all_filtered}
use Rattle.editor_laws.proofs.SeenLists.{IfSome, all_reversed, all_dedup, either_some, all_of_map, map_of_all, all_more}
use Rattle.editor_laws.proofs.SeenKeeping.{IsSeen, RefersSeen, mine_seen}

-- a result meets a condition
abbrev pub IfOk : {A : Type 0} → (A → Type 0) → Result A Refusal → Type 0
IfOk P (Ok a) = P a
IfOk P (Err r) = Unit {0}

pub then_ok : {A B : Type 0} (P : A → Type 0) (Q : B → Type 0) (r : Result A Refusal) (f : A → Result B Refusal) → IfOk P r → ((a : A) → P a → IfOk Q (f a)) → IfOk Q (r >>= f)
then_ok P Q (Ok a) f h i = i a h
then_ok P Q (Err r) f h i = tt

module _ (t : TableValue) where
  abbrev NodeSeen : ℤ → Type 0
  NodeSeen n = IsSeen t (node n)

  abbrev MemberSeen : Member → Type 0
  MemberSeen m = IsSeen t m.key

  abbrev pub NodesSeen : List ℤ → Type 0
  NodesSeen refs = AllByRecursion NodeSeen refs

  abbrev pub MembersSeen : List Member → Type 0
  MembersSeen members = AllByRecursion MemberSeen members

  -- Edits of one part.

  pub tags_seen : (f : List Pair → List Pair) (c : Content) → RefersSeen t c → RefersSeen t (with_tags f c)
  tags_seen f (content.Node tags at) h = h
  tags_seen f (content.Way tags refs) h = h
  tags_seen f (content.Relation tags members) h = h

  pub place_seen : (f : Coord → Coord) (c : Content) → RefersSeen t c → RefersSeen t (with_place f c)
  place_seen f (content.Node tags at) h = h
  place_seen f (content.Way tags refs) h = h
  place_seen f (content.Relation tags members) h = h

  pub refs_seen : (f : List ℤ → List ℤ) → ((refs : List ℤ) → NodesSeen refs → NodesSeen (f refs)) → (c : Content) → RefersSeen t c → RefersSeen t (with_refs f c)
  refs_seen f keeps (content.Node tags at) h = h
  refs_seen f keeps (content.Way tags refs) h = map_of_all (IsSeen t) node (f refs) (keeps refs (all_of_map (IsSeen t) node refs h))
  refs_seen f keeps (content.Relation tags members) h = h

  pub members_seen : (f : List Member → List Member) → ((members : List Member) → MembersSeen members → MembersSeen (f members)) → (c : Content) → RefersSeen t c → RefersSeen t (with_members f c)
  members_seen f keeps (content.Node tags at) h = h
  members_seen f keeps (content.Way tags refs) h = h
  members_seen f keeps (content.Relation tags members) h = map_of_all (IsSeen t) (λ m. m.key) (f members) (keeps members (all_of_map (IsSeen t) (λ m. m.key) members h))

  pub mended_seen : (named : List Key) (refs : List ℤ) → NodesSeen refs → NodesSeen (mended named refs)
  mended_seen named refs h =
      let left = filter (λ n. not (is_named named (node n))) refs in
      all_dedup NodeSeen int_eq left (all_filtered NodeSeen (λ n. not (is_named named (node n))) refs h)

  pub without_seen : (gone : Key → Bool) (members : List Member) → MembersSeen members → MembersSeen (members_without gone members)
  without_seen gone members h = all_filtered MemberSeen (λ m. not (gone m.key)) members h

  pub squeezed_seen : (refs : List ℤ) → NodesSeen refs → NodesSeen (squeezed refs)
  squeezed_seen refs h = all_dedup NodeSeen int_eq refs h

  pub reversed_seen : (refs : List ℤ) → NodesSeen refs → NodesSeen (reverse refs)
  reversed_seen refs h = all_reversed NodeSeen refs h

  -- Ways that are joined.

  way_seen : (o : Option Content) → IfContent o (RefersSeen t) → NodesSeen (way_refs o)
  way_seen None h = tt
  way_seen (Some (content.Node tags at)) h = tt
  way_seen (Some (content.Way tags refs)) h = all_of_map (IsSeen t) node refs h
  way_seen (Some (content.Relation tags members)) h = tt

  pub way_at_seen : (k : Key) → NodesSeen (refs_at t k)
  way_at_seen k = way_seen (content_of t k) (mine_seen t k)

  one_of : (a b : Bool) (x y z : Result (List ℤ) Refusal) → IfOk NodesSeen x → IfOk NodesSeen y → IfOk NodesSeen z → IfOk NodesSeen (cond a x (cond b y z))
  one_of true b x y z h i j = h
  one_of false true x y z h i j = i
  one_of false false x y z h i j = j

  first_seen : (second : Key) (refs next : List ℤ) → NodesSeen refs → IfOk NodesSeen (first_way second refs next)
  first_seen second refs next h = one_of (is_end (last_in refs) next) (is_end (first_in refs) next) (Ok refs) (Ok (reverse refs)) _ h (reversed_seen refs h) tt

  next_seen : (k : Key) (so_far refs : List ℤ) → NodesSeen so_far → NodesSeen refs → IfOk NodesSeen (next_way k so_far refs)
  next_seen k so_far refs h i =
      one_of (same_end (last_in so_far) (first_in refs)) (same_end (last_in so_far) (last_in refs)) (Ok (so_far ++ drop 1 refs)) (Ok (so_far ++ drop 1 (reverse refs))) _
      (all_joined NodeSeen so_far (drop 1 refs) h (all_dropped NodeSeen 1 refs i))
      (all_joined NodeSeen so_far (drop 1 (reverse refs)) h (all_dropped NodeSeen 1 (reverse refs) (reversed_seen refs i)))
      tt

  joined_on_seen : (so_far : List ℤ) (ks : List Key) → NodesSeen so_far → IfOk NodesSeen (joined_on t so_far ks)
  joined_on_seen so_far [] h = h
  joined_on_seen so_far (k ∷ ks) h =
      then_ok NodesSeen NodesSeen (next_way k so_far (refs_at t k)) (λ longer. joined_on t longer ks) (next_seen k so_far (refs_at t k) h (way_at_seen k)) (λ longer i. joined_on_seen longer ks i)

  pub joined_seen : (ways : List Key) → IfOk NodesSeen (joined t ways)
  joined_seen [] = tt
  joined_seen (k ∷ []) = way_at_seen k
  joined_seen (k ∷ second ∷ ks) =
      then_ok NodesSeen NodesSeen (first_way second (refs_at t k) (refs_at t second)) (λ first. joined_on t first (second ∷ ks)) (first_seen second (refs_at t k) (refs_at t second) (way_at_seen k)) (λ first i. joined_on_seen first (second ∷ ks) i)

  pub as_way_seen : (refs : List ℤ) (tags : List Pair) → NodesSeen refs → (c : Content) → RefersSeen t c → RefersSeen t (as_way refs tags c)
  as_way_seen refs tags h c i = map_of_all (IsSeen t) node refs h

  cons_seen : (m : Member) (o : Option (List Member)) → MemberSeen m → IfSome MembersSeen o → IfSome MembersSeen (option_map (λ out. m ∷ out) o)
  cons_seen m None h i = tt
  cons_seen m (Some ms) h i = (h, i)

  folded_seen : (ways : List Key) (kept : Key) → IsSeen t kept → (skip : ℕ) (ms : List Member) → MembersSeen ms → IfSome MembersSeen (folded_from ways kept skip ms)
  folded_seen ways kept seen zero [] h = tt
  folded_seen ways kept seen (suc n) [] h = tt
  folded_seen ways kept seen (suc n) (m ∷ ms) h = folded_seen ways kept seen n ms h.1
  folded_seen ways kept seen zero (m ∷ ms) h =
      let run = folded_from ways kept (length ways - 1) ms in
      let rest = folded_from ways kept 0 ms in
      let member : Member = record { key = kept; role = m.role } in
      either_some MembersSeen (is_named ways m.key) (cond (is_run ways (take (length ways) (m ∷ ms))) (option_map (λ out. member ∷ out) run) None) (option_map (λ out. m ∷ out) rest)
      (either_some MembersSeen (is_run ways (take (length ways) (m ∷ ms))) (option_map (λ out. member ∷ out) run) None (cons_seen member run seen (folded_seen ways kept seen (length ways - 1) ms h.1)) tt)
      (cons_seen m rest h.0 (folded_seen ways kept seen 0 ms h.1))

  or_seen : (ms : List Member) (o : Option (List Member)) → MembersSeen ms → IfSome MembersSeen o → MembersSeen (unwrap_or o ms)
  or_seen ms None h i = h
  or_seen ms (Some out) h i = i

  pub runs_seen : (ways : List Key) (kept : Key) → IsSeen t kept → (c : Content) → RefersSeen t c → RefersSeen t (fold_runs ways kept c)
  runs_seen ways kept seen (content.Node tags at) h = h
  runs_seen ways kept seen (content.Way tags refs) h = h
  runs_seen ways kept seen (content.Relation tags members) h =
      let old = all_of_map (IsSeen t) (λ m. m.key) members h in
      map_of_all (IsSeen t) (λ m. m.key) (unwrap_or (folded ways kept members) members) (or_seen members (folded ways kept members) old (folded_seen ways kept seen 0 members old))

  -- Nodes that are fused.

  fused_node : (b : Bool) (kept : Key) (n : ℤ) → IsSeen t (node kept.id) → NodeSeen n → IsSeen t (node (cond b kept (node n)).id)
  fused_node true kept n h i = h
  fused_node false kept n h i = i

  fused_member : (b : Bool) (kept k : Key) → IsSeen t kept → IsSeen t k → IsSeen t (cond b kept k)
  fused_member true kept k h i = h
  fused_member false kept k h i = i

  pub fused_seen : (nodes : List Key) (kept : Key) → IsSeen t kept → IsSeen t (node kept.id) → (c : Content) → RefersSeen t c → RefersSeen t (fused_content nodes kept c)
  fused_seen nodes kept seen again (content.Node tags at) h = h
  fused_seen nodes kept seen again (content.Way tags refs) h =
      let ids = map (λ (n : ℤ). (fused_key nodes kept (node n)).id) refs in
      map_of_all (IsSeen t) node (without_runs kept.id ids) (all_dedup NodeSeen (λ a b. int_eq a kept.id && int_eq b kept.id) ids
      (map_of_all NodeSeen (λ (n : ℤ). (fused_key nodes kept (node n)).id) refs
      (all_more NodeSeen (λ n. NodeSeen (fused_key nodes kept (node n)).id) (λ n i. fused_node (is_named nodes (node n)) kept n again i) refs (all_of_map (IsSeen t) node refs h))))
  fused_seen nodes kept seen again (content.Relation tags members) h =
      let new : Member → Member = λ m. record { key = fused_key nodes kept m.key; role = m.role } in
      map_of_all (IsSeen t) (λ m. m.key) (map new members) (map_of_all MemberSeen new members
      (all_more MemberSeen (λ m. IsSeen t (fused_key nodes kept m.key)) (λ m i. fused_member (is_named nodes m.key) kept m.key seen i) members (all_of_map (IsSeen t) (λ m. m.key) members h)))

  -- Objects of a file.

  new_negative : (next : ℕ) (objects : List NewObject) (k : Key) → IfSome (λ (q : Key). is_positive q.id ≡ false) (new_key_of next objects k)
  new_negative next [] k = tt
  new_negative next (o ∷ os) k = either_some (λ (q : Key). is_positive q.id ≡ false) (is_key k o.key) (Some (new_key (kind_of_content o.content) next)) (new_key_of (next + 1) os k) refl (new_negative (next + 1) os k)

  called_seen : (k : Key) (o : Option Key) → IfSome (λ (q : Key). is_positive q.id ≡ false) o → IsSeen t k → IsSeen t (unwrap_or o k)
  called_seen k None neg h = h
  called_seen k (Some q) neg h = λ p. cc

  called_node : (n : ℤ) (o : Option Key) → IfSome (λ (q : Key). is_positive q.id ≡ false) o → NodeSeen n → NodeSeen (unwrap_or o (node n)).id
  called_node n None neg h = h
  called_node n (Some q) neg h = λ p. cc

  pub renamed_seen : (next : ℕ) (objects : List NewObject) (c : Content) → RefersSeen t c → RefersSeen t (renamed (key_named next objects) c)
  renamed_seen next objects (content.Node tags at) h = h
  renamed_seen next objects (content.Way tags refs) h =
      let new : ℤ → ℤ = λ n. (key_named next objects (node n)).id in
      map_of_all (IsSeen t) node (map new refs) (map_of_all NodeSeen new refs
      (all_more NodeSeen (λ n. NodeSeen (new n)) (λ n i. called_node n (new_key_of next objects (node n)) (new_negative next objects (node n)) i) refs (all_of_map (IsSeen t) node refs h)))
  renamed_seen next objects (content.Relation tags members) h =
      let new : Member → Member = λ m. record { key = key_named next objects m.key; role = m.role } in
      map_of_all (IsSeen t) (λ m. m.key) (map new members) (map_of_all MemberSeen new members
      (all_more MemberSeen (λ m. IsSeen t (key_named next objects m.key)) (λ m i. called_seen m.key (new_key_of next objects m.key) (new_negative next objects m.key) i) members (all_of_map (IsSeen t) (λ m. m.key) members h)))

  -- What is chosen of two sides.

  body_seen : (tags : List Pair) (c : Content) → RefersSeen t c → RefersSeen t (with_body tags c)
  body_seen tags (content.Node others at) h = h
  body_seen tags (content.Way others refs) h = h
  body_seen tags (content.Relation others members) h = h

  picked_seen : (tags : List Pair) (p : Pick) (mine theirs : Content) → RefersSeen t mine → RefersSeen t theirs → IfContent (both_of (Some tags) (picked p mine theirs)) (RefersSeen t)
  picked_seen tags pick.Mine mine theirs h i = body_seen tags mine h
  picked_seen tags pick.Theirs mine theirs h i = body_seen tags theirs i
  picked_seen tags pick.Clash mine theirs h i = tt

  mix_seen : (tags body : Side) (mine theirs : Option Content) → IfContent mine (RefersSeen t) → IfContent theirs (RefersSeen t) → IfContent (mix_of tags body mine theirs) (RefersSeen t)
  mix_seen tags body None theirs h i = tt
  mix_seen tags body (Some m) None h i = tt
  mix_seen tags side.Mine (Some m) (Some c) h i = body_seen (tags_of (of_side tags m c)) m h
  mix_seen tags side.Theirs (Some m) (Some c) h i = body_seen (tags_of (of_side tags m c)) c i

  parts_seen : (body : Side) (listed : List (List ℕ)) (base mine theirs : Option Content) → IfContent mine (RefersSeen t) → IfContent theirs (RefersSeen t) → IfContent (parts_of body listed base mine theirs) (RefersSeen t)
  parts_seen body listed None mine theirs h i = tt
  parts_seen body listed (Some b) None theirs h i = tt
  parts_seen body listed (Some b) (Some m) None h i = tt
  parts_seen body listed (Some b) (Some m) (Some c) h i = picked_seen (picked_by (settled_tag listed b m c) (tags_of m) (tags_of c)) (settled_body body b m c) m c h i

  kept_seen : (b : Bool) (mine : Option Content) → IfContent mine (RefersSeen t) → IfContent (cond b None mine) (RefersSeen t)
  kept_seen true mine h = tt
  kept_seen false mine h = h

  pub chosen_seen : (by : Choice) (base : Base) (mine : Option Content) (conflict : Conflict) → IfContent mine (RefersSeen t) → IfContent (held_by conflict.theirs) (RefersSeen t) → IfContent (chosen by base mine conflict) (RefersSeen t)
  chosen_seen choice.Mine base mine conflict h i = kept_seen (is_withdrawal conflict.why) mine h
  chosen_seen choice.Theirs base mine conflict h i = i
  chosen_seen (choice.Mix tags body) base mine conflict h i = mix_seen tags body mine (held_by conflict.theirs) h i
  chosen_seen (choice.Parts body listed) base mine conflict h i = parts_seen body listed (held_by base) mine (held_by conflict.theirs) h i
