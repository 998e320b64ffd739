-- What a job doesn't list is as it was.
use Rattle.std.proofs.Common.{◌≡◌, ◌||◌, ◌&&◌, ◌≤◌, ℕ, ℤ, nat_lt, length, reverse, Bool, true, false, cond, not, is_some, List, [], ◌∷◌, map, Option, Some, None, Result, Ok, Err, refl, sym, ap, ◌∙◌, arith}
use Rattle.std.proofs.lemmas.Bool.{true≢false, and_parts, or_parts, or_right}
use Rattle.std.specs.Prelude.{if◌then◌else◌}
use Rattle.std.specs.List.{filter, list_any}
use Rattle.std.specs.Option.{option_map, option_map_or, option_or, option_and_then}
use Rattle.osm_base.specs.Rank.{is_key}
use Rattle.osm_base.specs.Content.{kind_of_content, refers, refs_of}
use Rattle.osm_base.specs.declared.key.Key.{Key}
use Rattle.osm_base.specs.declared.key.Kind.{Kind}
use Rattle.osm_base.specs.declared.members.Member.{Member}
use Rattle.osm_base.specs.declared.content.Content.{Content}
use Rattle.osm_base.specs.declared.content.Content.TheVariants as content
use Rattle.osm_base.proofs.RisingKeys.{one_key, key_turned, in_filter}
use Rattle.osm_base.proofs.Tests.{by_either, never}
use Rattle.osm_table.specs.declared.entry.Base.TheVariants.{New}
use Rattle.osm_table.specs.declared.entry.Entry.{Entry}
use Rattle.osm_table.specs.declared.entry.Entry.TheVariants.{Incomplete, Known}
use Rattle.osm_table.specs.Table.{TableValue, entry_of, mine_of, uses, users, keys_by_rank}
use Rattle.dataset.specs.Exact.{mine_at}
use Rattle.dataset.specs.Sound.{IsSound}
use Rattle.dataset.proofs.Listed.{user_uses}
use Rattle.tool_api.specs.declared.job.Job.{Job}
use Rattle.tool_api.specs.declared.job.Job.TheVariants as job
use Rattle.tool_api.specs.declared.kinds.Kinds.TheVariants.{Any, Nodes, Ways, Relations, NodesAndWays}
use Rattle.tool_api.specs.declared.refusal.Refusal.{Refusal}
use Rattle.tool_api.specs.declared.refusal.Refusal.TheVariants.{NothingToSplit, NoFinding}
use Rattle.merge_cases.specs.Resolve.{resolved}
use Rattle.tool_api.specs.Checks.{◌>>◌, ◌>>=◌, is_named, first_of, when, twice_test, target_test, list_tests, ref_tests, use_test, purge_entry_test, is_new as is_new_entry}
use Rattle.tool_api.specs.Changes.{Outcome, done, content_of, changed, with_mine, edit, delete, new_key, added, all_added}
use Rattle.tool_api.specs.Closing.{closing, closing_tests, room_test}
use Rattle.tool_api.specs.Basic.{add, with_tags, retagged, with_place, moved, move_entry_test, is_moved, moved_nodes, with_refs, with_members}
use Rattle.tool_api.specs.Gone.{is_used, mended, is_mended, falls, goes, is_relation, members_without, gone_keys, mended_ways, relations_left, erased}
use Rattle.tool_api.specs.Split.{way_refs, tags_at, node_tests, complete_test, split_pieces, kept_number, keyed, piece_of, others, kept_refs, relations_of, split_table, split_into}
use Rattle.tool_api.specs.Upkeep.{replaced}
use Rattle.tool_api.specs.Import.{file_keys, references, file_reference_test, new_keys, new_contents}
use Rattle.tool_api.specs.Squeeze.{squeezed}
use Rattle.tool_api.specs.Findings.{is_repeated}
use Rattle.tool_api.specs.Combine.{way_test, joined, clash_test, member_test, kept_way, fold_runs, combined_table, as_way, united, all_tags}
use Rattle.tool_api.specs.Fuse.{place_test, kept_node, fused_content, fused_table}
use Rattle.tool_api.specs.Resolve.{choice_test, unused_test, references_gone_test, settled_fit_test, settled_entry, settled_table}
use Rattle.tool_api.specs.Staged.{refs_by}
use Rattle.tool_api.specs.Plain.{answered, outcome, plain}
use Rattle.tool_api.proofs.Added.{added_at, fresh}
use Rattle.tool_api.proofs.Looks.{entry_changed, next_changed}
use Rattle.tool_api.proofs.Named.{kept_named}
use Rattle.editor_laws.specs.Editing.{is_merge}
use Rattle.editor_laws.proofs.SeenContents.{IfOk}
use Rattle.editor_laws.specs.Listed.{lists, refers_to}

-- Lists.

-- what is left of keys passes the test,
pub filter_passes : (p : Key → Bool) (ks : List Key) (k : Key) → is_named (filter p ks) k ≡ true → p k ≡ true
filter_passes p ks k h = (and_parts (p k) (is_named ks k) (sym (in_filter p k ks) ∙ h)).0

-- and is one of them
pub filter_within : (p : Key → Bool) (ks : List Key) (k : Key) → is_named (filter p ks) k ≡ true → is_named ks k ≡ true
filter_within p ks k h = (and_parts (p k) (is_named ks k) (sym (in_filter p k ks) ∙ h)).1

any_more : (p q : Key → Bool) → ((r : Key) → p r ≡ true → q r ≡ true) → (ks : List Key) → list_any p ks ≡ true → list_any q ks ≡ true
any_more p q f [] h = h
any_more p q f (r ∷ rs) h = by_either (p r) (list_any p rs) h (λ here. ap (λ b. b || list_any q rs) (f r here)) (λ more. or_right (q r) (list_any q rs) (any_more p q f rs more))

pub one_named : (k j : Key) → is_named (j ∷ []) k ≡ true → is_key k j ≡ true
one_named k j h = by_either (is_key k j) false h (λ e. e) (λ e. absurd (true≢false (sym e)))

-- members of which none goes stay
all_stay : (gone : Key → Bool) (ms : List Member) → list_any gone (map (λ (m : Member). m.key) ms) ≡ false → members_without gone ms ≡ ms
all_stay gone [] h = refl
all_stay gone (m ∷ ms) h =
    let p = or_parts (gone m.key) (list_any gone (map (λ (m : Member). m.key) ms)) h in
    ap (λ b. cond (not b) (m ∷ members_without gone ms) (members_without gone ms)) p.0 ∙ ap (λ (xs : List Member). m ∷ xs) (all_stay gone ms p.1)

entry_stays : (gone : Key → Bool) (e : Entry) → list_any gone (refs_by (mine_of e)) ≡ false → with_mine (with_members (members_without gone)) e ≡ e
entry_stays gone Incomplete h = refl
entry_stays gone (Known base None conflict) h = refl
entry_stays gone (Known base (Some (content.Node tags at)) conflict) h = refl
entry_stays gone (Known base (Some (content.Way tags refs)) conflict) h = refl
entry_stays gone (Known base (Some (content.Relation tags ms)) conflict) h = ap (λ (xs : List Member). Known base (Some (content.Relation tags xs)) conflict) (all_stay gone ms h)

-- Users.

by_mine : (w : Key) (o : Option Content) → option_map_or (λ c. refers c w) o false ≡ true → list_any (is_key w) (refs_by o) ≡ true
by_mine w None h = h
by_mine w (Some c) h = h

by_entry : (w : Key) (o : Option Entry) → option_map_or (λ e. uses e w) o false ≡ true → list_any (is_key w) (refs_by (option_and_then mine_of o)) ≡ true
by_entry w None h = h
by_entry w (Some e) h = by_mine w (mine_of e) h

-- a user of a key refers to it,
user_refers : (t : TableValue) (k w : Key) → is_named (users t w) k ≡ true → refers_to t (is_key w) k ≡ true
user_refers t k w h = by_entry w (entry_of t k) (sym (user_uses t w k) ∙ h)

-- and a user of one of several to one of them
users_refer : (t : TableValue) (k : Key) (ws : List Key) → list_any (λ w. is_named (users t w) k) ws ≡ true → refers_to t (is_named ws) k ≡ true
users_refer t k [] h = absurd (true≢false (sym h))
users_refer t k (w ∷ ws) h = by_either (is_named (users t w) k) (list_any (λ w. is_named (users t w) k) ws) h
    (λ here. any_more (is_key w) (is_named (w ∷ ws)) (λ r same. ap (λ b. b || is_named ws r) (key_turned r w ∙ same)) (refs_by (content_of t k)) (user_refers t k w here))
    (λ more. any_more (is_named ws) (is_named (w ∷ ws)) (λ r named. or_right (is_key r w) (is_named ws r) named) (refs_by (content_of t k)) (users_refer t k ws more))

pub bound : {A : Type 0} (P : Outcome → Type 0) (r : Result A Refusal) (f : A → Result Outcome Refusal) → ((a : A) → IfOk P (f a)) → IfOk P (r >>= f)
bound P (Ok a) f h = h a
bound P (Err x) f h = tt

-- An entry of a sound table.
module _ (t : TableValue) (k : Key) (e : Entry) (is : entry_of t k ≡ Some e) (sound : IsSound t) where
  abbrev Has : TableValue → Type 0
  Has u = entry_of u k ≡ Some e

  abbrev Kept : Result Outcome Refusal → Type 0
  Kept r = IfOk (λ new. Has new.table) r

  tested : (o : Option Refusal) (r : Result Outcome Refusal) → Kept r → Kept (o >> r)
  tested None r h = h
  tested (Some x) r h = tt

  closed : (limit : ℕ) (keys : List Key) (new : Outcome) → Has new.table → Kept (closing t limit keys new)
  closed limit keys new h = tested (closing_tests t limit keys new.table) (Ok new) h

  either : (b : Bool) (o p : Option Entry) → (b ≡ true → o ≡ Some e) → p ≡ Some e → cond b o p ≡ Some e
  either true o p h i = h refl
  either false o p h i = i

  -- Changes.

  changed_has : (u : TableValue) (g : Key → Option Entry) (ks : List Key) → Has u → (is_named ks k ≡ true → g k ≡ Some e) → Has (changed u g ks)
  changed_has u g ks h i = entry_changed u g ks k ∙ either (is_named ks k) (g k) (entry_of u k) i h

  apart : (u : TableValue) (g : Key → Option Entry) (ks : List Key) (b : Bool) → Has u → b ≡ false → (is_named ks k ≡ true → b ≡ true) → Has (changed u g ks)
  apart u g ks b h free f = changed_has u g ks h (λ named. never b (f named) free)

  unnamed : (u : TableValue) (g : Key → Option Entry) (ks : List Key) → Has u → is_named ks k ≡ false → Has (changed u g ks)
  unnamed u g ks h free = apart u g ks (is_named ks k) h free (λ named. named)

  unlisted : (u : TableValue) (g : Key → Option Entry) (p : Key → Bool) (ks : List Key) → Has u → p k ≡ false → Has (changed u g (filter p ks))
  unlisted u g p ks h free = apart u g (filter p ks) (p k) h free (filter_passes p ks k)

  other_one : (u : TableValue) (g : Key → Option Entry) (j : Key) → Has u → is_key k j ≡ false → Has (changed u g (j ∷ []))
  other_one u g j h free = apart u g (j ∷ []) (is_key k j) h free (one_named k j)

  -- New objects.

  pub not_new : (kind : Kind) (n : ℕ) → t.next ≤ n → is_key k (new_key kind n) ≡ true → ⊥
  not_new kind n low same = true≢false (ap is_some (sym is ∙ ap (entry_of t) (one_key k (new_key kind n) same) ∙ fresh t kind n sound low))

  added_has : (u : TableValue) (c : Content) → t.next ≤ u.next → Has u → Has (added u c)
  added_has u c low h = added_at u c k ∙ either (is_key k (new_key (kind_of_content c) u.next)) (Some (Known New (Some c) None)) (entry_of u k) (λ same. absurd (not_new (kind_of_content c) u.next low same)) h

  all_added_has : (u : TableValue) (cs : List Content) → t.next ≤ u.next → Has u → Has (all_added u cs)
  all_added_has u [] low h = h
  all_added_has u (c ∷ cs) low h = all_added_has (added u c) cs (omega (arith, low)) (added_has u c low h)

  -- The jobs.

  edited_has : (limit : ℕ) (named ks : List Key) (g : Key → Option Entry) → Has (changed t g ks) → Kept (closing t limit named (done (changed t g ks)))
  edited_has limit named ks g h = closed limit named (done (changed t g ks)) h

  erased_has : (named : List Key) → lists (job.Erase named) t k ≡ false → Has (erased t named)
  erased_has named free =
      let a = or_parts (goes t named k) (is_mended t named k || refers_to t (goes t named) k) free in
      let b = or_parts (is_mended t named k) (refers_to t (goes t named) k) a.1 in
      let calm : list_any (goes t named) (refs_by (mine_of e)) ≡ false = sym (ap (λ (o : Option Entry). list_any (goes t named) (refs_by (option_and_then mine_of o))) is) ∙ b.1 in
      let f = delete t in
      let u = changed t f (gone_keys t named) in
      let g = edit t (with_refs (mended named)) in
      let v = changed u g (mended_ways t named) in
      let h = edit t (with_members (members_without (goes t named))) in
      changed_has v h (relations_left t named)
      (apart u g (mended_ways t named) (is_mended t named k) (unlisted t f (goes t named) (keys_by_rank t) is a.0) b.0
      (λ listed. (and_parts (is_mended t named k) (not (falls t named k)) (filter_passes (λ j. is_mended t named j && not (falls t named j)) (keys_by_rank t) k listed)).0))
      (λ listed. ap (option_map (with_mine (with_members (members_without (goes t named))))) is ∙ ap (λ (x : Entry). Some x) (entry_stays (goes t named) e calm))

  split_has : (way : Key) (ps : List (Key × List ℤ)) → is_key k way ≡ false → refers_to t (is_key way) k ≡ false → Has (split_table t way ps)
  split_has way ps other apart_from =
      let f = edit t (replaced t way (map (piece_of way) ps)) in
      let u = changed t f (relations_of t way) in
      let g = edit t (with_refs (λ _. kept_refs way ps)) in
      all_added_has (changed u g (way ∷ [])) (map (λ p. content.Way (tags_at t way) p.1) (others way ps)) (let n = next_changed u g (way ∷ []) ∙ next_changed t f (relations_of t way) in omega (arith, n))
      (other_one u g way (apart t f (relations_of t way) (refers_to t (is_key way) k) is apart_from (λ listed. user_refers t k way (filter_within (λ j. option_map_or is_relation (content_of t j) false) (users t way) k listed))) other)

  -- what becomes one: users of several, these without the kept one, and the kept one
  united_has : (f g h : Key → Option Entry) (p : Key → Bool) (several : List Key) (kept : Key) → ((p k ≡ true) → list_any (λ w. is_named (users t w) k) several ≡ true) → is_named several kept ≡ true
      → is_named several k ≡ false → refers_to t (is_named several) k ≡ false
      → Has (changed (changed (changed t f (filter p (keys_by_rank t))) g (filter (λ j. not (is_key kept j)) several)) h (kept ∷ []))
  united_has f g h p several kept by_users one free apart_from =
      let u = changed t f (filter p (keys_by_rank t)) in
      let v = changed u g (filter (λ j. not (is_key kept j)) several) in
      apart v h (kept ∷ []) (is_named several k)
      (apart u g (filter (λ j. not (is_key kept j)) several) (is_named several k)
      (apart t f (filter p (keys_by_rank t)) (refers_to t (is_named several) k) is apart_from (λ listed. users_refer t k several (by_users (filter_passes p (keys_by_rank t) k listed))))
      free (filter_within (λ j. not (is_key kept j)) several k))
      free (λ listed. ap (is_named several) (one_key k kept (one_named k kept listed)) ∙ one)

  combined_has : (ways : List Key) (refs : List ℤ) (kept : Option Key) → ((j : Key) → kept ≡ Some j → is_named ways j ≡ true) → is_named ways k ≡ false → refers_to t (is_named ways) k ≡ false → Has (combined_table t ways refs kept)
  combined_has ways refs None one free apart_from = is
  combined_has ways refs (Some kept) one free apart_from =
      united_has (edit t (fold_runs ways kept)) (delete t) (edit t (as_way refs (united (all_tags t ways)))) (λ j. option_map_or is_relation (content_of t j) false && list_any (λ w. is_named (users t w) j) ways) ways kept
      (λ passes. (and_parts (option_map_or is_relation (content_of t k) false) (list_any (λ w. is_named (users t w) k) ways) passes).1) (one kept refl) free apart_from

  fused_has : (nodes : List Key) (kept : Option Key) → ((j : Key) → kept ≡ Some j → is_named nodes j ≡ true) → is_named nodes k ≡ false → refers_to t (is_named nodes) k ≡ false → Has (fused_table t nodes kept)
  fused_has nodes None one free apart_from = is
  fused_has nodes (Some kept) one free apart_from =
      united_has (edit t (fused_content nodes kept)) (delete t) (edit t (with_tags (λ _. united (all_tags t nodes)))) (λ j. list_any (λ n. is_named (users t n) j) nodes) nodes kept
      (λ h. h) (one kept refl) free apart_from

  settled_has : (j : Key) (o : Option Entry) → is_key k j ≡ false → Has (settled_table t j o)
  settled_has j o free =
      changed_has t (settled_entry t j o) (j ∷ refs_by (mine_at o)) is
      (λ named. ap (λ b. cond b o (option_or (entry_of t k) (Some Incomplete))) (key_turned j k ∙ free) ∙ ap (λ (x : Option Entry). option_or x (Some Incomplete)) is)

  add_kept : (limit : ℕ) (c : Content) → Kept (add t limit c)
  add_kept limit c = tested (ref_tests t (refs_of c)) _ (closed limit [] (record { keys = new_key (kind_of_content c) t.next ∷ []; table = added t c }) (let n : t.next ≡ t.next = refl in added_has t c (omega (arith, n)) is))

  outcome_kept : (j : Job) (limit : ℕ) → is_merge j ≡ false → lists j t k ≡ false → Kept (outcome j t limit)
  outcome_kept (job.AddNode tags at) limit n free = add_kept limit (content.Node tags at)
  outcome_kept (job.AddWay tags refs) limit n free = add_kept limit (content.Way tags refs)
  outcome_kept (job.AddRelation tags members) limit n free = add_kept limit (content.Relation tags members)
  outcome_kept (job.SetTags keys tags) limit n free = tested (list_tests t Any keys) _
      (let g = edit t (with_tags (λ x. retagged x tags)) in edited_has limit keys keys g (unnamed t g keys is free))
  outcome_kept (job.Shift keys dx dy) limit n free = tested (list_tests t NodesAndWays keys) _ (tested (first_of (λ m. move_entry_test dx dy m (entry_of t m)) (moved_nodes t keys)) _
      (let g = edit t (with_place (moved dx dy)) in edited_has limit keys (moved_nodes t keys) g (unlisted t g (is_moved t keys) (keys_by_rank t) is free)))
  outcome_kept (job.Place key at) limit n free = tested (target_test t Nodes key) _
      (let g = edit t (with_place (λ _. at)) in edited_has limit (key ∷ []) (key ∷ []) g (other_one t g key is free))
  outcome_kept (job.SetNodes key refs) limit n free = tested (target_test t Ways key) _ (tested (ref_tests t (refs_of (content.Way [] refs))) _
      (let g = edit t (with_refs (λ _. refs)) in edited_has limit (key ∷ []) (key ∷ []) g (other_one t g key is free)))
  outcome_kept (job.SetMembers key members) limit n free = tested (target_test t Relations key) _ (tested (ref_tests t (refs_of (content.Relation [] members))) _
      (let g = edit t (with_members (λ _. members)) in edited_has limit (key ∷ []) (key ∷ []) g (other_one t g key is free)))
  outcome_kept (job.Delete keys) limit n free = tested (list_tests t Any keys) _ (tested (first_of (use_test t keys) keys) _ (unnamed t (delete t) keys is free))
  outcome_kept (job.Erase keys) limit n free = tested (list_tests t Any keys) _ (closed limit keys (done (erased t keys)) (erased_has keys free))
  outcome_kept (job.Purge keys) limit n free = tested (twice_test [] keys) _ (tested (first_of (λ j. purge_entry_test j (entry_of t j)) keys) _
      (tested (first_of (λ j. if is_new_entry (entry_of t j) then use_test t keys j else None) keys) _ (unnamed t (λ j. if is_used t keys j then Some Incomplete else None) keys is free)))
  outcome_kept (job.Split way nodes) limit n free =
      let a = or_parts (is_key k way) (refers_to t (is_key way) k) free in
      let ps = keyed way (kept_number (split_pieces t way nodes)) 0 t.next (split_pieces t way nodes) in
      tested (target_test t Ways way) _ (tested (node_tests (way_refs (content_of t way)) [] nodes) _ (tested (complete_test t (way_refs (content_of t way))) _
      (tested (when (nat_lt (length (split_pieces t way nodes)) 2) (NothingToSplit way)) _ (closed limit (way ∷ nodes) (split_into t way ps) (split_has way ps a.0 a.1)))))
  outcome_kept (job.Combine ways) limit n free =
      let a = or_parts (is_named ways k) (refers_to t (is_named ways) k) free in
      tested (list_tests t Ways ways) _ (tested (first_of (way_test t) ways) _ (bound (λ new. Has new.table) (joined t ways) _ (λ refs.
      tested (clash_test (all_tags t ways)) _ (tested (member_test t ways) _
      (closed limit ways (done (combined_table t ways refs (kept_way ways))) (combined_has ways refs (kept_way ways) (kept_named ways) a.0 a.1))))))
  outcome_kept (job.Reverse way) limit n free = tested (target_test t Ways way) _
      (let g = edit t (with_refs reverse) in edited_has limit (way ∷ []) (way ∷ []) g (other_one t g way is free))
  outcome_kept (job.Merge told) limit n free = absurd (true≢false n)
  outcome_kept (job.Import objects) limit n free = tested (first_of (file_reference_test t (is_named (file_keys objects))) (references objects)) _
      (closed limit [] (record { keys = new_keys t.next objects; table = all_added t (new_contents t.next objects) }) (let n : t.next ≡ t.next = refl in all_added_has t (new_contents t.next objects) (omega (arith, n)) is))
  outcome_kept (job.Resolve key choice) limit n free = tested (choice_test choice key (entry_of t key)) _
      (let o = option_map (resolved choice) (entry_of t key) in
      tested (unused_test t key (mine_at o)) _ (tested (references_gone_test t key (mine_at o)) _ (tested (settled_fit_test key o) _ (tested (room_test limit (settled_table t key o)) _ (settled_has key o free)))))
  outcome_kept (job.Squeeze keys) limit n free = tested (list_tests t Ways keys) _ (tested (first_of (λ j. when (not (is_repeated t j)) (NoFinding j)) keys) _
      (let g = edit t (with_refs squeezed) in edited_has limit keys keys g (unnamed t g keys is free)))
  outcome_kept (job.Fuse nodes) limit n free =
      let a = or_parts (is_named nodes k) (refers_to t (is_named nodes) k) free in
      tested (list_tests t Nodes nodes) _ (tested (place_test t nodes) _ (tested (clash_test (all_tags t nodes)) _
      (closed limit nodes (done (fused_table t nodes (kept_node nodes))) (fused_has nodes (kept_node nodes) (kept_named nodes) a.0 a.1))))

  answered_has : (r : Result Outcome Refusal) → Kept r → Has (answered t r).table
  answered_has (Ok new) h = h
  answered_has (Err r) h = is

  -- What isn't listed stands as it stood.
  pub job_leaves : (j : Job) (limit : ℕ) → is_merge j ≡ false → lists j t k ≡ false → Has (plain j t limit).table
  job_leaves j limit n free = answered_has (outcome j t limit) (outcome_kept j limit n free)
