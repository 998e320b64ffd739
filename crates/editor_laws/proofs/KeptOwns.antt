-- What a job doesn't retag keeps its base, its conflict and its tags, and so does what it doesn't name.
use Rattle.std.proofs.Common.{◌≡◌, ◌≤◌, ℕ, ℤ, nat_lt, length, reverse, Bool, true, false, cond, not, List, [], ◌∷◌, map, Option, Some, None, Result, Ok, Err, refl, sym, ap, ◌∙◌, subst, arith}
use Rattle.std.proofs.lemmas.Bool.{true≢false}
use Rattle.std.specs.List.{filter}
use Rattle.std.specs.Option.{option_map}
use Rattle.osm_base.specs.Rank.{is_key}
use Rattle.osm_base.specs.Content.{kind_of_content, refs_of, tags_of}
use Rattle.osm_base.specs.Tags.{Pair}
use Rattle.osm_base.specs.declared.key.Key.{Key}
use Rattle.osm_base.specs.declared.coord.Coord.{Coord}
use Rattle.osm_base.specs.declared.members.Member.{Member}
use Rattle.osm_base.specs.declared.content.Content.{Content}
use Rattle.osm_base.specs.declared.content.Content.TheVariants as content
use Rattle.osm_base.proofs.RisingKeys.{one_key}
use Rattle.osm_base.proofs.Tests.{never}
use Rattle.osm_table.specs.declared.entry.Base.TheVariants.{New}
use Rattle.osm_table.specs.declared.entry.Entry.{Entry}
use Rattle.osm_table.specs.declared.entry.Entry.TheVariants.{Incomplete, Known}
use Rattle.osm_table.specs.Table.{TableValue, entry_of, keys_by_rank}
use Rattle.dataset.specs.Sound.{IsSound}
use Rattle.tool_api.specs.declared.job.Job.{Job}
use Rattle.tool_api.specs.declared.job.Job.TheVariants as job
use Rattle.tool_api.specs.declared.kinds.Kinds.TheVariants.{Any, Nodes, Ways, Relations, NodesAndWays}
use Rattle.tool_api.specs.declared.refusal.Refusal.{Refusal}
use Rattle.tool_api.specs.declared.refusal.Refusal.TheVariants.{NothingToSplit, NoFinding}
use Rattle.tool_api.specs.Checks.{◌>>◌, is_named, first_of, when, target_test, list_tests, ref_tests}
use Rattle.tool_api.specs.Changes.{Outcome, done, content_of, changed, with_mine, edit, delete, new_key, added, all_added}
use Rattle.tool_api.specs.Closing.{closing, closing_tests}
use Rattle.tool_api.specs.Basic.{with_tags, with_place, moved, move_entry_test, moved_nodes, with_refs, with_members}
use Rattle.tool_api.specs.Gone.{mended, goes, members_without, gone_keys, mended_ways, relations_left, erased}
use Rattle.tool_api.specs.Split.{way_refs, tags_at, node_tests, complete_test, split_pieces, kept_number, keyed, piece_of, others, kept_refs, relations_of, split_table, split_into}
use Rattle.tool_api.specs.Upkeep.{replaced}
use Rattle.tool_api.specs.Combine.{way_test, joined, clash_test, member_test, kept_way, fold_runs, relations_among, combined_table, as_way, united, all_tags}
use Rattle.tool_api.specs.Squeeze.{squeezed}
use Rattle.tool_api.specs.Findings.{is_repeated}
use Rattle.tool_api.specs.Fuse.{place_test, kept_node, fused_content, users_among, fused_table}
use Rattle.tool_api.specs.Plain.{answered, outcome, plain}
use Rattle.tool_api.proofs.Added.{added_at}
use Rattle.tool_api.proofs.Looks.{entry_changed, next_changed}
use Rattle.tool_api.proofs.Named.{kept_named}
use Rattle.editor_laws.specs.Editing.{is_merge}
use Rattle.editor_laws.proofs.SeenContents.{IfOk}
use Rattle.editor_laws.specs.Listed.{lists, names, retags, IsOwn, KeepsOwn}
use Rattle.editor_laws.proofs.KeptJobs.{filter_passes, filter_within, one_named, bound, not_new, job_leaves}

-- Edits that keep the tags.

abbrev KeepsTags : (Content → Content) → Type 0
KeepsTags f = (c : Content) → tags_of (f c) ≡ tags_of c

-- so do those that keep them of each kind of content
tags_kept : (f : Content → Content) → ((tags : List Pair) (at : Coord) → tags_of (f (content.Node tags at)) ≡ tags) → ((tags : List Pair) (refs : List ℤ) → tags_of (f (content.Way tags refs)) ≡ tags)
    → ((tags : List Pair) (members : List Member) → tags_of (f (content.Relation tags members)) ≡ tags) → KeepsTags f
tags_kept f node way relation (content.Node tags at) = node tags at
tags_kept f node way relation (content.Way tags refs) = way tags refs
tags_kept f node way relation (content.Relation tags members) = relation tags members

own_edit : (f : Content → Content) → KeepsTags f → (e : Entry) → IsOwn e (with_mine f e)
own_edit f keeps Incomplete = record { base = refl; conflict = refl; tags = refl }
own_edit f keeps (Known base None conflict) = record { base = refl; conflict = refl; tags = refl }
own_edit f keeps (Known base (Some c) conflict) = record { base = refl; conflict = refl; tags = ap (λ x. Some x) (keeps c) }

module _ (t : TableValue) (k : Key) (e : Entry) (is : entry_of t k ≡ Some e) (sound : IsSound t) where
  abbrev Owns : Option Entry → Type 0
  Owns o = KeepsOwn e o

  abbrev Has : TableValue → Type 0
  Has u = Owns (entry_of u k)

  abbrev Kept : Result Outcome Refusal → Type 0
  Kept r = IfOk (λ new. Has new.table) r

  own : (o : Option Entry) → o ≡ Some e → Owns o
  own o same = (e, same, record { base = refl; conflict = refl; tags = refl })

  tested : (o : Option Refusal) (r : Result Outcome Refusal) → Kept r → Kept (o >> r)
  tested None r h = h
  tested (Some x) r h = tt

  closed : (limit : ℕ) (keys : List Key) (new : Outcome) → Has new.table → Kept (closing t limit keys new)
  closed limit keys new h = tested (closing_tests t limit keys new.table) (Ok new) h

  either : (b : Bool) (o p : Option Entry) → (b ≡ true → Owns o) → Owns p → Owns (cond b o p)
  either true o p h i = h refl
  either false o p h i = i

  changed_has : (u : TableValue) (g : Key → Option Entry) (ks : List Key) → Has u → (is_named ks k ≡ true → Owns (g k)) → Has (changed u g ks)
  changed_has u g ks h i = subst Owns (sym (entry_changed u g ks k)) (either (is_named ks k) (g k) (entry_of u k) i h)

  apart : (u : TableValue) (g : Key → Option Entry) (ks : List Key) (b : Bool) → Has u → b ≡ false → (is_named ks k ≡ true → b ≡ true) → Has (changed u g ks)
  apart u g ks b h free f = changed_has u g ks h (λ named. never b (f named) free)

  edited_has : (u : TableValue) (f : Content → Content) (ks : List Key) → KeepsTags f → Has u → Has (changed u (edit t f) ks)
  edited_has u f ks keeps h = changed_has u (edit t f) ks h (λ named. (with_mine f e, ap (option_map (with_mine f)) is, own_edit f keeps e))

  added_has : (u : TableValue) (c : Content) → t.next ≤ u.next → Has u → Has (added u c)
  added_has u c low h = subst Owns (sym (added_at u c k)) (either (is_key k (new_key (kind_of_content c) u.next)) (Some (Known New (Some c) None)) (entry_of u k) (λ same. absurd (not_new t k e is sound (kind_of_content c) u.next low same)) h)

  all_added_has : (u : TableValue) (cs : List Content) → t.next ≤ u.next → Has u → Has (all_added u cs)
  all_added_has u [] low h = h
  all_added_has u (c ∷ cs) low h = all_added_has (added u c) cs (omega (arith, low)) (added_has u c low h)

  erased_has : (named : List Key) → goes t named k ≡ false → Has (erased t named)
  erased_has named free =
      let u = changed t (delete t) (gone_keys t named) in
      let v = changed u (edit t (with_refs (mended named))) (mended_ways t named) in
      edited_has v (with_members (members_without (goes t named))) (relations_left t named) (tags_kept (with_members (members_without (goes t named))) (λ tags at. refl) (λ tags refs. refl) (λ tags members. refl))
      (edited_has u (with_refs (mended named)) (mended_ways t named) (tags_kept (with_refs (mended named)) (λ tags at. refl) (λ tags refs. refl) (λ tags members. refl))
      (apart t (delete t) (gone_keys t named) (goes t named k) (own (entry_of t k) is) free (filter_passes (goes t named) (keys_by_rank t) k)))

  split_has : (way : Key) (ps : List (Key × List ℤ)) → Has (split_table t way ps)
  split_has way ps =
      let f = replaced t way (map (piece_of way) ps) in
      let u = changed t (edit t f) (relations_of t way) in
      let g = edit t (with_refs (λ _. kept_refs way ps)) in
      all_added_has (changed u g (way ∷ [])) (map (λ p. content.Way (tags_at t way) p.1) (others way ps)) (let n = next_changed u g (way ∷ []) ∙ next_changed t (edit t f) (relations_of t way) in omega (arith, n))
      (edited_has u (with_refs (λ _. kept_refs way ps)) (way ∷ []) (tags_kept (with_refs (λ _. kept_refs way ps)) (λ tags at. refl) (λ tags refs. refl) (λ tags members. refl))
      (edited_has t f (relations_of t way) (tags_kept (replaced t way (map (piece_of way) ps)) (λ tags at. refl) (λ tags refs. refl) (λ tags members. refl)) (own (entry_of t k) is)))

  -- what becomes one: users of several, these without the kept one, and the kept one
  united_has : (f : Content → Content) (g h : Key → Option Entry) (ks several : List Key) (kept : Key) → KeepsTags f → is_named several kept ≡ true → is_named several k ≡ false
      → Has (changed (changed (changed t (edit t f) ks) g (filter (λ j. not (is_key kept j)) several)) h (kept ∷ []))
  united_has f g h ks several kept keeps one free =
      let u = changed t (edit t f) ks in
      let v = changed u g (filter (λ j. not (is_key kept j)) several) in
      apart v h (kept ∷ []) (is_named several k)
      (apart u g (filter (λ j. not (is_key kept j)) several) (is_named several k) (edited_has t f ks keeps (own (entry_of t k) is)) free (filter_within (λ j. not (is_key kept j)) several k))
      free (λ listed. ap (is_named several) (one_key k kept (one_named k kept listed)) ∙ one)

  combined_has : (ways : List Key) (refs : List ℤ) (kept : Option Key) → ((j : Key) → kept ≡ Some j → is_named ways j ≡ true) → is_named ways k ≡ false → Has (combined_table t ways refs kept)
  combined_has ways refs None one free = own (entry_of t k) is
  combined_has ways refs (Some kept) one free =
      united_has (fold_runs ways kept) (delete t) (edit t (as_way refs (united (all_tags t ways)))) (relations_among t ways) ways kept (tags_kept (fold_runs ways kept) (λ tags at. refl) (λ tags refs. refl) (λ tags members. refl)) (one kept refl) free

  fused_has : (nodes : List Key) (kept : Option Key) → ((j : Key) → kept ≡ Some j → is_named nodes j ≡ true) → is_named nodes k ≡ false → Has (fused_table t nodes kept)
  fused_has nodes None one free = own (entry_of t k) is
  fused_has nodes (Some kept) one free =
      united_has (fused_content nodes kept) (delete t) (edit t (with_tags (λ _. united (all_tags t nodes)))) (users_among t nodes) nodes kept (tags_kept (fused_content nodes kept) (λ tags at. refl) (λ tags refs. refl) (λ tags members. refl)) (one kept refl) free

  answered_has : (r : Result Outcome Refusal) → Kept r → Has (answered t r).table
  answered_has (Ok new) h = h
  answered_has (Err r) h = own (entry_of t k) is

  other : (j : Job) (limit : ℕ) → is_merge j ≡ false → lists j t k ≡ false → Has (plain j t limit).table
  other j limit n free = own (entry_of (plain j t limit).table k) (job_leaves t k e is sound j limit n free)

  pub job_tags : (j : Job) (limit : ℕ) → is_merge j ≡ false → retags j t k ≡ false → Has (plain j t limit).table
  job_tags (job.Shift keys dx dy) limit n free = answered_has (outcome (job.Shift keys dx dy) t limit)
      (tested (list_tests t NodesAndWays keys) _ (tested (first_of (λ m. move_entry_test dx dy m (entry_of t m)) (moved_nodes t keys)) _
      (closed limit keys (done (changed t (edit t (with_place (moved dx dy))) (moved_nodes t keys))) (edited_has t (with_place (moved dx dy)) (moved_nodes t keys) (tags_kept (with_place (moved dx dy)) (λ tags at. refl) (λ tags refs. refl) (λ tags members. refl)) (own (entry_of t k) is)))))
  job_tags (job.Place key at) limit n free = answered_has (outcome (job.Place key at) t limit)
      (tested (target_test t Nodes key) _ (closed limit (key ∷ []) (done (changed t (edit t (with_place (λ _. at))) (key ∷ []))) (edited_has t (with_place (λ _. at)) (key ∷ []) (tags_kept (with_place (λ _. at)) (λ tags at. refl) (λ tags refs. refl) (λ tags members. refl)) (own (entry_of t k) is))))
  job_tags (job.SetNodes key refs) limit n free = answered_has (outcome (job.SetNodes key refs) t limit)
      (tested (target_test t Ways key) _ (tested (ref_tests t (refs_of (content.Way [] refs))) _
      (closed limit (key ∷ []) (done (changed t (edit t (with_refs (λ _. refs))) (key ∷ []))) (edited_has t (with_refs (λ _. refs)) (key ∷ []) (tags_kept (with_refs (λ _. refs)) (λ tags at. refl) (λ tags refs. refl) (λ tags members. refl)) (own (entry_of t k) is)))))
  job_tags (job.SetMembers key members) limit n free = answered_has (outcome (job.SetMembers key members) t limit)
      (tested (target_test t Relations key) _ (tested (ref_tests t (refs_of (content.Relation [] members))) _
      (closed limit (key ∷ []) (done (changed t (edit t (with_members (λ _. members))) (key ∷ []))) (edited_has t (with_members (λ _. members)) (key ∷ []) (tags_kept (with_members (λ _. members)) (λ tags at. refl) (λ tags refs. refl) (λ tags members. refl)) (own (entry_of t k) is)))))
  job_tags (job.Erase keys) limit n free = answered_has (outcome (job.Erase keys) t limit) (tested (list_tests t Any keys) _ (closed limit keys (done (erased t keys)) (erased_has keys free)))
  job_tags (job.Split way nodes) limit n free =
      let ps = keyed way (kept_number (split_pieces t way nodes)) 0 t.next (split_pieces t way nodes) in
      answered_has (outcome (job.Split way nodes) t limit)
      (tested (target_test t Ways way) _ (tested (node_tests (way_refs (content_of t way)) [] nodes) _ (tested (complete_test t (way_refs (content_of t way))) _
      (tested (when (nat_lt (length (split_pieces t way nodes)) 2) (NothingToSplit way)) _ (closed limit (way ∷ nodes) (split_into t way ps) (split_has way ps))))))
  job_tags (job.Combine ways) limit n free = answered_has (outcome (job.Combine ways) t limit)
      (tested (list_tests t Ways ways) _ (tested (first_of (way_test t) ways) _ (bound (λ new. Has new.table) (joined t ways) _ (λ refs.
      tested (clash_test (all_tags t ways)) _ (tested (member_test t ways) _
      (closed limit ways (done (combined_table t ways refs (kept_way ways))) (combined_has ways refs (kept_way ways) (kept_named ways) free)))))))
  job_tags (job.Reverse way) limit n free = answered_has (outcome (job.Reverse way) t limit)
      (tested (target_test t Ways way) _ (closed limit (way ∷ []) (done (changed t (edit t (with_refs reverse)) (way ∷ []))) (edited_has t (with_refs reverse) (way ∷ []) (tags_kept (with_refs reverse) (λ tags at. refl) (λ tags refs. refl) (λ tags members. refl)) (own (entry_of t k) is))))
  job_tags (job.Squeeze keys) limit n free = answered_has (outcome (job.Squeeze keys) t limit)
      (tested (list_tests t Ways keys) _ (tested (first_of (λ j. when (not (is_repeated t j)) (NoFinding j)) keys) _
      (closed limit keys (done (changed t (edit t (with_refs squeezed)) keys)) (edited_has t (with_refs squeezed) keys (tags_kept (with_refs squeezed) (λ tags at. refl) (λ tags refs. refl) (λ tags members. refl)) (own (entry_of t k) is)))))
  job_tags (job.Merge told) limit n free = absurd (true≢false n)
  job_tags (job.Fuse nodes) limit n free = answered_has (outcome (job.Fuse nodes) t limit)
      (tested (list_tests t Nodes nodes) _ (tested (place_test t nodes) _ (tested (clash_test (all_tags t nodes)) _
      (closed limit nodes (done (fused_table t nodes (kept_node nodes))) (fused_has nodes (kept_node nodes) (kept_named nodes) free)))))
  job_tags j limit n free = other j limit n free

  -- what it doesn't name it doesn't retag
  unnamed : (j : Job) → names j t k ≡ false → retags j t k ≡ false
  unnamed (job.Shift keys dx dy) free = refl
  unnamed (job.Place key at) free = refl
  unnamed (job.SetNodes key refs) free = refl
  unnamed (job.SetMembers key members) free = refl
  unnamed (job.Erase keys) free = free
  unnamed (job.Split way nodes) free = refl
  unnamed (job.Combine ways) free = free
  unnamed (job.Reverse way) free = refl
  unnamed (job.Squeeze keys) free = refl
  unnamed (job.Fuse nodes) free = free
  unnamed j free = free

  pub job_owns : (j : Job) (limit : ℕ) → is_merge j ≡ false → names j t k ≡ false → Has (plain j t limit).table
  job_owns j limit n free = job_tags j limit n (unnamed j free)
