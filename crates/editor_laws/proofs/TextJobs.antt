-- Each job makes its table of texts of the old one, and of its own.
use Rattle.std.proofs.Common.{ℕ, ℤ, nat_lt, length, List, [], ◌∷◌, map, not, reverse, Option, Some, None, Result, Ok, Err}
use Rattle.std.specs.Prelude.{if◌then◌else◌}
use Rattle.std.specs.List.{AllByRecursion, filter}
use Rattle.std.specs.Option.{option_map}
use Rattle.osm_base.specs.Rank.{is_key}
use Rattle.osm_base.specs.Content.{kind_of_content, refs_of}
use Rattle.osm_base.specs.Tags.{Pair}
use Rattle.osm_base.specs.declared.key.Key.{Key}
use Rattle.osm_base.specs.declared.content.Content.{Content}
use Rattle.osm_base.specs.declared.content.Content.TheVariants as content
use Rattle.osm_table.specs.declared.entry.Entry.{Entry}
use Rattle.osm_table.specs.declared.entry.Entry.TheVariants.{Incomplete}
use Rattle.osm_table.specs.Table.{TableValue, entry_of}
use Rattle.dataset.specs.Exact.{mine_at}
use Rattle.renamed_content.specs.Renamed.{renamed}
use Rattle.merge_cases.specs.Resolve.{resolved}
use Rattle.tool_api.specs.declared.job.Job.{Job}
use Rattle.tool_api.specs.declared.job.Job.TheVariants as job
use Rattle.tool_api.specs.declared.kinds.Kinds.TheVariants.{Any, Nodes, Ways, Relations, NodesAndWays}
use Rattle.tool_api.specs.declared.new_objects.NewObject.{NewObject}
use Rattle.tool_api.specs.declared.refusal.Refusal.{Refusal}
use Rattle.tool_api.specs.declared.refusal.Refusal.TheVariants.{NothingToSplit, NoFinding}
use Rattle.tool_api.specs.Checks.{◌>>◌, ◌>>=◌, is_named, first_of, when, twice_test, target_test, list_tests, ref_tests, use_test, purge_entry_test, is_new}
use Rattle.tool_api.specs.Changes.{Outcome, done, content_of, changed, edit, new_key, added, all_added}
use Rattle.tool_api.specs.Closing.{closing, closing_tests, room_test}
use Rattle.tool_api.specs.Basic.{add, with_tags, retagged, with_place, moved, move_entry_test, moved_nodes, with_refs, with_members}
use Rattle.tool_api.specs.Gone.{is_used, mended, mended_ways, gone_keys, goes, members_without, relations_left, erased}
use Rattle.tool_api.specs.Split.{way_refs, tags_at, node_tests, complete_test, split_pieces, kept_number, keyed, piece_of, others, kept_refs, relations_of, split_table, split_into}
use Rattle.tool_api.specs.Upkeep.{replaced}
use Rattle.tool_api.specs.Combine.{way_test, joined, clash_test, member_test, kept_way, fold_runs, relations_among, combined_table, as_way, united, all_tags}
use Rattle.tool_api.specs.Import.{file_keys, references, file_reference_test, key_named, new_keys, new_contents}
use Rattle.tool_api.specs.Resolve.{choice_test, unused_test, references_gone_test, settled_fit_test, settled_entry, settled_table, settle}
use Rattle.tool_api.specs.Squeeze.{squeezed}
use Rattle.tool_api.specs.Findings.{is_repeated}
use Rattle.tool_api.specs.Fuse.{place_test, kept_node, fused_content, users_among, fused_table}
use Rattle.tool_api.specs.Merged.{merged}
use Rattle.tool_api.specs.Merged as merging
use Rattle.tool_api.specs.Staged.{refs_by}
use Rattle.tool_api.specs.Plain.{answered, outcome, plain}
use Rattle.editor_laws.proofs.SeenLists.{all_more, map_of_all}
use Rattle.editor_laws.specs.Texts.{AreTexts, BringsTexts, HasTexts, IsTextTable}
use Rattle.editor_laws.proofs.TextTags.{flat_pairs, retagged_texts, united_texts}
use Rattle.editor_laws.proofs.TextContents.{as_way_kept, fused_kept, members_kept, place_kept, refs_kept, renamed_kept, replaced_kept, runs_kept, tags_kept, without_kept}
use Rattle.editor_laws.proofs.TextEntries.{IsTextAt, added_texts, all_added_texts, changed_texts, deletes_texts, edits_texts, either_at, or_incomplete, settled_at, tags_texts, text_at}
use Rattle.editor_laws.proofs.TextMerging.{merged_texts}

-- what comes of a job
abbrev pub Kept : Result Outcome Refusal → Type 0
Kept (Ok new) = IsTextTable new.table
Kept (Err r) = Unit {0}

tested : (o : Option Refusal) (r : Result Outcome Refusal) → Kept r → Kept (o >> r)
tested None r h = h
tested (Some x) r h = tt

found : {A : Type 0} (r : Result A Refusal) (f : A → Result Outcome Refusal) → ((a : A) → Kept (f a)) → Kept (r >>= f)
found (Ok a) f h = h a
found (Err x) f h = tt

closed : (t : TableValue) (limit : ℕ) (keys : List Key) (new : Outcome) → IsTextTable new.table → Kept (closing t limit keys new)
closed t limit keys new h = tested (closing_tests t limit keys new.table) (Ok new) h

module _ (t : TableValue) (h : IsTextTable t) where
  edit_kept : (limit : ℕ) (named ks : List Key) (f : Content → Content) → ((c : Content) → HasTexts c → HasTexts (f c)) → Kept (closing t limit named (done (changed t (edit t f) ks)))
  edit_kept limit named ks f keeps = closed t limit named (done (changed t (edit t f) ks)) (edits_texts t h t f ks keeps h)

  add_kept : (limit : ℕ) (c : Content) → HasTexts c → Kept (add t limit c)
  add_kept limit c i = tested (ref_tests t (refs_of c)) _ (closed t limit [] (record { keys = new_key (kind_of_content c) t.next ∷ []; table = added t c }) (added_texts t c i h))

  all_tags_are : (ks : List Key) → AreTexts (united (all_tags t ks))
  all_tags_are ks = united_texts (all_tags t ks) (flat_pairs (tags_at t) (tags_texts t h) ks)

  erased_texts : (named : List Key) → IsTextTable (erased t named)
  erased_texts named =
      edits_texts t h _ (with_members (members_without (goes t named))) (relations_left t named) (members_kept (members_without (goes t named)) (without_kept (goes t named)))
      (edits_texts t h _ (with_refs (mended named)) (mended_ways t named) (refs_kept (mended named)) (deletes_texts t h t (gone_keys t named) h))

  new_ways : (tags : List Pair) (ps : List (Key × List ℤ)) → AreTexts tags → AllByRecursion HasTexts (map (λ p. content.Way tags p.1) ps)
  new_ways tags [] i = tt
  new_ways tags (p ∷ ps) i = (i, new_ways tags ps i)

  split_texts : (way : Key) (ps : List (Key × List ℤ)) → IsTextTable (split_table t way ps)
  split_texts way ps =
      all_added_texts _ (map (λ p. content.Way (tags_at t way) p.1) (others way ps)) (new_ways (tags_at t way) (others way ps) (tags_texts t h way))
      (edits_texts t h _ (with_refs (λ _. kept_refs way ps)) (way ∷ []) (refs_kept (λ _. kept_refs way ps))
      (edits_texts t h t (replaced t way (map (piece_of way) ps)) (relations_of t way) (replaced_kept t way (map (piece_of way) ps)) h))

  combined_texts : (ways : List Key) (refs : List ℤ) (kept : Option Key) → IsTextTable (combined_table t ways refs kept)
  combined_texts ways refs None = h
  combined_texts ways refs (Some kept) =
      edits_texts t h _ (as_way refs (united (all_tags t ways))) (kept ∷ []) (as_way_kept refs (united (all_tags t ways)) (all_tags_are ways))
      (deletes_texts t h _ (filter (λ k. not (is_key kept k)) ways) (edits_texts t h t (fold_runs ways kept) (relations_among t ways) (runs_kept ways kept) h))

  fused_texts : (nodes : List Key) (kept : Option Key) → IsTextTable (fused_table t nodes kept)
  fused_texts nodes None = h
  fused_texts nodes (Some kept) =
      edits_texts t h _ (with_tags (λ _. united (all_tags t nodes))) (kept ∷ []) (tags_kept (λ _. united (all_tags t nodes)) (λ tags i. all_tags_are nodes))
      (deletes_texts t h _ (filter (λ k. not (is_key kept k)) nodes) (edits_texts t h t (fused_content nodes kept) (users_among t nodes) (fused_kept nodes kept) h))

  contents_texts : (next : ℕ) (objects : List NewObject) → AllByRecursion (λ (o : NewObject). HasTexts o.content) objects → AllByRecursion HasTexts (new_contents next objects)
  contents_texts next objects i =
      map_of_all HasTexts (λ (o : NewObject). renamed (key_named next objects) o.content) objects
      (all_more (λ (o : NewObject). HasTexts o.content) (λ (o : NewObject). HasTexts (renamed (key_named next objects) o.content)) (λ o j. renamed_kept (key_named next objects) o.content j) objects i)

  settle_kept : (limit : ℕ) (k : Key) (e : Option Entry) → IsTextAt e → Kept (settle t limit k e)
  settle_kept limit k e i =
      tested (unused_test t k (mine_at e)) _ (tested (references_gone_test t k (mine_at e)) _ (tested (settled_fit_test k e) _ (tested (room_test limit (settled_table t k e)) _
      (changed_texts t (settled_entry t k e) (k ∷ refs_by (mine_at e)) h (λ q. either_at (is_key k q) e _ i (or_incomplete (entry_of t q) (text_at t q h)))))))

  -- The jobs.
  pub outcome_kept : (j : Job) (limit : ℕ) → BringsTexts j → Kept (outcome j t limit)
  outcome_kept (job.AddNode tags at) limit i = add_kept limit (content.Node tags at) i
  outcome_kept (job.AddWay tags refs) limit i = add_kept limit (content.Way tags refs) i
  outcome_kept (job.AddRelation tags members) limit i = add_kept limit (content.Relation tags members) i
  outcome_kept (job.SetTags keys tags) limit i = tested (list_tests t Any keys) _
      (edit_kept limit keys keys (with_tags (λ x. retagged x tags)) (tags_kept (λ x. retagged x tags) (λ x k. retagged_texts x tags i k)))
  outcome_kept (job.Shift keys dx dy) limit i = tested (list_tests t NodesAndWays keys) _ (tested (first_of (λ n. move_entry_test dx dy n (entry_of t n)) (moved_nodes t keys)) _
      (edit_kept limit keys (moved_nodes t keys) (with_place (moved dx dy)) (place_kept (moved dx dy))))
  outcome_kept (job.Place key at) limit i = tested (target_test t Nodes key) _ (edit_kept limit (key ∷ []) (key ∷ []) (with_place (λ _. at)) (place_kept (λ _. at)))
  outcome_kept (job.SetNodes key refs) limit i = tested (target_test t Ways key) _ (tested (ref_tests t (refs_of (content.Way [] refs))) _
      (edit_kept limit (key ∷ []) (key ∷ []) (with_refs (λ _. refs)) (refs_kept (λ _. refs))))
  outcome_kept (job.SetMembers key members) limit i = tested (target_test t Relations key) _ (tested (ref_tests t (refs_of (content.Relation [] members))) _
      (edit_kept limit (key ∷ []) (key ∷ []) (with_members (λ _. members)) (members_kept (λ _. members) (λ old k. i))))
  outcome_kept (job.Delete keys) limit i = tested (list_tests t Any keys) _ (tested (first_of (use_test t keys) keys) _ (deletes_texts t h t keys h))
  outcome_kept (job.Erase keys) limit i = tested (list_tests t Any keys) _ (closed t limit keys (done (erased t keys)) (erased_texts keys))
  outcome_kept (job.Purge keys) limit i = tested (twice_test [] keys) _ (tested (first_of (λ k. purge_entry_test k (entry_of t k)) keys) _
      (tested (first_of (λ k. if is_new (entry_of t k) then use_test t keys k else None) keys) _
      (changed_texts t (λ k. if is_used t keys k then Some Incomplete else None) keys h (λ k. either_at (is_used t keys k) (Some Incomplete) None tt tt))))
  outcome_kept (job.Split way nodes) limit i = tested (target_test t Ways way) _ (tested (node_tests (way_refs (content_of t way)) [] nodes) _ (tested (complete_test t (way_refs (content_of t way))) _
      (tested (when (nat_lt (length (split_pieces t way nodes)) 2) (NothingToSplit way)) _
      (closed t limit (way ∷ nodes) (split_into t way (keyed way (kept_number (split_pieces t way nodes)) 0 t.next (split_pieces t way nodes)))
      (split_texts way (keyed way (kept_number (split_pieces t way nodes)) 0 t.next (split_pieces t way nodes)))))))
  outcome_kept (job.Combine ways) limit i = tested (list_tests t Ways ways) _ (tested (first_of (way_test t) ways) _ (found (joined t ways) _ (λ refs.
      tested (clash_test (all_tags t ways)) _ (tested (member_test t ways) _
      (closed t limit ways (done (combined_table t ways refs (kept_way ways))) (combined_texts ways refs (kept_way ways)))))))
  outcome_kept (job.Reverse way) limit i = tested (target_test t Ways way) _ (edit_kept limit (way ∷ []) (way ∷ []) (with_refs reverse) (refs_kept reverse))
  outcome_kept (job.Merge told) limit i = tested (merging.clash_test t told.told) _ (tested (room_test limit (merged t told.told)) _ (merged_texts t told i h))
  outcome_kept (job.Import objects) limit i = tested (first_of (file_reference_test t (is_named (file_keys objects))) (references objects)) _
      (closed t limit [] (record { keys = new_keys t.next objects; table = all_added t (new_contents t.next objects) }) (all_added_texts t (new_contents t.next objects) (contents_texts t.next objects i) h))
  outcome_kept (job.Resolve key choice) limit i = tested (choice_test choice key (entry_of t key)) _
      (settle_kept limit key (option_map (resolved choice) (entry_of t key)) (settled_at choice (entry_of t key) (text_at t key h)))
  outcome_kept (job.Squeeze keys) limit i = tested (list_tests t Ways keys) _ (tested (first_of (λ k. when (not (is_repeated t k)) (NoFinding k)) keys) _
      (edit_kept limit keys keys (with_refs squeezed) (refs_kept squeezed)))
  outcome_kept (job.Fuse nodes) limit i = tested (list_tests t Nodes nodes) _ (tested (place_test t nodes) _ (tested (clash_test (all_tags t nodes)) _
      (closed t limit nodes (done (fused_table t nodes (kept_node nodes))) (fused_texts nodes (kept_node nodes)))))

  answered_texts : (r : Result Outcome Refusal) → Kept r → IsTextTable (answered t r).table
  answered_texts (Ok new) i = i
  answered_texts (Err x) i = h

  -- A job keeps the texts.
  pub job_keeps : (j : Job) (limit : ℕ) → BringsTexts j → IsTextTable (plain j t limit).table
  job_keeps j limit i = answered_texts (outcome j t limit) (outcome_kept j limit i)
