-- Each job but Merge makes its table of the old one.
use Rattle.std.proofs.Common.{◌≡◌, ◌||◌, ℕ, ℤ, pos, negsuc, Bool, true, false, cond, not, nat_lt, length, List, [], ◌∷◌, map, reverse, Option, Some, None, Result, Ok, Err, refl, sym, ap, ◌∙◌, subst}
use Rattle.std.specs.Prelude.{if◌then◌else◌}
use mathlib.Core.Logic.{inr}
use Rattle.std.specs.List.{AllByRecursion, filter, find}
use Rattle.std.specs.Option.{option_map, option_or}
use Rattle.osm_base.specs.Rank.{is_key}
use Rattle.osm_base.specs.Content.{kind_of_content, refs_of, node}
use Rattle.osm_base.specs.declared.key.Key.{Key}
use Rattle.osm_base.specs.declared.key.Kind.{Kind}
use Rattle.osm_base.specs.declared.key.Kind.TheVariants as kind
use Rattle.osm_base.specs.declared.members.Member.{Member}
use Rattle.osm_base.specs.declared.content.Content.{Content}
use Rattle.osm_base.specs.declared.content.Content.TheVariants as content
use Rattle.osm_base.proofs.RisingKeys.{one_key, key_turned}
use Rattle.osm_base.proofs.Tests.{passed_where_none}
use Rattle.osm_base.proofs.Lists.{all_at}
use Rattle.osm_table.specs.declared.entry.Entry.{Entry}
use Rattle.osm_table.specs.declared.entry.Entry.TheVariants.{Incomplete, Known}
use Rattle.osm_table.specs.Table.{TableValue, entry_of, IfContent}
use Rattle.dataset.specs.Exact.{mine_at}
use Rattle.renamed_content.specs.Renamed.{renamed}
use Rattle.merge_cases.specs.declared.choice.Choice.{Choice}
use Rattle.merge_cases.specs.Resolve.{resolved}
use Rattle.tool_api.specs.declared.job.Job.{Job}
use Rattle.tool_api.specs.declared.job.Job.TheVariants as job
use Rattle.tool_api.specs.declared.kinds.Kinds.{Kinds}
use Rattle.tool_api.specs.declared.kinds.Kinds.TheVariants.{Any, Nodes, Ways, Relations, NodesAndWays}
use Rattle.tool_api.specs.declared.new_objects.NewObject.{NewObject}
use Rattle.tool_api.specs.declared.refusal.Refusal.{Refusal}
use Rattle.tool_api.specs.declared.refusal.Refusal.TheVariants.{NothingToSplit, NoFinding}
use Rattle.tool_api.specs.Checks.{◌>>◌, is_named, first_of, when, twice_test, takes, entry_test, target_test, list_tests, ref_entry_test, ref_tests, use_test, purge_entry_test, is_new as is_new_entry}
use Rattle.tool_api.specs.Changes.{Outcome, done, content_of, changed, edit, new_key, added, all_added}
use Rattle.tool_api.specs.Closing.{closing, closing_tests, room_test}
use Rattle.tool_api.specs.Basic.{add, with_tags, retagged, with_place, moved, move_entry_test, moved_nodes, with_refs, with_members}
use Rattle.tool_api.specs.Gone.{is_used, mended, mended_ways, gone_keys, goes, members_without, relations_left, erased}
use Rattle.tool_api.specs.Split.{way_refs, tags_at, node_tests, complete_test, split_pieces, kept_number, keyed, piece_of, others, kept_refs, relations_of, split_table, split_into}
use Rattle.tool_api.specs.Upkeep.{replaced}
use Rattle.tool_api.specs.Combine.{way_test, joined, clash_test, member_test, kept_way, fold_runs, relations_among, combined_table, as_way, united, all_tags, is_positive as has_positive}
use Rattle.tool_api.specs.Import.{is_negative, file_keys, references, file_reference_test, key_named, new_keys, new_contents}
use Rattle.tool_api.specs.Resolve.{choice_test, unused_test, references_gone_test, settled_fit_test, settled_entry, settled_table, settle}
use Rattle.tool_api.specs.Squeeze.{squeezed}
use Rattle.tool_api.specs.Findings.{is_repeated}
use Rattle.tool_api.specs.Fuse.{place_test, kept_node, fused_content, users_among, fused_table}
use Rattle.tool_api.specs.Staged.{refs_by}
use Rattle.tool_api.specs.Plain.{answered, outcome, plain}
use Rattle.tool_api.proofs.Passed.{both_none, passes}
use Rattle.upload_order.specs.Rename.{is_positive}
use Rattle.editor_laws.specs.Bases.{HasSide, has_key, KeepsBases}
use Rattle.editor_laws.specs.Editing.{is_merge}
use Rattle.editor_laws.proofs.SeenLists.{IfSome, all_flat, all_more, map_of_all, or_some, found_some, first_some}
use Rattle.editor_laws.proofs.SeenKeeping.{IsSeen, RefersSeen, IsFrom, AllFrom, side_seen, from_entry, all_itself, keeps_bases, incomplete_from, purged_from, changed_from, edits_from, deletes_from, added_from, all_added_from}
use Rattle.editor_laws.proofs.SeenContents.{IfOk, NodesSeen, tags_seen, place_seen, refs_seen, members_seen, mended_seen, without_seen, squeezed_seen, reversed_seen, then_ok, joined_seen, as_way_seen, runs_seen, fused_seen, renamed_seen, chosen_seen}
use Rattle.editor_laws.proofs.SeenPieces.{pieces_seen, replaced_seen, cut_seen, kept_part_seen, new_ways_seen, others_seen}

-- what comes of a job
abbrev pub Kept : TableValue → Result Outcome Refusal → Type 0
Kept t r = IfOk (λ new. AllFrom t new.table) r

-- a test, with what its passing says
tested : (t : TableValue) (o : Option Refusal) (r : Result Outcome Refusal) → (o ≡ None → Kept t r) → Kept t (o >> r)
tested t None r h = h refl
tested t (Some x) r h = tt

closed : (t : TableValue) (limit : ℕ) (keys : List Key) (new : Outcome) → AllFrom t new.table → Kept t (closing t limit keys new)
closed t limit keys new h = tested t (closing_tests t limit keys new.table) (Ok new) (λ ok. h)

-- What passes tests is seen.

all_first : (P : Key → Type 0) (test : Key → Option Refusal) → ((k : Key) → test k ≡ None → P k) → (ks : List Key) → first_of test ks ≡ None → AllByRecursion P ks
all_first P test h [] e = tt
all_first P test h (k ∷ ks) e = let p = both_none (test k) (first_of test ks) e in (h k p.0, all_first P test h ks p.1)

ref_case : (t : TableValue) (k : Key) (o : Option Entry) → entry_of t k ≡ o → ref_entry_test k o ≡ None → IsSeen t k
ref_case t k None is e = cc
ref_case t k (Some x) is e = λ p. has_key x is

tested_refs : (t : TableValue) (ks : List Key) → ref_tests t ks ≡ None → AllByRecursion (IsSeen t) ks
tested_refs t ks e = all_first (IsSeen t) (λ r. ref_entry_test r (entry_of t r)) (λ k. ref_case t k (entry_of t k) refl) ks e

target_case : (t : TableValue) (kinds : Kinds) (k : Key) (o : Option Entry) → entry_of t k ≡ o → entry_test kinds k o ≡ None → IsSeen t k
target_case t kinds k None is e = cc
target_case t kinds k (Some x) is e = λ p. has_key x is

target_seen : (t : TableValue) (kinds : Kinds) (k : Key) → target_test t kinds k ≡ None → IsSeen t k
target_seen t kinds k e = target_case t kinds k (entry_of t k) refl e

listed_seen : (t : TableValue) (kinds : Kinds) (ks : List Key) → list_tests t kinds ks ≡ None → AllByRecursion (IsSeen t) ks
listed_seen t kinds ks e = all_first (IsSeen t) (target_test t kinds) (target_seen t kinds) ks (both_none (twice_test [] ks) (first_of (target_test t kinds) ks) e).1

kept_seen : (P : Key → Type 0) (ks : List Key) → AllByRecursion P ks → IfSome P (kept_way ks)
kept_seen P ks h = or_some P (find (λ k. has_positive k.id) ks) _ (found_some P (λ k. has_positive k.id) ks h) (first_some P ks h)

-- An edit that passes its tests.

edit_kept : (t : TableValue) (limit : ℕ) (named ks : List Key) (f : Content → Content) → ((c : Content) → RefersSeen t c → RefersSeen t (f c)) → Kept t (closing t limit named (done (changed t (edit t f) ks)))
edit_kept t limit named ks f refs = closed t limit named (done (changed t (edit t f) ks)) (edits_from t t f ks (all_itself t) refs)

add_kept : (t : TableValue) (limit : ℕ) (c : Content) → Kept t (add t limit c)
add_kept t limit c = tested t (ref_tests t (refs_of c)) _ (λ ok.
    closed t limit [] (record { keys = new_key (kind_of_content c) t.next ∷ []; table = added t c }) (added_from t t c (tested_refs t (refs_of c) ok) (all_itself t)))

nodes_kept : (t : TableValue) (refs : List ℤ) → ref_tests t (map node refs) ≡ None → (c : Content) → RefersSeen t c → RefersSeen t (with_refs (λ _. refs) c)
nodes_kept t refs ok (content.Node tags at) h = h
nodes_kept t refs ok (content.Way tags old) h = tested_refs t (map node refs) ok
nodes_kept t refs ok (content.Relation tags members) h = h

members_kept : (t : TableValue) (members : List Member) → ref_tests t (map (λ m. m.key) members) ≡ None → (c : Content) → RefersSeen t c → RefersSeen t (with_members (λ _. members) c)
members_kept t members ok (content.Node tags at) h = h
members_kept t members ok (content.Way tags refs) h = h
members_kept t members ok (content.Relation tags old) h = tested_refs t (map (λ m. m.key) members) ok

-- What goes.

erased_from : (t : TableValue) (named : List Key) → AllFrom t (erased t named)
erased_from t named =
    edits_from t _ (with_members (members_without (goes t named))) (relations_left t named)
    (edits_from t _ (with_refs (mended named)) (mended_ways t named) (deletes_from t t (gone_keys t named) (all_itself t)) (refs_seen t (mended named) (mended_seen t named)))
    (members_seen t (members_without (goes t named)) (without_seen t (goes t named)))

purge_case : (t : TableValue) (k : Key) (o : Option Entry) → entry_of t k ≡ o → purge_entry_test k o ≡ None → IsSeen t k
purge_case t k None is e = cc
purge_case t k (Some x) is e = λ p. has_key x is

-- A way that is cut.

split_from : (t : TableValue) (way : Key) (nodes : List Key) (kept i next : ℕ) → IsSeen t way → AllFrom t (split_table t way (keyed way kept i next (split_pieces t way nodes)))
split_from t way nodes kept i next seen =
    let ps = keyed way kept i next (split_pieces t way nodes) in
    let cut = cut_seen t way nodes kept i next in
    all_added_from t _ (map (λ p. content.Way (tags_at t way) p.1) (others way ps)) (new_ways_seen t way (tags_at t way) (others way ps) (others_seen t way ps cut))
    (edits_from t _ (with_refs (λ _. kept_refs way ps)) (way ∷ [])
    (edits_from t t (replaced t way (map (piece_of way) ps)) (relations_of t way) (all_itself t) (replaced_seen t way (map (piece_of way) ps) (pieces_seen t way seen kept i next (split_pieces t way nodes))))
    (refs_seen t (λ _. kept_refs way ps) (λ refs h. kept_part_seen t way ps cut)))

-- Ways and nodes that become one.

combined_from : (t : TableValue) (ways : List Key) (refs : List ℤ) (kept : Option Key) → NodesSeen t refs → IfSome (IsSeen t) kept → AllFrom t (combined_table t ways refs kept)
combined_from t ways refs None h seen = all_itself t
combined_from t ways refs (Some kept) h seen =
    edits_from t _ (as_way refs (united (all_tags t ways))) (kept ∷ [])
    (deletes_from t _ (filter (λ k. not (is_key kept k)) ways) (edits_from t t (fold_runs ways kept) (relations_among t ways) (all_itself t) (runs_seen t ways kept seen)))
    (as_way_seen t refs (united (all_tags t ways)) h)

-- a node is that of its id
abbrev IsNodeSeen : TableValue → Key → Type 0
IsNodeSeen t k = IsSeen t k × IsSeen t (node k.id)

of_kind : (k : Key) (at : Kind) → k.kind ≡ at → takes Nodes at ≡ true → k ≡ node k.id
of_kind k kind.Node is e = λ i. record { kind = is i; id = k.id }
of_kind k kind.Way is e = cc
of_kind k kind.Relation is e = cc

node_case : (k : Key) (o : Option Entry) → entry_test Nodes k o ≡ None → takes Nodes k.kind ≡ true
node_case k None e = cc
node_case k (Some Incomplete) e = cc
node_case k (Some (Known base None conflict)) e = cc
node_case k (Some (Known base (Some mine) conflict)) e = passed_where_none (takes Nodes k.kind) _ _ e

node_seen : (t : TableValue) (k : Key) → target_test t Nodes k ≡ None → IsNodeSeen t k
node_seen t k e =
    let seen = target_seen t Nodes k e in
    (seen, subst (IsSeen t) (of_kind k k.kind refl (node_case k (entry_of t k) e)) seen)

fused_from : (t : TableValue) (nodes : List Key) (kept : Option Key) → IfSome (IsNodeSeen t) kept → AllFrom t (fused_table t nodes kept)
fused_from t nodes None seen = all_itself t
fused_from t nodes (Some kept) seen =
    edits_from t _ (with_tags (λ _. united (all_tags t nodes))) (kept ∷ [])
    (deletes_from t _ (filter (λ k. not (is_key kept k)) nodes) (edits_from t t (fused_content nodes kept) (users_among t nodes) (all_itself t) (fused_seen t nodes kept seen.0 seen.1)))
    (tags_seen t (λ _. united (all_tags t nodes)))

-- Objects of a file.

not_both : (id : ℤ) → is_negative id ≡ true → is_positive id ≡ true → ⊥
not_both (pos n) e p = cc
not_both (negsuc n) e p = cc

file_case : (t : TableValue) (k : Key) (b : Bool) (o : Option Refusal) → is_negative k.id ≡ b → cond b o (ref_entry_test k (entry_of t k)) ≡ None → IsSeen t k
file_case t k true o is e = λ p. absurd (not_both k.id is p)
file_case t k false o is e = ref_case t k (entry_of t k) refl e

file_refs_seen : (t : TableValue) (own : Key → Bool) (ks : List Key) → first_of (file_reference_test t own) ks ≡ None → AllByRecursion (IsSeen t) ks
file_refs_seen t own ks e = all_first (IsSeen t) (file_reference_test t own) (λ k. file_case t k (is_negative k.id) _ refl) ks e

contents_seen : (t : TableValue) (next : ℕ) (objects : List NewObject) → AllByRecursion (IsSeen t) (references objects) → AllByRecursion (RefersSeen t) (new_contents next objects)
contents_seen t next objects h =
    map_of_all (RefersSeen t) (λ (o : NewObject). renamed (key_named next objects) o.content) objects
    (all_more (λ (o : NewObject). RefersSeen t o.content) (λ (o : NewObject). RefersSeen t (renamed (key_named next objects) o.content)) (λ o i. renamed_seen t next objects o.content i) objects
    (all_flat (IsSeen t) (λ (o : NewObject). refs_of o.content) objects h))

-- A conflict that is settled.

settled_from : (t : TableValue) (k : Key) (choice : Choice) (o : Option Entry) → entry_of t k ≡ o → IsFrom t k (option_map (resolved choice) o)
settled_from t k choice None is = from_entry t k None is
settled_from t k choice (Some Incomplete) is = from_entry t k (Some Incomplete) is
settled_from t k choice (Some (Known base mine None)) is = from_entry t k (Some (Known base mine None)) is
settled_from t k choice (Some (Known base mine (Some conflict))) is =
    let old = from_entry t k (Some (Known base mine (Some conflict))) is in
    let has : HasSide (entry_of t k) conflict.theirs = subst (λ (o : Option Entry). HasSide o conflict.theirs) (sym is) (inr refl) in
    record {
      sides = λ b n h. old.sides b n (inr h);
      key = λ e same. old.key (Known base mine (Some conflict)) refl;
      refs = chosen_seen t choice base mine conflict old.refs (side_seen t k conflict.theirs has);
    }

named_refs : (t : TableValue) (o : Option Content) → IfContent o (RefersSeen t) → AllByRecursion (IsSeen t) (refs_by o)
named_refs t None h = tt
named_refs t (Some c) h = h

entered_from : (t : TableValue) (q : Key) (o : Option Entry) → entry_of t q ≡ o → IsSeen t q → IsFrom t q (option_or o (Some Incomplete))
entered_from t q None is seen = incomplete_from t q seen
entered_from t q (Some e) is seen = from_entry t q (Some e) is

entry_from : (t : TableValue) (k : Key) (e : Option Entry) (q : Key) (b : Bool) → IsFrom t k e → is_key k q ≡ b → (is_key q k || is_named (refs_by (mine_at e)) q) ≡ true → IsFrom t q (cond b e (option_or (entry_of t q) (Some Incomplete)))
entry_from t k e q true h is named = subst (λ (j : Key). IsFrom t j e) (one_key k q is) h
entry_from t k e q false h is named =
    entered_from t q (entry_of t q) refl (all_at (IsSeen t) (refs_by (mine_at e)) q (named_refs t (mine_at e) h.refs)
    (let turned : is_key q k ≡ false = key_turned q k ∙ is in sym (ap (λ b. b || is_named (refs_by (mine_at e)) q) turned) ∙ named))

settled_table_from : (t : TableValue) (k : Key) (e : Option Entry) → IsFrom t k e → AllFrom t (settled_table t k e)
settled_table_from t k e h = changed_from t t (settled_entry t k e) (k ∷ refs_by (mine_at e)) (all_itself t) (λ q named. entry_from t k e q (is_key k q) h refl named)

settle_kept : (t : TableValue) (limit : ℕ) (k : Key) (e : Option Entry) → IsFrom t k e → Kept t (settle t limit k e)
settle_kept t limit k e h =
    tested t (unused_test t k (mine_at e)) _ (λ ok. tested t (references_gone_test t k (mine_at e)) _ (λ ok. tested t (settled_fit_test k e) _ (λ ok.
    tested t (room_test limit (settled_table t k e)) _ (λ ok. settled_table_from t k e h))))

-- The jobs.

pub outcome_kept : (j : Job) (t : TableValue) (limit : ℕ) → is_merge j ≡ false → Kept t (outcome j t limit)
outcome_kept (job.AddNode tags at) t limit n = add_kept t limit (content.Node tags at)
outcome_kept (job.AddWay tags refs) t limit n = add_kept t limit (content.Way tags refs)
outcome_kept (job.AddRelation tags members) t limit n = add_kept t limit (content.Relation tags members)
outcome_kept (job.SetTags keys tags) t limit n = tested t (list_tests t Any keys) _ (λ ok.
    edit_kept t limit keys keys (with_tags (λ x. retagged x tags)) (tags_seen t (λ x. retagged x tags)))
outcome_kept (job.Shift keys dx dy) t limit n = tested t (list_tests t NodesAndWays keys) _ (λ ok.
    tested t (first_of (λ n. move_entry_test dx dy n (entry_of t n)) (moved_nodes t keys)) _ (λ ok.
    edit_kept t limit keys (moved_nodes t keys) (with_place (moved dx dy)) (place_seen t (moved dx dy))))
outcome_kept (job.Place key at) t limit n = tested t (target_test t Nodes key) _ (λ ok.
    edit_kept t limit (key ∷ []) (key ∷ []) (with_place (λ _. at)) (place_seen t (λ _. at)))
outcome_kept (job.SetNodes key refs) t limit n = tested t (target_test t Ways key) _ (λ ok.
    tested t (ref_tests t (refs_of (content.Way [] refs))) _ (λ there.
    edit_kept t limit (key ∷ []) (key ∷ []) (with_refs (λ _. refs)) (nodes_kept t refs there)))
outcome_kept (job.SetMembers key members) t limit n = tested t (target_test t Relations key) _ (λ ok.
    tested t (ref_tests t (refs_of (content.Relation [] members))) _ (λ there.
    edit_kept t limit (key ∷ []) (key ∷ []) (with_members (λ _. members)) (members_kept t members there)))
outcome_kept (job.Delete keys) t limit n = tested t (list_tests t Any keys) _ (λ ok.
    tested t (first_of (use_test t keys) keys) _ (λ ok. deletes_from t t keys (all_itself t)))
outcome_kept (job.Erase keys) t limit n = tested t (list_tests t Any keys) _ (λ ok. closed t limit keys (done (erased t keys)) (erased_from t keys))
outcome_kept (job.Purge keys) t limit n = tested t (twice_test [] keys) _ (λ ok.
    tested t (first_of (λ k. purge_entry_test k (entry_of t k)) keys) _ (λ there.
    tested t (first_of (λ k. if is_new_entry (entry_of t k) then use_test t keys k else None) keys) _ (λ ok.
    changed_from t t (λ k. if is_used t keys k then Some Incomplete else None) keys (all_itself t) (λ k named.
    purged_from t k (is_used t keys k) (purge_case t k (entry_of t k) refl (passes (λ k. purge_entry_test k (entry_of t k)) keys k there named))))))
outcome_kept (job.Split way nodes) t limit n = tested t (target_test t Ways way) _ (λ there.
    tested t (node_tests (way_refs (content_of t way)) [] nodes) _ (λ ok. tested t (complete_test t (way_refs (content_of t way))) _ (λ ok.
    tested t (when (nat_lt (length (split_pieces t way nodes)) 2) (NothingToSplit way)) _ (λ ok.
    closed t limit (way ∷ nodes) (split_into t way (keyed way (kept_number (split_pieces t way nodes)) 0 t.next (split_pieces t way nodes)))
    (split_from t way nodes (kept_number (split_pieces t way nodes)) 0 t.next (target_seen t Ways way there))))))
outcome_kept (job.Combine ways) t limit n = tested t (list_tests t Ways ways) _ (λ there.
    tested t (first_of (way_test t) ways) _ (λ ok. then_ok (NodesSeen t) (λ new. AllFrom t new.table) (joined t ways) _ (joined_seen t ways) (λ refs seen.
    tested t (clash_test (all_tags t ways)) _ (λ ok. tested t (member_test t ways) _ (λ ok.
    closed t limit ways (done (combined_table t ways refs (kept_way ways)))
    (combined_from t ways refs (kept_way ways) seen (kept_seen (IsSeen t) ways (listed_seen t Ways ways there))))))))
outcome_kept (job.Reverse way) t limit n = tested t (target_test t Ways way) _ (λ ok.
    edit_kept t limit (way ∷ []) (way ∷ []) (with_refs reverse) (refs_seen t reverse (reversed_seen t)))
outcome_kept (job.Merge told) t limit n = cc
outcome_kept (job.Import objects) t limit n = tested t (first_of (file_reference_test t (is_named (file_keys objects))) (references objects)) _ (λ there.
    closed t limit [] (record { keys = new_keys t.next objects; table = all_added t (new_contents t.next objects) })
    (all_added_from t t (new_contents t.next objects) (contents_seen t t.next objects (file_refs_seen t (is_named (file_keys objects)) (references objects) there)) (all_itself t)))
outcome_kept (job.Resolve key choice) t limit n = tested t (choice_test choice key (entry_of t key)) _ (λ ok.
    settle_kept t limit key (option_map (resolved choice) (entry_of t key)) (settled_from t key choice (entry_of t key) refl))
outcome_kept (job.Squeeze keys) t limit n = tested t (list_tests t Ways keys) _ (λ ok.
    tested t (first_of (λ k. when (not (is_repeated t k)) (NoFinding k)) keys) _ (λ ok.
    edit_kept t limit keys keys (with_refs squeezed) (refs_seen t squeezed (squeezed_seen t))))
outcome_kept (job.Fuse nodes) t limit n = tested t (list_tests t Nodes nodes) _ (λ there.
    tested t (place_test t nodes) _ (λ ok. tested t (clash_test (all_tags t nodes)) _ (λ ok.
    closed t limit nodes (done (fused_table t nodes (kept_node nodes)))
    (fused_from t nodes (kept_node nodes) (kept_seen (IsNodeSeen t) nodes (all_first (IsNodeSeen t) (target_test t Nodes) (node_seen t) nodes (both_none (twice_test [] nodes) (first_of (target_test t Nodes) nodes) there).1))))))

answered_from : (t : TableValue) (r : Result Outcome Refusal) → Kept t r → AllFrom t (answered t r).table
answered_from t (Ok new) h = h
answered_from t (Err r) h = all_itself t

-- A job that isn't a Merge keeps the bases of its table.
pub job_keeps : (j : Job) (t : TableValue) (limit : ℕ) → is_merge j ≡ false → KeepsBases t (plain j t limit).table
job_keeps j t limit n = keeps_bases t (plain j t limit).table (answered_from t (outcome j t limit) (outcome_kept j t limit n))
