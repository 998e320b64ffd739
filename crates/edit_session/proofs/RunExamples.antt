-- A worked session: what is promised of its upload asks for a server that there is, and says that it takes the changes.
--
-- The script downloads n1 and w5, a way of n1, moves n1, makes a node, deletes w5, and uploads. In a meeting an editor
-- sends the move of n1.
use Rattle.std.proofs.Common.{◌≡◌, ◌<◌, ◌∙◌, ◌||◌, ℕ, pos, negsuc, Bool, true, false, cond, List, [], ◌∷◌, length, Option, Some, None, Ok, refl, sym, ap, subst, arith}
use Rattle.std.specs.Prelude.{codes}
use Rattle.std.specs.Option.{option_map_or}
use Rattle.std.specs.FinMap as fin
use Rattle.std.specs.FinMap.Entries.{find}
use Rattle.std.specs.Str.{is_utf8, chars}
use lib.Utf8.{encode}
use Rattle.osm_base.specs.Content.{node, refers}
use Rattle.osm_base.specs.Coord.{coord_text, part_text, pointed_text, size_text, whole_text}
use Rattle.osm_base.specs.Meta.{empty_meta}
use Rattle.osm_base.specs.Number.{id_text, key_text, kind_letter, number_text}
use Rattle.osm_base.specs.Place.{place_at}
use Rattle.osm_base.specs.Rank.{rank_cmp, is_key}
use Rattle.osm_base.specs.RankLaws.{rank_total}
use Rattle.osm_base.specs.declared.content.Content.{Content}
use Rattle.osm_base.specs.declared.content.Content.TheVariants as content
use Rattle.osm_base.specs.declared.coord.Coord.{Coord}
use Rattle.osm_base.specs.declared.key.Key.{Key}
use Rattle.osm_base.specs.declared.key.Kind.TheVariants as kind
use Rattle.osm_base.proofs.SameLaws.{is_key_decides}
use Rattle.osm_outside.specs.Outside.{Shelved}
use Rattle.command_line.specs.Words.{CommandLineValue}
use Rattle.opl_text.specs.Text.{unescaped}
use Rattle.opl_line.specs.Field.{field_into, is_place, letter_of, named_into, number_to, place_text, ref_into, ref_text, refs_into, refs_text, tags_text, version_into, visible_into, visible_text, x_into, y_into}
use Rattle.opl_line.specs.Line as lines
use Rattle.opl_line.specs.Line.{completed, content_of, id_at, key_at, line_of, location_of, object_of, side_of}
use Rattle.opl_line.specs.declared.mode.Mode.TheVariants as mode
use Rattle.opl_line.specs.declared.object.OplObject.{OplObject}
use Rattle.opl_file.specs.Reading.{objects_of, taken}
use Rattle.osm_table.specs.declared.entry.Base.TheVariants.{New, Live}
use Rattle.osm_table.specs.declared.entry.Entry.{Entry}
use Rattle.osm_table.specs.declared.entry.Entry.TheVariants.{Known}
use Rattle.osm_table.specs.declared.told.Told.{Told}
use Rattle.osm_table.specs.declared.told.Told.TheVariants as tells
use Rattle.osm_table.specs.Table.{TableValue, entry_of, version_of}
use Rattle.osm_table.specs.Told.{ToldValue}
use Rattle.download.specs.Filter.{filtered}
use Rattle.tool_api.specs.declared.job.Job.TheVariants as job
use Rattle.tool_api.specs.declared.reply.Reply.TheVariants as reply
use Rattle.tool_api.specs.Basic.{with_place}
use Rattle.tool_api.specs.Changes as done_by
use Rattle.tool_api.specs.Checks.{◌>>◌}
use Rattle.tool_api.specs.Closing.{room_test}
use Rattle.tool_api.specs.Merged.{clash_test, merged}
use Rattle.tool_api.specs.Plain.{answered, plain}
use Rattle.upload_order.specs.declared.change.Change.{Change}
use Rattle.upload_order.specs.declared.change.Change.TheVariants.{Create, Modify, Delete}
use Rattle.upload_order.specs.Bases.{base_in, is_based}
use Rattle.upload_order.specs.Kinds.{held_of}
use Rattle.upload_order.specs.Refused as plans
use Rattle.upload_order.specs.Run.{run_from, Ended, AreFresh}
use Rattle.upload_order.specs.World.{World, WorldEntry, content_at, refusal, stands, Alone, Holds, IsEdited, IsSoundWorld}
use Rattle.upload_order.specs.Pieces.{content_in}
use Rattle.edit_script.specs.Grammar.{act_of}
use Rattle.edit_script.specs.Items.{keys_word, number_word, place_texts, place_words, tags_word}
use Rattle.edit_script.specs.Script.{kind_of_line, steps_of}
use Rattle.edit_script.specs.declared.step.Act.TheVariants.{File, Job, Look, Meet}
use Rattle.edit_script.specs.declared.step.Look.TheVariants.{Upload}
use Rattle.edit_script.specs.declared.step.MeetStep.TheVariants.{Send}
use Rattle.edit_script.specs.declared.step.Purpose.TheVariants.{Download}
use Rattle.edit_script.specs.declared.step.Step.{Step}
use Rattle.edit_script.specs.declared.reply.StepReply.TheVariants.{Done}
use Rattle.edit_history.specs.Machine.{State, done_in, first_state, fresh, ran}
use Rattle.edit_history.specs.declared.counts.Group.TheVariants as group
use Rattle.many_editors.specs.Meeting.{at_work}
use Rattle.many_editors.specs.States.{object_told}
use Rattle.edit_steps.specs.declared.limits.Limits.{Limits}
use Rattle.edit_steps.specs.declared.looks.Behind.TheVariants as behind
use Rattle.edit_steps.specs.Given.{Given, all_given}
use Rattle.edit_steps.specs.Limits.{limits_of}
use Rattle.edit_steps.specs.Load.{job_found}
use Rattle.edit_session.specs.Meet.{Seat}
use Rattle.edit_session.specs.Met.{IsMet}
use Rattle.edit_steps.specs.Planned.{on_plan, planned, upload_answer}
use Rattle.edit_session.specs.Session.{line_given, run, steps_read}
use Rattle.edit_steps.specs.States.{states_before}
use Rattle.edit_steps.specs.Turn.{file_turn, job_turn, step_turn}
use Rattle.edit_session.specs.Uploads.{AreUploads, AreUploadsBy, IsUpload, run_of}

-- ---- words on the objects

abbrev first_place : Coord
first_place = record { lon = pos 0; lat = pos 0; on_map = refl }

abbrev to_the_east : Coord
to_the_east = record { lon = pos 3; lat = pos 0; on_map = refl }

abbrev dot : Coord → Content
dot at = content.Node [] at

abbrev line : Content
line = content.Way [] (pos 1 ∷ [])

abbrev n1 : Key
n1 = node (pos 1)

abbrev made : Key
made = node (negsuc 0)

abbrev w5 : Key
w5 = record { kind = kind.Way; id = pos 5 }

abbrev kept : Content → Entry
kept c = Known (Live 1 c empty_meta) (Some c) None

abbrev moved : Entry
moved = Known (Live 1 (dot first_place) empty_meta) (Some (dot to_the_east)) None

abbrev new : Entry
new = Known New (Some (dot first_place)) None

abbrev deleted : Entry
deleted = Known (Live 1 line empty_meta) None None

-- tables are one where their entries and numbers are
abbrev table : ℕ → List (Key × Entry) → TableValue
table next entries = record { entries = fin.from_sorted entries; next = next }

same_table : (t u : TableValue) → fin.entries t.entries ≡ fin.entries u.entries → t.next ≡ u.next → t ≡ u
same_table t u entries next = let m = fin.same_entries_map t.entries u.entries entries in λ i. record { entries = m i; next = next i }

nil_of : {A : Type 0} (xs : List A) → length xs ≡ 0 → xs ≡ []
nil_of [] e = refl
nil_of (x ∷ xs) e = cc

nothing : {X : Type 0} → fin.entries (fin.empty {X = X} {R = rank_cmp}) ≡ []
nothing {X = X} = nil_of (fin.entries (fin.empty {X = X} {R = rank_cmp})) (sym (fin.len-entries (fin.empty {X = X} {R = rank_cmp})) ∙ fin.len-empty rank_cmp X)

-- ---- the script and its file

abbrev script : List ℕ
script = codes "download f\nplace n1 x0.0000003 y0\nnode x0 y0 T\ndelete w5\nupload 100\n"

abbrev file : List ℕ
file = codes "n1 v1 x0 y0\nw5 v1 Nn1\n"

abbrev uploading : Step
uploading = record { line = 5; act = Look (Upload 100) }

abbrev steps : List Step
steps =
    record { line = 1; act = File (codes "f") (Download None None) }
    ∷ record { line = 2; act = Job (job.Place n1 to_the_east) }
    ∷ record { line = 3; act = Job (job.AddNode [] first_place) }
    ∷ record { line = 4; act = Job (job.Delete (w5 ∷ [])) }
    ∷ uploading
    ∷ []

script_read : steps_of script ≡ Ok steps
unfolding kind_of_line act_of keys_word number_word place_words place_texts tags_word tags_text unescaped is_utf8 chars encode key_text id_text kind_letter number_text coord_text size_text whole_text pointed_text part_text place_at
script_read = refl

abbrev stood : Key → Content → OplObject
stood k c = record { key = k; version = 1; side = Some c; meta = empty_meta }

abbrev objects : List OplObject
objects = stood n1 (dot first_place) ∷ stood w5 line ∷ []

file_read : objects_of mode.Download 268435456 file ≡ Ok objects
unfolding objects_of taken line_of lines.kind_of_line object_of key_at id_at kind_letter id_text number_text field_into letter_of named_into version_into number_to visible_into visible_text x_into y_into place_text coord_text size_text pointed_text whole_text part_text place_at refs_into refs_text ref_into ref_text is_place completed lines.version_of location_of side_of content_of
file_read = refl

-- ---- what each job makes of its table

-- what the file tells
abbrev news : List (Key × Told)
news = (n1, tells.Live 1 (dot first_place) empty_meta) ∷ (w5, tells.Live 1 line empty_meta) ∷ []

abbrev told : ToldValue
told = record { told = fin.from_sorted news; order = n1 ∷ w5 ∷ [] }

told_listed : fin.entries told.told ≡ news
told_listed = fin.entries-from_sorted rank_cmp news tt

filtered_listed : fin.entries (filtered objects None None).told ≡ news
filtered_listed = simp (fin.get-entries, fin.entries-insert {X = Told} rank_total, nothing {X = Told}) refl

filtered_order : (filtered objects None None).order ≡ n1 ∷ w5 ∷ []
filtered_order = simp (fin.get-entries, fin.entries-insert {X = Told} rank_total, nothing {X = Told}) refl

tells_news : filtered objects None None ≡ told
tells_news = let m = fin.same_entries_map (filtered objects None None).told told.told (filtered_listed ∙ sym told_listed) in λ i. record { told = m i; order = filtered_order i }

-- downloaded
abbrev at_first : TableValue
at_first = first_state.now

abbrev unchanged : List (Key × Entry)
unchanged = (n1, kept (dot first_place)) ∷ (w5, kept line) ∷ []

unchanged_listed : fin.entries (table 1 unchanged).entries ≡ unchanged
unchanged_listed = fin.entries-from_sorted rank_cmp unchanged tt

merged_listed : fin.entries (merged at_first told.told).entries ≡ unchanged
merged_listed = simp (fin.get-entries, fin.entries-insert {X = Entry} rank_total, told_listed, nothing {X = Entry}) refl

merged_next : (merged at_first told.told).next ≡ 1
merged_next = simp (fin.get-entries, told_listed, nothing {X = Entry}) refl

no_clash : clash_test at_first told.told ≡ None
no_clash = simp (fin.get-entries, told_listed, nothing {X = Entry}) refl

has_room : room_test 2000000 (merged at_first told.told) ≡ None
has_room = simp (fin.len-entries, merged_listed, merged_next) refl

downloads : plain (job.Merge told) at_first 2000000 ≡ record { reply = reply.Done []; table = table 1 unchanged }
downloads =
    ap (λ clash. answered at_first (clash >> (room_test 2000000 (merged at_first told.told) >> Ok (done_by.done (merged at_first told.told))))) no_clash
    ∙ ap (λ full. answered at_first (full >> Ok (done_by.done (merged at_first told.told)))) has_room
    ∙ ap (λ t. record { reply = reply.Done []; table = t }) (same_table (merged at_first told.told) (table 1 unchanged) (merged_listed ∙ sym unchanged_listed) merged_next)

-- n1 moved
abbrev one_moved : List (Key × Entry)
one_moved = (n1, moved) ∷ (w5, kept line) ∷ []

moved_listed : fin.entries (table 1 one_moved).entries ≡ one_moved
moved_listed = fin.entries-from_sorted rank_cmp one_moved tt

abbrev placed : TableValue
placed = done_by.changed (table 1 unchanged) (done_by.edit (table 1 unchanged) (with_place (λ _. to_the_east))) (n1 ∷ [])

is_placed : plain (job.Place n1 to_the_east) (table 1 unchanged) 2000000 ≡ record { reply = reply.Done []; table = placed }
is_placed = simp (fin.get-entries, fin.len-entries, fin.entries-insert {X = Entry} rank_total, unchanged_listed) refl

placed_listed : fin.entries placed.entries ≡ one_moved
placed_listed = simp (fin.get-entries, fin.entries-insert {X = Entry} rank_total, unchanged_listed) refl

placed_next : placed.next ≡ 1
placed_next = simp (fin.get-entries, unchanged_listed) refl

places : plain (job.Place n1 to_the_east) (table 1 unchanged) 2000000 ≡ record { reply = reply.Done []; table = table 1 one_moved }
places = is_placed ∙ ap (λ t. record { reply = reply.Done []; table = t }) (same_table placed (table 1 one_moved) (placed_listed ∙ sym moved_listed) placed_next)

-- a node made
abbrev one_made : List (Key × Entry)
one_made = (n1, moved) ∷ (made, new) ∷ (w5, kept line) ∷ []

made_listed : fin.entries (table 2 one_made).entries ≡ one_made
made_listed = fin.entries-from_sorted rank_cmp one_made tt

abbrev added : TableValue
added = done_by.added (table 1 one_moved) (dot first_place)

is_added : plain (job.AddNode [] first_place) (table 1 one_moved) 2000000 ≡ record { reply = reply.Done (made ∷ []); table = added }
is_added = simp (fin.get-entries, fin.len-entries, fin.entries-insert {X = Entry} rank_total, moved_listed) refl

added_listed : fin.entries added.entries ≡ one_made
added_listed = simp (fin.entries-insert {X = Entry} rank_total, moved_listed) refl

adds : plain (job.AddNode [] first_place) (table 1 one_moved) 2000000 ≡ record { reply = reply.Done (made ∷ []); table = table 2 one_made }
adds = is_added ∙ ap (λ t. record { reply = reply.Done (made ∷ []); table = t }) (same_table added (table 2 one_made) (added_listed ∙ sym made_listed) refl)

-- and w5 deleted
abbrev edits : List (Key × Entry)
edits = (n1, moved) ∷ (made, new) ∷ (w5, deleted) ∷ []

abbrev edited : TableValue
edited = table 2 edits

edits_listed : fin.entries edited.entries ≡ edits
edits_listed = fin.entries-from_sorted rank_cmp edits tt

abbrev without : TableValue
without = done_by.changed (table 2 one_made) (done_by.delete (table 2 one_made)) (w5 ∷ [])

is_without : plain (job.Delete (w5 ∷ [])) (table 2 one_made) 2000000 ≡ record { reply = reply.Done []; table = without }
is_without = simp (fin.get-entries, made_listed) refl

without_listed : fin.entries without.entries ≡ edits
without_listed = simp (fin.get-entries, fin.entries-insert {X = Entry} rank_total, made_listed) refl

without_next : without.next ≡ 2
without_next = simp (fin.get-entries, made_listed) refl

deletes : plain (job.Delete (w5 ∷ [])) (table 2 one_made) 2000000 ≡ record { reply = reply.Done []; table = edited }
deletes = is_without ∙ ap (λ t. record { reply = reply.Done []; table = t }) (same_table without edited (without_listed ∙ sym edits_listed) without_next)

-- ---- the run

abbrev asked : CommandLineValue
asked = record { script = codes "s"; max_objects = 2000000; max_file = 268435456 }

abbrev limits : Limits
limits = limits_of asked

abbrev files : Shelved
files = (codes "s", script) ∷ (codes "f", file) ∷ []

abbrev given : List Given
given = Some file ∷ None ∷ None ∷ None ∷ None ∷ []

run_is : run_of limits (line_given (Some asked) files) ≡ states_before limits given steps first_state
run_is = ap (λ read. run limits (all_given files (steps_read read)) (steps_read read)) script_read

abbrev after : Given → Step → State → State
after given step s = (step_turn limits given step s).state

abbrev downloaded : State
downloaded = done_in group.Outside (table 1 unchanged) first_state

abbrev with_move : State
with_move = done_in group.Outside (table 1 one_moved) downloaded

abbrev with_node : State
with_node = done_in group.Outside (table 2 one_made) with_move

abbrev ready : State
ready = done_in group.Outside edited with_node

after_download : after (Some file) (record { line = 1; act = File (codes "f") (Download None None) }) first_state ≡ downloaded
after_download =
    ap (λ read. (file_turn 2000000 (job_found (λ os. job.Merge (filtered os None None)) (Some read)) first_state).state) file_read
    ∙ ap (λ t. (job_turn 2000000 (job.Merge t) first_state).state) tells_news
    ∙ ap (λ answer. ran answer.reply answer.table first_state) downloads

after_place : after None (record { line = 2; act = Job (job.Place n1 to_the_east) }) downloaded ≡ with_move
after_place = ap (λ answer. ran answer.reply answer.table downloaded) places

after_node : after None (record { line = 3; act = Job (job.AddNode [] first_place) }) with_move ≡ with_node
after_node = ap (λ answer. ran answer.reply answer.table with_move) adds

after_delete : after None (record { line = 4; act = Job (job.Delete (w5 ∷ [])) }) with_node ≡ ready
after_delete = ap (λ answer. ran answer.reply answer.table with_node) deletes

before_upload : after None (record { line = 4; act = Job (job.Delete (w5 ∷ [])) }) (after None (record { line = 3; act = Job (job.AddNode [] first_place) })
    (after None (record { line = 2; act = Job (job.Place n1 to_the_east) }) (after (Some file) (record { line = 1; act = File (codes "f") (Download None None) }) first_state))) ≡ ready
before_upload =
    ap (λ s. after None (record { line = 4; act = Job (job.Delete (w5 ∷ [])) }) (after None (record { line = 3; act = Job (job.AddNode [] first_place) }) (after None (record { line = 2; act = Job (job.Place n1 to_the_east) }) s))) after_download
    ∙ ap (λ s. after None (record { line = 4; act = Job (job.Delete (w5 ∷ [])) }) (after None (record { line = 3; act = Job (job.AddNode [] first_place) }) s)) after_place
    ∙ ap (λ s. after None (record { line = 4; act = Job (job.Delete (w5 ∷ [])) }) s) after_node
    ∙ after_delete

-- What is promised of the uploads of this session is promised of its last step.
upload_promised : AreUploadsBy (Some asked) (line_given (Some asked) files) → IsUpload limits None uploading 100 ready
upload_promised promised =
    let over : AreUploads limits (states_before limits given steps first_state) = subst (AreUploads limits) run_is promised in
    let fifth : 4 < 5 = omega arith in
    subst (λ s. IsUpload limits None uploading 100 s) before_upload (over 4 (uploading, None, first_state) fifth 100 refl)

-- ---- a server that takes it

abbrev in_version : ℕ → Content → WorldEntry
in_version version c = record { version = version; content = Some c }

abbrev there : List (Key × WorldEntry)
there = (n1, in_version 1 (dot first_place)) ∷ (w5, in_version 1 line) ∷ []

abbrev server : World
server = record { entries = fin.from_sorted there; names = [] }

server_listed : fin.entries server.entries ≡ there
server_listed = fin.entries-from_sorted rank_cmp there tt

entry_is : (k : Key) → entry_of edited k ≡ find rank_cmp k edits
entry_is k = fin.get-from_sorted rank_cmp edits k tt

stands_is : (k : Key) → stands server k ≡ find rank_cmp k there
stands_is k = fin.get-from_sorted rank_cmp there k tt

-- It is sound: w5 refers to n1 alone, which stands there.
line_refers : (a b : Bool) (c : Content) (r : Key) → content_in (cond a (Some (in_version 1 (dot first_place))) (cond b (Some (in_version 1 line)) None)) ≡ Some c → refers c r ≡ true → refers line r ≡ true
line_refers true b c r is refer = let no : false ≡ true = ap (λ (o : Option Content). option_map_or (λ d. refers d r) o false) is ∙ refer in cc
line_refers false true c r is refer = ap (λ (o : Option Content). option_map_or (λ d. refers d r) o false) is ∙ refer
line_refers false false c r is refer = cc

or_false : (b : Bool) → (b || false) ≡ true → b ≡ true
or_false true is = refl
or_false false is = is

is_n1 : (r : Key) → refers line r ≡ true → r ≡ n1
is_n1 r refer = (is_key_decides r n1).0 (or_false (is_key r n1) refer)

sound : IsSoundWorld server
sound q r c has refer = (dot first_place, ap (content_at server) (is_n1 r (line_refers (is_key q n1) (is_key q w5) c r (sym (ap content_in (stands_is q)) ∙ has) refer)) ∙ ap content_in (stands_is n1))

-- It has the bases,
holds_by : (a b c : Bool) (e : Entry) → cond a (Some moved) (cond b (Some new) (cond c (Some deleted) None)) ≡ Some e → is_based e ≡ true → (b ≡ true → c ≡ false)
    → cond a (Some (in_version 1 (dot first_place))) (cond c (Some (in_version 1 line)) None) ≡ Some (record { version = version_of (base_in e); content = held_of e })
holds_by true b c e is based apart = ap (λ (o : Option Entry). option_map_or (λ (x : Entry). Some (record { version = version_of (base_in x); content = held_of x })) o None) is
holds_by false true c e is based apart = let no : false ≡ true = ap (λ (o : Option Entry). option_map_or is_based o false) is ∙ based in cc
holds_by false false true e is based apart = ap (λ (o : Option Entry). option_map_or (λ (x : Entry). Some (record { version = version_of (base_in x); content = held_of x })) o None) is
holds_by false false false e is based apart = cc

not_both : (k : Key) → is_key k made ≡ true → is_key k w5 ≡ false
not_both k same = ap (λ (x : Key). is_key x w5) ((is_key_decides k made).0 same)

holds : Holds server edited
holds k e is based = stands_is k ∙ holds_by (is_key k n1) (is_key k made) (is_key k w5) e (sym (entry_is k) ∙ is) based (not_both k)

-- and nothing else that refers to w5.
alone_by : (a b c : Bool) (k : Key) (x : Content) → option_map_or is_based (cond a (Some moved) (cond b (Some new) (cond c (Some deleted) None))) false ≡ false
    → content_in (cond a (Some (in_version 1 (dot first_place))) (cond c (Some (in_version 1 line)) None)) ≡ Some x → (b ≡ true → c ≡ false) → refers x k ≡ false
alone_by true b c k x other has apart = cc
alone_by false true true k x other has apart = let no : true ≡ false = apart refl in cc
alone_by false true false k x other has apart = cc
alone_by false false true k x other has apart = cc
alone_by false false false k x other has apart = cc

alone : Alone server edited
alone q k c other has falls = alone_by (is_key q n1) (is_key q made) (is_key q w5) k c (ap (λ (o : Option Entry). option_map_or is_based o false) (sym (entry_is q)) ∙ other) (ap content_in (sym (stands_is q)) ∙ has) (not_both q)

-- The upload sends three changes, and replies ok.
abbrev sent : List Change
sent = Create made (dot first_place) ∷ Modify n1 1 (dot to_the_east) ∷ Delete w5 1 ∷ []

is_sent : plans.upload edited ≡ Ok sent
is_sent = simp (fin.get-entries, edits_listed) refl

replies_ok : (step_turn limits None uploading ready).answer.reply ≡ Done []
unfolding upload_answer
replies_ok = ap (λ changes. (on_plan (λ cs. behind.Changes cs 100) (planned changes)).reply) is_sent

-- The id 7 is new.
new_id : AreFresh server edited sent (pos 7 ∷ [])
new_id = (refl, stands_is (node (pos 7)), entry_is (node (pos 7)), (λ among. among), tt)

-- So it is promised that the server takes them, and has the edits then.
is_taken : AreUploadsBy (Some asked) (line_given (Some asked) files) → (v : World) × (run_from 1 server sent (pos 7 ∷ []) ≡ Ended v) × IsEdited edited server v
is_taken promised =
    let upload = (upload_promised promised).sent replies_ok in
    let both : Ok upload.changes ≡ Ok sent = sym upload.planned ∙ is_sent in
    let same : sent ≡ upload.changes = cc in
    subst (λ cs. (v : World) × (run_from 1 server cs (pos 7 ∷ []) ≡ Ended v) × IsEdited edited server v) (sym same)
    (upload.runs server (pos 7 ∷ []) sound holds alone (subst (λ cs. AreFresh server edited cs (pos 7 ∷ [])) same new_id))

-- This is it: n7 was made, n1 is in version 2 to the east, and w5 is deleted.
abbrev last : World
last = record {
  entries =
      fin.insert (fin.insert (fin.insert server.entries (node (pos 7)) (in_version 1 (dot first_place))) n1 (in_version 2 (dot to_the_east))) w5 (record { version = 2; content = None });
  names = (made, pos 7) ∷ [];
}

is_last : run_from 1 server sent (pos 7 ∷ []) ≡ Ended last
is_last = simp (fin.get-entries, fin.entries-insert {X = WorldEntry} rank_total, server_listed) refl

moved_there : content_at last n1 ≡ Some (dot to_the_east)
moved_there = simp (fin.get-entries, fin.entries-insert {X = WorldEntry} rank_total, server_listed) refl

-- ---- a send in a meeting

-- An editor who moved n1 sends that one change, and the server accepts it.
abbrev of_one : TableValue
of_one = table 1 ((n1, moved) ∷ [])

one_listed : fin.entries of_one.entries ≡ (n1, moved) ∷ []
one_listed = fin.entries-from_sorted rank_cmp ((n1, moved) ∷ []) tt

abbrev eastwards : Change
eastwards = Modify n1 1 (dot to_the_east)

one_sent : plans.upload of_one ≡ Ok (eastwards ∷ [])
one_sent = simp (fin.get-entries, one_listed) refl

accepted : refusal server eastwards (pos 0) ≡ None
accepted = simp (fin.get-entries, server_listed) refl

abbrev sending : Step
sending = record { line = 1; act = Meet (Send 1) }

abbrev seat : Seat
seat = record { editor = 0; meeting = record { world = server; earlier = []; editors = at_work (fresh of_one) ∷ [] } }

-- What is promised of that step says that the server had there what the editor's table has as base.
found_there : IsMet limits None sending seat → stands server n1 ≡ Some (in_version 1 (dot first_place))
found_there met =
    let finds : stands server n1 ≡ Some (object_told (option_map_or base_in (entry_of of_one n1) New)) = (met.begun.seen 1 (eastwards ∷ []) refl one_sent (pos 0) accepted).0 in
    finds ∙ ap (λ (o : Option Entry). Some (object_told (option_map_or base_in o New))) (fin.get-from_sorted rank_cmp ((n1, moved) ∷ []) n1 tt)
