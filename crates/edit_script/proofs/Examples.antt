-- Worked examples of each line and reply.
use Rattle.std.proofs.Common.{◌≡◌, ℕ, pos, negsuc, [], ◌∷◌, Some, None, Ok, Err, refl}
use Rattle.std.specs.Prelude.{codes}
use Rattle.std.specs.Fmt.{digits}
use Rattle.std.specs.Str.{is_utf8, chars}
use lib.Utf8.{encode}
use Rattle.osm_base.specs.Coord.{coord_text, size_text, whole_text, pointed_text, part_text}
use Rattle.osm_base.specs.Number.{number_text, id_text, kind_letter, key_text, minus}
use Rattle.osm_base.specs.Place.{place_at}
use Rattle.osm_base.specs.declared.key.Key.{Key}
use Rattle.osm_base.specs.declared.key.Kind.TheVariants.{Node, Way, Relation}
use Rattle.map_search.specs.Query as query
use Rattle.map_search.specs.Words.{tag_word, state_word, kind_word, joining_word, word_of}
use Rattle.opl_text.specs.Text.{unescaped}
use Rattle.opl_line.specs.Field.{tags_text, tag_into, refs_text, ref_into, ref_text, members_text}
use Rattle.opl_file.specs.declared.fault.FileFault.TheVariants.{Twice}
use Rattle.merge_cases.specs.declared.choice.Choice.TheVariants as choice
use Rattle.merge_cases.specs.declared.choice.Side.TheVariants as side
use Rattle.tool_api.specs.declared.job.Job.TheVariants as job
use Rattle.tool_api.specs.declared.refusal.Refusal.TheVariants.{InUse, NoFinding, NotSamePlace}
use Rattle.edit_script.specs.declared.line.ScriptLine.TheVariants.{Skipped, Asks}
use Rattle.edit_script.specs.declared.reply.StepRefusal.TheVariants.{Tool, BadFile, OpenConflicts, IncompleteRef, CyclicNew, WrongAnswer, IdTaken, BadSaved, Unsound}
use Rattle.edit_script.specs.declared.reply.StepReply.TheVariants as reply
use Rattle.edit_script.specs.declared.step.Act.TheVariants as act
use Rattle.edit_script.specs.declared.step.HistoryStep.TheVariants as history
use Rattle.edit_script.specs.declared.step.Look.TheVariants as look
use Rattle.edit_script.specs.declared.step.Purpose.TheVariants as purpose
use Rattle.edit_script.specs.Grammar.{act_of, two_keys}
use Rattle.edit_script.specs.Items.{keys_word, tags_word, refs_word, members_word, place_texts, place_words, area_text, wanted_text, number_word, side_word, tag_keys_of, tag_keys_word}
use Rattle.edit_script.specs.Reply.{reply_line}
use Rattle.edit_script.specs.Script.{kind_of_line, line_of, steps_of}

abbrev node : ℕ → Key
node n = record { kind = Node; id = pos n }

abbrev way : ℕ → Key
way n = record { kind = Way; id = pos n }

abbrev relation_new : ℕ → Key
relation_new n = record { kind = Relation; id = minus n }

-- A name has escapes.
download_read : line_of (codes "download a%20%b") ≡ Some (Asks (act.File (codes "a b") (purpose.Download None None)))
unfolding kind_of_line act_of unescaped is_utf8 chars encode
download_read = refl

-- A part of a file: by a box, by tags that are wanted, or by both.
box_read : line_of (codes "download a B1.5,-2,3,4") ≡ Some (Asks (act.File (codes "a") (purpose.Download (Some (record { west = pos 15000000; south = negsuc 19999999; east = pos 30000000; north = pos 40000000 })) None)))
unfolding kind_of_line act_of area_text unescaped is_utf8 chars encode coord_text size_text whole_text pointed_text part_text number_text place_at place_texts
box_read = refl

wanted_read : line_of (codes "download a Fb=c,d=*") ≡ Some (Asks (act.File (codes "a") (purpose.Download None (Some ((codes "b", codes "c") ∷ (codes "d", codes "*") ∷ [])))))
unfolding kind_of_line act_of wanted_text tags_text tag_into unescaped is_utf8 chars encode
wanted_read = refl

both_read : line_of (codes "download a B1,2,1,2 Fb=") ≡ Some (Asks (act.File (codes "a") (purpose.Download (Some (record { west = pos 10000000; south = pos 20000000; east = pos 10000000; north = pos 20000000 })) (Some ((codes "b", []) ∷ [])))))
unfolding kind_of_line act_of area_text wanted_text tags_text tag_into unescaped is_utf8 chars encode coord_text size_text whole_text pointed_text part_text number_text place_at place_texts
both_read = refl

-- A box has its west first, and isn't upside down.
box_upside_down : line_of (codes "download a B1,3,2,1") ≡ None
unfolding kind_of_line act_of area_text unescaped is_utf8 chars encode coord_text size_text whole_text pointed_text part_text number_text place_at place_texts
box_upside_down = refl

box_of_three : line_of (codes "download a B1,2,3") ≡ None
unfolding kind_of_line act_of area_text unescaped is_utf8 chars encode
box_of_three = refl

-- At least one tag is wanted, and the box stands before the tags.
none_wanted : line_of (codes "download a F") ≡ None
unfolding kind_of_line act_of wanted_text tags_text unescaped is_utf8 chars encode
none_wanted = refl

tags_before_the_box : line_of (codes "download a Fb=c B1,2,3,4") ≡ None
unfolding kind_of_line act_of wanted_text tags_text tag_into unescaped is_utf8 chars encode
tags_before_the_box = refl

city_read : line_of (codes "generate 0100000") ≡ Some (Asks (act.Generate 100000))
unfolding kind_of_line act_of number_word number_text
city_read = refl

city_too_large : line_of (codes "generate 100001") ≡ None
unfolding kind_of_line act_of number_word number_text
city_too_large = refl

import_read : line_of (codes "import a") ≡ Some (Asks (act.File (codes "a") purpose.Import))
unfolding kind_of_line act_of unescaped is_utf8 chars encode
import_read = refl

resume_read : line_of (codes "resume a") ≡ Some (Asks (act.File (codes "a") purpose.Resume))
unfolding kind_of_line act_of unescaped is_utf8 chars encode
resume_read = refl

save_read : line_of (codes "save") ≡ Some (Asks (act.Look look.Save))
unfolding kind_of_line act_of
save_read = refl

check_read : line_of (codes "check") ≡ Some (Asks (act.Look look.Check))
unfolding kind_of_line act_of
check_read = refl

-- All words behind the first are the query.
find_read : line_of (codes "find child way and not Tk=*") ≡ Some (Asks (act.Look (look.Find (query.And (query.Child (query.OfKind Way)) (query.Not (query.Tag (codes "k") None))))))
unfolding kind_of_line act_of word_of joining_word kind_word state_word tag_word tags_text tag_into unescaped is_utf8 chars encode
find_read = refl

find_blanks : line_of (codes "find\t new \t or incomplete") ≡ Some (Asks (act.Look (look.Find (query.Or query.IsNew query.IsIncomplete))))
unfolding kind_of_line act_of word_of joining_word kind_word state_word
find_blanks = refl

-- A bracket is closed, and a query has a word.
find_open : line_of (codes "find ( way") ≡ None
unfolding kind_of_line act_of word_of joining_word kind_word
find_open = refl

find_nothing : line_of (codes "find") ≡ None
unfolding kind_of_line act_of
find_nothing = refl

no_file : line_of (codes "download") ≡ None
unfolding kind_of_line act_of
no_file = refl

-- A node's longitude stands before its latitude.
node_read : line_of (codes "node x1.5 y-2 T") ≡ Some (Asks (act.Job (job.AddNode [] (record { lon = pos 15000000; lat = negsuc 19999999; on_map = refl }))))
unfolding kind_of_line act_of place_words place_texts tags_word tags_text coord_text size_text whole_text pointed_text part_text number_text place_at
node_read = refl

node_swapped : line_of (codes "node y1 x2 T") ≡ None
unfolding kind_of_line act_of place_words place_texts coord_text size_text whole_text pointed_text part_text number_text
node_swapped = refl

node_off_the_map : line_of (codes "node x181 y0 T") ≡ None
unfolding kind_of_line act_of place_words place_texts coord_text size_text whole_text pointed_text part_text number_text place_at
node_off_the_map = refl

way_read : line_of (codes "way T Nn1,n-2") ≡ Some (Asks (act.Job (job.AddWay [] (pos 1 ∷ negsuc 1 ∷ []))))
unfolding kind_of_line act_of tags_word tags_text refs_word refs_text ref_into ref_text id_text number_text
way_read = refl

-- A reference has no location.
no_location : line_of (codes "way T Nn1x1y2") ≡ None
unfolding kind_of_line act_of tags_word tags_text refs_word
no_location = refl

relation_read : line_of (codes "relation T M") ≡ Some (Asks (act.Job (job.AddRelation [] [])))
unfolding kind_of_line act_of tags_word tags_text members_word members_text
relation_read = refl

tags_read : line_of (codes "tag n1,w2 T") ≡ Some (Asks (act.Job (job.SetTags (node 1 ∷ way 2 ∷ []) [])))
unfolding kind_of_line act_of keys_word tags_word tags_text key_text id_text kind_letter number_text
tags_read = refl

-- A distance may be any that a coordinate text spells.
move_read : line_of (codes "move n1 0.0000001 -999") ≡ Some (Asks (act.Job (job.Shift (node 1 ∷ []) (pos 1) (negsuc 9989999999))))
unfolding kind_of_line act_of keys_word key_text id_text kind_letter number_text coord_text size_text whole_text pointed_text part_text
move_read = refl

place_read : line_of (codes "place n1 x2 y3") ≡ Some (Asks (act.Job (job.Place (node 1) (record { lon = pos 20000000; lat = pos 30000000; on_map = refl }))))
unfolding kind_of_line act_of place_words place_texts key_text id_text kind_letter number_text coord_text size_text whole_text pointed_text part_text place_at
place_read = refl

nodes_read : line_of (codes "nodes w1 N") ≡ Some (Asks (act.Job (job.SetNodes (way 1) [])))
unfolding kind_of_line act_of refs_word refs_text key_text id_text kind_letter number_text
nodes_read = refl

members_read : line_of (codes "members r1 M") ≡ Some (Asks (act.Job (job.SetMembers (record { kind = Relation; id = pos 1 }) [])))
unfolding kind_of_line act_of members_word members_text key_text id_text kind_letter number_text
members_read = refl

-- A conflict is settled by one side, by the tags of one and the body of one, or part by part.
resolve_mine : line_of (codes "resolve n1 mine") ≡ Some (Asks (act.Job (job.Resolve (node 1) choice.Mine)))
unfolding kind_of_line act_of key_text id_text kind_letter number_text
resolve_mine = refl

-- The side of the tags stands before that of the body.
resolve_mixed : line_of (codes "resolve n1 mix theirs mine") ≡ Some (Asks (act.Job (job.Resolve (node 1) (choice.Mix side.Theirs side.Mine))))
unfolding kind_of_line act_of side_word key_text id_text kind_letter number_text
resolve_mixed = refl

resolve_parts : line_of (codes "resolve n1 parts mine Ka%20%b,c") ≡ Some (Asks (act.Job (job.Resolve (node 1) (choice.Parts side.Mine (codes "a b" ∷ codes "c" ∷ [])))))
unfolding kind_of_line act_of side_word tag_keys_word tag_keys_of unescaped is_utf8 chars encode key_text id_text kind_letter number_text
resolve_parts = refl

-- No key has to be listed, but none is empty, and none stands twice.
resolve_no_key : line_of (codes "resolve n1 parts theirs K") ≡ Some (Asks (act.Job (job.Resolve (node 1) (choice.Parts side.Theirs []))))
unfolding kind_of_line act_of side_word tag_keys_word tag_keys_of key_text id_text kind_letter number_text
resolve_no_key = refl

key_twice : line_of (codes "resolve n1 parts mine Ka,b,a") ≡ None
unfolding kind_of_line act_of side_word tag_keys_word tag_keys_of unescaped is_utf8 chars encode key_text id_text kind_letter number_text
key_twice = refl

empty_key : line_of (codes "resolve n1 parts mine Ka,") ≡ None
unfolding kind_of_line act_of side_word tag_keys_word tag_keys_of unescaped is_utf8 chars encode key_text id_text kind_letter number_text
empty_key = refl

-- Leading zeros are taken.
delete_read : line_of (codes "delete n007") ≡ Some (Asks (act.Job (job.Delete (node 7 ∷ []))))
unfolding kind_of_line act_of keys_word key_text id_text kind_letter number_text
delete_read = refl

-- Behind a comma stands a key.
comma_last : line_of (codes "delete n1,") ≡ None
unfolding kind_of_line act_of keys_word key_text id_text kind_letter number_text
comma_last = refl

split_read : line_of (codes "split w1 n2") ≡ Some (Asks (act.Job (job.Split (way 1) (node 2 ∷ []))))
unfolding kind_of_line act_of keys_word key_text id_text kind_letter number_text
split_read = refl

-- At least two ways are combined.
combine_read : line_of (codes "combine w1,w2") ≡ Some (Asks (act.Job (job.Combine (way 1 ∷ way 2 ∷ []))))
unfolding kind_of_line act_of two_keys keys_word key_text id_text kind_letter number_text
combine_read = refl

combine_one : line_of (codes "combine w1") ≡ None
unfolding kind_of_line act_of two_keys keys_word key_text id_text kind_letter number_text
combine_one = refl

-- The kind of a key isn't tested.
reverse_read : line_of (codes "reverse n1") ≡ Some (Asks (act.Job (job.Reverse (node 1))))
unfolding kind_of_line act_of key_text id_text kind_letter number_text
reverse_read = refl

-- Ways are squeezed, one or more.
squeeze_read : line_of (codes "squeeze w5") ≡ Some (Asks (act.Job (job.Squeeze (way 5 ∷ []))))
unfolding kind_of_line act_of keys_word key_text id_text kind_letter number_text
squeeze_read = refl

-- At least two nodes are fused.
fuse_read : line_of (codes "fuse n3,n1") ≡ Some (Asks (act.Job (job.Fuse (node 3 ∷ node 1 ∷ []))))
unfolding kind_of_line act_of two_keys keys_word key_text id_text kind_letter number_text
fuse_read = refl

fuse_one : line_of (codes "fuse n1") ≡ None
unfolding kind_of_line act_of two_keys keys_word key_text id_text kind_letter number_text
fuse_one = refl

undo_read : line_of (codes "undo 007") ≡ Some (Asks (act.History (history.Undo 7)))
unfolding kind_of_line act_of number_word number_text
undo_read = refl

undo_none : line_of (codes "undo 0") ≡ None
unfolding kind_of_line act_of number_word number_text
undo_none = refl

undo_too_often : line_of (codes "undo 1000001") ≡ None
unfolding kind_of_line act_of number_word number_text
undo_too_often = refl

upload_read : line_of (codes "upload 10000") ≡ Some (Asks (act.Look (look.Upload 10000)))
unfolding kind_of_line act_of number_word number_text
upload_read = refl

chunk_too_large : line_of (codes "upload 10001") ≡ None
unfolding kind_of_line act_of number_word number_text
chunk_too_large = refl

confirm_read : line_of (codes "confirm a") ≡ Some (Asks (act.File (codes "a") purpose.Confirm))
unfolding kind_of_line act_of unescaped is_utf8 chars encode
confirm_read = refl

-- Runs of blanks separate words.
blanks_between : line_of (codes "delete \t n1") ≡ Some (Asks (act.Job (job.Delete (node 1 ∷ []))))
unfolding kind_of_line act_of keys_word key_text id_text kind_letter number_text
blanks_between = refl

-- No blank stands at an end of the line.
blank_first : line_of (codes "\tprint") ≡ None
unfolding kind_of_line act_of
blank_first = refl

blank_last : line_of (codes "print ") ≡ None
unfolding kind_of_line act_of
blank_last = refl

word_more : line_of (codes "print it") ≡ None
unfolding kind_of_line act_of
word_more = refl

-- A comment begins the line.
comment : line_of (codes "#print") ≡ Some Skipped
unfolding kind_of_line act_of
comment = refl

no_comment : line_of (codes " #") ≡ None
unfolding kind_of_line act_of
no_comment = refl

-- One CR is taken off, and not two.
one_cr : line_of (codes "print\r") ≡ Some (Asks (act.Look look.Print))
unfolding kind_of_line act_of
one_cr = refl

two_crs : line_of (codes "print\r\r") ≡ None
unfolding kind_of_line act_of
two_crs = refl

-- Lines that are skipped are counted, and the last needs no LF.
steps_read : steps_of (codes "#a\n\nbegin\r\nprint\nend") ≡ Ok (record { line = 3; act = act.History history.Begin } ∷ record { line = 4; act = act.Look look.Print } ∷ record { line = 5; act = act.History history.End } ∷ [])
unfolding kind_of_line act_of
steps_read = refl

-- The script's end may leave a group open.
open_group : steps_of (codes "begin") ≡ Ok (record { line = 1; act = act.History history.Begin } ∷ [])
unfolding kind_of_line act_of
open_group = refl

-- No group stands in a group, nothing is undone in one, and one that ends has begun.
group_in_group : steps_of (codes "begin\nbegin\nend\nend") ≡ Err 2
unfolding kind_of_line act_of
group_in_group = refl

undo_in_group : steps_of (codes "begin\nundo 1\nend") ≡ Err 2
unfolding kind_of_line act_of number_word number_text
undo_in_group = refl

-- Nor is anything rehearsed, uploaded or confirmed in one; conflicts may be looked at.
upload_in_group : steps_of (codes "begin\nupload 1\nend") ≡ Err 2
unfolding kind_of_line act_of number_word number_text
upload_in_group = refl

confirm_in_group : steps_of (codes "begin\nconfirm a\nend") ≡ Err 2
unfolding kind_of_line act_of unescaped is_utf8 chars encode
confirm_in_group = refl

-- A group may be saved, and nothing is resumed in one.
save_in_group : steps_of (codes "begin\nsave\nend") ≡ Ok (record { line = 1; act = act.History history.Begin } ∷ record { line = 2; act = act.Look look.Save } ∷ record { line = 3; act = act.History history.End } ∷ [])
unfolding kind_of_line act_of
save_in_group = refl

resume_in_group : steps_of (codes "begin\nresume a\nend") ≡ Err 2
unfolding kind_of_line act_of unescaped is_utf8 chars encode
resume_in_group = refl

rehearse_in_group : steps_of (codes "begin\nconflicts\nrehearse") ≡ Err 3
unfolding kind_of_line act_of
rehearse_in_group = refl

end_outside : steps_of (codes "print\nend") ≡ Err 2
unfolding kind_of_line act_of
end_outside = refl

-- The keys that were made have commas between them.
done_with_keys : reply_line 7 (reply.Done (way 1 ∷ node 2 ∷ [])) ≡ codes "7 ok w1,n2\n"
unfolding digits
done_with_keys = refl

done_without_keys : reply_line 7 (reply.Done []) ≡ codes "7 ok\n"
unfolding digits
done_without_keys = refl

-- The object stands before its user.
refused_in_use : reply_line 8 (reply.Refused (Tool (InUse (node 1) (way 5)))) ≡ codes "8 refused 5 n1 w5\n"
unfolding digits
refused_in_use = refl

-- The way in which nothing is found, and the node that isn't at the place of the first.
refused_no_finding : reply_line 5 (reply.Refused (Tool (NoFinding (way 5)))) ≡ codes "5 refused 32 w5\n"
unfolding digits
refused_no_finding = refl

refused_not_same_place : reply_line 6 (reply.Refused (Tool (NotSamePlace (node 2)))) ≡ codes "6 refused 33 n2\n"
unfolding digits
refused_not_same_place = refl

refused_file : reply_line 10 (reply.Refused (BadFile (Twice 3))) ≡ codes "10 refused 20 twice 3\n"
unfolding digits
refused_file = refl

refused_conflicts : reply_line 8 (reply.Refused (OpenConflicts 1 (node 2))) ≡ codes "8 refused 23 1 n2\n"
unfolding digits
refused_conflicts = refl

refused_reference : reply_line 4 (reply.Refused (IncompleteRef (relation_new 1) (node 1))) ≡ codes "4 refused 24 r-1 n1\n"
unfolding digits
refused_reference = refl

-- The relations have commas between them.
refused_cycle : reply_line 6 (reply.Refused (CyclicNew (relation_new 1 ∷ relation_new 2 ∷ relation_new 3 ∷ []))) ≡ codes "6 refused 25 r-1,r-2,r-3\n"
unfolding digits
refused_cycle = refl

-- The line of the answers that is wrong, and the key that stands in the table.
refused_answer : reply_line 5 (reply.Refused (WrongAnswer 12)) ≡ codes "5 refused 26 12\n"
unfolding digits
refused_answer = refl

refused_id : reply_line 5 (reply.Refused (IdTaken (node 7))) ≡ codes "5 refused 27 n7\n"
unfolding digits
refused_id = refl

-- The line of the saved table that can't stand there, and the key whose entry breaks a rule.
refused_saved : reply_line 1 (reply.Refused (BadSaved 11)) ≡ codes "1 refused 30 11\n"
unfolding digits
refused_saved = refl

refused_unsound : reply_line 1 (reply.Refused (Unsound (relation_new 1))) ≡ codes "1 refused 31 r-1\n"
unfolding digits
refused_unsound = refl

skipped_step : reply_line 11 reply.Skipped ≡ codes "11 skipped\n"
unfolding digits
skipped_step = refl
