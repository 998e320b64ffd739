-- Worked examples of the lines and refusals of meeting scripts, and of which lines stand together.
use Rattle.std.proofs.Common.{◌≡◌, ℕ, pos, negsuc, true, false, [], ◌∷◌, Some, None, Ok, Err, refl}
use Rattle.std.specs.Prelude.{codes}
use Rattle.std.specs.Fmt.{digits}
use Rattle.std.specs.Str.{is_utf8, chars}
use lib.Utf8.{encode}
use Rattle.osm_base.specs.Coord.{coord_text, size_text, whole_text, pointed_text, part_text}
use Rattle.osm_base.specs.Number.{number_text}
use Rattle.osm_base.specs.Place.{place_at}
use Rattle.osm_base.specs.declared.key.Kind.TheVariants.{Node, Way}
use Rattle.opl_text.specs.Text.{unescaped}
use Rattle.opl_line.specs.Field.{tags_text, tag_into}
use Rattle.edit_script.specs.declared.line.ScriptLine.TheVariants.{Asks}
use Rattle.edit_script.specs.declared.reply.StepRefusal.TheVariants.{BadWorld, NoState, NotWaiting, Waiting, VersionEnd}
use Rattle.edit_script.specs.declared.reply.StepReply.TheVariants as reply
use Rattle.edit_script.specs.declared.step.Act.{Act}
use Rattle.edit_script.specs.declared.step.Act.TheVariants as act
use Rattle.edit_script.specs.declared.step.HistoryStep.TheVariants as history
use Rattle.edit_script.specs.declared.step.Look.TheVariants as look
use Rattle.edit_script.specs.declared.step.MeetStep.TheVariants as meet
use Rattle.edit_script.specs.declared.step.Step.{Step}
use Rattle.edit_script.specs.Grammar.{act_of}
use Rattle.edit_script.specs.Items.{area_text, wanted_text, number_word, place_texts}
use Rattle.edit_script.specs.Place.{is_meeting}
use Rattle.edit_script.specs.Reply.{reply_line}
use Rattle.edit_script.specs.Script.{kind_of_line, line_of, steps_of}

abbrev at : ℕ → Act → Step
at line act = record { line = line; act = act }

serve_read : line_of (codes "serve a%20%b") ≡ Some (Asks (act.Serve (codes "a b")))
unfolding kind_of_line act_of unescaped is_utf8 chars encode
serve_read = refl

-- There are four editors.
editor_read : line_of (codes "editor 4") ≡ Some (Asks (act.Editor 4))
unfolding kind_of_line act_of number_word number_text
editor_read = refl

editor_fifth : line_of (codes "editor 5") ≡ None
unfolding kind_of_line act_of number_word number_text
editor_fifth = refl

editor_none : line_of (codes "editor 0") ≡ None
unfolding kind_of_line act_of number_word number_text
editor_none = refl

-- What the server has is no state back; a part of it is told as that of a download.
fetch_read : line_of (codes "fetch 0") ≡ Some (Asks (act.Meet (meet.Fetch 0 None None)))
unfolding kind_of_line act_of number_text
fetch_read = refl

fetch_part : line_of (codes "fetch 9999999 B1.5,-2,3,4 Fb=c") ≡ Some (Asks (act.Meet (meet.Fetch 9999999 (Some (record { west = pos 15000000; south = negsuc 19999999; east = pos 30000000; north = pos 40000000 })) (Some ((codes "b", codes "c") ∷ [])))))
unfolding kind_of_line act_of area_text wanted_text tags_text tag_into unescaped is_utf8 chars encode number_text coord_text size_text whole_text pointed_text part_text place_at place_texts
fetch_part = refl

fetch_tags_first : line_of (codes "fetch 0 Fb=c B1,2,3,4") ≡ None
unfolding kind_of_line act_of wanted_text tags_text tag_into unescaped is_utf8 chars encode number_text
fetch_tags_first = refl

fetch_too_far : line_of (codes "fetch 10000000") ≡ None
unfolding kind_of_line act_of number_text
fetch_too_far = refl

fetch_nothing : line_of (codes "fetch") ≡ None
unfolding kind_of_line act_of
fetch_nothing = refl

-- As many changes are sent as a chunk may have.
send_read : line_of (codes "send 10000") ≡ Some (Asks (act.Meet (meet.Send 10000)))
unfolding kind_of_line act_of number_word number_text
send_read = refl

send_too_many : line_of (codes "send 10001") ≡ None
unfolding kind_of_line act_of number_word number_text
send_too_many = refl

send_none : line_of (codes "send 0") ≡ None
unfolding kind_of_line act_of number_word number_text
send_none = refl

-- `answer` and `lost` stand alone.
answer_read : line_of (codes "answer") ≡ Some (Asks (act.Meet meet.Answer))
unfolding kind_of_line act_of
answer_read = refl

answer_more : line_of (codes "answer 1") ≡ None
unfolding kind_of_line act_of
answer_more = refl

lost_read : line_of (codes "lost") ≡ Some (Asks (act.Meet meet.Lost))
unfolding kind_of_line act_of
lost_read = refl

-- Lines that are skipped may stand before `serve`, and what is fetched may stand in a group.
meeting_read : steps_of (codes "#a\nserve a\neditor 1\nbegin\nfetch 0\nend\nsend 1\nanswer") ≡ Ok (at 2 (act.Serve (codes "a")) ∷ at 3 (act.Editor 1) ∷ at 4 (act.History history.Begin) ∷ at 5 (act.Meet (meet.Fetch 0 None None)) ∷ at 6 (act.History history.End) ∷ at 7 (act.Meet (meet.Send 1)) ∷ at 8 (act.Meet meet.Answer) ∷ [])
unfolding kind_of_line act_of unescaped is_utf8 chars encode number_word number_text
meeting_read = refl

-- `serve` alone begins a meeting, and does so once.
no_meeting : steps_of (codes "fetch 0") ≡ Err 1
unfolding kind_of_line act_of number_text
no_meeting = refl

serve_second : steps_of (codes "print\nserve a") ≡ Err 2
unfolding kind_of_line act_of unescaped is_utf8 chars encode
serve_second = refl

serve_twice : steps_of (codes "serve a\nserve a") ≡ Err 2
unfolding kind_of_line act_of unescaped is_utf8 chars encode
serve_twice = refl

serve_in_group : steps_of (codes "begin\nserve a") ≡ Err 2
unfolding kind_of_line act_of unescaped is_utf8 chars encode
serve_in_group = refl

-- None but `serve` brings a file or answers into a meeting.
download_in_meeting : steps_of (codes "serve a\ndownload a") ≡ Err 2
unfolding kind_of_line act_of unescaped is_utf8 chars encode
download_in_meeting = refl

generate_in_meeting : steps_of (codes "serve a\ngenerate 1") ≡ Err 2
unfolding kind_of_line act_of unescaped is_utf8 chars encode number_word number_text
generate_in_meeting = refl

confirm_in_meeting : steps_of (codes "serve a\nconfirm a") ≡ Err 2
unfolding kind_of_line act_of unescaped is_utf8 chars encode
confirm_in_meeting = refl

resume_in_meeting : steps_of (codes "serve a\nresume a") ≡ Err 2
unfolding kind_of_line act_of unescaped is_utf8 chars encode
resume_in_meeting = refl

-- In a group no other editor works, and nothing goes to the server.
editor_in_group : steps_of (codes "serve a\nbegin\neditor 1") ≡ Err 3
unfolding kind_of_line act_of unescaped is_utf8 chars encode number_word number_text
editor_in_group = refl

send_in_group : steps_of (codes "serve a\nbegin\nsend 1") ≡ Err 3
unfolding kind_of_line act_of unescaped is_utf8 chars encode number_word number_text
send_in_group = refl

answer_in_group : steps_of (codes "serve a\nbegin\nanswer") ≡ Err 3
unfolding kind_of_line act_of unescaped is_utf8 chars encode
answer_in_group = refl

lost_in_group : steps_of (codes "serve a\nbegin\nlost") ≡ Err 3
unfolding kind_of_line act_of unescaped is_utf8 chars encode
lost_in_group = refl

-- The first step says whether it is a meeting.
meets : is_meeting (at 2 (act.Serve (codes "a")) ∷ at 3 (act.Look look.Print) ∷ []) ≡ true
meets = refl

meets_not : is_meeting (at 1 (act.Look look.Print) ∷ []) ≡ false
meets_not = refl

-- The object of a server's file that refers to none, and how many earlier states there are.
refused_world : reply_line 1 (reply.Refused (BadWorld (record { kind = Way; id = pos 5 }))) ≡ codes "1 refused 34 w5\n"
unfolding digits
refused_world = refl

refused_state : reply_line 4 (reply.Refused (NoState 0)) ≡ codes "4 refused 35 0\n"
unfolding digits
refused_state = refl

refused_answerless : reply_line 4 (reply.Refused NotWaiting) ≡ codes "4 refused 36\n"
unfolding digits
refused_answerless = refl

refused_waiting : reply_line 4 (reply.Refused Waiting) ≡ codes "4 refused 37\n"
unfolding digits
refused_waiting = refl

-- The object that has its last version.
refused_version : reply_line 4 (reply.Refused (VersionEnd (record { kind = Node; id = pos 1 }))) ≡ codes "4 refused 38 n1\n"
unfolding digits
refused_version = refl
