-- Each text of a step ends at a line's end.
use Rattle.std.proofs.Common.{◌≡◌, ◌∙◌, inl, inr, ℕ, ◌+◌, List, [], ◌∷◌, ◌++◌, Option, None, Some, refl, sym, ap, subst, append_assoc, append-nil, codes, decimal, flat_map, length}
use Rattle.osm_base.specs.Number.{key_written}
use Rattle.osm_base.specs.declared.key.Key.{Key}
use Rattle.osm_table.specs.Table.{TableValue, entry_of, held_by, keys_by_rank}
use Rattle.osm_table.specs.declared.entry.Entry.{Entry}
use Rattle.osm_table.specs.declared.entry.Entry.TheVariants as entry
use Rattle.osm_outside.specs.Lines.{AreLines, EndsLine}
use Rattle.osm_outside.proofs.Lines.{all_lines, at_end, behind, both_lines}
use Rattle.chunking.specs.Chunks as chunked
use Rattle.chunking.specs.Chunks.{changes_text, chunks, upload_line}
use Rattle.chunking.proofs.Ends.{changes_lines, upload_ends}
use Rattle.conflict.specs.Listed.{conflict_keys}
use Rattle.conflict.specs.Shown as conflict
use Rattle.conflict.specs.Shown.{conflict_text, known_text, side_line, side_lines, why_line}
use Rattle.saved_session.specs.Saved.{saved, saved_end, saved_entry, saved_head}
use Rattle.saved_session.specs.Saved as saves
use Rattle.saved_session.specs.Words.{end_written, header_written}
use Rattle.upload_order.specs.declared.world.WorldRefusal.{WorldRefusal}
use Rattle.map_checks.specs.declared.finding.Finding.{Finding}
use Rattle.map_checks.specs.declared.finding.Finding.TheVariants.{Doubled, Repeated, OpenRing}
use Rattle.edit_script.specs.declared.reply.StepReply.{StepReply}
use Rattle.edit_script.specs.Reply.{reply_line, reply_text}
use Rattle.edit_steps.specs.declared.looks.Behind.{Behind}
use Rattle.edit_steps.specs.declared.looks.Behind.TheVariants as behinds
use Rattle.edit_steps.specs.declared.response.Response.{Response}
use Rattle.edit_steps.specs.Counted.{count_line, count_text, counts_among, kinds_text, part}
use Rattle.edit_steps.specs.Looks.{behind_text}
use Rattle.edit_steps.specs.Printed.{entry_text, lines_of, shown}
use Rattle.edit_steps.specs.declared.sending.Lines.{Lines}
use Rattle.edit_steps.specs.declared.sending.Lines.TheVariants as lines
use Rattle.edit_steps.specs.Searched.{finding_line, findings_lines, key_line}
use Rattle.edit_steps.specs.Sent.{refused_text, sent_text}
use Rattle.edit_steps.specs.Turn.{response_text}

-- A text that stands alone in what was empty.
pub alone_lines : (before now text : List ℕ) → before ≡ [] → now ≡ before ++ text → AreLines text → AreLines now
alone_lines before now text none more lines = subst AreLines (sym (more ∙ ap (λ l. l ++ text) none)) lines

pub reply_ends : (line : ℕ) (reply : StepReply) → EndsLine (reply_line line reply)
reply_ends line reply = behind (decimal line) (reply_text reply ++ codes "\n") (at_end (reply_text reply))

-- The texts of `print` and `conflicts`,
pub shown_lines : (key : Key) (e : Option Entry) → AreLines (shown key e)
shown_lines key None = inl refl
shown_lines key (Some entry.Incomplete) = inl refl
shown_lines key (Some (entry.Known base mine c)) = inr (at_end _)

pub conflict_lines : (key : Key) (e : Option Entry) → AreLines (conflict.shown key e)
conflict_lines key None = inl refl
conflict_lines key (Some entry.Incomplete) = inl refl
conflict_lines key (Some (entry.Known base mine None)) = inl refl
conflict_lines key (Some (entry.Known base mine (Some c))) =
    inr (behind (why_line key c.why) (side_lines key base mine c.theirs)
    (behind (side_line (codes "base ") key base (held_by base)) (side_line (codes "mine ") key base mine ++ side_line (codes "theirs ") key c.theirs (held_by c.theirs))
    (behind (side_line (codes "mine ") key base mine) (side_line (codes "theirs ") key c.theirs (held_by c.theirs))
    (behind (codes "theirs ") (known_text key c.theirs (held_by c.theirs)) (at_end _)))))

-- of `count`, `find` and `check`,
pub count_ends : (t : TableValue) → EndsLine (count_text t)
count_ends t =
    let c = counts_among t (keys_by_rank t) in
    behind (kinds_text c) _
    (behind (part (codes " incomplete ") c.incomplete) _ (behind (part (codes " deleted ") c.deleted) _ (behind (part (codes " changed ") c.changed) _ (at_end (part (codes " conflicts ") c.conflicts)))))

pub finding_ends : (finding : Finding) → EndsLine (finding_line finding)
finding_ends (Doubled key of) = behind (codes "doubled ") (key_written key ++ (32 ∷ key_line of)) (behind (key_written key) (32 ∷ key_line of) (at_end (32 ∷ key_written of)))
finding_ends (Repeated key) = behind (codes "repeated ") (key_line key) (at_end (key_written key))
finding_ends (OpenRing key) = behind (codes "openring ") (key_line key) (at_end (key_written key))

-- and of `save`.
pub head_ends : (next : ℕ) → EndsLine (saved_head next)
unfolding saved_head
head_ends next = at_end (header_written next)

pub entry_lines : (t : TableValue) (key : Key) → AreLines (saved_entry t key)
unfolding saved_entry
entry_lines t key = entry_by (entry_of t key)
  where
    entry_by : (e : Option Entry) → AreLines (saves.shown key e)
    entry_by None = inl refl
    entry_by (Some e) = all_lines (λ line. line ++ 10 ∷ []) (saves.entry_lines key e) (λ line. inr (at_end line))

pub end_ends : EndsLine saved_end
unfolding saved_end
end_ends = at_end end_written

save_ends : (t : TableValue) → EndsLine (saved t)
unfolding saved saved_end
save_ends t = behind (saved_head t.next) (flat_map (saved_entry t) (keys_by_rank t) ++ saved_end) (behind (flat_map (saved_entry t) (keys_by_rank t)) saved_end (at_end end_written))

-- What is written of one object,
pub object_lines : (lines : Lines) (t : TableValue) (key : Key) → AreLines (lines_of lines t key)
object_lines lines.Object t key = shown_lines key (entry_of t key)
object_lines lines.Conflict t key = conflict_lines key (entry_of t key)
object_lines lines.Saved t key = entry_lines t key
object_lines lines.Key t key = inr (at_end (key_written key))

-- what is broken, and what a server answered.
pub findings_are_lines : (findings : List Finding) → AreLines (findings_lines findings)
findings_are_lines findings = all_lines finding_line findings (λ finding. inr (finding_ends finding))

pub sent_ends : (count : ℕ) (refused : Option WorldRefusal) → EndsLine (sent_text count refused)
sent_ends count refused = behind (part (codes "sent ") count) _ (at_end (refused_text (count + 1) refused))

behind_lines : (b : Behind) (t : TableValue) → AreLines (behind_text b t)
behind_lines behinds.Nothing t = inl refl
behind_lines behinds.Table t = all_lines (entry_text t) (keys_by_rank t) (λ key. shown_lines key (entry_of t key))
behind_lines behinds.Counts t = inr (count_ends t)
behind_lines behinds.Conflicts t = all_lines (conflict_text t) (conflict_keys t) (λ key. conflict_lines key (entry_of t key))
behind_lines behinds.Saved t = inr (save_ends t)
behind_lines (behinds.Changes changes size) t =
    let count = chunked.chunk_count (length changes) size in
    both_lines (upload_line (length changes) count) (changes_text size count 0 changes) (inr (upload_ends (length changes) count)) (changes_lines size count 0 changes)
behind_lines (behinds.Rehearsed count) t = inr (at_end _)
behind_lines (behinds.Found keys) t = both_lines (count_line (codes "found ") (length keys)) (flat_map key_line keys) (inr (at_end _)) (all_lines key_line keys (λ key. inr (at_end (key_written key))))
behind_lines (behinds.Findings findings) t =
    both_lines (count_line (codes "check ") (length findings)) (findings_lines findings) (inr (at_end _)) (findings_are_lines findings)
behind_lines (behinds.Sent count refused) t = inr (sent_ends count refused)

-- The reply line, and the text behind it.
pub response_lines : (line : ℕ) (response : Response) (t : TableValue) → AreLines (response_text line response t)
response_lines line response t = both_lines (reply_line line response.reply) (behind_text response.behind t) (inr (reply_ends line response.reply)) (behind_lines response.behind t)
