-- A download that is merged in.
use Rattle.std.proofs.Common.{◌≡◌, Bool, true, false, ◌&&◌, not, is_some, Option, Some, None, refl, sym, subst}
use Rattle.std.specs.Option.{option_map}
use Rattle.std.specs.FinMap as fin
use Rattle.osm_base.specs.Rank.{is_key}
use Rattle.osm_table.specs.declared.entry.Base.{Base}
use Rattle.osm_table.specs.declared.entry.Why.{Why}
use Rattle.osm_table.specs.declared.entry.Why.TheVariants.{Held, Changed}
use Rattle.osm_table.specs.declared.entry.Entry.{Entry}
use Rattle.osm_table.specs.declared.entry.Entry.TheVariants.{Incomplete, Known}
use Rattle.osm_table.specs.declared.told.Told.{Told}
use Rattle.osm_table.specs.declared.told.Told.TheVariants.{Mentioned, Live, Gone}
use Rattle.osm_table.specs.Table.{TableValue, entry_of, held_by}
use Rattle.osm_table.specs.Told.{ToldValue}
use Rattle.closure.specs.Closure.{has}
use Rattle.merge_cases.specs.declared.verdict.Verdict.{Verdict}
use Rattle.merge_cases.specs.declared.verdict.Verdict.TheVariants.{Stay, Mention, Take, Clash, Keep, Candidate, Settle, Join, Dispute}
use Rattle.tool_api.specs.Staged.{verdict_at, staged, stage_of, against, taken, withdrawn, with_theirs, back, is_dead, lost_of, bared}
use Rattle.tool_api.specs.Merged.{both_keys, wanted, held, named, merged}
use Rattle.job_laws.proofs.MergeRows.{theirs_by}
use Rattle.job_laws.proofs.MergeStand.{settled}
use Rattle.job_laws.proofs.MergeOutcome.{merged_at}
use Rattle.editor_laws.specs.Texts.{IsTextBase, IsTextSide, IsTextTable, IsTextTold}
use Rattle.editor_laws.proofs.TextContents.{held_kept, joined_of_kept}
use Rattle.editor_laws.proofs.TextEntries.{IsTextAt, either_at, text_at, text_table}

-- what is told of a key, as a base
pub told_case : (s : Option Told) → ((x : Told) → s ≡ Some x → IsTextSide x) → IsTextBase (theirs_by s)
told_case None h = tt
told_case (Some Mentioned) h = tt
told_case (Some (Live version content meta)) h = h (Live version content meta) refl
told_case (Some (Gone version meta)) h = h (Gone version meta) refl

module _ (x : Base) (told : IsTextBase x) where
  against_at : (why : Why) (o : Option Entry) → IsTextAt o → IsTextAt (option_map (against why x) o)
  against_at why None h = tt
  against_at why (Some Incomplete) h = tt
  against_at why (Some (Known base mine conflict)) h = (h.0, h.1, told)

  with_theirs_at : (o : Option Entry) → IsTextAt o → IsTextAt (option_map (with_theirs x) o)
  with_theirs_at None h = tt
  with_theirs_at (Some Incomplete) h = tt
  with_theirs_at (Some (Known base mine conflict)) h = (told, joined_of_kept (held_by base) mine (held_by x) h.1 (held_kept x told), tt)

  taken_at : IsTextAt (Some (taken x))
  taken_at = (told, held_kept x told, tt)

  withdrawn_at : IsTextAt (Some (withdrawn x))
  withdrawn_at = (told, held_kept x told, told)

  -- what a case makes of the entry
  staged_at : (v : Verdict) (o : Option Entry) → IsTextAt o → IsTextAt (staged v o x)
  staged_at Stay o h = h
  staged_at Mention o h = tt
  staged_at Take o h = taken_at
  staged_at Clash o h = h
  staged_at Keep o h = withdrawn_at
  staged_at Candidate o h = h
  staged_at Settle o h = taken_at
  staged_at Join o h = with_theirs_at o h
  staged_at Dispute o h = against_at Changed o h

  back_at : (o : Option Entry) → IsTextAt o → IsTextAt (option_map back o)
  back_at None h = tt
  back_at (Some Incomplete) h = tt
  back_at (Some (Known base mine None)) h = (h.0, held_kept base h.0, h.0)
  back_at (Some (Known base mine (Some c))) h = (h.2, held_kept c.theirs h.2, h.2)

  bared_at : (names : Bool) (o : Option Entry) → IsTextAt o → IsTextAt (bared names o)
  bared_at names None h = either_at names (Some Incomplete) None tt tt
  bared_at names (Some e) h = either_at (is_dead e && (names && not (is_some (lost_of (Some e))))) (Some Incomplete) (Some e) tt h

  -- and what becomes of that
  settled_at : (candidate holds wants names : Bool) (o : Option Entry) → IsTextAt o → IsTextAt (settled candidate holds wants names x o)
  settled_at true true wants names o h = against_at Held o h
  settled_at true false wants names o h = (told, tt, tt)
  settled_at false holds true names o h = back_at o h
  settled_at false holds false names o h = bared_at names o h

-- The table with what is told merged into it.
pub merged_texts : (t : TableValue) (m : ToldValue) → IsTextTold m → IsTextTable t → IsTextTable (merged t m.told)
merged_texts t m told h =
    text_table (merged t m.told) (λ k.
    let x : Base = theirs_by (fin.get m.told k) in
    let side : IsTextBase x = told_case (fin.get m.told k) (told.sides k) in
    subst IsTextAt (sym (merged_at t m.told k))
    (settled_at x side (stage_of t m.told k).candidate (has is_key (held (stage_of t m.told) (both_keys t m.told)) k) (has is_key (wanted (stage_of t m.told) (both_keys t m.told)) k) (named (stage_of t m.told) (both_keys t m.told) k)
    (stage_of t m.told k).entry (staged_at x side (verdict_at t m.told k) (entry_of t k) (text_at t k h))))
