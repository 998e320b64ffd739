-- Each base and theirs of a merged table is one of the old table under its key, or is what is told of it.
use Rattle.std.proofs.Common.{◌≡◌, Bool, true, false, cond, ◌&&◌, not, is_some, Option, Some, None, sym, ap, subst, ◌⊎◌, inl, inr}
use Rattle.std.specs.Option.{option_map}
use Rattle.std.specs.FinMap as fin
use Rattle.osm_base.specs.Rank.{is_key}
use Rattle.osm_base.specs.declared.key.Key.{Key}
use Rattle.osm_table.specs.declared.entry.Base.{Base}
use Rattle.osm_table.specs.declared.entry.Why.{Why}
use Rattle.osm_table.specs.declared.entry.Why.TheVariants.{Held, Changed}
use Rattle.osm_table.specs.declared.entry.Entry.{Entry}
use Rattle.osm_table.specs.declared.entry.Entry.TheVariants.{Incomplete, Known}
use Rattle.osm_table.specs.declared.told.Told.{Told}
use Rattle.osm_table.specs.declared.told.Told.TheVariants.{Mentioned, Live, Gone}
use Rattle.osm_table.specs.Table.{TableValue, entry_of, is_new}
use Rattle.osm_table.specs.Told.{ToldEntries}
use Rattle.closure.specs.Closure.{has}
use Rattle.merge_cases.specs.declared.verdict.Verdict.{Verdict}
use Rattle.merge_cases.specs.declared.verdict.Verdict.TheVariants.{Stay, Mention, Take, Clash, Keep, Candidate, Settle, Join, Dispute}
use Rattle.tool_api.specs.Staged.{verdict_at, staged, stage_of, against, withdrawn, with_theirs, back, is_dead, lost_of, bared}
use Rattle.tool_api.specs.Merged.{both_keys, wanted, held, named, final, merged}
use Rattle.job_laws.proofs.MergeRows.{theirs_by}
use Rattle.job_laws.proofs.MergeStand.{settled}
use Rattle.job_laws.proofs.MergeOutcome.{merged_at}
use Rattle.editor_laws.specs.Bases.{HasSide}
use Rattle.editor_laws.specs.Telling.{IsToldSide, TakesSides}

-- each side of the second entry is one of the first, or it is x, New excepted
abbrev Takes : Option Entry → Base → Option Entry → Type 0
Takes o x p = (b : Base) → is_new b ≡ false → HasSide p b → HasSide o b ⊎ (x ≡ b)

module _ (o : Option Entry) (x : Base) where
  against_side : (why : Why) (p : Option Entry) → Takes o x p → Takes o x (option_map (against why x) p)
  against_side why None h b n s = absurd s
  against_side why (Some Incomplete) h b n s = absurd s
  against_side why (Some (Known old mine None)) h b n (inl s) = h b n s
  against_side why (Some (Known old mine (Some c))) h b n (inl s) = h b n (inl s)
  against_side why (Some (Known old mine None)) h b n (inr s) = inr s
  against_side why (Some (Known old mine (Some c))) h b n (inr s) = inr s

  joined_side : (p : Option Entry) → Takes o x (option_map (with_theirs x) p)
  joined_side None b n s = absurd s
  joined_side (Some Incomplete) b n s = absurd s
  joined_side (Some (Known old mine conflict)) b n s = inr s

  withdrawn_side : Takes o x (Some (withdrawn x))
  withdrawn_side b n (inl s) = inr s
  withdrawn_side b n (inr s) = inr s

  -- what a case makes of the entry
  pub staged_side : (v : Verdict) → Takes o x (staged v o x)
  staged_side Stay b n s = inl s
  staged_side Mention b n s = absurd s
  staged_side Take b n s = inr s
  staged_side Clash b n s = inl s
  staged_side Keep b n s = withdrawn_side b n s
  staged_side Candidate b n s = inl s
  staged_side Settle b n s = inr s
  staged_side Join b n s = joined_side o b n s
  staged_side Dispute b n s = against_side Changed o (λ b n s. inl s) b n s

  back_side : (p : Option Entry) → Takes o x p → Takes o x (option_map back p)
  back_side None h b n s = absurd s
  back_side (Some Incomplete) h b n s = absurd s
  back_side (Some (Known old mine None)) h b n (inl s) = h b n s
  back_side (Some (Known old mine None)) h b n (inr s) = h b n s
  back_side (Some (Known old mine (Some c))) h b n (inl s) = h b n (inr s)
  back_side (Some (Known old mine (Some c))) h b n (inr s) = h b n (inr s)

  emptied_side : (c : Bool) (p : Option Entry) → Takes o x p → Takes o x (cond c (Some Incomplete) p)
  emptied_side true p h b n s = absurd s
  emptied_side false p h b n s = h b n s

  bared_side : (c : Bool) (p : Option Entry) → Takes o x p → Takes o x (bared c p)
  bared_side c None h = emptied_side c None h
  bared_side c (Some e) h = emptied_side (is_dead e && (c && not (is_some (lost_of (Some e))))) (Some e) h

  -- and what becomes of that
  settled_side : (candidate holds wants names : Bool) (p : Option Entry) → Takes o x p → Takes o x (settled candidate holds wants names x p)
  settled_side true true wants names p h = against_side Held p h
  settled_side true false wants names p h = λ b n s. inr s
  settled_side false holds true names p h = back_side p h
  settled_side false holds false names p h = bared_side names p h

told_side : (s : Option Told) (b : Base) → is_new b ≡ false → theirs_by s ≡ b → IsToldSide s b
told_side None b n e = let i = ap is_new e in cc
told_side (Some Mentioned) b n e = let i = ap is_new e in cc
told_side (Some (Live version content meta)) b n e = e
told_side (Some (Gone version meta)) b n e = e

told_sides : (o : Option Entry) (s : Option Told) (p : Option Entry) → Takes o (theirs_by s) p → TakesSides o s p
told_sides o s p h b n side = elim (h b n side) [ inl old ↦ inl old | inr new ↦ inr (told_side s b n new) ]

-- The sides of each entry of a merged table.
pub merged_sides : (t : TableValue) (m : ToldEntries) (k : Key) → TakesSides (entry_of t k) (fin.get m k) (entry_of (merged t m) k)
merged_sides t m k =
    let o = entry_of t k in
    let s = fin.get m k in
    subst (TakesSides o s) (sym (merged_at t m k))
    (told_sides o s (final (stage_of t m) (both_keys t m) k) (settled_side o (theirs_by s) (stage_of t m k).candidate (has is_key (held (stage_of t m) (both_keys t m)) k) (has is_key (wanted (stage_of t m) (both_keys t m)) k) (named (stage_of t m) (both_keys t m) k)
    (stage_of t m k).entry (staged_side o (theirs_by s) (verdict_at t m k))))
