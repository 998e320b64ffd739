-- Each key of a merged table was in the old one, is told of, or is one to which something refers that is told live or
-- that was lost.
use Rattle.std.proofs.Common.{◌≡◌, Bool, true, false, Option, Some, None, refl, sym, ap, ◌∙◌, ◌⊎◌, inl, inr}
use Rattle.std.specs.Option.{option_map}
use Rattle.osm_base.specs.Rank.{is_key}
use Rattle.osm_base.specs.declared.key.Key.{Key}
use Rattle.osm_base.specs.declared.content.Content.{Content}
use Rattle.osm_table.specs.declared.entry.Base.{Base}
use Rattle.osm_table.specs.declared.entry.Base.TheVariants as base
use Rattle.osm_table.specs.declared.entry.Why.{Why}
use Rattle.osm_table.specs.declared.entry.Why.TheVariants.{Changed}
use Rattle.osm_table.specs.declared.entry.Entry.{Entry}
use Rattle.osm_table.specs.declared.entry.Entry.TheVariants.{Incomplete, Known}
use Rattle.osm_table.specs.declared.told.Told.{Told}
use Rattle.osm_table.specs.declared.told.Told.TheVariants.{Mentioned, Live, Gone}
use Rattle.osm_table.specs.Table.{TableValue, entry_of, held_by, is_new, IfContent, IsThere}
use Rattle.osm_table.specs.Told.{ToldValue, told_at}
use Rattle.dataset.specs.Exact.{mine_at}
use Rattle.dataset.specs.Sound.{IsSound}
use Rattle.closure.specs.Closure.{has}
use Rattle.merge_cases.specs.declared.verdict.Verdict.{Verdict}
use Rattle.merge_cases.specs.declared.verdict.Verdict.TheVariants.{Stay, Mention, Take, Clash, Keep, Candidate, Settle, Join, Dispute}
use Rattle.merge_cases.specs.Join.{joined}
use Rattle.merge_cases.proofs.JoinedOf.{TakesOver, joined_takes}
use Rattle.tool_api.specs.Staged.{Staged, verdict_at, staged, stage_of, against, all_joined, with_theirs, lost_of, refers_by}
use Rattle.tool_api.specs.Merged.{both_keys, wanted, held, named, merged}
use Rattle.job_laws.proofs.MergeRows.{theirs_by}
use Rattle.job_laws.proofs.MergeStand.{namer}
use Rattle.job_laws.proofs.MergeFitting.{there}
use Rattle.job_laws.proofs.MergeOutcome.{outcome, merged_at}
use Rattle.editor_laws.specs.Bases.{HasSide}
use Rattle.editor_laws.specs.Telling.{IsTakenKey, was_there, is_told, told_refers, base_refers, TakesBases}
use Rattle.editor_laws.proofs.SeenMergedSides.{staged_side, merged_sides}

-- a reference of what a case makes of an entry is one of the entry's, or of what theirs holds
abbrev IsRef : Option Content → Option Content → Key → Type 0
IsRef mine theirs k = (refers_by mine k ≡ true) ⊎ (refers_by theirs k ≡ true)

joined_ref : (mine theirs : Content) (o : Option Content) (k : Key) → IfContent o (TakesOver mine theirs) → refers_by o k ≡ true → IsRef (Some mine) (Some theirs) k
joined_ref mine theirs None k h u = cc
joined_ref mine theirs (Some c) k h u = h.refs k u

all_joined_ref : (base mine theirs : Option Content) (k : Key) → refers_by (all_joined base mine theirs) k ≡ true → IsRef mine theirs k
all_joined_ref None mine theirs k u = cc
all_joined_ref (Some b) None theirs k u = cc
all_joined_ref (Some b) (Some m) None k u = cc
all_joined_ref (Some b) (Some m) (Some t) k u = joined_ref m t (joined b m t) k (joined_takes b m t) u

against_ref : (why : Why) (x : Base) (o : Option Entry) (k : Key) → refers_by (mine_at (option_map (against why x) o)) k ≡ true → IsRef (mine_at o) (held_by x) k
against_ref why x None k u = cc
against_ref why x (Some Incomplete) k u = cc
against_ref why x (Some (Known old mine conflict)) k u = inl u

join_ref : (x : Base) (o : Option Entry) (k : Key) → refers_by (mine_at (option_map (with_theirs x) o)) k ≡ true → IsRef (mine_at o) (held_by x) k
join_ref x None k u = cc
join_ref x (Some Incomplete) k u = cc
join_ref x (Some (Known old mine conflict)) k u = all_joined_ref (held_by old) mine (held_by x) k u

staged_ref : (v : Verdict) (o : Option Entry) (x : Base) (k : Key) → refers_by (mine_at (staged v o x)) k ≡ true → IsRef (mine_at o) (held_by x) k
staged_ref Stay o x k u = inl u
staged_ref Mention o x k u = cc
staged_ref Take o x k u = inr u
staged_ref Clash o x k u = inl u
staged_ref Keep o x k u = inr u
staged_ref Candidate o x k u = inl u
staged_ref Settle o x k u = inr u
staged_ref Join o x k u = join_ref x o k u
staged_ref Dispute o x k u = against_ref Changed x o k u

-- what was lost is what a side holds
lost_side : (p : Option Entry) (k : Key) → refers_by (lost_of p) k ≡ true → (b : Base) × HasSide p b × (refers_by (held_by b) k ≡ true)
lost_side None k u = cc
lost_side (Some Incomplete) k u = cc
lost_side (Some (Known old None None)) k u = (old, refl, u)
lost_side (Some (Known old None (Some c))) k u = (c.theirs, inr refl, u)
lost_side (Some (Known old (Some mine) conflict)) k u = cc

holds_known : (b : Base) (k : Key) → refers_by (held_by b) k ≡ true → is_new b ≡ false
holds_known base.New k u = cc
holds_known (base.Live version content meta) k u = refl
holds_known (base.Gone version meta) k u = cc

module _ (t : TableValue) (told : ToldValue) where
  abbrev stage : Key → Staged
  stage = stage_of t told.told

  -- a reference of what is told
  told_taken : (j k : Key) (s : Option Told) → told_at told j ≡ s → refers_by (held_by (theirs_by s)) k ≡ true → IsTakenKey t told k
  told_taken j k None is u = cc
  told_taken j k (Some Mentioned) is u = cc
  told_taken j k (Some (Live version content meta)) is u = told_refers j version content meta is u
  told_taken j k (Some (Gone version meta)) is u = cc

  -- a reference of what a side of the table holds
  side_taken : (j k : Key) (b : Base) → HasSide (entry_of t j) b → refers_by (held_by b) k ≡ true → IsTakenKey t told k
  side_taken j k base.New s u = cc
  side_taken j k (base.Live version content meta) s u = base_refers j (base.Live version content meta) content refl s refl u
  side_taken j k (base.Gone version meta) s u = cc

  -- a reference of what was lost
  lost_taken : (j k : Key) → refers_by (lost_of (stage j).entry) k ≡ true → IsTakenKey t told k
  lost_taken j k u =
      let b = lost_side (stage j).entry k u in
      elim (staged_side (entry_of t j) (theirs_by (told_at told j)) (verdict_at t told.told j) b.0 (holds_known b.0 k b.2) b.1) [
        | inl old ↦ side_taken j k b.0 old b.2
        | inr new ↦ told_taken j k (told_at told j) refl (ap (λ (x : Base). refers_by (held_by x) k) new ∙ b.2)
      ]

  there_taken : (k : Key) (o : Option Entry) → entry_of t k ≡ o → IsThere o → IsTakenKey t told k
  there_taken k None is h = absurd h
  there_taken k (Some e) is h = was_there e is

  module _ (sound : IsSound t) where
    -- a reference of an entry between its case and what is said over all
    mine_taken : (j k : Key) → refers_by (mine_at (stage j).entry) k ≡ true → IsTakenKey t told k
    mine_taken j k u = elim (staged_ref (verdict_at t told.told j) (entry_of t j) (theirs_by (told_at told j)) k u) [
      | inl old ↦ there_taken k (entry_of t k) refl (there t told.told sound j k (entry_of t j) refl old)
      | inr new ↦ told_taken j k (told_at told j) refl new
    ]

    named_taken : (k : Key) → named stage (both_keys t told.told) k ≡ true → IsTakenKey t told k
    named_taken k h = let n = namer stage (both_keys t told.told) k h in elim n.2 [ inl mine ↦ mine_taken n.0 k mine | inr lost ↦ lost_taken n.0 k lost ]

    key_taken : (k : Key) (e : Entry) (o : Option Entry) (s : Option Told) (holds wants names : Bool) → entry_of t k ≡ o → told_at told k ≡ s → (names ≡ true → IsTakenKey t told k)
        → outcome o s holds wants names ≡ Some e
        → IsTakenKey t told k
    key_taken k e (Some f) s holds wants names is tells taken stands = was_there f is
    key_taken k e None (Some s) holds wants names is tells taken stands = is_told s tells
    key_taken k e None None holds true names is tells taken stands = cc
    key_taken k e None None holds false true is tells taken stands = taken refl
    key_taken k e None None holds false false is tells taken stands = cc

    -- A sound table takes in bases, theirs and keys from what is told alone.
    pub merged_takes : TakesBases t told (merged t told.told)
    merged_takes = record {
      sides = merged_sides t told.told;
      keys = λ k e positive stands.
          key_taken k e (entry_of t k) (told_at told k) (has is_key (held stage (both_keys t told.told)) k) (has is_key (wanted stage (both_keys t told.told)) k) (named stage (both_keys t told.told) k)
          refl refl (named_taken k) (sym (merged_at t told.told k) ∙ stands);
    }
