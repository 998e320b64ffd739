-- What is told newer is heard in a merge.
use Rattle.std.proofs.Common.{◌≡◌, ◌<◌, ◌==◌, ◌&&◌, not, ℕ, nat_lt, Bool, true, false, Option, Some, None, is_some, cond, refl, sym, ◌∙◌, ap, subst, arith}
use Rattle.std.specs.Prelude.{T}
use Rattle.std.specs.FinMap as fin
use Rattle.std.proofs.lemmas.Bool.{true≢false, and_parts, ltb-true, eqb-true}
use Rattle.osm_base.specs.Content.{tags_of}
use Rattle.osm_base.specs.Rank.{is_key}
use Rattle.osm_base.specs.Tags.{are_tags}
use Rattle.osm_base.specs.declared.content.Content.{Content}
use Rattle.osm_base.proofs.Tests.{some_from_test}
use Rattle.osm_table.specs.declared.entry.Base.{Base}
use Rattle.osm_table.specs.declared.entry.Conflict.{Conflict}
use Rattle.osm_table.specs.declared.entry.Why.TheVariants.{Changed, Withdrawn}
use Rattle.osm_table.specs.declared.entry.Entry.{Entry}
use Rattle.osm_table.specs.declared.entry.Entry.TheVariants.{Incomplete, Known}
use Rattle.osm_table.specs.declared.told.Told.{Told}
use Rattle.osm_table.specs.declared.told.Told.TheVariants as told
use Rattle.osm_table.specs.Table.{TableValue, IfContent, entry_of, held_by, known_base, version_of, is_changed}
use Rattle.osm_table.specs.Told.{ToldValue}
use Rattle.osm_table.specs.Same.{same_mine}
use Rattle.closure.specs.Closure.{has}
use Rattle.merge_cases.specs.declared.verdict.Verdict.{Verdict}
use Rattle.merge_cases.specs.declared.verdict.Verdict.TheVariants.{Stay, Mention, Take, Clash, Keep, Candidate, Settle, Join, Dispute}
use Rattle.merge_cases.specs.Case.{known_case, newer_case, changed_case, unchanged_case, withdrawn_case, same_version_case, all_join, is_withdrawn}
use Rattle.merge_cases.specs.Join.{joined}
use Rattle.tool_api.specs.Staged.{staged, stage_of, is_candidate, all_joined}
use Rattle.tool_api.specs.Merged.{both_keys, wanted, held, named, merged}
use Rattle.job_laws.proofs.MergeRows.{theirs_by, verdict_by, joined_some}
use Rattle.job_laws.proofs.MergeStand.{settled}
use Rattle.job_laws.proofs.MergeOutcome.{outcome, merged_at}
use Rattle.editor_laws.specs.Heard.{HasChanges, HearsAll, IsHeard, IsNews, base_held}
use Rattle.editor_laws.specs.Telling.{IsToldSide}
use Rattle.editor_laws.specs.Texts.{HasTexts, IsTextBase, IsTextTable, IsTextTold}
use Rattle.editor_laws.proofs.HeardJoins.{join_hears, keeps_itself}
use Rattle.editor_laws.proofs.TextContents.{held_kept, tags_are}
use Rattle.editor_laws.proofs.TextEntries.{IsTextAt, text_at}
use Rattle.editor_laws.proofs.TextMerging.{told_case}

-- What the case of a newer version says.
abbrev Says : Verdict → Option Content → Option Content → Option Content → Type 0
Says Stay base mine theirs = ⊥
Says Mention base mine theirs = ⊥
Says Take base mine theirs = Unit {0}
Says Clash base mine theirs = ⊥
Says Keep base mine theirs = Unit {0}
Says Candidate base mine theirs = theirs ≡ None
Says Settle base mine theirs = Unit {0}
Says Join base mine theirs = all_join base mine theirs ≡ true
Says Dispute base mine theirs = Unit {0}

withdrawn_says : (b m theirs : Option Content) → Says (withdrawn_case theirs) b m theirs
withdrawn_says b m None = refl
withdrawn_says b m (Some t) = tt

unchanged_says : (b m theirs : Option Content) → Says (unchanged_case m theirs) b m theirs
unchanged_says b None None = tt
unchanged_says b None (Some t) = tt
unchanged_says b (Some m) None = refl
unchanged_says b (Some m) (Some t) = tt

changed_says : (b m theirs : Option Content) → Says (changed_case b m theirs) b m theirs
changed_says b m theirs = by (same_mine m theirs) (all_join b m theirs) refl
  where
    by : (s j : Bool) → all_join b m theirs ≡ j → Says (cond s Settle (cond j Join Dispute)) b m theirs
    by true j f = tt
    by false true f = f
    by false false f = tt

newer_says : (b : Base) (m : Option Content) (f : Option Conflict) (theirs : Option Content) → Says (newer_case b m f theirs) (held_by b) m theirs
newer_says b m f theirs = by (is_withdrawn f) (is_changed (Known b m f))
  where
    by : (r s : Bool) → Says (cond r (withdrawn_case theirs) (cond s (changed_case (held_by b) m theirs) (unchanged_case m theirs))) (held_by b) m theirs
    by true s = withdrawn_says (held_by b) m theirs
    by false true = changed_says (held_by b) m theirs
    by false false = unchanged_says (held_by b) m theirs

known_says : (b : Base) (m : Option Content) (f : Option Conflict) (version : ℕ) (theirs : Option Content) → version_of (known_base b f) < version → Says (known_case b m f version theirs) (held_by b) m theirs
known_says b m f version theirs newer = by (nat_lt version (version_of (known_base b f))) (version == version_of (known_base b f)) refl refl
  where
    by : (older same : Bool) → nat_lt version (version_of (known_base b f)) ≡ older → (version == version_of (known_base b f)) ≡ same
        → Says (cond older Stay (cond same (same_version_case (held_by (known_base b f)) theirs) (newer_case b m f theirs))) (held_by b) m theirs
    by true same e g = let l = ltb-true version (version_of (known_base b f)) e in absurd (omega (arith, l, newer))
    by false true e g = let s = eqb-true version (version_of (known_base b f)) g in absurd (omega (arith, s, newer))
    by false false e g = newer_says b m f theirs

-- what is told of a known object
told_says : (b : Base) (m : Option Content) (f : Option Conflict) (s : Option Told) → IsToldSide s (theirs_by s) → version_of (known_base b f) < version_of (theirs_by s) → Says (verdict_by (Some (Known b m f)) s) (held_by b) m (held_by (theirs_by s))
told_says b m f None side newer = absurd side
told_says b m f (Some told.Mentioned) side newer = absurd side
told_says b m f (Some (told.Live version content meta)) side newer = known_says b m f version (Some content) newer
told_says b m f (Some (told.Gone version meta)) side newer = known_says b m f version None newer

-- What has all of theirs has what they changed.
all_changes : (theirs before : Option Content) → HasChanges theirs before theirs
all_changes None before = refl
all_changes (Some t) None = refl
all_changes (Some t) (Some b) = (t, refl, keeps_itself b t)

abbrev IfTags : Option Content → Type 0
IfTags o = IfContent o (λ c. T (are_tags (tags_of c)))

if_tags : (o : Option Content) → IfContent o HasTexts → IfTags o
if_tags None h = tt
if_tags (Some c) h = (tags_are c h).0

join_changes : (b m t : Option Content) → all_join b m t ≡ true → IfTags m → IfTags t → HasChanges t b (all_joined b m t)
join_changes None m t h i j = absurd (true≢false (sym h))
join_changes (Some b) None t h i j = absurd (true≢false (sym h))
join_changes (Some b) (Some m) None h i j = absurd (true≢false (sym h))
join_changes (Some b) (Some m) (Some t) h i j =
    let x = some_from_test (joined b m t) (joined_some (Some b) (Some m) (Some t) h) in
    (x.0, x.1, join_hears b m t x.0 i j x.1)

none_there : (o : Option Content) → not (is_some o) ≡ true → o ≡ None
none_there None h = refl
none_there (Some c) h = absurd (true≢false (sym h))

-- What is said over all leaves it heard, where theirs is what is known of the server.
heard_stays : (theirs : Base) (before : Option Content) (h w n : Bool) (d : Base) (x : Option Content) (f : Option Conflict) → known_base d f ≡ theirs → IsHeard theirs before (Some (Known d x f)) → IsHeard theirs before (settled false h w n theirs (Some (Known d x f)))
heard_stays theirs before h true n d x f is p = is
heard_stays theirs before h false n d (Some c) f is p = p
heard_stays theirs before h false n d None f is p = by (n && not (is_some (held_by (known_base d f)))) refl
  where
    by : (bare : Bool) → (n && not (is_some (held_by (known_base d f)))) ≡ bare → IsHeard theirs before (cond bare (Some Incomplete) (Some (Known d None f)))
    by true e = ap held_by (sym is) ∙ none_there (held_by (known_base d f)) (and_parts n (not (is_some (held_by (known_base d f)))) e).1
    by false e = p

-- of what wasn't known
taken_heard : (theirs : Base) (before : Option Content) (h w n : Bool) → IsHeard theirs before (settled false h w n theirs (Some (Known theirs (held_by theirs) None)))
taken_heard theirs before h w n = heard_stays theirs before h w n theirs (held_by theirs) None refl (refl, all_changes (held_by theirs) before)

-- of what was
module _ (b : Base) (m : Option Content) (f : Option Conflict) (theirs : Base) (own_tags : IfTags m) (their_tags : IfTags (held_by theirs)) where
  candidate_heard : (h w n : Bool) → held_by theirs ≡ None → IsHeard theirs (held_by b) (settled true h w n theirs (Some (Known b m f)))
  candidate_heard true w n none = refl
  candidate_heard false w n none = (refl, subst (λ (o : Option Content). HasChanges o (held_by b) None) (sym none) refl)

  known_heard : (h w n : Bool) (v : Verdict) → Says v (held_by b) m (held_by theirs) → IsHeard theirs (held_by b) (settled (is_candidate v) h w n theirs (staged v (Some (Known b m f)) theirs))
  known_heard h w n Stay s = absurd s
  known_heard h w n Mention s = absurd s
  known_heard h w n Take s = taken_heard theirs (held_by b) h w n
  known_heard h w n Clash s = absurd s
  known_heard h w n Keep s = heard_stays theirs (held_by b) h w n theirs (held_by theirs) (Some (record { why = Withdrawn; theirs = theirs })) refl refl
  known_heard h w n Candidate s = candidate_heard h w n s
  known_heard h w n Settle s = taken_heard theirs (held_by b) h w n
  known_heard h w n Join s = heard_stays theirs (held_by b) h w n theirs (all_joined (held_by b) m (held_by theirs)) None refl (refl, join_changes (held_by b) m (held_by theirs) s own_tags their_tags)
  known_heard h w n Dispute s = heard_stays theirs (held_by b) h w n b m (Some (record { why = Changed; theirs = theirs })) refl refl

-- in the end
ends_heard : (o : Option Entry) (s : Option Told) (h w n : Bool) → IsTextAt o → IsTextBase (theirs_by s) → IsToldSide s (theirs_by s) → IsNews (theirs_by s) o → IsHeard (theirs_by s) (base_held o) (outcome o s h w n)
ends_heard o None h w n i j side news = absurd side
ends_heard o (Some told.Mentioned) h w n i j side news = absurd side
ends_heard None (Some (told.Live version content meta)) h w n i j side news = taken_heard (theirs_by (Some (told.Live version content meta))) None h w n
ends_heard None (Some (told.Gone version meta)) h w n i j side news = taken_heard (theirs_by (Some (told.Gone version meta))) None h w n
ends_heard (Some Incomplete) (Some (told.Live version content meta)) h w n i j side news = taken_heard (theirs_by (Some (told.Live version content meta))) None h w n
ends_heard (Some Incomplete) (Some (told.Gone version meta)) h w n i j side news = taken_heard (theirs_by (Some (told.Gone version meta))) None h w n
ends_heard (Some (Known b m f)) s h w n i j side news =
    known_heard b m f (theirs_by s) (if_tags m i.1) (if_tags (held_by (theirs_by s)) (held_kept (theirs_by s) j)) h w n (verdict_by (Some (Known b m f)) s) (told_says b m f s side news)

side_is : (s : Option Told) (theirs : Base) → IsToldSide s theirs → theirs_by s ≡ theirs
side_is None theirs side = absurd side
side_is (Some told.Mentioned) theirs side = absurd side
side_is (Some (told.Live version content meta)) theirs side = side
side_is (Some (told.Gone version meta)) theirs side = side

-- All news that a download tells is heard.
pub merge_hears : (t : TableValue) (m : ToldValue) → IsTextTable t → IsTextTold m → HearsAll (fin.get m.told) t (merged t m.told)
merge_hears t m texts told k theirs side news =
    let s = fin.get m.told k in
    let same = side_is s theirs side in
    subst (λ (x : Base). IsHeard x (base_held (entry_of t k)) (entry_of (merged t m.told) k)) same
    (subst (IsHeard (theirs_by s) (base_held (entry_of t k))) (sym (merged_at t m.told k))
    (ends_heard (entry_of t k) s (has is_key (held (stage_of t m.told) (both_keys t m.told)) k) (has is_key (wanted (stage_of t m.told) (both_keys t m.told)) k) (named (stage_of t m.told) (both_keys t m.told) k)
    (text_at t k texts) (told_case s (told.sides k)) (subst (IsToldSide s) (sym same) side) (subst (λ (x : Base). IsNews x (entry_of t k)) (sym same) news)))
