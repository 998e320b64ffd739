-- The stage of a sound table is fit for what is said over the whole outcome.
use Rattle.std.proofs.Common.{◌≡◌, Bool, true, false, Option, Some, None, is_some, cond, refl, sym, ◌∙◌, subst, inl, inr, ◌⊎◌}
use Rattle.std.proofs.lemmas.Bool.{true≢false}
use Rattle.std.specs.FinMap as fin
use Rattle.osm_base.specs.Rank.{is_key}
use Rattle.osm_base.proofs.RisingKeys.{one_key, key_itself}
use Rattle.osm_base.specs.declared.key.Key.{Key}
use Rattle.osm_table.specs.declared.entry.Entry.{Entry}
use Rattle.osm_table.specs.declared.told.Told.{Told}
use Rattle.osm_table.specs.Table.{TableValue, entry_of, IsThere}
use Rattle.osm_table.specs.Told.{ToldEntries}
use Rattle.dataset.specs.Exact.{mine_at}
use Rattle.dataset.specs.Sound.{IsSound}
use Rattle.closure.specs.Closure.{has}
use Rattle.closure.proofs.Walk.{has_first, has_second}
use Rattle.tool_api.specs.Staged.{verdict_at, theirs_at, staged, stage_of, lost_of, refers_by}
use Rattle.tool_api.specs.Merged.{both_keys, lost_content}
use Rattle.job_laws.proofs.MergeRows.{HasFits, theirs_by, verdict_by, candidate_lives, candidate_stays, not_lost}
use Rattle.job_laws.proofs.MergeStand.{Fits}

-- an entry comes from the table, or from what is told
from_told : (o : Option Told) → is_some (staged (verdict_by None o) None (theirs_by o)) ≡ true → is_some o ≡ true
from_told None h = h
from_told (Some s) h = refl

staged_from : (e : Option Entry) (o : Option Told) → is_some (staged (verdict_by e o) e (theirs_by o)) ≡ true → (is_some e ≡ true) ⊎ (is_some o ≡ true)
staged_from (Some e) o h = inl refl
staged_from None o h = inr (from_told o h)

module _ (t : TableValue) (s : ToldEntries) where
  covered : (k : Key) → is_some (stage_of t s k).entry ≡ true → has is_key (both_keys t s) k ≡ true
  covered k h = by (staged_from (entry_of t k) (fin.get s k) h)
    where
      by : (is_some (entry_of t k) ≡ true) ⊎ (is_some (fin.get s k) ≡ true) → has is_key (both_keys t s) k ≡ true
      by (inl e) = has_first is_key key_itself one_key (fin.keys t.entries) (fin.keys s) k (sym (fin.contains_key-keys t.entries k) ∙ e)
      by (inr e) = has_second is_key key_itself one_key (fin.keys t.entries) (fin.keys s) k (sym (fin.contains_key-keys s k) ∙ e)

  -- what a table's entry refers to is there
  pub there : IsSound t → (j k : Key) (o : Option Entry) → entry_of t j ≡ o → refers_by (mine_at o) k ≡ true → IsThere (entry_of t k)
  there sound j k None e h = absurd (true≢false (sym h))
  there sound j k (Some x) e h = sound.closed j x e k h

  pub has_fits : IsSound t → (k : Key) (o : Option Entry) → entry_of t k ≡ o → HasFits o
  has_fits sound k None e = tt
  has_fits sound k (Some x) e = (sound.entries k x e).conflict

  pub not_lost_by : (k : Key) → IsThere (entry_of t k) → is_some (lost_content (stage_of t s) (both_keys t s) k) ≡ true → ⊥
  not_lost_by k i h = by (stage_of t s k).candidate h
    where
      by : (b : Bool) → is_some (cond b None (lost_of (stage_of t s k).entry)) ≡ true → ⊥
      by true g = true≢false (sym g)
      by false g = not_lost (entry_of t k) (fin.get s k) i g

  pub fits : IsSound t → Fits (stage_of t s) (both_keys t s)
  fits sound = record {
    covers = covered;
    alive = λ k c. subst (λ (o : Option Entry). is_some (mine_at o) ≡ true) (sym (candidate_stays (verdict_at t s k) (entry_of t k) (theirs_at s k) c))
        (candidate_lives (entry_of t k) (fin.get s k) (has_fits sound k (entry_of t k) refl) c);
    kept = λ j k h. not_lost_by k (old j k (stage_of t s j).candidate refl h);
  }
    where
      old : (j k : Key) (b : Bool) → (stage_of t s j).candidate ≡ b → refers_by (cond b (mine_at (stage_of t s j).entry) None) k ≡ true → IsThere (entry_of t k)
      old j k true e h = there sound j k (entry_of t j) refl (subst (λ (o : Option Entry). refers_by (mine_at o) k ≡ true) (candidate_stays (verdict_at t s j) (entry_of t j) (theirs_at s j) e) h)
      old j k false e h = absurd (true≢false (sym h))
