-- What a merge leaves alone: objects that are there and of which nothing is told, and all to which none refers.
use Rattle.std.proofs.Common.{◌≡◌, ◌||◌, Bool, true, false, List, Option, None, is_some, cond, refl, sym, ◌∙◌, ap, inl, inr, ◌⊎◌, suc, length}
use Rattle.std.specs.Option.{option_map}
use Rattle.std.specs.List.{list_any}
use Rattle.std.specs.FinMap as fin
use Rattle.std.proofs.lemmas.Bool.{true≢false, or_cases, or_left, or_right, and_parts}
use Rattle.osm_base.specs.Rank.{is_key}
use Rattle.osm_base.proofs.RisingKeys.{one_key, key_itself}
use Rattle.osm_base.specs.declared.key.Key.{Key}
use Rattle.osm_table.specs.declared.told.Told.{Told}
use Rattle.osm_table.specs.Table.{TableValue, entry_of, IsThere}
use Rattle.osm_table.specs.Told.{ToldEntries}
use Rattle.closure.specs.Closure.{has, by_chains}
use Rattle.closure.proofs.Least.{each_of_least}
use Rattle.closure.proofs.Chains.{some_of, any_of, by_start, by_lead}
use Rattle.tool_api.specs.Staged.{Staged, staged, is_candidate, stage_of, lost_of, refers_by, back, bared}
use Rattle.tool_api.specs.Merged.{both_keys, lost_content, named_by_firm, named_by_wanted, named_by_held, wanted_start, wanted_leads, wanted, held, named, merged}
use Rattle.job_laws.proofs.MergeRows.{theirs_by, verdict_by, there_found}
use Rattle.job_laws.proofs.MergeStand.{bared_none, bared_kept, wanted_lost}
use Rattle.job_laws.proofs.MergeOutcome.{outcome, merged_at}

module _ (stage : Key → Staged) (keys : List Key) where
  abbrev IsNamed : Key → Type 0
  IsNamed k = (has is_key (wanted stage keys) k ≡ true) × (named stage keys k ≡ true)

  -- a firm entry or another wanted one names what is wanted
  first_named : (k : Key) → has is_key keys k ≡ true → wanted_start stage keys k ≡ true → IsNamed k
  first_named k i s = (
    by_start is_key key_itself one_key (wanted_start stage keys) (wanted_leads stage keys) keys k i s,
    or_left (named_by_firm stage keys k) (named_by_wanted stage keys k || named_by_held stage keys k) (and_parts (is_some (lost_content stage keys k)) (named_by_firm stage keys k) s).1,
  )

  next_named : (j k : Key) → has is_key keys k ≡ true → IsNamed j → wanted_leads stage keys j k ≡ true → IsNamed k
  next_named j k i n s = (
    by_lead is_key key_itself one_key (wanted_start stage keys) (wanted_leads stage keys) keys j k i n.0 s,
    or_right (named_by_firm stage keys k) (named_by_wanted stage keys k || named_by_held stage keys k)
        (or_left (named_by_wanted stage keys k) (named_by_held stage keys k)
        (any_of is_key key_itself one_key (λ l. refers_by (lost_content stage keys l) k) (wanted stage keys) j n.0 (and_parts (is_some (lost_content stage keys k)) (refers_by (lost_content stage keys j) k) s).1)),
  )

  pub wanted_named : (k : Key) → has is_key (wanted stage keys) k ≡ true → named stage keys k ≡ true
  wanted_named k h = (each_of_least is_key key_itself one_key (by_chains (wanted_start stage keys) (wanted_leads stage keys)) keys IsNamed step (suc (length keys)) k h).1
    where
      step : (ms : List Key) → ((j : Key) → has is_key ms j ≡ true → IsNamed j) → (k : Key) → has is_key keys k ≡ true → by_chains (wanted_start stage keys) (wanted_leads stage keys) ms k ≡ true → IsNamed k
      step ms old k i e = by (or_cases (wanted_start stage keys k) (list_any (λ j. wanted_leads stage keys j k) ms) e)
        where
          by : (wanted_start stage keys k ≡ true) ⊎ (list_any (λ j. wanted_leads stage keys j k) ms ≡ true) → IsNamed k
          by (inl s) = first_named k i s
          by (inr l) = let s = some_of is_key key_itself one_key (λ j. wanted_leads stage keys j k) ms l in next_named s.0 k i (old s.0 s.1) s.2

module _ (t : TableValue) (m : ToldEntries) where
  -- where nothing is told of a key
  untold : (k : Key) → fin.get m k ≡ None → entry_of (merged t m) k ≡ cond (has is_key (wanted (stage_of t m) (both_keys t m)) k) (option_map back (entry_of t k)) (bared (named (stage_of t m) (both_keys t m) k) (entry_of t k))
  untold k e = merged_at t m k
      ∙ ap (λ (s : Option Told). outcome (entry_of t k) s (has is_key (held (stage_of t m) (both_keys t m)) k) (has is_key (wanted (stage_of t m) (both_keys t m)) k) (named (stage_of t m) (both_keys t m) k)) e

  -- an object that is there is as before
  pub there_stays : (k : Key) → fin.get m k ≡ None → IsThere (entry_of t k) → entry_of (merged t m) k ≡ entry_of t k
  there_stays k e i = untold k e ∙ by (has is_key (wanted (stage_of t m) (both_keys t m)) k) refl
    where
      lost : is_some (lost_content (stage_of t m) (both_keys t m) k) ≡ true → is_some (lost_of (entry_of t k)) ≡ true
      lost h = sym (ap (λ (s : Option Told). is_some (cond (is_candidate (verdict_by (entry_of t k) s)) None (lost_of (staged (verdict_by (entry_of t k) s) (entry_of t k) (theirs_by s))))) e) ∙ h

      by : (w : Bool) → has is_key (wanted (stage_of t m) (both_keys t m)) k ≡ w → cond w (option_map back (entry_of t k)) (bared (named (stage_of t m) (both_keys t m) k) (entry_of t k)) ≡ entry_of t k
      by true h = absurd (there_found (entry_of t k) i (lost (wanted_lost (stage_of t m) (both_keys t m) k h)))
      by false h = bared_kept (named (stage_of t m) (both_keys t m) k) (entry_of t k) i

  -- and so is one to which nothing refers in the end
  pub unnamed_stays : (k : Key) → fin.get m k ≡ None → named (stage_of t m) (both_keys t m) k ≡ false → entry_of (merged t m) k ≡ entry_of t k
  unnamed_stays k e n = untold k e ∙ by (has is_key (wanted (stage_of t m) (both_keys t m)) k) refl
    where
      by : (w : Bool) → has is_key (wanted (stage_of t m) (both_keys t m)) k ≡ w → cond w (option_map back (entry_of t k)) (bared (named (stage_of t m) (both_keys t m) k) (entry_of t k)) ≡ entry_of t k
      by true h = absurd (true≢false (sym (wanted_named (stage_of t m) (both_keys t m) k h) ∙ n))
      by false h = ap (λ (b : Bool). bared b (entry_of t k)) n ∙ bared_none (entry_of t k)
