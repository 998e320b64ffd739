-- What the passes of a merge leave at each key.
use Rattle.std.proofs.Common.{◌≡◌, ◌||◌, Bool, true, false, List, Option, Some, None, is_some, cond, refl, sym, ◌∙◌, ap, inl, inr, ◌⊎◌}
use Rattle.std.specs.List.{list_any, flat_map}
use Rattle.std.specs.Option.{option_map}
use Rattle.std.proofs.lemmas.Bool.{or_cases, or_left, or_right}
use Rattle.osm_base.specs.Rank.{is_key}
use Rattle.osm_base.specs.declared.key.Key.{Key}
use Rattle.osm_table.specs.declared.entry.Why.TheVariants.{Held}
use Rattle.osm_table.specs.declared.entry.Entry.{Entry}
use Rattle.osm_table.specs.declared.entry.Entry.TheVariants.{Known}
use Rattle.osm_table.specs.Table.{TableValue, entry_of}
use Rattle.osm_table.specs.Told.{ToldValue, told_at}
use Rattle.dataset.specs.Sound.{IsSound}
use Rattle.closure.specs.Closure.{has}
use Rattle.tool_api.specs.Staged.{stage_of, theirs_at, lost_of, against, back, bared}
use Rattle.tool_api.specs.Merged.{both_keys, named_by_firm, named_by_wanted, named_by_held, wanted, held, named, final}
use Rattle.merge_tool.specs.Passes.{early, renewed_refs, is_going, has_resting_user, left}
use Rattle.job_laws.proofs.MergeStand.{wanted_lost}
use Rattle.merge_tool.proofs.Bareds.{bared_twice, bared_lost}
use Rattle.merge_tool.proofs.Namers.{same_bool, named_by_renewed, names_are, renewed_firm, resting_firm, firm_parts}
use Rattle.merge_tool.proofs.WantedEnds.{lost_same}
use Rattle.merge_tool.proofs.HeldEnds.{stays}

-- What the passes found and made, in their order.
pub record Passed (t : TableValue) (m : ToldValue) (u0 u2 u3 u5 : TableValue) (ns cs ws xs hs : List Key) : Type 0 where
  pub staged : (k : Key) → entry_of u0 k ≡ early t m.told k
  pub names : ns ≡ flat_map (renewed_refs t m.told) m.order
  pub going : (k : Key) → has is_key cs k ≡ is_going t m.told k
  pub wants : (k : Key) → has is_key ws k ≡ has is_key (wanted (stage_of t m.told) (both_keys t m.told)) k
  pub late : (k : Key) → has is_key xs k ≡ named_by_wanted (stage_of t m.told) (both_keys t m.told) k
  pub came : (k : Key) → entry_of u2 k ≡ bared (has is_key xs k) (bared (has is_key ns k) (entry_of u0 k))
  pub holds : (k : Key) → has is_key hs k ≡ has is_key (held (stage_of t m.told) (both_keys t m.told)) k
  pub stood : (k : Key) → entry_of u3 k ≡ bared (named_by_held (stage_of t m.told) (both_keys t m.told) k) (entry_of u2 k)
  pub ended : (k : Key) → entry_of u5 k ≡ cond (has is_key cs k) (left t m.told hs k) (cond (has is_key ws k) (option_map back (entry_of u3 k)) (entry_of u3 k))

module _ (t : TableValue) (m : ToldValue) (sound : IsSound t) (each : (k : Key) → list_any (is_key k) m.order ≡ is_some (told_at m k))
    (u0 u2 u3 u5 : TableValue) (names set wants late holds : List Key) (p : Passed t m u0 u2 u3 u5 names set wants late holds) where
  told : (k : Key) → has is_key names k ≡ named_by_renewed t m sound each k
  told = names_are t m sound each names p.names

  -- all names together
  all_named : (k : Key) → (((has_resting_user t m.told k || has is_key names k) || has is_key late k) || named_by_held (stage_of t m.told) (both_keys t m.told) k) ≡ named (stage_of t m.told) (both_keys t m.told) k
  all_named k =
      ap (λ b. ((has_resting_user t m.told k || has is_key names k) || b) || named_by_held (stage_of t m.told) (both_keys t m.told) k) (p.late k)
      ∙ ap (λ b. (b || named_by_wanted (stage_of t m.told) (both_keys t m.told) k) || named_by_held (stage_of t m.told) (both_keys t m.told) k) firm
      ∙ turned (named_by_firm (stage_of t m.told) (both_keys t m.told) k) (named_by_wanted (stage_of t m.told) (both_keys t m.told) k) (named_by_held (stage_of t m.told) (both_keys t m.told) k)
    where
      turned : (a b c : Bool) → ((a || b) || c) ≡ (a || (b || c))
      turned true b c = refl
      turned false b c = refl

      there : (has_resting_user t m.told k ≡ true) ⊎ (has is_key names k ≡ true) → named_by_firm (stage_of t m.told) (both_keys t m.told) k ≡ true
      there (inl e) = resting_firm t m sound each k e
      there (inr e) = renewed_firm t m sound each k (sym (told k) ∙ e)

      gone_back : (named_by_renewed t m sound each k ≡ true) ⊎ (has_resting_user t m.told k ≡ true) → (has_resting_user t m.told k || has is_key names k) ≡ true
      gone_back (inl e) = or_right _ _ (told k ∙ e)
      gone_back (inr e) = or_left _ _ e

      firm : (has_resting_user t m.told k || has is_key names k) ≡ named_by_firm (stage_of t m.told) (both_keys t m.told) k
      firm = same_bool _ _ (λ h. there (or_cases (has_resting_user t m.told k) (has is_key names k) h)) (λ h. gone_back (firm_parts t m sound each k h))

  stood_is : (k : Key) → entry_of u3 k ≡ bared (named (stage_of t m.told) (both_keys t m.told) k) (stage_of t m.told k).entry
  stood_is k =
      p.stood k
      ∙ ap (bared (named_by_held (stage_of t m.told) (both_keys t m.told) k)) (p.came k
      ∙ ap (λ (o : Option Entry). bared (has is_key late k) (bared (has is_key names k) o)) (p.staged k)
      ∙ ap (bared (has is_key late k)) (bared_twice (has is_key names k) (has_resting_user t m.told k) (stage_of t m.told k).entry)
      ∙ bared_twice (has is_key late k) (has_resting_user t m.told k || has is_key names k) (stage_of t m.told k).entry)
      ∙ bared_twice (named_by_held (stage_of t m.told) (both_keys t m.told) k) ((has_resting_user t m.told k || has is_key names k) || has is_key late k) (stage_of t m.told k).entry
      ∙ ap (λ b. bared b (stage_of t m.told k).entry) (all_named k)

  -- each key has what is said of it
  pub finally : (k : Key) → entry_of u5 k ≡ final (stage_of t m.told) (both_keys t m.told) k
  finally k =
      p.ended k
      ∙ ap (λ (b : Bool). cond b (left t m.told holds k) (cond (has is_key wants k) (option_map back (entry_of u3 k)) (entry_of u3 k))) (p.going k)
      ∙ by (stage_of t m.told k).candidate refl
    where
      goes : (b : Bool) → (stage_of t m.told k).candidate ≡ true → cond b (option_map (against Held (theirs_at m.told k)) (entry_of t k)) (Some (Known (theirs_at m.told k) None None)) ≡ cond b (option_map (against Held (theirs_at m.told k)) (stage_of t m.told k).entry) (Some (Known (theirs_at m.told k) None None))
      goes b c = ap (λ (o : Option Entry). cond b (option_map (against Held (theirs_at m.told k)) o) (Some (Known (theirs_at m.told k) None None))) (sym (stays t m sound each k c))

      lost_there : has is_key (wanted (stage_of t m.told) (both_keys t m.told)) k ≡ true → is_some (lost_of (stage_of t m.told k).entry) ≡ true
      lost_there h = ap is_some (sym (lost_same t m sound each k)) ∙ wanted_lost (stage_of t m.told) (both_keys t m.told) k h

      rest : (w : Bool) → has is_key (wanted (stage_of t m.told) (both_keys t m.told)) k ≡ w
          → cond w (option_map back (entry_of u3 k)) (entry_of u3 k) ≡ cond w (option_map back (stage_of t m.told k).entry) (bared (named (stage_of t m.told) (both_keys t m.told) k) (stage_of t m.told k).entry)
      rest true h = ap (option_map back) (stood_is k ∙ bared_lost (named (stage_of t m.told) (both_keys t m.told) k) (stage_of t m.told k).entry (lost_there h))
      rest false h = stood_is k

      by : (c : Bool) → (stage_of t m.told k).candidate ≡ c
          → cond c (left t m.told holds k) (cond (has is_key wants k) (option_map back (entry_of u3 k)) (entry_of u3 k))
          ≡ cond c (cond (has is_key (held (stage_of t m.told) (both_keys t m.told)) k) (option_map (against Held (theirs_at m.told k)) (stage_of t m.told k).entry) (Some (Known (theirs_at m.told k) None None)))
          (cond (has is_key (wanted (stage_of t m.told) (both_keys t m.told)) k) (option_map back (stage_of t m.told k).entry) (bared (named (stage_of t m.told) (both_keys t m.told) k) (stage_of t m.told k).entry))
      by true e = ap (λ (b : Bool). cond b (option_map (against Held (theirs_at m.told k)) (entry_of t k)) (Some (Known (theirs_at m.told k) None None))) (p.holds k) ∙ goes (has is_key (held (stage_of t m.told) (both_keys t m.told)) k) e
      by false e = ap (λ (b : Bool). cond b (option_map back (entry_of u3 k)) (entry_of u3 k)) (p.wants k) ∙ rest (has is_key (wanted (stage_of t m.told) (both_keys t m.told)) k) refl
