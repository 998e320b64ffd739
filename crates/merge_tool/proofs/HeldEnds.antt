-- The walk over candidates ends with the held ones.
use Rattle.std.proofs.Common.{◌≡◌, ◌&&◌, ◌||◌, ◌++◌, Bool, true, false, List, [], Option, Some, None, is_some, cond, refl, sym, ◌∙◌, ap, ◌↔◌, inl, inr, ◌⊎◌, filter}
use Rattle.std.specs.List.{list_any, flat_map}
use Rattle.std.proofs.lemmas.Bool.{or_cases, or_left, or_right, and_parts, and_from, true≢false}
use Rattle.osm_base.specs.Rank.{is_key}
use Rattle.osm_base.proofs.RisingKeys.{one_key, key_itself, in_filter}
use Rattle.osm_base.specs.declared.key.Key.{Key}
use Rattle.osm_table.specs.declared.entry.Entry.{Entry}
use Rattle.osm_table.specs.declared.told.Told.{Told}
use Rattle.osm_table.specs.Table.{TableValue, entry_of}
use Rattle.osm_table.specs.Told.{ToldValue, told_at}
use Rattle.dataset.specs.Exact.{mine_at}
use Rattle.dataset.specs.Sound.{IsSound}
use Rattle.closure.specs.Closure.{has, Chain}
use Rattle.closure.proofs.Least.{kept, kept_from}
use Rattle.closure.proofs.Chains.{some_of, any_of, chain_maps, chain_of, of_chain, each_in}
use Rattle.closure.proofs.Walk.{has_append, has_first, has_second}
use Rattle.tool_api.specs.Staged.{stage_of, theirs_at, verdict_at, is_candidate, refers_by}
use Rattle.tool_api.specs.Merged.{both_keys, candidate_content, named_by_firm, named_by_wanted, named_by_held, held, held_start, held_leads}
use Rattle.merge_tool.specs.Walks.{mine_refs, going_links}
use Rattle.merge_tool.specs.Passes.{has_resting_user, held_starts, is_going}
use Rattle.job_laws.proofs.MergeRows.{verdict_by, candidate_stays}
use Rattle.job_laws.proofs.MergeStand.{mine_is}
use Rattle.job_laws.proofs.MergeFitting.{fits}
use Rattle.merge_tool.proofs.Namers.{at_from, flat_is, same_bool, named_by_renewed, renewed_firm, resting_firm, firm_parts}

module _ (t : TableValue) (m : ToldValue) (sound : IsSound t) (each : (k : Key) → list_any (is_key k) m.order ≡ is_some (told_at m k)) where
  pub stays : (j : Key) → (stage_of t m.told j).candidate ≡ true → (stage_of t m.told j).entry ≡ entry_of t j
  stays j c = candidate_stays (verdict_at t m.told j) (entry_of t j) (theirs_at m.told j) c

  in_both : (k : Key) → (stage_of t m.told k).candidate ≡ true → has is_key (both_keys t m.told) k ≡ true
  in_both k c = (fits t m.told sound).covers k (mine_is (stage_of t m.told k).entry ((fits t m.told sound).alive k c))

  -- a candidate is told of
  in_order : (k : Key) → (stage_of t m.told k).candidate ≡ true → has is_key m.order k ≡ true
  in_order k c = each k ∙ by (told_at m k) refl
    where
      by : (o : Option Told) → told_at m k ≡ o → is_some (told_at m k) ≡ true
      by (Some x) e = ap is_some e
      by None e = absurd (true≢false (sym c ∙ ap (λ (s : Option Told). is_candidate (verdict_by (entry_of t k) s)) e))

  -- the candidates of the first pass
  pub going_are : (listed set : List Key) → listed ≡ filter (is_going t m.told) m.order → set ≡ listed → (k : Key) → has is_key set k ≡ is_going t m.told k
  going_are listed set are same k = ap (λ (ks : List Key). has is_key ks k) (same ∙ are) ∙ in_filter (is_going t m.told) k m.order ∙ by (is_going t m.told k) refl
    where
      by : (b : Bool) → is_going t m.told k ≡ b → (is_going t m.told k && has is_key m.order k) ≡ is_going t m.told k
      by true e = ap (λ c. c && has is_key m.order k) e ∙ in_order k e ∙ sym e
      by false e = ap (λ c. c && has is_key m.order k) e ∙ sym e

  module _ (set : List Key) (going : (k : Key) → has is_key set k ≡ is_going t m.told k) where
    refs_are : (j k : Key) → (stage_of t m.told j).candidate ≡ true → has is_key (mine_refs t j) k ≡ refers_by (candidate_content (stage_of t m.told) (both_keys t m.told) j) k
    refs_are j k c = at_from (mine_at (entry_of t j)) k ∙ ap (λ (o : Option Entry). refers_by (mine_at o) k) (sym (stays j c)) ∙ sym (ap (λ (b : Bool). refers_by (cond b (mine_at (stage_of t m.told j).entry) None) k) c)

    module _ (names late : List Key) (names_are : (k : Key) → has is_key names k ≡ named_by_renewed t m sound each k) (late_are : (k : Key) → has is_key late k ≡ named_by_wanted (stage_of t m.told) (both_keys t m.told) k) where
      named_there : (ks : List Key) (k : Key) → has is_key (filter (has is_key set) ks) k ≡ true → (is_going t m.told k ≡ true) × (has is_key ks k ≡ true)
      named_there ks k h = let f = kept_from is_key key_itself one_key (has is_key set) ks k h in (sym (going k) ∙ f.1, f.0)

      start_there : (k : Key) → has is_key (held_starts t m.told set names late) k ≡ true → held_start (stage_of t m.told) (both_keys t m.told) k ≡ true
      start_there k h = split (has_append is_key key_itself one_key (filter (has is_key set) names ++ filter (has is_key set) late) (filter (has_resting_user t m.told) set) k h)
        where
          first : (has is_key (filter (has is_key set) names) k ≡ true) ⊎ (has is_key (filter (has is_key set) late) k ≡ true) → held_start (stage_of t m.told) (both_keys t m.told) k ≡ true
          first (inl e) = let f = named_there names k e in and_from _ _ f.0 (or_left _ _ (renewed_firm t m sound each k (sym (names_are k) ∙ f.1)))
          first (inr e) = let f = named_there late k e in and_from _ _ f.0 (or_right _ _ (sym (late_are k) ∙ f.1))

          split : (has is_key (filter (has is_key set) names ++ filter (has is_key set) late) k ≡ true) ⊎ (has is_key (filter (has_resting_user t m.told) set) k ≡ true) → held_start (stage_of t m.told) (both_keys t m.told) k ≡ true
          split (inl e) = first (has_append is_key key_itself one_key (filter (has is_key set) names) (filter (has is_key set) late) k e)
          split (inr e) = let f = kept_from is_key key_itself one_key (has_resting_user t m.told) set k e in and_from _ _ (sym (going k) ∙ f.0) (or_left _ _ (resting_firm t m sound each k f.1))

      start_back : (k : Key) → held_start (stage_of t m.told) (both_keys t m.told) k ≡ true → has is_key (held_starts t m.told set names late) k ≡ true
      start_back k h =
          let p = and_parts (stage_of t m.told k).candidate (named_by_firm (stage_of t m.told) (both_keys t m.told) k || named_by_wanted (stage_of t m.told) (both_keys t m.told) k) h in
          by p.0 (or_cases (named_by_firm (stage_of t m.told) (both_keys t m.told) k) (named_by_wanted (stage_of t m.told) (both_keys t m.told) k) p.1)
        where
          firm : is_going t m.told k ≡ true → (named_by_renewed t m sound each k ≡ true) ⊎ (has_resting_user t m.told k ≡ true) → has is_key (held_starts t m.told set names late) k ≡ true
          firm c (inl e) = has_first is_key key_itself one_key (filter (has is_key set) names ++ filter (has is_key set) late) (filter (has_resting_user t m.told) set) k
              (has_first is_key key_itself one_key (filter (has is_key set) names) (filter (has is_key set) late) k (kept is_key key_itself one_key (has is_key set) names k (names_are k ∙ e) (going k ∙ c)))
          firm c (inr e) = has_second is_key key_itself one_key (filter (has is_key set) names ++ filter (has is_key set) late) (filter (has_resting_user t m.told) set) k (kept is_key key_itself one_key (has_resting_user t m.told) set k (going k ∙ c) e)

          by : is_going t m.told k ≡ true → (named_by_firm (stage_of t m.told) (both_keys t m.told) k ≡ true) ⊎ (named_by_wanted (stage_of t m.told) (both_keys t m.told) k ≡ true) → has is_key (held_starts t m.told set names late) k ≡ true
          by c (inl e) = firm c (firm_parts t m sound each k e)
          by c (inr e) = has_first is_key key_itself one_key (filter (has is_key set) names ++ filter (has is_key set) late) (filter (has_resting_user t m.told) set) k
              (has_second is_key key_itself one_key (filter (has is_key set) names) (filter (has is_key set) late) k (kept is_key key_itself one_key (has is_key set) late k (late_are k ∙ e) (going k ∙ c)))

      lead_there : (j k : Key) → has is_key (going_links set t j) k ≡ true → held_leads (stage_of t m.told) (both_keys t m.told) j k ≡ true
      lead_there j k h = by (has is_key set j) refl h
        where
          by : (b : Bool) → has is_key set j ≡ b → has is_key (cond b (filter (has is_key set) (mine_refs t j)) []) k ≡ true → held_leads (stage_of t m.told) (both_keys t m.told) j k ≡ true
          by false e g = absurd (true≢false (sym g))
          by true e g = let f = named_there (mine_refs t j) k g in and_from _ _ f.0 (sym (refs_are j k (sym (going j) ∙ e)) ∙ f.1)

      lead_back : (j k : Key) → held_leads (stage_of t m.told) (both_keys t m.told) j k ≡ true → has is_key (going_links set t j) k ≡ true
      lead_back j k h = let p = and_parts (stage_of t m.told k).candidate (refers_by (candidate_content (stage_of t m.told) (both_keys t m.told) j) k) h in by (stage_of t m.told j).candidate refl p.0 p.1
        where
          by : (b : Bool) → (stage_of t m.told j).candidate ≡ b → (stage_of t m.told k).candidate ≡ true → refers_by (cond b (mine_at (stage_of t m.told j).entry) None) k ≡ true → has is_key (going_links set t j) k ≡ true
          by false e c g = absurd (true≢false (sym g))
          by true e c g = ap (λ (b : Bool). has is_key (cond b (filter (has is_key set) (mine_refs t j)) []) k) (going j ∙ e)
              ∙ kept is_key key_itself one_key (has is_key set) (mine_refs t j) k (refs_are j k e ∙ ap (λ (b : Bool). refers_by (cond b (mine_at (stage_of t m.told j).entry) None) k) e ∙ g) (going k ∙ c)

      -- the ends of the walk's chains are the held candidates
      pub held_ends : (marks : List Key) → ((k : Key) → (has is_key marks k ≡ true) ↔ Chain (has is_key (held_starts t m.told set names late)) (λ j. has is_key (going_links set t j)) k) → (k : Key) → has is_key marks k ≡ has is_key (held (stage_of t m.told) (both_keys t m.told)) k
      held_ends marks ends k = same_bool _ _
          (λ e. of_chain is_key key_itself one_key (held_start (stage_of t m.told) (both_keys t m.told)) (held_leads (stage_of t m.told) (both_keys t m.told)) (both_keys t m.told)
          (λ j s. in_both j (and_parts (stage_of t m.told j).candidate (named_by_firm (stage_of t m.told) (both_keys t m.told) j || named_by_wanted (stage_of t m.told) (both_keys t m.told) j) s).0)
          (λ i j s. in_both j (and_parts (stage_of t m.told j).candidate (refers_by (candidate_content (stage_of t m.told) (both_keys t m.told) i) j) s).0)
          k (chain_maps (has is_key (held_starts t m.told set names late)) (held_start (stage_of t m.told) (both_keys t m.told)) (λ j. has is_key (going_links set t j)) (held_leads (stage_of t m.told) (both_keys t m.told)) start_there lead_there k ((ends k).0 e)))
          (λ h. (ends k).1 (chain_maps (held_start (stage_of t m.told) (both_keys t m.told)) (has is_key (held_starts t m.told set names late)) (held_leads (stage_of t m.told) (both_keys t m.told)) (λ j. has is_key (going_links set t j)) start_back lead_back k
          (chain_of is_key key_itself one_key (held_start (stage_of t m.told) (both_keys t m.told)) (held_leads (stage_of t m.told) (both_keys t m.told)) (both_keys t m.told) k h)))

    held_going : (k : Key) → has is_key (held (stage_of t m.told) (both_keys t m.told)) k ≡ true → (stage_of t m.told k).candidate ≡ true
    held_going k h = each_in is_key key_itself one_key (held_start (stage_of t m.told) (both_keys t m.told)) (held_leads (stage_of t m.told) (both_keys t m.told)) (both_keys t m.told) (λ j. (stage_of t m.told j).candidate ≡ true)
        (λ j s. (and_parts (stage_of t m.told j).candidate (named_by_firm (stage_of t m.told) (both_keys t m.told) j || named_by_wanted (stage_of t m.told) (both_keys t m.told) j) s).0)
        (λ i j p s. (and_parts (stage_of t m.told j).candidate (refers_by (candidate_content (stage_of t m.told) (both_keys t m.told) i) j) s).0) k h

    -- what the held ones refer to
    pub last_are : (marks last : List Key) → ((k : Key) → has is_key marks k ≡ has is_key (held (stage_of t m.told) (both_keys t m.told)) k) → last ≡ flat_map (mine_refs t) marks → (k : Key) → has is_key last k ≡ named_by_held (stage_of t m.told) (both_keys t m.told) k
    last_are marks last same are k = ap (λ (ks : List Key). has is_key ks k) are
        ∙ flat_is (λ j. mine_at (entry_of t j)) (mine_refs t) marks (held (stage_of t m.told) (both_keys t m.told)) (λ i j. at_from (mine_at (entry_of t i)) j) same k
        ∙ same_bool _ _
        (λ h. let r = some_of is_key key_itself one_key (λ j. refers_by (mine_at (entry_of t j)) k) (held (stage_of t m.told) (both_keys t m.told)) h in
        any_of is_key key_itself one_key (λ j. refers_by (candidate_content (stage_of t m.told) (both_keys t m.told) j) k) (held (stage_of t m.told) (both_keys t m.told)) r.0 r.1 (sym (refs_are r.0 k (held_going r.0 r.1)) ∙ at_from (mine_at (entry_of t r.0)) k ∙ r.2))
        (λ h. let r = some_of is_key key_itself one_key (λ j. refers_by (candidate_content (stage_of t m.told) (both_keys t m.told) j) k) (held (stage_of t m.told) (both_keys t m.told)) h in
        any_of is_key key_itself one_key (λ j. refers_by (mine_at (entry_of t j)) k) (held (stage_of t m.told) (both_keys t m.told)) r.0 r.1 (sym (at_from (mine_at (entry_of t r.0)) k) ∙ refs_are r.0 k (held_going r.0 r.1) ∙ r.2))
