-- The walk from what is told ends with the wanted objects of the whole table.
use Rattle.std.proofs.Common.{◌≡◌, Bool, true, false, List, [], ◌∷◌, Option, Some, None, is_some, cond, refl, sym, ◌∙◌, ap, ◌↔◌, inl, inr, ◌⊎◌, filter}
use Rattle.std.specs.List.{list_any, flat_map}
use Rattle.std.proofs.lemmas.Bool.{and_parts, and_from, true≢false}
use Rattle.osm_base.specs.Rank.{is_key}
use Rattle.osm_base.proofs.RisingKeys.{one_key, key_itself}
use Rattle.osm_base.specs.declared.key.Key.{Key}
use Rattle.osm_base.specs.declared.content.Content.{Content}
use Rattle.osm_table.specs.declared.entry.Entry.{Entry}
use Rattle.osm_table.specs.declared.entry.Entry.TheVariants.{Incomplete, Known}
use Rattle.osm_table.specs.Table.{TableValue, entry_of}
use Rattle.osm_table.specs.Told.{ToldValue, told_at}
use Rattle.dataset.specs.Exact.{mine_at}
use Rattle.dataset.specs.Sound.{IsSound}
use Rattle.closure.specs.Closure.{has, Chain}
use Rattle.closure.proofs.Least.{kept, kept_from}
use Rattle.closure.proofs.Chains.{chain_maps, chain_of, of_chain}
use Rattle.tool_api.specs.Staged.{stage_of, lost_of, refers_by, bared}
use Rattle.tool_api.specs.Merged.{both_keys, lost_content, named_by_firm, named_by_wanted, wanted, wanted_start, wanted_leads}
use Rattle.merge_tool.specs.Walks.{is_lost, lost_refs, lost_links}
use Rattle.merge_tool.specs.Passes.{has_resting_user, early, renewed_refs}
use Rattle.job_laws.proofs.MergeFitting.{fits, not_lost_by}
use Rattle.merge_tool.proofs.Cases.{used_there}
use Rattle.merge_tool.proofs.Bareds.{lost_bared}
use Rattle.merge_tool.proofs.Namers.{at_from, names_are, flat_is, same_bool, named_by_renewed, renewed_firm, firm_parts}

no_mine : (o : Option Entry) → is_some (mine_at o) ≡ true → lost_of o ≡ None
no_mine None h = refl
no_mine (Some Incomplete) h = refl
no_mine (Some (Known b None f)) h = absurd (true≢false (sym h))
no_mine (Some (Known b (Some c) f)) h = refl

filter_same : (p q : Key → Bool) → ((k : Key) → p k ≡ q k) → (ks : List Key) → filter p ks ≡ filter q ks
filter_same p q same [] = refl
filter_same p q same (k ∷ ks) = ap (λ (l : List Key). cond (p k) (k ∷ l) l) (filter_same p q same ks) ∙ ap (λ (b : Bool). cond b (k ∷ filter q ks) (filter q ks)) (same k)

module _ (t : TableValue) (m : ToldValue) (sound : IsSound t) (each : (k : Key) → list_any (is_key k) m.order ≡ is_some (told_at m k)) where
  -- of the firm entries only those that their cases change can name a lost object
  named_renewed : (k : Key) → is_some (lost_content (stage_of t m.told) (both_keys t m.told) k) ≡ true → named_by_firm (stage_of t m.told) (both_keys t m.told) k ≡ true → named_by_renewed t m sound each k ≡ true
  named_renewed k l h = by (firm_parts t m sound each k h)
    where
      by : (named_by_renewed t m sound each k ≡ true) ⊎ (has_resting_user t m.told k ≡ true) → named_by_renewed t m sound each k ≡ true
      by (inl e) = e
      by (inr e) = absurd (not_lost_by t m.told k (used_there t m.told sound k e) l)

  pub lost_same : (k : Key) → lost_content (stage_of t m.told) (both_keys t m.told) k ≡ lost_of (stage_of t m.told k).entry
  lost_same k = by (stage_of t m.told k).candidate refl
    where
      by : (b : Bool) → (stage_of t m.told k).candidate ≡ b → cond b None (lost_of (stage_of t m.told k).entry) ≡ lost_of (stage_of t m.told k).entry
      by true e = sym (no_mine (stage_of t m.told k).entry ((fits t m.told sound).alive k e))
      by false e = refl

  in_both : (k : Key) → is_some (lost_content (stage_of t m.told) (both_keys t m.told) k) ≡ true → has is_key (both_keys t m.told) k ≡ true
  in_both k h = (fits t m.told sound).covers k (some_entry (stage_of t m.told k).entry (ap is_some (sym (lost_same k)) ∙ h))
    where
      some_entry : (o : Option Entry) → is_some (lost_of o) ≡ true → is_some o ≡ true
      some_entry None e = e
      some_entry (Some x) e = refl

  module _ (u : TableValue) (as_staged : (k : Key) → lost_of (entry_of u k) ≡ lost_of (stage_of t m.told k).entry) where
    content_is : (k : Key) → lost_of (entry_of u k) ≡ lost_content (stage_of t m.told) (both_keys t m.told) k
    content_is k = as_staged k ∙ sym (lost_same k)

    losts : (k : Key) → is_lost u k ≡ is_some (lost_content (stage_of t m.told) (both_keys t m.told) k)
    losts k = ap is_some (content_is k)

    pub refs_are : (j k : Key) → has is_key (lost_refs u j) k ≡ refers_by (lost_content (stage_of t m.told) (both_keys t m.told) j) k
    refs_are j k = at_from (lost_of (entry_of u j)) k ∙ ap (λ (o : Option Content). refers_by o k) (content_is j)

    module _ (names named : List Key) (names_are : (k : Key) → has is_key names k ≡ named_by_renewed t m sound each k) (lost : named ≡ filter (is_lost u) names) where
      start_there : (k : Key) → has is_key named k ≡ true → wanted_start (stage_of t m.told) (both_keys t m.told) k ≡ true
      start_there k e = let n = kept_from is_key key_itself one_key (is_lost u) names k (sym (ap (λ (ks : List Key). has is_key ks k) lost) ∙ e) in
          and_from _ _ (sym (losts k) ∙ n.1) (renewed_firm t m sound each k (sym (names_are k) ∙ n.0))

      start_back : (k : Key) → wanted_start (stage_of t m.told) (both_keys t m.told) k ≡ true → has is_key named k ≡ true
      start_back k e = let n = and_parts (is_some (lost_content (stage_of t m.told) (both_keys t m.told) k)) (named_by_firm (stage_of t m.told) (both_keys t m.told) k) e in
          ap (λ (ks : List Key). has is_key ks k) lost ∙ kept is_key key_itself one_key (is_lost u) names k (names_are k ∙ named_renewed k n.0 n.1) (losts k ∙ n.0)

      lead_there : (j k : Key) → has is_key (lost_links u j) k ≡ true → wanted_leads (stage_of t m.told) (both_keys t m.told) j k ≡ true
      lead_there j k e = let n = kept_from is_key key_itself one_key (is_lost u) (lost_refs u j) k e in and_from _ _ (sym (losts k) ∙ n.1) (sym (refs_are j k) ∙ n.0)

      lead_back : (j k : Key) → wanted_leads (stage_of t m.told) (both_keys t m.told) j k ≡ true → has is_key (lost_links u j) k ≡ true
      lead_back j k e = let n = and_parts (is_some (lost_content (stage_of t m.told) (both_keys t m.told) k)) (refers_by (lost_content (stage_of t m.told) (both_keys t m.told) j) k) e in
          kept is_key key_itself one_key (is_lost u) (lost_refs u j) k (refs_are j k ∙ n.1) (losts k ∙ n.0)

      -- the ends of the walk's chains are the wanted objects
      pub wanted_ends : (marks : List Key) → ((k : Key) → (has is_key marks k ≡ true) ↔ Chain (has is_key named) (λ j. has is_key (lost_links u j)) k) → (k : Key) → has is_key marks k ≡ has is_key (wanted (stage_of t m.told) (both_keys t m.told)) k
      wanted_ends marks ends k = same_bool _ _
          (λ e. of_chain is_key key_itself one_key (wanted_start (stage_of t m.told) (both_keys t m.told)) (wanted_leads (stage_of t m.told) (both_keys t m.told)) (both_keys t m.told)
          (λ j s. in_both j (and_parts (is_some (lost_content (stage_of t m.told) (both_keys t m.told) j)) (named_by_firm (stage_of t m.told) (both_keys t m.told) j) s).0)
          (λ i j s. in_both j (and_parts (is_some (lost_content (stage_of t m.told) (both_keys t m.told) j)) (refers_by (lost_content (stage_of t m.told) (both_keys t m.told) i) j) s).0)
          k (chain_maps (has is_key named) (wanted_start (stage_of t m.told) (both_keys t m.told)) (λ j. has is_key (lost_links u j)) (wanted_leads (stage_of t m.told) (both_keys t m.told)) start_there lead_there k ((ends k).0 e)))
          (λ h. (ends k).1 (chain_maps (wanted_start (stage_of t m.told) (both_keys t m.told)) (has is_key named) (wanted_leads (stage_of t m.told) (both_keys t m.told)) (λ j. has is_key (lost_links u j)) start_back lead_back k
          (chain_of is_key key_itself one_key (wanted_start (stage_of t m.told) (both_keys t m.told)) (wanted_leads (stage_of t m.told) (both_keys t m.told)) (both_keys t m.told) k h)))

    -- what the wanted ones refer to
    pub late_are : (marks late : List Key) → ((k : Key) → has is_key marks k ≡ has is_key (wanted (stage_of t m.told) (both_keys t m.told)) k) → late ≡ flat_map (lost_refs u) marks → (k : Key) → has is_key late k ≡ named_by_wanted (stage_of t m.told) (both_keys t m.told) k
    late_are marks late same are k = ap (λ (ks : List Key). has is_key ks k) are
        ∙ flat_is (lost_content (stage_of t m.told) (both_keys t m.told)) (lost_refs u) marks (wanted (stage_of t m.told) (both_keys t m.told)) refs_are same k

  -- the first names leave the lost ones as they were staged
  module _ (u v : TableValue) (names lost : List Key) (is_early : (k : Key) → entry_of u k ≡ early t m.told k) (names_by : names ≡ flat_map (renewed_refs t m.told) m.order) (named : (k : Key) → entry_of v k ≡ bared (has is_key names k) (entry_of u k)) where
    lost_early : (k : Key) → lost_of (entry_of u k) ≡ lost_of (stage_of t m.told k).entry
    lost_early k = ap lost_of (is_early k) ∙ lost_bared (has_resting_user t m.told k) (stage_of t m.told k).entry

    pub lost_named : (k : Key) → lost_of (entry_of v k) ≡ lost_of (stage_of t m.told k).entry
    lost_named k = ap lost_of (named k) ∙ lost_bared (has is_key names k) (entry_of u k) ∙ lost_early k

    pub wants_are : (starts marks : List Key) → lost ≡ filter (is_lost u) names → starts ≡ lost → ((k : Key) → (has is_key marks k ≡ true) ↔ Chain (has is_key starts) (λ j. has is_key (lost_links v j)) k) → (k : Key) → has is_key marks k ≡ has is_key (wanted (stage_of t m.told) (both_keys t m.told)) k
    wants_are starts marks are same ends = wanted_ends v lost_named names starts (names_are t m sound each names names_by)
        (same ∙ are ∙ filter_same (is_lost u) (is_lost v) (λ k. ap is_some (lost_early k) ∙ sym (ap is_some (lost_named k))) names) marks ends
