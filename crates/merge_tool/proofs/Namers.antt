-- Of which objects a merge has to look at the references: of those that their cases change. Those that are left as they are
-- name what was there before.
use Rattle.std.proofs.Common.{◌≡◌, ◌||◌, Bool, true, false, List, [], Option, Some, None, is_some, cond, refl, sym, ◌∙◌, ap, inl, inr, ◌⊎◌, ◌∷◌}
use Rattle.std.specs.List.{list_any, flat_map}
use Rattle.std.proofs.lemmas.Bool.{true≢false}
use Rattle.std.specs.FinMap as fin
use Rattle.osm_base.specs.Rank.{is_key}
use Rattle.osm_base.proofs.RisingKeys.{one_key, key_itself}
use Rattle.osm_base.specs.declared.key.Key.{Key}
use Rattle.osm_base.specs.declared.content.Content.{Content}
use Rattle.osm_table.specs.declared.entry.Base.{Base}
use Rattle.osm_table.specs.declared.entry.Entry.{Entry}
use Rattle.osm_table.specs.declared.told.Told.{Told}
use Rattle.osm_table.specs.Table.{TableValue, entry_of, users, keys_by_rank}
use Rattle.osm_table.specs.Told.{ToldValue, told_at}
use Rattle.dataset.specs.Exact.{mine_at}
use Rattle.dataset.specs.Sound.{IsSound}
use Rattle.dataset.proofs.Listed.{user_uses}
use Rattle.closure.specs.Closure.{has}
use Rattle.closure.proofs.Chains.{some_of, any_of}
use Rattle.closure.proofs.Walk.{has_append, has_second}
use Rattle.merge_cases.specs.declared.verdict.Verdict.{Verdict}
use Rattle.merge_cases.specs.declared.verdict.Verdict.TheVariants.{Stay, Mention, Take, Clash, Keep, Candidate, Settle, Join, Dispute}
use Rattle.tool_api.specs.Staged.{stage_of, staged, verdict_at, theirs_at, is_candidate, refers_by, refs_by}
use Rattle.tool_api.specs.Merged.{both_keys, firm_content, named_by_firm}
use Rattle.merge_tool.specs.Passes.{rests, renewed_mine, renewed_refs, is_resting, has_resting_user}
use Rattle.job_laws.proofs.MergeRows.{verdict_by}
use Rattle.job_laws.proofs.MergeFitting.{fits}
use Rattle.job_laws.proofs.MergeOutcome.{has_flat}
use Rattle.merge_tool.proofs.Cases.{uses_at}

-- two tests that say the same
pub same_bool : (a b : Bool) → (a ≡ true → b ≡ true) → (b ≡ true → a ≡ true) → a ≡ b
same_bool true b f g = sym (f refl)
same_bool false true f g = g refl
same_bool false false f g = refl

pub at_from : (o : Option Content) (q : Key) → has is_key (refs_by o) q ≡ refers_by o q
at_from None q = refl
at_from (Some c) q = refl

pub flat_from : (f : Key → List Key) (all : List Key) (q : Key) → has is_key (flat_map f all) q ≡ true → (j : Key) × (has is_key all j ≡ true) × (has is_key (f j) q ≡ true)
flat_from f [] q h = absurd (true≢false (sym h))
flat_from f (x ∷ xs) q h = by (flat_from f xs q) (has_append is_key key_itself one_key (f x) (flat_map f xs) q h)
  where
    by : (has is_key (flat_map f xs) q ≡ true → (j : Key) × (has is_key xs j ≡ true) × (has is_key (f j) q ≡ true)) → (has is_key (f x) q ≡ true) ⊎ (has is_key (flat_map f xs) q ≡ true) → (j : Key) × (has is_key (x ∷ xs) j ≡ true) × (has is_key (f j) q ≡ true)
    by more (inl e) = (x, ap (λ b. b || has is_key xs x) (key_itself x), e)
    by more (inr e) = let r = more e in (r.0, wider (is_key r.0 x) (has is_key xs r.0) r.1, r.2)
      where
        wider : (a b : Bool) → b ≡ true → (a || b) ≡ true
        wider true b i = refl
        wider false b i = i

-- what members' references name, where the members are known by a test
pub flat_is : (refs : Key → Option Content) (f : Key → List Key) (ks all : List Key) → ((j k : Key) → has is_key (f j) k ≡ refers_by (refs j) k) → ((j : Key) → has is_key ks j ≡ has is_key all j) → (k : Key) → has is_key (flat_map f ks) k ≡ list_any (λ j. refers_by (refs j) k) all
flat_is refs f ks all by same k = same_bool _ _
    (λ h. let r = flat_from f ks k h in any_of is_key key_itself one_key (λ j. refers_by (refs j) k) all r.0 (sym (same r.0) ∙ r.1) (sym (by r.0 k) ∙ r.2))
    (λ h. let r = some_of is_key key_itself one_key (λ j. refers_by (refs j) k) all h in has_flat f ks r.0 k (same r.0 ∙ r.1) (by r.0 k ∙ r.2))

-- an object that is left as it is stays, and is no candidate
pub resting : (v : Verdict) (e : Option Entry) (theirs : Base) → rests v ≡ true → staged v e theirs ≡ e
resting Stay e theirs h = refl
resting Mention e theirs h = absurd (true≢false (sym h))
resting Take e theirs h = absurd (true≢false (sym h))
resting Clash e theirs h = absurd (true≢false (sym h))
resting Keep e theirs h = absurd (true≢false (sym h))
resting Candidate e theirs h = absurd (true≢false (sym h))
resting Settle e theirs h = absurd (true≢false (sym h))
resting Join e theirs h = absurd (true≢false (sym h))
resting Dispute e theirs h = absurd (true≢false (sym h))

calm : (v : Verdict) → rests v ≡ true → is_candidate v ≡ false
calm Stay h = refl
calm Mention h = refl
calm Take h = refl
calm Clash h = refl
calm Keep h = refl
calm Candidate h = absurd (true≢false (sym h))
calm Settle h = refl
calm Join h = refl
calm Dispute h = refl

-- one that its case changes is told of
told_by : (e : Option Entry) (o : Option Told) → rests (verdict_by e o) ≡ false → is_some o ≡ true
told_by e None h = absurd (true≢false h)
told_by e (Some s) h = refl

mine_there : (o : Option Entry) (k : Key) → refers_by (mine_at o) k ≡ true → is_some o ≡ true
mine_there None k e = e
mine_there (Some x) k e = refl

unless_resting : (b : Bool) (c : Option Content) (k : Key) → refers_by (cond b None c) k ≡ true → refers_by c k ≡ true
unless_resting true c k h = absurd (true≢false (sym h))
unless_resting false c k h = h

module _ (t : TableValue) (m : ToldValue) (sound : IsSound t) (each : (k : Key) → list_any (is_key k) m.order ≡ is_some (told_at m k)) where
  pub order_keys : (j : Key) → has is_key m.order j ≡ has is_key (fin.keys m.told) j
  order_keys j = each j ∙ fin.contains_key-keys m.told j

  -- whether a firm entry that its case changes refers to the key
  abbrev pub named_by_renewed : Key → Bool
  named_by_renewed k = list_any (λ j. refers_by (renewed_mine (verdict_at t m.told j) (stage_of t m.told j).entry) k) (fin.keys m.told)

  -- the names of the first pass
  pub names_are : (names : List Key) → names ≡ flat_map (renewed_refs t m.told) m.order → (k : Key) → has is_key names k ≡ named_by_renewed k
  names_are names are k = ap (λ (ks : List Key). has is_key ks k) are
      ∙ flat_is (λ j. renewed_mine (verdict_at t m.told j) (stage_of t m.told j).entry) (renewed_refs t m.told) m.order (fin.keys m.told) (λ i j. at_from (renewed_mine (verdict_at t m.told i) (stage_of t m.told i).entry) j) order_keys k

  -- an entry that is left as it is is firm, as it stands
  resting_content : (j k : Key) → is_resting t m.told j ≡ true → refers_by (firm_content (stage_of t m.told) (both_keys t m.told) j) k ≡ refers_by (mine_at (entry_of t j)) k
  resting_content j k e =
      ap (λ (b : Bool). refers_by (cond b None (mine_at (stage_of t m.told j).entry)) k) (calm (verdict_at t m.told j) e)
      ∙ ap (λ (o : Option Entry). refers_by (mine_at o) k) (resting (verdict_at t m.told j) (entry_of t j) (theirs_at m.told j) e)

  pub resting_firm : (k : Key) → has_resting_user t m.told k ≡ true → named_by_firm (stage_of t m.told) (both_keys t m.told) k ≡ true
  resting_firm k h =
      let f = some_of is_key key_itself one_key (is_resting t m.told) (users t k) h in
      let used : refers_by (mine_at (entry_of t f.0)) k ≡ true = sym (uses_at (entry_of t f.0) k) ∙ sym (user_uses t k f.0) ∙ f.1 in
      any_of is_key key_itself one_key (λ j. refers_by (firm_content (stage_of t m.told) (both_keys t m.told) j) k) (both_keys t m.told) f.0
      ((fits t m.told sound).covers f.0 (ap is_some (resting (verdict_at t m.told f.0) (entry_of t f.0) (theirs_at m.told f.0) f.2) ∙ mine_there (entry_of t f.0) k used))
      (resting_content f.0 k f.2 ∙ used)

  pub renewed_firm : (k : Key) → named_by_renewed k ≡ true → named_by_firm (stage_of t m.told) (both_keys t m.told) k ≡ true
  renewed_firm k h =
      let f = some_of is_key key_itself one_key (λ j. refers_by (renewed_mine (verdict_at t m.told j) (stage_of t m.told j).entry) k) (fin.keys m.told) h in
      any_of is_key key_itself one_key (λ j. refers_by (firm_content (stage_of t m.told) (both_keys t m.told) j) k) (both_keys t m.told) f.0 (has_second is_key key_itself one_key (keys_by_rank t) (fin.keys m.told) f.0 f.1)
      (unless_resting (is_resting t m.told f.0) (firm_content (stage_of t m.told) (both_keys t m.told) f.0) k f.2)

  -- a firm entry is one that its case changes, or is left as it is
  pub firm_parts : (k : Key) → named_by_firm (stage_of t m.told) (both_keys t m.told) k ≡ true → (named_by_renewed k ≡ true) ⊎ (has_resting_user t m.told k ≡ true)
  firm_parts k h = let f = some_of is_key key_itself one_key (λ j. refers_by (firm_content (stage_of t m.told) (both_keys t m.told) j) k) (both_keys t m.told) h in by f.0 (is_resting t m.told f.0) refl f.2
    where
      by : (j : Key) (b : Bool) → is_resting t m.told j ≡ b → refers_by (firm_content (stage_of t m.told) (both_keys t m.told) j) k ≡ true → (named_by_renewed k ≡ true) ⊎ (has_resting_user t m.told k ≡ true)
      by j true e r = inr (any_of is_key key_itself one_key (is_resting t m.told) (users t k) j (user_uses t k j ∙ uses_at (entry_of t j) k ∙ sym (resting_content j k e) ∙ r) e)
      by j false e r = inl (any_of is_key key_itself one_key (λ i. refers_by (renewed_mine (verdict_at t m.told i) (stage_of t m.told i).entry) k) (fin.keys m.told) j (sym (fin.contains_key-keys m.told j) ∙ told_by (entry_of t j) (told_at m j) e)
          (ap (λ (c : Bool). refers_by (cond c None (firm_content (stage_of t m.told) (both_keys t m.told) j)) k) e ∙ r))
