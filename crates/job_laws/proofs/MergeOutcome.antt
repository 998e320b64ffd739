-- What the merged table has at each key, and that references stand in it.
use Rattle.std.proofs.Common.{◌≡◌, Bool, true, false, List, [], ◌∷◌, ◌++◌, Option, Some, None, is_some, cond, refl, sym, ◌∙◌, ap, subst, inl, inr, ◌⊎◌}
use Rattle.std.specs.List.{flat_map}
use Rattle.std.proofs.lemmas.Bool.{or_cases, true≢false}
use Rattle.std.specs.FinMap as fin
use Rattle.osm_base.specs.Rank.{is_key}
use Rattle.osm_base.proofs.RisingKeys.{one_key, key_itself}
use Rattle.osm_base.specs.declared.key.Key.{Key}
use Rattle.osm_base.specs.declared.content.Content.{Content}
use Rattle.osm_table.specs.declared.entry.Entry.{Entry}
use Rattle.osm_table.specs.declared.told.Told.{Told}
use Rattle.osm_table.specs.Table.{TableValue, entry_of, mine_of, Each, IsThere}
use Rattle.osm_table.specs.Told.{ToldEntries}
use Rattle.dataset.specs.Exact.{mine_at}
use Rattle.dataset.specs.Sound.{IsSound, LivesIn}
use Rattle.tool_api.proofs.Looks.{entry_changed}
use Rattle.closure.specs.Closure.{has}
use Rattle.closure.proofs.Walk.{has_first, has_second}
use Rattle.tool_api.specs.Staged.{staged, is_candidate, stage_of, lost_of, refers_by, refs_by}
use Rattle.tool_api.specs.Merged.{both_keys, reached_keys, wanted, held, named, final, merged}
use Rattle.job_laws.proofs.MergeRows.{theirs_by, verdict_by}
use Rattle.job_laws.proofs.MergeStand.{settled, refs_stand, namer}
use Rattle.job_laws.proofs.MergeFitting.{fits}

pub has_flat : (f : Key → List Key) (all : List Key) (j q : Key) → has is_key all j ≡ true → has is_key (f j) q ≡ true → has is_key (flat_map f all) q ≡ true
has_flat f [] j q h i = absurd (true≢false (sym h))
has_flat f (x ∷ xs) j q h i = by (has_flat f xs j q) (or_cases (is_key j x) (has is_key xs j) h)
  where
    by : (has is_key xs j ≡ true → has is_key (f j) q ≡ true → has is_key (flat_map f xs) q ≡ true) → (is_key j x ≡ true) ⊎ (has is_key xs j ≡ true) → has is_key (f x ++ flat_map f xs) q ≡ true
    by more (inl e) = has_first is_key key_itself one_key (f x) (flat_map f xs) q (subst (λ (k : Key). has is_key (f k) q ≡ true) (one_key j x e) i)
    by more (inr e) = has_second is_key key_itself one_key (f x) (flat_map f xs) q (more e i)

refers_at : (o : Option Content) (q : Key) → refers_by o q ≡ true → has is_key (refs_by o) q ≡ true
refers_at None q h = h
refers_at (Some c) q h = h

-- What a key has in the end: by its entry, what is told, and whether it is held, wanted and named.
abbrev pub outcome : Option Entry → Option Told → Bool → Bool → Bool → Option Entry
outcome o u held wanted named = settled (is_candidate (verdict_by o u)) held wanted named (theirs_by u) (staged (verdict_by o u) o (theirs_by u))

-- where there is none, nothing is told of it and nothing refers to it, there is none
outcome_none : (o : Option Entry) (u : Option Told) (h w n : Bool) → o ≡ None → u ≡ None → (n ≡ true → ⊥) → outcome o u h w n ≡ o
outcome_none None None h w true e g i = absurd (i refl)
outcome_none None None h true false e g i = refl
outcome_none None None h false false e g i = refl
outcome_none (Some x) u h w n e g i = absurd (true≢false (ap is_some e))
outcome_none None (Some x) h w n e g i = absurd (true≢false (ap is_some g))

module _ (t : TableValue) (s : ToldEntries) where
  parts : Key → List Key
  parts k = refs_by (mine_at (stage_of t s k).entry) ++ refs_by (lost_of (stage_of t s k).entry)

  by_mine : (j q : Key) → has is_key (both_keys t s) j ≡ true → refers_by (mine_at (stage_of t s j).entry) q ≡ true → has is_key (reached_keys t s) q ≡ true
  unfolding parts
  by_mine j q i h = has_second is_key key_itself one_key (both_keys t s) (flat_map parts (both_keys t s)) q
      (has_flat parts (both_keys t s) j q i (has_first is_key key_itself one_key (refs_by (mine_at (stage_of t s j).entry)) (refs_by (lost_of (stage_of t s j).entry)) q (refers_at (mine_at (stage_of t s j).entry) q h)))

  by_lost : (j q : Key) → has is_key (both_keys t s) j ≡ true → refers_by (lost_of (stage_of t s j).entry) q ≡ true → has is_key (reached_keys t s) q ≡ true
  unfolding parts
  by_lost j q i h = has_second is_key key_itself one_key (both_keys t s) (flat_map parts (both_keys t s)) q
      (has_flat parts (both_keys t s) j q i (has_second is_key key_itself one_key (refs_by (mine_at (stage_of t s j).entry)) (refs_by (lost_of (stage_of t s j).entry)) q (refers_at (lost_of (stage_of t s j).entry) q h)))

  -- what is named is reached
  named_reached : (q : Key) → named (stage_of t s) (both_keys t s) q ≡ true → has is_key (reached_keys t s) q ≡ true
  named_reached q h = let n = namer (stage_of t s) (both_keys t s) q h in by n.0 n.1 n.2
    where
      by : (j : Key) → has is_key (both_keys t s) j ≡ true → (refers_by (mine_at (stage_of t s j).entry) q ≡ true) ⊎ (refers_by (lost_of (stage_of t s j).entry) q ≡ true) → has is_key (reached_keys t s) q ≡ true
      by j i (inl e) = by_mine j q i e
      by j i (inr e) = by_lost j q i e

  none_of : {A : Type 0} (o : Option A) → (is_some o ≡ true → ⊥) → o ≡ None
  none_of None f = refl
  none_of (Some a) f = absurd (f refl)

  -- where neither side nor a reference has a key, nothing stands
  far : (q : Key) → (has is_key (reached_keys t s) q ≡ true → ⊥) → final (stage_of t s) (both_keys t s) q ≡ entry_of t q
  far q f = outcome_none (entry_of t q) (fin.get s q) (has is_key (held (stage_of t s) (both_keys t s)) q) (has is_key (wanted (stage_of t s) (both_keys t s)) q) (named (stage_of t s) (both_keys t s) q)
      (none_of (entry_of t q) (λ e. f (has_first is_key key_itself one_key (both_keys t s) _ q (has_first is_key key_itself one_key (fin.keys t.entries) (fin.keys s) q (sym (fin.contains_key-keys t.entries q) ∙ e)))))
      (none_of (fin.get s q) (λ e. f (has_first is_key key_itself one_key (both_keys t s) _ q (has_second is_key key_itself one_key (fin.keys t.entries) (fin.keys s) q (sym (fin.contains_key-keys s q) ∙ e)))))
      (λ e. f (named_reached q e))

  pick : (b : Bool) (x y : Option Entry) → ((b ≡ true → ⊥) → x ≡ y) → cond b x y ≡ x
  pick true x y f = refl
  pick false x y f = sym (f (λ e. true≢false (sym e)))

  -- the merged table has the outcome at each key
  pub merged_at : (q : Key) → entry_of (merged t s) q ≡ final (stage_of t s) (both_keys t s) q
  merged_at q = entry_changed t (final (stage_of t s) (both_keys t s)) (reached_keys t s) q ∙ pick (has is_key (reached_keys t s) q) (final (stage_of t s) (both_keys t s) q) (entry_of t q) (far q)

  -- its living entries refer to what is living or Incomplete
  pub merged_closed : IsSound t → Each (merged t s) (λ k e. LivesIn (merged t s) e)
  merged_closed sound k e has r used = by (mine_of e) refl used
    where
      by : (o : Option Content) → mine_of e ≡ o → refers_by o r ≡ true → IsThere (entry_of (merged t s) r)
      by None m i = absurd (true≢false (sym i))
      by (Some c) m i = subst IsThere (sym (merged_at r)) (refs_stand (stage_of t s) (both_keys t s) (fits t s sound) k r c (ap mine_at (sym (merged_at k) ∙ has) ∙ m) i)
