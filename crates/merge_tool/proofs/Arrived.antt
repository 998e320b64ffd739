-- What a merge makes of an empty table, where what is told refers to nothing but what is told of as there.
use Rattle.std.proofs.Common.{◌≡◌, ℕ, ◌<◌, ◌≤◌, ◌||◌, Bool, true, false, cond, is_some, [], length, Option, Some, None, refl, sym, ◌∙◌, ap, subst, inl, inr, ◌⊎◌, arith}
use Rattle.std.specs.Prelude.{nat_lt, Ok, Err}
use Rattle.std.specs.Option.{option_map, option_or}
use Rattle.std.specs.FinMap as fin
use Rattle.std.proofs.lemmas.Bool.{true≢false}
use Rattle.std.proofs.lemmas.Bool.Decides.{nat_tests}
use Rattle.std.proofs.lemmas.List.{length-map}
use Rattle.osm_base.specs.Content.{refs_of}
use Rattle.osm_base.specs.Rank.{rank_cmp, is_key}
use Rattle.osm_base.proofs.ByRank.{rises_keys}
use Rattle.osm_base.proofs.RisingKeys.{same_keys}
use Rattle.osm_base.proofs.Tests.{option_or-none}
use Rattle.osm_base.specs.declared.key.Key.{Key}
use Rattle.osm_table.specs.declared.entry.Entry.{Entry}
use Rattle.osm_table.specs.declared.told.Told.{Told}
use Rattle.osm_table.specs.declared.told.Told.TheVariants as told
use Rattle.osm_table.specs.Table.{TableValue, entry_of, IsThere}
use Rattle.osm_table.specs.Told.{ToldEntries, ToldValue, IsToldMap, IsClosed, entry_told, is_told_there}
use Rattle.dataset.specs.Arrivals.{arrivals}
use Rattle.dataset.specs.Diff.{diff}
use Rattle.dataset.specs.Draft.{drafted}
use Rattle.dataset.specs.Exact.{mine_at}
use Rattle.dataset.specs.Patch.{PatchValue, IsDiff, after_of}
use Rattle.dataset.specs.Sound.{IsSound}
use Rattle.dataset.proofs.Laws.{diff_leads}
use Rattle.dataset.proofs.Arrivals.{arrived_at}
use Rattle.closure.specs.Closure.{has}
use Rattle.tool_api.specs.declared.refusal.Refusal.TheVariants.{TableFull}
use Rattle.tool_api.specs.Checks.{when}
use Rattle.tool_api.specs.Changes.{done}
use Rattle.tool_api.specs.Closing.{room_test}
use Rattle.tool_api.specs.Planned.{IsReady}
use Rattle.tool_api.specs.Staged.{staged, stage_of, verdict_at, is_candidate, is_clash, lost_of, refers_by, back, bared}
use Rattle.tool_api.specs.Merged.{both_keys, reached_keys, wanted, held, named, final, merged, merge, clash_of, clash_test}
use Rattle.tool_api.proofs.Looks.{next_changed}
use Rattle.job_laws.proofs.MergeOutcome.{merged_at}
use Rattle.job_laws.proofs.MergeRows.{theirs_by, verdict_by}
use Rattle.job_laws.proofs.MergeStand.{bared_kept, bared_none, namer, settled, wanted_lost}
use Rattle.osm_base.proofs.Lists.{all_at, find_none}
use Rattle.merge_tool.proofs.Plans.{drafted_is, drafted_sound, no_room, taken_in}

-- One object of which nothing was known.

-- it is as it is told
new_entry : (s : Option Told) → staged (verdict_by None s) None (theirs_by s) ≡ option_map entry_told s
new_entry None = refl
new_entry (Some told.Mentioned) = refl
new_entry (Some (told.Live v c meta)) = refl
new_entry (Some (told.Gone v meta)) = refl

-- it is no candidate
new_stays : (s : Option Told) → is_candidate (verdict_by None s) ≡ false
new_stays None = refl
new_stays (Some told.Mentioned) = refl
new_stays (Some (told.Live v c meta)) = refl
new_stays (Some (told.Gone v meta)) = refl

-- its versions don't clash
new_agrees : (s : Option Told) → is_clash (verdict_by None s) ≡ false
new_agrees None = refl
new_agrees (Some told.Mentioned) = refl
new_agrees (Some (told.Live v c meta)) = refl
new_agrees (Some (told.Gone v meta)) = refl

-- it wasn't lost here
never_lost : (s : Option Told) → lost_of (option_map entry_told s) ≡ None
never_lost None = refl
never_lost (Some told.Mentioned) = refl
never_lost (Some (told.Live v c meta)) = refl
never_lost (Some (told.Gone v meta)) = refl

-- one that is told of as there is there
there_as_told : (s : Option Told) → is_told_there s ≡ true → IsThere (option_map entry_told s)
there_as_told None h = absurd (true≢false (sym h))
there_as_told (Some told.Mentioned) h = tt
there_as_told (Some (told.Live v c meta)) h = refl
there_as_told (Some (told.Gone v meta)) h = absurd (true≢false (sym h))

-- and so is all to which it refers
told_names : (m : ToldEntries) → IsClosed m → (j k : Key) (s : Option Told) → fin.get m j ≡ s → refers_by (mine_at (option_map entry_told s)) k ≡ true → is_told_there (fin.get m k) ≡ true
told_names m closed j k None e h = absurd (true≢false (sym h))
told_names m closed j k (Some told.Mentioned) e h = absurd (true≢false (sym h))
told_names m closed j k (Some (told.Live v c meta)) e h = all_at (λ r. is_told_there (fin.get m r) ≡ true) (refs_of c) k (closed j v c meta e) h
told_names m closed j k (Some (told.Gone v meta)) e h = absurd (true≢false (sym h))

-- maps with the same keys have as many
same_len : {V W : Type 0} (m : fin.FinMap rank_cmp V) (n : fin.FinMap rank_cmp W) → ((k : Key) → is_some (fin.get m k) ≡ is_some (fin.get n k)) → fin.len m ≡ fin.len n
same_len {V = V} {W = W} m n e =
    fin.len-entries m ∙ sym (length-map (fin.entries m) (λ (x : Key × V). x.0))
    ∙ ap length (same_keys (fin.keys m) (fin.keys n) (rises_keys m) (rises_keys n) (λ k. sym (fin.contains_key-keys m k) ∙ e k ∙ fin.contains_key-keys n k))
    ∙ length-map (fin.entries n) (λ (x : Key × W). x.0) ∙ sym (fin.len-entries n)

-- All objects, where the table is empty.

pub none_there : (t : TableValue) → fin.len t.entries ≡ 0 → (k : Key) → entry_of t k ≡ None
none_there t e k = ap (λ (es : fin.FinMap rank_cmp Entry). fin.get es k) (fin.empty_of_len t.entries e) ∙ fin.get-empty rank_cmp k

module _ (t : TableValue) (m : ToldEntries) (empty : (k : Key) → entry_of t k ≡ None) (closed : IsClosed m) where
  as_told : (k : Key) → (stage_of t m k).entry ≡ option_map entry_told (fin.get m k)
  as_told k = ap (λ (o : Option Entry). staged (verdict_by o (fin.get m k)) o (theirs_by (fin.get m k))) (empty k) ∙ new_entry (fin.get m k)

  none_goes : (k : Key) → (stage_of t m k).candidate ≡ false
  none_goes k = ap (λ (o : Option Entry). is_candidate (verdict_by o (fin.get m k))) (empty k) ∙ new_stays (fin.get m k)

  none_lost : (k : Key) → lost_of (stage_of t m k).entry ≡ None
  none_lost k = ap lost_of (as_told k) ∙ never_lost (fin.get m k)

  none_wanted : (k : Key) → has is_key (wanted (stage_of t m) (both_keys t m)) k ≡ true → ⊥
  none_wanted k h = true≢false (sym (wanted_lost (stage_of t m) (both_keys t m) k h) ∙ ap (λ b. is_some (cond b None (lost_of (stage_of t m k).entry))) (none_goes k) ∙ ap is_some (none_lost k))

  -- what is named is told of as there
  named_there : (k : Key) → named (stage_of t m) (both_keys t m) k ≡ true → IsThere (stage_of t m k).entry
  named_there k h = let n = namer (stage_of t m) (both_keys t m) k h in subst IsThere (sym (as_told k)) (there_as_told (fin.get m k) (by n.0 n.2))
    where
      by : (j : Key) → (refers_by (mine_at (stage_of t m j).entry) k ≡ true) ⊎ (refers_by (lost_of (stage_of t m j).entry) k ≡ true) → is_told_there (fin.get m k) ≡ true
      by j (inl e) = told_names m closed j k (fin.get m j) refl (ap (λ (o : Option Entry). refers_by (mine_at o) k) (sym (as_told j)) ∙ e)
      by j (inr e) = absurd (true≢false (sym e ∙ ap (λ o. refers_by o k) (none_lost j)))

  -- so each object is as it is told in the end
  ends_as_told : (k : Key) → final (stage_of t m) (both_keys t m) k ≡ option_map entry_told (fin.get m k)
  ends_as_told k =
      ap (λ b. settled b (has is_key (held (stage_of t m) (both_keys t m)) k) (has is_key (wanted (stage_of t m) (both_keys t m)) k) (named (stage_of t m) (both_keys t m) k) (stage_of t m k).theirs (stage_of t m k).entry) (none_goes k)
      ∙ by (has is_key (wanted (stage_of t m) (both_keys t m)) k) (named (stage_of t m) (both_keys t m) k) refl refl
      ∙ as_told k
    where
      by : (w n : Bool) → has is_key (wanted (stage_of t m) (both_keys t m)) k ≡ w → named (stage_of t m) (both_keys t m) k ≡ n
          → cond w (option_map back (stage_of t m k).entry) (bared n (stage_of t m k).entry) ≡ (stage_of t m k).entry
      by true n e f = absurd (none_wanted k e)
      by false true e f = bared_kept true (stage_of t m k).entry (named_there k f)
      by false false e f = bared_none (stage_of t m k).entry

  pub none_clashes : None ≡ clash_test t m
  none_clashes = sym (ap (option_map (clash_of m)) (find_none (λ k. is_clash (verdict_at t m k)) (fin.keys m) (λ k. ap (λ (o : Option Entry). is_clash (verdict_by o (fin.get m k))) (empty k) ∙ new_agrees (fin.get m k))))

  -- and the table has as many
  as_many : fin.len (merged t m).entries ≡ fin.len m
  as_many = same_len (merged t m).entries m (λ k. ap is_some (merged_at t m k ∙ ends_as_told k) ∙ some_told (fin.get m k))
    where
      some_told : (s : Option Told) → is_some (option_map entry_told s) ≡ is_some s
      some_told None = refl
      some_told (Some s) = refl

-- The plan.

abbrev full : ℕ → ℕ → ℕ → Bool
full limit len next = nat_lt limit len || nat_lt 1000000000000000000 next

is_full_by : (limit len next : ℕ) → limit < len → full limit len next ≡ true
is_full_by limit len next h = grind (arith, nat_tests)

isnt_full_by : (limit len next : ℕ) → len ≤ limit → next ≤ 1000000000000000000 → full limit len next ≡ false
isnt_full_by limit len next h g = grind (arith, nat_tests)

-- more is told of than there is room for
pub too_many : (t : TableValue) (m : ToldValue) (limit len : ℕ) → fin.len t.entries ≡ 0 → IsClosed m.told → len ≡ fin.len m.told → limit < len → merge t limit m ≡ Err TableFull
too_many t m limit len none closed is more =
    let empty = none_there t none in
    no_room t m limit (merged t m.told) TableFull (none_clashes t m.told empty closed) refl
    (sym (ap (λ b. when b TableFull) (ap (λ n. full limit n (merged t m.told).next) (as_many t m.told empty closed ∙ sym is) ∙ is_full_by limit len (merged t m.told).next more)))

-- all that is told has come, by a patch that is the difference
pub all_come : (t : TableValue) (m : ToldValue) (limit len : ℕ) (p : PatchValue) → IsSound t → IsToldMap m.told → fin.len t.entries ≡ 0 → IsClosed m.told → len ≡ fin.len m.told → len ≤ limit
    → p ≡ diff t (drafted (arrivals m.told t.next) t) → IsDiff t (drafted (arrivals m.told t.next) t) p → IsReady t p × (merge t limit m ≡ Ok (done (after_of p t)))
all_come t m limit len p sound is_told none closed is few whole differs =
    let empty = none_there t none in
    let come = drafted_is t m (arrivals m.told t.next) (λ k. arrived_at m.told t k ∙ ap (option_or (option_map entry_told (fin.get m.told k))) (empty k) ∙ option_or-none (option_map entry_told (fin.get m.told k)) ∙ sym (ends_as_told t m.told empty closed k)) refl in
    let to = (diff_leads t (drafted (arrivals m.told t.next) t) p differs).to in
    let number = next_changed t (final (stage_of t m.told) (both_keys t m.told)) (reached_keys t m.told) in
    let room = ap (λ b. when b TableFull) ((λ i. full limit ((as_many t m.told empty closed ∙ sym is) i) (number i)) ∙ isnt_full_by limit len t.next few sound.number.1) in (
      record {
        stands = differs.before;
        sound = drafted_sound t m (after_of p t) sound is_told (sym to ∙ come);
        whole = whole ∙ ap (diff t) to;
      },
      taken_in t m limit (after_of p t) [] (none_clashes t m.told empty closed) (sym to ∙ come) (sym (ap (room_test limit) (sym to ∙ come) ∙ room)) refl,
    )
