-- The table with a download merged into it is sound.
use Rattle.std.proofs.Common.{◌≡◌, ℕ, Bool, true, false, Option, Some, None, is_some, cond, refl, sym, ◌∙◌, ap, subst, inl, inr, ◌⊎◌}
use Rattle.std.specs.Option.{option_map}
use Rattle.std.specs.FinMap as fin
use Rattle.std.proofs.lemmas.Bool.{true≢false}
use Rattle.osm_base.specs.Rank.{is_key}
use Rattle.osm_base.specs.Content.{refers}
use Rattle.osm_base.specs.declared.key.Key.{Key}
use Rattle.osm_base.specs.declared.content.Content.{Content}
use Rattle.osm_table.specs.declared.entry.Base.{Base}
use Rattle.osm_table.specs.declared.entry.Why.{Why}
use Rattle.osm_table.specs.declared.entry.Why.TheVariants.{Changed}
use Rattle.osm_table.specs.declared.entry.Entry.{Entry}
use Rattle.osm_table.specs.declared.entry.Entry.TheVariants.{Incomplete, Known}
use Rattle.osm_table.specs.declared.told.Told.{Told}
use Rattle.osm_table.specs.declared.told.Told.TheVariants as told
use Rattle.osm_table.specs.Table.{TableValue, entry_of, held_by, Each, IsThere, IsPositive, IfContent}
use Rattle.osm_table.specs.Told.{ToldEntries, IsTold, IsToldMap}
use Rattle.dataset.specs.Exact.{mine_at}
use Rattle.dataset.specs.Sound.{IsSound, IsSoundEntry, IsNumber}
use Rattle.tool_api.proofs.Looks.{next_changed}
use Rattle.tool_api.proofs.Sounds.{server_positive}
use Rattle.closure.specs.Closure.{has}
use Rattle.merge_cases.specs.declared.verdict.Verdict.{Verdict}
use Rattle.merge_cases.specs.declared.verdict.Verdict.TheVariants.{Stay, Mention, Take, Clash, Keep, Candidate, Settle, Join, Dispute}
use Rattle.merge_cases.specs.Join.{joined}
use Rattle.merge_cases.proofs.JoinedOf.{TakesOver, joined_takes}
use Rattle.tool_api.specs.Staged.{verdict_at, theirs_at, staged, stage_of, with_theirs, against, all_joined, lost_of, refers_by}
use Rattle.tool_api.specs.Merged.{both_keys, reached_keys, lost_content, wanted, held, named, final, merged}
use Rattle.job_laws.proofs.MergeRows.{theirs_by}
use Rattle.job_laws.proofs.MergeStand.{settled, wanted_lost, namer}
use Rattle.job_laws.proofs.MergeFitting.{there}
use Rattle.job_laws.proofs.MergeOutcome.{merged_at, merged_closed}
use Rattle.job_laws.proofs.MergePlaces.{SoundAt, IfTold, staged_sound, candidate_sound, back_sound, bared_sound}

told_positive : (k : Key) (s : Option Told) (q : Key) → IfTold k s → refers_by (held_by (theirs_by s)) q ≡ true → IsPositive q.id
told_positive k None q t h = absurd (true≢false (sym h))
told_positive k (Some told.Mentioned) q t h = absurd (true≢false (sym h))
told_positive k (Some (told.Live v c meta)) q t h = server_positive (Some c) q t.2.1 h
told_positive k (Some (told.Gone v meta)) q t h = absurd (true≢false (sym h))

-- a reference of what a case makes of an entry is one of the entry's, or to a positive id
Ours : Option Entry → Key → Type 0
Ours o q = (refers_by (mine_at o) q ≡ true) ⊎ IsPositive q.id

joined_ours : (m c : Content) (o : Option Content) (q : Key) → IfContent o (TakesOver m c) → refers_by o q ≡ true → (refers m q ≡ true) ⊎ (refers c q ≡ true)
joined_ours m c None q t h = absurd (true≢false (sym h))
joined_ours m c (Some d) q t h = t.refs q h

all_ours : (b m t : Option Content) (q : Key) → refers_by (all_joined b m t) q ≡ true → (refers_by m q ≡ true) ⊎ (refers_by t q ≡ true)
all_ours None m t q h = absurd (true≢false (sym h))
all_ours (Some b) None t q h = absurd (true≢false (sym h))
all_ours (Some b) (Some m) None q h = absurd (true≢false (sym h))
all_ours (Some b) (Some m) (Some t) q h = joined_ours m t (joined b m t) q (joined_takes b m t) h

against_ours : (w : Why) (b : Base) (o : Option Entry) (q : Key) → refers_by (mine_at (option_map (against w b) o)) q ≡ true → Ours o q
unfolding Ours
against_ours w b None q h = absurd (true≢false (sym h))
against_ours w b (Some Incomplete) q h = absurd (true≢false (sym h))
against_ours w b (Some (Known a m f)) q h = inl h

join_ours : (k : Key) (o : Option Entry) (s : Option Told) (q : Key) → IfTold k s → refers_by (mine_at (option_map (with_theirs (theirs_by s)) o)) q ≡ true → Ours o q
unfolding Ours
join_ours k None s q t h = absurd (true≢false (sym h))
join_ours k (Some Incomplete) s q t h = absurd (true≢false (sym h))
join_ours k (Some (Known b m f)) s q t h = by (all_ours (held_by b) m (held_by (theirs_by s)) q h)
  where
    by : (refers_by m q ≡ true) ⊎ (refers_by (held_by (theirs_by s)) q ≡ true) → (refers_by m q ≡ true) ⊎ IsPositive q.id
    by (inl e) = inl e
    by (inr e) = inr (told_positive k s q t e)

staged_ours : (k : Key) (v : Verdict) (o : Option Entry) (s : Option Told) (q : Key) → IfTold k s → refers_by (mine_at (staged v o (theirs_by s))) q ≡ true → Ours o q
unfolding Ours
staged_ours k Stay o s q t h = inl h
staged_ours k Mention o s q t h = absurd (true≢false (sym h))
staged_ours k Take o s q t h = inr (told_positive k s q t h)
staged_ours k Clash o s q t h = inl h
staged_ours k Keep o s q t h = inr (told_positive k s q t h)
staged_ours k Candidate o s q t h = inl h
staged_ours k Settle o s q t h = inr (told_positive k s q t h)
staged_ours k Join o s q t h = join_ours k o s q t h
staged_ours k Dispute o s q t h = against_ours Changed (theirs_by s) o q h

-- a lost object refers to positive ids
lost_positive : (n : ℕ) (k : Key) (o : Option Entry) (q : Key) → SoundAt n k o → refers_by (lost_of o) q ≡ true → IsPositive q.id
lost_positive n k None q s h = absurd (true≢false (sym h))
lost_positive n k (Some Incomplete) q s h = absurd (true≢false (sym h))
lost_positive n k (Some (Known b None None)) q s h = server_positive (held_by b) q s.server.0 h
lost_positive n k (Some (Known b None (Some c))) q s h = server_positive (held_by c.theirs) q s.server.1 h
lost_positive n k (Some (Known b (Some m) f)) q s h = absurd (true≢false (sym h))

-- no case takes an entry out
stays_some : (v : Verdict) (o : Option Entry) (b : Base) → IsThere o → staged v o b ≡ None → ⊥
stays_some v None b t e = t
stays_some Stay (Some x) b t e = true≢false (ap is_some e)
stays_some Mention (Some x) b t e = true≢false (ap is_some e)
stays_some Take (Some x) b t e = true≢false (ap is_some e)
stays_some Clash (Some x) b t e = true≢false (ap is_some e)
stays_some Keep (Some x) b t e = true≢false (ap is_some e)
stays_some Candidate (Some x) b t e = true≢false (ap is_some e)
stays_some Settle (Some x) b t e = true≢false (ap is_some e)
stays_some Join (Some x) b t e = true≢false (ap is_some e)
stays_some Dispute (Some x) b t e = true≢false (ap is_some e)

if_told : (k : Key) (s : Option Told) → ((u : Told) → s ≡ Some u → IsTold k u) → IfTold k s
if_told k None h = tt
if_told k (Some u) h = h u refl

sound_at : (t : TableValue) (k : Key) (o : Option Entry) → IsSound t → entry_of t k ≡ o → SoundAt t.next k o
sound_at t k None s e = tt
sound_at t k (Some x) s e = s.entries k x e

module _ (t : TableValue) (m : ToldEntries) (sound : IsSound t) (is_told : IsToldMap m) where
  tells : (k : Key) → IfTold k (fin.get m k)
  tells k = if_told k (fin.get m k) (is_told k)

  -- what its case makes of each key is sound by itself
  pub stage_sound : (k : Key) → SoundAt t.next k (stage_of t m k).entry
  stage_sound k = staged_sound t.next k (entry_of t k) (fin.get m k) (tells k) (sound_at t k (entry_of t k) sound refl)

  absent_positive : (j q : Key) → (stage_of t m q).entry ≡ None → Ours (entry_of t j) q → IsPositive q.id
  unfolding Ours
  absent_positive j q none (inl e) = absurd (stays_some (verdict_at t m q) (entry_of t q) (theirs_at m q) (there t m sound j q (entry_of t j) refl e) none)
  absent_positive j q none (inr p) = p

  -- what enters as Incomplete has a positive id
  named_positive : (q : Key) → named (stage_of t m) (both_keys t m) q ≡ true → (stage_of t m q).entry ≡ None → IsPositive q.id
  named_positive q h none = let n = namer (stage_of t m) (both_keys t m) q h in by n.0 n.2
    where
      by : (j : Key) → (refers_by (mine_at (stage_of t m j).entry) q ≡ true) ⊎ (refers_by (lost_of (stage_of t m j).entry) q ≡ true) → IsPositive q.id
      by j (inl e) = absent_positive j q none (staged_ours j (verdict_at t m j) (entry_of t j) (fin.get m j) q (tells j) e)
      by j (inr e) = lost_positive t.next j (stage_of t m j).entry q (stage_sound j) e

  -- what each key has in the end is sound by itself
  final_sound : (k : Key) → SoundAt t.next k (final (stage_of t m) (both_keys t m) k)
  final_sound k = by (stage_of t m k).candidate (has is_key (wanted (stage_of t m) (both_keys t m)) k) refl refl
    where
      by : (a d : Bool) → (stage_of t m k).candidate ≡ a → has is_key (wanted (stage_of t m) (both_keys t m)) k ≡ d
          → SoundAt t.next k (settled a (has is_key (held (stage_of t m) (both_keys t m)) k) d (named (stage_of t m) (both_keys t m) k) (stage_of t m k).theirs (stage_of t m k).entry)
      by true d e f = candidate_sound t.next k (entry_of t k) (fin.get m k) e (tells k) (sound_at t k (entry_of t k) sound refl) (has is_key (held (stage_of t m) (both_keys t m)) k)
      by false true e f = back_sound t.next k (stage_of t m k).entry (stage_sound k)
          (let opened : lost_content (stage_of t m) (both_keys t m) k ≡ lost_of (stage_of t m k).entry = ap (λ (b : Bool). cond b None (lost_of (stage_of t m k).entry)) e in
          sym (ap is_some opened) ∙ wanted_lost (stage_of t m) (both_keys t m) k f)
      by false false e f = bared_sound t.next k (named (stage_of t m) (both_keys t m) k) (stage_of t m k).entry (stage_sound k) (named_positive k)

  found : (n : ℕ) (k : Key) (e : Entry) (o : Option Entry) → o ≡ Some e → SoundAt n k o → IsSoundEntry n k e
  found n k e None i s = absurd (true≢false (sym (ap is_some i)))
  found n k e (Some x) i s = subst (λ (y : Entry). IsSoundEntry n k y) (some_is x e i) s
    where
      some_is : (x y : Entry) → Some x ≡ Some y → x ≡ y
      some_is x y e = cc

  -- the merged table is sound
  pub merged_sound : IsSound (merged t m)
  merged_sound = record {
    entries = subst (λ (n : ℕ). Each (merged t m) (IsSoundEntry n)) (sym next) (λ k e has. found t.next k e (entry_of (merged t m) k) has (subst (SoundAt t.next k) (sym (merged_at t m k)) (final_sound k)));
    closed = merged_closed t m sound;
    number = subst IsNumber (sym next) sound.number;
  }
    where
      next : (merged t m).next ≡ t.next
      next = next_changed t (final (stage_of t m) (both_keys t m)) (reached_keys t m)
