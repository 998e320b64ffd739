-- Which objects are in conflict after a merge, by what is here and what is told: that is what the cases leave.
use Rattle.std.proofs.Common.{◌≡◌, ◌==◌, ◌||◌, ◌&&◌, not, ℕ, nat_lt, Bool, true, false, Option, Some, None, is_some, cond, refl, sym, ◌∙◌, ap, subst}
use Rattle.std.specs.Option.{option_map, option_map_or}
use Rattle.std.specs.FinMap as fin
use Rattle.std.proofs.lemmas.Bool.{true≢false, or_right}
use Rattle.osm_base.specs.Rank.{is_key}
use Rattle.osm_base.specs.declared.key.Key.{Key}
use Rattle.osm_base.specs.declared.content.Content.{Content}
use Rattle.osm_table.specs.declared.entry.Base.{Base}
use Rattle.osm_table.specs.declared.entry.Base.TheVariants as base
use Rattle.osm_table.specs.declared.entry.Why.{Why}
use Rattle.osm_table.specs.declared.entry.Why.TheVariants.{Held}
use Rattle.osm_table.specs.declared.entry.Conflict.{Conflict}
use Rattle.osm_table.specs.declared.entry.Entry.{Entry}
use Rattle.osm_table.specs.declared.entry.Entry.TheVariants.{Incomplete, Known}
use Rattle.osm_table.specs.declared.told.Told.{Told}
use Rattle.osm_table.specs.declared.told.Told.TheVariants as told
use Rattle.osm_table.specs.Table.{TableValue, entry_of, held_by, known_base, version_of, is_changed}
use Rattle.osm_table.specs.Told.{ToldEntries, IsToldMap}
use Rattle.osm_table.specs.Same.{same_mine}
use Rattle.dataset.specs.Exact.{mine_at}
use Rattle.dataset.specs.Sound.{IsSound, ConflictFits}
use Rattle.closure.specs.Closure.{has}
use Rattle.merge_cases.specs.declared.verdict.Verdict.TheVariants.{Stay, Settle, Join, Dispute}
use Rattle.merge_cases.specs.Case.{known_case, newer_case, same_version_case, changed_case, unchanged_case, withdrawn_case, all_join, is_withdrawn}
use Rattle.tool_api.specs.Closing.{in_conflict}
use Rattle.tool_api.specs.Staged.{stage_of, staged, is_candidate, taken, all_joined, lost_of, against, back, bared}
use Rattle.tool_api.specs.Merged.{both_keys, lost_content, wanted, held, named, merged}
use Rattle.job_laws.specs.MergeConflicts.{if_newer, disputes, goes, stands_against, is_to_go, is_deleted, ends_in_conflict}
use Rattle.job_laws.proofs.MergeRows.{HasFits, theirs_by, verdict_by, not_lost, withdrawn_lives}
use Rattle.job_laws.proofs.MergeStand.{settled, wanted_lost}
use Rattle.job_laws.proofs.MergeFitting.{fits, has_fits}
use Rattle.job_laws.proofs.MergeOutcome.{merged_at}
use Rattle.job_laws.proofs.MergeConflicts.{held_conflict, back_conflict, bared_conflict, sound_fits}
use Rattle.job_laws.proofs.MergeSounds.{stage_sound}

absent : {A : Type 0} → false ≡ true → A
absent h = absurd (true≢false (sym h))

-- What is a candidate is to go.

newer_goes : (b : Base) (m : Option Content) (f : Option Conflict) (theirs : Option Content) → is_candidate (newer_case b m f theirs) ≡ goes b m f theirs
newer_goes b m f theirs = by (is_withdrawn f) (is_changed (Known b m f)) m theirs
  where
    changed : (s j : Bool) (x t : Option Content) → is_candidate (cond s Settle (cond j Join Dispute)) ≡ (not (is_some t) && (is_some x && false))
    changed true j None None = refl
    changed true j None (Some t) = refl
    changed true j (Some x) None = refl
    changed true j (Some x) (Some t) = refl
    changed false true None None = refl
    changed false true None (Some t) = refl
    changed false true (Some x) None = refl
    changed false true (Some x) (Some t) = refl
    changed false false None None = refl
    changed false false None (Some t) = refl
    changed false false (Some x) None = refl
    changed false false (Some x) (Some t) = refl

    by : (r c : Bool) (x t : Option Content) → is_candidate (cond r (withdrawn_case t) (cond c (changed_case (held_by b) x t) (unchanged_case x t))) ≡ (not (is_some t) && (r || (is_some x && not c)))
    by true c x None = refl
    by true c x (Some t) = refl
    by false true x t = changed (same_mine x t) (all_join (held_by b) x t) x t
    by false false None None = refl
    by false false None (Some t) = refl
    by false false (Some x) None = refl
    by false false (Some x) (Some t) = refl

version_goes : (b : Base) (m : Option Content) (f : Option Conflict) (version : ℕ) (theirs : Option Content)
    → is_candidate (known_case b m f version theirs) ≡ option_map_or (goes b m f) (if_newer (version_of (known_base b f)) version theirs) false
version_goes b m f version theirs = by (nat_lt version (version_of (known_base b f))) (version == version_of (known_base b f))
  where
    same_goes : (known t : Option Content) → is_candidate (same_version_case known t) ≡ false
    same_goes None None = refl
    same_goes None (Some t) = refl
    same_goes (Some k) None = refl
    same_goes (Some k) (Some t) = refl

    by : (older same : Bool) → is_candidate (cond older Stay (cond same (same_version_case (held_by (known_base b f)) theirs) (newer_case b m f theirs)))
        ≡ option_map_or (goes b m f) (cond (older || same) None (Some theirs)) false
    by true same = refl
    by false true = same_goes (held_by (known_base b f)) theirs
    by false false = newer_goes b m f theirs

candidate_goes : (o : Option Entry) (s : Option Told) → is_candidate (verdict_by o s) ≡ is_to_go o s
candidate_goes None None = refl
candidate_goes None (Some told.Mentioned) = refl
candidate_goes None (Some (told.Live v c meta)) = refl
candidate_goes None (Some (told.Gone v meta)) = refl
candidate_goes (Some Incomplete) None = refl
candidate_goes (Some Incomplete) (Some told.Mentioned) = refl
candidate_goes (Some Incomplete) (Some (told.Live v c meta)) = refl
candidate_goes (Some Incomplete) (Some (told.Gone v meta)) = refl
candidate_goes (Some (Known b m f)) None = refl
candidate_goes (Some (Known b m f)) (Some told.Mentioned) = refl
candidate_goes (Some (Known b m f)) (Some (told.Live v c meta)) = version_goes b m f v (Some c)
candidate_goes (Some (Known b m f)) (Some (told.Gone v meta)) = version_goes b m f v None

-- What its case leaves in conflict, theirs stands against.

newer_stands : (b : Base) (m : Option Content) (f : Option Conflict) (theirs : Option Content) (side : Base) → is_candidate (newer_case b m f theirs) ≡ false
    → in_conflict (staged (newer_case b m f theirs) (Some (Known b m f)) side) ≡ disputes b m f theirs
newer_stands b m f theirs side = by (is_withdrawn f) (is_changed (Known b m f)) m theirs
  where
    e : Option Entry
    e = Some (Known b m f)

    changed : (s j : Bool) → in_conflict (staged (cond s Settle (cond j Join Dispute)) (Some (Known b m f)) side) ≡ (not s && not j)
    changed true j = refl
    changed false true = refl
    changed false false = refl

    by : (r c : Bool) (x t : Option Content) → is_candidate (cond r (withdrawn_case t) (cond c (changed_case (held_by b) x t) (unchanged_case x t))) ≡ false
        → in_conflict (staged (cond r (withdrawn_case t) (cond c (changed_case (held_by b) x t) (unchanged_case x t))) (Some (Known b m f)) side)
        ≡ cond r (is_some t) (c && (not (same_mine x t) && not (all_join (held_by b) x t)))
    by true c x None h = absurd (true≢false h)
    by true c x (Some t) h = refl
    by false true x t h = changed (same_mine x t) (all_join (held_by b) x t)
    by false false None None h = refl
    by false false None (Some t) h = refl
    by false false (Some x) None h = absurd (true≢false h)
    by false false (Some x) (Some t) h = refl

version_stands : (b : Base) (m : Option Content) (f : Option Conflict) (version : ℕ) (theirs : Option Content) (side : Base) → is_candidate (known_case b m f version theirs) ≡ false
    → in_conflict (staged (known_case b m f version theirs) (Some (Known b m f)) side) ≡ option_map_or (disputes b m f) (if_newer (version_of (known_base b f)) version theirs) (is_some f)
version_stands b m f version theirs side = by (nat_lt version (version_of (known_base b f))) (version == version_of (known_base b f))
  where
    same_stands : (known t : Option Content) → in_conflict (staged (same_version_case known t) (Some (Known b m f)) side) ≡ is_some f
    same_stands None None = refl
    same_stands None (Some t) = refl
    same_stands (Some k) None = refl
    same_stands (Some k) (Some t) = refl

    by : (older same : Bool) → is_candidate (cond older Stay (cond same (same_version_case (held_by (known_base b f)) theirs) (newer_case b m f theirs))) ≡ false
        → in_conflict (staged (cond older Stay (cond same (same_version_case (held_by (known_base b f)) theirs) (newer_case b m f theirs))) (Some (Known b m f)) side)
        ≡ option_map_or (disputes b m f) (cond (older || same) None (Some theirs)) (is_some f)
    by true same h = refl
    by false true h = same_stands (held_by (known_base b f)) theirs
    by false false h = newer_stands b m f theirs side h

case_stands : (o : Option Entry) (s : Option Told) → is_candidate (verdict_by o s) ≡ false → in_conflict (staged (verdict_by o s) o (theirs_by s)) ≡ stands_against o s
case_stands None None h = refl
case_stands None (Some told.Mentioned) h = refl
case_stands None (Some (told.Live v c meta)) h = refl
case_stands None (Some (told.Gone v meta)) h = refl
case_stands (Some Incomplete) None h = refl
case_stands (Some Incomplete) (Some told.Mentioned) h = refl
case_stands (Some Incomplete) (Some (told.Live v c meta)) h = refl
case_stands (Some Incomplete) (Some (told.Gone v meta)) h = refl
case_stands (Some (Known b m f)) None h = refl
case_stands (Some (Known b m f)) (Some told.Mentioned) h = refl
case_stands (Some (Known b m f)) (Some (told.Live v c meta)) h = version_stands b m f v (Some c) (base.Live v c meta) h
case_stands (Some (Known b m f)) (Some (told.Gone v meta)) h = version_stands b m f v None (base.Gone v meta) h

-- What was deleted here doesn't live by its case, and what its case leaves lost was deleted here, or theirs stands against it.

joined_none : (b theirs : Option Content) → all_joined b None theirs ≡ None
joined_none None theirs = refl
joined_none (Some b) theirs = refl

taken_found : (side : Base) → is_some (lost_of (Some (taken side))) ≡ true → ⊥
taken_found base.New h = true≢false (sym h)
taken_found (base.Live v c meta) h = true≢false (sym h)
taken_found (base.Gone v meta) h = true≢false (sym h)

held_changed : (b : Base) → is_some (held_by b) ≡ true → is_changed (Known b None None) ≡ true
held_changed base.New h = absent h
held_changed (base.Live v c meta) h = refl
held_changed (base.Gone v meta) h = absent h

came_back : (b : Base) (f : Option Conflict) → ConflictFits b None f → is_withdrawn f ≡ false
came_back b f fit = by (is_withdrawn f) refl
  where
    by : (r : Bool) → is_withdrawn f ≡ r → r ≡ false
    by true e = sym (withdrawn_lives b None f fit e)
    by false e = refl

-- One that doesn't live here, in a version that is told.
module _ (b : Base) (f : Option Conflict) (fit : ConflictFits b None f) (version : ℕ) (theirs : Option Content) (side : Base) (same_side : held_by side ≡ theirs) where
  dead_newer : is_changed (Known b None f) ≡ true → is_some (mine_at (staged (newer_case b None f theirs) (Some (Known b None f)) side)) ≡ true → ⊥
  dead_newer changes = by (is_withdrawn f) (is_changed (Known b None f)) theirs same_side (came_back b f fit) changes
    where
      joins : (t : Option Content) (s j : Bool) → held_by side ≡ t → same_mine None t ≡ s → is_some (mine_at (staged (cond s Settle (cond j Join Dispute)) (Some (Known b None f)) side)) ≡ true → ⊥
      joins None true j e i h = true≢false (sym h ∙ ap is_some e)
      joins (Some t) true j e i h = true≢false (sym i)
      joins t false true e i h = true≢false (sym h ∙ ap is_some (joined_none (held_by b) (held_by side)))
      joins t false false e i h = true≢false (sym h)

      by : (r c : Bool) (t : Option Content) → held_by side ≡ t → r ≡ false → c ≡ true
          → is_some (mine_at (staged (cond r (withdrawn_case t) (cond c (changed_case (held_by b) None t) (unchanged_case None t))) (Some (Known b None f)) side)) ≡ true → ⊥
      by true c t e back is h = true≢false back
      by false false t e back is h = true≢false (sym is)
      by false true t e back is h = joins t (same_mine None t) (all_join (held_by b) None t) e refl h

  dead_stays : is_changed (Known b None f) ≡ true → is_some (mine_at (staged (known_case b None f version theirs) (Some (Known b None f)) side)) ≡ true → ⊥
  dead_stays changes = by (nat_lt version (version_of (known_base b f))) (version == version_of (known_base b f))
    where
      same_dies : (known t : Option Content) → is_some (mine_at (staged (same_version_case known t) (Some (Known b None f)) side)) ≡ true → ⊥
      same_dies None None h = true≢false (sym h)
      same_dies None (Some t) h = true≢false (sym h)
      same_dies (Some k) None h = true≢false (sym h)
      same_dies (Some k) (Some t) h = true≢false (sym h)

      by : (older same : Bool) → is_some (mine_at (staged (cond older Stay (cond same (same_version_case (held_by (known_base b f)) theirs) (newer_case b None f theirs))) (Some (Known b None f)) side)) ≡ true → ⊥
      by true same h = true≢false (sym h)
      by false true h = same_dies (held_by (known_base b f)) theirs h
      by false false h = dead_newer changes h

  lost_newer : is_some (lost_of (staged (newer_case b None f theirs) (Some (Known b None f)) side)) ≡ true → is_changed (Known b None f) ≡ true
  lost_newer = by (is_withdrawn f) (is_changed (Known b None f)) theirs (came_back b f fit)
    where
      by : (r c : Bool) (t : Option Content) → r ≡ false → is_some (lost_of (staged (cond r (withdrawn_case t) (cond c (changed_case (held_by b) None t) (unchanged_case None t))) (Some (Known b None f)) side)) ≡ true → c ≡ true
      by true c t back h = absurd (true≢false back)
      by false true t back h = refl
      by false false None back h = absurd (taken_found side h)
      by false false (Some t) back h = absurd (taken_found side h)

  -- a conflict that it had, or else a base that the server holds
  lost_here : (g : Option Conflict) → is_some (lost_of (Some (Known b None g))) ≡ true → (is_some g || is_changed (Known b None g)) ≡ true
  lost_here None h = held_changed b h
  lost_here (Some c) h = refl

  lost_version : is_some (lost_of (staged (known_case b None f version theirs) (Some (Known b None f)) side)) ≡ true
      → (option_map_or (disputes b None f) (if_newer (version_of (known_base b f)) version theirs) (is_some f) || is_changed (Known b None f)) ≡ true
  lost_version = by (nat_lt version (version_of (known_base b f))) (version == version_of (known_base b f))
    where
      same_lost : (known t : Option Content) → is_some (lost_of (staged (same_version_case known t) (Some (Known b None f)) side)) ≡ true → is_some (lost_of (Some (Known b None f))) ≡ true
      same_lost None None h = h
      same_lost None (Some t) h = h
      same_lost (Some k) None h = h
      same_lost (Some k) (Some t) h = h

      by : (older same : Bool) → is_some (lost_of (staged (cond older Stay (cond same (same_version_case (held_by (known_base b f)) theirs) (newer_case b None f theirs))) (Some (Known b None f)) side)) ≡ true
          → (option_map_or (disputes b None f) (cond (older || same) None (Some theirs)) (is_some f) || is_changed (Known b None f)) ≡ true
      by true same h = lost_here f h
      by false true h = lost_here f (same_lost (held_by (known_base b f)) theirs h)
      by false false h = or_right (disputes b None f theirs) (is_changed (Known b None f)) (lost_newer h)

deleted_dies : (o : Option Entry) (s : Option Told) → HasFits o → is_deleted o ≡ true → is_some (mine_at (staged (verdict_by o s) o (theirs_by s))) ≡ true → ⊥
deleted_dies None s fit d h = true≢false (sym d)
deleted_dies (Some Incomplete) s fit d h = true≢false (sym d)
deleted_dies (Some (Known b (Some c) f)) s fit d h = true≢false (sym d)
deleted_dies (Some (Known b None f)) None fit d h = true≢false (sym h)
deleted_dies (Some (Known b None f)) (Some told.Mentioned) fit d h = true≢false (sym h)
deleted_dies (Some (Known b None f)) (Some (told.Live v c meta)) fit d h = dead_stays b f fit v (Some c) (base.Live v c meta) refl d h
deleted_dies (Some (Known b None f)) (Some (told.Gone v meta)) fit d h = dead_stays b f fit v None (base.Gone v meta) refl d h

lost_deleted : (o : Option Entry) (s : Option Told) → HasFits o → is_some (lost_of (staged (verdict_by o s) o (theirs_by s))) ≡ true → (stands_against o s || is_deleted o) ≡ true
lost_deleted None None fit h = absent h
lost_deleted None (Some told.Mentioned) fit h = absent h
lost_deleted None (Some (told.Live v c meta)) fit h = absent h
lost_deleted None (Some (told.Gone v meta)) fit h = absent h
lost_deleted (Some Incomplete) s fit h = absurd (not_lost (Some Incomplete) s tt h)
lost_deleted (Some (Known b (Some c) f)) s fit h = absurd (not_lost (Some (Known b (Some c) f)) s refl h)
lost_deleted (Some (Known b None f)) None fit h = lost_here b f fit 0 None (base.New) refl f h
lost_deleted (Some (Known b None f)) (Some told.Mentioned) fit h = lost_here b f fit 0 None (base.New) refl f h
lost_deleted (Some (Known b None f)) (Some (told.Live v c meta)) fit h = lost_version b f fit v (Some c) (base.Live v c meta) refl h
lost_deleted (Some (Known b None f)) (Some (told.Gone v meta)) fit h = lost_version b f fit v None (base.Gone v meta) refl h

held_lives : (w : Why) (b : Base) (o : Option Entry) → mine_at (option_map (against w b) o) ≡ mine_at o
held_lives w b None = refl
held_lives w b (Some Incomplete) = refl
held_lives w b (Some (Known a m f)) = refl

back_lives : (o : Option Entry) → is_some (lost_of o) ≡ true → is_some (mine_at (option_map back o)) ≡ true
back_lives None h = h
back_lives (Some Incomplete) h = h
back_lives (Some (Known b None f)) h = h
back_lives (Some (Known b (Some c) f)) h = absent h

bared_lives : (n : Bool) (o : Option Entry) → is_some (mine_at (bared n o)) ≡ true → is_some (mine_at o) ≡ true
bared_lives true None h = h
bared_lives false None h = h
bared_lives n (Some Incomplete) h = h
bared_lives n (Some (Known b (Some c) f)) h = refl
bared_lives n (Some (Known b None f)) h = by (n && not (is_some (held_by (known_base b f)))) h
  where
    by : (t : Bool) → is_some (mine_at (cond t (Some Incomplete) (Some (Known b None f)))) ≡ true → is_some (mine_at (Some (Known b None f))) ≡ true
    by true g = g
    by false g = g

-- what doesn't hold together with the second adds nothing
or_none : (s d l : Bool) → (d ≡ true → l ≡ true → ⊥) → s ≡ (s || (d && l))
or_none true d l apart = refl
or_none false true true apart = absurd (apart refl refl)
or_none false true false apart = refl
or_none false false l apart = refl

and_one : (s d l : Bool) → (s || d) ≡ true → l ≡ true → (s || (d && l)) ≡ true
and_one true d l h e = refl
and_one false true l h e = e
and_one false false l h e = h

-- What one object has in the end.
module _ (o : Option Entry) (s : Option Told) (fit : HasFits o) (fit_then : HasFits (staged (verdict_by o s) o (theirs_by s))) where
  abbrev case : Option Entry
  case = staged (verdict_by o s) o (theirs_by s)

  ended : (a h w n : Bool) → is_candidate (verdict_by o s) ≡ a → (a ≡ true → is_some (mine_at case) ≡ true) → (w ≡ true → a ≡ false → is_some (lost_of case) ≡ true)
      → in_conflict (settled a h w n (theirs_by s) case) ≡ cond a (is_some (mine_at (settled a h w n (theirs_by s) case))) (stands_against o s || (is_deleted o && is_some (mine_at (settled a h w n (theirs_by s) case))))
  ended true true w n is lives lost = held_conflict (theirs_by s) case (lives refl) ∙ sym (ap is_some (held_lives Held (theirs_by s) case) ∙ lives refl)
  ended true false w n is lives lost = refl
  ended false h true n is lives lost = back_conflict case (lost refl refl) ∙ sym (and_one (stands_against o s) (is_deleted o) (is_some (mine_at (option_map back case))) (lost_deleted o s fit (lost refl refl)) (back_lives case (lost refl refl)))
  ended false h false n is lives lost = bared_conflict n case fit_then ∙ case_stands o s is ∙ or_none (stands_against o s) (is_deleted o) (is_some (mine_at (bared n case))) (λ d l. deleted_dies o s fit d (bared_lives n case l))

module _ (t : TableValue) (m : ToldEntries) (sound : IsSound t) (is_told : IsToldMap m) (k : Key) where
  abbrev before : Option Entry
  before = entry_of t k

  abbrev is_held : Bool
  is_held = has is_key (held (stage_of t m) (both_keys t m)) k

  abbrev is_wanted : Bool
  is_wanted = has is_key (wanted (stage_of t m) (both_keys t m)) k

  abbrev is_named : Bool
  is_named = named (stage_of t m) (both_keys t m) k

  lost : is_wanted ≡ true → (stage_of t m k).candidate ≡ false → is_some (lost_of (stage_of t m k).entry) ≡ true
  lost w a =
      let opened : lost_content (stage_of t m) (both_keys t m) k ≡ lost_of (stage_of t m k).entry = ap (λ (b : Bool). cond b None (lost_of (stage_of t m k).entry)) a in
      sym (ap is_some opened) ∙ wanted_lost (stage_of t m) (both_keys t m) k w

  -- so the cases and all that is said over them leave those in conflict that are said
  pub conflicts_by_contents : in_conflict (entry_of (merged t m) k) ≡ ends_in_conflict before (fin.get m k) (entry_of (merged t m) k)
  conflicts_by_contents =
      let there : entry_of (merged t m) k ≡ settled (is_candidate (verdict_by before (fin.get m k))) is_held is_wanted is_named (theirs_by (fin.get m k)) (stage_of t m k).entry = merged_at t m k in
      subst (λ (after : Option Entry). in_conflict after ≡ ends_in_conflict before (fin.get m k) after) (sym there)
      (subst (λ (a : Bool). in_conflict (settled (is_candidate (verdict_by before (fin.get m k))) is_held is_wanted is_named (theirs_by (fin.get m k)) (stage_of t m k).entry)
      ≡ cond a (is_some (mine_at (settled (is_candidate (verdict_by before (fin.get m k))) is_held is_wanted is_named (theirs_by (fin.get m k)) (stage_of t m k).entry)))
      (stands_against before (fin.get m k) || (is_deleted before && is_some (mine_at (settled (is_candidate (verdict_by before (fin.get m k))) is_held is_wanted is_named (theirs_by (fin.get m k)) (stage_of t m k).entry)))))
      (candidate_goes before (fin.get m k))
      (ended before (fin.get m k) (has_fits t m sound k before refl) (sound_fits t.next k (stage_of t m k).entry (stage_sound t m sound is_told k))
      (is_candidate (verdict_by before (fin.get m k))) is_held is_wanted is_named refl ((fits t m sound).alive k) (λ w a. lost w a)))
