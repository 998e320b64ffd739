-- Which cases leave an object as it is.
use Rattle.std.proofs.Common.{◌≡◌, ◌==◌, ◌&&◌, ◌||◌, ℕ, Bool, true, false, nat_lt, Option, Some, None, cond, refl, sym, ap, ◌∙◌}
use Rattle.std.specs.Option.{option_map}
use Rattle.std.specs.FinMap as fin
use Rattle.osm_base.specs.declared.content.Content.{Content}
use Rattle.osm_base.specs.declared.key.Key.{Key}
use Rattle.osm_table.specs.declared.entry.Base.{Base}
use Rattle.osm_table.specs.declared.entry.Conflict.{Conflict}
use Rattle.osm_table.specs.declared.entry.Entry.{Entry}
use Rattle.osm_table.specs.declared.entry.Entry.TheVariants.{Incomplete, Known}
use Rattle.osm_table.specs.declared.told.Told.{Told}
use Rattle.osm_table.specs.declared.told.Told.TheVariants as told
use Rattle.osm_table.specs.Table.{TableValue, entry_of, held_by, version_of, known_base, known_side, is_changed}
use Rattle.osm_table.specs.Same.{same_mine}
use Rattle.osm_table.specs.Told.{ToldEntries, entry_told, told_of}
use Rattle.merge_cases.specs.declared.verdict.Verdict.TheVariants.{Stay, Settle, Join, Dispute}
use Rattle.merge_cases.specs.Case.{verdict_of, version_case, known_case, newer_case, same_version_case, withdrawn_case, unchanged_case, changed_case, all_join, is_withdrawn}
use Rattle.tool_api.specs.Staged.{verdict_at}
use Rattle.merge_tool.specs.Passes.{rests, are_alike, says_nothing, is_resting}
use Rattle.job_laws.proofs.MergeRows.{verdict_by}

alike_rests : (known theirs : Option Content) → rests (same_version_case known theirs) ≡ are_alike known theirs
alike_rests None None = refl
alike_rests None (Some t) = refl
alike_rests (Some k) None = refl
alike_rests (Some k) (Some t) = refl

withdrawn_moves : (theirs : Option Content) → rests (withdrawn_case theirs) ≡ false
withdrawn_moves None = refl
withdrawn_moves (Some t) = refl

unchanged_moves : (mine theirs : Option Content) → rests (unchanged_case mine theirs) ≡ false
unchanged_moves None None = refl
unchanged_moves None (Some t) = refl
unchanged_moves (Some m) None = refl
unchanged_moves (Some m) (Some t) = refl

changed_moves : (base mine theirs : Option Content) → rests (changed_case base mine theirs) ≡ false
changed_moves base mine theirs = by (same_mine mine theirs) (all_join base mine theirs)
  where
    by : (s j : Bool) → rests (cond s Settle (cond j Join Dispute)) ≡ false
    by true j = refl
    by false true = refl
    by false false = refl

-- a newer version changes an object
newer_moves : (b : Base) (mine : Option Content) (f : Option Conflict) (theirs : Option Content) → rests (newer_case b mine f theirs) ≡ false
newer_moves b mine f theirs = by (is_withdrawn f) (is_changed (Known b mine f))
  where
    by : (w c : Bool) → rests (cond w (withdrawn_case theirs) (cond c (changed_case (held_by b) mine theirs) (unchanged_case mine theirs))) ≡ false
    by true c = withdrawn_moves theirs
    by false true = changed_moves (held_by b) mine theirs
    by false false = unchanged_moves mine theirs

known_rests : (b : Base) (mine : Option Content) (f : Option Conflict) (n : ℕ) (theirs : Option Content) → rests (known_case b mine f n theirs) ≡ says_nothing (known_base b f) n theirs
known_rests b mine f n theirs = by (nat_lt n (version_of (known_base b f))) (n == version_of (known_base b f))
  where
    by : (older same : Bool) → rests (cond older Stay (cond same (same_version_case (held_by (known_base b f)) theirs) (newer_case b mine f theirs))) ≡ (older || (same && are_alike (held_by (known_base b f)) theirs))
    by true same = refl
    by false true = alike_rests (held_by (known_base b f)) theirs
    by false false = newer_moves b mine f theirs

-- an object whose known side is this one
pub rests_some : (e : Entry) (known : Base) (n : ℕ) (theirs : Option Content) → known_side e ≡ Some known → rests (version_case (Some e) n theirs) ≡ says_nothing known n theirs
rests_some Incomplete known n theirs h = cc
rests_some (Known b mine f) known n theirs h = let same : known_base b f ≡ known = cc in known_rests b mine f n theirs ∙ ap (λ (x : Base). says_nothing x n theirs) same

-- one that is only referred to
pub rests_none : (e : Entry) (n : ℕ) (theirs : Option Content) → known_side e ≡ None → rests (version_case (Some e) n theirs) ≡ false
rests_none Incomplete n theirs h = refl
rests_none (Known b mine f) n theirs h = cc

told_again : (s : Told) → told_of (entry_told s) ≡ s
told_again told.Mentioned = refl
told_again (told.Live n c m) = refl
told_again (told.Gone n m) = refl

-- the case of a key by the news of it
pub news_case : (t : TableValue) (m : ToldEntries) (k : Key) (news : Entry) → Some news ≡ option_map entry_told (fin.get m k) → verdict_of (entry_of t k) (told_of news) ≡ verdict_at t m k
news_case t m k news h = by (fin.get m k) h
  where
    by : (o : Option Told) → Some news ≡ option_map entry_told o → verdict_of (entry_of t k) (told_of news) ≡ verdict_by (entry_of t k) o
    by None e = cc
    by (Some s) e = let same : news ≡ entry_told s = cc in ap (verdict_of (entry_of t k)) (ap told_of same ∙ told_again s)

-- one of which there is no news
pub untold_rests : (t : TableValue) (m : ToldEntries) (k : Key) → None ≡ option_map entry_told (fin.get m k) → is_resting t m k ≡ true
untold_rests t m k h = by (fin.get m k) h
  where
    by : (o : Option Told) → None ≡ option_map entry_told o → rests (verdict_by (entry_of t k) o) ≡ true
    by None e = refl
    by (Some s) e = cc
