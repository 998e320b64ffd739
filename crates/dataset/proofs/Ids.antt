-- The ids that a sound table's entries have.
use Rattle.std.proofs.Common.{◌≡◌, ℕ, ◌≤◌, ◌^◌, ℤ, pos, negsuc, true, false, Option, Some, None, ap, is_some, arith}
use Rattle.std.proofs.lemmas.Bool.Decides.{nat_tests}
use Rattle.osm_base.specs.Number.{IsId}
use Rattle.osm_base.specs.declared.key.Key.{Key}
use Rattle.osm_base.specs.declared.content.Content.{Content}
use Rattle.osm_table.specs.declared.entry.Base.{Base}
use Rattle.osm_table.specs.declared.entry.Base.TheVariants.{New, Live, Gone}
use Rattle.osm_table.specs.declared.entry.Conflict.{Conflict}
use Rattle.osm_table.specs.Table.{is_new, IsPositive}
use Rattle.dataset.specs.Sound.{IsGiven, BaseFits}

-- one that the server gave
pub positive_id : (id : ℤ) → IsPositive id → IsId id
positive_id (pos n) h = grind (arith, nat_tests, h.0, h.1)
positive_id (negsuc n) h = absurd h

-- one that stands in for it
pub given_id : (next : ℕ) (id : ℤ) → next ≤ 10 ^ 18 → IsGiven next id → IsId id
given_id next (pos n) most h = absurd h
given_id next (negsuc n) most h = grind (arith, nat_tests)

-- what is in conflict is the server's
pub told_id : (next : ℕ) (key : Key) (base : Base) (mine : Option Content) (conflict : Conflict) → BaseFits next key base mine (Some conflict) → IsPositive key.id
told_id next key New mine conflict h = let e : true ≡ false = ap is_some h.2 in cc
told_id next key (Live version content meta) mine conflict h = h
told_id next key (Gone version meta) mine conflict h = h

-- any base but a new one fits the server's ids
pub base_fits : (next : ℕ) (key : Key) (base : Base) (mine : Option Content) → is_new base ≡ false → IsPositive key.id → BaseFits next key base mine None
base_fits next key New mine e h = let f : true ≡ false = e in cc
base_fits next key (Live version content meta) mine e h = h
base_fits next key (Gone version meta) mine e h = h
