-- What clones hold.
use Rattle.std.proofs.Common.{◌≡◌, List, ap, inl, inr, ◌⊎◌}
use Rattle.std.specs.List.{AllZip}
use Rattle.std.specs.Prelude.{Vec, vec_len}
use Rattle.std.proofs.lemmas.List.Elements.{same_from_all_zip}

-- A list that is written to is the one that was there, or a clone of it.
pub kept_or_cloned : {X Z : Type 0} (old new : Vec X Z) → (new ≡ old) ⊎ (AllZip (λ (x : X) (y : X). y ≡ x) old.items new.items × (vec_len new ≡ vec_len old)) → new.items ≡ old.items
kept_or_cloned old new (inl kept) = ap (λ v. v.items) kept
kept_or_cloned old new (inr cloned) = same_from_all_zip _ old.items new.items cloned.0 (λ x y same. same)

-- A list of pairs whose parts are those of another is that list.
pub pairs_cloned : {X Y : Type 0} (old new : List (X × Y)) → AllZip (λ (x : X × Y) (y : X × Y). (y.0 ≡ x.0) × (y.1 ≡ x.1)) old new → new ≡ old
pairs_cloned old new cloned = same_from_all_zip _ old new cloned (λ x y same. λ j. (same.0 j, same.1 j))
