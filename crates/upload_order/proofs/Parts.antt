-- The keys of a part.
use Rattle.std.proofs.Common.{◌≡◌, false, List, [], ◌∷◌, map, refl, sym, ap, subst}
use Rattle.std.specs.Prelude.{T}
use Rattle.osm_base.specs.declared.key.Key.{Key}
use Rattle.osm_base.specs.RisingKeys.{rises}
use Rattle.osm_base.proofs.RisingKeys.{rises_filter}
use Rattle.osm_base.proofs.ByRank.{rises_keys}
use Rattle.osm_table.specs.Table.{TableValue, keys_by_rank}
use Rattle.upload_order.specs.declared.change.Change.{Change}
use Rattle.upload_order.specs.declared.down.Down.TheVariants.{Remove}
use Rattle.upload_order.specs.declared.part.Part.{Part}
use Rattle.upload_order.specs.Part.{in_part, keys_in}
use Rattle.upload_order.specs.Plan.{down_of, plain_removes}

pub rises_in : (t : TableValue) (part : Part) → T (rises (keys_in t part))
rises_in t part = rises_filter (in_part t part) (keys_by_rank t) (rises_keys t.entries)

pub rises_part : (t : TableValue) (part : Part) (ks : List Key) → ks ≡ keys_in t part → T (rises ks)
rises_part t part ks e = subst (λ (js : List Key). T (rises js)) (sym e) (rises_in t part)

pub plain : (t : TableValue) (ks : List Key) → map (down_of t) (plain_removes ks) ≡ map (λ k. down_of t (Remove k false)) ks
plain t [] = refl
plain t (k ∷ ks) = ap (λ (cs : List Change). down_of t (Remove k false) ∷ cs) (plain t ks)
