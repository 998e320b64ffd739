-- Entries that are kept beside their keys.
use Rattle.std.proofs.Common.{◌≡◌, ◌∙◌, List, length, sym, ap, Vec, Global}
use Rattle.std.specs.List.{zip, IsDistinct}
use Rattle.std.specs.Map.{keys_of}
use Rattle.osm_base.specs.KeyEq.{eq}
use Rattle.osm_base.specs.declared.key.Key.{Key}
use Rattle.osm_table.specs.InOrder.{AreInPlace}
use Rattle.osm_table.specs.declared.entry.Entry.{Entry}
use Rattle.osm_table.specs.declared.places.Places.{Places}
use Rattle.osm_table.specs.declared.places.Places.TheVariants.{Rising, Hashed}
use Rattle.osm_table.specs.declared.shared_entry.SharedEntry.{SharedEntry}
use Rattle.osm_table.proofs.OrderLaws.{keys_zip, zip_len, rises_distinct}

-- keys that are in place are distinct
pub in_place_distinct : (ks : List Key) (places : Places) → AreInPlace ks places → IsDistinct eq ks
in_place_distinct ks (Rising posts) h = rises_distinct ks h
in_place_distinct ks (Hashed places) h = h.0

module _ (keys : Vec Key Global) (entries : Vec SharedEntry Global) {now : List (Key × Entry)} (len : length keys.items ≡ length entries.items) (view : zip keys.items entries.items ≡ now) where
  pub kept_keys : keys.items ≡ keys_of now
  kept_keys = sym (keys_zip keys.items entries.items len) ∙ ap (λ (es : List (Key × Entry)). keys_of es) view

  pub kept_len : (keys.len ≡ length now) × (entries.len ≡ length now)
  kept_len =
      let all = zip_len keys.items entries.items len ∙ ap (λ (es : List (Key × Entry)). length es) view in
      (keys.ok.0 ∙ all, entries.ok.0 ∙ sym len ∙ all)
