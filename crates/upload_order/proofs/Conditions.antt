-- What an upload needs of a sound table, and of one that isn't refused.
use Rattle.std.specs.Prelude.{◌≡◌, true, false, ◌⊎◌, Some}
use Rattle.osm_base.specs.Content.{refers, kind_of_content, fits}
use Rattle.osm_base.specs.declared.key.Key.{Key}
use Rattle.osm_base.specs.declared.content.Content.{Content}
use Rattle.osm_table.specs.declared.entry.Entry.{Entry}
use Rattle.osm_table.specs.Table.{TableValue, entry_of, is_incomplete, is_new, mine_of}
use Rattle.upload_order.specs.Bases.{base_in, is_based, IsHeldUser}
use Rattle.upload_order.specs.Kinds.{at_key, held_of, is_rising, is_update}
use Rattle.upload_order.specs.Rename.{is_positive}

-- the conditions of a sound table that the upload rests on
pub record Sound (t : TableValue) : Type 0 where
  pub refs : (k r : Key) (e : Entry) (c : Content) → entry_of t k ≡ Some e → mine_of e ≡ Some c → refers c r ≡ true → (at_key t is_incomplete r ≡ true) ⊎ ((f : Entry) × (d : Content) × (entry_of t r ≡ Some f) × (mine_of f ≡ Some d))
  pub kinds : (k : Key) (e : Entry) (c : Content) → entry_of t k ≡ Some e → (mine_of e ≡ Some c) ⊎ (held_of e ≡ Some c) → kind_of_content c ≡ k.kind
  pub positive : (k : Key) (e : Entry) → entry_of t k ≡ Some e → (is_incomplete e ≡ true) ⊎ (is_based e ≡ true) → is_positive k.id ≡ true
  pub negative : (k : Key) (e : Entry) → entry_of t k ≡ Some e → is_new (base_in e) ≡ true → is_incomplete e ≡ false → (is_positive k.id ≡ false) × ((c : Content) × (mine_of e ≡ Some c))
  pub held_refs : (k r : Key) (e : Entry) (c : Content) → entry_of t k ≡ Some e → held_of e ≡ Some c → refers c r ≡ true → is_positive r.id ≡ true
  pub fit : (k : Key) (e : Entry) (c : Content) → entry_of t k ≡ Some e → mine_of e ≡ Some c → (is_rising e ≡ true) ⊎ (is_update e ≡ true) → fits c ≡ true

-- each Incomplete reference of what is to be sent is vouched for (what the upload needs of it)
abbrev pub IsVouched : TableValue → Type 0
IsVouched t = (k r : Key) (e : Entry) (c : Content) → entry_of t k ≡ Some e → mine_of e ≡ Some c → (is_rising e ≡ true) ⊎ (is_update e ≡ true) → refers c r ≡ true → at_key t is_incomplete r ≡ true → IsHeldUser t r
