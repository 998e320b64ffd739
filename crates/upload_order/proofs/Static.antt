-- What the order of a plan is, without a world: each change comes where it may.
use Rattle.std.proofs.Common.{◌≡◌, Bool, true, false, cond, List, [], ◌∷◌, Option, Some, None, ◌⊎◌}
use Rattle.osm_base.specs.Rank.{is_key}
use Rattle.osm_base.specs.Content.{refers}
use Rattle.osm_base.specs.declared.key.Key.{Key}
use Rattle.osm_base.specs.declared.content.Content.{Content}
use Rattle.osm_table.specs.declared.entry.Entry.{Entry}
use Rattle.osm_table.specs.Table.{TableValue, entry_of, mine_of}
use Rattle.upload_order.specs.declared.down.Down.{Down}
use Rattle.upload_order.specs.declared.down.Down.TheVariants.{Clear, Remove}
use Rattle.upload_order.specs.Kinds.{held_of, at_key, is_rising, is_update, is_falling}

-- k is to be created or changed: its entry is e, and its mine c
pub record IsUp (t : TableValue) (k : Key) (e : Entry) (c : Content) : Type 0 where
  pub entry : entry_of t k ≡ Some e
  pub mine : mine_of e ≡ Some c
  pub up : (is_rising e ≡ true) ⊎ (is_update e ≡ true)

abbrev pub with_key : Key → (Key → Bool) → Key → Bool
with_key k done q = cond (is_key q k) true (done q)

-- From the keys done these can follow one by one, and these are done then.
pub data IsOrdered (t : TableValue) : (Key → Bool) → List Key → (Key → Bool) → Type 0 where
  no_more : (done : Key → Bool) → IsOrdered t done [] done
  next : (done last : Key → Bool) (k : Key) (ks : List Key) (e : Entry) (c : Content) → IsUp t k e c → done k ≡ false → ((r : Key) → refers c r ≡ true → at_key t is_rising r ≡ true → done r ≡ true) → IsOrdered t (with_key k done) ks last → IsOrdered t done (k ∷ ks) last

-- the keys that are still to go, and whether they were emptied
abbrev pub Left : Type 0
Left = Key → Option Bool

abbrev pub set_left : Key → Option Bool → Left → Left
set_left k b left q = cond (is_key q k) b (left q)

pub data IsDown (t : TableValue) : Left → List Down → Left → Type 0 where
  no_more : (left : Left) → IsDown t left [] left
  clear : (left last : Left) (k : Key) (ds : List Down) (e : Entry) → entry_of t k ≡ Some e → is_falling e ≡ true → left k ≡ Some false → IsDown t (set_left k (Some true) left) ds last → IsDown t left (Clear k ∷ ds) last
  remove : (left last : Left) (k : Key) (b : Bool) (ds : List Down) (e : Entry) → entry_of t k ≡ Some e → is_falling e ≡ true → left k ≡ Some b → ((u : Key) (f : Entry) (c : Content) → left u ≡ Some false → entry_of t u ≡ Some f → held_of f ≡ Some c → refers c k ≡ false) → IsDown t (set_left k None left) ds last → IsDown t left (Remove k b ∷ ds) last
