-- Starts of the search for free ids: those of no objects, those found later, and that they stay starts.
use Rattle.std.proofs.Common.{◌≡◌, ◌<◌, ℕ, ◌+◌, ℤ, Bool, true, false, ◌||◌, is_some, refl, ◌∙◌, ap, inl, inr}
use Rattle.std.proofs.lemmas.Bool.{or_left, cases_Bool}
use Rattle.std.specs.FinMap as fin
use Rattle.osm_base.specs.Rank.{is_key}
use Rattle.osm_base.specs.declared.key.Kind.{Kind}
use Rattle.osm_base.specs.declared.key.Kind.TheVariants as kind
use Rattle.osm_base.specs.declared.key.Key.{Key}
use Rattle.osm_table.specs.Table.{TableValue, entry_of}
use Rattle.upload_order.specs.declared.change.Change.{Change}
use Rattle.upload_order.specs.declared.change.Change.TheVariants.{Create, Modify, Delete}
use Rattle.upload_order.specs.Rename.{Names, with_id, called}
use Rattle.upload_order.specs.World.{World, WorldEntry, after}
use Rattle.upload_order.proofs.Basics.{at_key_put, at_other}
use Rattle.server_world.specs.declared.starts.Starts.{Starts}
use Rattle.server_world.specs.Codes.{Objects}
use Rattle.server_world.specs.Free.{last_id, IsStart}
use Rattle.server_world.specs.Starts.{start_at, with_start, AreStarts, key_at, IsStartOf, AreStartsOf}
use Rattle.server_world.proofs.Freeness.{first_start, start_on}

-- what stands in a map stands after one more was put
still_some : (m : Objects) (k q : Key) (e : WorldEntry) → is_some (fin.get m q) ≡ true → is_some (fin.get (fin.insert m k e) q) ≡ true
still_some m k q e h = elim (cases_Bool (is_key q k)) [ inl i ↦ ap is_some (at_key_put m k q e i) | inr o ↦ ap is_some (at_other m k q e o) ∙ h ]

or_kept : (a b c : Bool) → (a ≡ true → c ≡ true) → (a || b) ≡ true → (c || b) ≡ true
or_kept true b c h e = ap (λ x. x || b) (h refl)
or_kept false b true h e = refl
or_kept false b false h e = e

-- so what is taken stays taken, and a start stays a start
put_start : (m : Objects) (k : Key) (e : WorldEntry) (a b : Names) (t : TableValue) (kind : Kind) (from : ℕ)
    → IsStart (record { entries = m; names = a }) t kind from → IsStart (record { entries = fin.insert m k e; names = b }) t kind from
put_start m k e a b t kind from s = record {
  least = s.least;
  most = s.most;
  below = λ n l g. or_kept (is_some (fin.get m (key_at kind n))) (is_some (entry_of t (key_at kind n))) (is_some (fin.get (fin.insert m k e) (key_at kind n))) (still_some m k (key_at kind n) e) (s.below n l g);
}

pub put_starts : (m : Objects) (k : Key) (e : WorldEntry) (s : Starts) → AreStartsOf m s → AreStartsOf (fin.insert m k e) s
put_starts m k e s h kind names t = put_start m k e names names t kind (start_at s kind) (h kind names t)

pub still_starts : (w : World) (t : TableValue) (c : Change) (p : ℤ) (s : Starts) → AreStarts w t s → AreStarts (after w c p) t s
still_starts w t (Create k c) p s h kind = put_start w.entries (with_id k p) _ w.names _ t kind (start_at s kind) (h kind)
still_starts w t (Modify k v c) p s h kind = put_start w.entries (called w.names k) _ w.names _ t kind (start_at s kind) (h kind)
still_starts w t (Delete k v) p s h kind = put_start w.entries (called w.names k) _ w.names _ t kind (start_at s kind) (h kind)

pub set_start : (w : World) (t : TableValue) (s : Starts) (kind : Kind) (id : ℕ) → AreStarts w t s → IsStart w t kind id → AreStarts w t (with_start s kind id)
set_start w t s kind.Node id h i kind.Node = i
set_start w t s kind.Node id h i kind.Way = h kind.Way
set_start w t s kind.Node id h i kind.Relation = h kind.Relation
set_start w t s kind.Way id h i kind.Node = h kind.Node
set_start w t s kind.Way id h i kind.Way = i
set_start w t s kind.Way id h i kind.Relation = h kind.Relation
set_start w t s kind.Relation id h i kind.Node = h kind.Node
set_start w t s kind.Relation id h i kind.Way = h kind.Way
set_start w t s kind.Relation id h i kind.Relation = i

pub first_starts : (w : World) (t : TableValue) → AreStarts w t (record { node = 1; way = 1; relation = 1 })
first_starts w t kind.Node = first_start w t kind.Node
first_starts w t kind.Way = first_start w t kind.Way
first_starts w t kind.Relation = first_start w t kind.Relation

pub first_starts_of : (m : Objects) → AreStartsOf m (record { node = 1; way = 1; relation = 1 })
first_starts_of m kind names t = first_starts (record { entries = m; names = names }) t kind

-- a start under which something stands can be passed
pub past_stands : (m : Objects) (kind : Kind) (id : ℕ) → IsStartOf m kind id → id < last_id → is_some (fin.get m (key_at kind id)) ≡ true → IsStartOf m kind (id + 1)
past_stands m kind id h less there names t =
    start_on (record { entries = m; names = names }) t kind id (h names t) less (or_left (is_some (fin.get m (key_at kind id))) (is_some (entry_of t (key_at kind id))) there)

-- a start for each kind
pub three_starts : (m : Objects) (node way relation : ℕ) → IsStartOf m kind.Node node → IsStartOf m kind.Way way → IsStartOf m kind.Relation relation → AreStartsOf m (record { node = node; way = way; relation = relation })
three_starts m node way relation n w r kind.Node = n
three_starts m node way relation n w r kind.Way = w
three_starts m node way relation n w r kind.Relation = r
