-- A server that takes changes one at a time.
use Rattle.std.specs.Prelude.{◌≡◌, ℕ, ◌+◌, nat_eq, ℤ, Bool, true, false, not, if◌then◌else◌, List, [], ◌∷◌, Option, Some, None, is_some, ◌⊎◌}
use Rattle.std.specs.List.{find}
use Rattle.std.specs.Option.{option_map, option_and_then}
use Rattle.std.specs.FinMap as fin
use Rattle.osm_base.specs.Rank.{rank_cmp}
use Rattle.osm_base.specs.Content.{refs_of, refers, fits}
use Rattle.osm_base.specs.declared.key.Key.{Key}
use Rattle.osm_base.specs.declared.content.Content.{Content}
use Rattle.osm_table.specs.declared.entry.Entry.{Entry}
use Rattle.osm_table.specs.Table.{TableValue, entry_of, mine_of, version_of, is_incomplete}
use Rattle.upload_order.specs.declared.change.Change.{Change}
use Rattle.upload_order.specs.declared.change.Change.TheVariants.{Create, Modify, Delete}
use Rattle.upload_order.specs.declared.world.WorldRefusal.{WorldRefusal}
use Rattle.upload_order.specs.declared.world.WorldRefusal.TheVariants.{Exists, Missing, OldVersion, BadRef, Used, Unfit}
use Rattle.upload_order.specs.Rename.{Names, meant, called, with_id, is_positive}
use Rattle.renamed_content.specs.Renamed.{renamed}
use Rattle.upload_order.specs.Kinds.{held_of, at_key, content_refers, is_falling, is_rising}
use Rattle.upload_order.specs.Bases.{base_in, is_based, IsHeldUser}

pub record WorldEntry : Type 0 where
  pub version : ℕ
  pub content : Option Content

pub record World : Type 0 where
  pub entries : fin.FinMap rank_cmp WorldEntry
  pub names : Names

abbrev pub stands : World → Key → Option WorldEntry
stands w k = fin.get w.entries k

abbrev pub content_at : World → Key → Option Content
content_at w k = option_and_then (λ e. e.content) (stands w k)

-- the number of a refusal in a reply
abbrev pub number_of : WorldRefusal → ℕ
number_of Exists = 1
number_of Missing = 2
number_of (OldVersion has) = 3
number_of (BadRef key) = 4
number_of (Used key) = 5
number_of Unfit = 6

-- the reference has a name, under which a content stands
abbrev pub reaches : World → Key → Bool
reaches w r = is_some (option_and_then (content_at w) (meant w.names r))

-- the first reference that has none
abbrev pub bad_ref : World → Content → Option Key
bad_ref w c = find (λ r. not (reaches w r)) (refs_of c)

-- the least object whose content refers to the key
abbrev pub user_of : World → Key → Option Key
user_of w k = option_map (λ e. e.0) (find (λ e. content_refers e.1.content k) (fin.entries w.entries))

abbrev pub on_content : World → Content → Option WorldRefusal
on_content w c = if fits c then option_map BadRef (bad_ref w c) else Some Unfit

abbrev pub on_modify : World → ℕ → Content → Option WorldEntry → Option WorldRefusal
on_modify w v c None = Some Missing
on_modify w v c (Some e) = if nat_eq e.version v then on_content w c else Some (OldVersion e.version)

abbrev pub on_delete : World → Key → ℕ → Option WorldEntry → Option WorldRefusal
on_delete w k v None = Some Missing
on_delete w k v (Some e) = if is_some e.content then (if nat_eq e.version v then option_map Used (user_of w k) else Some (OldVersion e.version)) else Some Missing

-- why the world refuses a change
abbrev pub refusal : World → Change → ℤ → Option WorldRefusal
refusal w (Create k c) picked = if is_some (stands w (with_id k picked)) then Some Exists else on_content w c
refusal w (Modify k v c) picked = on_modify w v c (stands w (called w.names k))
refusal w (Delete k v) picked = on_delete w (called w.names k) v (stands w (called w.names k))

abbrev pub put_in : World → Key → ℕ → Option Content → World
put_in w k v c = record { entries = fin.insert w.entries k (record { version = v; content = c }); names = w.names }

-- the world after a change that it accepts
abbrev pub after : World → Change → ℤ → World
after w (Create k c) picked = record (put_in w (with_id k picked) 1 (Some (renamed (called w.names) c))) { names = (k, picked) ∷ w.names }
after w (Modify k v c) picked = put_in w (called w.names k) (v + 1) (Some (renamed (called w.names) c))
after w (Delete k v) picked = put_in w (called w.names k) (v + 1) None

-- Each reference of a content that stands in the world stands in it with a content.
abbrev pub IsSoundWorld : World → Type 0
IsSoundWorld w = (q r : Key) (c : Content) → content_at w q ≡ Some c → refers c r ≡ true → (d : Content) × (content_at w r ≡ Some d)

-- The pick for a change is new to the world and to the table.
abbrev pub IsFresh : World → TableValue → Change → ℤ → Type 0
IsFresh w t (Create k c) p = (is_positive p ≡ true) × (stands w (with_id k p) ≡ None) × (entry_of t (with_id k p) ≡ None)
IsFresh w t c p = Unit {0}

-- The world has the bases of the table.
abbrev pub Holds : World → TableValue → Type 0
Holds w t = (k : Key) (e : Entry) → entry_of t k ≡ Some e → is_based e ≡ true → stands w k ≡ Some (record { version = version_of (base_in e); content = held_of e })

-- No other content refers to a falling key.
abbrev pub Alone : World → TableValue → Type 0
Alone w t = (q k : Key) (c : Content) → at_key t is_based q ≡ false → content_at w q ≡ Some c → at_key t is_falling k ≡ true → refers c k ≡ false

-- Whatever fresh ids are picked, the changes are accepted one by one, and of the last world P holds.
abbrev pub Accepts : TableValue → World → List Change → (World → Type 0) → Type 0
Accepts t w [] P = P w
Accepts t w (c ∷ cs) P = (p : ℤ) → IsFresh w t c p → (refusal w c p ≡ None) × Accepts t (after w c p) cs P

-- and each world on the way is sound
abbrev pub AcceptsSoundly : TableValue → World → List Change → (World → Type 0) → Type 0
AcceptsSoundly t w [] P = IsSoundWorld w × P w
AcceptsSoundly t w (c ∷ cs) P = IsSoundWorld w × ((p : ℤ) → IsFresh w t c p → (refusal w c p ≡ None) × AcceptsSoundly t (after w c p) cs P)

-- Each Incomplete key to which a base refers stands in the world with a content.
abbrev pub Backs : World → TableValue → Type 0
Backs w t = (r : Key) → at_key t is_incomplete r ≡ true → IsHeldUser t r → (d : Content) × (content_at w r ≡ Some d)

abbrev pub is_known : Entry → Bool
is_known e = not (is_incomplete e)

-- The world w has the data of the table, under the names that its keys were given; all else is as in w0.
pub record IsEdited (t : TableValue) (w0 w : World) : Type 0 where
  pub living : (k : Key) (e : Entry) (c : Content) → entry_of t k ≡ Some e → mine_of e ≡ Some c → (q : Key) × (meant w.names k ≡ Some q) × (content_at w q ≡ Some (renamed (called w.names) c))
  pub deleted : (k : Key) (e : Entry) → entry_of t k ≡ Some e → is_known e ≡ true → mine_of e ≡ None → content_at w k ≡ None
  pub others : (q : Key) → at_key t is_known q ≡ false → (stands w q ≡ stands w0 q) ⊎ ((k : Key) × (at_key t is_rising k ≡ true) × (meant w.names k ≡ Some q))
