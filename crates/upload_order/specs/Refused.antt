-- Why a table is not sent.
use Rattle.std.specs.Prelude.{◌≡◌, ◌&&◌, Bool, true, not, is_some, if◌then◌else◌, Option, Some, None, Result, Ok, Err, List, [], ◌∷◌, length}
use Rattle.std.specs.List.{list_any, find, filter}
use Rattle.std.specs.Option.{option_map_or, option_map, option_or}
use Rattle.osm_base.specs.Content.{refers, refs_of}
use Rattle.osm_base.specs.RisingKeys.{is_in}
use Rattle.osm_base.specs.declared.key.Key.{Key}
use Rattle.osm_base.specs.declared.content.Content.{Content}
use Rattle.osm_table.specs.declared.entry.Entry.{Entry}
use Rattle.osm_table.specs.Table.{TableValue, conflict_of, entry_of, is_incomplete, keys_by_rank, mine_of}
use Rattle.upload_order.specs.declared.change.Change.{Change}
use Rattle.upload_order.specs.declared.refusal.PlanRefusal.{PlanRefusal}
use Rattle.upload_order.specs.declared.refusal.PlanRefusal.TheVariants.{Conflicts, IncompleteRef, Cyclic, Memory}
use Rattle.upload_order.specs.Counts.{put_where}
use Rattle.upload_order.specs.Kinds.{at_key, content_refers, held_list, held_of, is_sent}
use Rattle.upload_order.specs.Plan.{made, plan}

-- in conflict
abbrev pub is_open : Entry → Bool
is_open e = is_some (conflict_of e)

abbrev pub open_of : List Key → Option PlanRefusal
open_of [] = None
open_of (k ∷ ks) = Some (Conflicts (length (k ∷ ks)) k)

-- how many are in conflict, with the least
abbrev pub open_refusal : TableValue → Option PlanRefusal
open_refusal t = open_of (filter (at_key t is_open) (keys_by_rank t))

-- there is no content, or it refers to the key
abbrev pub keeps : Option Content → Key → Bool
keeps mine r = option_map_or (λ c. refers c r) mine true

-- An entry vouches for a key where its base refers to it, and so does its mine if it lives.
abbrev pub vouches : Entry → Key → Bool
vouches e r = content_refers (held_of e) r && option_map_or (λ c. refers c r) (mine_of e) true

-- an Incomplete key that no entry vouches for
abbrev pub is_loose : TableValue → Key → Bool
is_loose t r = at_key t is_incomplete r && not (list_any (at_key t (λ e. vouches e r)) (keys_by_rank t))

-- the first key's object doesn't live, or still refers to the second
abbrev pub keeps_at : TableValue → Key → Key → Bool
keeps_at t k r = at_key t (λ e. keeps (mine_of e) r) k

-- the Incomplete keys that objects vouch for, with others
abbrev pub vouched_among : TableValue → List Key → List Key → List Key
vouched_among t s [] = s
vouched_among t s (k ∷ ks) = vouched_among t (put_where (λ r. at_key t is_incomplete r && keeps_at t k r) s (held_list t k)) ks

-- the same test by those that are vouched for
abbrev pub is_loose_in : TableValue → List Key → Key → Bool
is_loose_in t vouched r = at_key t is_incomplete r && not (is_in r vouched)

abbrev pub refs_sent : Option Entry → List Key
refs_sent e = option_map_or (λ e. if is_sent e then option_map_or refs_of (mine_of e) [] else []) e []

-- the first object of which a reference is loose that is sent, with the first of these
abbrev pub loose_among : (Key → Bool) → TableValue → List Key → Option PlanRefusal
loose_among loose t [] = None
loose_among loose t (k ∷ ks) = option_or (option_map (IncompleteRef k) (find loose (refs_sent (entry_of t k)))) (loose_among loose t ks)

abbrev pub loose_refusal : TableValue → Option PlanRefusal
loose_refusal t = loose_among (is_loose t) t (keys_by_rank t)

abbrev pub stuck_of : List Key → Option PlanRefusal
stuck_of [] = None
stuck_of (k ∷ ks) = Some (Cyclic (k ∷ ks))

-- the new relations that refer to each other
abbrev pub stuck_refusal : TableValue → Option PlanRefusal
stuck_refusal t = stuck_of (made t).stuck

-- Why the table is not sent, if it isn't.
abbrev pub upload_refusal : TableValue → Option PlanRefusal
upload_refusal t = option_or (open_refusal t) (option_or (loose_refusal t) (stuck_refusal t))

-- The plan, or why there is none.
abbrev pub upload : TableValue → Result (List Change) PlanRefusal
upload t = option_map_or Err (upload_refusal t) (Ok (plan t))

-- what is answered, where memory is found
abbrev pub Gives : Result (List Change) PlanRefusal → Result (List Change) PlanRefusal → Type 0
Gives (Ok cs) answer = answer ≡ Ok cs
Gives (Err Memory) answer = Unit {0}
Gives (Err refusal) answer = answer ≡ Err refusal
