-- Pieces of the definitions, by the names under which contracts and proofs speak of them. Who reads what is promised needs
-- none of them.
use Rattle.std.specs.Prelude.{ℕ, Bool, false, is_some, Option, Result, Ok, Err, List, [], ◌∷◌}
use Rattle.std.specs.List.{find}
use Rattle.std.specs.Option.{option_map_or, option_map, option_and_then}
use Rattle.osm_base.specs.Content.{refers}
use Rattle.osm_base.specs.declared.key.Key.{Key}
use Rattle.osm_base.specs.declared.content.Content.{Content}
use Rattle.osm_table.specs.Table.{TableValue, entry_of}
use Rattle.upload_order.specs.declared.change.Change.{Change}
use Rattle.upload_order.specs.declared.down.Down.{Down}
use Rattle.upload_order.specs.declared.down.Down.TheVariants.{Clear, Remove}
use Rattle.upload_order.specs.declared.refusal.PlanRefusal.{PlanRefusal}
use Rattle.upload_order.specs.declared.world.WorldRefusal.{WorldRefusal}
use Rattle.upload_order.specs.Fall.{Item}
use Rattle.upload_order.specs.Kinds.{at_key}
use Rattle.upload_order.specs.Order.{Peeled, behind, is_ready}
use Rattle.upload_order.specs.Refused.{refs_sent, vouches}
use Rattle.upload_order.specs.Run.{Ran, Stopped}
use Rattle.upload_order.specs.World.{World, WorldEntry, content_at}

abbrev pub content_in : Option WorldEntry → Option Content
content_in e = option_and_then (λ e. e.content) e

-- the reference has a name, under which a content stands
abbrev pub has_content : World → Option Key → Bool
has_content w q = is_some (option_and_then (content_at w) q)

abbrev pub entry_refers : Key → WorldEntry → Bool
entry_refers k e = option_map_or (λ c. refers c k) e.content false

abbrev pub user_among : List (Key × WorldEntry) → Key → Option Key
user_among es k = option_map (λ e. e.0) (find (λ e. entry_refers k e.1) es)

abbrev pub on_refusal : Option WorldRefusal → ℕ → Ran → Ran
on_refusal why n rest = option_map_or (Stopped n) why rest

abbrev pub vouches_at : TableValue → Key → Key → Bool
vouches_at t r k = at_key t (λ e. vouches e r) k

-- the first reference of what is sent that is loose
abbrev pub loose_of : (Key → Bool) → TableValue → Key → Option Key
loose_of loose t k = find loose (refs_sent (entry_of t k))

abbrev pub unless : Option PlanRefusal → List Change → Result (List Change) PlanRefusal
unless why cs = option_map_or Err why (Ok cs)

abbrev pub fall_clear : Option Item → (Key → List Down) → List Down
fall_clear found rest = option_map_or (λ i. Clear i.0 ∷ rest i.0) found []

abbrev pub fall_next : Option Item → (Key → List Down) → List Down → List Down
fall_next found gone other = option_map_or (λ i. Remove i.0 i.1 ∷ gone i.0) found other

abbrev pub whole : Key → Item
whole k = (k, false)

-- the least of those left that waits for none of them
abbrev pub next_ready : (Key → Key → Bool) → List Key → Option Key
next_ready needs left = find (is_ready needs left) left

abbrev pub peel_found : List Key → Option Key → (Key → Peeled) → Peeled
peel_found left found rest = option_map_or (λ k. behind k (rest k)) found (record { order = []; stuck = left })
