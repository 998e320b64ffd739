-- A rehearsal at the part of the server that the changes meet goes as at the whole server.
use Rattle.std.proofs.Common.{◌≡◌, ◌<◌, ℕ, ℤ, ◌+◌, List, None, Some, Ok, Option, refl, sym, ◌∙◌, ap, subst, get_or, drop, length}
use Rattle.std.specs.List.{AllByRecursion}
use Rattle.std.specs.Option.{option_map_or}
use Rattle.osm_base.specs.declared.key.Key.{Key}
use Rattle.osm_table.specs.Table.{TableValue}
use Rattle.dataset.specs.Sound.{IsSound}
use Rattle.upload_order.specs.declared.change.Change.{Change}
use Rattle.upload_order.specs.Refused.{upload}
use Rattle.upload_order.specs.World.{World, refusal, after, IsFresh}
use Rattle.upload_order.specs.Rename.{with_id}
use Rattle.upload_order.specs.declared.change.Change.TheVariants.{Create, Modify, Delete}
use Rattle.upload_order.specs.declared.world.WorldRefusal.{WorldRefusal}
use Rattle.server_world.specs.declared.rehearsal.Rehearsal.TheVariants.{Accepted, Refused}
use Rattle.server_world.specs.declared.starts.Starts.{Starts}
use Rattle.server_world.specs.Asked.{keys_met, of_those}
use Rattle.server_world.specs.Bases.{of_bases}
use Rattle.server_world.specs.Rehearsed.{rehearsed}
use Rattle.server_world.specs.Sent.{pick_for, after_sent}
use Rattle.server_world.specs.Starts.{AreStarts}
use Rattle.server_world.proofs.Covering.{met_cover, all_have_met, part_begins}
use Rattle.server_world.proofs.Partial.{Covers, HasMet, IsPart, absent_alike, pick_alike, starts_alike, refusal_alike, after_part}
use Rattle.server_world.proofs.Rehearsals.{Rehearses, begins, next_of, goes_on, stops, no_plan_stops}
use Rattle.server_world.proofs.Starting.{first_starts}

-- where a rehearsal at a part of the server stands: the whole server would stand so
pub record RehearsesPart (t : TableValue) (cs items : List Change) (i n : ℕ) (v : World) (s : Starts) : Type 0 where
  pub sound : IsSound t
  pub keys : List Key
  pub covers : Covers t keys
  pub whole : World
  pub part : IsPart t keys whole v
  pub met : AllByRecursion (HasMet t keys) (drop i items)
  pub starts : AreStarts v t s
  pub there : Rehearses t cs items i n whole s
  pub walked : items ≡ cs
  pub count : n ≡ i
  pub value : rehearsed t n whole (drop i items) ≡ rehearsed t 0 (of_bases t) cs

pub part_starts : (t : TableValue) (cs items : List Change) (v : World) (s : Starts) → IsSound t → items ≡ cs → v ≡ of_those t (keys_met t cs) → s ≡ record { node = 1; way = 1; relation = 1 } → RehearsesPart t cs items 0 0 v s
part_starts t cs items v s sound walked is first =
    let b : Rehearses t cs items 0 0 (of_bases t) s = begins t cs items (of_bases t) s sound walked refl first in
    record {
      sound = sound;
      keys = keys_met t cs;
      covers = met_cover t cs;
      whole = of_bases t;
      part = subst (IsPart t (keys_met t cs) (of_bases t)) (sym is) (part_begins t sound (keys_met t cs) (met_cover t cs));
      met = subst (AllByRecursion (HasMet t (keys_met t cs))) (sym walked) (all_have_met t cs);
      starts = subst (AreStarts v t) (sym first) (first_starts v t);
      there = b;
      walked = b.walked;
      count = b.count;
      value = b.value;
    }

module _ (t : TableValue) (cs items : List Change) (i n : ℕ) (v : World) (s : Starts) (c : Change) (less : i < length items) (is : c ≡ get_or items i c) (before : RehearsesPart t cs items i n v s) (fresh : IsFresh v t c (pick_for v t c)) where
  met_now : HasMet t before.keys c × AllByRecursion (HasMet t before.keys) (drop (i + 1) items)
  met_now = subst (AllByRecursion (HasMet t before.keys)) (next_of items i c less is) before.met

  picks : pick_for v t c ≡ pick_for before.whole t c
  picks = pick_alike t before.keys before.covers before.whole v before.part c

  same_refusal : refusal v c (pick_for v t c) ≡ refusal before.whole c (pick_for before.whole t c)
  same_refusal =
      refusal_alike t before.keys before.covers before.whole v before.part before.sound c (pick_for v t c) met_now.0 fresh
      ∙ ap (refusal before.whole c) picks

  fresh_by : (d : Change) (p : ℤ) → IsFresh v t d p → IsFresh before.whole t d p
  fresh_by (Create k x) p f = (f.0, sym (absent_alike t before.keys before.covers before.whole v before.part (with_id k p) f.2) ∙ f.1, f.2)
  fresh_by (Modify k m x) p f = f
  fresh_by (Delete k m) p f = f

  fresh_there : IsFresh before.whole t c (pick_for before.whole t c)
  fresh_there = subst (IsFresh before.whole t c) picks (fresh_by c (pick_for v t c) fresh)

  -- a change is accepted
  pub part_goes_on : (u : World) (r : Starts) → refusal v c (pick_for v t c) ≡ None → u ≡ after_sent v t c → AreStarts u t r → RehearsesPart t cs items (i + 1) (n + 1) u r
  part_goes_on u r none sent starts = record {
    sound = before.sound;
    keys = before.keys;
    covers = before.covers;
    whole = after_sent before.whole t c;
    part = next;
    met = met_now.1;
    starts = starts;
    there = on;
    walked = on.walked;
    count = on.count;
    value = on.value;
  } where
    none_there : refusal before.whole c (pick_for before.whole t c) ≡ None
    none_there = sym same_refusal ∙ none

    here : u ≡ after v c (pick_for v t c)
    here = sent ∙ ap (λ (o : Option WorldRefusal). option_map_or (λ why. v) o (after v c (pick_for v t c))) none

    there_is : after before.whole c (pick_for v t c) ≡ after_sent before.whole t c
    there_is = ap (after before.whole c) picks ∙ sym (ap (λ (o : Option WorldRefusal). option_map_or (λ why. before.whole) o (after before.whole c (pick_for before.whole t c))) none_there)

    next : IsPart t before.keys (after_sent before.whole t c) u
    next = subst (λ (x : World). IsPart t before.keys x u) there_is (subst (IsPart t before.keys (after before.whole c (pick_for v t c))) (sym here) (after_part t before.keys before.covers before.whole v before.part c (pick_for v t c) fresh))

    on : Rehearses t cs items (i + 1) (n + 1) (after_sent before.whole t c) r
    on = goes_on t cs items i n before.whole s c less is before.there (after_sent before.whole t c) r none_there fresh_there refl (starts_alike t before.keys before.covers (after_sent before.whole t c) u next r starts)

  same_reason : (why : WorldRefusal) → Some why ≡ refusal v c (pick_for v t c) → Some why ≡ refusal before.whole c (pick_for before.whole t c)
  same_reason why some = some ∙ same_refusal

  -- a change is refused
  pub part_stops : (why : WorldRefusal) → Some why ≡ refusal v c (pick_for v t c) → Refused (n + 1) why ≡ rehearsed t 0 (of_bases t) cs
  part_stops why some = stops t cs items i n before.whole s c less is before.there why (same_reason why some)

  pub no_plan_stops_part : (why : WorldRefusal) → Some why ≡ refusal v c (pick_for v t c) → upload t ≡ Ok cs → Refused (n + 1) why ≡ Accepted (length cs)
  no_plan_stops_part why some ok = no_plan_stops t cs items i n before.whole s c less is before.there why (same_reason why some) fresh_there ok
