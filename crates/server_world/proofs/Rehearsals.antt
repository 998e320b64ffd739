-- Rehearsals: the world of the bases serves the plan, and what is accepted whatever is picked is never refused.
use Rattle.std.proofs.Common.{◌≡◌, ℕ, ◌+◌, Bool, true, false, cond, ◌&&◌, List, ◌∷◌, Option, Some, None, is_some, Result, Ok, Err, refl, sym, ◌∙◌, ap, subst, ◌<◌, suc, get_or, drop, drop-cons, add-one, length}
use Rattle.std.specs.List.{list_any}
use Rattle.std.specs.Option.{option_map_or}
use Rattle.std.specs.FinMap as fin
use Rattle.osm_base.specs.RisingKeys.{is_in}
use Rattle.osm_base.specs.Content.{refers}
use Rattle.osm_base.specs.declared.key.Kind.{Kind}
use Rattle.osm_base.specs.declared.key.Kind.TheVariants as kind
use Rattle.osm_base.specs.declared.key.Key.{Key}
use Rattle.osm_base.specs.declared.content.Content.{Content}
use Rattle.osm_table.specs.declared.entry.Base.TheVariants.{New, Live, Gone}
use Rattle.osm_table.specs.declared.entry.Entry.{Entry}
use Rattle.osm_table.specs.declared.entry.Entry.TheVariants.{Incomplete, Known}
use Rattle.osm_table.specs.Table.{TableValue, entry_of, version_of, is_incomplete, keys_by_rank}
use Rattle.dataset.specs.Sound.{IsSound}
use Rattle.upload_order.specs.declared.change.Change.{Change}
use Rattle.upload_order.specs.declared.refusal.PlanRefusal.{PlanRefusal}
use Rattle.upload_order.specs.Bases.{base_in, is_based}
use Rattle.upload_order.specs.Kinds.{held_of, held_at, held_refers, content_refers}
use Rattle.upload_order.specs.Plan.{plan}
use Rattle.upload_order.specs.Refused.{upload_refusal, upload}
use Rattle.upload_order.specs.Pieces.{unless, content_in}
use Rattle.upload_order.specs.Rename.{is_positive}
use Rattle.upload_order.specs.World.{World, WorldEntry, refusal, after, IsFresh, Holds, Alone, Accepts, Backs, IsEdited}
use Rattle.upload_order.proofs.Basics.{both}
use Rattle.upload_order.specs.declared.world.WorldRefusal.{WorldRefusal}
use Rattle.server_world.specs.declared.rehearsal.Rehearsal.{Rehearsal}
use Rattle.server_world.specs.declared.rehearsal.Rehearsal.TheVariants.{Accepted, Refused}
use Rattle.upload_order.proofs.Accepted.{plan_accepted}
use Rattle.upload_order.proofs.Sounds.{positive_is}
use Rattle.upload_order.proofs.Entries.{any_in}
use Rattle.upload_order.proofs.Lists.{any_of}
use Rattle.server_world.specs.declared.starts.Starts.{Starts}
use Rattle.server_world.specs.Bases.{of_entry, of_mention, is_mentioned, empty_content, of_bases}
use Rattle.server_world.specs.Sent.{pick_for, after_sent}
use Rattle.server_world.specs.Starts.{AreStarts}
use Rattle.server_world.specs.Rehearsed.{unless_refused, rehearsed}
use Rattle.server_world.proofs.Based.{bases_stand}
use Rattle.server_world.proofs.Starting.{first_starts}

-- the world of the bases has the bases
based_stands : (e : Entry) (m : Option WorldEntry) → is_based e ≡ true → of_entry m (Some e) ≡ Some (record { version = version_of (base_in e); content = held_of e })
based_stands Incomplete m h = cc
based_stands (Known New x d) m h = cc
based_stands (Known (Live v c i) x d) m h = refl
based_stands (Known (Gone v i) x d) m h = refl

pub bases_hold : (t : TableValue) → Holds (of_bases t) t
bases_hold t k e is based = bases_stand t k ∙ ap (of_entry (of_mention t k)) is ∙ based_stands e (of_mention t k) based

-- what isn't based there refers to nothing
pub empty_alone : (kind : Kind) (k : Key) → refers (empty_content kind) k ≡ false
empty_alone kind.Node k = refl
empty_alone kind.Way k = refl
empty_alone kind.Relation k = refl

mention_alone : (b : Bool) (kind : Kind) (k : Key) (c : Content) → content_in (cond b (Some (record { version = 1; content = Some (empty_content kind) })) None) ≡ Some c → refers c k ≡ false
mention_alone true kind k c h = ap (λ (x : Content). refers x k) (both c (empty_content kind) (Some c) refl (sym h)) ∙ empty_alone kind k
mention_alone false kind k c h = cc

other_alone : (o : Option Entry) (b : Bool) (kind : Kind) (k : Key) (c : Content) → option_map_or is_based o false ≡ false
    → content_in (of_entry (cond b (Some (record { version = 1; content = Some (empty_content kind) })) None) o) ≡ Some c → refers c k ≡ false
other_alone None b kind k c e h = mention_alone b kind k c h
other_alone (Some Incomplete) b kind k c e h = mention_alone b kind k c h
other_alone (Some (Known New x d)) b kind k c e h = cc
other_alone (Some (Known (Live v m i) x d)) b kind k c e h = cc
other_alone (Some (Known (Gone v i) x d)) b kind k c e h = cc

pub bases_alone : (t : TableValue) → Alone (of_bases t) t
bases_alone t q k c other has falls = other_alone (entry_of t q) (is_mentioned t q) q.kind k c other (ap content_in (sym (bases_stand t q)) ∙ has)

-- an Incomplete key to which a base refers has an empty content there
incomplete_is : (o : Option Entry) → option_map_or is_incomplete o false ≡ true → o ≡ Some Incomplete
incomplete_is None e = cc
incomplete_is (Some Incomplete) e = refl
incomplete_is (Some (Known b x d)) e = cc

pub bases_back : (t : TableValue) → IsSound t → Backs (of_bases t) t
bases_back t sound r incomplete user =
    let is : entry_of t r ≡ Some Incomplete = incomplete_is (entry_of t r) incomplete in
    let positive : is_positive r.id ≡ true = positive_is r.id (sound.entries r Incomplete is).id in
    let there : is_in user.0 (keys_by_rank t) ≡ true = sym (fin.contains_key-keys t.entries user.0) ∙ ap is_some user.3 in
    let refers_to : held_refers t user.0 r ≡ true = ap (λ (o : Option Entry). content_refers (held_at o) r) user.3 ∙ ap (λ (o : Option Content). content_refers o r) user.4 ∙ user.5 in
    let mentioned : is_mentioned t r ≡ true = ap (λ b. b && list_any (λ u. held_refers t u r) (keys_by_rank t)) positive ∙ any_of (λ u. held_refers t u r) (keys_by_rank t) user.0 (any_in (keys_by_rank t) user.0 there) refers_to in
    (empty_content r.kind, ap content_in (bases_stand t r ∙ ap (of_entry (of_mention t r)) is ∙ ap (λ b. cond b (Some (record { version = 1; content = Some (empty_content r.kind) })) None) mentioned))

changes_in : Result (List Change) PlanRefusal → List Change → List Change
changes_in (Ok cs) ds = cs
changes_in (Err r) ds = ds

planned : (o : Option PlanRefusal) (cs ds : List Change) → unless o cs ≡ Ok ds → (o ≡ None) × (cs ≡ ds)
unfolding changes_in
planned None cs ds e = (refl, ap (λ (r : Result (List Change) PlanRefusal). changes_in r cs) e)
planned (Some r) cs ds e = cc

-- the world of the bases accepts the plan
pub bases_accept : (t : TableValue) (cs : List Change) → IsSound t → upload t ≡ Ok cs → Accepts t (of_bases t) cs (IsEdited t (of_bases t))
bases_accept t cs sound is =
    let p = planned (upload_refusal t) (plan t) cs is in
    subst (λ (ds : List Change). Accepts t (of_bases t) ds (IsEdited t (of_bases t))) p.1
    (plan_accepted t (of_bases t) sound p.0 (bases_back t sound) (bases_hold t) (bases_alone t))

-- what was answered is the refusal
refused_is : (o : Option WorldRefusal) (why : WorldRefusal) (n : ℕ) (rest : Rehearsal) → Some why ≡ o → unless_refused o n rest ≡ Refused n why
refused_is None why n rest e = cc
refused_is (Some r) why n rest e = ap (Refused n) (sym (both why r (Some why) refl e))

-- where a rehearsal stands, with n changes accepted of those that it walks over
pub record Rehearses (t : TableValue) (cs items : List Change) (i n : ℕ) (w : World) (s : Starts) : Type 0 where
  pub walked : items ≡ cs
  pub count : n ≡ i
  pub starts : AreStarts w t s
  pub value : rehearsed t n w (drop i items) ≡ rehearsed t 0 (of_bases t) cs
  pub plan : upload t ≡ Ok cs → Accepts t w (drop i items) (IsEdited t (of_bases t))

pub next_of : (items : List Change) (i : ℕ) (c : Change) → i < length items → c ≡ get_or items i c → drop i items ≡ c ∷ drop (i + 1) items
next_of items i c less is = rw add-one (drop-cons items i c less ∙ ap (λ (y : Change). y ∷ drop (suc i) items) (sym is))

pub begins : (t : TableValue) (cs items : List Change) (w : World) (s : Starts) → IsSound t → items ≡ cs → w ≡ of_bases t → s ≡ record { node = 1; way = 1; relation = 1 } → Rehearses t cs items 0 0 w s
begins t cs items w s sound walked is first = record {
  walked = walked;
  count = refl;
  starts = subst (AreStarts w t) (sym first) (first_starts w t);
  value = λ i. rehearsed t 0 (is i) (walked i);
  plan = λ ok. subst (λ (v : World). Accepts t v items (IsEdited t (of_bases t))) (sym is) (subst (λ (xs : List Change). Accepts t (of_bases t) xs (IsEdited t (of_bases t))) (sym walked) (bases_accept t cs sound ok));
}

module _ (t : TableValue) (cs items : List Change) (i n : ℕ) (w : World) (s : Starts) (c : Change) (less : i < length items) (is : c ≡ get_or items i c) (before : Rehearses t cs items i n w s) where
  accepted_here : IsFresh w t c (pick_for w t c) → upload t ≡ Ok cs → (refusal w c (pick_for w t c) ≡ None) × Accepts t (after w c (pick_for w t c)) (drop (i + 1) items) (IsEdited t (of_bases t))
  accepted_here fresh ok = subst (λ (xs : List Change). Accepts t w xs (IsEdited t (of_bases t))) (next_of items i c less is) (before.plan ok) (pick_for w t c) fresh

  -- a change is accepted, and the rehearsal goes on
  pub goes_on : (v : World) (u : Starts) → refusal w c (pick_for w t c) ≡ None → IsFresh w t c (pick_for w t c) → v ≡ after_sent w t c → AreStarts v t u → Rehearses t cs items (i + 1) (n + 1) v u
  goes_on v u none fresh sent starts = record {
    walked = before.walked;
    count = ap (λ k. k + 1) before.count;
    starts = starts;
    value =
        ap (λ (x : World). rehearsed t (n + 1) x (drop (i + 1) items)) to
        ∙ sym (ap (λ (o : Option WorldRefusal). unless_refused o (n + 1) (rehearsed t (n + 1) (after w c (pick_for w t c)) (drop (i + 1) items))) none)
        ∙ ap (rehearsed t n w) (sym (next_of items i c less is)) ∙ before.value;
    plan = λ ok. subst (λ (x : World). Accepts t x (drop (i + 1) items) (IsEdited t (of_bases t))) (sym to) (accepted_here fresh ok).1;
  } where
    to : v ≡ after w c (pick_for w t c)
    to = sent ∙ ap (λ (o : Option WorldRefusal). option_map_or (λ why. w) o (after w c (pick_for w t c))) none

  -- a change is refused, and the rehearsal ends
  pub stops : (why : WorldRefusal) → Some why ≡ refusal w c (pick_for w t c) → Refused (n + 1) why ≡ rehearsed t 0 (of_bases t) cs
  stops why some =
      sym (refused_is (refusal w c (pick_for w t c)) why (n + 1) (rehearsed t (n + 1) (after w c (pick_for w t c)) (drop (i + 1) items)) some)
      ∙ ap (rehearsed t n w) (sym (next_of items i c less is)) ∙ before.value

  -- which no plan does
  pub no_plan_stops : (why : WorldRefusal) → Some why ≡ refusal w c (pick_for w t c) → IsFresh w t c (pick_for w t c) → upload t ≡ Ok cs → Refused (n + 1) why ≡ Accepted (length cs)
  no_plan_stops why some fresh ok = let no : Some why ≡ None = some ∙ (accepted_here fresh ok).0 in cc
