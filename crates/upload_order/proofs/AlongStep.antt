-- One object that is created or changed.
use Rattle.std.proofs.Common.{◌≡◌, ◌+◌, Bool, true, false, cond, Some, None, refl, sym, ◌∙◌, ap, subst, inl, inr}
use Rattle.std.proofs.lemmas.Bool.{cases_Bool}
use Rattle.std.specs.Option.{option_map, unwrap_or}
use Rattle.osm_base.specs.Rank.{is_key}
use Rattle.osm_base.specs.Content.{refers}
use Rattle.osm_base.specs.declared.key.Key.{Key}
use Rattle.osm_base.specs.declared.content.Content.{Content}
use Rattle.osm_table.specs.declared.entry.Entry.{Entry}
use Rattle.osm_table.specs.Table.{TableValue, entry_of, mine_of, version_of, is_new}
use Rattle.upload_order.specs.Rename.{Names, id_meant, meant, called, with_id}
use Rattle.renamed_content.specs.Renamed.{renamed}
use Rattle.upload_order.specs.World.{World, WorldEntry, stands}
use Rattle.upload_order.proofs.Basics.{key_same, both, none_some, with_more}
use Rattle.upload_order.proofs.Renaming.{renamed_same}
use Rattle.upload_order.proofs.Static.{IsUp, with_key}
use Rattle.upload_order.proofs.Worlds.{grown, at_grown, off_grown}
use Rattle.upload_order.proofs.Along.{Along, IsPut, IsPlace, up_replaced, at_is, new_rising}
use Rattle.upload_order.specs.Kinds.{at_key, is_rising}
use Rattle.upload_order.specs.Bases.{base_in}
use Rattle.upload_order.specs.Local.{is_replaced}
use Rattle.osm_base.proofs.RisingKeys.{one_key, key_itself}
use Rattle.osm_base.proofs.Tests.{never}

with_on : (k x : Key) (done : Key → Bool) → is_key x k ≡ true → with_key k done x ≡ true
with_on k x done e = ap (λ b. cond b true (done x)) e

with_off : (b d r : Bool) → b ≡ false → cond b true d ≡ r → d ≡ r
with_off true d r f e = cc
with_off false d r f e = e

not_with : (b d : Bool) → cond b true d ≡ false → (b ≡ false) × (d ≡ false)
not_with true d e = cc
not_with false d e = (refl, e)

module _ (t : TableValue) (w0 w : World) (done : Key → Bool) (a : Along t w0 w done) (k : Key) (e : Entry) (c : Content) (up : IsUp t k e c) (free : done k ≡ false)
    (before : (r : Key) → refers c r ≡ true → at_key t is_rising r ≡ true → done r ≡ true)
    (q : Key) (ns : Names) (means : meant ns k ≡ Some q) (names : (j : Key) → (is_new (base_in e) ≡ true → is_key j k ≡ false) → id_meant ns j ≡ id_meant w.names j)
    (which : IsPlace t k e q) (empty : is_new (base_in e) ≡ true → stands w q ≡ None) where
  abbrev then_world : World
  then_world = grown w ns q (version_of (base_in e) + 1) (renamed (called w.names) c)

  same_called : (j : Key) → (is_new (base_in e) ≡ true → is_key j k ≡ false) → called w.names j ≡ called ns j
  same_called j h = ap (λ o. with_id j (unwrap_or o j.id)) (sym (names j h))

  -- what is done is not k
  done_apart : (x : Key) → done x ≡ true → is_key x k ≡ false
  done_apart x d = elim (cases_Bool (is_key x k)) [ inl h ↦ never (done x) d (ap done (one_key x k h) ∙ free) | inr h ↦ h ]

  -- a content that is done keeps its names
  same_refs : (d : Content) → ((r : Key) → refers d r ≡ true → at_key t is_rising r ≡ true → done r ≡ true) → renamed (called w.names) d ≡ renamed (called ns) d
  same_refs d h = renamed_same (called w.names) (called ns) d (λ r t2. same_called r (λ n.
      elim (cases_Bool (is_key r k)) [
        | inl i ↦ (let same : r ≡ k = one_key r k i in never (done k) (subst (λ (x : Key). done x ≡ true) same (h r t2 (at_is t is_rising r e true (ap (entry_of t) same ∙ up.entry) (new_rising e c up.mine n)))) free)
        | inr i ↦ i
      ]))

  put_here : IsPut t then_world k e c
  put_here = record {
    place = q;
    means = means;
    stood = at_grown w ns q _ _ q (key_itself q) ∙ ap (λ (d : Content). let y : WorldEntry = record { version = version_of (base_in e) + 1; content = Some d } in Some y) (same_refs c before);
    which = which;
  }

  here : (P : Key → Entry → Content → Type 0) → P k e c → (x : Key) (f : Entry) (d : Content) → is_key x k ≡ true → IsUp t x f d → P x f d
  here P p x f d i u =
      let same : x ≡ k = one_key x k i in
      let fe : e ≡ f = both e f (entry_of t k) up.entry (ap (entry_of t) (sym same) ∙ u.entry) in
      let cd : c ≡ d = both c d (mine_of f) (ap mine_of (sym fe) ∙ up.mine) u.mine in
      subst (λ (y : Key). P y f d) (sym same) (subst (λ (y : Entry). P k y d) fe (subst (λ (y : Content). P k e y) cd p))

  -- another object that is done stands elsewhere
  elsewhere : (x : Key) (f : Entry) (d : Content) (b : IsPut t w x f d) → is_key x k ≡ false → is_key b.place q ≡ false
  elsewhere x f d b n =
      elim (cases_Bool (is_key b.place q)) [
        | inl i ↦ (
            let same : b.place ≡ q = one_key b.place q i in
            elim which [
              | inl new ↦ none_some _ (stands w q) (empty new.0) (ap (stands w) (sym same) ∙ b.stood)
              | inr old ↦ (
                  elim b.which [
                    | inl picked ↦ none_some e (entry_of t b.place) picked.1 (ap (entry_of t) (same ∙ old.1) ∙ up.entry)
                    | inr kept ↦ never (is_key x k) (key_same x k (sym kept.1 ∙ same ∙ old.1)) n
                  ])
            ])
        | inr i ↦ i
      ]

  put_there : (x : Key) (f : Entry) (d : Content) → done x ≡ true → IsUp t x f d → IsPut t then_world x f d
  put_there x f d h u =
      let b = a.put x f d h u in
      record {
        place = b.place;
        means = ap (option_map (with_id x)) (names x (λ _. done_apart x h)) ∙ b.means;
        stood = off_grown w ns q _ _ b.place (elsewhere x f d b (done_apart x h)) ∙ b.stood ∙ ap (λ (y : Content). let z : WorldEntry = record { version = version_of (base_in f) + 1; content = Some y } in Some z) (same_refs d (λ r t2 i. a.closed x r f d h u t2 i));
        which = b.which;
      }

  pub along_step : Along t w0 then_world (with_key k done)
  along_step = record {
    ups = λ x h. elim (cases_Bool (is_key x k)) [
      | inl i ↦ subst (λ (y : Key). (f : Entry) × (d : Content) × IsUp t y f d) (sym (one_key x k i)) (e, c, up)
      | inr n ↦ a.ups x (with_off (is_key x k) (done x) true n h)
    ];
    closed = λ x r f d h u t2 i. with_more (is_key r k) (done r) (elim (cases_Bool (is_key x k)) [
      | inl j ↦ here (λ y f d. refers d r ≡ true → done r ≡ true) (λ g. before r g i) x f d j u t2
      | inr n ↦ a.closed x r f d (with_off (is_key x k) (done x) true n h) u t2 i
    ]);
    put = λ x f d h u. elim (cases_Bool (is_key x k)) [
      | inl j ↦ here (λ y f d. IsPut t then_world y f d) put_here x f d j u
      | inr n ↦ put_there x f d (with_off (is_key x k) (done x) true n h) u
    ];
    waiting = λ x f h b n.
        let o = not_with (is_key x k) (done x) n in
        let apart : is_key x q ≡ false =
        elim (cases_Bool (is_key x q)) [
          | inl i ↦ (elim which [
            | inl new ↦ none_some f (entry_of t q) new.1 (ap (entry_of t) (sym (one_key x q i)) ∙ h)
            | inr old ↦ never (is_key x k) (key_same x k (one_key x q i ∙ old.1)) o.0
          ])
          | inr i ↦ i
        ] in
        off_grown w ns q _ _ x apart ∙ a.waiting x f h b o.1;
    others = λ x n. elim (a.others x n) [
      | inl same ↦ (elim (cases_Bool (is_key x q)) [
        | inl i ↦ (elim which [
          | inl new ↦ inr (record { old = k; entry = e; content = c; is_up = up; was_new = new.0; is_done = with_on k k done (key_itself k); means = means ∙ ap (λ (y : Key). Some y) (sym (one_key x q i)) })
          | inr old ↦ never (at_key t is_replaced x) (at_is t is_replaced x e true (ap (entry_of t) (one_key x q i ∙ old.1) ∙ up.entry) (up_replaced e c up.mine up.up old.0)) n
        ])
        | inr i ↦ inl (off_grown w ns q _ _ x i ∙ same)
      ])
      | inr pick ↦ inr (record {
        old = pick.old;
        entry = pick.entry;
        content = pick.content;
        is_up = pick.is_up;
        was_new = pick.was_new;
        is_done = with_more (is_key pick.old k) (done pick.old) pick.is_done;
        means = ap (option_map (with_id pick.old)) (names pick.old (λ _. done_apart pick.old pick.is_done)) ∙ pick.means;
      })
    ];
  }
