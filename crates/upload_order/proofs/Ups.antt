-- A world accepts what is created and changed, in a good order.
use Rattle.std.proofs.Common.{◌≡◌, ℕ, ◌+◌, nat_eq, ℤ, Bool, true, false, cond, List, [], ◌∷◌, ◌++◌, map, Option, Some, None, is_some, refl, sym, ◌∙◌, ap, subst, inl, inr}
use Rattle.std.specs.Option.{option_map}
use Rattle.std.proofs.lemmas.Cmp.{nat_eq_equiv}
use Rattle.osm_base.specs.Rank.{is_key}
use Rattle.osm_base.specs.Content.{refers, fits}
use Rattle.osm_base.specs.declared.key.Key.{Key}
use Rattle.osm_base.specs.declared.content.Content.{Content}
use Rattle.osm_table.specs.declared.entry.Entry.{Entry}
use Rattle.osm_table.specs.declared.entry.Entry.TheVariants.{Incomplete, Known}
use Rattle.osm_table.specs.declared.entry.Base.{Base}
use Rattle.osm_table.specs.declared.entry.Base.TheVariants.{New, Live, Gone}
use Rattle.osm_table.specs.Table.{TableValue, entry_of, mine_of, version_of, is_new}
use Rattle.upload_order.specs.declared.change.Change.{Change}
use Rattle.upload_order.specs.declared.change.Change.TheVariants.{Create, Modify}
use Rattle.upload_order.specs.Rename.{named, called, with_id, is_positive}
use Rattle.renamed_content.specs.Renamed.{renamed}
use Rattle.upload_order.specs.Kinds.{held_of, at_key, is_rising}
use Rattle.upload_order.specs.World.{World, stands, bad_ref, refusal, on_content, on_modify, after, IsFresh, Accepts}
use Rattle.upload_order.specs.Local.{BacksSent}
use Rattle.upload_order.specs.declared.world.WorldRefusal.TheVariants.{BadRef, Exists, Unfit, OldVersion}
use Rattle.upload_order.proofs.Basics.{both}
use Rattle.upload_order.proofs.Static.{IsUp, IsOrdered, no_more, next, with_key}
use Rattle.upload_order.specs.Plan.{up_entry, up_of}
use Rattle.upload_order.proofs.Worlds.{no_bad_ref, grown, called_meant}
use Rattle.upload_order.proofs.Along.{Along, up_based, up_replaced, mine_known, means_itself, all_reached}
use Rattle.upload_order.proofs.AlongStep.{along_step}
use Rattle.upload_order.specs.Bases.{base_in}
use Rattle.upload_order.proofs.Conditions.{Sound}
use Rattle.osm_base.proofs.RisingKeys.{key_itself}
use Rattle.osm_base.proofs.Tests.{never}

-- the change that is sent of an object
pub up_case : (k : Key) (e : Entry) (c : Content) → mine_of e ≡ Some c → up_entry k (Some e) ≡ cond (is_new (base_in e)) (Create k c) (Modify k (version_of (base_in e)) c)
up_case k Incomplete c h = cc
up_case k (Known New None d) c h = cc
up_case k (Known (Live v b n) None d) c h = cc
up_case k (Known (Gone v n) None d) c h = cc
up_case k (Known New (Some x) d) c h = ap (λ (y : Content). Create k y) (both x c (Some x) refl h)
up_case k (Known (Live v b n) (Some x) d) c h = ap (λ (y : Content). Modify k v y) (both x c (Some x) refl h)
up_case k (Known (Gone v n) (Some x) d) c h = ap (λ (y : Content). Modify k v y) (both x c (Some x) refl h)

up_is : (t : TableValue) (k : Key) (e : Entry) (c : Content) → entry_of t k ≡ Some e → mine_of e ≡ Some c → up_of t k ≡ cond (is_new (base_in e)) (Create k c) (Modify k (version_of (base_in e)) c)
up_is t k e c h m = ap (up_entry k) h ∙ up_case k e c m

pub nat_self : (n : ℕ) → nat_eq n n ≡ true
nat_self n = nat_eq_equiv.refl n

pub fit_content : (w : World) (c : Content) → fits c ≡ true → bad_ref w c ≡ None → on_content w c ≡ None
fit_content w c f n = ap (λ b. cond b (option_map BadRef (bad_ref w c)) (Some Unfit)) f ∙ ap (option_map BadRef) n

pub accepts_more : (t : TableValue) (w : World) (cs ds : List Change) (P Q : World → Type 0) → Accepts t w cs P → ((v : World) → P v → Accepts t v ds Q) → Accepts t w (cs ++ ds) Q
accepts_more t w [] ds P Q a h = h w a
accepts_more t w (c ∷ cs) ds P Q a h = λ p f. let x = a p f in (x.0, accepts_more t (after w c p) cs ds P Q x.1 h)

pub accepts_weaker : (t : TableValue) (w : World) (cs : List Change) (P Q : World → Type 0) → Accepts t w cs P → ((v : World) → P v → Q v) → Accepts t w cs Q
accepts_weaker t w [] P Q a h = h w a
accepts_weaker t w (c ∷ cs) P Q a h = λ p f. let x = a p f in (x.0, accepts_weaker t (after w c p) cs P Q x.1 h)

new_version : (b : Base) → is_new b ≡ true → version_of b + 1 ≡ 1
new_version New h = refl
new_version (Live v c m) h = cc
new_version (Gone v m) h = cc

pub same_version : (w : World) (v : ℕ) (c : Content) (d : Option Content) → on_content w c ≡ None → on_modify w v c (Some (record { version = v; content = d })) ≡ None
same_version w v c d n = ap (λ b. cond b (on_content w c) (Some (OldVersion v))) (nat_self v) ∙ n

skip_name : (positive same : Bool) (i p : ℤ) (o : Option ℤ) → same ≡ false → cond positive (Some i) (cond same (Some p) o) ≡ cond positive (Some i) o
skip_name true same i p o e = refl
skip_name false true i p o e = cc
skip_name false false i p o e = refl

first_name : (k : Key) (positive same : Bool) (p : ℤ) (o : Option ℤ) → positive ≡ false → same ≡ true → option_map (with_id k) (cond positive (Some k.id) (cond same (Some p) o)) ≡ Some (with_id k p)
first_name k true same p o e f = cc
first_name k false false p o e f = cc
first_name k false true p o e f = refl

module _ (t : TableValue) (s : Sound t) (w0 : World) (backs : BacksSent w0 t) where
  -- what one change to the mine of a key is followed by
  module _ (w : World) (done : Key → Bool) (a : Along t w0 w done) (k : Key) (e : Entry) (c : Content) (up : IsUp t k e c) (free : done k ≡ false)
      (before : (r : Key) → refers c r ≡ true → at_key t is_rising r ≡ true → done r ≡ true) where
    content_ok : on_content w c ≡ None
    content_ok = fit_content w c (s.fit k e c up.entry up.mine up.up) (no_bad_ref w c (all_reached t s w0 w backs done a k e c up before))

    abbrev One : Change → Type 0
    One change = (p : ℤ) → IsFresh w t change p → (refusal w change p ≡ None) × Along t w0 (after w change p) (with_key k done)

    created : is_new (base_in e) ≡ true → One (Create k c)
    created n p f =
        let ok : refusal w (Create k c) p ≡ None = ap (λ o. cond (is_some o) (Some Exists) (on_content w c)) f.1 ∙ content_ok in
        let q = with_id k p in
        let ns = (k, p) ∷ w.names in
        let one = sym (new_version (base_in e) n) in
        let along = along_step t w0 w done a k e c up free before q ns
        (first_name k (is_positive k.id) (is_key k k) p (named w.names k) (s.negative k e up.entry n (mine_known e c up.mine)).0 (key_itself k))
        (λ j h. skip_name (is_positive j.id) (is_key j k) j.id p (named w.names j) (h n))
        (inl (n, f.2)) (λ _. f.1) in
        (ok, subst (λ (m : ℕ). Along t w0 (grown w ns q m (renamed (called w.names) c)) (with_key k done)) (sym one) along)

    changed : is_new (base_in e) ≡ false → One (Modify k (version_of (base_in e)) c)
    changed n p f =
        let based = up_based e c up.mine n in
        let means = means_itself w.names k (s.positive k e up.entry (inr based)) in
        let self : called w.names k ≡ k = called_meant w.names k k means in
        let ok : refusal w (Modify k (version_of (base_in e)) c) p ≡ None =
        ap (on_modify w (version_of (base_in e)) c) (ap (stands w) self ∙ a.waiting k e up.entry (up_replaced e c up.mine up.up n) free) ∙ same_version w (version_of (base_in e)) c (held_of e) content_ok in
        let along = along_step t w0 w done a k e c up free before k w.names means (λ j h. refl) (inr (n, refl)) (λ g. never (is_new (base_in e)) g n) in
        (ok, subst (λ (x : Key). Along t w0 (grown w w.names x (version_of (base_in e) + 1) (renamed (called w.names) c)) (with_key k done)) (sym self) along)

    pick_change : (b : Bool) → is_new (base_in e) ≡ b → One (cond b (Create k c) (Modify k (version_of (base_in e)) c))
    pick_change true n = created n
    pick_change false n = changed n

    one_up : One (up_of t k)
    one_up = subst One (sym (up_is t k e c up.entry up.mine)) (pick_change (is_new (base_in e)) refl)

  -- The world accepts the changes of keys in a good order.
  pub ups_accepted : (done last : Key → Bool) (ks : List Key) → IsOrdered t done ks last → (w : World) → Along t w0 w done → Accepts t w (map (up_of t) ks) (λ w1. Along t w0 w1 last)
  ups_accepted done last ks (no_more d) w a = a
  ups_accepted done last ks (next d l k js e c up free before rest) w a = λ p f.
      let x = one_up w d a k e c up free before p f in
      (x.0, ups_accepted (with_key k d) l js rest (after w (up_of t k) p) x.1)
