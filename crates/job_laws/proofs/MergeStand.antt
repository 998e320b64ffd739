-- After a merge each reference of a living entry stands, and is living or Incomplete.
use Rattle.std.proofs.Common.{◌≡◌, ◌&&◌, ◌||◌, Bool, true, false, not, List, length, Option, Some, None, is_some, cond, refl, sym, ◌∙◌, ap, subst, inl, inr, ◌⊎◌}
use Rattle.std.specs.Option.{option_map}
use Rattle.std.proofs.lemmas.Bool.{or_cases, or_left, or_right, and_parts, and_from, true≢false}
use Rattle.osm_base.specs.Rank.{is_key}
use Rattle.osm_base.specs.Content.{refers}
use Rattle.osm_base.proofs.RisingKeys.{one_key, key_itself}
use Rattle.osm_base.specs.declared.key.Key.{Key}
use Rattle.osm_base.specs.declared.content.Content.{Content}
use Rattle.osm_table.specs.declared.entry.Base.{Base}
use Rattle.osm_table.specs.declared.entry.Why.{Why}
use Rattle.osm_table.specs.declared.entry.Why.TheVariants.{Held}
use Rattle.osm_table.specs.declared.entry.Entry.{Entry}
use Rattle.osm_table.specs.declared.entry.Entry.TheVariants.{Incomplete, Known}
use Rattle.osm_table.specs.Table.{held_by, known_base, IsThere}
use Rattle.dataset.specs.Exact.{mine_at}
use Rattle.closure.specs.Closure.{has, least, rounds, by_chains}
use Rattle.closure.proofs.Least.{kept_from}
use Rattle.closure.proofs.Chains.{some_of, any_of, by_start, by_lead, each_in}
use Rattle.tool_api.specs.Staged.{Staged, lost_of, refers_by, back, against, bared}
use Rattle.tool_api.specs.Merged.{firm_content, lost_content, candidate_content, named_by_firm, named_by_wanted, named_by_held, wanted_start, wanted_leads, wanted, held_start, held_leads, held, named, final}

-- plain facts of one entry
pub there_if_mine : (o : Option Entry) → is_some (mine_at o) ≡ true → IsThere o
there_if_mine None h = absurd (true≢false (sym h))
there_if_mine (Some Incomplete) h = tt
there_if_mine (Some (Known b None f)) h = absurd (true≢false (sym h))
there_if_mine (Some (Known b (Some c) f)) h = refl

held_mine : (w : Why) (b : Base) (o : Option Entry) → mine_at (option_map (against w b) o) ≡ mine_at o
held_mine w b None = refl
held_mine w b (Some Incomplete) = refl
held_mine w b (Some (Known a m f)) = refl

lost_mine : (o : Option Entry) → is_some (lost_of o) ≡ true → mine_at (option_map back o) ≡ lost_of o
lost_mine None h = absurd (true≢false (sym h))
lost_mine (Some Incomplete) h = absurd (true≢false (sym h))
lost_mine (Some (Known b None f)) h = refl
lost_mine (Some (Known b (Some c) f)) h = absurd (true≢false (sym h))

bared_mine : (n : Bool) (o : Option Entry) (c : Content) → mine_at (bared n o) ≡ Some c → mine_at o ≡ Some c
bared_mine true None c h = h
bared_mine false None c h = h
bared_mine n (Some Incomplete) c h = h
bared_mine n (Some (Known b (Some m) f)) c h = h
bared_mine n (Some (Known b None f)) c h = by (n && not (is_some (held_by (known_base b f)))) h
  where
    by : (t : Bool) → mine_at (cond t (Some Incomplete) (Some (Known b None f))) ≡ Some c → mine_at (Some (Known b None f)) ≡ Some c
    by true e = e
    by false e = e

bared_there : (o : Option Entry) → (is_some (lost_of o) ≡ true → ⊥) → IsThere (bared true o)
bared_there None h = tt
bared_there (Some Incomplete) h = tt
bared_there (Some (Known b (Some m) f)) h = refl
bared_there (Some (Known b None f)) h = by (is_some (held_by (known_base b f))) h
  where
    by : (t : Bool) → (t ≡ true → ⊥) → IsThere (cond (not t) (Some Incomplete) (Some (Known b None f)))
    by true g = absurd (g refl)
    by false g = tt

-- what is there stays, and so does all that isn't named
pub bared_kept : (n : Bool) (o : Option Entry) → IsThere o → bared n o ≡ o
bared_kept n None h = absurd h
bared_kept n (Some Incomplete) h = refl
bared_kept n (Some (Known b None f)) h = absurd (true≢false (sym h))
bared_kept n (Some (Known b (Some c) f)) h = refl

pub bared_none : (o : Option Entry) → bared false o ≡ o
bared_none None = refl
bared_none (Some Incomplete) = refl
bared_none (Some (Known b None f)) = refl
bared_none (Some (Known b (Some c) f)) = refl

by_content : (o : Option Content) (c : Content) (r : Key) → o ≡ Some c → refers c r ≡ true → refers_by o r ≡ true
by_content None c r e h = absurd (let f : is_some {T = Content} None ≡ true = ap is_some e in true≢false (sym f))
by_content (Some d) c r e h = subst (λ (o : Option Content). refers_by o r ≡ true) (sym e) h

living : (o : Option Entry) (c : Content) → mine_at o ≡ Some c → is_some o ≡ true
living None c e = ap is_some e
living (Some x) c e = refl

lost_is : (o : Option Entry) → is_some (lost_of o) ≡ true → is_some o ≡ true
lost_is None h = h
lost_is (Some x) h = refl

pub mine_is : (o : Option Entry) → is_some (mine_at o) ≡ true → is_some o ≡ true
mine_is None h = h
mine_is (Some x) h = refl

-- a reference of a content that a test lets through is one of the content
off : (b : Bool) (o : Option Content) (r : Key) → refers_by (cond b None o) r ≡ true → refers_by o r ≡ true
off true o r h = absurd (true≢false (sym h))
off false o r h = h

on : (b : Bool) (o : Option Content) (r : Key) → refers_by (cond b o None) r ≡ true → refers_by o r ≡ true
on true o r h = h
on false o r h = absurd (true≢false (sym h))

-- a least set is one of keys of its list
in_least : (rule : List Key → Key → Bool) (all : List Key) (k : Key) → has is_key (least is_key rule all) k ≡ true → has is_key all k ≡ true
in_least rule all k h = (kept_from is_key key_itself one_key (λ j. has is_key (rounds is_key rule all (length all)) j || rule (rounds is_key rule all (length all)) j) all k h).0

-- What a staged entry becomes in the end, by whether it is a candidate, held, wanted and named.
abbrev pub settled : Bool → Bool → Bool → Bool → Base → Option Entry → Option Entry
settled candidate held wanted named theirs entry = cond candidate (cond held (option_map (against Held theirs) entry) (Some (Known theirs None None))) (cond wanted (option_map back entry) (bared named entry))

module _ (stage : Key → Staged) (keys : List Key) where
  -- what the cases leave of a sound table
  pub record Fits : Type 0 where
    pub covers : (k : Key) → is_some (stage k).entry ≡ true → has is_key keys k ≡ true
    pub alive : (k : Key) → (stage k).candidate ≡ true → is_some (mine_at (stage k).entry) ≡ true
    -- a candidate's content is the table's, so no object that it refers to was lost before
    pub kept : (j k : Key) → refers_by (candidate_content stage keys j) k ≡ true → is_some (lost_content stage keys k) ≡ true → ⊥

  -- who names the key
  pub Named : Key → Type 0
  Named k = (named_by_firm stage keys k ≡ true) ⊎ ((named_by_wanted stage keys k ≡ true) ⊎ (named_by_held stage keys k ≡ true))

  named_so : (k : Key) → Named k → named stage keys k ≡ true
  unfolding Named
  named_so k (inl e) = or_left _ _ e
  named_so k (inr (inl e)) = or_right _ _ (or_left _ _ e)
  named_so k (inr (inr e)) = or_right _ _ (or_right _ _ e)

  -- one that refers to the key, by its content or by the one that was lost
  abbrev pub Namer : Key → Type 0
  Namer k = (j : Key) × (has is_key keys j ≡ true) × ((refers_by (mine_at (stage j).entry) k ≡ true) ⊎ (refers_by (lost_of (stage j).entry) k ≡ true))

  firm_namer : (k : Key) → named_by_firm stage keys k ≡ true → Namer k
  firm_namer k h = let s = some_of is_key key_itself one_key (λ j. refers_by (firm_content stage keys j) k) keys h in (s.0, s.1, inl (off (stage s.0).candidate (mine_at (stage s.0).entry) k s.2))

  wanted_namer : (k : Key) → named_by_wanted stage keys k ≡ true → Namer k
  wanted_namer k h =
      let s = some_of is_key key_itself one_key (λ j. refers_by (lost_content stage keys j) k) (wanted stage keys) h in
      (s.0, in_least (by_chains (wanted_start stage keys) (wanted_leads stage keys)) keys s.0 s.1, inr (off (stage s.0).candidate (lost_of (stage s.0).entry) k s.2))

  held_namer : (k : Key) → named_by_held stage keys k ≡ true → Namer k
  held_namer k h =
      let s = some_of is_key key_itself one_key (λ j. refers_by (candidate_content stage keys j) k) (held stage keys) h in
      (s.0, in_least (by_chains (held_start stage keys) (held_leads stage keys)) keys s.0 s.1, inl (on (stage s.0).candidate (mine_at (stage s.0).entry) k s.2))

  -- what is named has such a one
  pub namer : (k : Key) → named stage keys k ≡ true → Namer k
  namer k h = by (or_cases (named_by_firm stage keys k) (named_by_wanted stage keys k || named_by_held stage keys k) h)
    where
      late : (named_by_wanted stage keys k ≡ true) ⊎ (named_by_held stage keys k ≡ true) → Namer k
      late (inl e) = wanted_namer k e
      late (inr e) = held_namer k e

      by : (named_by_firm stage keys k ≡ true) ⊎ ((named_by_wanted stage keys k || named_by_held stage keys k) ≡ true) → Namer k
      by (inl e) = firm_namer k e
      by (inr e) = late (or_cases (named_by_wanted stage keys k) (named_by_held stage keys k) e)

  pub wanted_lost : (k : Key) → has is_key (wanted stage keys) k ≡ true → is_some (lost_content stage keys k) ≡ true
  wanted_lost = each_in is_key key_itself one_key (wanted_start stage keys) (wanted_leads stage keys) keys (λ k. is_some (lost_content stage keys k) ≡ true)
      (λ k e. (and_parts _ _ e).0) (λ j k p e. (and_parts _ _ e).0)

  module _ (fits : Fits) where
    pub in_keys : (k : Key) → is_some (lost_content stage keys k) ≡ true → has is_key keys k ≡ true
    in_keys k h = by (stage k).candidate refl h
      where
        by : (b : Bool) → (stage k).candidate ≡ b → is_some (cond b None (lost_of (stage k).entry)) ≡ true → has is_key keys k ≡ true
        by true e g = absurd (true≢false (sym g))
        by false e g = fits.covers k (lost_is (stage k).entry g)

    pub candidate_in : (k : Key) → (stage k).candidate ≡ true → has is_key keys k ≡ true
    candidate_in k c = fits.covers k (mine_is (stage k).entry (fits.alive k c))

    -- a lost object that is named is wanted, but for one that only a held candidate names, and there is none
    lost_wanted : (k : Key) → is_some (lost_content stage keys k) ≡ true → Named k → has is_key (wanted stage keys) k ≡ true
    unfolding Named
    lost_wanted k h (inl e) = by_start is_key key_itself one_key (wanted_start stage keys) (wanted_leads stage keys) keys k (in_keys k h) (and_from _ _ h e)
    lost_wanted k h (inr (inl e)) =
        let s = some_of is_key key_itself one_key (λ j. refers_by (lost_content stage keys j) k) (wanted stage keys) e in
        by_lead is_key key_itself one_key (wanted_start stage keys) (wanted_leads stage keys) keys s.0 k (in_keys k h) s.1 (and_from _ _ h s.2)
    lost_wanted k h (inr (inr e)) =
        let s = some_of is_key key_itself one_key (λ j. refers_by (candidate_content stage keys j) k) (held stage keys) e in
        absurd (fits.kept s.0 k s.2 h)

    named_held : (k : Key) → (stage k).candidate ≡ true → Named k → has is_key (held stage keys) k ≡ true
    unfolding Named
    named_held k c (inl e) = by_start is_key key_itself one_key (held_start stage keys) (held_leads stage keys) keys k (candidate_in k c) (and_from _ _ c (or_left _ _ e))
    named_held k c (inr (inl e)) = by_start is_key key_itself one_key (held_start stage keys) (held_leads stage keys) keys k (candidate_in k c) (and_from _ _ c (or_right _ _ e))
    named_held k c (inr (inr e)) =
        let s = some_of is_key key_itself one_key (λ j. refers_by (candidate_content stage keys j) k) (held stage keys) e in
        by_lead is_key key_itself one_key (held_start stage keys) (held_leads stage keys) keys s.0 k (candidate_in k c) s.1 (and_from _ _ c s.2)

    -- what a living entry refers to is named
    names : (k r : Key) (c : Content) → mine_at (final stage keys k) ≡ Some c → refers c r ≡ true → Named r
    unfolding Named
    names k r c m h = by (stage k).candidate (has is_key (held stage keys) k) (has is_key (wanted stage keys) k) refl refl refl m
      where
        x : Option Entry
        x = (stage k).entry

        by : (a b d : Bool) → (stage k).candidate ≡ a → has is_key (held stage keys) k ≡ b → has is_key (wanted stage keys) k ≡ d
            → mine_at (settled a b d (named stage keys k) (stage k).theirs (stage k).entry) ≡ Some c
            → Named r
        by true true d e f g s = inr (inr (any_of is_key key_itself one_key (λ j. refers_by (candidate_content stage keys j) r) (held stage keys) k f
            (by_content (candidate_content stage keys k) c r (ap (λ (b : Bool). cond b (mine_at (stage k).entry) None) e ∙ sym (held_mine Held (stage k).theirs (stage k).entry) ∙ s) h)))
        by true false d e f g s = absurd (let i : is_some {T = Content} None ≡ true = ap is_some s in true≢false (sym i))
        by false b true e f g s = inr (inl (any_of is_key key_itself one_key (λ j. refers_by (lost_content stage keys j) r) (wanted stage keys) k g
            (by_content (lost_content stage keys k) c r (
            let opened : lost_content stage keys k ≡ lost_of (stage k).entry = ap (λ (b : Bool). cond b None (lost_of (stage k).entry)) e in
            opened ∙ sym (lost_mine (stage k).entry (ap is_some (sym opened) ∙ wanted_lost k g)) ∙ s) h)))
        by false b false e f g s = inl (any_of is_key key_itself one_key (λ j. refers_by (firm_content stage keys j) r) keys k (fits.covers k (living (stage k).entry c (bared_mine (named stage keys k) (stage k).entry c s)))
            (by_content (firm_content stage keys k) c r (ap (λ (b : Bool). cond b None (mine_at (stage k).entry)) e ∙ bared_mine (named stage keys k) (stage k).entry c s) h))

    -- and what is named is there
    stands : (r : Key) → Named r → IsThere (final stage keys r)
    stands r n = by (stage r).candidate (has is_key (held stage keys) r) (has is_key (wanted stage keys) r) refl refl refl
      where
        by : (a b d : Bool) → (stage r).candidate ≡ a → has is_key (held stage keys) r ≡ b → has is_key (wanted stage keys) r ≡ d
            → IsThere (settled a b d (named stage keys r) (stage r).theirs (stage r).entry)
        by true true d e f g = there_if_mine _ (ap is_some (held_mine Held (stage r).theirs (stage r).entry) ∙ fits.alive r e)
        by true false d e f g = absurd (true≢false (sym (named_held r e n) ∙ f))
        by false b true e f g =
            let opened : lost_content stage keys r ≡ lost_of (stage r).entry = ap (λ (b : Bool). cond b None (lost_of (stage r).entry)) e in
            let some : is_some (lost_of (stage r).entry) ≡ true = ap is_some (sym opened) ∙ wanted_lost r g in
            there_if_mine _ (ap is_some (lost_mine (stage r).entry some) ∙ some)
        by false b false e f g = subst (λ (b : Bool). IsThere (bared b (stage r).entry)) (sym (named_so r n)) (bared_there (stage r).entry (λ i.
            let opened : lost_content stage keys r ≡ lost_of (stage r).entry = ap (λ (b : Bool). cond b None (lost_of (stage r).entry)) e in
            true≢false (sym (lost_wanted r (ap is_some opened ∙ i) n) ∙ g)))

    pub refs_stand : (k r : Key) (c : Content) → mine_at (final stage keys k) ≡ Some c → refers c r ≡ true → IsThere (final stage keys r)
    refs_stand k r c m h = stands r (names k r c m h)
