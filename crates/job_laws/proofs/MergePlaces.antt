-- Each outcome of a case is sound by itself.
use Rattle.std.proofs.Common.{◌≡◌, ◌≢◌, ◌≤◌, ◌||◌, ◌&&◌, ℕ, ℤ, pos, negsuc, Bool, true, false, not, Option, Some, None, is_some, cond, refl, sym, ◌∙◌, ap, arith, inl, inr, ◌⊎◌}
use Rattle.std.specs.Option.{option_map, option_map_or}
use Rattle.std.proofs.lemmas.Bool.{true≢false}
use Rattle.osm_base.specs.Content.{fits}
use Rattle.osm_base.specs.Same.{same_content}
use Rattle.osm_base.proofs.SameLaws.{same_content_decides}
use Rattle.osm_base.specs.declared.key.Key.{Key}
use Rattle.osm_base.specs.declared.meta.Meta.{Meta}
use Rattle.osm_base.specs.declared.content.Content.{Content}
use Rattle.osm_table.specs.declared.entry.Base.{Base}
use Rattle.osm_table.specs.declared.entry.Base.TheVariants as base
use Rattle.osm_table.specs.declared.entry.Why.{Why}
use Rattle.osm_table.specs.declared.entry.Why.TheVariants.{Changed, Held, Withdrawn}
use Rattle.osm_table.specs.declared.entry.Conflict.{Conflict}
use Rattle.osm_table.specs.declared.entry.Entry.{Entry}
use Rattle.osm_table.specs.declared.entry.Entry.TheVariants.{Incomplete, Known}
use Rattle.osm_table.specs.declared.told.Told.{Told}
use Rattle.osm_table.specs.declared.told.Told.TheVariants as told
use Rattle.osm_table.specs.Table.{held_by, known_base, version_of, IsPositive, IfContent}
use Rattle.osm_table.specs.Told.{IsVersion, IsTold}
use Rattle.dataset.specs.Sound.{IsSoundEntry, BaseFits, ConflictFits, WhyFits, IsLive, IsGiven, HasVersion, OfKind, FromTheServer}
use Rattle.dataset.proofs.Changes.{incomplete_entry}
use Rattle.merge_cases.specs.declared.verdict.Verdict.{Verdict}
use Rattle.merge_cases.specs.declared.verdict.Verdict.TheVariants.{Stay, Mention, Take, Clash, Keep, Candidate, Settle, Join, Dispute}
use Rattle.merge_cases.specs.Case.{verdict_of, is_withdrawn, all_join}
use Rattle.merge_cases.specs.Join.{joined}
use Rattle.merge_cases.proofs.Means.{Means, IsKept, IsOwn}
use Rattle.merge_cases.proofs.JoinedOf.{TakesOver, joined_takes}
use Rattle.tool_api.specs.Staged.{theirs_told, taken, withdrawn, against, with_theirs, all_joined, staged, is_candidate, lost_of, back, bared, is_dead}
use Rattle.job_laws.proofs.MergeRows.{SaysTold, says, theirs_by, verdict_by}

-- an entry that is sound by itself, or none
abbrev pub SoundAt : ℕ → Key → Option Entry → Type 0
SoundAt n k None = Unit {0}
SoundAt n k (Some e) = IsSoundEntry n k e

-- no id is both given here and a server's
pub not_given : (n : ℕ) (id : ℤ) → IsGiven n id → IsPositive id → ⊥
not_given n (pos i) g p = g
not_given n (negsuc i) g p = p

-- a server's object has a base of a server
pub base_with : (n : ℕ) (k : Key) (b : Base) (m l : Option Content) (f g : Option Conflict) → IsPositive k.id → BaseFits n k b m f → BaseFits n k b l g
base_with n k base.New m l f g p h = absurd (not_given n k.id h.0 p)
base_with n k (base.Live v c meta) m l f g p h = h
base_with n k (base.Gone v meta) m l f g p h = h

-- an object that doesn't live has a server's id
pub dead_positive : (n : ℕ) (k : Key) (b : Base) (f : Option Conflict) → BaseFits n k b None f → IsPositive k.id
dead_positive n k base.New f h = absurd (true≢false (sym h.1))
dead_positive n k (base.Live v c meta) f h = h
dead_positive n k (base.Gone v meta) f h = h

-- a base and its content as mine aren't a change
unchanged : (c : Content) → not (same_content c c) ≡ true → ⊥
unchanged c h = true≢false (sym h ∙ ap not ((same_content_decides c c).1 refl))

live_taken : (n : ℕ) (k : Key) (v : ℕ) (c : Content) (meta : Meta) → IsTold k (told.Live v c meta) → IsSoundEntry n k (taken (base.Live v c meta))
live_taken n k v c meta h = record { id = h.0; kinds = (h.2.0, h.2.0, tt); server = (h.2.1, tt); versions = (h.1, tt); limits = λ changed. absurd (unchanged c changed); conflict = tt }

pub gone_taken : (n : ℕ) (k : Key) (v : ℕ) (meta : Meta) → IsTold k (told.Gone v meta) → IsSoundEntry n k (taken (base.Gone v meta))
gone_taken n k v meta h = record { id = h.0; kinds = (tt, tt, tt); server = (tt, tt); versions = (h.1, tt); limits = λ changed. tt; conflict = tt }

pub live_withdrawn : (n : ℕ) (k : Key) (v : ℕ) (c : Content) (meta : Meta) → IsPositive k.id → IsVersion v → OfKind k (Some c) → FromTheServer (Some c) → IsSoundEntry n k (withdrawn (base.Live v c meta))
live_withdrawn n k v c meta p version kind server = record { id = p; kinds = (kind, kind, kind); server = (server, server); versions = (version, version); limits = λ changed. absurd (unchanged c changed); conflict = (tt, refl, refl) }

-- a lost object that comes back
lost_back : (n : ℕ) (k : Key) (b : Base) → IsPositive k.id → HasVersion b → OfKind k (held_by b) → FromTheServer (held_by b) → is_some (held_by b) ≡ true → IsSoundEntry n k (withdrawn b)
lost_back n k base.New p version kind server h = absurd (true≢false (sym h))
lost_back n k (base.Live v c meta) p version kind server h = live_withdrawn n k v c meta p version kind server
lost_back n k (base.Gone v meta) p version kind server h = absurd (true≢false (sym h))

known_back : (n : ℕ) (k : Key) (b : Base) (f : Option Conflict) → IsSoundEntry n k (Known b None f) → is_some (held_by (known_base b f)) ≡ true → IsSoundEntry n k (withdrawn (known_base b f))
known_back n k b None s h = lost_back n k b (dead_positive n k b None s.id) s.versions.0 s.kinds.0 s.server.0 h
known_back n k b (Some c) s h = lost_back n k c.theirs (dead_positive n k b (Some c) s.id) s.versions.1 s.kinds.2 s.server.1 h

pub back_sound : (n : ℕ) (k : Key) (o : Option Entry) → SoundAt n k o → is_some (lost_of o) ≡ true → SoundAt n k (option_map back o)
back_sound n k None s h = tt
back_sound n k (Some Incomplete) s h = s
back_sound n k (Some (Known b None f)) s h = known_back n k b f s h
back_sound n k (Some (Known b (Some m) f)) s h = absurd (true≢false (sym h))

-- a known side is never older than its base
why_newer : (w : Why) (theirs b : Base) (m : Option Content) → WhyFits w theirs b m → version_of b ≤ version_of theirs
why_newer Changed theirs b m h = let l = h.0 in omega (arith, l)
why_newer Held theirs b m h = let l = h.3 in omega (arith, l)
why_newer Withdrawn theirs b m h = let e = ap version_of h.2 in omega (arith, e)

side_newer : (b : Base) (m : Option Content) (f : Option Conflict) → ConflictFits b m f → version_of b ≤ version_of (known_base b f)
side_newer b m None h = omega arith
side_newer b m (Some c) h = why_newer c.why c.theirs b m h

-- in conflict with what is told
own : (n : ℕ) (k : Key) (b : Base) (m : Option Content) (f : Option Conflict) → IsPositive k.id → BaseFits n k b m f → IsOwn b m → m ≢ held_by b
own n k base.New m f p g (inl e) = absurd (not_given n k.id g.0 p)
own n k (base.Live w d me) m f p g (inl e) = absurd (true≢false (sym e))
own n k (base.Gone w me) m f p g (inl e) = absurd (true≢false (sym e))
own n k b m f p g (inr e) = e

against_sound : (n : ℕ) (k : Key) (b : Base) (m : Option Content) (f : Option Conflict) (theirs : Base) → IsPositive k.id → OfKind k (held_by theirs) → FromTheServer (held_by theirs) → HasVersion theirs
    → IsSoundEntry n k (Known b m f) → Means Dispute b m f (version_of theirs) (held_by theirs) → IsSoundEntry n k (against Changed theirs (Known b m f))
against_sound n k b m f theirs positive kind server version s says = record {
  id = base_with n k b m m f (Some (record { why = Changed; theirs = theirs })) positive s.id;
  kinds = (s.kinds.0, s.kinds.1, kind);
  server = (s.server.0, server);
  versions = (s.versions.0, version);
  limits = s.limits;
  conflict = (let l = side_newer b m f s.conflict in let g = says.0 in omega (arith, l, g), own n k b m f positive s.id says.1, says.2);
}

-- held by what refers to it
live_base : (b : Base) (m : Option Content) → m ≡ held_by b → is_some m ≡ true → IsLive b
live_base base.New m e h = true≢false (sym h ∙ ap is_some e)
live_base (base.Live v c meta) m e h = tt
live_base (base.Gone v meta) m e h = true≢false (sym h ∙ ap is_some e)

why_kept : (w : Why) (theirs b : Base) (m : Option Content) → WhyFits w theirs b m → is_withdrawn (Some (record { why = w; theirs = theirs })) ≡ true → IsLive b × (m ≡ held_by b)
why_kept Changed theirs b m h e = absurd (true≢false (sym e))
why_kept Held theirs b m h e = absurd (true≢false (sym e))
why_kept Withdrawn theirs b m h e = (h.0, h.1)

pub kept : (b : Base) (m : Option Content) (f : Option Conflict) → ConflictFits b m f → (is_withdrawn f ≡ true) ⊎ IsKept b m → IsLive b × (m ≡ held_by b)
kept b m None h (inl e) = absurd (true≢false (sym e))
kept b m (Some c) h (inl e) = why_kept c.why c.theirs b m h e
kept b m f h (inr i) = (live_base b m i.as_base i.stands, i.as_base)

pub held_sound : (n : ℕ) (k : Key) (b : Base) (m : Option Content) (f : Option Conflict) (v : ℕ) (meta : Meta) → IsTold k (told.Gone v meta) → IsSoundEntry n k (Known b m f) → Means Candidate b m f v None → IsSoundEntry n k (against Held (base.Gone v meta) (Known b m f))
held_sound n k b m f v meta h s k2 = record {
  id = base_with n k b m m f (Some (record { why = Held; theirs = base.Gone v meta })) h.0 s.id;
  kinds = (s.kinds.0, s.kinds.1, tt);
  server = (s.server.0, tt);
  versions = (s.versions.0, h.1);
  limits = s.limits;
  conflict = let i = kept b m f s.conflict k2.2 in (i.0, i.1, tt, let l = side_newer b m f s.conflict in let g = k2.0 in omega (arith, l, g));
}

-- joined with theirs
fits_or : (c t : Content) → (fits c || same_content c t) ≡ true → not (same_content c t) ≡ true → fits c ≡ true
fits_or c t h e = by (fits c) (same_content c t) h e
  where
    by : (a b : Bool) → (a || b) ≡ true → not b ≡ true → a ≡ true
    by true b i g = refl
    by false true i g = absurd (true≢false (sym g))
    by false false i g = i

joined_entry : (n : ℕ) (k : Key) (v : ℕ) (m c : Content) (meta : Meta) (o : Option Content) → IsTold k (told.Live v c meta) → IfContent o (TakesOver m c) → option_map_or (λ d. fits d || same_content d c) o false ≡ true → IsSoundEntry n k (Known (base.Live v c meta) o None)
joined_entry n k v m c meta None h t j = absurd (true≢false (sym j))
joined_entry n k v m c meta (Some d) h t j = record { id = h.0; kinds = (h.2.0, t.kind ∙ h.2.0, tt); server = (h.2.1, tt); versions = (h.1, tt); limits = λ changed. fits_or d c j changed; conflict = tt }

join_sound : (n : ℕ) (k : Key) (b m : Option Content) (v : ℕ) (c : Content) (meta : Meta) → IsTold k (told.Live v c meta) → all_join b m (Some c) ≡ true → IsSoundEntry n k (Known (base.Live v c meta) (all_joined b m (Some c)) None)
join_sound n k None m v c meta h j = absurd (true≢false (sym j))
join_sound n k (Some b) None v c meta h j = absurd (true≢false (sym j))
join_sound n k (Some b) (Some m) v c meta h j = joined_entry n k v m c meta (joined b m c) h (joined_takes b m c) j

no_join : (b m : Option Content) → all_join b m None ≡ true → ⊥
no_join None m h = true≢false (sym h)
no_join (Some b) None h = true≢false (sym h)
no_join (Some b) (Some m) h = true≢false (sym h)

take_sound : (n : ℕ) (k : Key) (v : Verdict) (o : Option Entry) (s : Told) → (v ≡ Take) ⊎ (v ≡ Settle) → SaysTold v o s → IsTold k s → IsSoundEntry n k (taken (theirs_told s))
take_sound n k v None told.Mentioned is says h = absurd (never v is says)
  where
    never : (v : Verdict) → (v ≡ Take) ⊎ (v ≡ Settle) → v ≡ Mention → ⊥
    never v (inl e) g = let i : Take ≡ Mention = sym e ∙ g in cc
    never v (inr e) g = let i : Settle ≡ Mention = sym e ∙ g in cc
take_sound n k v (Some x) told.Mentioned is says h = absurd (never v is says)
  where
    never : (v : Verdict) → (v ≡ Take) ⊎ (v ≡ Settle) → v ≡ Stay → ⊥
    never v (inl e) g = let i : Take ≡ Stay = sym e ∙ g in cc
    never v (inr e) g = let i : Settle ≡ Stay = sym e ∙ g in cc
take_sound n k v o (told.Live w c meta) is says h = live_taken n k w c meta h
take_sound n k v o (told.Gone w meta) is says h = gone_taken n k w meta h

keep_sound : (n : ℕ) (k : Key) (o : Option Entry) (s : Told) → SaysTold Keep o s → IsTold k s → IsSoundEntry n k (withdrawn (theirs_told s))
keep_sound n k None told.Mentioned says h = absurd (let i : Keep ≡ Mention = says in cc)
keep_sound n k (Some x) told.Mentioned says h = absurd (let i : Keep ≡ Stay = says in cc)
keep_sound n k o (told.Live w c meta) says h = live_withdrawn n k w c meta h.0 h.1 h.2.0 h.2.1
keep_sound n k None (told.Gone w meta) says h = absurd (let i : Keep ≡ Take = says in cc)
keep_sound n k (Some Incomplete) (told.Gone w meta) says h = absurd (let i : Keep ≡ Take = says in cc)
keep_sound n k (Some (Known b m f)) (told.Gone w meta) says h = absurd (true≢false (sym says))

mention_sound : (n : ℕ) (k : Key) (o : Option Entry) (s : Told) → SaysTold Mention o s → IsTold k s → IsSoundEntry n k Incomplete
mention_sound n k o told.Mentioned says h = incomplete_entry n k h
mention_sound n k o (told.Live w c meta) says h = incomplete_entry n k h.0
mention_sound n k o (told.Gone w meta) says h = incomplete_entry n k h.0

joins_sound : (n : ℕ) (k : Key) (o : Option Entry) (s : Told) → SaysTold Join o s → IsTold k s → SoundAt n k o → SoundAt n k (option_map (with_theirs (theirs_told s)) o)
joins_sound n k None s says h old = tt
joins_sound n k (Some Incomplete) s says h old = old
joins_sound n k (Some (Known b m f)) told.Mentioned says h old = absurd (let i : Join ≡ Stay = says in cc)
joins_sound n k (Some (Known b m f)) (told.Live w c meta) says h old = join_sound n k (held_by b) m w c meta h says
joins_sound n k (Some (Known b m f)) (told.Gone w meta) says h old = absurd (no_join (held_by b) m says)

disputes_sound : (n : ℕ) (k : Key) (o : Option Entry) (s : Told) → SaysTold Dispute o s → IsTold k s → SoundAt n k o → SoundAt n k (option_map (against Changed (theirs_told s)) o)
disputes_sound n k None s says h old = tt
disputes_sound n k (Some Incomplete) s says h old = old
disputes_sound n k (Some (Known b m f)) told.Mentioned says h old = absurd (let i : Dispute ≡ Stay = says in cc)
disputes_sound n k (Some (Known b m f)) (told.Live w c meta) says h old = against_sound n k b m f (base.Live w c meta) h.0 h.2.0 h.2.1 h.1 old says
disputes_sound n k (Some (Known b m f)) (told.Gone w meta) says h old = against_sound n k b m f (base.Gone w meta) h.0 tt tt h.1 old says

told_staged : (n : ℕ) (k : Key) (v : Verdict) (o : Option Entry) (s : Told) → SaysTold v o s → IsTold k s → SoundAt n k o → SoundAt n k (staged v o (theirs_told s))
told_staged n k Stay o s says h old = old
told_staged n k Mention o s says h old = mention_sound n k o s says h
told_staged n k Take o s says h old = take_sound n k Take o s (inl refl) says h
told_staged n k Clash o s says h old = old
told_staged n k Keep o s says h old = keep_sound n k o s says h
told_staged n k Candidate o s says h old = old
told_staged n k Settle o s says h old = take_sound n k Settle o s (inr refl) says h
told_staged n k Join o s says h old = joins_sound n k o s says h old
told_staged n k Dispute o s says h old = disputes_sound n k o s says h old

-- a candidate is held, or goes
candidate_known : (n : ℕ) (k : Key) (o : Option Entry) (s : Told) → SaysTold Candidate o s → IsTold k s → SoundAt n k o → (h : Bool) → SoundAt n k (cond h (option_map (against Held (theirs_told s)) o) (Some (Known (theirs_told s) None None)))
candidate_known n k None told.Mentioned says t old h = absurd (let i : Candidate ≡ Mention = says in cc)
candidate_known n k (Some x) told.Mentioned says t old h = absurd (let i : Candidate ≡ Stay = says in cc)
candidate_known n k None (told.Live w c meta) says t old h = absurd (let i : Candidate ≡ Take = says in cc)
candidate_known n k (Some Incomplete) (told.Live w c meta) says t old h = absurd (let i : Candidate ≡ Take = says in cc)
candidate_known n k (Some (Known b m f)) (told.Live w c meta) says t old h = absurd (let i : true ≡ false = ap is_some says.1 in true≢false i)
candidate_known n k None (told.Gone w meta) says t old h = absurd (let i : Candidate ≡ Take = says in cc)
candidate_known n k (Some Incomplete) (told.Gone w meta) says t old h = absurd (let i : Candidate ≡ Take = says in cc)
candidate_known n k (Some (Known b m f)) (told.Gone w meta) says t old true = held_sound n k b m f w meta t old says
candidate_known n k (Some (Known b m f)) (told.Gone w meta) says t old false = gone_taken n k w meta t

told_candidate : (n : ℕ) (k : Key) (v : Verdict) (o : Option Entry) (s : Told) → is_candidate v ≡ true → SaysTold v o s → IsTold k s → SoundAt n k o → (h : Bool) → SoundAt n k (cond h (option_map (against Held (theirs_told s)) (staged v o (theirs_told s))) (Some (Known (theirs_told s) None None)))
told_candidate n k Stay o s c says t old h = absurd (true≢false (sym c))
told_candidate n k Mention o s c says t old h = absurd (true≢false (sym c))
told_candidate n k Take o s c says t old h = absurd (true≢false (sym c))
told_candidate n k Clash o s c says t old h = absurd (true≢false (sym c))
told_candidate n k Keep o s c says t old h = absurd (true≢false (sym c))
told_candidate n k Candidate o s c says t old h = candidate_known n k o s says t old h
told_candidate n k Settle o s c says t old h = absurd (true≢false (sym c))
told_candidate n k Join o s c says t old h = absurd (true≢false (sym c))
told_candidate n k Dispute o s c says t old h = absurd (true≢false (sym c))

-- bared: as it was, or Incomplete
dead_id : (n : ℕ) (k : Key) (e : Entry) → IsSoundEntry n k e → is_dead e ≡ true → IsPositive k.id
dead_id n k Incomplete s h = absurd (true≢false (sym h))
dead_id n k (Known b None f) s h = dead_positive n k b f s.id
dead_id n k (Known b (Some m) f) s h = absurd (true≢false (sym h))

pub bared_sound : (n : ℕ) (k : Key) (named : Bool) (o : Option Entry) → SoundAt n k o → (named ≡ true → o ≡ None → IsPositive k.id) → SoundAt n k (bared named o)
bared_sound n k true None s p = incomplete_entry n k (p refl refl)
bared_sound n k false None s p = tt
bared_sound n k named (Some e) s p = by (is_dead e) (named && not (is_some (lost_of (Some e)))) refl
  where
    by : (a b : Bool) → is_dead e ≡ a → SoundAt n k (cond (a && b) (Some Incomplete) (Some e))
    by true true i = incomplete_entry n k (dead_id n k e s i)
    by true false i = s
    by false b i = s

-- what may be told of a key, or nothing
abbrev pub IfTold : Key → Option Told → Type 0
IfTold k None = Unit {0}
IfTold k (Some s) = IsTold k s

-- what a case makes of an entry is sound by itself,
pub staged_sound : (n : ℕ) (k : Key) (o : Option Entry) (s : Option Told) → IfTold k s → SoundAt n k o → SoundAt n k (staged (verdict_by o s) o (theirs_by s))
staged_sound n k o None t old = old
staged_sound n k o (Some s) t old = told_staged n k (verdict_of o s) o s (says o s) t old

-- and so is a candidate that is held or goes
pub candidate_sound : (n : ℕ) (k : Key) (o : Option Entry) (s : Option Told) → is_candidate (verdict_by o s) ≡ true → IfTold k s → SoundAt n k o → (h : Bool)
    → SoundAt n k (cond h (option_map (against Held (theirs_by s)) (staged (verdict_by o s) o (theirs_by s))) (Some (Known (theirs_by s) None None)))
candidate_sound n k o None c t old h = absurd (true≢false (sym c))
candidate_sound n k o (Some s) c t old h = told_candidate n k (verdict_of o s) o s c (says o s) t old h
