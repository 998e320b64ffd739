-- What the cases leave of a sound table: a candidate lives, and what was there isn't lost.
use Rattle.std.proofs.Common.{◌≡◌, ℕ, true, false, ◌||◌, Option, Some, None, is_some, refl, sym, ◌∙◌, ap, inl, inr, ◌⊎◌}
use Rattle.std.specs.Option.{option_map, option_map_or}
use Rattle.std.proofs.lemmas.Bool.{true≢false}
use Rattle.osm_base.specs.declared.content.Content.{Content}
use Rattle.osm_table.specs.declared.entry.Base.{Base}
use Rattle.osm_table.specs.declared.entry.Base.TheVariants as base
use Rattle.osm_table.specs.declared.entry.Why.{Why}
use Rattle.osm_table.specs.declared.entry.Why.TheVariants.{Changed, Held, Withdrawn}
use Rattle.osm_table.specs.declared.entry.Conflict.{Conflict}
use Rattle.osm_table.specs.declared.entry.Entry.{Entry}
use Rattle.osm_table.specs.declared.entry.Entry.TheVariants.{Incomplete, Known}
use Rattle.osm_table.specs.Table.{held_by, known_base, IsThere}
use Rattle.osm_table.specs.declared.told.Told.{Told}
use Rattle.osm_table.specs.declared.told.Told.TheVariants as told
use Rattle.dataset.specs.Exact.{mine_at}
use Rattle.dataset.specs.Sound.{ConflictFits, WhyFits, IsLive, IfKnown}
use Rattle.merge_cases.specs.declared.verdict.Verdict.{Verdict}
use Rattle.merge_cases.specs.declared.verdict.Verdict.TheVariants.{Stay, Mention, Take, Clash, Keep, Candidate, Settle, Join, Dispute}
use Rattle.merge_cases.specs.Case.{verdict_of, version_case, mention_case, is_withdrawn, all_join}
use Rattle.merge_cases.specs.Join.{joined}
use Rattle.osm_base.specs.Content.{fits}
use Rattle.osm_base.specs.Same.{same_content}
use Rattle.merge_cases.proofs.Means.{Means, IsKept, means}
use Rattle.tool_api.specs.Staged.{staged, against, with_theirs, all_joined, is_candidate, lost_of, theirs_told}

-- What a case says of an entry and of what is told.
abbrev pub Says : Verdict → Option Entry → ℕ → Option Content → Type 0
Says v None version theirs = v ≡ Take
Says v (Some Incomplete) version theirs = v ≡ Take
Says v (Some (Known b m f)) version theirs = Means v b m f version theirs

abbrev pub SaysMention : Verdict → Option Entry → Type 0
SaysMention v None = v ≡ Mention
SaysMention v (Some e) = v ≡ Stay

abbrev pub SaysTold : Verdict → Option Entry → Told → Type 0
SaysTold v o told.Mentioned = SaysMention v o
SaysTold v o (told.Live version content meta) = Says v o version (Some content)
SaysTold v o (told.Gone version meta) = Says v o version None

version_says : (o : Option Entry) (v : ℕ) (s : Option Content) → Says (version_case o v s) o v s
version_says None v s = refl
version_says (Some Incomplete) v s = refl
version_says (Some (Known b m f)) v s = means b m f v s

mention_says : (o : Option Entry) → SaysMention (mention_case o) o
mention_says None = refl
mention_says (Some e) = refl

pub says : (o : Option Entry) (s : Told) → SaysTold (verdict_of o s) o s
says o told.Mentioned = mention_says o
says o (told.Live v c m) = version_says o v (Some c)
says o (told.Gone v m) = version_says o v None

-- an object that came back lives
pub live_held : (b : Base) → IsLive b → is_some (held_by b) ≡ true
live_held base.New h = absurd h
live_held (base.Live v c m) h = refl
live_held (base.Gone v m) h = absurd h

why_lives : (w : Why) (theirs b : Base) (m : Option Content) → WhyFits w theirs b m → is_withdrawn (Some (record { why = w; theirs = theirs })) ≡ true → is_some m ≡ true
why_lives Changed theirs b m h e = absurd (true≢false (sym e))
why_lives Held theirs b m h e = absurd (true≢false (sym e))
why_lives Withdrawn theirs b m h e = ap is_some h.1 ∙ live_held b h.0

pub withdrawn_lives : (b : Base) (m : Option Content) (f : Option Conflict) → ConflictFits b m f → is_withdrawn f ≡ true → is_some m ≡ true
withdrawn_lives b m None h e = absurd (true≢false (sym e))
withdrawn_lives b m (Some c) h e = why_lives c.why c.theirs b m h e

-- an entry of a sound table, or none
abbrev pub HasFits : Option Entry → Type 0
HasFits None = Unit {0}
HasFits (Some e) = IfKnown e ConflictFits

not_candidate : (v w : Verdict) → v ≡ w → is_candidate w ≡ false → is_candidate v ≡ true → ⊥
not_candidate v w e f h = true≢false (sym h ∙ ap is_candidate e ∙ f)

kept_lives : (b : Base) (m : Option Content) (f : Option Conflict) → ConflictFits b m f → (is_withdrawn f ≡ true) ⊎ IsKept b m → is_some m ≡ true
kept_lives b m f h (inl e) = withdrawn_lives b m f h e
kept_lives b m f h (inr k) = k.stands

means_lives : (v : Verdict) (b : Base) (m : Option Content) (f : Option Conflict) (n : ℕ) (s : Option Content) → ConflictFits b m f → Means v b m f n s → is_candidate v ≡ true → is_some m ≡ true
means_lives Stay b m f n s h k e = absurd (true≢false (sym e))
means_lives Mention b m f n s h k e = absurd (true≢false (sym e))
means_lives Take b m f n s h k e = absurd (true≢false (sym e))
means_lives Clash b m f n s h k e = absurd (true≢false (sym e))
means_lives Keep b m f n s h k e = absurd (true≢false (sym e))
means_lives Candidate b m f n s h k e = kept_lives b m f h k.2
means_lives Settle b m f n s h k e = absurd (true≢false (sym e))
means_lives Join b m f n s h k e = absurd (true≢false (sym e))
means_lives Dispute b m f n s h k e = absurd (true≢false (sym e))

says_lives : (v : Verdict) (o : Option Entry) (n : ℕ) (s : Option Content) → HasFits o → Says v o n s → is_candidate v ≡ true → is_some (mine_at o) ≡ true
says_lives v None n s h k e = absurd (not_candidate v Take k refl e)
says_lives v (Some Incomplete) n s h k e = absurd (not_candidate v Take k refl e)
says_lives v (Some (Known b m f)) n s h k e = means_lives v b m f n s h k e

mention_lives : (v : Verdict) (o : Option Entry) → SaysMention v o → is_candidate v ≡ true → is_some (mine_at o) ≡ true
mention_lives v None k e = absurd (not_candidate v Mention k refl e)
mention_lives v (Some x) k e = absurd (not_candidate v Stay k refl e)

told_lives : (v : Verdict) (o : Option Entry) (s : Told) → HasFits o → SaysTold v o s → is_candidate v ≡ true → is_some (mine_at o) ≡ true
told_lives v o told.Mentioned h k e = mention_lives v o k e
told_lives v o (told.Live n c m) h k e = says_lives v o n (Some c) h k e
told_lives v o (told.Gone n m) h k e = says_lives v o n None h k e

-- a candidate's entry stays for the time
pub candidate_stays : (v : Verdict) (o : Option Entry) (b : Base) → is_candidate v ≡ true → staged v o b ≡ o
candidate_stays Stay o b h = refl
candidate_stays Mention o b h = absurd (true≢false (sym h))
candidate_stays Take o b h = absurd (true≢false (sym h))
candidate_stays Clash o b h = refl
candidate_stays Keep o b h = absurd (true≢false (sym h))
candidate_stays Candidate o b h = refl
candidate_stays Settle o b h = absurd (true≢false (sym h))
candidate_stays Join o b h = absurd (true≢false (sym h))
candidate_stays Dispute o b h = absurd (true≢false (sym h))

-- an entry with base and mine from one version isn't lost
own_known : (b : Base) (f : Option Conflict) → known_base b f ≡ b → is_some (lost_of (Some (Known b (held_by b) f))) ≡ true → ⊥
own_known base.New f e h = true≢false (sym (sym (ap (λ x. is_some (held_by x)) e) ∙ h))
own_known (base.Live v c m) f e h = true≢false (sym h)
own_known (base.Gone v m) f e h = true≢false (sym (sym (ap (λ x. is_some (held_by x)) e) ∙ h))

pub there_found : (o : Option Entry) → IsThere o → is_some (lost_of o) ≡ true → ⊥
there_found None t h = t
there_found (Some Incomplete) t h = true≢false (sym h)
there_found (Some (Known b None f)) t h = true≢false (sym t)
there_found (Some (Known b (Some c) f)) t h = true≢false (sym h)

dispute_found : (o : Option Entry) (b : Base) → IsThere o → is_some (lost_of (option_map (against Changed b) o)) ≡ true → ⊥
dispute_found None b t h = t
dispute_found (Some Incomplete) b t h = true≢false (sym h)
dispute_found (Some (Known a None f)) b t h = true≢false (sym t)
dispute_found (Some (Known a (Some c) f)) b t h = true≢false (sym h)

-- what is joined lives
join_some : (b m t : Content) (o : Option Content) → option_map_or (λ c. fits c || same_content c t) o false ≡ true → is_some o ≡ true
join_some b m t None e = absurd (true≢false (sym e))
join_some b m t (Some c) e = refl

pub joined_some : (b m t : Option Content) → all_join b m t ≡ true → is_some (all_joined b m t) ≡ true
joined_some None m t h = absurd (true≢false (sym h))
joined_some (Some b) None t h = absurd (true≢false (sym h))
joined_some (Some b) (Some m) None h = absurd (true≢false (sym h))
joined_some (Some b) (Some m) (Some t) h = join_some b m t (joined b m t) h

living_found : (b : Base) (m : Option Content) (f : Option Conflict) → is_some m ≡ true → is_some (lost_of (Some (Known b m f))) ≡ true → ⊥
living_found b None f h e = true≢false (sym h)
living_found b (Some c) f h e = true≢false (sym e)

join_found : (o : Option Entry) (s : Told) → SaysTold Join o s → IsThere o → is_some (lost_of (option_map (with_theirs (theirs_told s)) o)) ≡ true → ⊥
join_found None s k i h = i
join_found (Some Incomplete) s k i h = true≢false (sym h)
join_found (Some (Known b m f)) told.Mentioned k i h = absurd (let e : Join ≡ Stay = k in cc)
join_found (Some (Known b m f)) (told.Live v c meta) k i h = living_found (base.Live v c meta) _ None (joined_some (held_by b) m (Some c) k) h
join_found (Some (Known b m f)) (told.Gone v meta) k i h = living_found (base.Gone v meta) _ None (joined_some (held_by b) m None k) h

told_not_lost : (v : Verdict) (o : Option Entry) (s : Told) → SaysTold v o s → IsThere o → is_some (lost_of (staged v o (theirs_told s))) ≡ true → ⊥
told_not_lost Stay o s k t h = there_found o t h
told_not_lost Mention o s k t h = true≢false (sym h)
told_not_lost Take o s k t h = own_known (theirs_told s) None refl h
told_not_lost Clash o s k t h = there_found o t h
told_not_lost Keep o s k t h = own_known (theirs_told s) _ refl h
told_not_lost Candidate o s k t h = there_found o t h
told_not_lost Settle o s k t h = own_known (theirs_told s) None refl h
told_not_lost Join o s k t h = join_found o s k t h
told_not_lost Dispute o s k t h = dispute_found o (theirs_told s) t h

-- what is told of a key as a base, New where nothing is
abbrev pub theirs_by : Option Told → Base
theirs_by s = option_map_or theirs_told s base.New

-- its case
abbrev pub verdict_by : Option Entry → Option Told → Verdict
verdict_by o s = option_map_or (verdict_of o) s Stay

-- a candidate lives
pub candidate_lives : (o : Option Entry) (s : Option Told) → HasFits o → is_candidate (verdict_by o s) ≡ true → is_some (mine_at o) ≡ true
candidate_lives o None h e = absurd (true≢false (sym e))
candidate_lives o (Some s) h e = told_lives (verdict_of o s) o s h (says o s) e

-- what lived or was Incomplete isn't lost by any case
pub not_lost : (o : Option Entry) (s : Option Told) → IsThere o → is_some (lost_of (staged (verdict_by o s) o (theirs_by s))) ≡ true → ⊥
not_lost o None t h = there_found o t h
not_lost o (Some s) t h = told_not_lost (verdict_of o s) o s (says o s) t h
