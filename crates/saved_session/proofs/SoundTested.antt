-- The tests of a sound table decide what is asked of one.
use Rattle.std.proofs.Common.{◌≡◌, ◌<◌, ◌≤◌, ℕ, ℤ, suc, pos, negsuc, Bool, true, false, cond, not, ◌&&◌, ◌||◌, List, [], ◌∷◌, Option, Some, None, IsTrue, is_some, find, refl, sym, ap, subst, ◌∙◌, arith, Decides}
use Rattle.std.specs.Prelude.{nat_le, nat_lt}
use Rattle.std.specs.List.{AllByRecursion, list_all}
use Rattle.std.specs.FinMap as fin
use Rattle.std.proofs.lemmas.Bool.{and_parts, or_right, not-false, and_from}
use Rattle.std.proofs.lemmas.Bool.Decides.{nat_tests, Decides-and, Decides-not, Decides-like}
use Rattle.osm_base.specs.Rank.{is_key}
use Rattle.osm_base.specs.RisingKeys.{is_in}
use Rattle.osm_base.specs.Content.{fits, kind_of_content, refs_of}
use Rattle.osm_base.specs.declared.key.Key.{Key}
use Rattle.osm_base.specs.declared.content.Content.{Content}
use Rattle.osm_base.proofs.SameLaws.{is_key_decides}
use Rattle.osm_base.proofs.RisingKeys.{key_itself, one_key}
use Rattle.osm_base.proofs.Lists.{find_none}
use Rattle.osm_base.proofs.Tests.{by_either}
use Rattle.osm_table.specs.Same.{same_base, same_mine}
use Rattle.osm_table.proofs.SameLaws.{same_base_decides, same_mine_decides}
use Rattle.osm_table.specs.Table.{IfContent, IsPositive, IsThere, TableValue, entry_of, held_by, is_changed, keys_by_rank, mine_of, version_of}
use Rattle.osm_table.specs.Told.{IsVersion}
use Rattle.osm_table.specs.declared.entry.Base.{Base}
use Rattle.osm_table.specs.declared.entry.Base.TheVariants.{New, Live, Gone}
use Rattle.osm_table.specs.declared.entry.Why.{Why}
use Rattle.osm_table.specs.declared.entry.Why.TheVariants.{Changed, Held, Withdrawn}
use Rattle.osm_table.specs.declared.entry.Conflict.{Conflict}
use Rattle.osm_table.specs.declared.entry.Entry.{Entry}
use Rattle.osm_table.specs.declared.entry.Entry.TheVariants.{Incomplete, Known}
use Rattle.dataset.specs.Sound.{BaseFits, FromTheServer, HasVersion, IsGiven, IsGone, IsLive, IsNumber, IsSound, IsSoundEntry, LivesIn, OfKind, WhyFits}
use Rattle.saved_session.specs.SoundTest.{breaks, conflict_fits, from_server, has_version, id_fits, is_given, is_gone, is_live, is_positive, is_sound_at, is_sound_entry, is_there, is_unsound, is_version, least_unsound, limits_fit, of_kind, refs_there, told_fits, why_fits}

-- ---- one condition after the other

le_decides : (a b : ℕ) → Decides (nat_le a b) (a ≤ b)
le_decides a b = (λ e. grind (arith, nat_tests, e), λ h. grind (arith, nat_tests, h))

lt_decides : (a b : ℕ) → Decides (nat_lt a b) (a < b)
lt_decides a b = (λ e. grind (arith, nat_tests, e), λ h. grind (arith, nat_tests, h))

never : Decides false ⊥
never = (λ e. absurd cc, λ h. absurd h)

always : Decides true (Unit {0})
always = (λ e. tt, λ h. refl)

bool_decides : (b : Bool) → Decides b (b ≡ true)
bool_decides b = (λ e. e, λ e. e)

positive_decides : (z : ℤ) → Decides (is_positive z) (IsPositive z)
positive_decides (pos n) = Decides-and (nat_le 1 n) (nat_le n 1000000000000000000) (le_decides 1 n) (le_decides n 1000000000000000000)
positive_decides (negsuc n) = never

given_decides : (next : ℕ) (z : ℤ) → Decides (is_given next z) (IsGiven next z)
given_decides next (pos n) = never
given_decides next (negsuc n) = lt_decides (suc n) next

version_decides : (version : ℕ) → Decides (is_version version) (IsVersion version)
version_decides version = Decides-and (nat_le 1 version) (nat_le version 2000000000) (le_decides 1 version) (le_decides version 2000000000)

has_version_decides : (base : Base) → Decides (has_version base) (HasVersion base)
has_version_decides New = always
has_version_decides (Live version content meta) = version_decides version
has_version_decides (Gone version meta) = version_decides version

live_decides : (base : Base) → Decides (is_live base) (IsLive base)
live_decides New = never
live_decides (Live version content meta) = always
live_decides (Gone version meta) = never

gone_decides : (base : Base) → Decides (is_gone base) (IsGone base)
gone_decides New = never
gone_decides (Live version content meta) = never
gone_decides (Gone version meta) = always

kind_decides : (key : Key) (o : Option Content) → Decides (of_kind key o) (OfKind key o)
kind_decides key None = always
kind_decides key (Some c) =
    let k : Key = record { kind = kind_of_content c; id = key.id } in
    Decides-like (is_key k key) (λ e. ap (λ (q : Key). q.kind) e) (λ e i. record { kind = e i; id = key.id }) (is_key_decides k key)

all_decides : {A : Type 0} (p : A → Bool) (P : A → Type 0) → ((x : A) → Decides (p x) (P x)) → (xs : List A) → Decides (list_all p xs) (AllByRecursion P xs)
all_decides p P each [] = (λ e. tt, λ h. refl)
all_decides p P each (x ∷ xs) = Decides-and (p x) (list_all p xs) (each x) (all_decides p P each xs)

server_decides : (o : Option Content) → Decides (from_server o) (FromTheServer o)
server_decides None = always
server_decides (Some c) = all_decides (λ r. is_positive r.id) (λ r. IsPositive r.id) (λ r. positive_decides r.id) (refs_of c)

abbrev IsToldBase : Key → Base → Type 0
IsToldBase key base = (OfKind key (held_by base) × FromTheServer (held_by base)) × HasVersion base

told_decides : (key : Key) (base : Base) → Decides (told_fits key base) (IsToldBase key base)
told_decides key base =
    Decides-and (of_kind key (held_by base) && from_server (held_by base)) (has_version base)
    (Decides-and (of_kind key (held_by base)) (from_server (held_by base)) (kind_decides key (held_by base)) (server_decides (held_by base)))
    (has_version_decides base)

none_decides : (o : Option Conflict) → Decides (not (is_some o)) (o ≡ None)
none_decides None = (λ e. refl, λ h. refl)
none_decides (Some c) = (λ e. absurd cc, λ h. absurd cc)

id_decides : (next : ℕ) (key : Key) (base : Base) (mine : Option Content) (conflict : Option Conflict) → Decides (id_fits next key base mine conflict) (BaseFits next key base mine conflict)
id_decides next key New mine conflict =
    Decides-like (is_given next key.id && is_some mine && not (is_some conflict)) (λ h. (h.0.0, h.0.1, h.1)) (λ h. ((h.0, h.1), h.2))
    (Decides-and (is_given next key.id && is_some mine) (not (is_some conflict)) (Decides-and (is_given next key.id) (is_some mine) (given_decides next key.id) (bool_decides (is_some mine))) (none_decides conflict))
id_decides next key (Live version content meta) mine conflict = positive_decides key.id
id_decides next key (Gone version meta) mine conflict = positive_decides key.id

other_decides : (a b : Option Content) → Decides (not (same_mine a b)) (¬ (a ≡ b))
other_decides a b = Decides-not (same_mine a b) (same_mine_decides a b)

why_decides : (why : Why) (theirs base : Base) (mine : Option Content) → Decides (why_fits why theirs base mine) (WhyFits why theirs base mine)
why_decides Changed theirs base mine =
    let newer = nat_lt (version_of base) (version_of theirs) in
    let first = not (same_mine mine (held_by base)) in
    let second = not (same_mine mine (held_by theirs)) in
    Decides-like (newer && first && second) (λ h. (h.0.0, h.0.1, h.1)) (λ h. ((h.0, h.1), h.2))
    (Decides-and (newer && first) second (Decides-and newer first (lt_decides (version_of base) (version_of theirs)) (other_decides mine (held_by base))) (other_decides mine (held_by theirs)))
why_decides Held theirs base mine =
    let live = is_live base in
    let same = same_mine mine (held_by base) in
    let gone = is_gone theirs in
    let newer = nat_lt (version_of base) (version_of theirs) in
    Decides-like (live && same && gone && newer) (λ h. (h.0.0.0, h.0.0.1, h.0.1, h.1)) (λ h. (((h.0, h.1), h.2), h.3))
    (Decides-and (live && same && gone) newer
    (Decides-and (live && same) gone (Decides-and live same (live_decides base) (same_mine_decides mine (held_by base))) (gone_decides theirs))
    (lt_decides (version_of base) (version_of theirs)))
why_decides Withdrawn theirs base mine =
    let live = is_live base in
    let same = same_mine mine (held_by base) in
    let last = same_base theirs base in
    Decides-like (live && same && last) (λ h. (h.0.0, h.0.1, h.1)) (λ h. ((h.0, h.1), h.2))
    (Decides-and (live && same) last (Decides-and live same (live_decides base) (same_mine_decides mine (held_by base))) (same_base_decides theirs base))

abbrev IsFitConflict : Key → Base → Option Content → Option Conflict → Type 0
IsFitConflict key base mine None = Unit {0}
IsFitConflict key base mine (Some c) = IsToldBase key c.theirs × WhyFits c.why c.theirs base mine

conflict_decides : (key : Key) (base : Base) (mine : Option Content) (conflict : Option Conflict) → Decides (conflict_fits key base mine conflict) (IsFitConflict key base mine conflict)
conflict_decides key base mine None = always
conflict_decides key base mine (Some c) = Decides-and (told_fits key c.theirs) (why_fits c.why c.theirs base mine) (told_decides key c.theirs) (why_decides c.why c.theirs base mine)

limit_case : (changed fit : Bool) → Decides (not changed || fit) (changed ≡ true → fit ≡ true)
limit_case true fit = (λ e _. e, λ h. h refl)
limit_case false fit = (λ e h. absurd cc, λ h. refl)

limits_decide : (changed : Bool) (mine : Option Content) → Decides (limits_fit changed mine) (IsTrue changed → IfContent mine (λ c. IsTrue (fits c)))
limits_decide changed None = (λ e h. tt, λ h. refl)
limits_decide changed (Some c) = limit_case changed (fits c)

-- ---- one entry by itself

abbrev IsFit : ℕ → Key → Base → Option Content → Option Conflict → Type 0
IsFit next key base mine conflict =
    (((BaseFits next key base mine conflict × IsToldBase key base) × OfKind key mine) × IsFitConflict key base mine conflict) × (IsTrue (is_changed (Known base mine conflict)) → IfContent mine (λ c. IsTrue (fits c)))

fit_decides : (next : ℕ) (key : Key) (base : Base) (mine : Option Content) (conflict : Option Conflict) → Decides (is_sound_entry next key (Known base mine conflict)) (IsFit next key base mine conflict)
fit_decides next key base mine conflict =
    let id = id_fits next key base mine conflict in
    let told = told_fits key base in
    let kind = of_kind key mine in
    let why = conflict_fits key base mine conflict in
    let limits = limits_fit (is_changed (Known base mine conflict)) mine in
    Decides-and (id && told && kind && why) limits
    (Decides-and (id && told && kind) why
    (Decides-and (id && told) kind (Decides-and id told (id_decides next key base mine conflict) (told_decides key base)) (kind_decides key mine))
    (conflict_decides key base mine conflict))
    (limits_decide (is_changed (Known base mine conflict)) mine)

fit_sound : (next : ℕ) (key : Key) (base : Base) (mine : Option Content) (conflict : Option Conflict) → IsFit next key base mine conflict → IsSoundEntry next key (Known base mine conflict)
fit_sound next key base mine None h =
    let told = h.0.0.0.1 in
    record { id = h.0.0.0.0; kinds = (told.0.0, h.0.0.1, tt); server = (told.0.1, tt); versions = (told.1, tt); limits = h.1; conflict = tt }
fit_sound next key base mine (Some c) h =
    let told = h.0.0.0.1 in
    let other = h.0.1.0 in
    record { id = h.0.0.0.0; kinds = (told.0.0, h.0.0.1, other.0.0); server = (told.0.1, other.0.1); versions = (told.1, other.1); limits = h.1; conflict = h.0.1.1 }

sound_fit : (next : ℕ) (key : Key) (base : Base) (mine : Option Content) (conflict : Option Conflict) → IsSoundEntry next key (Known base mine conflict) → IsFit next key base mine conflict
sound_fit next key base mine None s = ((((s.id, ((s.kinds.0, s.server.0), s.versions.0)), s.kinds.1), tt), s.limits)
sound_fit next key base mine (Some c) s = ((((s.id, ((s.kinds.0, s.server.0), s.versions.0)), s.kinds.1), (((s.kinds.2, s.server.1), s.versions.1), s.conflict)), s.limits)

pub entry_decides : (next : ℕ) (key : Key) (e : Entry) → Decides (is_sound_entry next key e) (IsSoundEntry next key e)
entry_decides next key Incomplete =
    Decides-like (is_positive key.id) (λ id. record { id = id; kinds = tt; server = tt; versions = tt; limits = λ _. tt; conflict = tt }) (λ s. s.id) (positive_decides key.id)
entry_decides next key (Known base mine conflict) =
    Decides-like (is_sound_entry next key (Known base mine conflict)) (fit_sound next key base mine conflict) (sound_fit next key base mine conflict) (fit_decides next key base mine conflict)

-- ---- references

there_decides : (o : Option Entry) → Decides (is_there o) (IsThere o)
there_decides None = never
there_decides (Some Incomplete) = always
there_decides (Some (Known base mine conflict)) = bool_decides (is_some mine)

abbrev AreThere : TableValue → List Key → Type 0
AreThere t refs = (r : Key) → IsTrue (is_in r refs) → IsThere (entry_of t r)

all_there : (t : TableValue) (refs : List Key) → list_all (λ r. is_there (entry_of t r)) refs ≡ true → AreThere t refs
all_there t [] e r u = absurd cc
all_there t (k ∷ ks) e r u =
    let p = and_parts (is_there (entry_of t k)) (list_all (λ r. is_there (entry_of t r)) ks) e in
    by_either (is_key r k) (is_in r ks) u
    (λ same. subst (λ (q : Key). IsThere (entry_of t q)) (sym (one_key r k same)) ((there_decides (entry_of t k)).0 p.0))
    (λ later. all_there t ks p.1 r later)

there_all : (t : TableValue) (refs : List Key) → AreThere t refs → list_all (λ r. is_there (entry_of t r)) refs ≡ true
there_all t [] h = refl
there_all t (k ∷ ks) h =
    and_from (is_there (entry_of t k)) (list_all (λ r. is_there (entry_of t r)) ks)
    ((there_decides (entry_of t k)).1 (h k (ap (λ b. b || is_in k ks) (key_itself k)))) (there_all t ks (λ r u. h r (or_right (is_key r k) (is_in r ks) u)))

refs_decide : (t : TableValue) (e : Entry) → Decides (refs_there t (mine_of e)) (LivesIn t e)
refs_decide t Incomplete = (λ e r u. absurd cc, λ h. refl)
refs_decide t (Known base None conflict) = (λ e r u. absurd cc, λ h. refl)
refs_decide t (Known base (Some c) conflict) = (all_there t (refs_of c), there_all t (refs_of c))

-- Whether an entry breaks a condition of a sound table.
pub at_decides : (t : TableValue) (key : Key) (e : Entry) → Decides (is_sound_at t key e) (IsSoundEntry t.next key e × LivesIn t e)
at_decides t key e = Decides-and (is_sound_entry t.next key e) (refs_there t (mine_of e)) (entry_decides t.next key e) (refs_decide t e)

-- ---- the whole table

none_parts : (b : Bool) (k : Key) (o : Option Key) → cond b (Some k) o ≡ None → (b ≡ false) × (o ≡ None)
none_parts true k o e = absurd cc
none_parts false k o e = (refl, e)

none_found : (p : Key → Bool) (keys : List Key) → find p keys ≡ None → (q : Key) → is_in q keys ≡ true → p q ≡ false
none_found p [] e q u = absurd cc
none_found p (k ∷ ks) e q u =
    let n = none_parts (p k) k (find p ks) e in
    by_either (is_key q k) (is_in q ks) u (λ same. ap p (one_key q k same) ∙ n.0) (λ later. none_found p ks n.1 q later)

-- a table without an unsound key is sound
pub tested_sound : (t : TableValue) → IsNumber t.next → least_unsound t ≡ None → IsSound t
tested_sound t number none =
    let each : (k : Key) (e : Entry) → entry_of t k ≡ Some e → IsSoundEntry t.next k e × LivesIn t e =
    λ k e has.
    (at_decides t k e).0
    (not-false (is_sound_at t k e)
    (ap (breaks t k) (sym has) ∙ none_found (is_unsound t) (keys_by_rank t) none k (sym (fin.contains_key-keys t.entries k) ∙ ap is_some has))) in
    record { entries = λ k e has. (each k e has).0; closed = λ k e has. (each k e has).1; number = number }

pub fits_at : (t : TableValue) (k : Key) (o : Option Entry) → ((e : Entry) → o ≡ Some e → is_sound_at t k e ≡ true) → breaks t k o ≡ false
fits_at t k None h = refl
fits_at t k (Some e) h = ap not (h e refl)

-- and a sound one has none
pub sound_tested : (t : TableValue) → IsSound t → least_unsound t ≡ None
sound_tested t s = find_none (is_unsound t) (keys_by_rank t) (λ k. fits_at t k (entry_of t k) (λ e has. (at_decides t k e).1 (s.entries k e has, s.closed k e has)))
