-- The entries of a sound table that a reader can give have written forms that spell them.
use Rattle.std.proofs.Common.{◌≡◌, ℕ, ℤ, pos, negsuc, ◌≤◌, ◌<◌, ◌^◌, true, [], Option, Some, None, refl, sym, subst, ◌∙◌, arith}
use Rattle.std.specs.FinMap as fin
use Rattle.std.proofs.lemmas.Bool.Decides.{nat_tests}
use Rattle.osm_base.specs.Number.{IsId, id_test}
use Rattle.osm_base.specs.Content.{kind_of_content}
use Rattle.osm_base.specs.Meta.{empty_meta}
use Rattle.osm_base.specs.declared.key.Key.{Key}
use Rattle.osm_base.specs.declared.meta.Meta.{Meta}
use Rattle.osm_base.specs.declared.content.Content.{Content}
use Rattle.osm_table.specs.declared.entry.Base.{Base}
use Rattle.osm_table.specs.declared.entry.Base.TheVariants.{New, Live, Gone}
use Rattle.osm_table.specs.declared.entry.Why.{Why}
use Rattle.osm_table.specs.declared.entry.Why.TheVariants.{Changed, Held, Withdrawn}
use Rattle.osm_table.specs.declared.entry.Conflict.{Conflict}
use Rattle.osm_table.specs.declared.entry.Entry.{Entry}
use Rattle.osm_table.specs.declared.entry.Entry.TheVariants.{Incomplete, Known}
use Rattle.osm_table.specs.Table.{TableValue, entry_of, IfContent, IsPositive, held_by, version_of}
use Rattle.osm_table.specs.Told.{IsVersion}
use Rattle.dataset.specs.Sound.{IsSound, IsSoundEntry, IfKnown, IfTheirs, OfKind, HasVersion, BaseFits, IsNumber, WhyFits, IsLive, IsGone}
use Rattle.dataset.proofs.Ids.{positive_id, given_id, told_id}
use Rattle.opl_line.specs.Writable.{IsContent, IsMeta, IsWritable}
use Rattle.opl_line.specs.Writable as line
use Rattle.saved_session.specs.Saved.{mine_version}
use Rattle.saved_session.specs.Savable.{IsReadableBase, IsReadableEntry, AreReadable}
use Rattle.saved_session.proofs.ByKey.{Every, every_found}

-- an object of a server with a written form that spells it
abbrev pub IsServerWritable : Key → Base → Type 0
IsServerWritable key New = ⊥
IsServerWritable key (Live version content meta) = IsWritable key version (Some content) meta
IsServerWritable key (Gone version meta) = IsWritable key version None meta

abbrev pub IsBaseWritable : Key → Base → Type 0
IsBaseWritable key New = Unit {0}
IsBaseWritable key (Live version content meta) = IsWritable key version (Some content) meta
IsBaseWritable key (Gone version meta) = IsWritable key version None meta

-- An entry whose lines spell it.
pub record IsSavable (key : Key) (base : Base) (mine : Option Content) (conflict : Option Conflict) : Type 0 where
  pub base_is : IsBaseWritable key base
  pub mine_is : IfContent mine (λ c. IsWritable key (mine_version key.id) (Some c) empty_meta)
  pub theirs_is : IfTheirs conflict (IsServerWritable key)

abbrev pub IsSavableEntry : Key → Entry → Type 0
IsSavableEntry key e = IsId key.id × IfKnown e (IsSavable key)

server_version : (z : ℤ) (version : ℕ) → IsPositive z → IsVersion version → line.HasVersion z version
server_version (pos n) version h v = v
server_version (negsuc n) version h v = absurd h

pub own_version : (z : ℤ) → line.HasVersion z (mine_version z)
own_version (pos n) = (omega arith, omega arith)
own_version (negsuc n) = refl

pub none_known : IsMeta empty_meta
none_known = record { changeset = omega arith; time = tt; uid = omega arith; user = (([], (refl, refl)), refl) }

live_writable : (key : Key) (version : ℕ) (content : Content) (meta : Meta) → IsPositive key.id → kind_of_content content ≡ key.kind → IsVersion version → IsContent content → IsMeta meta → IsWritable key version (Some content) meta
live_writable key version content meta id kind v c m = record { id = positive_id key.id id; version_fits = server_version key.id version id v; content = (kind, c); known = m }

gone_writable : (key : Key) (version : ℕ) (meta : Meta) → IsPositive key.id → IsVersion version → IsMeta meta → IsWritable key version None meta
gone_writable key version meta id v m = record { id = positive_id key.id id; version_fits = server_version key.id version id v; content = tt; known = m }

-- what a server told
server_writable : (key : Key) (base : Base) → IsPositive key.id → (base ≡ New → ⊥) → OfKind key (held_by base) → HasVersion base → IsReadableBase base → IsServerWritable key base
server_writable key New id other kind v r = other refl
server_writable key (Live version content meta) id other kind v r = live_writable key version content meta id kind v r.0 r.1
server_writable key (Gone version meta) id other kind v r = gone_writable key version meta id v r

-- the id of a known key
known_id : (next : ℕ) (key : Key) (base : Base) (mine : Option Content) (conflict : Option Conflict) → next ≤ 10 ^ 18 → BaseFits next key base mine conflict → IsId key.id
known_id next key New mine conflict most h = given_id next key.id most h.0
known_id next key (Live version content meta) mine conflict most h = positive_id key.id h
known_id next key (Gone version meta) mine conflict most h = positive_id key.id h

base_writable : (next : ℕ) (key : Key) (base : Base) (mine : Option Content) (conflict : Option Conflict) → BaseFits next key base mine conflict → OfKind key (held_by base) → HasVersion base → IsReadableBase base → IsBaseWritable key base
base_writable next key New mine conflict fits kind v r = tt
base_writable next key (Live version content meta) mine conflict fits kind v r = live_writable key version content meta fits kind v r.0 r.1
base_writable next key (Gone version meta) mine conflict fits kind v r = gone_writable key version meta fits v r

mine_writable : (key : Key) (mine : Option Content) → IsId key.id → OfKind key mine → IfContent mine IsContent → IfContent mine (λ c. IsWritable key (mine_version key.id) (Some c) empty_meta)
mine_writable key None id kind r = tt
mine_writable key (Some c) id kind r = record { id = id; version_fits = own_version key.id; content = (kind, r); known = none_known }

not_new : (why : Why) (theirs base : Base) (mine : Option Content) → WhyFits why theirs base mine → theirs ≡ New → ⊥
not_new Changed theirs base mine h e = let less : version_of base < version_of New = subst (λ (b : Base). version_of base < version_of b) e h.0 in omega arith
not_new Held theirs base mine h e = subst IsGone e h.2
not_new Withdrawn theirs base mine h e = subst IsLive (sym h.2 ∙ e) h.0

-- a sound entry whose objects a reader can give
entry_savable : (next : ℕ) (key : Key) (e : Entry) → next ≤ 10 ^ 18 → IsSoundEntry next key e → IsReadableEntry e → IsSavableEntry key e
entry_savable next key Incomplete most s r = (positive_id key.id s.id, tt)
entry_savable next key (Known base mine None) most s r =
    let id = known_id next key base mine None most s.id in
    (id, record { base_is = base_writable next key base mine None s.id s.kinds.0 s.versions.0 r.0; mine_is = mine_writable key mine id s.kinds.1 r.1; theirs_is = tt })
entry_savable next key (Known base mine (Some c)) most s r =
    let id = known_id next key base mine (Some c) most s.id in (
      id,
      record {
        base_is = base_writable next key base mine (Some c) s.id s.kinds.0 s.versions.0 r.0;
        mine_is = mine_writable key mine id s.kinds.1 r.1;
        theirs_is = server_writable key c.theirs (told_id next key base mine c s.id) (not_new c.why c.theirs base mine s.conflict) s.kinds.2 s.versions.1 r.2;
      },
    )

pub number_id : (next : ℕ) → IsNumber next → id_test next ≡ true
number_id next h = grind (arith, nat_tests)

pub number_is : (next : ℕ) → id_test next ≡ true → IsNumber next
number_is next e = grind (arith, nat_tests, e)

pub sound_savable : (t : TableValue) → IsSound t → AreReadable t → Every IsSavableEntry (fin.entries t.entries)
sound_savable t s r =
    every_found IsSavableEntry (fin.entries t.entries) (fin.entries_sorted t.entries)
    (λ k e found. let there : entry_of t k ≡ Some e = fin.get-entries t.entries k ∙ found in entry_savable t.next k e s.number.1 (s.entries k e there) (r k e there))
