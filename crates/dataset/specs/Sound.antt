-- A sound table: what is asked of each entry by itself, of the references between entries, and of the number.
use Rattle.std.specs.Prelude.{◌≡◌, ◌≢◌, ◌≤◌, ◌<◌, ◌^◌, ℕ, ℤ, suc, pos, negsuc, Option, Some, None, IsSome, IsTrue}
use Rattle.std.specs.List.{AllByRecursion}
use Rattle.osm_base.specs.Content.{refs_of, kind_of_content, fits}
use Rattle.osm_base.specs.declared.key.Key.{Key}
use Rattle.osm_base.specs.declared.content.Content.{Content}
use Rattle.osm_table.specs.declared.entry.Base.{Base}
use Rattle.osm_table.specs.declared.entry.Base.TheVariants.{New, Live, Gone}
use Rattle.osm_table.specs.declared.entry.Why.{Why}
use Rattle.osm_table.specs.declared.entry.Why.TheVariants.{Changed, Held, Withdrawn}
use Rattle.osm_table.specs.declared.entry.Conflict.{Conflict}
use Rattle.osm_table.specs.declared.entry.Entry.{Entry}
use Rattle.osm_table.specs.declared.entry.Entry.TheVariants.{Incomplete, Known}
use Rattle.osm_table.specs.Table.{TableValue, entry_of, mine_of, held_by, version_of, is_changed, Each, IsThere, IfContent, IsPositive, uses}
use Rattle.osm_table.specs.Told.{IsVersion}

-- the base of a conflict, where there is one, meets a condition
abbrev pub IfTheirs : Option Conflict → (Base → Type 0) → Type 0
IfTheirs None P = Unit {0}
IfTheirs (Some c) P = P c.theirs

-- the parts of an entry that isn't Incomplete meet a condition
abbrev pub IfKnown : Entry → (Base → Option Content → Option Conflict → Type 0) → Type 0
IfKnown Incomplete P = Unit {0}
IfKnown (Known base mine conflict) P = P base mine conflict

-- versions are 1 to 2,000,000,000
abbrev pub HasVersion : Base → Type 0
HasVersion New = Unit {0}
HasVersion (Live version content meta) = IsVersion version
HasVersion (Gone version meta) = IsVersion version

abbrev pub IsLive : Base → Type 0
IsLive New = ⊥
IsLive (Live version content meta) = Unit {0}
IsLive (Gone version meta) = ⊥

abbrev pub IsGone : Base → Type 0
IsGone New = ⊥
IsGone (Live version content meta) = ⊥
IsGone (Gone version meta) = Unit {0}

-- a content of the key's kind
abbrev pub OfKind : Key → Option Content → Type 0
OfKind k o = IfContent o (λ c. kind_of_content c ≡ k.kind)

-- references to positive ids alone
abbrev pub FromTheServer : Option Content → Type 0
FromTheServer o = IfContent o (λ c. AllByRecursion (λ r. IsPositive r.id) (refs_of c))

-- a negative id above minus the number
abbrev pub IsGiven : ℕ → ℤ → Type 0
IsGiven next (pos n) = ⊥
IsGiven next (negsuc n) = suc n < next

-- A base that a server gave has a positive id. One that is New has a given id, and its entry lives without a conflict.
abbrev pub BaseFits : ℕ → Key → Base → Option Content → Option Conflict → Type 0
BaseFits next k New mine conflict = IsGiven next k.id × IsSome mine × (conflict ≡ None)
BaseFits next k (Live version content meta) mine conflict = IsPositive k.id
BaseFits next k (Gone version meta) mine conflict = IsPositive k.id

-- An Incomplete entry has a positive id.
abbrev pub IdFits : ℕ → Key → Entry → Type 0
IdFits next k Incomplete = IsPositive k.id
IdFits next k (Known base mine conflict) = BaseFits next k base mine conflict

-- Changed: theirs is newer than the base, and mine differs from what either holds. Held: the base is Live, mine is its
-- content, theirs is Gone and newer. Withdrawn: the base is Live, mine is its content, theirs is the base.
abbrev pub WhyFits : Why → Base → Base → Option Content → Type 0
WhyFits Changed theirs base mine = (version_of base < version_of theirs) × (mine ≢ held_by base) × (mine ≢ held_by theirs)
WhyFits Held theirs base mine = IsLive base × (mine ≡ held_by base) × IsGone theirs × (version_of base < version_of theirs)
WhyFits Withdrawn theirs base mine = IsLive base × (mine ≡ held_by base) × (theirs ≡ base)

abbrev pub ConflictFits : Base → Option Content → Option Conflict → Type 0
ConflictFits base mine None = Unit {0}
ConflictFits base mine (Some c) = WhyFits c.why c.theirs base mine

-- What is asked of one entry by itself. The number is the table's.
pub record IsSoundEntry (next : ℕ) (k : Key) (e : Entry) : Type 0 where
  -- its key's id is one that such an entry may have
  pub id : IdFits next k e
  -- its contents have its key's kind
  pub kinds : IfKnown e (λ base mine conflict. OfKind k (held_by base) × OfKind k mine × IfTheirs conflict (λ theirs. OfKind k (held_by theirs)))
  -- what servers told refers to positive ids alone
  pub server : IfKnown e (λ base mine conflict. FromTheServer (held_by base) × IfTheirs conflict (λ theirs. FromTheServer (held_by theirs)))
  -- and has versions of servers
  pub versions : IfKnown e (λ base mine conflict. HasVersion base × IfTheirs conflict HasVersion)
  -- if it is changed and living, it fits into the limits
  pub limits : IsTrue (is_changed e) → IfContent (mine_of e) (λ c. IsTrue (fits c))
  -- its conflict is what its cause says
  pub conflict : IfKnown e ConflictFits

-- each reference of the entry, if it lives, is to one that is living or Incomplete
abbrev pub LivesIn : TableValue → Entry → Type 0
LivesIn t e = (r : Key) → IsTrue (uses e r) → IsThere (entry_of t r)

-- a number that a next new object may have
abbrev pub IsNumber : ℕ → Type 0
IsNumber next = (1 ≤ next) × (next ≤ 10 ^ 18)

-- A sound table.
pub record IsSound (t : TableValue) : Type 0 where
  -- each entry is sound by itself
  pub entries : Each t (IsSoundEntry t.next)
  -- no living entry refers to what isn't there
  pub closed : Each t (λ k e. LivesIn t e)
  -- the next new object can have its number
  pub number : IsNumber t.next
