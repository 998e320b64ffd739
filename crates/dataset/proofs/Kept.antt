-- Drafts that keep a table sound.
use Rattle.std.proofs.Common.{◌≡◌, ◌≤◌, ℕ, ℤ, pos, negsuc, true, false, is_some, Option, None, sym, ◌∙◌, ap, subst, arith}
use Rattle.osm_base.specs.declared.key.Key.{Key}
use Rattle.osm_base.specs.declared.content.Content.{Content}
use Rattle.osm_table.specs.declared.entry.Base.{Base}
use Rattle.osm_table.specs.declared.entry.Base.TheVariants.{New, Live, Gone}
use Rattle.osm_table.specs.declared.entry.Conflict.{Conflict}
use Rattle.osm_table.specs.declared.entry.Entry.{Entry}
use Rattle.osm_table.specs.declared.entry.Entry.TheVariants.{Incomplete, Known}
use Rattle.osm_table.specs.Table.{TableValue, entry_of}
use Rattle.dataset.specs.Draft.{DraftValue, drafted}
use Rattle.dataset.specs.Patch.{PatchValue, IsDiff, after_of}
use Rattle.dataset.specs.Sound.{IsSound, IsSoundEntry, IsNumber, IdFits, BaseFits, IsGiven}
use Rattle.dataset.proofs.Laws.{diff_leads}

given_more : (n m : ℕ) (i : ℤ) → n ≤ m → IsGiven n i → IsGiven m i
given_more n m (pos i) l g = g
given_more n m (negsuc i) l g = omega (arith, l, g)

base_more : (n m : ℕ) (k : Key) (base : Base) (mine : Option Content) (conflict : Option Conflict) → n ≤ m → BaseFits n k base mine conflict → BaseFits m k base mine conflict
base_more n m k New mine conflict l h = (given_more n m k.id l h.0, h.1, h.2)
base_more n m k (Live v c meta) mine conflict l h = h
base_more n m k (Gone v meta) mine conflict l h = h

id_more : (n m : ℕ) (k : Key) (e : Entry) → n ≤ m → IdFits n k e → IdFits m k e
id_more n m k Incomplete l h = h
id_more n m k (Known base mine conflict) l h = base_more n m k base mine conflict l h

-- a larger number asks no more
pub entry_more : (n m : ℕ) (k : Key) (e : Entry) → n ≤ m → IsSoundEntry n k e → IsSoundEntry m k e
entry_more n m k e l s = record { id = id_more n m k e l s.id; kinds = s.kinds; server = s.server; versions = s.versions; limits = s.limits; conflict = s.conflict }

-- the difference is applied where the draft's table is sound
pub diff_sound : (d : DraftValue) (t : TableValue) (p : PatchValue) → IsDiff t (drafted d t) p → IsSound (drafted d t) → IsSound (after_of p t)
diff_sound d t p is s = subst IsSound (diff_leads t (drafted d t) p is).to s

-- no table, no fault
pub empty_sound : (t : TableValue) → ((k : Key) → entry_of t k ≡ None) → IsNumber t.next → IsSound t
empty_sound t none n = record {
  entries = λ k e has. let f : true ≡ false = ap is_some (sym has ∙ none k) in cc;
  closed = λ k e has. let f : true ≡ false = ap is_some (sym has ∙ none k) in cc;
  number = n;
}
