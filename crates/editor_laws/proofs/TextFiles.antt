-- What files bring.
use Rattle.std.proofs.Common.{◌≡◌, ℕ, ◌+◌, Bool, true, false, cond, is_some, nat_lt, List, [], ◌∷◌, ◌++◌, length, Option, Some, None, Result, Ok, Err, refl, sym, subst}
use Rattle.std.specs.List.{All, AllByRecursion, filter, fold}
use Rattle.std.specs.FinMap as fin
use Rattle.std.proofs.lemmas.List.Elements.{recursion_from_All}
use Rattle.osm_base.specs.Rank.{is_key, rank_cmp}
use Rattle.osm_base.specs.RankLaws.{rank_total}
use Rattle.osm_base.specs.Tags.{Pair}
use Rattle.osm_base.specs.declared.area.Area.{Area}
use Rattle.osm_base.specs.declared.key.Key.{Key}
use Rattle.osm_base.specs.declared.members.Member.{Member}
use Rattle.osm_base.specs.declared.meta.Meta.{Meta}
use Rattle.osm_base.specs.declared.content.Content.{Content}
use Rattle.osm_base.specs.declared.content.Content.TheVariants as content
use Rattle.osm_table.specs.declared.told.Told.{Told}
use Rattle.osm_table.specs.declared.told.Told.TheVariants.{Mentioned}
use Rattle.osm_table.specs.Told.{ToldValue, told_at, with_mention, with_told}
use Rattle.opl_line.specs.declared.mode.Mode.{Mode}
use Rattle.opl_line.specs.declared.fault.LineFault.{LineFault}
use Rattle.opl_line.specs.declared.object.LineKind.{LineKind}
use Rattle.opl_line.specs.declared.object.LineKind.TheVariants.{Skipped, Object}
use Rattle.opl_line.specs.declared.object.OplObject.{OplObject}
use Rattle.opl_line.specs.Line.{line_of}
use Rattle.opl_line.specs.Writable.{AreTags, IsContent, IsMember, IsMeta, IsReadObject, IsSide}
use Rattle.opl_line.proofs.Readable.{read_kind}
use Rattle.opl_file.specs.declared.fault.FileFault.{FileFault}
use Rattle.opl_file.specs.declared.fault.FileFault.TheVariants.{FileTooLong, LineTooLong, Twice}
use Rattle.opl_file.specs.Cut.{lines_of}
use Rattle.opl_file.specs.Objects.{has_key}
use Rattle.opl_file.specs.Reading.{with_line, taken, and_then, objects_from, objects_of}
use Rattle.download.specs.Filter.{filtered, is_whole, keeps, kept, tags_wanted}
use Rattle.download.specs.Tell.{all_told, nothing, references, told_of, told_of_object, told_side}
use Rattle.upload_order.proofs.Basics.{none_some}
use Rattle.job_laws.proofs.SplitHolds.{all_filtered}
use Rattle.editor_laws.proofs.SeenLists.{IfSome}
use Rattle.editor_laws.specs.Texts.{AreRoles, AreTexts, HasTexts, IsTag, IsTextSide, IsTextTold}

-- What was read has texts that may be written.

pub tags_back : (tags : List Pair) → AreTags tags → AreTexts tags
tags_back tags h = (h.0, recursion_from_All IsTag tags h.1)

roles_by : (members : List Member) → AllByRecursion IsMember members → AreRoles members
roles_by [] h = tt
roles_by (m ∷ ms) h = (h.0.1, roles_by ms h.1)

pub roles_back : (members : List Member) → All IsMember members → AreRoles members
roles_back members h = roles_by members (recursion_from_All IsMember members h)

pub content_back : (c : Content) → IsContent c → HasTexts c
content_back (content.Node tags at) h = tags_back tags h
content_back (content.Way tags refs) h = tags_back tags h.0
content_back (content.Relation tags members) h = (tags_back tags h.0, roles_back members h.1)

abbrev pub IsTextObject : OplObject → Type 0
IsTextObject o = IsTextSide (told_of_object o)

side_texts : (key : Key) (version : ℕ) (side : Option Content) (meta : Meta) → IsSide key side → IsMeta meta → IsTextSide (told_side version side meta)
side_texts key version None meta is m = m
side_texts key version (Some c) meta is m = (content_back c is.1, m)

pub object_texts : (mode : Mode) (o : OplObject) → IsReadObject mode (Object o) → IsTextObject o
object_texts mode o h = side_texts o.key o.version o.side o.meta h.0.content h.0.known

-- A line more.

abbrev AreTextObjects : List OplObject → Type 0
AreTextObjects os = AllByRecursion IsTextObject os

more_texts : (os : List OplObject) (o : OplObject) → AreTextObjects os → IsTextObject o → AreTextObjects (os ++ o ∷ [])
more_texts [] o all here = (here, tt)
more_texts (p ∷ ps) o all here = (all.0, more_texts ps o all.1 here)

unless_twice : (n : ℕ) (more next : List OplObject) (twice : Bool) → AreTextObjects more → cond twice (Err (Twice n)) (Ok more) ≡ Ok next → AreTextObjects next
unless_twice n more next true all e = absurd cc
unless_twice n more next false all e = subst AreTextObjects (let h : more ≡ next = cc in h) all

module _ (mode : Mode) where
  with_line_texts : (n : ℕ) (os next : List OplObject) (r : Result LineKind LineFault) → AreTextObjects os → ((kind : LineKind) → r ≡ Ok kind → IsReadObject mode kind) → with_line n os r ≡ Ok next → AreTextObjects next
  with_line_texts n os next (Err fault) all reads e = absurd cc
  with_line_texts n os next (Ok Skipped) all reads e = subst AreTextObjects (let h : os ≡ next = cc in h) all
  with_line_texts n os next (Ok (Object o)) all reads e = unless_twice n (os ++ o ∷ []) next (has_key os o.key) (more_texts os o all (object_texts mode o (reads (Object o) refl))) e

  line_texts : (n : ℕ) (os next : List OplObject) (line : List ℕ) (long : Bool) → AreTextObjects os → cond long (Err (LineTooLong n)) (with_line n os (line_of mode line)) ≡ Ok next → AreTextObjects next
  line_texts n os next line true all e = absurd cc
  line_texts n os next line false all e = with_line_texts n os next (line_of mode line) all (λ kind is. read_kind mode line kind is) e

  taken_texts : (n : ℕ) (os next : List OplObject) (line : List ℕ) → AreTextObjects os → taken mode n os line ≡ Ok next → AreTextObjects next
  unfolding taken
  taken_texts n os next line all e = line_texts n os next line (nat_lt 16777216 (length line)) all e

  after_line : (n : ℕ) (lines : List (List ℕ)) (next : List OplObject) (r : Result (List OplObject) FileFault)
      → ((more : List OplObject) → r ≡ Ok more → AreTextObjects more)
      → ((more : List OplObject) → AreTextObjects more → objects_from mode (n + 1) more lines ≡ Ok next → AreTextObjects next)
      → and_then r (λ more. objects_from mode (n + 1) more lines) ≡ Ok next → AreTextObjects next
  after_line n lines next (Err fault) here on e = absurd cc
  after_line n lines next (Ok more) here on e = on more (here more refl) e

  lines_texts : (lines : List (List ℕ)) (n : ℕ) (os next : List OplObject) → AreTextObjects os → objects_from mode n os lines ≡ Ok next → AreTextObjects next
  lines_texts [] n os next all e = subst AreTextObjects (let h : os ≡ next = cc in h) all
  lines_texts (line ∷ lines) n os next all e =
      after_line n lines next (taken mode n os line) (λ more is. taken_texts n os more line all is) (λ more here is. lines_texts lines (n + 1) more next here is) e

  file_texts : (lines : List (List ℕ)) (next : List OplObject) (long : Bool) → cond long (Err FileTooLong) (objects_from mode 1 [] lines) ≡ Ok next → AreTextObjects next
  file_texts lines next true e = absurd cc
  file_texts lines next false e = lines_texts lines 1 [] next tt e

  -- The objects of a file.
  pub read_texts : (limit : ℕ) (bytes : List ℕ) (objects : List OplObject) → objects_of mode limit bytes ≡ Ok objects → AllByRecursion IsTextObject objects
  unfolding objects_of
  read_texts limit bytes objects e = file_texts (lines_of bytes) objects (nat_lt limit (length bytes)) e

-- What they tell.

abbrev IfSide : Option Told → Type 0
IfSide o = IfSome IsTextSide o

side_at : (m : ToldValue) (k : Key) (o : Option Told) → IsTextTold m → told_at m k ≡ o → IfSide o
side_at m k None h is = tt
side_at m k (Some s) h is = h.sides k s is

told_table : (m : ToldValue) → ((k : Key) → IfSide (told_at m k)) → IsTextTold m
told_table m h = record { sides = λ k s is. subst IfSide is (h k) }

either_side : (b : Bool) (o p : Option Told) → IfSide o → IfSide p → IfSide (cond b o p)
either_side true o p h i = h
either_side false o p h i = i

pub with_told_texts : (m : ToldValue) (key : Key) (s : Told) → IsTextSide s → IsTextTold m → IsTextTold (with_told m key s)
with_told_texts m key s i h =
    told_table (with_told m key s) (λ k. subst IfSide (sym (fin.get-insert rank_total m.told key s k)) (either_side (is_key k key) (Some s) (told_at m k) i (side_at m k (told_at m k) h refl)))

unless_told : (b : Bool) (m : ToldValue) (key : Key) → IsTextTold m → IsTextTold (cond b m (with_told m key Mentioned))
unless_told true m key h = h
unless_told false m key h = with_told_texts m key Mentioned tt h

mentions_texts : (m : ToldValue) (ks : List Key) → IsTextTold m → IsTextTold (fold with_mention m ks)
mentions_texts m [] h = h
mentions_texts m (k ∷ ks) h = mentions_texts (with_mention m k) ks (unless_told (is_some (told_at m k)) m k h)

all_told_texts : (m : ToldValue) (os : List OplObject) → AllByRecursion IsTextObject os → IsTextTold m → IsTextTold (all_told m os)
all_told_texts m [] i h = h
all_told_texts m (o ∷ os) i h = all_told_texts (with_told m o.key (told_of_object o)) os i.1 (with_told_texts m o.key (told_of_object o) i.0 h)

pub nothing_texts : IsTextTold nothing
nothing_texts = record { sides = λ k s is. none_some s (told_at nothing k) (fin.get-empty rank_cmp k) is }

pub told_texts : (os : List OplObject) → AllByRecursion IsTextObject os → IsTextTold (told_of os)
told_texts os i = mentions_texts (all_told nothing os) (references os) (all_told_texts nothing os i nothing_texts)

kept_case : (b : Bool) (os passed : List OplObject) → AllByRecursion IsTextObject os → AllByRecursion IsTextObject passed → AllByRecursion IsTextObject (cond b os passed)
kept_case true os passed h i = h
kept_case false os passed h i = i

-- What a download tells.
pub filtered_texts : (os : List OplObject) (area : Option Area) (wanted : Option (List Pair)) → AllByRecursion IsTextObject os → IsTextTold (filtered os area wanted)
filtered_texts os area wanted i =
    told_texts (kept os area (tags_wanted wanted)) (kept_case (is_whole area (tags_wanted wanted)) os (filter (keeps os area (tags_wanted wanted)) os) i (all_filtered IsTextObject (keeps os area (tags_wanted wanted)) os i))
