-- No line of a saved session has an LF or a CR.
use Rattle.std.proofs.Common.{◌≡◌, ℕ, ℤ, ◌≤◌, Bool, true, false, List, [], ◌∷◌, ◌++◌, Option, Some, None, is_some, refl, arith}
use Rattle.std.specs.Prelude.{codes, not, decimal}
use Rattle.std.specs.List.{list_all}
use Rattle.std.proofs.lemmas.Bool.Decides.{nat_tests}
use Rattle.osm_base.specs.Coord.{coord_written}
use Rattle.osm_base.specs.Number.{key_written}
use Rattle.osm_base.specs.Meta.{empty_meta}
use Rattle.osm_base.specs.Tags.{Pair}
use Rattle.osm_base.specs.declared.key.Key.{Key}
use Rattle.osm_base.specs.declared.key.Kind.{Kind}
use Rattle.osm_base.specs.declared.key.Kind.TheVariants.{Node, Way, Relation}
use Rattle.osm_base.specs.declared.meta.Meta.{Meta}
use Rattle.osm_base.specs.declared.members.Member.{Member}
use Rattle.osm_base.specs.declared.content.Content.{Content}
use Rattle.osm_base.specs.declared.content.Content.TheVariants as content
use Rattle.osm_table.specs.Table.{held_by, meta_of, version_of}
use Rattle.osm_table.specs.declared.entry.Base.{Base}
use Rattle.osm_table.specs.declared.entry.Base.TheVariants as bases
use Rattle.osm_table.specs.declared.entry.Why.{Why}
use Rattle.osm_table.specs.declared.entry.Why.TheVariants.{Changed, Held, Withdrawn}
use Rattle.osm_table.specs.declared.entry.Conflict.{Conflict}
use Rattle.osm_table.specs.declared.entry.Entry.{Entry}
use Rattle.osm_table.specs.declared.entry.Entry.TheVariants as entry
use Rattle.opl_text.specs.Ends.{ends_nothing}
use Rattle.opl_text.specs.Text.{escaped}
use Rattle.opl_text.specs.Time.{time_written}
use Rattle.opl_text.proofs.TimeLaw.{time_plain}
use Rattle.opl_line.specs.Cut.{is_one_of}
use Rattle.opl_line.specs.Written.{back_pieces, content_pieces, front_pieces, member_written, ref_written, side_pieces, sight, spaced, tag_written, written}
use Rattle.opl_line.proofs.ListsAgain.{text_unbroken}
use Rattle.opl_line.proofs.Unbroken.{AllUnbroken, Unbroken, all_unbroken_append, coord_unbroken, decimal_unbroken, key_unbroken, signed_unbroken, unbroken_append, unbroken_from, unbroken_listed, unbroken_spaced}
use Rattle.saved_session.specs.Words.{base_written, head_written, header_written, mine_word, mine_written, why_written, words_of, words_written}
use Rattle.saved_session.specs.Saved.{base_lines, entries_lines, entry_lines, mine_lines, mine_version, own_written, server_written, theirs_lines}
use Rattle.saved_session.specs.Reading.{Entries}
use Rattle.saved_session.specs.declared.words.BaseWord.{BaseWord}
use Rattle.saved_session.specs.declared.words.BaseWord.TheVariants.{New, Live, Gone}
use Rattle.saved_session.specs.declared.words.MineWord.{MineWord}
use Rattle.saved_session.specs.declared.words.MineWord.TheVariants.{Same, Absent, Own}
use Rattle.saved_session.specs.declared.words.Words.{Words}
use Rattle.saved_session.specs.declared.words.Head.{Head}
use Rattle.saved_session.specs.declared.words.Head.TheVariants.{Incomplete, Known, End}

-- LF or CR
abbrev pub is_end : ℕ → Bool
is_end = is_one_of 10 13

spares_digits : (b : ℕ) → 48 ≤ b → is_end b ≡ false
spares_digits b h = grind (arith, nat_tests)

spares_plain : (b : ℕ) → ends_nothing b ≡ true → is_end b ≡ false
spares_plain b h = grind (arith, nat_tests)

spared : (b : ℕ) → not (is_end b) ≡ true → is_end b ≡ false
spared b h = grind (arith, nat_tests)

-- words of the format have none
plain : (bytes : List ℕ) → list_all (λ b. not (is_end b)) bytes ≡ true → Unbroken is_end bytes
plain bytes h = unbroken_from (λ b. not (is_end b)) is_end bytes spared h

-- ---- objects

plain_decimal : (n : ℕ) → Unbroken is_end (decimal n)
plain_decimal n = decimal_unbroken is_end n (λ b least most. spares_digits b least)

plain_key : (key : Key) → Unbroken is_end (key_written key)
plain_key key = key_unbroken is_end key refl spares_digits

plain_coord : (z : ℤ) → Unbroken is_end (coord_written z)
plain_coord z = coord_unbroken is_end z refl refl spares_digits

plain_text : (text : List ℕ) → Unbroken is_end (escaped text)
plain_text text = text_unbroken is_end text spares_plain

plain_tag : (tag : Pair) → Unbroken is_end (tag_written tag)
plain_tag tag = unbroken_append is_end (escaped tag.0) (61 ∷ escaped tag.1) (plain_text tag.0) (refl, plain_text tag.1)

plain_ref : (id : ℤ) → Unbroken is_end (ref_written id)
plain_ref id = (refl, signed_unbroken is_end id refl (λ b least most. spares_digits b least))

plain_member : (m : Member) → Unbroken is_end (member_written m)
plain_member m = unbroken_append is_end (key_written m.key) (64 ∷ escaped m.role) (plain_key m.key) (refl, plain_text m.role)

plain_sight : (visible : Bool) → is_end (sight visible) ≡ false
plain_sight true = refl
plain_sight false = refl

plain_front : (version : ℕ) (visible : Bool) (changeset : ℕ) → AllUnbroken is_end (front_pieces version visible changeset)
plain_front version visible changeset = ((refl, plain_decimal version), ((refl, (plain_sight visible, tt)), ((refl, plain_decimal changeset), tt)))

plain_back : (meta : Meta) → AllUnbroken is_end (back_pieces meta)
plain_back meta = ((refl, unbroken_from ends_nothing is_end (time_written meta.time) spares_plain (time_plain meta.time)), ((refl, plain_decimal meta.uid), ((refl, plain_text meta.user), tt)))

plain_content : (c : Content) → AllUnbroken is_end (content_pieces c)
plain_content (content.Node tags at) = ((refl, unbroken_listed is_end tag_written tags refl plain_tag), ((refl, plain_coord at.lon), ((refl, plain_coord at.lat), tt)))
plain_content (content.Way tags refs) = ((refl, unbroken_listed is_end tag_written tags refl plain_tag), ((refl, unbroken_listed is_end ref_written refs refl plain_ref), tt))
plain_content (content.Relation tags members) = ((refl, unbroken_listed is_end tag_written tags refl plain_tag), ((refl, unbroken_listed is_end member_written members refl plain_member), tt))

plain_side : (kind : Kind) (side : Option Content) → AllUnbroken is_end (side_pieces kind side)
plain_side Node None = ((refl, tt), ((refl, tt), ((refl, tt), tt)))
plain_side Way None = ((refl, tt), ((refl, tt), tt))
plain_side Relation None = ((refl, tt), ((refl, tt), tt))
plain_side kind (Some c) = plain_content c

plain_written : (key : Key) (version : ℕ) (side : Option Content) (meta : Meta) → Unbroken is_end (written key version side meta)
unfolding written
plain_written key version side meta =
    let front = front_pieces version (is_some side) meta.changeset in
    unbroken_append is_end (key_written key) (spaced front ++ (spaced (back_pieces meta) ++ spaced (side_pieces key.kind side))) (plain_key key)
    (unbroken_append is_end (spaced front) (spaced (back_pieces meta) ++ spaced (side_pieces key.kind side)) (unbroken_spaced is_end front refl (plain_front version (is_some side) meta.changeset))
    (unbroken_append is_end (spaced (back_pieces meta)) (spaced (side_pieces key.kind side)) (unbroken_spaced is_end (back_pieces meta) refl (plain_back meta)) (unbroken_spaced is_end (side_pieces key.kind side) refl (plain_side key.kind side))))

pub base_plain : (key : Key) (base : Base) → Unbroken is_end (codes "base " ++ server_written key base)
base_plain key base = unbroken_append is_end (codes "base ") (server_written key base) (plain (codes "base ") refl) (plain_written key (version_of base) (held_by base) (meta_of base))

pub mine_plain : (key : Key) (mine : Option Content) → Unbroken is_end (codes "mine " ++ own_written key mine)
mine_plain key mine = unbroken_append is_end (codes "mine ") (own_written key mine) (plain (codes "mine ") refl) (plain_written key (mine_version key.id) mine empty_meta)

pub theirs_plain : (key : Key) (base : Base) → Unbroken is_end (codes "theirs " ++ server_written key base)
theirs_plain key base = unbroken_append is_end (codes "theirs ") (server_written key base) (plain (codes "theirs ") refl) (plain_written key (version_of base) (held_by base) (meta_of base))

-- ---- heads

base_word_plain : (word : BaseWord) → Unbroken is_end (base_written word)
base_word_plain New = plain (base_written New) refl
base_word_plain Live = plain (base_written Live) refl
base_word_plain Gone = plain (base_written Gone) refl

mine_word_plain : (word : MineWord) → Unbroken is_end (mine_written word)
mine_word_plain Same = plain (mine_written Same) refl
mine_word_plain Absent = plain (mine_written Absent) refl
mine_word_plain Own = plain (mine_written Own) refl

why_word_plain : (why : Option Why) → Unbroken is_end (why_written why)
why_word_plain None = plain (why_written None) refl
why_word_plain (Some Changed) = plain (why_written (Some Changed)) refl
why_word_plain (Some Held) = plain (why_written (Some Held)) refl
why_word_plain (Some Withdrawn) = plain (why_written (Some Withdrawn)) refl

words_plain : (w : Words) → Unbroken is_end (words_written w)
words_plain w =
    unbroken_append is_end (base_written w.base) (32 ∷ (mine_written w.mine ++ 32 ∷ why_written w.why)) (base_word_plain w.base)
    (refl, unbroken_append is_end (mine_written w.mine) (32 ∷ why_written w.why) (mine_word_plain w.mine) (refl, why_word_plain w.why))

pub head_plain : (h : Head) → Unbroken is_end (head_written h)
head_plain (Incomplete key) = unbroken_append is_end (codes "incomplete ") (key_written key) (plain (codes "incomplete ") refl) (plain_key key)
head_plain (Known key w) =
    unbroken_append is_end (codes "known ") (key_written key ++ 32 ∷ words_written w) (plain (codes "known ") refl)
    (unbroken_append is_end (key_written key) (32 ∷ words_written w) (plain_key key) (refl, words_plain w))
head_plain End = plain (codes "session end") refl

pub header_plain : (n : ℕ) → Unbroken is_end (header_written n)
header_plain n = unbroken_append is_end (codes "session 1 ") (decimal n) (plain (codes "session 1 ") refl) (plain_decimal n)

-- ---- all lines

bases_plain : (key : Key) (base : Base) → AllUnbroken is_end (base_lines key base)
bases_plain key bases.New = tt
bases_plain key (bases.Live version content meta) = (base_plain key (bases.Live version content meta), tt)
bases_plain key (bases.Gone version meta) = (base_plain key (bases.Gone version meta), tt)

mines_plain : (key : Key) (word : MineWord) (mine : Option Content) → AllUnbroken is_end (mine_lines key word mine)
mines_plain key Same mine = tt
mines_plain key Absent mine = tt
mines_plain key Own mine = (mine_plain key mine, tt)

theirs_are_plain : (key : Key) (conflict : Option Conflict) → AllUnbroken is_end (theirs_lines key conflict)
theirs_are_plain key None = tt
theirs_are_plain key (Some c) = (theirs_plain key c.theirs, tt)

entry_plain : (key : Key) (e : Entry) → AllUnbroken is_end (entry_lines key e)
entry_plain key entry.Incomplete = (head_plain (Incomplete key), tt)
entry_plain key (entry.Known base mine conflict) = (
  head_plain (Known key (words_of base mine conflict)),
  all_unbroken_append is_end (base_lines key base) (mine_lines key (mine_word base mine) mine ++ theirs_lines key conflict) (bases_plain key base)
      (all_unbroken_append is_end (mine_lines key (mine_word base mine) mine) (theirs_lines key conflict) (mines_plain key (mine_word base mine) mine) (theirs_are_plain key conflict)),
)

pub entries_plain : (es : Entries) → AllUnbroken is_end (entries_lines es)
entries_plain [] = (head_plain End, tt)
entries_plain (e ∷ es) = all_unbroken_append is_end (entry_lines e.0 e.1) (entries_lines es) (entry_plain e.0 e.1) (entries_plain es)
