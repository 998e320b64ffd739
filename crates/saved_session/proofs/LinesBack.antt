-- A line that was read is the written form of what it gave.
use Rattle.std.proofs.Common.{◌≡◌, ℕ, Bool, true, false, cond, not, ◌&&◌, ◌==◌, List, [], ◌∷◌, ◌++◌, Option, Some, None, is_some, refl, sym, ap, subst, ◌∙◌, arith}
use Rattle.std.specs.Prelude.{codes}
use Rattle.std.specs.Str.{bytes_eq}
use Rattle.std.proofs.lemmas.Bool.{and_parts, not-true}
use Rattle.std.proofs.lemmas.Bool.Decides.{nat_tests}
use Rattle.std.proofs.lemmas.Slice.Eq.{bytes_eq-Decides}
use Rattle.std.proofs.lemmas.Option.{same_Some, cond_some}
use Rattle.osm_base.specs.Number.{id_test}
use Rattle.osm_base.specs.Rank.{is_key}
use Rattle.osm_base.specs.Meta.{empty_meta}
use Rattle.osm_base.specs.Same.{same_meta}
use Rattle.osm_base.specs.declared.key.Key.{Key}
use Rattle.osm_base.specs.declared.meta.Meta.{Meta}
use Rattle.osm_base.specs.declared.content.Content.{Content}
use Rattle.osm_base.proofs.RisingKeys.{one_key}
use Rattle.osm_base.proofs.SameLaws.{same_meta_decides}
use Rattle.osm_table.specs.Same.{same_mine}
use Rattle.osm_table.specs.Table.{held_by}
use Rattle.osm_table.specs.declared.entry.Base.{Base}
use Rattle.osm_table.specs.declared.entry.Base.TheVariants as bases
use Rattle.opl_line.specs.Cut.{before, after}
use Rattle.opl_line.specs.Field.{is}
use Rattle.opl_line.specs.Line.{line_of}
use Rattle.opl_line.specs.Written.{written}
use Rattle.opl_line.specs.declared.mode.Mode.TheVariants.{Import}
use Rattle.opl_line.specs.declared.object.OplObject.{OplObject}
use Rattle.opl_text.specs.Time.{◌>>=◌}
use Rattle.saved_session.specs.Words.{base_word, first_word, behind_word, head_of, head_text, head_written, header_of, header_text, header_written}
use Rattle.osm_base.specs.Number.{number_text}
use Rattle.osm_base.proofs.Tests.{only_passed}
use Rattle.saved_session.specs.Saved.{base_lines, mine_version, own_written, server_written}
use Rattle.saved_session.specs.Reading.{base_as, base_at, mine_at, object_behind, object_in, object_text, object_written, server_base, theirs_at}
use Rattle.saved_session.specs.declared.words.BaseWord.{BaseWord}
use Rattle.saved_session.specs.declared.words.BaseWord.TheVariants.{New, Live, Gone}
use Rattle.saved_session.specs.declared.words.Head.{Head}

-- one reading after the other gave something
pub both_read : {A B : Type 0} (f : A → Option B) (o : Option A) (y : B) → (o >>= f) ≡ Some y → (x : A) × (o ≡ Some x) × (f x ≡ Some y)
both_read f None y e = absurd cc
both_read f (Some x) y e = (x, refl, e)

same_text : (a b : List ℕ) → bytes_eq a b ≡ true → a ≡ b
same_text a b e = (bytes_eq-Decides a b).0 e

-- ---- heads

pub head_back : (line : List ℕ) (head : Head) → head_of line ≡ Some head → head_written head ≡ line
unfolding head_of
head_back line head e =
    let p = both_read (λ h. cond (bytes_eq (head_written h) line) (Some h) None) (head_text line) head e in
    let q = cond_some (bytes_eq (head_written p.0) line) p.0 head p.2 in
    ap head_written (sym q.1) ∙ same_text (head_written p.0) line q.0

pub header_back : (line : List ℕ) (next : ℕ) → header_of line ≡ Some next → header_written next ≡ line
unfolding header_of
header_back line next e =
    let p = both_read (λ n. cond (bytes_eq (header_written n) line) (Some n) None) (header_text line) next e in
    let q = cond_some (bytes_eq (header_written p.0) line) p.0 next p.2 in
    ap header_written (sym q.1) ∙ same_text (header_written p.0) line q.0

number_back : (line : List ℕ) (next : ℕ) → header_text line ≡ Some next → id_test next ≡ true
unfolding header_text
number_back line next e =
    let p = both_read (λ rest. behind_word rest >>= λ last. number_text 19 last >>= λ n. cond (id_test n) (Some n) None) (behind_word line) next e in
    let q = both_read (λ last. number_text 19 last >>= λ n. cond (id_test n) (Some n) None) (behind_word p.0) next p.2 in
    let r = both_read (λ n. cond (id_test n) (Some n) None) (number_text 19 q.0) next q.2 in
    let s = cond_some (id_test r.0) r.0 next r.2 in
    ap id_test (sym s.1) ∙ s.0

-- the number of a header is one that a next new object may have
pub header_number : (line : List ℕ) (next : ℕ) → header_of line ≡ Some next → id_test next ≡ true
unfolding header_of
header_number line next e =
    let p = both_read (λ n. cond (bytes_eq (header_written n) line) (Some n) None) (header_text line) next e in
    let q = cond_some (bytes_eq (header_written p.0) line) p.0 next p.2 in
    number_back line next (p.1 ∙ ap Some q.1)

-- ---- objects

is_mark : (mark b : ℕ) → is mark b ≡ true → b ≡ mark
is_mark mark b e = grind (arith, nat_tests, e)

first_back : (mark b : ℕ) (t : Bool) (text rest : List ℕ) → (after (is mark) text ≡ Some rest → before (is mark) text ++ mark ∷ rest ≡ text) → (t ≡ true → b ≡ mark) →
    cond t (Some text) (after (is mark) text) ≡ Some rest → cond t [] (b ∷ before (is mark) text) ++ mark ∷ rest ≡ b ∷ text
first_back mark b true text rest later here e = λ i. sym (here refl) i ∷ sym (same_Some text rest e) i
first_back mark b false text rest later here e = ap (λ (xs : List ℕ). b ∷ xs) (later e)

-- what stands before and behind a mark gives the text back
parts_back : (mark : ℕ) (text rest : List ℕ) → after (is mark) text ≡ Some rest → before (is mark) text ++ mark ∷ rest ≡ text
parts_back mark [] rest e = absurd cc
parts_back mark (b ∷ text) rest e = first_back mark b (is mark b) text rest (parts_back mark text rest) (is_mark mark b) e

object_back : (key : Key) (text : List ℕ) (o : OplObject) → object_text key text ≡ Some o → (written key o.version o.side o.meta ≡ text)
unfolding object_text
object_back key text o e =
    let p = both_read (λ x. cond (is_key key x.key && bytes_eq (object_written x) text) (Some x) None) (object_in (line_of Import text)) o e in
    let q = cond_some (is_key key p.0.key && bytes_eq (object_written p.0) text) p.0 o p.2 in
    let tests = and_parts (is_key key p.0.key) (bytes_eq (object_written p.0) text) q.0 in
    (λ i. written (one_key key p.0.key tests.0 i) (sym q.1 i).version (sym q.1 i).side (sym q.1 i).meta) ∙ same_text (object_written p.0) text tests.1

-- an object behind a word
behind_back : (word : List ℕ) (key : Key) (line : List ℕ) (o : OplObject) → object_behind word key line ≡ Some o → word ++ 32 ∷ written key o.version o.side o.meta ≡ line
unfolding object_behind
behind_back word key line o e =
    let p = both_read (λ text. cond (bytes_eq (first_word line) word) (object_text key text) None) (behind_word line) o e in
    let q = only_passed (bytes_eq (first_word line) word) (object_text key p.0) o p.2 in
    (λ i. sym (same_text (first_word line) word q.0) i ++ 32 ∷ object_back key p.0 o q.1 i) ∙ parts_back 32 line p.0 p.1

server_back : (key : Key) (version : ℕ) (side : Option Content) (meta : Meta) → server_written key (server_base version side meta) ≡ written key version side meta
server_back key version (Some content) meta = refl
server_back key version None meta = refl

base_as_back : (key : Key) (word : BaseWord) (version : ℕ) (side : Option Content) (meta : Meta) (base : Base) → base_as word version side meta ≡ Some base →
    (base_word base ≡ word) × (base_lines key base ≡ (codes "base " ++ written key version side meta) ∷ [])
base_as_back key New version side meta base e = absurd cc
base_as_back key Live version (Some content) meta base e = subst (λ (b : Base). (base_word b ≡ Live) × (base_lines key b ≡ (codes "base " ++ written key version (Some content) meta) ∷ [])) (same_Some (bases.Live version content meta) base e) (refl, refl)
base_as_back key Live version None meta base e = absurd cc
base_as_back key Gone version (Some content) meta base e = absurd cc
base_as_back key Gone version None meta base e = subst (λ (b : Base). (base_word b ≡ Gone) × (base_lines key b ≡ (codes "base " ++ written key version None meta) ∷ [])) (same_Some (bases.Gone version meta) base e) (refl, refl)

-- the line of a base
pub base_back : (key : Key) (word : BaseWord) (line : List ℕ) (base : Base) → base_at key word line ≡ Some base → (base_word base ≡ word) × (base_lines key base ≡ line ∷ [])
unfolding base_at
base_back key word line base e =
    let p = both_read (λ o. base_as word o.version o.side o.meta) (object_behind (codes "base") key line) base e in
    let q = base_as_back key word p.0.version p.0.side p.0.meta base p.2 in
    (q.0, q.1 ∙ ap (λ (l : List ℕ). l ∷ []) (behind_back (codes "base") key line p.0 p.1))

-- the line of mine
pub record IsMineLine (key : Key) (base : Base) (line : List ℕ) (mine : Option Content) : Type 0 where
  pub text : codes "mine " ++ own_written key mine ≡ line
  pub lives : is_some mine ≡ true
  pub other : same_mine mine (held_by base) ≡ false

pub mine_back : (key : Key) (base : Base) (line : List ℕ) (mine : Option Content) → mine_at key base line ≡ Some mine → IsMineLine key base line mine
unfolding mine_at
mine_back key base line mine e =
    let p = both_read (λ o. cond (is_some o.side && not (same_mine o.side (held_by base)) && o.version == mine_version key.id && same_meta o.meta empty_meta) (Some o.side) None) (object_behind (codes "mine") key line) mine e in
    let o = p.0 in
    let q = cond_some (is_some o.side && not (same_mine o.side (held_by base)) && o.version == mine_version key.id && same_meta o.meta empty_meta) o.side mine p.2 in
    let a = and_parts _ (same_meta o.meta empty_meta) q.0 in
    let b = and_parts _ (o.version == mine_version key.id) a.0 in
    let c = and_parts (is_some o.side) (not (same_mine o.side (held_by base))) b.0 in
    let version : o.version ≡ mine_version key.id = grind (arith, nat_tests, b.1) in
    let meta : o.meta ≡ empty_meta = (same_meta_decides o.meta empty_meta).0 a.1 in
    record {
      text = (λ i. codes "mine " ++ written key (sym version i) (sym q.1 i) (sym meta i)) ∙ behind_back (codes "mine") key line o p.1;
      lives = ap is_some (sym q.1) ∙ c.0;
      other = ap (λ (m : Option Content). same_mine m (held_by base)) (sym q.1) ∙ not-true (same_mine o.side (held_by base)) c.1;
    }

-- the line of theirs
pub theirs_back : (key : Key) (line : List ℕ) (theirs : Base) → theirs_at key line ≡ Some theirs → codes "theirs " ++ server_written key theirs ≡ line
unfolding theirs_at
theirs_back key line theirs e =
    let p = both_read (λ o. Some (server_base o.version o.side o.meta)) (object_behind (codes "theirs") key line) theirs e in
    ap (λ (b : Base). codes "theirs " ++ server_written key b) (sym (same_Some (server_base p.0.version p.0.side p.0.meta) theirs p.2))
    ∙ ap (λ (text : List ℕ). codes "theirs " ++ text) (server_back key p.0.version p.0.side p.0.meta) ∙ behind_back (codes "theirs") key line p.0 p.1
