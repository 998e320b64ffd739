-- What was read is what is saved: the lines are those of the entries, which stand by rank.
use Rattle.std.proofs.Common.{◌≡◌, ℕ, ◌+◌, Bool, true, false, cond, ◌&&◌, T, List, [], ◌∷◌, ◌++◌, map, Option, Some, None, Result, Ok, Err, is_some, refl, sym, ap, subst, ◌∙◌}
use Rattle.std.specs.Prelude.{codes}
use Rattle.std.specs.Ordering.{is_lt}
use Rattle.std.specs.declared.cmp.Ordering.TheVariants.{Less}
use Rattle.std.specs.FinMap.Entries.{is_sorted, below_all}
use Rattle.std.specs.Bool.{passes}
use Rattle.std.proofs.lemmas.Bool.{and_parts}
use Rattle.std.proofs.lemmas.List.{append_assoc}
use Rattle.std.proofs.lemmas.Option.{same_Some, cond_some}
use Rattle.osm_base.specs.Number.{id_test}
use Rattle.osm_base.specs.Rank.{rank_cmp}
use Rattle.osm_base.specs.RankLaws.{rank_total}
use Rattle.osm_base.specs.declared.key.Key.{Key}
use Rattle.osm_base.specs.declared.content.Content.{Content}
use Rattle.osm_base.proofs.Tests.{both_T, first_T, second_T, true_from_T, less_from_test}
use Rattle.osm_table.specs.Same.{same_mine}
use Rattle.osm_table.specs.Table.{held_by}
use Rattle.osm_table.proofs.SameLaws.{same_mine_decides}
use Rattle.osm_table.specs.declared.entry.Base.{Base}
use Rattle.osm_table.specs.declared.entry.Base.TheVariants as bases
use Rattle.osm_table.specs.declared.entry.Why.{Why}
use Rattle.osm_table.specs.declared.entry.Conflict.{Conflict}
use Rattle.osm_table.specs.declared.entry.Entry.{Entry}
use Rattle.osm_table.specs.declared.entry.Entry.TheVariants as entry
use Rattle.opl_line.specs.Line.{freed}
use Rattle.saved_session.specs.Words.{base_word, mine_word, why_word, words_of, head_of, head_written, header_of, header_written}
use Rattle.saved_session.specs.Saved.{base_lines, mine_lines, theirs_lines, entry_lines, entries_lines, own_written}
use Rattle.saved_session.specs.Reading.{Entries, Session, awaiting, base_at, behind_header, ending, entries_from, has_ended, is_behind, may_stand, mine_at, onto, step, stepped, theirs_at, with_base, with_head, with_mine, with_next, with_words}
use Rattle.saved_session.specs.declared.words.BaseWord.{BaseWord}
use Rattle.saved_session.specs.declared.words.BaseWord.TheVariants.{New, Live, Gone}
use Rattle.saved_session.specs.declared.words.MineWord.{MineWord}
use Rattle.saved_session.specs.declared.words.MineWord.TheVariants.{Same, Absent, Own}
use Rattle.saved_session.specs.declared.words.Words.{Words}
use Rattle.saved_session.specs.declared.words.Head.{Head}
use Rattle.saved_session.specs.declared.words.Head.TheVariants.{Incomplete, Known, End}
use Rattle.saved_session.specs.declared.place.Place.{Place}
use Rattle.saved_session.specs.declared.place.Place.TheVariants as place
use Rattle.saved_session.specs.declared.place.Step.{Step}
use Rattle.saved_session.proofs.LinesBack.{both_read, head_back, header_back, header_number, base_back, mine_back, theirs_back}

-- the first key comes behind the last one
abbrev pub is_first_behind : Option Key → Entries → Bool
is_first_behind last [] = true
is_first_behind last (e ∷ es) = is_behind last e.0

-- The lines are those of the entries and of the end, and more; the entries stand by rank, behind the last key.
pub record AreLines (last : Option Key) (es : Entries) (lines : List (List ℕ)) : Type 0 where
  pub behind : List (List ℕ)
  pub read : lines ≡ entries_lines es ++ behind
  pub sorted : T (is_sorted rank_cmp es)
  pub first : is_first_behind last es ≡ true

-- The first entry is a known one of the key whose parts meet a condition, the lines are a front that its parts give, and
-- those of the others.
pub record IsFirst (key : Key) (Fits : Base → Option Content → Option Conflict → Type 0) (front : Base → Option Content → Option Conflict → List (List ℕ)) (es : Entries) (lines : List (List ℕ)) : Type 0 where
  pub base : Base
  pub mine : Option Content
  pub conflict : Option Conflict
  pub others : Entries
  pub more : List (List ℕ)
  pub entry_is : es ≡ (key, entry.Known base mine conflict) ∷ others
  pub fits : Fits base mine conflict
  pub read : lines ≡ front base mine conflict ++ more
  pub rest : AreLines (Some key) others more

-- what the lines from a place are
abbrev Made : Place → Entries → List (List ℕ) → Type 0
Made (place.Head last) es lines = AreLines last es lines
Made (place.Base key words) es lines = IsFirst key (λ b m c. words_of b m c ≡ words) (λ b m c. base_lines key b ++ (mine_lines key words.mine m ++ theirs_lines key c)) es lines
Made (place.Mine key base why) es lines = IsFirst key (λ b m c. (b ≡ base) × (mine_word base m ≡ Own) × (why_word c ≡ why)) (λ b m c. mine_lines key Own m ++ theirs_lines key c) es lines
Made (place.Theirs key base mine why) es lines = IsFirst key (λ b m c. (b ≡ base) × (m ≡ mine) × (why_word c ≡ Some why)) (λ b m c. theirs_lines key c) es lines
Made place.Behind es lines = es ≡ []

-- the words of a place may stand together
abbrev MayWait : Place → Type 0
MayWait (place.Head last) = Unit {0}
MayWait (place.Base key words) = may_stand words.mine words.base ≡ true
MayWait (place.Mine key base why) = Unit {0}
MayWait (place.Theirs key base mine why) = Unit {0}
MayWait place.Behind = Unit {0}

-- what the lines behind a step are
abbrev left_by : Option (Key × Entry) → Place → Entries → List (List ℕ) → Type 0
left_by None here es lines = Made here es lines
left_by (Some e) here es lines = (others : Entries) × (es ≡ e ∷ others) × Made here others lines

abbrev Left : Step → Entries → List (List ℕ) → Type 0
Left s es lines = left_by s.entry s.place es lines

-- ---- entries by rank

pub less_behind : (x y : Key) (es : Entries) → rank_cmp x y ≡ Less → T (below_all rank_cmp y es) → T (below_all rank_cmp x es)
less_behind x y [] less below = tt
less_behind x y (e ∷ es) less below =
    both_T (is_lt (rank_cmp x e.0)) (below_all rank_cmp x es)
    (passes (is_lt (rank_cmp x e.0)) (ap is_lt (rank_total.trans x y e.0 less (less_from_test (rank_cmp y e.0) (true_from_T (is_lt (rank_cmp y e.0)) (first_T (is_lt (rank_cmp y e.0)) (below_all rank_cmp y es) below))))))
    (less_behind x y es less (second_T (is_lt (rank_cmp y e.0)) (below_all rank_cmp y es) below))

-- what comes behind a key comes behind those before it
below_others : (key : Key) (es : Entries) → T (is_sorted rank_cmp es) → is_first_behind (Some key) es ≡ true → T (below_all rank_cmp key es)
below_others key [] sorted first = tt
below_others key (e ∷ es) sorted first =
    both_T (is_lt (rank_cmp key e.0)) (below_all rank_cmp key es) (passes (is_lt (rank_cmp key e.0)) first)
    (less_behind key e.0 es (less_from_test (rank_cmp key e.0) first) (first_T (below_all rank_cmp e.0 es) (is_sorted rank_cmp es) sorted))

one_sorted : (key : Key) (e : Entry) (es : Entries) → T (is_sorted rank_cmp es) → is_first_behind (Some key) es ≡ true → T (is_sorted rank_cmp ((key, e) ∷ es))
one_sorted key e es sorted first = both_T (below_all rank_cmp key es) (is_sorted rank_cmp es) (below_others key es sorted first) sorted

-- one entry more
entry_more : (last : Option Key) (key : Key) (e : Entry) (others es : Entries) (more lines : List (List ℕ)) → is_behind last key ≡ true → es ≡ (key, e) ∷ others → lines ≡ entry_lines key e ++ more → AreLines (Some key) others more → AreLines last es lines
entry_more last key e others es more lines behind is read rest = record {
  behind = rest.behind;
  read = read ∙ ap (λ (ls : List (List ℕ)). entry_lines key e ++ ls) rest.read ∙ sym (append_assoc (entry_lines key e) (entries_lines others) rest.behind) ∙ ap (λ (fs : Entries). entries_lines fs ++ rest.behind) (sym is);
  sorted = subst (λ (fs : Entries). T (is_sorted rank_cmp fs)) (sym is) (one_sorted key e others rest.sorted rest.first);
  first = ap (is_first_behind last) is ∙ behind;
}

-- ---- the word for mine, from what was read

same_word : (base : Base) → mine_word base (held_by base) ≡ Same
same_word base = rw ((same_mine_decides (held_by base) (held_by base)).1 refl) refl

absent_word : (base : Base) → same_mine None (held_by base) ≡ false → mine_word base None ≡ Absent
absent_word base other = rw other refl

own_word : (base : Base) (mine : Option Content) → is_some mine ≡ true → same_mine mine (held_by base) ≡ false → mine_word base mine ≡ Own
own_word base mine lives other = rw (other, lives) refl

live_held : (base : Base) → may_stand Absent (base_word base) ≡ true → same_mine None (held_by base) ≡ false
live_held bases.New e = cc
live_held (bases.Live version content meta) e = refl
live_held (bases.Gone version meta) e = cc

-- ---- from a step to the parts of an entry

mine_left : (key : Key) (base : Base) (mine : Option Content) (why : Option Why) (es : Entries) (lines : List (List ℕ)) → Left (with_mine key base mine why) es lines →
    IsFirst key (λ b m c. (b ≡ base) × (m ≡ mine) × (why_word c ≡ why)) (λ b m c. theirs_lines key c) es lines
mine_left key base mine None es lines (others, is, rest) =
    record { base = base; mine = mine; conflict = None; others = others; more = lines; entry_is = is; fits = (refl, refl, refl); read = refl; rest = rest }
mine_left key base mine (Some why) es lines left = left

base_left : (key : Key) (base : Base) (word : MineWord) (why : Option Why) (es : Entries) (lines : List (List ℕ)) → (word ≡ Absent → same_mine None (held_by base) ≡ false) → Left (with_base key base word why) es lines →
    IsFirst key (λ b m c. (b ≡ base) × (mine_word b m ≡ word) × (why_word c ≡ why)) (λ b m c. mine_lines key word m ++ theirs_lines key c) es lines
base_left key base Same why es lines live left =
    let p = mine_left key base (held_by base) why es lines left in
    record {
      base = p.base;
      mine = p.mine;
      conflict = p.conflict;
      others = p.others;
      more = p.more;
      entry_is = p.entry_is;
      fits = (p.fits.0, (λ i. mine_word (p.fits.0 i) (p.fits.1 i)) ∙ same_word base, p.fits.2);
      read = p.read;
      rest = p.rest;
    }
base_left key base Absent why es lines live left =
    let p = mine_left key base None why es lines left in
    record {
      base = p.base;
      mine = p.mine;
      conflict = p.conflict;
      others = p.others;
      more = p.more;
      entry_is = p.entry_is;
      fits = (p.fits.0, (λ i. mine_word (p.fits.0 i) (p.fits.1 i)) ∙ absent_word base (live refl), p.fits.2);
      read = p.read;
      rest = p.rest;
    }
base_left key base Own why es lines live left =
    record {
      base = left.base;
      mine = left.mine;
      conflict = left.conflict;
      others = left.others;
      more = left.more;
      entry_is = left.entry_is;
      fits = (left.fits.0, ap (λ (b : Base). mine_word b left.mine) left.fits.0 ∙ left.fits.1, left.fits.2);
      read = left.read;
      rest = left.rest;
    }

-- the words as they were read
words_are : (words : Words) (b base : Base) (m : Option Content) (c : Option Conflict) → b ≡ base → base_word base ≡ words.base → mine_word b m ≡ words.mine → why_word c ≡ words.why → words_of b m c ≡ words
words_are words b base m c is first second third = λ i. record { base = (ap base_word is ∙ first) i; mine = second i; why = third i }

abbrev IsOfWords : Key → Words → Entries → List (List ℕ) → Type 0
IsOfWords key words es lines = IsFirst key (λ b m c. words_of b m c ≡ words) (λ b m c. base_lines key b ++ (mine_lines key words.mine m ++ theirs_lines key c)) es lines

-- behind the line of a base
base_made : (key : Key) (words : Words) (base : Base) (line : List ℕ) (es : Entries) (lines : List (List ℕ)) → may_stand words.mine words.base ≡ true → base_word base ≡ words.base → base_lines key base ≡ line ∷ [] →
    Left (with_base key base words.mine words.why) es lines → IsOfWords key words es (line ∷ lines)
base_made key words base line es lines stands word text left =
    let p = base_left key base words.mine words.why es lines (λ absent. live_held base ((λ i. may_stand (sym absent i) (word i)) ∙ stands)) left in
    record {
      base = p.base;
      mine = p.mine;
      conflict = p.conflict;
      others = p.others;
      more = p.more;
      entry_is = p.entry_is;
      fits = words_are words p.base base p.mine p.conflict p.fits.0 word p.fits.1 p.fits.2;
      read = ap (λ (ls : List (List ℕ)). line ∷ ls) p.read ∙ ap (λ (ls : List (List ℕ)). (ls ++ (mine_lines key words.mine p.mine ++ theirs_lines key p.conflict)) ++ p.more) (sym (ap (base_lines key) p.fits.0 ∙ text));
      rest = p.rest;
    }

-- behind words
words_made : (key : Key) (word : BaseWord) (words : Words) (es : Entries) (lines : List (List ℕ)) → words.base ≡ word → may_stand words.mine words.base ≡ true → Left (with_words key word words) es lines → IsOfWords key words es lines
words_made key New words es lines is stands left =
    let p = base_left key bases.New words.mine words.why es lines (λ absent. live_held bases.New ((λ i. may_stand (sym absent i) (sym is i)) ∙ stands)) left in
    record {
      base = p.base;
      mine = p.mine;
      conflict = p.conflict;
      others = p.others;
      more = p.more;
      entry_is = p.entry_is;
      fits = words_are words p.base bases.New p.mine p.conflict p.fits.0 (sym is) p.fits.1 p.fits.2;
      read = p.read ∙ ap (λ (ls : List (List ℕ)). (ls ++ (mine_lines key words.mine p.mine ++ theirs_lines key p.conflict)) ++ p.more) (sym (ap (base_lines key) p.fits.0));
      rest = p.rest;
    }
words_made key Live words es lines is stands left = left
words_made key Gone words es lines is stands left = left

-- ---- one line

known_made : (last : Option Key) (key : Key) (words : Words) (line : List ℕ) (es : Entries) (lines : List (List ℕ)) → head_written (Known key words) ≡ line → is_behind last key ≡ true → IsOfWords key words es lines → AreLines last es (line ∷ lines)
known_made last key words line es lines text behind p =
    entry_more last key (entry.Known p.base p.mine p.conflict) p.others es p.more (line ∷ lines) behind p.entry_is
    ((λ i. sym text i ∷ p.read i)
    ∙ (λ i. (head_written (Known key (sym p.fits i)) ∷ (base_lines key p.base ++ (mine_lines key (sym p.fits i).mine p.mine ++ theirs_lines key p.conflict))) ++ p.more))
    p.rest

mine_waits : (key : Key) (base : Base) (mine : Option Content) (why : Option Why) → MayWait (with_mine key base mine why).place
mine_waits key base mine None = tt
mine_waits key base mine (Some why) = tt

base_waits : (key : Key) (base : Base) (word : MineWord) (why : Option Why) → MayWait (with_base key base word why).place
base_waits key base Same why = mine_waits key base (held_by base) why
base_waits key base Absent why = mine_waits key base None why
base_waits key base Own why = tt

words_wait : (key : Key) (word : BaseWord) (words : Words) → may_stand words.mine words.base ≡ true → MayWait (with_words key word words).place
words_wait key New words stands = base_waits key bases.New words.mine words.why
words_wait key Live words stands = stands
words_wait key Gone words stands = stands

-- what is behind a step that was made, where its place may be waited at
abbrev Goes : Step → Entries → List (List ℕ) → Type 0
Goes s es lines = MayWait s.place → Left s es lines

head_made : (last : Option Key) (head : Head) (line : List ℕ) (s : Step) (es : Entries) (lines : List (List ℕ)) → head_written head ≡ line → with_head last head ≡ Some s → Goes s es lines → AreLines last es (line ∷ lines)
head_made last End line s es lines text e goes =
    let left : es ≡ [] = subst (λ (s : Step). Goes s es lines) (sym (same_Some (awaiting place.Behind) s e)) goes tt in
    record {
      behind = lines;
      read = (λ i. sym text i ∷ lines) ∙ ap (λ (fs : Entries). entries_lines fs ++ lines) (sym left);
      sorted = subst (λ (fs : Entries). T (is_sorted rank_cmp fs)) (sym left) tt;
      first = ap (is_first_behind last) left;
    }
head_made last (Incomplete key) line s es lines text e goes =
    let p = cond_some (is_behind last key) (ending key entry.Incomplete) s e in
    let (others, is, rest) = subst (λ (s : Step). Goes s es lines) (sym p.1) goes tt in
    entry_more last key entry.Incomplete others es lines (line ∷ lines) p.0 is (λ i. sym text i ∷ lines) rest
head_made last (Known key words) line s es lines text e goes =
    let p = cond_some (is_behind last key && may_stand words.mine words.base) (with_words key words.base words) s e in
    let tests = and_parts (is_behind last key) (may_stand words.mine words.base) p.0 in
    known_made last key words line es lines text tests.0
    (words_made key words.base words es lines refl tests.1 (subst (λ (s : Step). Goes s es lines) (sym p.1) goes (words_wait key words.base words tests.1)))

line_made : (here : Place) (line : List ℕ) (s : Step) (es : Entries) (lines : List (List ℕ)) → MayWait here → step here line ≡ Some s → Goes s es lines → Made here es (line ∷ lines)
unfolding step
line_made (place.Head last) line s es lines wait e goes =
    let p = both_read (λ head. with_head last head) (head_of line) s e in
    head_made last p.0 line s es lines (head_back line p.0 p.1) p.2 goes
line_made (place.Base key words) line s es lines wait e goes =
    let p = both_read (λ base. Some (with_base key base words.mine words.why)) (base_at key words.base line) s e in
    let b = base_back key words.base line p.0 p.1 in
    base_made key words p.0 line es lines wait b.0 b.1 (subst (λ (s : Step). Goes s es lines) (sym (same_Some (with_base key p.0 words.mine words.why) s p.2)) goes (base_waits key p.0 words.mine words.why))
line_made (place.Mine key base why) line s es lines wait e goes =
    let p = both_read (λ mine. Some (with_mine key base mine why)) (mine_at key base line) s e in
    let b = mine_back key base line p.0 p.1 in
    let q = mine_left key base p.0 why es lines (subst (λ (s : Step). Goes s es lines) (sym (same_Some (with_mine key base p.0 why) s p.2)) goes (mine_waits key base p.0 why)) in
    record {
      base = q.base;
      mine = q.mine;
      conflict = q.conflict;
      others = q.others;
      more = q.more;
      entry_is = q.entry_is;
      fits = (q.fits.0, ap (mine_word base) q.fits.1 ∙ own_word base p.0 b.lives b.other, q.fits.2);
      read = λ i. (sym b.text ∙ ap (λ (m : Option Content). codes "mine " ++ own_written key m) (sym q.fits.1)) i ∷ q.read i;
      rest = q.rest;
    }
line_made (place.Theirs key base mine why) line s es lines wait e goes =
    let p = both_read (λ theirs. Some (ending key (entry.Known base mine (Some (record { why = why; theirs = theirs }))))) (theirs_at key line) s e in
    let text = theirs_back key line p.0 p.1 in
    let c : Conflict = record { why = why; theirs = p.0 } in
    let (others, is, rest) = subst (λ (s : Step). Goes s es lines) (sym (same_Some (ending key (entry.Known base mine (Some c))) s p.2)) goes tt in
    record { base = base; mine = mine; conflict = Some c; others = others; more = lines; entry_is = is; fits = (refl, refl, refl); read = λ i. sym text i ∷ lines; rest = rest }
line_made place.Behind line s es lines wait e goes = subst (λ (s : Step). Goes s es lines) (sym (same_Some (awaiting place.Behind) s e)) goes tt

-- ---- all lines

pub ok_is : (xs ys : Entries) → ◌≡◌ {A = Result Entries ℕ} (Ok xs) (Ok ys) → xs ≡ ys
ok_is xs ys e = cc

left_case : (o : Option (Key × Entry)) (here : Place) (r : Result Entries ℕ) (es : Entries) (lines : List (List ℕ)) → onto o r ≡ Ok es → ((fs : Entries) → r ≡ Ok fs → Made here fs lines) → left_by o here es lines
left_case None here r es lines e made = made es e
left_case (Some x) here (Ok fs) es lines e made = (fs, sym (ok_is (x ∷ fs) es e), made fs refl)
left_case (Some x) here (Err n) es lines e made = absurd cc

pub stepped_ok : (n : ℕ) (o : Option Step) (go : Step → Result Entries ℕ) (es : Entries) → stepped n o go ≡ Ok es → (s : Step) × (o ≡ Some s) × (go s ≡ Ok es)
stepped_ok n None go es e = absurd cc
stepped_ok n (Some s) go es e = (s, refl, e)

none_made : (n : ℕ) (here : Place) (es : Entries) → cond (has_ended here) (Ok []) (Err n) ≡ Ok es → Made here es []
none_made n (place.Head last) es e = absurd cc
none_made n (place.Base key words) es e = absurd cc
none_made n (place.Mine key base why) es e = absurd cc
none_made n (place.Theirs key base mine why) es e = absurd cc
none_made n place.Behind es e = sym (ok_is [] es e)

made : (n : ℕ) (here : Place) (lines : List (List ℕ)) (es : Entries) → MayWait here → entries_from n here lines ≡ Ok es → Made here es (map freed lines)
made n here [] es wait e = none_made n here es e
made n here (line ∷ lines) es wait e =
    let p = stepped_ok n (step here (freed line)) (λ s. onto s.entry (entries_from (n + 1) s.place lines)) es e in
    line_made here (freed line) p.0 es (map freed lines) wait p.1
    (λ waits. left_case p.0.entry p.0.place (entries_from (n + 1) p.0.place lines) es (map freed lines) p.2 (λ fs h. made (n + 1) p.0.place lines fs waits h))

-- What was read of a session: its number, and the lines from the header on.
pub record IsRead (s : Session) (lines : List (List ℕ)) : Type 0 where
  pub number : id_test s.next ≡ true
  pub sorted : T (is_sorted rank_cmp s.entries)
  pub behind : List (List ℕ)
  pub read : lines ≡ (header_written s.next ∷ entries_lines s.entries) ++ behind

session_is : (a b : Session) → ◌≡◌ {A = Result Session ℕ} (Ok a) (Ok b) → a ≡ b
session_is a b e = cc

pub next_read : (next : ℕ) (r : Result Entries ℕ) (s : Session) → with_next next r ≡ Ok s → (r ≡ Ok s.entries) × (next ≡ s.next)
next_read next (Ok es) s e = let is : record { next = next; entries = es } ≡ s = session_is (record { next = next; entries = es }) s e in (ap (λ (x : Session). Ok x.entries) is, ap (λ (x : Session). x.next) is)
next_read next (Err n) s e = absurd cc

pub header_read : (n : ℕ) (o : Option ℕ) (line : List ℕ) (lines : List (List ℕ)) (s : Session) → header_of line ≡ o → behind_header n o lines ≡ Ok s → IsRead s (line ∷ map freed lines)
header_read n None line lines s is e = absurd cc
header_read n (Some next) line lines s is e =
    let p = next_read next (entries_from (n + 1) (place.Head None) lines) s e in
    let m = made (n + 1) (place.Head None) lines s.entries tt p.0 in
    record {
      number = ap id_test (sym p.1) ∙ header_number line next is;
      sorted = m.sorted;
      behind = m.behind;
      read = λ i. (sym (header_back line next is) ∙ ap header_written p.1) i ∷ m.read i;
    }
