-- What the lines of a script bring.
use Rattle.std.proofs.Common.{◌≡◌, ℕ, ◌+◌, Bool, true, false, cond, T, List, [], ◌∷◌, ◌++◌, length, nat_lt, Option, Some, None, Result, Ok, Err, refl, sym, subst, arith, rules}
use Rattle.std.specs.Prelude.{◌==◌, is_some}
use Rattle.std.specs.List.{AllByRecursion}
use Rattle.std.specs.Option.{option_map}
use Rattle.std.specs.Str.{bytes_eq}
use Rattle.std.proofs.lemmas.Bool.Decides.{nat_tests}
use Rattle.osm_base.specs.Number.{kind_letter, id_text}
use Rattle.osm_base.specs.Tags.{Pair, has_tag, with_tag}
use Rattle.osm_base.specs.declared.coord.Coord.{Coord}
use Rattle.osm_base.specs.declared.members.Member.{Member}
use Rattle.osm_base.proofs.Lists.{all_joined}
use Rattle.opl_text.specs.Text.{unescaped}
use Rattle.opl_text.specs.Time.{◌>>=◌}
use Rattle.opl_text.proofs.Read.{text_spelled, read_has_no_zero}
use Rattle.opl_line.specs.declared.fault.LineFault.{LineFault}
use Rattle.opl_line.specs.declared.fault.LineFault.TheVariants as faults
use Rattle.opl_line.specs.Cut.{after, before, split}
use Rattle.opl_line.specs.Field.{is, member_at, member_into, members_text, tag_into, tags_text}
use Rattle.opl_line.specs.Reads.{folded, or_fault}
use Rattle.opl_line.specs.Spelling.{ok_of}
use Rattle.opl_line.specs.Line.{freed}
use Rattle.opl_line.specs.Writable.{IsText}
use Rattle.opl_line.proofs.Forward.{bind_ok, ok_is, some_ok, test_ok}
use Rattle.opl_file.specs.Cut.{lines_of}
use Rattle.edit_script.specs.declared.line.ScriptLine.{ScriptLine}
use Rattle.edit_script.specs.declared.line.ScriptLine.TheVariants.{Asks, Skipped}
use Rattle.edit_script.specs.declared.place.Place.{Place}
use Rattle.edit_script.specs.declared.place.Place.TheVariants.{Start}
use Rattle.edit_script.specs.declared.step.Act.{Act}
use Rattle.edit_script.specs.declared.step.Act.TheVariants as act
use Rattle.edit_script.specs.declared.step.Step.{Step}
use Rattle.edit_script.specs.Grammar.{act_of, all_lines, at_place, by_first, word}
use Rattle.edit_script.specs.Items.{alone, behind, members_word, place_words, tags_word, words_of}
use Rattle.edit_script.specs.Place.{may_stand_at, place_after}
use Rattle.edit_script.specs.Script.{after_line, has_outer_blank, is_skipped, kind_of_line, line_of, onto_steps, steps_from, steps_of}
use Rattle.editor_laws.proofs.SeenLists.{IfSome}
use Rattle.editor_laws.specs.Texts.{AreRoles, AreTexts, BringsTexts}
use Rattle.editor_laws.proofs.TextTags.{no_texts, with_texts}

-- what an act brings
abbrev pub ActBringsTexts : Act → Type 0
ActBringsTexts (act.Job j) = BringsTexts j
ActBringsTexts a = Unit {0}

-- Tags and members.

text_is : (field text : List ℕ) → unescaped field ≡ Some text → IsText text
text_is field text e = ((text_spelled field text e).1, read_has_no_zero field text e)

folded_keeps : {S : Type 0} (P : S → Type 0) (step : S → List ℕ → Result S LineFault) → ((s next : S) (piece : List ℕ) → P s → step s piece ≡ Ok next → P next) → (s end : S) (pieces : List (List ℕ)) → P s → folded step s pieces ≡ Ok end → P end
folded_keeps P step keeps s end [] h e = subst P (ok_is s end e) h
folded_keeps P step keeps s end (piece ∷ pieces) h e =
    let b = bind_ok (step s piece) (λ next. folded step next pieces) end e in
    folded_keeps P step keeps b.0 end pieces (keeps s b.0 piece h b.1) b.2

not_empty : (key : List ℕ) → (length key == 0) ≡ false → T (nat_lt 0 (length key))
not_empty [] e = absurd cc
not_empty (b ∷ key) e = let some : nat_lt 0 (length (b ∷ key)) ≡ true = grind (arith, nat_tests) in subst T (sym some) tt

tag_keeps : (tags next : List Pair) (item : List ℕ) → AreTexts tags → tag_into tags item ≡ Ok next → AreTexts next
unfolding tag_into
tag_keeps tags next item h e =
    let k = bind_ok (or_fault faults.BadText (unescaped (before (is 61) item))) _ next e in
    let key = text_is (before (is 61) item) k.0 (some_ok faults.BadText (unescaped (before (is 61) item)) k.0 k.1) in
    let some = test_ok (length k.0 == 0) faults.BadTags _ next k.2 in
    let r = bind_ok (or_fault faults.BadTags (after (is 61) item)) _ next some.1 in
    let new = test_ok (has_tag tags k.0) faults.BadTags _ next r.2 in
    let v = bind_ok (or_fault faults.BadText (unescaped (before (is 61) r.0))) _ next new.1 in
    let value = text_is (before (is 61) r.0) v.0 (some_ok faults.BadText (unescaped (before (is 61) r.0)) v.0 v.1) in
    let last = test_ok (is_some (after (is 61) r.0)) faults.BadTags _ next v.2 in
    subst AreTexts (ok_is (with_tag tags k.0 v.0) next last.1) (with_texts tags (k.0, v.0) (not_empty k.0 some.0, (key, value)) h)

tags_are : (text : List ℕ) (tags : List Pair) → tags_text text ≡ Ok tags → AreTexts tags
unfolding tags_text
tags_are [] tags e = subst AreTexts (ok_is [] tags e) no_texts
tags_are (b ∷ text) tags e = folded_keeps AreTexts tag_into tag_keeps [] tags (split (is 44) (b ∷ text)) no_texts e

abbrev HasRole : Member → Type 0
HasRole m = IsText m.role

member_is : (item : List ℕ) (m : Member) → member_at item ≡ Ok m → HasRole m
unfolding member_at
member_is [] m e = absurd cc
member_is (b ∷ text) m e =
    let k = bind_ok (or_fault faults.BadMembers (kind_letter b)) _ m e in
    let i = bind_ok (or_fault faults.BadMembers (id_text (before (is 64) text))) _ m k.2 in
    let r = bind_ok (or_fault faults.BadMembers (after (is 64) text)) _ m i.2 in
    let t = bind_ok (or_fault faults.BadText (unescaped r.0)) _ m r.2 in
    subst HasRole (ok_is (record { key = record { kind = k.0; id = i.0 }; role = t.0 }) m t.2) (text_is r.0 t.0 (some_ok faults.BadText (unescaped r.0) t.0 t.1))

member_keeps : (members next : List Member) (item : List ℕ) → AreRoles members → member_into members item ≡ Ok next → AreRoles next
unfolding member_into
member_keeps members next item h e =
    let p = bind_ok (member_at item) _ next e in
    subst AreRoles (ok_is (members ++ p.0 ∷ []) next p.2) (all_joined HasRole members (p.0 ∷ []) h (member_is item p.0 p.1, tt))

members_are : (text : List ℕ) (members : List Member) → members_text text ≡ Ok members → AreRoles members
unfolding members_text
members_are [] members e = subst AreRoles (ok_is [] members e) tt
members_are (b ∷ text) members e = folded_keeps AreRoles member_into member_keeps [] members (split (is 44) (b ∷ text)) tt e

-- Words.

bind_if : {A B : Type 0} (P : A → Type 0) (Q : B → Type 0) (o : Option A) (f : A → Option B) → IfSome P o → ((a : A) → P a → IfSome Q (f a)) → IfSome Q (o >>= f)
bind_if P Q None f h i = tt
bind_if P Q (Some a) f h i = i a h

bind_any : {A B : Type 0} (Q : B → Type 0) (o : Option A) (f : A → Option B) → ((a : A) → IfSome Q (f a)) → IfSome Q (o >>= f)
bind_any Q None f i = tt
bind_any Q (Some a) f i = i a

ok_if : {A : Type 0} (P : A → Type 0) (r : Result A LineFault) → ((x : A) → r ≡ Ok x → P x) → IfSome P (ok_of r)
ok_if P (Ok x) h = h x refl
ok_if P (Err fault) h = tt

tags_word_texts : (word : List ℕ) → IfSome AreTexts (tags_word word)
unfolding tags_word
tags_word_texts word = bind_any AreTexts (behind 84 word) _ (λ text. ok_if AreTexts (tags_text text) (tags_are text))

members_word_texts : (word : List ℕ) → IfSome AreRoles (members_word word)
unfolding members_word
members_word_texts word = bind_any AreRoles (behind 77 word) _ (λ text. ok_if AreRoles (members_text text) (members_are text))

abbrev Brings : Option Act → Type 0
Brings o = IfSome ActBringsTexts o

-- Readings of the words of a line.

alone_brings : (a : Act) (words : List (List ℕ)) → ActBringsTexts a → Brings (alone a words)
alone_brings a [] h = h
alone_brings a (w ∷ words) h = tt

word_brings : {A : Type 0} (P : A → Type 0) (read : List ℕ → Option A) → ((text : List ℕ) → IfSome P (read text))
    → (rest : A → List (List ℕ) → Option Act) (words : List (List ℕ)) → ((x : A) (others : List (List ℕ)) → P x → Brings (rest x others)) → Brings (word read rest words)
word_brings P read reads rest [] h = tt
word_brings P read reads rest (w ∷ words) h = bind_if P ActBringsTexts (read w) _ (reads w) (λ x i. h x words i)

tags_bring : (rest : List Pair → List (List ℕ) → Option Act) (words : List (List ℕ)) → ((tags : List Pair) (others : List (List ℕ)) → AreTexts tags → Brings (rest tags others)) → Brings (word tags_word rest words)
tags_bring rest words h = word_brings AreTexts tags_word tags_word_texts rest words h

members_bring : (rest : List Member → List (List ℕ) → Option Act) (words : List (List ℕ)) → ((members : List Member) (others : List (List ℕ)) → AreRoles members → Brings (rest members others)) → Brings (word members_word rest words)
members_bring rest words h = word_brings AreRoles members_word members_word_texts rest words h

others_bring : {A : Type 0} (read : List ℕ → Option A) (rest : A → List (List ℕ) → Option Act) (words : List (List ℕ)) → ((x : A) (others : List (List ℕ)) → Brings (rest x others)) → Brings (word read rest words)
others_bring read rest [] h = tt
others_bring read rest (w ∷ words) h = bind_any ActBringsTexts (read w) _ (λ x. h x words)

place_brings : (rest : Coord → List (List ℕ) → Option Act) (words : List (List ℕ)) → ((at : Coord) (others : List (List ℕ)) → Brings (rest at others)) → Brings (at_place rest words)
place_brings rest [] h = tt
place_brings rest (x ∷ []) h = tt
place_brings rest (x ∷ y ∷ words) h = bind_any ActBringsTexts (place_words x y) _ (λ at. h at words)

-- What is read of the words of any line can be written: only tags and members bring texts.
all_bring : AllByRecursion (λ (line : List ℕ × (List (List ℕ) → Option Act)). (words : List (List ℕ)) → Brings (line.1 words)) all_lines
all_bring = search (rules, alone_brings, tags_bring, members_bring, others_bring, place_brings, bind_any)

by_first_brings : (lines : List (List ℕ × (List (List ℕ) → Option Act))) (words : List (List ℕ)) → AllByRecursion (λ (line : List ℕ × (List (List ℕ) → Option Act)). (words : List (List ℕ)) → Brings (line.1 words)) lines → Brings (by_first lines words)
by_first_brings [] words h = tt
by_first_brings (line ∷ lines) [] h = tt
by_first_brings (line ∷ lines) (first ∷ words) h = either_brings (bytes_eq first line.0) (line.1 words) (by_first lines (first ∷ words)) (h.0 words) (by_first_brings lines (first ∷ words) h.1)
  where
    either_brings : (b : Bool) (here there : Option Act) → Brings here → Brings there → Brings (cond b here there)
    either_brings true here there h i = h
    either_brings false here there h i = i

act_brings : (words : List (List ℕ)) → Brings (act_of words)
unfolding act_of
act_brings words = by_first_brings all_lines words all_bring

-- The steps.

abbrev LineBrings : ScriptLine → Type 0
LineBrings Skipped = Unit {0}
LineBrings (Asks a) = ActBringsTexts a

asks_brings : (o : Option Act) → Brings o → IfSome LineBrings (option_map Asks o)
asks_brings None h = tt
asks_brings (Some a) h = h

either_line : (b : Bool) (o p : Option ScriptLine) → IfSome LineBrings o → IfSome LineBrings p → IfSome LineBrings (cond b o p)
either_line true o p h i = h
either_line false o p h i = i

line_brings : (line : List ℕ) → IfSome LineBrings (kind_of_line line)
unfolding kind_of_line
line_brings line = either_line (is_skipped line) (Some Skipped) _ tt (either_line (has_outer_blank line) None _ tt (asks_brings (act_of (words_of line)) (act_brings (words_of line))))

abbrev pub StepsBringTexts : List Step → Type 0
StepsBringTexts steps = AllByRecursion (λ (step : Step). ActBringsTexts step.act) steps

abbrev pub IfSteps : Result (List Step) ℕ → Type 0
IfSteps (Ok steps) = StepsBringTexts steps
IfSteps (Err line) = Unit {0}

onto_brings : (step : Step) (r : Result (List Step) ℕ) → ActBringsTexts step.act → IfSteps r → IfSteps (onto_steps step r)
onto_brings step (Ok steps) h i = (h, i)
onto_brings step (Err line) h i = tt

stands_brings : (b : Bool) (line : ℕ) (r : Result (List Step) ℕ) → IfSteps r → IfSteps (cond b r (Err line))
stands_brings true line r h = h
stands_brings false line r h = tt

behind_brings : (place : Place) (line : ℕ) (o : Option ScriptLine) (rest : Place → Result (List Step) ℕ) → IfSome LineBrings o → ((p : Place) → IfSteps (rest p)) → IfSteps (after_line place line o rest)
behind_brings place line None rest h i = tt
behind_brings place line (Some Skipped) rest h i = i place
behind_brings place line (Some (Asks a)) rest h i =
    stands_brings (may_stand_at place a) line (onto_steps (record { line = line; act = a }) (rest (place_after place a))) (onto_brings (record { line = line; act = a }) (rest (place_after place a)) h (i (place_after place a)))

steps_bring : (lines : List (List ℕ)) (place : Place) (line : ℕ) → IfSteps (steps_from place line lines)
steps_bring [] place line = tt
steps_bring (text ∷ texts) place line = behind_brings place line (line_of text) (λ behind. steps_from behind (line + 1) texts) (line_brings (freed text)) (λ behind. steps_bring texts behind (line + 1))

-- What the steps of a script bring may be written.
pub script_brings : (bytes : List ℕ) → IfSteps (steps_of bytes)
script_brings bytes = steps_bring (lines_of bytes) Start 1
