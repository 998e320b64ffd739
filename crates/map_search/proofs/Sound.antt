-- What is read is spelled so.
use Rattle.std.proofs.Common.{◌≡◌, ℕ, suc, ◌-◌, ◌≤◌, ◌<◌, Bool, true, false, nat_lt, nat_le, if◌then◌else◌, List, [], ◌∷◌, ◌++◌, length, Option, Some, None, refl, sym, ap, subst, ◌∙◌, arith}
use Rattle.std.proofs.lemmas.Bool.Decides.{nat_tests}
use Rattle.std.proofs.lemmas.List.{append-nil, append_assoc}
use Rattle.std.proofs.lemmas.Option.{same_Some}
use Rattle.std.specs.Option.{option_and_then}
use Rattle.map_search.specs.declared.pending.Opening.{Opening}
use Rattle.map_search.specs.declared.pending.Opening.TheVariants as opening
use Rattle.map_search.specs.declared.pending.Part.TheVariants.{Factor, Term, Whole}
use Rattle.map_search.specs.declared.pending.Pending.{Pending}
use Rattle.map_search.specs.declared.pending.Pending.TheVariants as pending
use Rattle.map_search.specs.declared.pending.Word.{Word}
use Rattle.map_search.specs.declared.pending.Word.TheVariants as word
use Rattle.map_search.specs.Grammar.{Spells, one_term, one_factor, SpellsQuery}
use Rattle.map_search.specs.Innermost.{innermost_takes}
use Rattle.map_search.specs.Query.{QueryValue, Child, Parent, Not, And}
use Rattle.map_search.specs.Reading.{State, wanting, nesting, taken, joined, closed, with_word, read_on, whole, query_of_words}
use Rattle.map_search.specs.Words.{word_of}
use Rattle.map_search.proofs.Saying.{by_or, by_and, by_not, by_child, by_parent, in_brackets, one_word}
use Rattle.map_search.proofs.Waiting.{taken_end}

abbrev Texts : Type 0
Texts = List (List ℕ)

-- how many openings may still come
abbrev room : List Pending → ℕ
room waiting = 64 - nesting waiting

-- the words behind which this waits
data Waits : List Pending → Texts → Type 0 where
  nothing : Waits [] []
  opens : (st : List Pending) (us : Texts) (w : List ℕ) (o : Opening) → Waits st us → word_of w ≡ Some (word.Opens o) → nesting st < 64 → Waits (pending.Opened o ∷ st) (us ++ w ∷ [])
  left_and : (st : List Pending) (us ws : Texts) (w : List ℕ) (a : QueryValue) → Waits st us → innermost_takes Factor st ≡ false → Spells Term (room st) ws a → word_of w ≡ Some word.And → Waits (pending.And a ∷ st) (us ++ (ws ++ w ∷ []))
  left_or : (st : List Pending) (us ws : Texts) (w : List ℕ) (a : QueryValue) → Waits st us → innermost_takes Factor st ≡ false → innermost_takes Term st ≡ false → Spells Whole (room st) ws a → word_of w ≡ Some word.Or → Waits (pending.Or a ∷ st) (us ++ (ws ++ w ∷ []))

-- the words that end in a term, and in all that a bracket or the end may take
record HasTerm (q : QueryValue) (waiting : List Pending) (vs : Texts) : Type 0 where
  us : Texts
  ws : Texts
  split : vs ≡ us ++ ws
  waits : Waits waiting us
  no_factor : innermost_takes Factor waiting ≡ false
  spelled : Spells Term (room waiting) ws q

record HasWhole (q : QueryValue) (waiting : List Pending) (vs : Texts) : Type 0 where
  us : Texts
  ws : Texts
  split : vs ≡ us ++ ws
  waits : Waits waiting us
  no_factor : innermost_takes Factor waiting ≡ false
  no_term : innermost_takes Term waiting ≡ false
  spelled : Spells Whole (room waiting) ws q

-- what the words so far have come to
abbrev Behind : Option QueryValue → List Pending → Texts → Type 0
Behind None st vs = Waits st vs
Behind (Some q) st vs = HasTerm q st vs

abbrev BehindAt : State → Texts → Type 0
BehindAt s vs = Behind s.query s.waiting vs

abbrev Joined : Option QueryValue → List Pending → Texts → Type 0
Joined None st vs = ⊥
Joined (Some q) st vs = HasWhole q st vs

abbrev JoinedAt : State → Texts → Type 0
JoinedAt s vs = Joined s.query s.waiting vs

more_room : (k : ℕ) → k < 64 → suc (64 - suc k) ≡ 64 - k
more_room k h = omega (arith, h)

one_more : (us ws : Texts) (w : List ℕ) → (us ++ w ∷ []) ++ ws ≡ us ++ w ∷ ws
one_more us ws w = append_assoc us (w ∷ []) ws

two_more : (us xs ws : Texts) (w : List ℕ) → (us ++ (xs ++ w ∷ [])) ++ ws ≡ us ++ (xs ++ w ∷ ws)
two_more us xs ws w = append_assoc us (xs ++ w ∷ []) ws ∙ ap (λ (ys : Texts). us ++ ys) (append_assoc xs (w ∷ []) ws)

abbrev from : {A : Type 0} → A → Option A → A
from d None = d
from d (Some x) = x

take_sound : (st : List Pending) (us : Texts) → Waits st us → (q : QueryValue) (ws vs : Texts) → vs ≡ us ++ ws → Spells Factor (room st) ws q → BehindAt (taken q st) vs
take_sound st us nothing q ws vs e s = record { us = []; ws = ws; split = e; waits = nothing; no_factor = refl; spelled = one_factor 64 ws q s }
take_sound _ _ (opens st us w opening.Not W f l) q ws vs e s =
    take_sound st us W (Not q) (w ∷ ws) vs (e ∙ one_more us ws w) (subst (λ n. Spells Factor n (w ∷ ws) (Not q)) (more_room (nesting st) l) (by_not (64 - suc (nesting st)) ws w q f s))
take_sound _ _ (opens st us w opening.Child W f l) q ws vs e s =
    take_sound st us W (Child q) (w ∷ ws) vs (e ∙ one_more us ws w) (subst (λ n. Spells Factor n (w ∷ ws) (Child q)) (more_room (nesting st) l) (by_child (64 - suc (nesting st)) ws w q f s))
take_sound _ _ (opens st us w opening.Parent W f l) q ws vs e s =
    take_sound st us W (Parent q) (w ∷ ws) vs (e ∙ one_more us ws w) (subst (λ n. Spells Factor n (w ∷ ws) (Parent q)) (more_room (nesting st) l) (by_parent (64 - suc (nesting st)) ws w q f s))
take_sound _ _ (opens st us w opening.Bracket W f l) q ws vs e s =
    record { us = us ++ w ∷ []; ws = ws; split = e; waits = opens st us w opening.Bracket W f l; no_factor = refl; spelled = one_factor (64 - suc (nesting st)) ws q s }
take_sound _ _ (left_and st us xs w a W t r f) q ws vs e s =
    let P : State → Type 0 = λ x. BehindAt x vs in
    subst P (sym (taken_end (And a q) st t)) (record { us = us; ws = xs ++ w ∷ ws; split = e ∙ two_more us xs ws w; waits = W; no_factor = t; spelled = by_and (room st) xs ws w a q r f s })
take_sound _ _ (left_or st us xs w a W t u r f) q ws vs e s =
    record { us = us ++ (xs ++ w ∷ []); ws = ws; split = e; waits = left_or st us xs w a W t u r f; no_factor = refl; spelled = one_factor (room st) ws q s }

join_sound : (st : List Pending) (us : Texts) → Waits st us → (q : QueryValue) (ws vs : Texts) → vs ≡ us ++ ws → innermost_takes Factor st ≡ false → Spells Term (room st) ws q → JoinedAt (joined q st) vs
join_sound st us nothing q ws vs e t s = record { us = []; ws = ws; split = e; waits = nothing; no_factor = refl; no_term = refl; spelled = one_term 64 ws q s }
join_sound _ _ (opens st us w opening.Not W f l) q ws vs e t s = cc
join_sound _ _ (opens st us w opening.Child W f l) q ws vs e t s = cc
join_sound _ _ (opens st us w opening.Parent W f l) q ws vs e t s = cc
join_sound _ _ (opens st us w opening.Bracket W f l) q ws vs e t s =
    record { us = us ++ w ∷ []; ws = ws; split = e; waits = opens st us w opening.Bracket W f l; no_factor = refl; no_term = refl; spelled = one_term (64 - suc (nesting st)) ws q s }
join_sound _ _ (left_and st us xs w a W t r f) q ws vs e u s = cc
join_sound _ _ (left_or st us xs w a W t u r f) q ws vs e g s =
    record { us = us; ws = xs ++ w ∷ ws; split = e ∙ two_more us xs ws w; waits = W; no_factor = t; no_term = u; spelled = by_or (room st) xs ws w a q r f s }

joined_behind : (q : QueryValue) (st : List Pending) (vs : Texts) → HasTerm q st vs → JoinedAt (joined q st) vs
joined_behind q st vs h = join_sound st h.us h.waits q h.ws vs h.split h.no_factor h.spelled

-- a bracket is closed
close_sound : (st : List Pending) (us : Texts) → Waits st us → (q : QueryValue) (ws vs : Texts) (v : List ℕ) (s : State) → vs ≡ us ++ ws → Spells Whole (room st) ws q → word_of v ≡ Some word.Closes → closed q st ≡ Some s → BehindAt s (vs ++ v ∷ [])
close_sound st us nothing q ws vs v s e r g h = cc
close_sound _ _ (opens st us w opening.Not W f l) q ws vs v s e r g h = cc
close_sound _ _ (opens st us w opening.Child W f l) q ws vs v s e r g h = cc
close_sound _ _ (opens st us w opening.Parent W f l) q ws vs v s e r g h = cc
close_sound _ _ (opens st us w opening.Bracket W f l) q ws vs v s e r g h =
    let at : vs ++ v ∷ [] ≡ us ++ w ∷ (ws ++ v ∷ []) = ap (λ (xs : Texts). xs ++ v ∷ []) (e ∙ one_more us ws w) ∙ append_assoc us (w ∷ ws) (v ∷ []) in
    let factor : Spells Factor (room st) (w ∷ (ws ++ v ∷ [])) q = subst (λ n. Spells Factor n (w ∷ (ws ++ v ∷ [])) q) (more_room (nesting st) l) (in_brackets (64 - suc (nesting st)) ws w v q f r g) in
    let P : State → Type 0 = λ x. BehindAt x (vs ++ v ∷ []) in
    subst P (same_Some (taken q st) s h) (take_sound st us W q (w ∷ (ws ++ v ∷ [])) (vs ++ v ∷ []) at factor)
close_sound _ _ (left_and st us xs w a W t r f) q ws vs v s e k g h = cc
close_sound _ _ (left_or st us xs w a W t u r f) q ws vs v s e k g h = cc

-- the words with one more, in two parts
one_behind : (us ws vs : Texts) (v : List ℕ) → vs ≡ us ++ ws → us ++ (ws ++ v ∷ []) ≡ vs ++ v ∷ []
one_behind us ws vs v e = sym (ap (λ (xs : Texts). xs ++ v ∷ []) e ∙ append_assoc us ws (v ∷ []))

or_case : (o : Option QueryValue) (st : List Pending) (vs : Texts) (v : List ℕ) (s : State) → Joined o st vs → word_of v ≡ Some word.Or → option_and_then (λ q. Some (wanting (pending.Or q ∷ st))) o ≡ Some s → BehindAt s (vs ++ v ∷ [])
or_case None st vs v s j e h = absurd j
or_case (Some q) st vs v s j e h =
    let P : State → Type 0 = λ x. BehindAt x (vs ++ v ∷ []) in
    subst P (same_Some (wanting (pending.Or q ∷ st)) s h) (subst (Waits (pending.Or q ∷ st)) (one_behind j.us j.ws vs v j.split) (left_or st j.us j.ws v q j.waits j.no_factor j.no_term j.spelled e))

close_case : (o : Option QueryValue) (st : List Pending) (vs : Texts) (v : List ℕ) (s : State) → Joined o st vs → word_of v ≡ Some word.Closes → option_and_then (λ q. closed q st) o ≡ Some s → BehindAt s (vs ++ v ∷ [])
close_case None st vs v s j e h = absurd j
close_case (Some q) st vs v s j e h = close_sound st j.us j.waits q j.ws vs v s j.split j.spelled e h

open_case : (b : Bool) (st : List Pending) (vs : Texts) (v : List ℕ) (o : Opening) (s : State) → nat_lt (nesting st) 64 ≡ b → Waits st vs → word_of v ≡ Some (word.Opens o) → (if b then Some (wanting (pending.Opened o ∷ st)) else None) ≡ Some s → BehindAt s (vs ++ v ∷ [])
open_case true st vs v o s few W e h =
    let l : nesting st < 64 = grind (arith, nat_tests, few) in
    let P : State → Type 0 = λ x. BehindAt x (vs ++ v ∷ []) in
    subst P (same_Some (wanting (pending.Opened o ∷ st)) s h) (opens st vs v o W e l)
open_case false st vs v o s few W e h = cc

step_sound : (q : Option QueryValue) (w : Word) (st : List Pending) (vs : Texts) (v : List ℕ) (s : State) → Behind q st vs → word_of v ≡ Some w → with_word q w st ≡ Some s → BehindAt s (vs ++ v ∷ [])
step_sound None (word.Opens o) st vs v s W e h = open_case (nat_lt (nesting st) 64) st vs v o s refl W e h
step_sound None (word.Asks a) st vs v s W e h =
    let P : State → Type 0 = λ x. BehindAt x (vs ++ v ∷ []) in
    subst P (same_Some (taken a st) s h) (take_sound st vs W a (v ∷ []) (vs ++ v ∷ []) refl (one_word (room st) v a e))
step_sound None word.And st vs v s W e h = cc
step_sound None word.Or st vs v s W e h = cc
step_sound None word.Closes st vs v s W e h = cc
step_sound (Some q) word.And st vs v s b e h =
    let P : State → Type 0 = λ x. BehindAt x (vs ++ v ∷ []) in
    subst P (same_Some (wanting (pending.And q ∷ st)) s h) (subst (Waits (pending.And q ∷ st)) (one_behind b.us b.ws vs v b.split) (left_and st b.us b.ws v q b.waits b.no_factor b.spelled e))
step_sound (Some q) word.Or st vs v s b e h = or_case (joined q st).query (joined q st).waiting vs v s (joined_behind q st vs b) e h
step_sound (Some q) word.Closes st vs v s b e h = close_case (joined q st).query (joined q st).waiting vs v s (joined_behind q st vs b) e h
step_sound (Some q) (word.Opens o) st vs v s b e h = cc
step_sound (Some q) (word.Asks a) st vs v s b e h = cc

no_words : (st : List Pending) (us : Texts) → Waits st us → st ≡ [] → us ≡ []
no_words st us nothing e = refl
no_words _ _ (opens st us w o W f l) e = cc
no_words _ _ (left_and st us xs w a W t r f) e = cc
no_words _ _ (left_or st us xs w a W t u r f) e = cc

end_case : (o : Option QueryValue) (st : List Pending) (vs : Texts) (r : QueryValue) → Joined o st vs → option_and_then (λ term. whole term st) o ≡ Some r → Spells Whole 64 (vs ++ []) r
end_case None st vs r j h = absurd j
end_case (Some q) [] vs r j h =
    let all : j.ws ≡ vs ++ [] = sym (append-nil vs ∙ j.split ∙ ap (λ (us : Texts). us ++ j.ws) (no_words [] j.us j.waits refl)) in
    subst (Spells Whole 64 (vs ++ [])) (same_Some q r h) (subst (λ (ws : Texts). Spells Whole 64 ws q) all j.spelled)
end_case (Some q) (p ∷ st) vs r j h = cc

-- how words that are left come to a query
abbrev Comes : Texts → QueryValue → Type 0
Comes texts r = (vs : Texts) (q : Option QueryValue) (st : List Pending) → Behind q st vs → read_on texts q st ≡ Some r → Spells Whole 64 (vs ++ texts) r

state_case : (text : List ℕ) (texts vs : Texts) (q : Option QueryValue) (st : List Pending) (r : QueryValue) (w : Word) (os : Option State) → Comes texts r → word_of text ≡ Some w → with_word q w st ≡ os → Behind q st vs → option_and_then (λ s. read_on texts s.query s.waiting) os ≡ Some r → Spells Whole 64 (vs ++ text ∷ texts) r
state_case text texts vs q st r w None comes e f b h = cc
state_case text texts vs q st r w (Some s) comes e f b h =
    subst (λ (ws : Texts). Spells Whole 64 ws r) (append_assoc vs (text ∷ []) texts) (comes (vs ++ text ∷ []) s.query s.waiting (step_sound q w st vs text s b e f) h)

word_case : (text : List ℕ) (texts vs : Texts) (q : Option QueryValue) (st : List Pending) (r : QueryValue) (ow : Option Word) → Comes texts r → word_of text ≡ ow → Behind q st vs → option_and_then (λ w. option_and_then (λ s. read_on texts s.query s.waiting) (with_word q w st)) ow ≡ Some r → Spells Whole 64 (vs ++ text ∷ texts) r
word_case text texts vs q st r None comes e b h = cc
word_case text texts vs q st r (Some w) comes e b h = state_case text texts vs q st r w (with_word q w st) comes e refl b h

read_sound : (texts : Texts) (r : QueryValue) → Comes texts r
read_sound [] r = λ vs q st b h. at_end q vs st b h
  where
    at_end : (q : Option QueryValue) (vs : Texts) (st : List Pending) → Behind q st vs → read_on [] q st ≡ Some r → Spells Whole 64 (vs ++ []) r
    at_end None vs st b h = cc
    at_end (Some q) vs st b h = end_case (joined q st).query (joined q st).waiting vs r (joined_behind q st vs b) h
read_sound (text ∷ texts) r = λ vs q st b h. word_case text texts vs q st r (word_of text) (read_sound texts r) refl b h

few_case : (b : Bool) (words : Texts) (q : QueryValue) → nat_le (length words) 1000 ≡ b → (if b then read_on words None [] else None) ≡ Some q → SpellsQuery words q
few_case true words q few h =
    let l : length words ≤ 1000 = grind (arith, nat_tests, few) in
    (l, read_sound words q [] None [] nothing h)
few_case false words q few h = cc

pub read_is_spelled : (words : Texts) (q : QueryValue) → query_of_words words ≡ Some q → SpellsQuery words q
read_is_spelled words q h = few_case (nat_le (length words) 1000) words q refl h
