-- What spells a query is read.
use Rattle.std.proofs.Common.{◌≡◌, ℕ, suc, ◌+◌, ◌≤◌, true, false, nat_lt, nat_le, codes, List, [], ◌∷◌, ◌++◌, length, Option, Some, None, refl, sym, ap, ◌∙◌, arith}
use Rattle.std.proofs.lemmas.Bool.Decides.{nat_tests}
use Rattle.std.proofs.lemmas.List.{append-nil, append_assoc}
use Rattle.map_search.specs.declared.pending.Opening.{Opening}
use Rattle.map_search.specs.declared.pending.Opening.TheVariants as opening
use Rattle.map_search.specs.declared.pending.Part.{Part}
use Rattle.map_search.specs.declared.pending.Part.TheVariants.{Factor, Term, Whole}
use Rattle.map_search.specs.declared.pending.Pending.{Pending}
use Rattle.map_search.specs.declared.pending.Pending.TheVariants as pending
use Rattle.map_search.specs.declared.pending.Word.TheVariants as word
use Rattle.map_search.specs.Grammar.{Spells, one_term, by_or, one_factor, by_and, by_not, by_child, by_parent, in_brackets, one_word, SpellsQuery}
use Rattle.map_search.specs.Innermost.{innermost_takes}
use Rattle.map_search.specs.Query.{QueryValue, And}
use Rattle.map_search.specs.Reading.{State, having, nesting, taken, joined, read_on, ended, query_of_words}
use Rattle.map_search.specs.Words.{word_of}
use Rattle.map_search.proofs.Saying.{and_says, asking_says, child_says, closing_says, not_says, opening_says, or_says, parent_says}
use Rattle.map_search.proofs.Waiting.{taken_end}

-- reading goes on behind a state
abbrev pub resumed : List (List ℕ) → State → Option QueryValue
resumed rest s = read_on rest s.query s.waiting

pub joined_end : (q : QueryValue) (waiting : List Pending) → innermost_takes Term waiting ≡ false → joined q waiting ≡ having q waiting
joined_end q [] e = refl
joined_end q (p ∷ waiting) e = rw e refl

-- at the end of a whole query: its last term, which joins what is left of it
record AtWhole (words rest : List (List ℕ)) (waiting : List Pending) (q : QueryValue) : Type 0 where
  term : QueryValue
  left : List Pending
  joins : joined term left ≡ having q waiting
  reads : read_on (words ++ rest) None waiting ≡ read_on rest (Some term) left

-- how the words of a part are read, in front of others
abbrev IsRead : Part → ℕ → List (List ℕ) → QueryValue → Type 0
IsRead Factor n words q = (rest : List (List ℕ)) (waiting : List Pending) → nesting waiting + n ≤ 64 → read_on (words ++ rest) None waiting ≡ resumed rest (taken q waiting)
IsRead Term n words q = (rest : List (List ℕ)) (waiting : List Pending) → nesting waiting + n ≤ 64 → innermost_takes Factor waiting ≡ false → read_on (words ++ rest) None waiting ≡ read_on rest (Some q) waiting
IsRead Whole n words q = (rest : List (List ℕ)) (waiting : List Pending) → nesting waiting + n ≤ 64 → innermost_takes Factor waiting ≡ false → innermost_takes Term waiting ≡ false → AtWhole words rest waiting q

open_step : (w : List ℕ) (o : Opening) (rest : List (List ℕ)) (waiting : List Pending) (n : ℕ) → word_of w ≡ Some (word.Opens o) → nesting waiting + suc n ≤ 64 → read_on (w ∷ rest) None waiting ≡ read_on rest None (pending.Opened o ∷ waiting)
open_step w o rest waiting n e h =
    let few : nat_lt (nesting waiting) 64 ≡ true = grind (arith, nat_tests, h) in
    rw (e, few) refl

close_step : (v : List ℕ) (rest : List (List ℕ)) (t q : QueryValue) (left waiting : List Pending) → word_of v ≡ Some word.Closes → joined t left ≡ having q (pending.Opened opening.Bracket ∷ waiting) → read_on (v ∷ rest) (Some t) left ≡ resumed rest (taken q waiting)
close_step v rest t q left waiting e j = rw (e, j) refl

and_step : (w : List ℕ) (rest : List (List ℕ)) (q : QueryValue) (waiting : List Pending) → word_of w ≡ Some word.And → read_on (w ∷ rest) (Some q) waiting ≡ read_on rest None (pending.And q ∷ waiting)
and_step w rest q waiting e = rw e refl

or_step : (w : List ℕ) (rest : List (List ℕ)) (t q : QueryValue) (left waiting : List Pending) → word_of w ≡ Some word.Or → joined t left ≡ having q waiting → read_on (w ∷ rest) (Some t) left ≡ read_on rest None (pending.Or q ∷ waiting)
or_step w rest t q left waiting e j = rw (e, j) refl

ask_step : (w : List ℕ) (rest : List (List ℕ)) (q : QueryValue) (waiting : List Pending) → word_of w ≡ Some (word.Asks q) → read_on (w ∷ rest) None waiting ≡ resumed rest (taken q waiting)
ask_step w rest q waiting e = rw e refl

less : (k n : ℕ) → k + suc n ≤ 64 → suc k + n ≤ 64
less k n h = omega (arith, h)

is_read : (p : Part) (n : ℕ) (words : List (List ℕ)) (q : QueryValue) → Spells p n words q → IsRead p n words q
is_read _ _ _ _ (one_word n w a e) = λ rest waiting h. ask_step w rest a waiting (asking_says w a e)
is_read _ _ _ _ (by_not n ws a s) = λ rest waiting h.
    open_step (codes "not") opening.Not (ws ++ rest) waiting n not_says h ∙ is_read Factor n ws a s rest (pending.Opened opening.Not ∷ waiting) (less (nesting waiting) n h)
is_read _ _ _ _ (by_child n ws a s) = λ rest waiting h.
    open_step (codes "child") opening.Child (ws ++ rest) waiting n child_says h ∙ is_read Factor n ws a s rest (pending.Opened opening.Child ∷ waiting) (less (nesting waiting) n h)
is_read _ _ _ _ (by_parent n ws a s) = λ rest waiting h.
    open_step (codes "parent") opening.Parent (ws ++ rest) waiting n parent_says h ∙ is_read Factor n ws a s rest (pending.Opened opening.Parent ∷ waiting) (less (nesting waiting) n h)
is_read _ _ _ _ (in_brackets n ws a s) = λ rest waiting h.
    let inner : AtWhole ws (codes ")" ∷ rest) (pending.Opened opening.Bracket ∷ waiting) a = is_read Whole n ws a s (codes ")" ∷ rest) (pending.Opened opening.Bracket ∷ waiting) (less (nesting waiting) n h) refl refl in
    open_step (codes "(") opening.Bracket ((ws ++ codes ")" ∷ []) ++ rest) waiting n opening_says h
    ∙ ap (λ (xs : List (List ℕ)). read_on xs None (pending.Opened opening.Bracket ∷ waiting)) (append_assoc ws (codes ")" ∷ []) rest)
    ∙ inner.reads
    ∙ close_step (codes ")") rest inner.term a inner.left waiting closing_says inner.joins
is_read _ _ _ _ (one_factor n us a s) = λ rest waiting h t.
    is_read Factor n us a s rest waiting h ∙ ap (resumed rest) (taken_end a waiting t)
is_read _ _ _ _ (by_and n us ws a b s r) = λ rest waiting h t.
    ap (λ (xs : List (List ℕ)). read_on xs None waiting) (append_assoc us (codes "and" ∷ ws) rest)
    ∙ is_read Term n us a s (codes "and" ∷ (ws ++ rest)) waiting h t
    ∙ and_step (codes "and") (ws ++ rest) a waiting and_says
    ∙ is_read Factor n ws b r rest (pending.And a ∷ waiting) h
    ∙ ap (resumed rest) (taken_end (And a b) waiting t)
is_read _ _ _ _ (one_term n us a s) = λ rest waiting h t u. record {
  term = a;
  left = waiting;
  joins = joined_end a waiting u;
  reads = is_read Term n us a s rest waiting h t;
}
is_read _ _ _ _ (by_or n us ws a b s r) = λ rest waiting h t u.
    let first : AtWhole us (codes "or" ∷ (ws ++ rest)) waiting a = is_read Whole n us a s (codes "or" ∷ (ws ++ rest)) waiting h t u in
    record {
      term = b;
      left = pending.Or a ∷ waiting;
      joins = refl;
      reads = ap (λ (xs : List (List ℕ)). read_on xs None waiting) (append_assoc us (codes "or" ∷ ws) rest)
          ∙ first.reads
          ∙ or_step (codes "or") (ws ++ rest) first.term a first.left waiting or_says first.joins
          ∙ is_read Term n ws b r rest (pending.Or a ∷ waiting) h refl;
    }

end_step : (t q : QueryValue) (left : List Pending) → joined t left ≡ having q [] → ended (Some t) left ≡ Some q
end_step t q left j = rw j refl

pub spelled_is_read : (words : List (List ℕ)) (q : QueryValue) → SpellsQuery words q → query_of_words words ≡ Some q
spelled_is_read words q s =
    let few : nat_le (length words) 1000 ≡ true = grind (arith, nat_tests, s.0) in
    let end : AtWhole words [] [] q = is_read Whole 64 words q s.1 [] [] (omega arith) refl refl in
    let read : read_on words None [] ≡ Some q = ap (λ (xs : List (List ℕ)). read_on xs None []) (sym (append-nil words)) ∙ end.reads ∙ end_step end.term q end.left end.joins in
    rw few read
