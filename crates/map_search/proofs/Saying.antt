-- What the words of queries say, and that words which say the same spell the same.
use Rattle.std.proofs.Common.{◌≡◌, ℕ, suc, Bool, true, false, cond, List, [], ◌∷◌, ◌++◌, Option, Some, None, refl, sym, subst, ap, ◌∙◌, codes, bytes_eq}
use Rattle.std.specs.Option.{option_map}
use Rattle.std.proofs.lemmas.Slice.Eq.{bytes_eq-Decides}
use Rattle.map_search.specs.declared.pending.Opening.TheVariants as opening
use Rattle.map_search.specs.declared.pending.Part.TheVariants.{Factor, Term, Whole}
use Rattle.map_search.specs.declared.pending.Word.{Word}
use Rattle.map_search.specs.declared.pending.Word.TheVariants as word
use Rattle.map_search.specs.Grammar.{Spells}
use Rattle.map_search.specs.Grammar as grammar
use Rattle.map_search.specs.Query.{QueryValue, Child, Parent, Not, And, Or}
use Rattle.map_search.specs.Words.{joining_word, kind_word, state_word, tag_word, word_of}

-- how a word is written that says so
abbrev Says : List ℕ → Word → Type 0
Says w (word.Opens opening.Not) = w ≡ codes "not"
Says w (word.Opens opening.Child) = w ≡ codes "child"
Says w (word.Opens opening.Parent) = w ≡ codes "parent"
Says w (word.Opens opening.Bracket) = w ≡ codes "("
Says w word.Closes = w ≡ codes ")"
Says w word.And = w ≡ codes "and"
Says w word.Or = w ≡ codes "or"
Says w (word.Asks q) = kind_word w ≡ Some q

abbrev IfSays : List ℕ → Option Word → Type 0
IfSays w None = Unit {0}
IfSays w (Some u) = Says w u

says_if : (w text : List ℕ) (u : Word) (o : Option Word) (b : Bool) → bytes_eq w text ≡ b → (w ≡ text → Says w u) → IfSays w o → IfSays w (cond b (Some u) o)
says_if w text u o true e says others = says ((bytes_eq-Decides w text).0 e)
says_if w text u o false e says others = others

asks_says : (w : List ℕ) (o : Option QueryValue) → kind_word w ≡ o → IfSays w (option_map word.Asks o)
asks_says w None e = tt
asks_says w (Some q) e = e

joining_says : (w : List ℕ) → IfSays w (joining_word w)
unfolding joining_word
joining_says w =
    says_if w (codes "and") word.And _ (bytes_eq w (codes "and")) refl (λ e. e)
    (says_if w (codes "or") word.Or _ (bytes_eq w (codes "or")) refl (λ e. e)
    (says_if w (codes ")") word.Closes _ (bytes_eq w (codes ")")) refl (λ e. e) (asks_says w (kind_word w) refl)))

word_says : (w : List ℕ) → IfSays w (word_of w)
unfolding word_of
word_says w =
    says_if w (codes "not") (word.Opens opening.Not) _ (bytes_eq w (codes "not")) refl (λ e. e)
    (says_if w (codes "child") (word.Opens opening.Child) _ (bytes_eq w (codes "child")) refl (λ e. e)
    (says_if w (codes "parent") (word.Opens opening.Parent) _ (bytes_eq w (codes "parent")) refl (λ e. e)
    (says_if w (codes "(") (word.Opens opening.Bracket) _ (bytes_eq w (codes "(")) refl (λ e. e) (joining_says w))))

said : (w : List ℕ) (u : Word) → word_of w ≡ Some u → Says w u
said w u e = subst (IfSays w) e (word_says w)

-- the words that say so
pub not_says : word_of (codes "not") ≡ Some (word.Opens opening.Not)
unfolding word_of
not_says = refl

pub child_says : word_of (codes "child") ≡ Some (word.Opens opening.Child)
unfolding word_of
child_says = refl

pub parent_says : word_of (codes "parent") ≡ Some (word.Opens opening.Parent)
unfolding word_of
parent_says = refl

pub opening_says : word_of (codes "(") ≡ Some (word.Opens opening.Bracket)
unfolding word_of
opening_says = refl

pub closing_says : word_of (codes ")") ≡ Some word.Closes
unfolding word_of joining_word
closing_says = refl

pub and_says : word_of (codes "and") ≡ Some word.And
unfolding word_of joining_word
and_says = refl

pub or_says : word_of (codes "or") ≡ Some word.Or
unfolding word_of joining_word
or_says = refl

-- a word that asks something is none of these
not_first : (w text : List ℕ) (q : QueryValue) (u : Word) (o : Option Word) (b : Bool) → bytes_eq w text ≡ b → kind_word w ≡ Some q → kind_word text ≡ None → o ≡ Some (word.Asks q) → cond b (Some u) o ≡ Some (word.Asks q)
not_first w text q u o true e asks none others =
    let is : Some q ≡ None = sym asks ∙ ap kind_word ((bytes_eq-Decides w text).0 e) ∙ none in cc
not_first w text q u o false e asks none others = others

pub asking_says : (w : List ℕ) (q : QueryValue) → kind_word w ≡ Some q → word_of w ≡ Some (word.Asks q)
unfolding word_of joining_word kind_word state_word tag_word
asking_says w q asks =
    not_first w (codes "not") q _ _ (bytes_eq w (codes "not")) refl asks refl
    (not_first w (codes "child") q _ _ (bytes_eq w (codes "child")) refl asks refl
    (not_first w (codes "parent") q _ _ (bytes_eq w (codes "parent")) refl asks refl
    (not_first w (codes "(") q _ _ (bytes_eq w (codes "(")) refl asks refl
    (not_first w (codes "and") q _ _ (bytes_eq w (codes "and")) refl asks refl
    (not_first w (codes "or") q _ _ (bytes_eq w (codes "or")) refl asks refl
    (not_first w (codes ")") q _ _ (bytes_eq w (codes ")")) refl asks refl (ap (option_map word.Asks) asks)))))))

-- The grammar by what the words say.

pub by_or : (n : ℕ) (us ws : List (List ℕ)) (w : List ℕ) (a b : QueryValue) → Spells Whole n us a → word_of w ≡ Some word.Or → Spells Term n ws b → Spells Whole n (us ++ w ∷ ws) (Or a b)
by_or n us ws w a b s e r = subst (λ (v : List ℕ). Spells Whole n (us ++ v ∷ ws) (Or a b)) (sym (said w word.Or e)) (grammar.by_or n us ws a b s r)

pub by_and : (n : ℕ) (us ws : List (List ℕ)) (w : List ℕ) (a b : QueryValue) → Spells Term n us a → word_of w ≡ Some word.And → Spells Factor n ws b → Spells Term n (us ++ w ∷ ws) (And a b)
by_and n us ws w a b s e r = subst (λ (v : List ℕ). Spells Term n (us ++ v ∷ ws) (And a b)) (sym (said w word.And e)) (grammar.by_and n us ws a b s r)

pub by_not : (n : ℕ) (ws : List (List ℕ)) (w : List ℕ) (a : QueryValue) → word_of w ≡ Some (word.Opens opening.Not) → Spells Factor n ws a → Spells Factor (suc n) (w ∷ ws) (Not a)
by_not n ws w a e s = subst (λ (v : List ℕ). Spells Factor (suc n) (v ∷ ws) (Not a)) (sym (said w (word.Opens opening.Not) e)) (grammar.by_not n ws a s)

pub by_child : (n : ℕ) (ws : List (List ℕ)) (w : List ℕ) (a : QueryValue) → word_of w ≡ Some (word.Opens opening.Child) → Spells Factor n ws a → Spells Factor (suc n) (w ∷ ws) (Child a)
by_child n ws w a e s = subst (λ (v : List ℕ). Spells Factor (suc n) (v ∷ ws) (Child a)) (sym (said w (word.Opens opening.Child) e)) (grammar.by_child n ws a s)

pub by_parent : (n : ℕ) (ws : List (List ℕ)) (w : List ℕ) (a : QueryValue) → word_of w ≡ Some (word.Opens opening.Parent) → Spells Factor n ws a → Spells Factor (suc n) (w ∷ ws) (Parent a)
by_parent n ws w a e s = subst (λ (v : List ℕ). Spells Factor (suc n) (v ∷ ws) (Parent a)) (sym (said w (word.Opens opening.Parent) e)) (grammar.by_parent n ws a s)

pub in_brackets : (n : ℕ) (ws : List (List ℕ)) (w v : List ℕ) (a : QueryValue) → word_of w ≡ Some (word.Opens opening.Bracket) → Spells Whole n ws a → word_of v ≡ Some word.Closes → Spells Factor (suc n) (w ∷ (ws ++ v ∷ [])) a
in_brackets n ws w v a e s f =
    subst (λ (x : List ℕ). Spells Factor (suc n) (x ∷ (ws ++ v ∷ [])) a) (sym (said w (word.Opens opening.Bracket) e))
    (subst (λ (x : List ℕ). Spells Factor (suc n) (codes "(" ∷ (ws ++ x ∷ [])) a) (sym (said v word.Closes f)) (grammar.in_brackets n ws a s))

pub one_word : (n : ℕ) (w : List ℕ) (a : QueryValue) → word_of w ≡ Some (word.Asks a) → Spells Factor n (w ∷ []) a
one_word n w a e = grammar.one_word n w a (said w (word.Asks a) e)
