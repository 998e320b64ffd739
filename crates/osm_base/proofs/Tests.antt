-- What a test that passes or fails says: of `and` and `or`, of an order, of an option.
use Rattle.std.proofs.Common.{◌≡◌, ◌&&◌, ◌||◌, Bool, true, false, cond, is_some, Option, Some, None, refl, Ordering}
use Rattle.std.specs.declared.cmp.Ordering.TheVariants.{Less, Equal, Greater}
use Rattle.std.specs.Option.{option_map, option_map_or, option_or}
use Rattle.std.specs.Ordering.{is_lt, is_eq}
use Rattle.std.specs.Prelude.{T}

-- ---- tests

pub both_T : (a b : Bool) → T a → T b → T (a && b)
both_T true b p q = q
both_T false b p q = p

pub first_T : (a b : Bool) → T (a && b) → T a
first_T true b p = tt
first_T false b p = p

pub second_T : (a b : Bool) → T (a && b) → T b
second_T true b p = p
second_T false b p = absurd p

pub true_from_T : (b : Bool) → T b → b ≡ true
true_from_T true h = refl
true_from_T false h = absurd h

-- what follows either way follows
pub by_bool : {P : Type 0} (b : Bool) → (b ≡ true → P) → (b ≡ false → P) → P
by_bool true f g = f refl
by_bool false f g = g refl

-- what follows from either follows
pub by_either : {P : Type 0} (a b : Bool) → (a || b) ≡ true → (a ≡ true → P) → (b ≡ true → P) → P
by_either true b e f g = f refl
by_either false b e f g = g e

-- no test both passes and fails
pub never : {P : Type 0} (b : Bool) → b ≡ true → b ≡ false → P
never true e f = absurd cc
never false e f = absurd cc

-- a second test that passes takes nothing away
pub and_passed : (a b : Bool) → b ≡ true → (a && b) ≡ a
and_passed true b e = e
and_passed false b e = refl

-- ---- orders

pub less_from_T : (o : Ordering) → T (is_lt o) → o ≡ Less
less_from_T Less h = refl
less_from_T Equal h = absurd h
less_from_T Greater h = absurd h

pub less_from_test : (o : Ordering) → is_lt o ≡ true → o ≡ Less
less_from_test Less e = refl
less_from_test Equal e = cc
less_from_test Greater e = cc

pub no_tie : (o : Ordering) → T (is_lt o) → is_eq o ≡ false
no_tie Less h = refl
no_tie Equal h = absurd h
no_tie Greater h = refl

-- ---- options

pub none_from_test : {A : Type 0} (o : Option A) → is_some o ≡ false → o ≡ None
none_from_test None e = refl
none_from_test (Some x) e = cc

pub some_from_test : {A : Type 0} (o : Option A) → is_some o ≡ true → (x : A) × (o ≡ Some x)
some_from_test None e = absurd cc
some_from_test (Some x) e = (x, refl)

-- a test that the value of an option passes
pub some_passed : {A : Type 0} (f : A → Bool) (o : Option A) → option_map_or f o false ≡ true → (x : A) × (o ≡ Some x) × (f x ≡ true)
some_passed f None e = absurd cc
some_passed f (Some x) e = (x, refl, e)

pub none_before_map : {A B : Type 0} (f : A → B) (o : Option A) → option_map f o ≡ None → o ≡ None
none_before_map f None e = refl
none_before_map f (Some x) e = cc

pub none_of_both : {A : Type 0} (o p : Option A) → option_or o p ≡ None → (o ≡ None) × (p ≡ None)
none_of_both None p e = (refl, e)
none_of_both (Some x) p e = cc

-- what is there only where a test passes
pub only_passed : {A : Type 0} (b : Bool) (o : Option A) (x : A) → cond b o None ≡ Some x → (b ≡ true) × (o ≡ Some x)
only_passed true o x e = (refl, e)
only_passed false o x e = cc

-- a test whose failure leaves something
pub passed_where_none : {A : Type 0} (b : Bool) (o : Option A) (x : A) → cond b o (Some x) ≡ None → b ≡ true
passed_where_none true o x e = refl
passed_where_none false o x e = cc

pub option_or-assoc : {A : Type 0} (o p q : Option A) → option_or o (option_or p q) ≡ option_or (option_or o p) q
option_or-assoc None p q = refl
option_or-assoc (Some x) p q = refl

pub option_or-none : {A : Type 0} (o : Option A) → option_or o None ≡ o
option_or-none None = refl
option_or-none (Some x) = refl

pub cond-option_or : {A : Type 0} (b : Bool) (x : A) (o : Option A) → cond b (Some x) o ≡ option_or (cond b (Some x) None) o
cond-option_or true x o = refl
cond-option_or false x o = refl
