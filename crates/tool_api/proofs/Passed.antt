-- What passed the tests of a job.
use Rattle.std.proofs.Common.{◌≡◌, ◌&&◌, ◌||◌, ℕ, Bool, true, false, cond, not, is_some, List, [], ◌∷◌, Option, Some, None, refl, sym, ap, ◌∙◌}
use mathlib.Core.Logic.{◌⊎◌, inl, inr}
use Rattle.std.specs.List.{find}
use Rattle.std.specs.Option.{option_or, option_map}
use Rattle.osm_base.specs.Rank.{is_key}
use Rattle.osm_base.specs.Content.{fits}
use Rattle.osm_base.proofs.RisingKeys.{one_key}
use Rattle.osm_base.specs.declared.key.Key.{Key}
use Rattle.osm_base.specs.declared.content.Content.{Content}
use Rattle.osm_table.specs.Same.{same_mine}
use Rattle.osm_table.proofs.SameLaws.{same_mine_decides}
use Rattle.osm_table.specs.declared.entry.Base.{Base}
use Rattle.osm_table.specs.declared.entry.Conflict.{Conflict}
use Rattle.osm_table.specs.declared.entry.Entry.{Entry}
use Rattle.osm_table.specs.declared.entry.Entry.TheVariants.{Incomplete, Known}
use Rattle.osm_table.specs.Table.{TableValue, entry_of, IsThere}
use Rattle.tool_api.specs.declared.kinds.Kinds.{Kinds}
use Rattle.tool_api.specs.declared.refusal.Refusal.{Refusal}
use Rattle.tool_api.specs.declared.refusal.Refusal.TheVariants.{TableFull}
use Rattle.tool_api.specs.Checks.{is_named, first_of, takes, conflict_test, entry_test, target_test, ref_entry_test, ref_tests, when}
use Rattle.tool_api.specs.Changes.{content_of}
use Rattle.tool_api.specs.Closing.{closing_tests, conflict_change_test, fit_test, room_test, makes_unfit, is_full}
use Rattle.tool_api.proofs.Least.{has_key, makes_unfit_at}

-- two tests in turn
pub both_none : (o p : Option Refusal) → option_or o p ≡ None → (o ≡ None) × (p ≡ None)
both_none None p e = (refl, e)
both_none (Some r) p e = cc

-- what passes each test of a list passes at a named key
at_first : (test : Key → Option Refusal) (q k : Key) (b : Bool) (ks : List Key) → is_key q k ≡ b → (b || is_named ks q) ≡ true → test k ≡ None → (is_named ks q ≡ true → test q ≡ None) → test q ≡ None
at_first test q k true ks is h here there = ap test (one_key q k is) ∙ here
at_first test q k false ks is h here there = there h

pub passes : (test : Key → Option Refusal) (ks : List Key) (q : Key) → first_of test ks ≡ None → is_named ks q ≡ true → test q ≡ None
passes test [] q e h = cc
passes test (k ∷ ks) q e h =
    let p = both_none (test k) (first_of test ks) e in
    at_first test q k (is_key q k) ks refl h p.0 (passes test ks q p.1)

-- an entry that lives without conflict
pub data Lives : Entry → Type 0 where
  lives : (base : Base) (c : Content) → Lives (Known base (Some c) None)

pub no_conflict : (base : Base) (c : Content) (k : Key) (conflict : Option Conflict) → conflict_test k conflict ≡ None → Lives (Known base (Some c) conflict)
no_conflict base c k None e = lives base c
no_conflict base c k (Some x) e = cc

of_kind : (base : Base) (c : Content) (k : Key) (conflict : Option Conflict) (b : Bool) (r : Refusal) → cond b (conflict_test k conflict) (Some r) ≡ None → Lives (Known base (Some c) conflict)
of_kind base c k conflict true r e = no_conflict base c k conflict e
of_kind base c k conflict false r e = cc

pub target_lives : (kinds : Kinds) (k : Key) (e : Entry) → entry_test kinds k (Some e) ≡ None → Lives e
target_lives kinds k Incomplete t = cc
target_lives kinds k (Known base None conflict) t = cc
target_lives kinds k (Known base (Some c) conflict) t = of_kind base c k conflict (takes kinds k.kind) _ t

-- a named key that passed the target tests lives without conflict
pub named_lives : (t : TableValue) (kinds : Kinds) (ks : List Key) (k : Key) (e : Entry) → first_of (target_test t kinds) ks ≡ None → is_named ks k ≡ true → entry_of t k ≡ Some e → Lives e
named_lives t kinds ks k e passed named is = target_lives kinds k e (ap (entry_test kinds k) (sym is) ∙ passes (target_test t kinds) ks k passed named)

-- what passed the reference tests is there
pub ref_there : (r : Key) (o : Option Entry) → ref_entry_test r o ≡ None → IsThere o
ref_there r None e = cc
ref_there r (Some Incomplete) e = tt
ref_there r (Some (Known base None conflict)) e = cc
ref_there r (Some (Known base (Some c) conflict)) e = refl

pub refs_there : (t : TableValue) (refs : List Key) (r : Key) → ref_tests t refs ≡ None → is_named refs r ≡ true → IsThere (entry_of t r)
refs_there t refs r passed has = ref_there r (entry_of t r) (passes (λ r. ref_entry_test r (entry_of t r)) refs r passed has)

-- where nothing is found, no key passes
none_at : (p : Key → Bool) (q k : Key) (ks : List Key) (found : Option Key) (b c : Bool) → p k ≡ b → is_key q k ≡ c → cond b (Some k) found ≡ None → (c || is_named ks q) ≡ true
    → (found ≡ None → is_named ks q ≡ true → p q ≡ false) → p q ≡ false
none_at p q k ks found true c pk is none has there = cc
none_at p q k ks found false true pk is none has there = ap p (one_key q k is) ∙ pk
none_at p q k ks found false false pk is none has there = there none has

pub none_passes : (p : Key → Bool) (ks : List Key) (q : Key) → find p ks ≡ None → is_named ks q ≡ true → p q ≡ false
none_passes p [] q none has = cc
none_passes p (k ∷ ks) q none has = none_at p q k ks (find p ks) (p k) (is_key q k) refl refl none has (none_passes p ks q)

pub none_in : (o : Option Key) (f : Key → Refusal) → option_map f o ≡ None → o ≡ None
none_in None f e = refl
none_in (Some x) f e = cc

-- the closing tests one by one
pub record PassedTests (t u : TableValue) (limit : ℕ) (named : List Key) : Type 0 where
  pub leaves_conflict : conflict_change_test t named u ≡ None
  pub fits : fit_test t u ≡ None
  pub room : is_full limit u ≡ false

pub some_when : (b : Bool) (r : Refusal) → when b r ≡ None → b ≡ false
some_when true r e = cc
some_when false r e = refl

pub passed_when : (b : Bool) (r : Refusal) → when (not b) r ≡ None → b ≡ true
passed_when true r e = refl
passed_when false r e = cc

pub passed_tests : (t u : TableValue) (limit : ℕ) (named : List Key) → closing_tests t limit named u ≡ None → PassedTests t u limit named
passed_tests t u limit named passed =
    let p = both_none (conflict_change_test t named u) (option_or (fit_test t u) (room_test limit u)) passed in
    let q = both_none (fit_test t u) (room_test limit u) p.1 in
    record { leaves_conflict = p.0; fits = q.0; room = some_when (is_full limit u) TableFull q.1 }

-- no entry of the new table is one that the job makes unfit
pub keeps_fit : (t u : TableValue) (limit : ℕ) (named : List Key) (k : Key) (e : Entry) → closing_tests t limit named u ≡ None → entry_of u k ≡ Some e → makes_unfit (content_of t k) (content_of u k) ≡ false
keeps_fit t u limit named k e passed has =
    none_passes (makes_unfit_at t u) _ k (none_in (find (makes_unfit_at t u) _) _ (passed_tests t u limit named passed).fits) (has_key u k (ap is_some has))

-- what isn't made unfit fits, or is as it was
fits_case : (fit : Bool) (before : Option Content) (c : Content) (b : Bool) → same_mine before (Some c) ≡ b → (not fit && not b) ≡ false → (fit ≡ true) ⊎ (before ≡ Some c)
fits_case true before c b is e = inl refl
fits_case false before c true is e = inr ((same_mine_decides before (Some c)).0 is)
fits_case false before c false is e = cc

pub fits_or_stays : (before : Option Content) (c : Content) → makes_unfit before (Some c) ≡ false → (fits c ≡ true) ⊎ (before ≡ Some c)
fits_or_stays before c e = fits_case (fits c) before c _ refl e
