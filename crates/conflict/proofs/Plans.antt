-- What a settled entry's plan says.
use Rattle.std.proofs.Common.{◌≡◌, ℕ, List, [], Option, Some, None, refl, sym, ◌∙◌, ap}
use Rattle.std.specs.Option.{option_or}
use Rattle.std.specs.Prelude.{Result, Ok, Err}
use Rattle.osm_base.specs.declared.key.Key.{Key}
use Rattle.osm_table.specs.declared.entry.Entry.{Entry}
use Rattle.osm_table.specs.Table.{TableValue, mine_of}
use Rattle.tool_api.specs.declared.refusal.Refusal.{Refusal}
use Rattle.tool_api.specs.Checks.{◌>>◌}
use Rattle.tool_api.specs.Changes.{Outcome, done}
use Rattle.tool_api.specs.Closing.{room_test}
use Rattle.tool_api.specs.Resolve.{unused_test, references_gone_test, settled_fit_test, settled_table, settle}
use Rattle.conflict.specs.Settled.{settled_tests}

in_turn : (a b c : Option Refusal) (rest : Result Outcome Refusal) → (a >> (b >> (c >> rest))) ≡ (option_or a (option_or b c) >> rest)
in_turn None None c rest = refl
in_turn None (Some r) c rest = refl
in_turn (Some r) b c rest = refl

abbrev rest : TableValue → ℕ → Key → Entry → Result Outcome Refusal
rest t limit k e = room_test limit (settled_table t k (Some e)) >> Ok (done (settled_table t k (Some e)))

tests_first : (t : TableValue) (limit : ℕ) (k : Key) (e : Entry) → settle t limit k (Some e) ≡ (settled_tests t k e >> rest t limit k e)
tests_first t limit k e = in_turn (unused_test t k (mine_of e)) (references_gone_test t k (mine_of e)) (settled_fit_test k (Some e)) (rest t limit k e)

-- a test refuses
pub refused : (t : TableValue) (limit : ℕ) (k : Key) (e : Entry) (r : Refusal) → Some r ≡ settled_tests t k e → settle t limit k (Some e) ≡ Err r
refused t limit k e r is = tests_first t limit k e ∙ ap (λ (o : Option Refusal). o >> rest t limit k e) (sym is)

-- there is no room
pub no_room : (t : TableValue) (limit : ℕ) (k : Key) (e : Entry) (u : TableValue) (r : Refusal) → None ≡ settled_tests t k e → u ≡ settled_table t k (Some e) → Some r ≡ room_test limit u → settle t limit k (Some e) ≡ Err r
no_room t limit k e u r none is full =
    tests_first t limit k e ∙ ap (λ (o : Option Refusal). o >> rest t limit k e) (sym none)
    ∙ ap (λ (o : Option Refusal). o >> Ok (done (settled_table t k (Some e)))) (sym (full ∙ ap (room_test limit) is))

-- nothing refuses
pub settles : (t : TableValue) (limit : ℕ) (k : Key) (e : Entry) (u : TableValue) (made : List Key) → None ≡ settled_tests t k e → u ≡ settled_table t k (Some e) → None ≡ room_test limit u → made ≡ []
    → settle t limit k (Some e) ≡ Ok (record { keys = made; table = u })
settles t limit k e u made none is room nil =
    tests_first t limit k e ∙ ap (λ (o : Option Refusal). o >> rest t limit k e) (sym none)
    ∙ ap (λ (o : Option Refusal). o >> Ok (done (settled_table t k (Some e)))) (sym (room ∙ ap (room_test limit) is))
    ∙ ap (λ (v : TableValue). Ok (done v)) (sym is) ∙ ap (λ (ks : List Key). Ok (record { keys = ks; table = u })) (sym nil)
