-- What a merge's plan says.
use Rattle.std.proofs.Common.{◌≡◌, ℕ, List, [], Option, Some, None, sym, ◌∙◌, ap, subst}
use Rattle.std.specs.Prelude.{Result, Ok, Err}
use Rattle.osm_base.specs.declared.key.Key.{Key}
use Rattle.osm_table.specs.Table.{TableValue, entry_of}
use Rattle.osm_table.specs.Told.{ToldValue, IsToldMap}
use Rattle.osm_table.proofs.Each.{same_table}
use Rattle.dataset.specs.Draft.{DraftValue, drafted}
use Rattle.dataset.specs.Sound.{IsSound}
use Rattle.tool_api.specs.declared.refusal.Refusal.{Refusal}
use Rattle.tool_api.specs.Checks.{◌>>◌}
use Rattle.tool_api.specs.Changes.{Outcome, done}
use Rattle.tool_api.specs.Closing.{room_test}
use Rattle.tool_api.specs.Staged.{stage_of}
use Rattle.tool_api.specs.Merged.{both_keys, reached_keys, final, merged, merge, clash_test}
use Rattle.tool_api.proofs.Looks.{next_changed}
use Rattle.job_laws.proofs.MergeOutcome.{merged_at}
use Rattle.job_laws.proofs.MergeSounds.{merged_sound}

-- a draft that has what is said of each key makes the merged table
pub drafted_is : (t : TableValue) (m : ToldValue) (d : DraftValue) → ((k : Key) → entry_of (drafted d t) k ≡ final (stage_of t m.told) (both_keys t m.told) k) → d.next ≡ t.next → drafted d t ≡ merged t m.told
drafted_is t m d each number = same_table (drafted d t) (merged t m.told) (λ k. each k ∙ sym (merged_at t m.told k)) (number ∙ sym (next_changed t (final (stage_of t m.told) (both_keys t m.told)) (reached_keys t m.told)))

-- which is sound
pub drafted_sound : (t : TableValue) (m : ToldValue) (u : TableValue) → IsSound t → IsToldMap m.told → u ≡ merged t m.told → IsSound u
drafted_sound t m u sound told is = subst IsSound (sym is) (merged_sound t m.told sound told)

abbrev rest : TableValue → ToldValue → ℕ → Result Outcome Refusal
rest t m limit = room_test limit (merged t m.told) >> Ok (done (merged t m.told))

-- versions clash
pub refused : (t : TableValue) (m : ToldValue) (limit : ℕ) (r : Refusal) → Some r ≡ clash_test t m.told → merge t limit m ≡ Err r
refused t m limit r e = ap (λ (o : Option Refusal). o >> rest t m limit) (sym e)

-- none clash, and there is no room
pub no_room : (t : TableValue) (m : ToldValue) (limit : ℕ) (u : TableValue) (r : Refusal) → None ≡ clash_test t m.told → u ≡ merged t m.told → Some r ≡ room_test limit u → merge t limit m ≡ Err r
no_room t m limit u r e is f = ap (λ (o : Option Refusal). o >> rest t m limit) (sym e) ∙ ap (λ (o : Option Refusal). o >> Ok (done (merged t m.told))) (sym (f ∙ ap (room_test limit) is))

-- nothing refuses
pub taken_in : (t : TableValue) (m : ToldValue) (limit : ℕ) (u : TableValue) (made : List Key) → None ≡ clash_test t m.told → u ≡ merged t m.told → None ≡ room_test limit u → made ≡ [] → merge t limit m ≡ Ok (record { keys = made; table = u })
taken_in t m limit u made e is f none =
    ap (λ (o : Option Refusal). o >> rest t m limit) (sym e) ∙ ap (λ (o : Option Refusal). o >> Ok (done (merged t m.told))) (sym (f ∙ ap (room_test limit) is))
    ∙ ap (λ (v : TableValue). Ok (done v)) (sym is) ∙ ap (λ (ks : List Key). Ok (record { keys = ks; table = u })) (sym none)
