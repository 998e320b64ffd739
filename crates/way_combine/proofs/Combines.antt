-- How a job that joins ways ends: refused by its first test that fails, or by the closing tests, or done.
use Rattle.std.proofs.Common.{◌≡◌, ℕ, ℤ, List, [], Option, Some, None, Result, Ok, sym, ap, ◌∙◌}
use Rattle.osm_base.specs.declared.key.Key.{Key}
use Rattle.osm_table.specs.Table.{TableValue}
use Rattle.tool_api.specs.declared.kinds.Kinds.TheVariants.{Ways}
use Rattle.tool_api.specs.declared.refusal.Refusal.{Refusal}
use Rattle.tool_api.specs.Checks.{◌>>◌, ◌>>=◌, first_of, list_tests}
use Rattle.tool_api.specs.Changes.{Outcome, done}
use Rattle.tool_api.specs.Closing.{closing}
use Rattle.tool_api.specs.Combine.{way_test, joined, all_tags, clash_test, member_test, kept_way, combined, combined_table, combine}

-- what a joining of ways to one that is kept ends as
abbrev combine_end : TableValue → ℕ → List Key → List ℤ → Option Key → Result Outcome Refusal
combine_end t limit ways refs kept = closing t limit ways (done (combined_table t ways refs kept))

module _ (t : TableValue) (limit : ℕ) (ways : List Key) where
  -- whatever the tests answer, they decide one after the other
  pub combine_at : (a b c d : Option Refusal) (joins : Result (List ℤ) Refusal) → a ≡ list_tests t Ways ways → b ≡ first_of (way_test t) ways → joins ≡ joined t ways → c ≡ clash_test (all_tags t ways) → d ≡ member_test t ways
      → combine t limit ways ≡ (a >> (b >> (joins >>= (λ refs. c >> (d >> combine_end t limit ways refs (kept_way ways))))))
  combine_at a b c d joins tests own joints clash members i =
      sym tests i >> (sym own i >> (sym joints i >>= (λ refs. sym clash i >> (sym members i >> combine_end t limit ways refs (kept_way ways)))))

  pub combine_ends : (u : TableValue) (refs : List ℤ) (kept : Key) (keys : List Key) → None ≡ list_tests t Ways ways → None ≡ first_of (way_test t) ways → Ok refs ≡ joined t ways → None ≡ clash_test (all_tags t ways) → None ≡ member_test t ways
      → kept_way ways ≡ Some kept → keys ≡ [] → u ≡ combined t ways refs kept → closing t limit ways (record { keys = keys; table = u }) ≡ combine t limit ways
  combine_ends u refs kept keys tests own joints clash members kept_is nil is =
      (λ i. closing t limit ways (record { keys = nil i; table = is i }))
      ∙ sym (combine_at None None None None (Ok refs) tests own joints clash members ∙ ap (combine_end t limit ways refs) kept_is)
