-- What squeezing ways does: of equal references side by side one stays.
--
-- For example `squeeze w5` of w5 Nn1,n2,n2,n3 gives w5 Nn1,n2,n3. A second one is refused as NoFinding w5.
use Rattle.std.specs.Prelude.{ℕ, ℤ, not, List, Result}
use Rattle.std.specs.List.{dedup}
use Rattle.std.specs.Ordering.{int_eq}
use Rattle.osm_base.specs.declared.key.Key.{Key}
use Rattle.osm_table.specs.Table.{TableValue}
use Rattle.tool_api.specs.declared.kinds.Kinds.TheVariants.{Ways}
use Rattle.tool_api.specs.declared.refusal.Refusal.{Refusal}
use Rattle.tool_api.specs.declared.refusal.Refusal.TheVariants.{NoFinding}
use Rattle.tool_api.specs.Checks.{◌>>◌, first_of, when, list_tests}
use Rattle.tool_api.specs.Changes.{Outcome, done, changed, edit}
use Rattle.tool_api.specs.Closing.{closing}
use Rattle.tool_api.specs.Basic.{with_refs}
use Rattle.tool_api.specs.Findings.{is_repeated}

-- the references without each that equals the one just before it
abbrev pub squeezed : List ℤ → List ℤ
squeezed refs = dedup int_eq refs

-- List tests (ways); per way as given NoFinding; closing tests.
abbrev pub squeeze : TableValue → ℕ → List Key → Result Outcome Refusal
squeeze t limit keys = do
  list_tests t Ways keys
  first_of (λ k. when (not (is_repeated t k)) (NoFinding k)) keys
  closing t limit keys (done (changed t (edit t (with_refs squeezed)) keys))
