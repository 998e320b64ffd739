-- The tests of cases decide which it is.
use Rattle.std.proofs.Common.{◌≡◌, refl, Decides}
use Rattle.osm_base.proofs.SameLaws.{never}
use Rattle.merge_cases.specs.declared.verdict.Verdict.{Verdict}
use Rattle.merge_cases.specs.declared.verdict.Verdict.TheVariants.{Stay, Mention, Take, Clash, Keep, Candidate, Settle, Join, Dispute}
use Rattle.tool_api.specs.Staged.{is_candidate, is_clash}

pub is_candidate_decides : (verdict : Verdict) → Decides (is_candidate verdict) (verdict ≡ Candidate)
is_candidate_decides Stay = never (λ e. cc)
is_candidate_decides Mention = never (λ e. cc)
is_candidate_decides Take = never (λ e. cc)
is_candidate_decides Clash = never (λ e. cc)
is_candidate_decides Keep = never (λ e. cc)
is_candidate_decides Candidate = (λ h. refl, λ e. refl)
is_candidate_decides Settle = never (λ e. cc)
is_candidate_decides Join = never (λ e. cc)
is_candidate_decides Dispute = never (λ e. cc)

pub is_clash_decides : (verdict : Verdict) → Decides (is_clash verdict) (verdict ≡ Clash)
is_clash_decides Stay = never (λ e. cc)
is_clash_decides Mention = never (λ e. cc)
is_clash_decides Take = never (λ e. cc)
is_clash_decides Clash = (λ h. refl, λ e. refl)
is_clash_decides Keep = never (λ e. cc)
is_clash_decides Candidate = never (λ e. cc)
is_clash_decides Settle = never (λ e. cc)
is_clash_decides Join = never (λ e. cc)
is_clash_decides Dispute = never (λ e. cc)
