use Rattle.std.proofs.Common.{◌≡◌, drop}
use Rattle.tool_api.specs.Split.{kept_refs}
use Rattle.way_split.proofs.parts.kept_refs.Given as goal

abbrev pub invariant-loop-part : goal.invariant-loop-part
invariant-loop-part l = kept_refs l.way (drop l.part-index l.parts) ≡ kept_refs l.way l.parts
