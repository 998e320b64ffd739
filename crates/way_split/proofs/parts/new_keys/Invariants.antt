use Rattle.std.proofs.Common.{◌≡◌, ◌++◌, map, drop}
use Rattle.tool_api.specs.Split.{others}
use Rattle.way_split.proofs.parts.new_keys.Given as goal

abbrev pub invariant-loop-part : goal.invariant-loop-part
invariant-loop-part l = l.keys ++ map (λ p. p.0) (others l.way (drop l.part-index l.parts)) ≡ map (λ p. p.0) (others l.way l.parts)
