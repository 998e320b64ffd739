use Rattle.std.proofs.Common.{◌≡◌, map, take}
use Rattle.osm_base.specs.declared.members.Member.{Member}
use Rattle.renamed_content.proofs.contents.renamed_members.Given as goal

abbrev pub invariant-loop-member : goal.invariant-loop-member
invariant-loop-member g l = l.list.items ≡ map (λ m. let n : Member = record { key = g.R.Renaming.key_named l.names m.key; role = m.role } in n) (take l.member-index l.members)
