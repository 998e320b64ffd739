use Rattle.std.proofs.Common.{sym, ◌∙◌, rules}
use Rattle.opl_line.proofs.Fronts.{key_reads, key_leaves}
use Rattle.opl_line.proofs.line.key_at.Goals as goal

pub returns-in_err-id-clause-key : goal.returns-in_err-id-clause-key
returns-in_err-id-clause-key c = rw (key_reads _ _ _ c.in-len1-up.len_at_least (sym c.kind_of.ensures ∙ c.in-Some.is)) (search rules)

pub returns-clause-key : goal.returns-clause-key
returns-clause-key c = rw (key_reads _ _ _ c.in-len1-up.len_at_least (sym c.kind_of.ensures ∙ c.in-Some.is)) (search rules)

pub returns-clause-rest : goal.returns-clause-rest
returns-clause-rest c = c.in_ok-id.ensures.rest ∙ sym (key_leaves _ _ c.in-len1-up.len_at_least (sym c.kind_of.ensures ∙ c.in-Some.is))
