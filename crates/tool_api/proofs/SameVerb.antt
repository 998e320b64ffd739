-- `==` at verbs answers whether they are one.
use Rattle.std.proofs.Common.{◌≡◌, true, rules}
use denote.Enum.Bare.{same_true, true_same}
use Rattle.tool_api.specs.contracts.verb.Verb.{the_type}
use Rattle.tool_api.specs.declared.verb.Verb.{Verb}
use Rattle.tool_api.specs.Plain.{same_verb}

pub same_is : (a b : Verb) → same_verb a b ≡ true → a ≡ b
same_is a b same = same_true the_type (search rules) a b same

pub is_same : (a b : Verb) → a ≡ b → same_verb a b ≡ true
is_same a b is = true_same the_type a b is
