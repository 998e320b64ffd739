-- Boxes that are dealt to editors.
use Rattle.std.specs.Prelude.{◌≡◌, ◌≤◌, ◌+◌, List}
use Rattle.tool_api.specs.declared.verb.Verb.{Verb}
use Rattle.edit_steps.specs.Needs.{count_verb}

-- Of boxes with these verbs an editor has one of each verb, and the others are left.
pub record AreDealt (verbs own others : List Verb) : Type 0 where
  pub counts : (verb : Verb) → count_verb own verb + count_verb others verb ≡ count_verb verbs verb
  pub most : (verb : Verb) → count_verb own verb ≤ 1
  pub first : (verb : Verb) → 1 ≤ count_verb others verb → 1 ≤ count_verb own verb
