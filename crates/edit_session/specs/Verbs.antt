-- The verbs of the boxes that a session is given.
use Rattle.std.specs.Prelude.{◌≡◌, List, [], ◌∷◌, flat_map}
use Rattle.dataset.specs.Patch.{PatchValue}
use Rattle.tool_api.specs.declared.verb.Verb.{Verb}
use Rattle.tool_api.specs.Plain.{all_verbs}

-- a verb for each of the four editors that a meeting may have
abbrev pub four_of : Verb → List Verb
four_of verb = verb ∷ verb ∷ verb ∷ verb ∷ []

-- so all verbs
abbrev pub four_of_each : List Verb
four_of_each = flat_map four_of all_verbs

-- A tool of this verb has done nothing: what it tells of its verb, of what it did and of what it took back.
abbrev pub IsNew : (verb kind : Verb) (done undone : List PatchValue) → Type 0
IsNew verb kind done undone = (kind ≡ verb) × (done ≡ []) × (undone ≡ [])

-- Each of four boxes is so.
abbrev pub IsOfFour : {B : Type 0} → (B → Type 0) → B → B → B → B → Type 0
IsOfFour Is first second third fourth = Is first × Is second × Is third × Is fourth
