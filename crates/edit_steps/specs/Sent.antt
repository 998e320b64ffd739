-- The text of `send`: how many changes the server accepted, and why it refused the next one.
--
-- For example `sent 3` where all three were accepted, and `sent 1 refused 2 3 4` where the second of them names another version
-- than 4, which the object has.
use Rattle.std.specs.Prelude.{ℕ, ◌+◌, List, [], ◌∷◌, ◌++◌, Option, codes}
use Rattle.std.specs.Option.{option_map_or}
use Rattle.osm_base.specs.Number.{key_written}
use Rattle.upload_order.specs.declared.world.WorldRefusal.{WorldRefusal}
use Rattle.upload_order.specs.declared.world.WorldRefusal.TheVariants.{OldVersion, BadRef, Used}
use Rattle.upload_order.specs.World.{number_of}
use Rattle.edit_steps.specs.Counted.{part}

-- what the server's refusal carries, behind a blank
abbrev pub carried : WorldRefusal → List ℕ
carried (OldVersion has) = part (codes " ") has
carried (BadRef key) = 32 ∷ key_written key
carried (Used key) = 32 ∷ key_written key
carried why = []

-- the number of the change that was refused, that of the reason, and what it carries
abbrev pub refused_text : ℕ → Option WorldRefusal → List ℕ
refused_text change refused = option_map_or (λ why. part (codes " refused ") change ++ (part (codes " ") (number_of why) ++ carried why)) refused []

abbrev pub sent_text : ℕ → Option WorldRefusal → List ℕ
sent_text count refused = part (codes "sent ") count ++ (refused_text (count + 1) refused ++ 10 ∷ [])
