use Rattle.std.proofs.Common.{[], ◌∷◌, ◌++◌, subst, sym, ◌∙◌}
use Rattle.std.specs.HashSet.{contains}
use Rattle.osm_base.specs.KeyEq.{eq}
use Rattle.opl_file.specs.Known.{Knows}
use Rattle.opl_file.specs.Objects.{keys_of}
use Rattle.opl_file.proofs.Finding.{goes}
use Rattle.opl_file.proofs.Keys.{found_key}
use Rattle.opl_file.proofs.Rising.{rises_less}
use Rattle.opl_file.proofs.known.Known.forget.Goals as goal

pub returns-in-Rising : goal.returns-in-Rising
returns-in-Rising c objects new knows = subst (λ known. Knows known (keys_of objects)) (sym c.in-Rising.is) (rises_less (keys_of objects) c.args.key (subst (λ known. Knows known (keys_of objects ++ c.args.key ∷ [])) c.in-Rising.is knows))

pub returns-in-Hashed : goal.returns-in-Hashed
returns-in-Hashed c objects new knows =
    goes (contains eq c.in-Hashed.keys) (contains eq c.remove.new.self) (keys_of objects) c.args.key (found_key objects c.args.key ∙ new)
    (subst (λ known. Knows known (keys_of objects ++ c.args.key ∷ [])) c.in-Hashed.is knows) c.remove.ensures.updates.0
