use Rattle.std.proofs.Common.{◌∙◌, ◌++◌, ◌∷◌, [], Some, cond, sym, ap, subst}
use Rattle.std.specs.HashMap.{get}
use Rattle.osm_base.specs.KeyEq.{eq}
use Rattle.osm_table.specs.InOrder.{IsPlace}
use Rattle.osm_table.proofs.PlaceLaws.{distinct_put, nowhere, place_put}
use Rattle.osm_table.proofs.places.put_hashed.Goals as goal

pub returns-else-place-keys-clause-none : goal.returns-else-place-keys-clause-none
returns-else-place-keys-clause-none c =
    let keys = c.args.keys.now in
    let key = c.args.key in
    let out = nowhere keys key (get eq c.args.places.now key) c.in_ok-place.place c.in_ok-place.ensures.place c.if-place-keys.false (c.requires.1 key) in (
      out.0,
      (
        distinct_put keys key c.requires.0 out.0,
        λ q. subst (IsPlace (keys ++ key ∷ []) q)
            (sym (c.in_ok-place.ensures.put q ∙ ap (λ n. cond (eq key q) (Some n) (get eq c.args.places.now q)) out.1))
            (place_put keys key q (get eq c.args.places.now q) (c.requires.1 q)),
      ),
    )
