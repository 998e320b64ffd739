use Rattle.std.proofs.Common.{◌≡◌, ◌∙◌, ap, sym, true, false, Some, get_or}
use Rattle.osm_base.specs.Tags.{Pair, place_of}
use Rattle.osm_base.proofs.TagPlaces.{stands, there, new, value_of_there, value_of_new}
use Rattle.osm_base.proofs.tags.value_in.Goals as goal
use Rattle.osm_base.proofs.TagLaws.{in_order}

pub returns-then-stands_at : goal.returns-then-stands_at
returns-then-stands_at c =
    let key = c.args.key.now in
    let tags = c.args.items.now in
    let at : c.place-at.result ≡ place_of key tags = cc in
    let h : stands key tags c.place-at.result ≡ true = cc in
    let item = c.index-items-at.result in
    let value : c.as_bytes.result.now ≡ item.1 = cc in
    ap Some (value ∙ ap (λ (t : Pair). t.1) (c.index-items-at.is ∙ ap (λ n. get_or tags n item) at))
    ∙ sym (value_of_there key tags item (there key tags c.place-at.result at h))

pub returns-else-stands_at : goal.returns-else-stands_at
returns-else-stands_at c =
    let key = c.args.key.now in
    let tags = c.args.items.now in
    let at : c.place-at.result ≡ place_of key tags = cc in
    let h : stands key tags c.place-at.result ≡ false = cc in
    sym (value_of_new key tags (in_order tags c.requires) (new key tags c.place-at.result at h))
