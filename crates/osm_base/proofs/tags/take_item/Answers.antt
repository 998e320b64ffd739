use Rattle.std.proofs.Common.{◌≡◌, ◌∙◌, ap, sym, true, false}
use Rattle.std.specs.List.{remove}
use Rattle.osm_base.specs.Tags.{place_of}
use Rattle.osm_base.proofs.TagPlaces.{stands, there, new, has_tag_there, has_tag_new, without_tag_there, without_tag_new}
use Rattle.osm_base.proofs.tags.take_item.Goals as goal
use Rattle.osm_base.proofs.TagLaws.{in_order}

pub returns-then-stands_at-clause-tags : goal.returns-then-stands_at-clause-tags
returns-then-stands_at-clause-tags c =
    let key = c.args.key.now in
    let tags = c.args.items.now.items in
    let at : c.place-at.result ≡ place_of key tags = cc in
    let h : stands key tags c.place-at.result ≡ true = cc in
    c.remove.ensures.items ∙ ap (remove tags) at ∙ without_tag_there key tags (in_order tags c.requires) (there key tags c.place-at.result at h)

pub returns-then-stands_at-clause-value : goal.returns-then-stands_at-clause-value
returns-then-stands_at-clause-value c =
    let key = c.args.key.now in
    let tags = c.args.items.now.items in
    let at : c.place-at.result ≡ place_of key tags = cc in
    let h : stands key tags c.place-at.result ≡ true = cc in
    sym (has_tag_there key tags (there key tags c.place-at.result at h))

pub returns-clause-value : goal.returns-clause-value
returns-clause-value c =
    let key = c.args.key.now in
    let tags = c.args.items.now.items in
    let at : c.place-at.result ≡ place_of key tags = cc in
    let h : stands key tags c.place-at.result ≡ false = cc in
    sym (has_tag_new key tags (in_order tags c.requires) (new key tags c.place-at.result at h))

pub returns-clause-tags : goal.returns-clause-tags
returns-clause-tags c =
    let key = c.args.key.now in
    let tags = c.args.items.now.items in
    let at : c.place-at.result ≡ place_of key tags = cc in
    let h : stands key tags c.place-at.result ≡ false = cc in
    sym (without_tag_new key tags (in_order tags c.requires) (new key tags c.place-at.result at h))
