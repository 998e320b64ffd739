use Rattle.std.proofs.Common.{arith, ◌≡◌, ◌∙◌, ap, set, true, false}
use Rattle.std.specs.List.{insert}
use Rattle.osm_base.specs.Tags.{place_of}
use Rattle.osm_base.proofs.TagPlaces.{place_le, stands, there, new, with_tag_there, with_tag_new}
use Rattle.osm_base.proofs.tags.put_item.Goals as goal

pub insert-requires : goal.insert-requires
insert-requires c =
    let at : c.place-at.result ≡ place_of c.args.tag.0 c.args.items.now.items = cc in
    omega (arith, place_le c.args.tag.0 c.args.items.now.items)

pub returns-then-stands_at-clause-ok : goal.returns-then-stands_at-clause-ok
returns-then-stands_at-clause-ok c =
    let tags = c.args.items.now.items in
    let at : c.place-at.result ≡ place_of c.args.tag.0 tags = cc in
    let h : stands c.args.tag.0 tags c.place-at.result ≡ true = cc in
    ap (λ n. set tags n c.args.tag) at ∙ with_tag_there c.args.tag.0 c.args.tag.1 tags (there c.args.tag.0 tags c.place-at.result at h)

pub returns-in_ok-insert-clause-ok : goal.returns-in_ok-insert-clause-ok
returns-in_ok-insert-clause-ok c =
    let tags = c.args.items.now.items in
    let at : c.place-at.result ≡ place_of c.args.tag.0 tags = cc in
    let h : stands c.args.tag.0 tags c.place-at.result ≡ false = cc in
    c.in_ok-insert.ensures.items
    ∙ ap (λ n. insert tags n c.args.tag) at ∙ with_tag_new c.args.tag.0 c.args.tag.1 tags (new c.args.tag.0 tags c.place-at.result at h)
