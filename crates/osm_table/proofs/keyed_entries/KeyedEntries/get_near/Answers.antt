use Rattle.std.proofs.Common.{◌≡◌, ◌<◌, ◌∙◌, List, Some, sym, ap, subst}
use Rattle.std.specs.Map.{lookup}
use Rattle.std.specs.Option.{option_map}
use Rattle.std.specs.Prelude.{slice_get}
use Rattle.std.proofs.lemmas.Option.{slice_get_read, slice_get_within}
use Rattle.osm_base.specs.KeyEq.{eq}
use Rattle.osm_base.specs.RisingKeys.{is_in}
use Rattle.osm_base.specs.declared.key.Key.{Key}
use Rattle.osm_table.specs.declared.entry.Entry.{Entry}
use Rattle.osm_table.proofs.InPlace.{in_place_distinct}
use Rattle.osm_table.proofs.OrderLaws.{found_at, found_nowhere}
use Rattle.osm_table.proofs.keyed_entries.KeyedEntries.get_near.Goals as goal

pub returns-in_err-place : goal.returns-in_err-place
returns-in_err-place c =
    let apart = ap (λ (ks : List Key). is_in c.args.key ks) (sym c.deref.ensures.value) ∙ c.in_err-place.ensures in
    ap (λ o. option_map (λ found. found.1.now) o) c.from_residual.ensures
    ∙ sym (found_nowhere c.self.inside.keys.items c.self.inside.entries.items c.args.key apart)
    ∙ ap (λ (es : List (Key × Entry)). lookup (eq c.args.key) es) c.self.view_is

pub index-requires : goal.index-requires
index-requires c =
    let place = c.in_ok-place.place in
    let here = subst (λ (ks : List Key). slice_get ks place ≡ Some c.args.key) c.deref.ensures.value c.in_ok-place.ensures in
    subst (λ n. place < n) (c.self.invariant.1 ∙ sym c.self.inside.entries.ok.0) (slice_get_within c.self.inside.keys.items place c.args.key here)

pub returns : goal.returns
returns c =
    let keys = c.self.inside.keys.items in
    let entries = c.self.inside.entries in
    let place = c.in_ok-place.place in
    let here = subst (λ (ks : List Key). slice_get ks place ≡ Some c.args.key) c.deref.ensures.value c.in_ok-place.ensures in
    let within = subst (λ n. place < n) (c.self.invariant.1 ∙ sym entries.ok.0) (slice_get_within keys place c.args.key here) in
    sym (
    found_at keys entries.items place c.args.key (in_place_distinct keys c.self.inside.places c.self.invariant.0) here
    ∙ slice_get_read entries.items entries.len place c.index.result.now entries.ok.0 within c.index.ensures
    )
    ∙ ap (λ (es : List (Key × Entry)). lookup (eq c.args.key) es) c.self.view_is
