use Rattle.std.proofs.Common.{◌≡◌, ◌<◌, ◌∙◌, List, Some, sym, ap, subst}
use Rattle.std.specs.Map.{lookup}
use Rattle.std.specs.Prelude.{slice_get}
use Rattle.std.proofs.lemmas.Option.{slice_get_read}
use Rattle.osm_base.specs.KeyEq.{eq}
use Rattle.osm_base.specs.declared.key.Key.{Key}
use Rattle.osm_table.specs.declared.entry.Entry.{Entry}
use Rattle.osm_table.proofs.OrderLaws.{found_at, zip_at}
use Rattle.osm_table.proofs.InPlace.{in_place_distinct, kept_keys, kept_len}
use Rattle.osm_table.proofs.keyed_entries.KeyedEntries.entry_at.Goals as goal

pub index-requires : goal.index-requires
index-requires c = subst (λ n. c.args.i < n) (sym (kept_len c.self.inside.keys c.self.inside.entries c.self.invariant.1 c.self.view_is).0) c.requires

pub index-requires-2 : goal.index-requires-2
index-requires-2 c = subst (λ n. c.args.i < n) (sym (kept_len c.self.inside.keys c.self.inside.entries c.self.invariant.1 c.self.view_is).1) c.requires

pub returns-clause-key : goal.returns-clause-key
returns-clause-key c =
    let keys = c.self.inside.keys in
    let long = kept_len keys c.self.inside.entries c.self.invariant.1 c.self.view_is in
    subst (λ (ks : List Key). slice_get ks c.args.i ≡ Some c.index.result.now)
    (kept_keys keys c.self.inside.entries c.self.invariant.1 c.self.view_is)
    (slice_get_read keys.items keys.len c.args.i c.index.result.now keys.ok.0 (subst (λ n. c.args.i < n) (sym long.0) c.requires) c.index.ensures)

pub returns-clause-entry : goal.returns-clause-entry
returns-clause-entry c =
    let keys = c.self.inside.keys in
    let entries = c.self.inside.entries in
    let long = kept_len keys entries c.self.invariant.1 c.self.view_is in
    ap (λ (es : List (Key × Entry)). lookup (eq c.index.result.now) es) (sym c.self.view_is)
    ∙ found_at keys.items entries.items c.args.i c.index.result.now (in_place_distinct keys.items c.self.inside.places c.self.invariant.0)
    (slice_get_read keys.items keys.len c.args.i c.index.result.now keys.ok.0 (subst (λ n. c.args.i < n) (sym long.0) c.requires) c.index.ensures)
    ∙ slice_get_read entries.items entries.len c.args.i c.index-2.result.now entries.ok.0 (subst (λ n. c.args.i < n) (sym long.1) c.requires) c.index-2.ensures

pub returns-clause-pair : goal.returns-clause-pair
returns-clause-pair c =
    let keys = c.self.inside.keys in
    let entries = c.self.inside.entries in
    let long = kept_len keys entries c.self.invariant.1 c.self.view_is in
    ap (λ (es : List (Key × Entry)). slice_get es c.args.i) (sym c.self.view_is)
    ∙ zip_at keys.items entries.items c.args.i c.index.result.now c.index-2.result.now
    (slice_get_read keys.items keys.len c.args.i c.index.result.now keys.ok.0 (subst (λ n. c.args.i < n) (sym long.0) c.requires) c.index.ensures)
    (slice_get_read entries.items entries.len c.args.i c.index-2.result.now entries.ok.0 (subst (λ n. c.args.i < n) (sym long.1) c.requires) c.index-2.ensures)
