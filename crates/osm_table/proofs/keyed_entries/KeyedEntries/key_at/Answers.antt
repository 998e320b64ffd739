use Rattle.std.proofs.Common.{◌≡◌, ◌<◌, List, Some, sym, subst}
use Rattle.std.specs.Prelude.{slice_get}
use Rattle.std.proofs.lemmas.Option.{slice_get_read}
use Rattle.osm_base.specs.declared.key.Key.{Key}
use Rattle.osm_table.proofs.InPlace.{kept_keys, kept_len}
use Rattle.osm_table.proofs.keyed_entries.KeyedEntries.key_at.Goals as goal

pub index-requires : goal.index-requires
index-requires c = subst (λ n. c.args.i < n) (sym (kept_len c.self.inside.keys c.self.inside.entries c.self.invariant.1 c.self.view_is).0) c.requires

pub returns : goal.returns
returns c =
    let keys = c.self.inside.keys in
    let within = subst (λ n. c.args.i < n) (sym (kept_len keys c.self.inside.entries c.self.invariant.1 c.self.view_is).0) c.requires in
    subst (λ (ks : List Key). slice_get ks c.args.i ≡ Some c.index.result.now)
    (kept_keys keys c.self.inside.entries c.self.invariant.1 c.self.view_is)
    (slice_get_read keys.items keys.len c.args.i c.index.result.now keys.ok.0 within c.index.ensures)
