use Rattle.std.proofs.Common.{◌≡◌, ◌<◌, ◌∙◌, List, length, sym, ap, subst, Some}
use Rattle.std.specs.List.{zip}
use Rattle.std.specs.Prelude.{slice_get}
use Rattle.std.proofs.lemmas.Option.{slice_get_within}
use Rattle.osm_base.specs.RisingKeys.{is_in}
use Rattle.osm_base.specs.declared.key.Key.{Key}
use Rattle.osm_table.specs.InOrder.{IsPut}
use Rattle.osm_table.proofs.InPlace.{in_place_distinct}
use Rattle.osm_table.proofs.OrderLaws.{found_nowhere, if_err, put_at, put_last}
use Rattle.osm_table.proofs.keyed_entries.insert_in.Goals as goal

pub returns-in_err-place-clause-absent : goal.returns-in_err-place-clause-absent
returns-in_err-place-clause-absent c =
    if_err c.from_residual.result
    (found_nowhere c.args.keys.now.items c.args.entries.now.items c.args.key (ap (λ (ks : List Key). is_in c.args.key ks) (sym c.deref.ensures.value) ∙ c.in_err-place.ensures.absent))

pub index_mut-requires : goal.index_mut-requires
index_mut-requires c =
    let put = subst (IsPut c.deref.result.now c.args.key c.put.new.self) c.in-Some.is c.in_ok-place.ensures.ok in
    subst (λ n. c.in-Some.place < n)
    (ap (λ (ks : List Key). length ks) c.deref.ensures.value ∙ c.requires.len ∙ sym c.args.entries.now.ok.0)
    (slice_get_within c.deref.result.now c.in-Some.place c.args.key put.0)

pub returns-in-Err-clause-absent : goal.returns-in-Err-clause-absent
returns-in-Err-clause-absent c =
    let put = subst (IsPut c.deref.result.now c.args.key c.put.new.self) c.in-None.is c.in_ok-place.ensures.ok in
    found_nowhere c.args.keys.now.items c.args.entries.now.items c.args.key (ap (λ (ks : List Key). is_in c.args.key ks) (sym c.deref.ensures.value) ∙ put.0)

pub returns-in-Some-clause-ok : goal.returns-in-Some-clause-ok
returns-in-Some-clause-ok c =
    let keys = c.args.keys.now.items in
    let put = subst (IsPut c.deref.result.now c.args.key c.put.new.self) c.in-Some.is c.in_ok-place.ensures.ok in
    let here = subst (λ (ks : List Key). slice_get ks c.in-Some.place ≡ Some c.args.key) c.deref.ensures.value put.0 in
    put_at keys c.args.entries.now.items c.in-Some.place c.args.key c.args.entry (in_place_distinct keys c.args.places.now c.requires.places) c.requires.len here

pub returns-in_default-clause-ok : goal.returns-in_default-clause-ok
returns-in_default-clause-ok c =
    let put = subst (IsPut c.deref.result.now c.args.key c.put.new.self) c.in-None.is c.in_ok-place.ensures.ok in
    let new = ap (λ (ks : List Key). is_in c.args.key ks) (sym c.deref.ensures.value) ∙ put.0 in
    (λ j. zip (c.in_default.ensures.keys_ok j) (c.in_default.ensures.entries_ok j))
    ∙ put_last c.args.keys.now.items c.args.entries.now.items c.args.key c.args.entry c.requires.len new
