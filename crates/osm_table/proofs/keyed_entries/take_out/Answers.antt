use Rattle.std.proofs.Common.{◌≡◌, ◌<◌, ◌-◌, ◌∙◌, List, length, refl, sym, ap, arith, subst, Some}
use Rattle.std.specs.HashMap.{get}
use Rattle.std.specs.Prelude.{slice_get, T}
use Rattle.std.specs.List.{zip}
use Rattle.std.specs.Map.{lookup}
use Rattle.std.proofs.lemmas.List.Edits.{length-remove}
use Rattle.std.proofs.lemmas.Option.{slice_get_read, slice_get_within}
use Rattle.osm_base.specs.KeyEq.{eq}
use Rattle.osm_base.specs.RisingKeys.{rises, is_in}
use Rattle.osm_base.specs.declared.key.Key.{Key}
use Rattle.osm_table.specs.InOrder.{AreInPlace}
use Rattle.osm_table.specs.declared.entry.Entry.{Entry}
use Rattle.osm_table.proofs.OrderLaws.{found_at, found_nowhere, rises_distinct}
use Rattle.osm_table.proofs.SwappedOut.{found_swapped, length_swapped}
use Rattle.osm_table.proofs.TakenOut.{rises_less, found_less, found_still}
use Rattle.osm_table.proofs.keyed_entries.take_out.Goals as goal

pub returns-in_err-place-in-Rising-clause-value : goal.returns-in_err-place-in-Rising-clause-value
returns-in_err-place-in-Rising-clause-value c =
    let apart = ap (λ (ks : List Key). is_in c.args.key ks) (sym c.deref.ensures.value) ∙ c.in_err-place-in-Rising.ensures in
    c.from_residual.ensures ∙ sym (found_nowhere c.args.keys.now.items c.args.entries.now.items c.args.key apart)

pub returns-in_err-place-in-Rising-clause-removed : goal.returns-in_err-place-in-Rising-clause-removed
returns-in_err-place-in-Rising-clause-removed c q =
    let apart = ap (λ (ks : List Key). is_in c.args.key ks) (sym c.deref.ensures.value) ∙ c.in_err-place-in-Rising.ensures in
    found_still c.args.keys.now.items c.args.entries.now.items c.args.key q apart

pub returns-in_ok-place-in-Rising-clause-value : goal.returns-in_ok-place-in-Rising-clause-value
returns-in_ok-place-in-Rising-clause-value c =
    let keys = c.args.keys.now.items in
    let entries = c.args.entries.now.items in
    let rise = subst (AreInPlace keys) c.in-Rising.is c.requires.places in
    let place = c.in_ok-place-in-Rising.place in
    let here = subst (λ (ks : List Key). slice_get ks place ≡ Some c.args.key) c.deref.ensures.value c.in_ok-place-in-Rising.ensures in
    let within = subst (λ n. place < n) c.requires.len (slice_get_within keys place c.args.key here) in
    let there = slice_get_read entries (length entries) place c.remove-in-Rising.result refl within c.remove-in-Rising.ensures.value in
    sym (found_at keys entries place c.args.key (rises_distinct keys rise) here ∙ there)

pub returns-in_ok-place-in-Rising-clause-removed : goal.returns-in_ok-place-in-Rising-clause-removed
returns-in_ok-place-in-Rising-clause-removed c q =
    let keys = c.args.keys.now.items in
    let rise = subst (AreInPlace keys) c.in-Rising.is c.requires.places in
    let place = c.in_ok-place-in-Rising.place in
    let here = subst (λ (ks : List Key). slice_get ks place ≡ Some c.args.key) c.deref.ensures.value c.in_ok-place-in-Rising.ensures in
    (λ j. lookup (eq q) (zip (c.remove.ensures.items j) (c.remove-in-Rising.ensures.items j)))
    ∙ found_less keys c.args.entries.now.items place c.args.key (rises_distinct keys rise) c.requires.len here q

pub returns-in_ok-place-in-Rising-clause-places : goal.returns-in_ok-place-in-Rising-clause-places
returns-in_ok-place-in-Rising-clause-places c =
    let keys = c.args.keys.now.items in
    let rise = subst (AreInPlace keys) c.in-Rising.is c.requires.places in
    subst (λ (ks : List Key). T (rises ks)) (sym c.remove.ensures.items) (rises_less keys c.in_ok-place-in-Rising.place rise)

pub returns-in_ok-place-in-Rising-clause-len : goal.returns-in_ok-place-in-Rising-clause-len
returns-in_ok-place-in-Rising-clause-len c =
    let keys = c.args.keys.now.items in
    let place = c.in_ok-place-in-Rising.place in
    let here = subst (λ (ks : List Key). slice_get ks place ≡ Some c.args.key) c.deref.ensures.value c.in_ok-place-in-Rising.ensures in
    let within = slice_get_within keys place c.args.key here in
    let keys_len = ap (λ (ks : List Key). length ks) c.remove.ensures.items in
    let entries_len = ap (λ (es : List Entry). length es) c.remove-in-Rising.ensures.items in
    let fewer_keys = length-remove keys place within in
    let fewer_entries = length-remove c.args.entries.now.items place (omega (arith, within, c.requires.len)) in
    omega (arith, keys_len, entries_len, fewer_keys, fewer_entries, c.requires.len)

pub returns-in_err-place-in-Hashed-clause-value : goal.returns-in_err-place-in-Hashed-clause-value
returns-in_err-place-in-Hashed-clause-value c =
    c.from_residual-in_err-place-in-Hashed.ensures
    ∙ sym (found_nowhere c.args.keys.now.items c.args.entries.now.items c.args.key c.in_err-place-in-Hashed.ensures.none.0)

pub returns-in_err-place-in-Hashed-clause-removed : goal.returns-in_err-place-in-Hashed-clause-removed
returns-in_err-place-in-Hashed-clause-removed c q =
    (λ j. lookup (eq q) (zip (c.in_err-place-in-Hashed.ensures.none.1 j) c.args.entries.now.items))
    ∙ found_still c.args.keys.now.items c.args.entries.now.items c.args.key q c.in_err-place-in-Hashed.ensures.none.0

pub returns-in_ok-place-in-Hashed-clause-value : goal.returns-in_ok-place-in-Hashed-clause-value
returns-in_ok-place-in-Hashed-clause-value c =
    let keys = c.args.keys.now.items in
    let entries = c.args.entries.now.items in
    let kept = subst (AreInPlace keys) c.in-Hashed.is c.requires.places in
    let place = c.in_ok-place-in-Hashed.place in
    let here = c.in_ok-place-in-Hashed.ensures.some.0 in
    let within = subst (λ n. place < n) c.requires.len (slice_get_within keys place c.args.key here) in
    let there = slice_get_read entries (length entries) place c.swap_remove.result refl within c.swap_remove.ensures.value in
    sym (found_at keys entries place c.args.key kept.0 here ∙ there)

pub returns-in_ok-place-in-Hashed-clause-removed : goal.returns-in_ok-place-in-Hashed-clause-removed
returns-in_ok-place-in-Hashed-clause-removed c q =
    let keys = c.args.keys.now.items in
    let kept = subst (AreInPlace keys) c.in-Hashed.is c.requires.places in
    let place = c.in_ok-place-in-Hashed.place in
    (λ j. lookup (eq q) (zip (c.in_ok-place-in-Hashed.ensures.some.1 j) (c.swap_remove.ensures.items j)))
    ∙ found_swapped keys place c.args.key kept.0 c.in_ok-place-in-Hashed.ensures.some.0 c.args.entries.now.items c.swap_remove.result q (get eq c.in-Hashed.places q) c.requires.len (kept.1 q)

pub returns-in_ok-place-in-Hashed-clause-len : goal.returns-in_ok-place-in-Hashed-clause-len
returns-in_ok-place-in-Hashed-clause-len c =
    let keys_len = ap (λ (ks : List Key). length ks) c.in_ok-place-in-Hashed.ensures.some.1 in
    let entries_len = ap (λ (es : List Entry). length es) c.swap_remove.ensures.items in
    keys_len ∙ length_swapped c.args.keys.now.items c.in_ok-place-in-Hashed.place c.args.key
    ∙ ap (λ n. n - 1) c.requires.len ∙ sym (length_swapped c.args.entries.now.items c.in_ok-place-in-Hashed.place c.swap_remove.result) ∙ sym entries_len

pub remove-requires : goal.remove-requires
remove-requires c =
    let keys = c.args.keys.now.items in
    let place = c.in_ok-place-in-Rising.place in
    let here = subst (λ (ks : List Key). slice_get ks place ≡ Some c.args.key) c.deref.ensures.value c.in_ok-place-in-Rising.ensures in
    subst (λ n. place < n) (sym c.args.keys.now.ok.0) (slice_get_within keys place c.args.key here)

pub swap_remove-requires : goal.swap_remove-requires
swap_remove-requires c =
    let place = c.in_ok-place-in-Hashed.place in
    let within = slice_get_within c.args.keys.now.items place c.args.key c.in_ok-place-in-Hashed.ensures.some.0 in
    subst (λ n. place < n) (c.requires.len ∙ sym c.args.entries.now.ok.0) within
