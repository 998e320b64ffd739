use Rattle.std.proofs.Common.{◌≡◌, ◌∙◌, ◌<◌, ◌+◌, List, length, refl, sym, ap, arith, subst, cond}
use Rattle.std.specs.HashMap.{get}
use Rattle.std.specs.List.{swap_remove, IsDistinct}
use Rattle.std.specs.Prelude.{Some}
use Rattle.std.proofs.lemmas.Option.{slice_get_within, get_or_from_slice_get}
use Rattle.osm_base.specs.KeyEq.{eq}
use Rattle.osm_base.specs.declared.key.Key.{Key}
use Rattle.osm_table.specs.InOrder.{IsPlace}
use Rattle.osm_table.proofs.PlaceLaws.{place_none, place_some, when_none}
use Rattle.osm_table.proofs.SwappedOut.{distinct_swapped, last_has, still_has, place_moved, place_ended}
use Rattle.osm_table.proofs.places.take_hashed.Goals as goal

pub returns-in_err-place-clause-none : goal.returns-in_err-place-clause-none
returns-in_err-place-clause-none c =
    let place = get eq c.args.places.now c.args.key in
    when_none c.from_residual.result (place_none c.args.keys.now.items c.args.key place (sym c.in_err-place.ensures.value) (c.requires.1 c.args.key), refl {A = List Key})

pub swap_remove-requires : goal.swap_remove-requires
swap_remove-requires c =
    let keys = c.args.keys.now in
    let i = c.in_ok-place.place in
    let at = place_some keys.items c.args.key (get eq c.args.places.now c.args.key) i (sym c.in_ok-place.ensures.value) (c.requires.1 c.args.key) in
    subst (λ n. i < n) (sym keys.ok.0) (slice_get_within keys.items i c.args.key at)

pub set_place-requires : goal.set_place-requires
set_place-requires c =
    let keys = c.args.keys.now in
    let key = c.args.key in
    let i = c.in_ok-place.place in
    let l = c.index.result.now in
    let at = place_some keys.items key (get eq c.args.places.now key) i (sym c.in_ok-place.ensures.value) (c.requires.1 key) in
    let same = c.swap_remove.ensures.value ∙ get_or_from_slice_get keys.items i key c.swap_remove.result at in
    let is = c.swap_remove.ensures.items ∙ ap (λ (k : Key). swap_remove keys.items i k) same in
    let more : i + 1 < length keys.items = grind (arith, c.if-place-len.true, c.len.ensures, c.swap_remove.ensures.len, keys.ok.0) in
    let last = last_has keys.items i key c.requires.0 at c.swap_remove.new.self.items l is more c.index.ensures in
    still_has keys.items i key c.requires.0 at l (get eq c.args.places.now l) (get eq c.remove.new.self l) more last (c.requires.1 l) (c.in_ok-place.ensures.updates.0 l)

pub returns-then-place-len-clause-some : goal.returns-then-place-len-clause-some
returns-then-place-len-clause-some c =
    let keys = c.args.keys.now in
    let i = c.in_ok-place.place in
    let at = place_some keys.items c.args.key (get eq c.args.places.now c.args.key) i (sym c.in_ok-place.ensures.value) (c.requires.1 c.args.key) in
    let same = c.swap_remove.ensures.value ∙ get_or_from_slice_get keys.items i c.args.key c.swap_remove.result at in
    (at, c.swap_remove.ensures.items ∙ ap (λ (k : Key). swap_remove keys.items i k) same)

pub returns-then-place-len-clause-kept : goal.returns-then-place-len-clause-kept
returns-then-place-len-clause-kept c =
    let keys = c.args.keys.now in
    let key = c.args.key in
    let i = c.in_ok-place.place in
    let l = c.index.result.now in
    let at = place_some keys.items key (get eq c.args.places.now key) i (sym c.in_ok-place.ensures.value) (c.requires.1 key) in
    let same = c.swap_remove.ensures.value ∙ get_or_from_slice_get keys.items i key c.swap_remove.result at in
    let is = c.swap_remove.ensures.items ∙ ap (λ (k : Key). swap_remove keys.items i k) same in
    let more : i + 1 < length keys.items = grind (arith, c.if-place-len.true, c.len.ensures, c.swap_remove.ensures.len, keys.ok.0) in
    let last = last_has keys.items i key c.requires.0 at c.swap_remove.new.self.items l is more c.index.ensures in (
      subst (λ (ks : List Key). IsDistinct eq ks) (sym is) (distinct_swapped keys.items i key c.requires.0 at),
      λ q. subst (λ (ks : List Key). IsPlace ks q (get eq c.set_place.new.places q)) (sym is)
          (subst (IsPlace (swap_remove keys.items i key) q)
          (sym (c.set_place.ensures q ∙ ap (cond (eq l q) (Some i)) (c.in_ok-place.ensures.updates.0 q)))
          (place_moved keys.items i key c.requires.0 at l q (get eq c.args.places.now q) more last (c.requires.1 q))),
    )

pub returns-else-place-len-clause-some : goal.returns-else-place-len-clause-some
returns-else-place-len-clause-some c =
    let keys = c.args.keys.now in
    let i = c.in_ok-place.place in
    let at = place_some keys.items c.args.key (get eq c.args.places.now c.args.key) i (sym c.in_ok-place.ensures.value) (c.requires.1 c.args.key) in
    let same = c.swap_remove.ensures.value ∙ get_or_from_slice_get keys.items i c.args.key c.swap_remove.result at in
    (at, c.swap_remove.ensures.items ∙ ap (λ (k : Key). swap_remove keys.items i k) same)

pub returns-else-place-len-clause-kept : goal.returns-else-place-len-clause-kept
returns-else-place-len-clause-kept c =
    let keys = c.args.keys.now in
    let key = c.args.key in
    let i = c.in_ok-place.place in
    let at = place_some keys.items key (get eq c.args.places.now key) i (sym c.in_ok-place.ensures.value) (c.requires.1 key) in
    let same = c.swap_remove.ensures.value ∙ get_or_from_slice_get keys.items i key c.swap_remove.result at in
    let is = c.swap_remove.ensures.items ∙ ap (λ (k : Key). swap_remove keys.items i k) same in
    let within = slice_get_within keys.items i key at in
    let end : i + 1 ≡ length keys.items = grind (arith, c.if-place-len.false, c.len.ensures, c.swap_remove.ensures.len, keys.ok.0, within) in (
      subst (λ (ks : List Key). IsDistinct eq ks) (sym is) (distinct_swapped keys.items i key c.requires.0 at),
      λ q. subst (λ (ks : List Key). IsPlace ks q (get eq c.remove.new.self q)) (sym is)
          (subst (IsPlace (swap_remove keys.items i key) q) (sym (c.in_ok-place.ensures.updates.0 q))
          (place_ended keys.items i key c.requires.0 at q (get eq c.args.places.now q) end (c.requires.1 q))),
    )
