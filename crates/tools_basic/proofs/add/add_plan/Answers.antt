use Rattle.std.proofs.Common.{◌≡◌, refl, sym, ap, ◌∙◌, ◌++◌, ◌∷◌, subst, None, List, [], IfOk}
use Rattle.osm_base.specs.Content.{refs_of}
use Rattle.osm_base.specs.declared.key.Key.{Key}
use Rattle.dataset.specs.Sound.{IsSound}
use Rattle.tool_api.specs.Changes.{new_key}
use Rattle.tool_api.specs.Checks.{ref_tests}
use Rattle.tool_api.specs.Closing.{closing_tests}
use Rattle.tool_api.specs.Planned.{Plans}
use Rattle.tool_api.proofs.Sounds.{add_sound}
use Rattle.tools_basic.proofs.Adds.{add_ends}
use Rattle.tools_basic.proofs.add.add_plan.Goals as goal

pub closed-requires : goal.closed-requires
closed-requires c =
    let t = c.args.ds.now in
    let x = c.args.content in
    let is = c.in_ok-draft.ensures in
    let passed : ref_tests t (refs_of x) ≡ None = ap (ref_tests t) (sym (c.deref.ensures.value ∙ c.in_ok-push_references.ensures ∙ ap (λ ks. ks ++ refs_of x) c.new-refs.ensures.items)) ∙ sym c.in_default.ensures in
    record { sound = λ closed. subst IsSound (sym is) (add_sound t c.args.limit [] x c.requires.sound passed (ap (closing_tests t c.args.limit []) (sym is) ∙ closed)) }

pub returns : goal.returns
returns c =
    let t = c.args.ds.now in
    let x = c.args.content in
    let is = c.in_ok-draft.ensures in
    let passed : ref_tests t (refs_of x) ≡ None = ap (ref_tests t) (sym (c.deref.ensures.value ∙ c.in_ok-push_references.ensures ∙ ap (λ ks. ks ++ refs_of x) c.new-refs.ensures.items)) ∙ sym c.in_default.ensures in
    subst (λ o. IfOk c.closed.result (Plans t o)) (add_ends t _ x c.args.limit [] _ _ _ passed refl (c.in_ok-push.ensures.ok ∙ ap (λ (ks : List Key). ks ++ c.new_key-key.result ∷ []) c.new-made.ensures) (c.new_key-key.ensures ∙ ap (new_key c.kind.result) c.next.ensures) c.kind.ensures is) c.closed.ensures
