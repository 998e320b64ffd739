use Rattle.std.proofs.Common.{◌≡◌, IfOk, List, sym, ap, subst, ◌∙◌}
use Rattle.osm_base.specs.declared.key.Key.{Key}
use Rattle.map_search.specs.Query.{Child, Parent, Not, And, Or}
use Rattle.map_search.specs.Seen.{seen}
use Rattle.map_search.proofs.Meeting.{Met, not_meets, either_meets, both_meets, child_meets, parent_meets}
use Rattle.map_search.proofs.finding.+meeting.Goals as goal

pub returns-in_ok-meeting-in-Child : goal.returns-in_ok-meeting-in-Child
returns-in_ok-meeting-in-Child t c =
    let shape : c.args.query.now ≡ Child c.in-Child.of.value = sym c.query.view_is ∙ ap seen c.in-Child.is in
    let met = c.deref-in-Child.ensures.value ∙ c.in_ok-meeting-in-Child.ensures ∙ ap (Met c.args.ds.now c.args.all.now) c.deref.ensures in
    let P : List Key → Type 0 = λ keys. IfOk c.children.result (λ met. met.items ≡ keys) in
    subst P (child_meets c.args.ds.now c.args.keys.now c.args.all.now _ _ _ c.requires.all shape met) c.children.ensures

pub returns-in_ok-meeting-in-Parent : goal.returns-in_ok-meeting-in-Parent
returns-in_ok-meeting-in-Parent t c =
    let shape : c.args.query.now ≡ Parent c.in-Parent.of.value = sym c.query.view_is ∙ ap seen c.in-Parent.is in
    let met = c.deref-in-Parent-2.ensures.value ∙ c.in_ok-meeting-in-Parent.ensures ∙ ap (Met c.args.ds.now c.args.all.now) c.deref-in-Parent.ensures in
    let P : List Key → Type 0 = λ keys. IfOk c.parents.result (λ met. met.items ≡ keys) in
    subst P (parent_meets c.args.ds.now c.args.keys.now c.args.all.now _ _ _ c.requires.all shape met) c.parents.ensures

pub returns-in_ok-meeting-in-Not : goal.returns-in_ok-meeting-in-Not
returns-in_ok-meeting-in-Not t c =
    let shape : c.args.query.now ≡ Not c.in-Not.of.value = sym c.query.view_is ∙ ap seen c.in-Not.is in
    let met = c.deref-in-Not-2.ensures.value ∙ c.in_ok-meeting-in-Not.ensures ∙ ap (Met c.args.ds.now c.args.keys.now) c.deref-in-Not.ensures in
    let P : List Key → Type 0 = λ keys. IfOk c.others.result (λ met. met.items ≡ keys) in
    subst P (not_meets c.args.ds.now c.args.keys.now _ _ _ shape met) c.others.ensures

pub returns-in_ok-meeting-in-And : goal.returns-in_ok-meeting-in-And
returns-in_ok-meeting-in-And t c =
    let shape : c.args.query.now ≡ And c.in-And.left.value c.in-And.right.value = sym c.query.view_is ∙ ap seen c.in-And.is in
    let left = c.deref-in-And-2.ensures.value ∙ c.in_ok-meeting-in-And.ensures ∙ ap (Met c.args.ds.now c.args.keys.now) c.deref-in-And.ensures in
    let P : List Key → Type 0 = λ keys. IfOk c.meeting-in-And-2.result (λ met. met.items ≡ keys) in
    subst P (ap (Met c.args.ds.now c.deref-in-And-2.result.now) c.deref-in-And-3.ensures ∙ both_meets c.args.ds.now c.args.keys.now _ _ _ _ shape left) c.meeting-in-And-2.ensures

pub returns-in_ok-right-in-Or : goal.returns-in_ok-right-in-Or
returns-in_ok-right-in-Or t c =
    let shape : c.args.query.now ≡ Or c.in-Or.left.value c.in-Or.right.value = sym c.query.view_is ∙ ap seen c.in-Or.is in
    let left = c.deref-in-Or-3.ensures.value ∙ c.in_ok-left-in-Or.ensures ∙ ap (Met c.args.ds.now c.args.keys.now) c.deref-in-Or.ensures in
    let right = c.deref-in-Or-4.ensures.value ∙ c.in_ok-right-in-Or.ensures ∙ ap (Met c.args.ds.now c.args.keys.now) c.deref-in-Or-2.ensures in
    let P : List Key → Type 0 = λ keys. IfOk c.those_of.result (λ met. met.items ≡ keys) in
    subst P (either_meets c.args.ds.now c.args.keys.now _ _ _ _ _ shape left right) c.those_of.ensures
