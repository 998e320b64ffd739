-- Steps of a history are steps of the machine.
use Rattle.std.proofs.Common.{◌≡◌, ℕ, suc, zero, ◌<◌, ◌≤◌, ◌+◌, List, [], ◌∷◌, length, take, drop, sym, ◌∙◌, ap, refl, arith, zero-add, false, true, nat_le, Bool, if◌then◌else◌}
use Rattle.std.proofs.lemmas.Bool.Decides.{nat_tests}
use Rattle.std.proofs.lemmas.List.{length-take-le}
use Rattle.osm_table.specs.Table.{TableValue}
use Rattle.dataset.specs.Patch.{PatchValue}
use Rattle.edit_history.specs.declared.counts.Group.{Group}
use Rattle.edit_history.specs.declared.counts.Counts.{Counts}
use Rattle.edit_history.specs.declared.sides.Direction.{Direction}
use Rattle.edit_history.specs.declared.sides.Direction.TheVariants.{Back, On}
use Rattle.edit_history.specs.declared.sides.Sides.{Sides}
use Rattle.edit_history.specs.Ways.{opposite, pick, side, Passed}
use Rattle.edit_history.specs.Trail.{LeadAlong, Went, led, led_by, onto, trail}
use Rattle.edit_history.specs.Machine.{State}
use Rattle.edit_history.specs.Single.{go_1, go_n, tables, went}
use Rattle.edit_history.specs.declared.edit_step.EditAnswer.{EditAnswer}
use Rattle.edit_history.specs.declared.edit_step.EditAnswer.TheVariants as answer
use Rattle.edit_history.specs.Moved.{Move}
use Rattle.edit_history.specs.Steps.{none_this_way, silent, steps_move}
use Rattle.edit_history.specs.Shown.{ends, state_of}
use Rattle.edit_history.proofs.Tables.{length-trail}
use Rattle.edit_history.proofs.Trails.{led_back}
use Rattle.edit_history.proofs.Closed.{went_is}

take_along : (way : Direction) (k : ℕ) (ps : List PatchValue) (t : TableValue) → LeadAlong way ps t → LeadAlong way (take k ps) t
take_along way zero ps t h = tt
take_along way (suc k) [] t h = tt
take_along way (suc k) (p ∷ ps) t h = (h.0, h.1, take_along way k ps (led way p t) h.2)

-- the patches that were led over lead back again to t
again : (way : Direction) (qs fs : List PatchValue) (m : ℕ) (t : TableValue) → LeadAlong way qs t → led_by (opposite way) (take (length qs + m) (onto qs fs)) (led_by way qs t) ≡ led_by (opposite way) (take m fs) t
again way [] fs m t h = ap (λ (n : ℕ). led_by (opposite way) (take n fs) t) (zero-add m)
again way (q ∷ qs) fs m t h =
    let e : suc (length qs) + m ≡ length qs + suc m = omega arith in
    ap (λ (n : ℕ). led_by (opposite way) (take n (onto qs (q ∷ fs))) (led_by way qs (led way q t))) e
    ∙ again way qs (q ∷ fs) (suc m) (led way q t) h.2
    ∙ ap (λ (u : TableValue). led_by (opposite way) (take m fs) u) (sym (led_back way q t (led way q t) h.0))

drop_onto : (qs fs : List PatchValue) (m : ℕ) → drop (length qs + m) (onto qs fs) ≡ drop m fs
drop_onto [] fs m = ap (λ (n : ℕ). drop n fs) (zero-add m)
drop_onto (q ∷ qs) fs m =
    let e : suc (length qs) + m ≡ length qs + suc m = omega arith in
    ap (λ (n : ℕ). drop n (onto qs (q ∷ fs))) e ∙ drop_onto qs (q ∷ fs) (suc m)

ends_again : (way : Direction) (k : ℕ) (ks : List ℕ) (ps fs : List PatchValue) (t : TableValue) → k ≤ length ps → LeadAlong way ps t → ends (opposite way) (k ∷ ks) (onto (take k ps) fs) (led_by way (take k ps) t) ≡ t ∷ ends (opposite way) ks fs t
ends_again way k ks ps fs t le h =
    let qs : List PatchValue = take k ps in
    let n : length qs + 0 ≡ k = omega (arith, length-take-le k ps le) in
    let to : led_by (opposite way) (take k (onto qs fs)) (led_by way qs t) ≡ t =
    ap (λ (m : ℕ). led_by (opposite way) (take m (onto qs fs)) (led_by way qs t)) (sym n) ∙ again way qs fs 0 t (take_along way k ps t h) in
    let left : drop k (onto qs fs) ≡ fs = ap (λ (m : ℕ). drop m (onto qs fs)) (sym n) ∙ drop_onto qs fs 0 in
    ap (λ (v : TableValue). v ∷ ends (opposite way) ks (drop k (onto qs fs)) v) to ∙ ap (λ (w : List PatchValue). t ∷ ends (opposite way) ks w t) left

abbrev outside : List TableValue → TableValue → List TableValue → Group → State
outside ts t us g = record { past = ts; now = t; undone = us; group = g; start = t; accepted = false }

-- a step of k jobs
pub step_state : (way : Direction) (k o : ℕ) (s s₁ bs bs₁ : Sides) (g : Group) (dones undones dones₁ undones₁ : List (List PatchValue)) (t t₁ : TableValue) →
    Passed way k s s₁ → o ≡ 0 → k ≤ length (side way bs) → LeadAlong way (trail way (side way bs) (pick way dones undones)) t →
    Went way k (trail way (side way bs) (pick way dones undones)) (trail (opposite way) (side (opposite way) bs) (pick (opposite way) dones undones)) t
    (trail way (side way bs₁) (pick way dones₁ undones₁)) (trail (opposite way) (side (opposite way) bs₁) (pick (opposite way) dones₁ undones₁)) t₁ →
    state_of (record { steps = s₁; waiting = o; group = g }) (trail Back bs₁.behind dones₁) (trail On bs₁.ahead undones₁) t₁
    ≡ go_1 way (state_of (record { steps = s; waiting = o; group = g }) (trail Back bs.behind dones) (trail On bs.ahead undones) t)
step_state Back k o s s₁ bs bs₁ g dones undones dones₁ undones₁ t t₁ passed eo le h w =
    let ps = trail Back bs.behind dones in
    let fs = trail On bs.ahead undones in
    let u : TableValue = led_by Back (take k ps) t in
    rw (eo, w.left, w.turned, w.table, passed.left, passed.passed)
    (ap (λ (us : List TableValue). outside (ends Back s₁.behind (drop k ps) u) u us g) (ends_again Back k s.ahead ps fs t (omega (arith, length-trail Back bs.behind dones)) h))
step_state On k o s s₁ bs bs₁ g dones undones dones₁ undones₁ t t₁ passed eo le h w =
    let ps = trail Back bs.behind dones in
    let fs = trail On bs.ahead undones in
    let u : TableValue = led_by On (take k fs) t in
    rw (eo, w.left, w.turned, w.table, passed.left, passed.passed)
    (ap (λ (us : List TableValue). outside us u (ends On s₁.ahead (drop k fs) u) g) (ends_again On k s.behind fs ps t (omega (arith, length-trail On bs.ahead undones)) h))

abbrev too_few : Direction → State → Move EditAnswer
too_few way s = record { answer = answer.Refused (none_this_way way); state = s }

length-ends : (way : Direction) (ks : List ℕ) (ps : List PatchValue) (t : TableValue) → length (ends way ks ps t) ≡ length ks
length-ends way [] ps t = refl
length-ends way (k ∷ ks) ps t = let e = length-ends way ks (drop k ps) (led_by way (take k ps) t) in omega arith

-- the state shows as many tables as there are steps
length-tables : (way : Direction) (c : Counts) (ps fs : List PatchValue) (t : TableValue) → length (tables way (state_of c ps fs t)) ≡ length (side way c.steps)
length-tables Back c ps fs t = length-ends Back c.steps.behind (drop c.waiting ps) (led_by Back (take c.waiting ps) t)
length-tables On c ps fs t = length-ends On c.steps.ahead fs t

pub few_steps : (way : Direction) (n : ℕ) (c : Counts) (ps fs : List PatchValue) (t : TableValue) → length (side way c.steps) < n → steps_move way n (state_of c ps fs t) ≡ too_few way (state_of c ps fs t)
few_steps way n c ps fs t h =
    let s : State = state_of c ps fs t in
    let e : nat_le n (length (tables way s)) ≡ false = rw (length-tables way c ps fs t) (grind (arith, nat_tests)) in
    ap (λ (b : Bool). if b then silent (went way n s) else too_few way s) e

-- n steps one by one are the move
pub all_steps : (way : Direction) (n : ℕ) (c : Counts) (ps fs : List PatchValue) (t : TableValue) → 1 ≤ n → n ≤ length (side way c.steps) → steps_move way n (state_of c ps fs t) ≡ silent (go_n way n (state_of c ps fs t))
all_steps way n c ps fs t one h =
    let s : State = state_of c ps fs t in
    let enough : n ≤ length (tables way s) = rw (length-tables way c ps fs t) h in
    let e : nat_le n (length (tables way s)) ≡ true = rw (length-tables way c ps fs t) (grind (arith, nat_tests)) in
    ap (λ (b : Bool). if b then silent (went way n s) else too_few way s) e ∙ ap silent (sym (went_is way n s one enough))
