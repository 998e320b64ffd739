-- A relation with its runs folded, and the walk over the relations.
use Rattle.std.proofs.Common.{◌≡◌, ◌+◌, ◌<◌, ℕ, Bool, true, false, cond, suc, List, drop, length, get_or, Option, Some, None, refl, sym, ap, ◌∙◌, add-one, drop-cons}
use Rattle.std.specs.List.{find}
use Rattle.std.specs.Option.{is_none, unwrap_or}
use Rattle.osm_base.specs.Tags.{Pair}
use Rattle.osm_base.specs.declared.key.Key.{Key}
use Rattle.osm_base.specs.declared.members.Member.{Member}
use Rattle.osm_base.specs.declared.content.Content.{Content}
use Rattle.osm_base.specs.declared.content.Content.TheVariants as content
use Rattle.osm_table.specs.declared.entry.Entry.{Entry}
use Rattle.tool_api.specs.Upkeep.{folded}
use Rattle.way_combine.proofs.Runs.{folds_alike}

-- members that don't meet the run rule
pub no_fold : (ways : List Key) (kept j : Key) (ms : List Member) (x : Option Content) → None ≡ folded ways kept ms → None ≡ cond (is_none (folded ways j ms)) None x
no_fold ways kept j ms x e = sym (ap (λ b. cond b None x) (folds_alike ways j kept ms ∙ sym (ap (λ (o : Option (List Member)). is_none o) e)))

-- members that do
pub one_fold : (ways : List Key) (kept j : Key) (tags : List Pair) (ms out : List Member) → Some out ≡ folded ways kept ms
    → Some (content.Relation tags out) ≡ cond (is_none (folded ways j ms)) None (Some (content.Relation tags (unwrap_or (folded ways kept ms) ms)))
one_fold ways kept j tags ms out e =
    let after = λ (o : Option (List Member)). Some (content.Relation tags (unwrap_or o ms)) in
    ap after e ∙ sym (ap (λ b. cond b None (after (folded ways kept ms))) (folds_alike ways j kept ms ∙ sym (ap (λ (o : Option (List Member)). is_none o) e)))

-- what a walk tells of a key
module _ (P : Key → Bool) (g : Key → Option Entry) where
  passed_case : (b : Bool) (x y : Option Entry) → Some x ≡ cond b None (Some y) → (b ≡ false) × (x ≡ y)
  passed_case true x y e = cc
  passed_case false x y e = (refl, (let i : x ≡ y = cc in i))

  clash_case : (b : Bool) (y : Option Entry) → ◌≡◌ {A = Option (Option Entry)} None (cond b None (Some y)) → b ≡ true
  clash_case true y e = refl
  clash_case false y e = cc

  -- one that clashes is the first that does
  pub found_here : (ks : List Key) (i : ℕ) (none : Key) (o : Option Key) → i < length ks → ◌≡◌ {A = Option (Option Entry)} None (cond (P (get_or ks i none)) None (Some (g (get_or ks i none)))) → find P (drop i ks) ≡ o → Some (get_or ks i none) ≡ o
  found_here ks i none o lt e before =
      let k = get_or ks i none in
      sym (ap (λ b. cond b (Some k) (find P (drop (suc i) ks))) (clash_case (P k) (g k) e)) ∙ sym (ap (find P) (drop-cons ks i none lt)) ∙ before

  -- one that doesn't is passed over
  pub passed_over : (ks : List Key) (i : ℕ) (none : Key) (after : Option Entry) (o : Option Key) → i < length ks → Some after ≡ cond (P (get_or ks i none)) None (Some (g (get_or ks i none))) → find P (drop i ks) ≡ o
      → (find P (drop (i + 1) ks) ≡ o) × (after ≡ g (get_or ks i none))
  passed_over ks i none after o lt e before =
      let k = get_or ks i none in
      let p = passed_case (P k) after (g k) e in
      (rw add-one (sym (ap (λ b. cond b (Some k) (find P (drop (suc i) ks))) p.0) ∙ sym (ap (find P) (drop-cons ks i none lt)) ∙ before), p.1)
