-- Edits by look-up.
use Rattle.std.proofs.Common.{◌≡◌, Bool, true, false, cond, is_some, Option, Some, None, List, [], ◌∷◌, refl, sym, ◌∙◌, ap, subst}
use Rattle.std.specs.Ordering.{is_lt}
use Rattle.std.specs.Option.{option_map_or, unwrap_or}
use Rattle.std.specs.Prelude.{T}
use Rattle.std.specs.List.{AllByRecursion}
use Rattle.std.specs.FinMap as fin
use Rattle.std.specs.FinMap.Entries.{find, below_all}
use Rattle.osm_base.specs.Rank.{rank_cmp, is_key}
use Rattle.osm_base.specs.RankLaws.{rank_total}
use Rattle.osm_base.proofs.RisingKeys.{one_key, key_itself}
use Rattle.osm_base.proofs.Tests.{first_T, second_T, no_tie}
use Rattle.std.proofs.lemmas.Bool.{cond-true, cond-false}
use Rattle.osm_base.specs.declared.key.Key.{Key}
use Rattle.osm_table.specs.declared.entry.Entry.{Entry}
use Rattle.dataset.specs.Edit.{Edit}
use Rattle.dataset.specs.Patch.{Entries, keyed, in_order, edit_at, placed, edited}

-- a key below all of a list isn't in it
pub below_none : {X : Type 0} (k : Key) (es : List (Key × X)) → T (below_all rank_cmp k es) → find rank_cmp k es ≡ None
below_none k [] h = refl
below_none k (e ∷ es) h = cond-false (is_key k e.0) _ _ (no_tie (rank_cmp k e.0) (first_T (is_lt (rank_cmp k e.0)) _ h)) ∙ below_none k es (second_T (is_lt (rank_cmp k e.0)) _ h)

-- the edits after the head have another key
pub tail_none : (e : Edit) (es : List Edit) → T (in_order (e ∷ es)) → edit_at e.key es ≡ None
tail_none e es h = below_none e.key (keyed es) (first_T (below_all rank_cmp e.key (keyed es)) _ h)

pub tail_order : (e : Edit) (es : List Edit) → T (in_order (e ∷ es)) → T (in_order es)
tail_order e es h = second_T (below_all rank_cmp e.key (keyed es)) (in_order es) h

placed_case : (o : Option Entry) (m : Entries) (k q : Key) → fin.get (placed m k o) q ≡ cond (is_key q k) o (fin.get m q)
placed_case None m k q = fin.get-remove rank_total m k q
placed_case (Some e) m k q = fin.get-insert rank_total m k e q

pub get_placed : (m : Entries) (k : Key) (o : Option Entry) (q : Key) → fin.get (placed m k o) q ≡ cond (is_key q k) o (fin.get m q)
get_placed m k o q = placed_case o m k q

looked : {A B : Type 0} (b : Bool) (f : A → B) (e : A) (o : Option A) (z : B) → cond b (f e) (option_map_or f o z) ≡ option_map_or f (cond b (Some e) o) z
looked true f e o z = refl
looked false f e o z = refl

-- after the edits a key has the side of its edit, or what it had
pub get_edited : (side : Edit → Option Entry) (es : List Edit) (m : Entries) (q : Key) → fin.get (edited side es m) q ≡ option_map_or side (edit_at q es) (fin.get m q)
get_edited side [] m q = refl
get_edited side (e ∷ es) m q =
    get_placed (edited side es m) e.key (side e) q ∙ ap (cond (is_key q e.key) (side e)) (get_edited side es m q)
    ∙ looked (is_key q e.key) side e (edit_at q es) (fin.get m q)

found_case : (P : Edit → Type 0) (b : Bool) (e f : Edit) (o : Option Edit) → cond b (Some e) o ≡ Some f → P e → (o ≡ Some f → P f) → P f
found_case P true e f o h p rest = subst P (ap (λ (x : Option Edit). unwrap_or x e) h) p
found_case P false e f o h p rest = rest h

-- what holds of each edit holds of the one that is found
pub found : (P : Edit → Type 0) (es : List Edit) → AllByRecursion P es → (k : Key) (f : Edit) → edit_at k es ≡ Some f → P f
found P [] all k f h = cc
found P (e ∷ es) all k f h = found_case P (is_key k e.key) e f (edit_at k es) h all.0 (found P es all.1 k f)

key_case : (k : Key) (b : Bool) (e f : Edit) (o : Option Edit) → is_key k e.key ≡ b → cond b (Some e) o ≡ Some f → (o ≡ Some f → k ≡ f.key) → k ≡ f.key
key_case k true e f o t h rest = one_key k e.key t ∙ ap (λ (x : Option Edit). (unwrap_or x e).key) h
key_case k false e f o t h rest = rest h

pub found_key : (es : List Edit) (k : Key) (f : Edit) → edit_at k es ≡ Some f → k ≡ f.key
found_key [] k f h = cc
found_key (e ∷ es) k f h = key_case k (is_key k e.key) e f (edit_at k es) refl h (found_key es k f)

some_not_none : {A : Type 0} (x : A) (o : Option A) → o ≡ Some x → o ≡ None → ⊥
some_not_none x o e f = let g : true ≡ false = ap is_some (sym e ∙ f) in cc

shadow : (b : Bool) (e f : Edit) (o : Option Edit) → (b ≡ true → o ≡ Some f → ⊥) → o ≡ Some f → cond b (Some e) o ≡ Some f
shadow true e f o apart h = absurd (apart refl h)
shadow false e f o apart h = h

weaken : {P Q : Edit → Type 0} (es : List Edit) → ((e : Edit) → P e → Q e) → AllByRecursion P es → AllByRecursion Q es
weaken [] f a = a
weaken (e ∷ es) f a = (f e a.0, weaken es f a.1)

-- each edit of a list in order is the one found at its key
pub each_found : (es : List Edit) → T (in_order es) → AllByRecursion (λ e. edit_at e.key es ≡ Some e) es
each_found [] h = tt
each_found (e ∷ es) h = (
  cond-true (is_key e.key e.key) _ _ (key_itself e.key),
  weaken es (λ f there. shadow (is_key f.key e.key) e f (edit_at f.key es) (λ t here. some_not_none f (edit_at f.key es) here (ap (λ (k : Key). edit_at k es) (one_key f.key e.key t) ∙ tail_none e es h)) there) (each_found es (tail_order e es h)),
)

pub all_from_found : (P : Edit → Type 0) (es : List Edit) → T (in_order es) → ((e : Edit) → edit_at e.key es ≡ Some e → P e) → AllByRecursion P es
all_from_found P es h f = weaken es f (each_found es h)
