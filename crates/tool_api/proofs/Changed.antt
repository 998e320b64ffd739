-- What changes have left under a key, and that a change that wasn't refused keeps a table sound.
use Rattle.std.proofs.Common.{◌≡◌, ◌&&◌, ℕ, Bool, true, false, cond, not, List, Option, Some, None, refl, sym, ap, ◌∙◌}
use mathlib.Core.Logic.{◌⊎◌}
use Rattle.std.specs.List.{find}
use Rattle.std.specs.Option.{option_map, option_and_then}
use Rattle.osm_base.specs.Content.{fits, kind_of_content}
use Rattle.osm_base.specs.Tags.{Pair}
use Rattle.osm_base.specs.declared.key.Key.{Key}
use Rattle.osm_base.specs.declared.content.Content.{Content}
use Rattle.osm_base.specs.declared.content.Content.TheVariants as content
use Rattle.osm_table.specs.declared.entry.Base.{Base}
use Rattle.osm_table.specs.declared.entry.Entry.{Entry}
use Rattle.osm_table.specs.declared.entry.Entry.TheVariants.{Known}
use Rattle.osm_table.specs.Table.{TableValue, entry_of, keys_by_rank, mine_of}
use Rattle.dataset.specs.Sound.{IsSoundEntry}
use Rattle.dataset.proofs.Differs.{same_at_decides}
use Rattle.tool_api.specs.declared.refusal.Refusal.TheVariants.{InConflict}
use Rattle.tool_api.specs.Checks.{is_named}
use Rattle.tool_api.specs.Changes.{changed, deleted, with_mine}
use Rattle.tool_api.specs.Closing.{closing_tests, changes_conflict, conflict_change_test, in_conflict, makes_unfit}
use Rattle.tool_api.specs.Basic.{with_tags}
use Rattle.tool_api.proofs.Least.{has_key, conflict_some}
use Rattle.tool_api.proofs.Looks.{entry_changed, next_changed}
use Rattle.tool_api.proofs.Passed.{none_passes, keeps_fit, fits_or_stays, none_in}
use Rattle.tool_api.proofs.Sounds.{content_edited}

-- after three changes the last one that names the key decides
pub entry_thrice : (t : TableValue) (f g h : Key → Option Entry) (ks ls ms : List Key) (q : Key)
    → entry_of (changed (changed (changed t f ks) g ls) h ms) q ≡ cond (is_named ms q) (h q) (cond (is_named ls q) (g q) (cond (is_named ks q) (f q) (entry_of t q)))
entry_thrice t f g h ks ls ms q =
    entry_changed (changed (changed t f ks) g ls) h ms q
    ∙ ap (cond (is_named ms q) (h q)) (entry_changed (changed t f ks) g ls q ∙ ap (cond (is_named ls q) (g q)) (entry_changed t f ks q))

pub next_thrice : (t : TableValue) (f g h : Key → Option Entry) (ks ls ms : List Key) → (changed (changed (changed t f ks) g ls) h ms).next ≡ t.next
next_thrice t f g h ks ls ms = next_changed (changed (changed t f ks) g ls) h ms ∙ next_changed (changed t f ks) g ls ∙ next_changed t f ks

-- the four cases of such an entry
pub four_cases : (P : Type 0) (a b c : Bool) (x y z w : Option Entry) (e : Entry) → cond a x (cond b y (cond c z w)) ≡ Some e
    → (a ≡ true → x ≡ Some e → P) → (b ≡ true → y ≡ Some e → P) → (c ≡ true → z ≡ Some e → P) → (a ≡ false → b ≡ false → c ≡ false → w ≡ Some e → P) → P
four_cases P true b c x y z w e has first second third rest = first refl has
four_cases P false true c x y z w e has first second third rest = second refl has
four_cases P false false true x y z w e has first second third rest = third refl has
four_cases P false false false x y z w e has first second third rest = rest refl refl refl has

-- an entry in conflict that isn't named is as it was
conflict_case : (a b c : Bool) → (a && not b && not c) ≡ false → a ≡ true → b ≡ false → c ≡ true
conflict_case true false true e f g = refl
conflict_case true false false e f g = cc
conflict_case true true c e f g = cc
conflict_case false b c e f g = cc

pub leaves_conflict : (t u : TableValue) (named : List Key) (k : Key) → conflict_change_test t named u ≡ None → in_conflict (entry_of t k) ≡ true → is_named named k ≡ false → entry_of t k ≡ entry_of u k
leaves_conflict t u named k passed conflict apart =
    let calm : changes_conflict named k (entry_of t k) (entry_of u k) ≡ false =
    none_passes (λ (j : Key). changes_conflict named j (entry_of t j) (entry_of u j)) (keys_by_rank t) k (none_in (find (λ (j : Key). changes_conflict named j (entry_of t j) (entry_of u j)) (keys_by_rank t)) InConflict passed) (has_key t k (conflict_some (entry_of t k) conflict)) in
    (same_at_decides (entry_of t k) (entry_of u k)).0 (conflict_case _ (is_named named k) _ calm conflict apart)

-- an edited content fits, or is what it was
pub fits_edited : (t u : TableValue) (limit : ℕ) (named : List Key) (k : Key) (base : Base) (c d : Content) → closing_tests t limit named u ≡ None
    → entry_of t k ≡ Some (Known base (Some c) None) → entry_of u k ≡ Some (Known base (Some d) None) → (fits d ≡ true) ⊎ (Some c ≡ Some d)
fits_edited t u limit named k base c d passed was is =
    let fine : makes_unfit (Some c) (Some d) ≡ false =
    (let a = sym was in let b = sym is in λ i. makes_unfit (option_and_then mine_of (a i)) (option_and_then mine_of (b i))) ∙ keeps_fit t u limit named k _ passed is in
    fits_or_stays (Some c) d fine

pub sound_edited : (n : ℕ) (k : Key) (base : Base) (c d : Content) → kind_of_content d ≡ k.kind → (fits d ≡ true) ⊎ (Some c ≡ Some d) → IsSoundEntry n k (Known base (Some c) None) → IsSoundEntry n k (Known base (Some d) None)
sound_edited n k base c d kind fit s = content_edited n (λ _. d) k base c (kind ∙ sym s.kinds.1) fit s

-- what an edited entry comes from
pub edited_from : (P : Entry → Type 0) (f : Content → Content) (e : Entry) (o : Option Entry) → option_map (with_mine f) o ≡ Some e → ((x : Entry) → o ≡ Some x → with_mine f x ≡ e → P e) → P e
edited_from P f e None has h = cc
edited_from P f e (Some x) has h = h x refl (let i : with_mine f x ≡ e = cc in i)

pub deleted_from : (P : Entry → Type 0) (e : Entry) (o : Option Entry) → option_and_then deleted o ≡ Some e → ((x : Entry) → o ≡ Some x → deleted x ≡ Some e → P e) → P e
deleted_from P e None has h = cc
deleted_from P e (Some x) has h = h x refl has

-- other tags leave a content of its kind
pub kind_with : (f : List Pair → List Pair) (c : Content) → kind_of_content (with_tags f c) ≡ kind_of_content c
kind_with f (content.Node tags at) = refl
kind_with f (content.Way tags refs) = refl
kind_with f (content.Relation tags members) = refl
