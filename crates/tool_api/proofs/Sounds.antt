-- Edits and new objects keep a table sound, and what a server told refers to positive ids.
use Rattle.std.proofs.Common.{◌≡◌, ◌||◌, ℕ, ◌+◌, ◌≤◌, Bool, true, false, cond, nat_lt, List, Option, Some, None, refl, sym, ◌∙◌, subst, arith}
use mathlib.Core.Logic.{◌⊎◌, inl, inr}
use Rattle.std.specs.Option.{option_map, option_and_then}
use Rattle.std.specs.FinMap as fin
use Rattle.std.proofs.lemmas.Bool.{true≢false, ltb-false}
use Rattle.osm_base.specs.Content.{refers, refs_of, fits, kind_of_content}
use Rattle.osm_base.specs.declared.key.Kind.{Kind}
use Rattle.osm_base.specs.declared.key.Key.{Key}
use Rattle.osm_base.specs.declared.content.Content.{Content}
use Rattle.osm_base.proofs.Lists.{all_at}
use Rattle.osm_table.specs.declared.entry.Base.{Base}
use Rattle.osm_table.specs.declared.entry.Base.TheVariants.{New, Live, Gone}
use Rattle.osm_table.specs.declared.entry.Entry.{Entry}
use Rattle.osm_table.specs.declared.entry.Entry.TheVariants.{Incomplete, Known}
use Rattle.osm_table.specs.Table.{TableValue, entry_of, mine_of, Each, IsThere, IsPositive}
use Rattle.osm_table.proofs.Each.{get_with_same}
use Rattle.dataset.specs.Sound.{IsSound, IsSoundEntry, IsNumber, LivesIn, IdFits, FromTheServer}
use Rattle.dataset.proofs.Changes.{mine_entry, new_sound, number_sound}
use Rattle.tool_api.specs.Checks.{is_named, ref_tests}
use Rattle.tool_api.specs.Changes.{changed, edit, with_mine, new_key, added}
use Rattle.tool_api.specs.Closing.{closing_tests, makes_unfit}
use Rattle.tool_api.specs.Staged.{refers_by}
use Rattle.tool_api.proofs.Looks.{entry_changed, next_changed}
use Rattle.tool_api.proofs.Passed.{Lives, lives, refs_there, passed_tests, keeps_fit, fits_or_stays}

-- Changes.

-- a condition after a change: what is put at the keys meets it
cases : (P : Key → Entry → Type 0) (k : Key) (e : Entry) (b : Bool) (o old : Option Entry) → cond b o old ≡ Some e → (b ≡ true → o ≡ Some e → P k e) → (old ≡ Some e → P k e) → P k e
cases P k e true o old has new before = new refl has
cases P k e false o old has new before = before has

pub each_changed : (P : Key → Entry → Type 0) (t : TableValue) (g : Key → Option Entry) (ks : List Key) → Each t P
    → ((k : Key) (e : Entry) → is_named ks k ≡ true → g k ≡ Some e → P k e) → Each (changed t g ks) P
each_changed P t g ks all new k e has = cases P k e (is_named ks k) (g k) (entry_of t k) (sym (entry_changed t g ks k) ∙ has) (new k e) (all k e)

pub next_is : (P : ℕ → Type 0) (t : TableValue) (g : Key → Option Entry) (ks : List Key) → P t.next → P (changed t g ks).next
next_is P t g ks h = subst P (sym (next_changed t g ks)) h

-- Edits of entries that live without conflict.

edited_from : (P : Key → Entry → Type 0) (f : Content → Content) (k : Key) (e : Entry) (o : Option Entry) → option_map (with_mine f) o ≡ Some e
    → ((x : Entry) → o ≡ Some x → P k (with_mine f x)) → P k e
edited_from P f k e None has h = cc
edited_from P f k e (Some x) has h = subst (λ (y : Entry). P k y) (let i : with_mine f x ≡ e = cc in i) (h x refl)

pub each_edited : (P : Key → Entry → Type 0) (t : TableValue) (f : Content → Content) (ks : List Key) → Each t P
    → ((k : Key) (e : Entry) → is_named ks k ≡ true → entry_of t k ≡ Some e → Lives e → P k e → P k (with_mine f e))
    → ((k : Key) (e : Entry) → is_named ks k ≡ true → entry_of t k ≡ Some e → Lives e) → Each (changed t (edit t f) ks) P
each_edited P t f ks all keeps live = each_changed P t (edit t f) ks all
    (λ k e named has. edited_from P f k e (entry_of t k) has (λ x is. keeps k x named is (live k x named is) (all k x is)))

-- an entry by itself
pub content_edited : (n : ℕ) (f : Content → Content) (k : Key) (base : Base) (c : Content) → kind_of_content (f c) ≡ kind_of_content c → (fits (f c) ≡ true) ⊎ (Some c ≡ Some (f c)) → IsSoundEntry n k (Known base (Some c) None) → IsSoundEntry n k (Known base (Some (f c)) None)
content_edited n f k base c kind (inl fit) s = mine_entry n k base (Some c) (f c) None s (kind ∙ s.kinds.1) fit tt
content_edited n f k base c kind (inr same) s = subst (λ (x : Option Content). IsSoundEntry n k (Known base x None)) same s

entry_edited : (t : TableValue) (f : Content → Content) (ks : List Key) (limit : ℕ) (named : List Key) → ((c : Content) → kind_of_content (f c) ≡ kind_of_content c) → closing_tests t limit named (changed t (edit t f) ks) ≡ None
    → (k : Key) (e : Entry) → is_named ks k ≡ true → entry_of t k ≡ Some e → Lives e → IsSoundEntry t.next k e → IsSoundEntry t.next k (with_mine f e)
entry_edited t f ks limit named kind passed k e is has (lives base c) s =
    let there : entry_of (changed t (edit t f) ks) k ≡ Some (with_mine f (Known base (Some c) None)) =
    entry_changed t (edit t f) ks k ∙ (λ i. cond (is i) (option_map (with_mine f) (has i)) (entry_of t k)) in
    let fine : makes_unfit (Some c) (Some (f c)) ≡ false =
    (let a = sym has in let b = sym there in λ i. makes_unfit (option_and_then mine_of (a i)) (option_and_then mine_of (b i))) ∙ keeps_fit t (changed t (edit t f) ks) limit named k _ passed there in
    content_edited t.next f k base c (kind c) (fits_or_stays (Some c) (f c) fine) s

-- what is there stays there
edit_there : (f : Content → Content) (o : Option Entry) (b : Bool) → IsThere o → IsThere (cond b (option_map (with_mine f) o) o)
edit_there f o false h = h
edit_there f (Some Incomplete) true h = tt
edit_there f (Some (Known base (Some c) conflict)) true h = refl
edit_there f (Some (Known base None conflict)) true h = h
edit_there f None true h = h

pub edited_there : (f : Content → Content) (o : Option Entry) → IsThere o → IsThere (option_map (with_mine f) o)
edited_there f o h = edit_there f o true h

pub stays_there : (t : TableValue) (f : Content → Content) (ks : List Key) (r : Key) → IsThere (entry_of t r) → IsThere (entry_of (changed t (edit t f) ks) r)
stays_there t f ks r h = subst IsThere (sym (entry_changed t (edit t f) ks r)) (edit_there f (entry_of t r) (is_named ks r) h)

-- references that are old ones, or are there
ref_there : (t : TableValue) (f : Content → Content) (ks : List Key) (old : Bool) (r : Key) → (old ≡ true → IsThere (entry_of (changed t (edit t f) ks) r)) → (old ≡ true) ⊎ IsThere (entry_of t r) → IsThere (entry_of (changed t (edit t f) ks) r)
ref_there t f ks old r h (inl e) = h e
ref_there t f ks old r h (inr there) = stays_there t f ks r there

refs_kept : (t : TableValue) (f : Content → Content) (ks : List Key) → ((c : Content) (r : Key) → refers (f c) r ≡ true → (refers c r ≡ true) ⊎ IsThere (entry_of t r))
    → (e : Entry) → Lives e → LivesIn (changed t (edit t f) ks) e → LivesIn (changed t (edit t f) ks) (with_mine f e)
refs_kept t f ks new e (lives base c) h r used = ref_there t f ks (refers c r) r (h r) (new c r used)

refs_edited : (t : TableValue) (f : Content → Content) (ks : List Key) → ((c : Content) (r : Key) → refers (f c) r ≡ true → (refers c r ≡ true) ⊎ IsThere (entry_of t r)) → Each t (λ k e. LivesIn t e)
    → ((k : Key) (e : Entry) → is_named ks k ≡ true → entry_of t k ≡ Some e → Lives e) → Each (changed t (edit t f) ks) (λ k e. LivesIn (changed t (edit t f) ks) e)
refs_edited t f ks new all live = each_edited (λ k e. LivesIn (changed t (edit t f) ks) e) t f ks
    (λ k e is r used. stays_there t f ks r (all k e is r used))
    (λ k e named is alive h. refs_kept t f ks new e alive h) live

-- An edit that keeps the kinds, and whose references are old ones or are there, keeps the table sound where it passes
-- the closing tests.
pub edit_sound : (t : TableValue) (f : Content → Content) (ks : List Key) (limit : ℕ) (named : List Key) → ((c : Content) → kind_of_content (f c) ≡ kind_of_content c)
    → ((c : Content) (r : Key) → refers (f c) r ≡ true → (refers c r ≡ true) ⊎ IsThere (entry_of t r))
    → ((k : Key) (e : Entry) → is_named ks k ≡ true → entry_of t k ≡ Some e → Lives e)
    → IsSound t → closing_tests t limit named (changed t (edit t f) ks) ≡ None → IsSound (changed t (edit t f) ks)
edit_sound t f ks limit named kind refs live s passed = record {
  entries = next_is (λ n. Each (changed t (edit t f) ks) (IsSoundEntry n)) t (edit t f) ks (each_edited (IsSoundEntry t.next) t f ks s.entries (entry_edited t f ks limit named kind passed) live);
  closed = refs_edited t f ks refs s.closed live;
  number = next_is IsNumber t (edit t f) ks s.number;
}

-- What a server told.

pub server_positive : (o : Option Content) (q : Key) → FromTheServer o → refers_by o q ≡ true → IsPositive q.id
server_positive None q s h = absurd (true≢false (sym h))
server_positive (Some c) q s h = all_at (λ r. IsPositive r.id) (refs_of c) q s h

-- A new object.

no_new : (n : ℕ) (k : Kind) (e : Entry) → 1 ≤ n → IdFits n (new_key k n) e → ⊥
no_new n k Incomplete one h = h
no_new n k (Known New mine conflict) one h = absurd (omega (arith, one, h.0))
no_new n k (Known (Live v c m) mine conflict) one h = h
no_new n k (Known (Gone v m) mine conflict) one h = h

absent_case : (t : TableValue) (k : Kind) (o : Option Entry) → IsSound t → entry_of t (new_key k t.next) ≡ o → o ≡ None
absent_case t k None s is = refl
absent_case t k (Some e) s is = absurd (no_new t.next k e s.number.0 (s.entries _ e is).id)

-- the next new key is in no sound table
pub new_absent : (t : TableValue) (k : Kind) → IsSound t → entry_of t (new_key k t.next) ≡ None
new_absent t k s = absent_case t k _ s refl

pub only_fits : (c : Content) → (fits c ≡ true) ⊎ (◌≡◌ {A = Option Content} None (Some c)) → fits c ≡ true
only_fits c (inl fit) = fit
only_fits c (inr same) = cc

pub second_false : (a b : Bool) → (a || b) ≡ false → b ≡ false
second_false true b e = cc
second_false false b e = e

pub add_sound : (t : TableValue) (limit : ℕ) (named : List Key) (c : Content) → IsSound t → ref_tests t (refs_of c) ≡ None → closing_tests t limit named (added t c) ≡ None → IsSound (added t c)
add_sound t limit named c s refs passed =
    let k = new_key (kind_of_content c) t.next in
    let there : entry_of (added t c) k ≡ Some (Known New (Some c) None) = get_with_same t k (Known New (Some c) None) in
    let fine : makes_unfit None (Some c) ≡ false =
    (let a = sym (new_absent t (kind_of_content c) s) in let b = sym there in λ i. makes_unfit (option_and_then mine_of (a i)) (option_and_then mine_of (b i))) ∙ keeps_fit t (added t c) limit named k _ passed there in
    let room : nat_lt 1000000000000000000 (t.next + 1) ≡ false = second_false (nat_lt limit (fin.len (added t c).entries)) _ (passed_tests t (added t c) limit named passed).room in
    let number : IsSound (record { entries = t.entries; next = t.next + 1 }) = number_sound t (t.next + 1) s (omega arith) (omega arith, ltb-false _ _ room) in
    new_sound (record { entries = t.entries; next = t.next + 1 }) k c number (let one = s.number.0 in omega (arith, one)) refl (only_fits c (fits_or_stays None c fine)) (λ r used. refs_there t (refs_of c) r refs used)
