-- What an import leaves, object by object.
use Rattle.std.proofs.Common.{◌≡◌, ℕ, zero, suc, ◌+◌, ◌≤◌, false, cond, List, [], ◌∷◌, map, slice_get, Option, Some, None, Ok, refl, sym, ap, ◌∙◌, subst, arith}
use Rattle.std.specs.List.{AllByRecursion}
use Rattle.std.specs.Option.{unwrap_or}
use Rattle.std.proofs.lemmas.List.{length-map}
use Rattle.std.proofs.lemmas.Bool.{or_parts}
use Rattle.osm_base.specs.Rank.{is_key}
use Rattle.osm_base.specs.Content.{kind_of_content}
use Rattle.osm_base.specs.declared.key.Key.{Key}
use Rattle.osm_base.specs.declared.key.Kind.{Kind}
use Rattle.osm_base.specs.declared.content.Content.{Content}
use Rattle.osm_base.proofs.RisingKeys.{key_itself, key_turned}
use Rattle.osm_table.specs.declared.entry.Base.TheVariants.{New}
use Rattle.osm_table.specs.declared.entry.Entry.TheVariants.{Known}
use Rattle.osm_table.specs.Table.{TableValue, entry_of}
use Rattle.dataset.specs.Sound.{IsSound}
use Rattle.renamed_content.specs.Renamed.{renamed}
use Rattle.renamed_content.proofs.Refs.{renamed_kind}
use Rattle.tool_api.specs.declared.new_objects.NewObject.{NewObject}
use Rattle.tool_api.specs.declared.refusal.Refusal.{Refusal}
use Rattle.tool_api.specs.Checks.{◌>>◌, is_named, first_of}
use Rattle.tool_api.specs.Changes.{Outcome, new_key, added, all_added}
use Rattle.tool_api.specs.Closing.{closing_tests}
use Rattle.tool_api.specs.Import.{IsNewObject, AreDistinct, AreNewObjects, file_keys, references, file_reference_test, new_key_of, key_named, new_keys, new_contents, import}
use Rattle.tool_api.proofs.Added.{added_at, next_added, at_added}
use Rattle.import_tool.specs.ByPlace.{IsImported}

-- an outcome that two tests let through
let_through : (a b : Option Refusal) (made new : Outcome) → (a >> (b >> Ok made)) ≡ Ok new → made ≡ new
let_through None None made new e = cc
let_through None (Some r) made new e = absurd cc
let_through (Some r) b made new e = absurd cc

-- The objects at their places.

kind_at : (objects : List NewObject) (i : ℕ) (o : NewObject) → AllByRecursion IsNewObject objects → slice_get objects i ≡ Some o → kind_of_content o.content ≡ o.key.kind
kind_at [] i o all at = absurd cc
kind_at (p ∷ os) zero o all at = subst (λ (x : NewObject). kind_of_content x.content ≡ x.key.kind) (let is : p ≡ o = cc in is) all.0.kind
kind_at (p ∷ os) (suc i) o all at = kind_at os i o all.1 at

key_at : (n : ℕ) (objects : List NewObject) (i : ℕ) (o : NewObject) → slice_get objects i ≡ Some o → slice_get (new_keys n objects) i ≡ Some (new_key (kind_of_content o.content) (n + i))
key_at n [] i o at = absurd cc
key_at n (p ∷ os) zero o at =
    let is : p ≡ o = cc in
    let same : n ≡ n + 0 = omega arith in
    λ j. Some (new_key (kind_of_content (is j).content) (same j))
key_at n (p ∷ os) (suc i) o at = let e : (n + 1) + i ≡ n + suc i = omega arith in key_at (n + 1) os i o at ∙ ap (λ m. Some (new_key (kind_of_content o.content) m)) e

-- an object behind others has another key than the first
apart : (k : Key) (os : List NewObject) (i : ℕ) (o : NewObject) → is_named (file_keys os) k ≡ false → slice_get os i ≡ Some o → is_key o.key k ≡ false
apart k [] i o out at = absurd cc
apart k (p ∷ os) zero o out at =
    let is : p ≡ o = cc in
    ap (λ (x : NewObject). is_key x.key k) (sym is) ∙ key_turned p.key k ∙ (or_parts (is_key k p.key) (is_named (file_keys os) k) out).0
apart k (p ∷ os) (suc i) o out at = apart k os i o (or_parts (is_key k p.key) (is_named (file_keys os) k) out).1 at

named_at : (n : ℕ) (objects : List NewObject) (i : ℕ) (o : NewObject) → AreDistinct (file_keys objects) → slice_get objects i ≡ Some o → new_key_of n objects o.key ≡ Some (new_key (kind_of_content o.content) (n + i))
named_at n [] i o distinct at = absurd cc
named_at n (p ∷ os) zero o distinct at =
    let is : p ≡ o = cc in
    let same : n ≡ n + 0 = omega arith in
    ap (λ (x : NewObject). new_key_of n (p ∷ os) x.key) (sym is)
    ∙ ap (λ b. cond b (Some (new_key (kind_of_content p.content) n)) (new_key_of (n + 1) os p.key)) (key_itself p.key)
    ∙ (λ j. Some (new_key (kind_of_content (is j).content) (same j)))
named_at n (p ∷ os) (suc i) o distinct at =
    let e : (n + 1) + i ≡ n + suc i = omega arith in
    ap (λ b. cond b (Some (new_key (kind_of_content p.content) n)) (new_key_of (n + 1) os o.key)) (apart p.key os i o distinct.0 at)
    ∙ named_at (n + 1) os i o distinct.1 at ∙ ap (λ m. Some (new_key (kind_of_content o.content) m)) e

-- The table.

module _ (f : Key → Key) where
  abbrev contents : List NewObject → List Content
  contents objects = map (λ o. renamed f o.content) objects

  entry_at : (objects : List NewObject) (x : TableValue) (i : ℕ) (o : NewObject) → 1 ≤ x.next → slice_get objects i ≡ Some o
      → entry_of (all_added x (contents objects)) (new_key (kind_of_content o.content) (x.next + i)) ≡ Some (Known New (Some (renamed f o.content)) None)
  entry_at [] x i o one at = absurd cc
  entry_at (p ∷ os) x zero o one at =
      let is : p ≡ o = cc in
      let same : x.next + 0 ≡ x.next = omega arith in
      ap (λ m. entry_of (all_added x (contents (p ∷ os))) (new_key (kind_of_content o.content) m)) same
      ∙ subst (λ (y : NewObject). entry_of (all_added x (contents (p ∷ os))) (new_key (kind_of_content y.content) x.next) ≡ Some (Known New (Some (renamed f y.content)) None)) is
      (ap (λ (k : Kind). entry_of (all_added x (contents (p ∷ os))) (new_key k x.next)) (sym (renamed_kind f p.content)) ∙ at_added x (renamed f p.content) (contents os) one)
  entry_at (p ∷ os) x (suc i) o one at =
      let e : x.next + suc i ≡ (x.next + 1) + i = omega arith in
      ap (λ m. entry_of (all_added x (contents (p ∷ os))) (new_key (kind_of_content o.content) m)) e ∙ entry_at os (added x (renamed f p.content)) i o (omega arith) at

  other_at : (objects : List NewObject) (x : TableValue) (k : Key) → is_named (new_keys x.next objects) k ≡ false → entry_of (all_added x (contents objects)) k ≡ entry_of x k
  other_at [] x k out = refl
  other_at (p ∷ os) x k out =
      let q = or_parts (is_key k (new_key (kind_of_content p.content) x.next)) (is_named (new_keys (x.next + 1) os) k) out in
      other_at os (added x (renamed f p.content)) k q.1
      ∙ added_at x (renamed f p.content) k
      ∙ (λ i. cond (is_key k (new_key (renamed_kind f p.content i) x.next)) (Some (Known New (Some (renamed f p.content)) None)) (entry_of x k))
      ∙ ap (λ b. cond b (Some (Known New (Some (renamed f p.content)) None)) (entry_of x k)) q.0

all_hold : (t : TableValue) (objects : List NewObject) → IsSound t → AreNewObjects objects → IsImported t objects (record { keys = new_keys t.next objects; table = all_added t (new_contents t.next objects) })
all_hold t objects s are = record {
  keys = λ i o at. key_at t.next objects i o at ∙ ap (λ (k : Kind). Some (new_key k (t.next + i))) (kind_at objects i o are.each at);
  named = λ i o at. ap (λ (k : Option Key). unwrap_or k o.key) (named_at t.next objects i o are.distinct at) ∙ ap (λ (k : Kind). new_key k (t.next + i)) (kind_at objects i o are.each at);
  entries = λ i o at. ap (λ (k : Kind). entry_of (all_added t (new_contents t.next objects)) (new_key k (t.next + i))) (sym (kind_at objects i o are.each at)) ∙ entry_at (key_named t.next objects) objects t i o s.number.0 at;
  others = λ k out. other_at (key_named t.next objects) objects t k out;
  number = next_added t (new_contents t.next objects) ∙ ap (λ n. t.next + n) (length-map objects (λ o. renamed (key_named t.next objects) o.content));
}

-- What an import that isn't refused leaves.
pub by_place : (t : TableValue) (limit : ℕ) (objects : List NewObject) (new : Outcome) → IsSound t → AreNewObjects objects → import t limit objects ≡ Ok new → IsImported t objects new
by_place t limit objects new s are e =
    subst (IsImported t objects)
    (let_through (first_of (file_reference_test t (is_named (file_keys objects))) (references objects))
    (closing_tests t limit [] (all_added t (new_contents t.next objects))) (record { keys = new_keys t.next objects; table = all_added t (new_contents t.next objects) }) new e)
    (all_hold t objects s are)
