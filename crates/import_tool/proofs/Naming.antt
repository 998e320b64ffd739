-- The new keys of the objects of a file.
use Rattle.std.proofs.Common.{◌≡◌, ◌||◌, ◌+◌, ◌<◌, ℕ, suc, Bool, true, false, cond, is_some, List, [], ◌∷◌, length, drop, get_or, Option, Some, None, refl, sym, ap, ◌∙◌, drop-cons, add-one, arith}
use Rattle.std.specs.Option.{unwrap_or}
use Rattle.std.specs.List.{AllByRecursion}
use Rattle.std.specs.Map.{lookup}
use Rattle.osm_base.specs.KeyEq.{eq}
use Rattle.osm_base.specs.Rank.{is_key}
use Rattle.osm_base.specs.RankLaws.{rank_ties}
use Rattle.osm_base.specs.Content.{kind_of_content}
use Rattle.osm_base.specs.declared.key.Key.{Key}
use Rattle.osm_base.specs.declared.key.Kind.{Kind}
use Rattle.osm_base.proofs.RisingKeys.{one_key, key_turned}
use Rattle.tool_api.specs.declared.new_objects.NewObject.{NewObject}
use Rattle.tool_api.specs.Checks.{is_named}
use Rattle.tool_api.specs.Changes.{new_key}
use Rattle.tool_api.specs.Import.{IsNewObject, file_keys, new_key_of, key_named, is_negative}
use Rattle.import_tool.specs.Known.{Names, has, called}

-- one object more in front
pub one_before : (objects : List NewObject) (m i n : ℕ) (none o : NewObject) (kind : Kind) (k : Key) (pairs pairs₁ : List (Key × Key)) → m ≡ i + 1 → i < length objects → o ≡ get_or objects i none
    → kind ≡ kind_of_content o.content → k ≡ new_key kind (n + i)
    → ((q : Key) → lookup (eq q) pairs₁ ≡ cond (eq o.key q) (Some k) (lookup (eq q) pairs)) → Names (n + m) (drop m objects) pairs → Names (n + i) (drop i objects) pairs₁
one_before objects m i n none o kind k pairs pairs₁ one lt is same new put names q =
    let there : drop i objects ≡ get_or objects i none ∷ drop (suc i) objects = drop-cons objects i none lt in
    let next : n + m ≡ (n + i) + 1 = omega (arith, one) in
    let more : drop m objects ≡ drop (suc i) objects = ap (λ (j : ℕ). drop j objects) (one ∙ add-one i) in
    put q
    ∙ (λ j. cond ((rank_ties o.key q ∙ key_turned o.key q) j) (Some ((new ∙ ap (λ (x : Kind). new_key x (n + i)) same) j)) ((names q ∙ (λ l. new_key_of (next l) (more l) q)) j))
    ∙ (λ j. cond (is_key q (is j).key) (Some (new_key (kind_of_content (is j).content) (n + i))) (new_key_of ((n + i) + 1) (drop (suc i) objects) q))
    ∙ ap (λ (os : List NewObject). new_key_of (n + i) os q) (sym there)

-- none stays none
pub of_none : (n : ℕ) (pairs : List (Key × Key)) (objects : List NewObject) → ((q : Key) → lookup (eq q) pairs ≡ None) → objects ≡ [] → Names n objects pairs
of_none n pairs objects none nil q = none q ∙ ap (λ (os : List NewObject). new_key_of n os q) (sym nil)

-- the keys that have a new one are the file's own
own_case : (b : Bool) (k : Key) (o : Option Key) (rest : Bool) → is_some o ≡ rest → is_some (cond b (Some k) o) ≡ (b || rest)
own_case true k o rest e = refl
own_case false k o rest e = e

pub own : (n : ℕ) (objects : List NewObject) (q : Key) → is_some (new_key_of n objects q) ≡ is_named (file_keys objects) q
own n [] q = refl
own n (o ∷ os) q = own_case (is_key q o.key) (new_key (kind_of_content o.content) n) (new_key_of (n + 1) os q) (is_named (file_keys os) q) (own (n + 1) os q)

pub has_own : (n : ℕ) (objects : List NewObject) (pairs : List (Key × Key)) → Names n objects pairs → has pairs ≡ is_named (file_keys objects)
has_own n objects pairs names = λ i q. (ap is_some (names q) ∙ own n objects q) i

pub called_so : (n : ℕ) (objects : List NewObject) (pairs : List (Key × Key)) → Names n objects pairs → called pairs ≡ key_named n objects
called_so n objects pairs names = λ i q. unwrap_or (names q i) q

-- A new key has the kind of the old one.
kind_case : (b : Bool) (q : Key) (o : NewObject) (n : ℕ) (rest : Option Key) → is_key q o.key ≡ b → kind_of_content o.content ≡ o.key.kind → (unwrap_or rest q).kind ≡ q.kind
    → (unwrap_or (cond b (Some (new_key (kind_of_content o.content) n)) rest) q).kind ≡ q.kind
kind_case true q o n rest is kind there = kind ∙ ap (λ (k : Key). k.kind) (sym (one_key q o.key is))
kind_case false q o n rest is kind there = there

pub named_kind : (n : ℕ) (objects : List NewObject) → AllByRecursion IsNewObject objects → (q : Key) → (key_named n objects q).kind ≡ q.kind
named_kind n [] all q = refl
named_kind n (o ∷ os) all q = kind_case (is_key q o.key) q o n (new_key_of (n + 1) os q) refl all.0.kind (named_kind (n + 1) os all.1 q)

-- A key with an id that isn't negative stays.
stays_case : (b : Bool) (q : Key) (o : NewObject) (n : ℕ) (rest : Option Key) → is_key q o.key ≡ b → is_negative o.key.id ≡ true → is_negative q.id ≡ false → rest ≡ None
    → cond b (Some (new_key (kind_of_content o.content) n)) rest ≡ None
stays_case true q o n rest is negative positive there =
    let f : false ≡ true = sym positive ∙ ap (λ (k : Key). is_negative k.id) (one_key q o.key is) ∙ negative in cc
stays_case false q o n rest is negative positive there = there

pub positive_none : (n : ℕ) (objects : List NewObject) → AllByRecursion IsNewObject objects → (q : Key) → is_negative q.id ≡ false → new_key_of n objects q ≡ None
positive_none n [] all q positive = refl
positive_none n (o ∷ os) all q positive = stays_case (is_key q o.key) q o n (new_key_of (n + 1) os q) refl all.0.id.1 positive (positive_none (n + 1) os all.1 q positive)
