-- Keys that a list names: the first of them, nodes by their ids, and who uses one of them.
use Rattle.std.proofs.Common.{◌≡◌, ◌<◌, ◌||◌, ℤ, Bool, true, false, cond, List, [], ◌∷◌, map, length, get_or, Option, Some, None, refl, sym, ap, ◌∙◌, arith}
use Rattle.std.specs.List.{list_any, flat_map, find}
use Rattle.std.specs.Option.{option_or, option_map_or}
use Rattle.std.proofs.lemmas.List.Folds.{list_any-append}
use Rattle.std.proofs.Math.Bool.{or-true}
use Rattle.osm_base.specs.Content.{node}
use Rattle.osm_base.specs.Rank.{is_key}
use Rattle.osm_base.specs.RisingKeys.{is_in}
use Rattle.osm_base.proofs.RisingKeys.{one_key, key_itself}
use Rattle.osm_base.specs.declared.key.Key.{Key}
use Rattle.osm_base.specs.declared.key.Kind.TheVariants as kind
use Rattle.osm_table.specs.declared.entry.Entry.{Entry}
use Rattle.osm_table.specs.Table.{TableValue, entry_of, users, uses}
use Rattle.dataset.proofs.Listed.{user_uses}
use Rattle.tool_api.specs.Checks.{is_named}
use Rattle.tool_api.specs.Combine.{is_positive, kept_way}
use Rattle.tool_api.specs.Upkeep.{first_in}

-- ---- the first

pub first_got : {X : Type 0} (xs : List X) (d : X) → 0 < length xs → first_in xs ≡ Some (get_or xs 0 d)
first_got [] d h = absurd (omega (arith, h))
first_got (x ∷ xs) d h = refl

found_case : (j k : Key) (ks : List Key) (o : Option Key) (b : Bool) → cond b (Some j) o ≡ Some k → (o ≡ Some k → is_named ks k ≡ true) → is_named (j ∷ ks) k ≡ true
found_case j k ks o true e rest = (let i : j ≡ k = cc in ap (λ (x : Key). is_key k x || is_named ks k) i ∙ ap (λ b. b || is_named ks k) (key_itself k))
found_case j k ks o false e rest = ap (λ b. is_key k j || b) (rest e) ∙ or-true (is_key k j)

pub find_named : (p : Key → Bool) (ks : List Key) (k : Key) → find p ks ≡ Some k → is_named ks k ≡ true
find_named p [] k e = cc
find_named p (j ∷ ks) k e = found_case j k ks (find p ks) (p j) e (find_named p ks k)

pub first_named : (ks : List Key) (k : Key) → first_in ks ≡ Some k → is_named ks k ≡ true
first_named [] k e = cc
first_named (j ∷ ks) k e = (let i : j ≡ k = cc in ap (λ (x : Key). is_key k x || is_named ks k) i ∙ ap (λ b. b || is_named ks k) (key_itself k))

pub or_case : (ks : List Key) (k : Key) (o : Option Key) → option_or o (first_in ks) ≡ Some k → (o ≡ Some k → is_named ks k ≡ true) → is_named ks k ≡ true
or_case ks k None e h = first_named ks k e
or_case ks k (Some j) e h = h e

-- of several objects the kept one is one of them
pub kept_named : (ks : List Key) (k : Key) → kept_way ks ≡ Some k → is_named ks k ≡ true
kept_named ks k e = or_case ks k (find (λ (j : Key). is_positive j.id) ks) e (find_named (λ (j : Key). is_positive j.id) ks k)

-- ---- nodes

node_step : (q : Key) (id : ℤ) (b rest : Bool) → is_key q (node id) ≡ b → (b || rest) ≡ true → (rest ≡ true → q.kind ≡ kind.Node) → q.kind ≡ kind.Node
node_step q id true rest is h there = ap (λ (k : Key). k.kind) (one_key q (node id) is)
node_step q id false rest is h there = there h

-- a key among nodes is a node
pub node_kind : (q : Key) (ids : List ℤ) → is_named (map node ids) q ≡ true → q.kind ≡ kind.Node
node_kind q [] h = cc
node_kind q (id ∷ ids) h = node_step q id (is_key q (node id)) (is_named (map node ids) q) refl h (node_kind q ids)

-- ---- users

-- an entry that uses a key is one of the key's users
pub is_user : (t : TableValue) (k r : Key) (e : Entry) → entry_of t k ≡ Some e → uses e r ≡ true → is_named (users t r) k ≡ true
is_user t k r e has used = user_uses t r k ∙ ap (λ (o : Option Entry). option_map_or (λ e. uses e r) o false) has ∙ used

-- whether a key uses one of those that are named
abbrev pub uses_one : TableValue → List Key → Key → Bool
uses_one t nodes k = list_any (λ (n : Key). is_named (users t n) k) nodes

user_case : (t : TableValue) (v : Key) (nodes : List Key) (k n : Key) (b : Bool) → is_key n v ≡ b → (b || is_named nodes n) ≡ true → is_named (users t n) k ≡ true
    → (is_named nodes n ≡ true → uses_one t nodes k ≡ true) → uses_one t (v ∷ nodes) k ≡ true
user_case t v nodes k n true is h used rest = ap (λ b. b || uses_one t nodes k) (ap (λ (j : Key). is_named (users t j) k) (sym (one_key n v is)) ∙ used)
user_case t v nodes k n false is h used rest = ap (λ b. is_named (users t v) k || b) (rest h) ∙ or-true (is_named (users t v) k)

pub some_user : (t : TableValue) (nodes : List Key) (k n : Key) → is_named nodes n ≡ true → is_named (users t n) k ≡ true → uses_one t nodes k ≡ true
some_user t [] k n named used = cc
some_user t (v ∷ nodes) k n named used = user_case t v nodes k n (is_key n v) refl named used (λ h. some_user t nodes k n h used)

pub in_users : (t : TableValue) (nodes : List Key) (k : Key) → is_in k (flat_map (users t) nodes) ≡ uses_one t nodes k
in_users t [] k = refl
in_users t (v ∷ nodes) k = list_any-append (is_key k) (users t v) (flat_map (users t) nodes) ∙ ap (λ b. is_named (users t v) k || b) (in_users t nodes k)
