-- What the members are after runs are folded, and where they can't be.
use Rattle.std.proofs.Common.{◌≡◌, ◌||◌, ◌-◌, ℕ, zero, suc, Bool, true, false, cond, List, [], ◌∷◌, length, take, Option, Some, None, refl, sym, ap, ◌∙◌}
use Rattle.std.proofs.Math.Bool.{or-true}
use mathlib.Core.Logic.{◌⊎◌, inl, inr}
use Rattle.std.specs.List.{list_any}
use Rattle.std.specs.Option.{option_map, is_none}
use Rattle.osm_base.specs.Rank.{is_key}
use Rattle.osm_base.proofs.RisingKeys.{one_key, key_itself}
use Rattle.osm_base.specs.declared.key.Key.{Key}
use Rattle.osm_base.specs.declared.members.Member.{Member}
use Rattle.tool_api.specs.Checks.{is_named}
use Rattle.tool_api.specs.Upkeep.{is_run, folded_from, folded}

-- whether a member is the key
abbrev pub has_member : List Member → Key → Bool
has_member ms r = list_any (λ (m : Member). is_key r m.key) ms

-- the kept way's key plays no part in the rule
none_map : {A B : Type 0} (f : A → B) (o : Option A) → is_none (option_map f o) ≡ is_none o
none_map f None = refl
none_map f (Some x) = refl

alike_map : {A B : Type 0} (f g : A → B) (o p : Option A) → is_none o ≡ is_none p → is_none (option_map f o) ≡ is_none (option_map g p)
alike_map f g o p e = none_map f o ∙ e ∙ sym (none_map g p)

alike_case : (a b : Bool) (x y z w : Option (List Member)) → is_none x ≡ is_none y → is_none z ≡ is_none w → is_none (cond a (cond b x None) z) ≡ is_none (cond a (cond b y None) w)
alike_case true true x y z w e f = e
alike_case true false x y z w e f = refl
alike_case false b x y z w e f = f

alike_from : (ways : List Key) (j k : Key) (skip : ℕ) (ms : List Member) → is_none (folded_from ways j skip ms) ≡ is_none (folded_from ways k skip ms)
alike_from ways j k skip [] = refl
alike_from ways j k (suc n) (m ∷ ms) = alike_from ways j k n ms
alike_from ways j k zero (m ∷ ms) = alike_case (is_named ways m.key) (is_run ways (take (length ways) (m ∷ ms))) _ _ _ _
    (alike_map (λ (out : List Member). record { key = j; role = m.role } ∷ out) (λ (out : List Member). record { key = k; role = m.role } ∷ out) _ _ (alike_from ways j k (length ways - 1) ms))
    (alike_map (λ (out : List Member). m ∷ out) (λ (out : List Member). m ∷ out) _ _ (alike_from ways j k 0 ms))

pub folds_alike : (ways : List Key) (j k : Key) (ms : List Member) → is_none (folded ways j ms) ≡ is_none (folded ways k ms)
folds_alike ways j k ms = alike_from ways j k 0 ms

-- A member after the joining is the kept way, or one from before that is none of the ways.
abbrev pub Stays : List Key → Key → List Member → Key → Type 0
Stays ways kept ms r = (r ≡ kept) ⊎ ((is_named ways r ≡ false) × (has_member ms r ≡ true))

stays_more : (ways : List Key) (kept : Key) (m : Member) (ms : List Member) (r : Key) → Stays ways kept ms r → Stays ways kept (m ∷ ms) r
stays_more ways kept m ms r (inl e) = inl e
stays_more ways kept m ms r (inr h) = inr (h.0, ap (λ b. is_key r m.key || b) h.1 ∙ or-true (is_key r m.key))

mapped : (m : Member) (o : Option (List Member)) (out : List Member) → option_map (λ (ms : List Member). m ∷ ms) o ≡ Some out → (rest : List Member) × (o ≡ Some rest) × (out ≡ m ∷ rest)
mapped m None out e = cc
mapped m (Some rest) out e = (rest, refl, (let i : m ∷ rest ≡ out = cc in sym i))

at_kept : (ways : List Key) (kept : Key) (m : Member) (ms : List Member) (r : Key) (b : Bool) (role : List ℕ) (rest : List Member) → is_key r kept ≡ b → (b || has_member rest r) ≡ true
    → (has_member rest r ≡ true → Stays ways kept ms r) → Stays ways kept (m ∷ ms) r
at_kept ways kept m ms r true role rest is has old = inl (one_key r kept is)
at_kept ways kept m ms r false role rest is has old = stays_more ways kept m ms r (old has)

at_other : (ways : List Key) (kept : Key) (m : Member) (ms : List Member) (r : Key) (b : Bool) (rest : List Member) → is_key r m.key ≡ b → is_named ways m.key ≡ false → (b || has_member rest r) ≡ true
    → (has_member rest r ≡ true → Stays ways kept ms r) → Stays ways kept (m ∷ ms) r
at_other ways kept m ms r true rest is apart has old = inr (ap (is_named ways) (one_key r m.key is) ∙ apart, ap (λ b. b || has_member ms r) is)
at_other ways kept m ms r false rest is apart has old = stays_more ways kept m ms r (old has)

fold_case : (ways : List Key) (kept : Key) (m : Member) (ms : List Member) (r : Key) (a b : Bool) (x y : Option (List Member)) (out : List Member) → is_named ways m.key ≡ a
    → cond a (cond b (option_map (λ (ms : List Member). record { key = kept; role = m.role } ∷ ms) x) None) (option_map (λ (ms : List Member). m ∷ ms) y) ≡ Some out
    → ((rest : List Member) → x ≡ Some rest → has_member rest r ≡ true → Stays ways kept ms r) → ((rest : List Member) → y ≡ Some rest → has_member rest r ≡ true → Stays ways kept ms r)
    → has_member out r ≡ true → Stays ways kept (m ∷ ms) r
fold_case ways kept m ms r true true x y out is e f g has =
    let w = mapped (record { key = kept; role = m.role }) x out e in
    at_kept ways kept m ms r (is_key r kept) m.role w.0 refl (ap (λ (l : List Member). has_member l r) (sym w.2) ∙ has) (f w.0 w.1)
fold_case ways kept m ms r true false x y out is e f g has = cc
fold_case ways kept m ms r false b x y out is e f g has =
    let w = mapped m y out e in
    at_other ways kept m ms r (is_key r m.key) w.0 refl is (ap (λ (l : List Member). has_member l r) (sym w.2) ∙ has) (g w.0 w.1)

stays_from : (ways : List Key) (kept r : Key) (skip : ℕ) (ms out : List Member) → folded_from ways kept skip ms ≡ Some out → has_member out r ≡ true → Stays ways kept ms r
stays_from ways kept r skip [] out e has = (let i : out ≡ [] = cc in let f : has_member [] r ≡ true = ap (λ (l : List Member). has_member l r) (sym i) ∙ has in cc)
stays_from ways kept r (suc n) (m ∷ ms) out e has = stays_more ways kept m ms r (stays_from ways kept r n ms out e has)
stays_from ways kept r zero (m ∷ ms) out e has =
    fold_case ways kept m ms r (is_named ways m.key) (is_run ways (take (length ways) (m ∷ ms))) (folded_from ways kept (length ways - 1) ms) (folded_from ways kept 0 ms) out refl e
    (λ rest is h. stays_from ways kept r (length ways - 1) ms rest is h) (λ rest is h. stays_from ways kept r 0 ms rest is h) has

pub folded_stays : (ways : List Key) (kept r : Key) (ms out : List Member) → folded ways kept ms ≡ Some out → has_member out r ≡ true → Stays ways kept ms r
folded_stays ways kept r ms out e has = stays_from ways kept r 0 ms out e has

-- Members among which none is one of the ways can always be folded.
abbrev pub NamesOne : List Key → List Member → Type 0
NamesOne ways ms = (r : Key) × (is_named ways r ≡ true) × (has_member ms r ≡ true)

names_more : (ways : List Key) (m : Member) (ms : List Member) → NamesOne ways ms → NamesOne ways (m ∷ ms)
names_more ways m ms h = (h.0, h.1, ap (λ b. is_key h.0 m.key || b) h.2 ∙ or-true (is_key h.0 m.key))

no_map : (m : Member) (o : Option (List Member)) → option_map (λ (ms : List Member). m ∷ ms) o ≡ None → o ≡ None
no_map m None e = refl
no_map m (Some x) e = cc

key_of : (m : Member) (ms : List Member) → has_member (m ∷ ms) m.key ≡ true
key_of m ms = ap (λ b. b || has_member ms m.key) (key_itself m.key)

names_case : (ways : List Key) (m : Member) (ms : List Member) (a b : Bool) (x y : Option (List Member)) (k : Member) → is_named ways m.key ≡ a → cond a (cond b x None) (option_map (λ (ms : List Member). k ∷ ms) y) ≡ None → (y ≡ None → NamesOne ways ms) → NamesOne ways (m ∷ ms)
names_case ways m ms true b x y k is e f = (m.key, is, key_of m ms)
names_case ways m ms false b x y k is e f = names_more ways m ms (f (no_map k y e))

names_from : (ways : List Key) (kept : Key) (skip : ℕ) (ms : List Member) → folded_from ways kept skip ms ≡ None → NamesOne ways ms
names_from ways kept skip [] e = cc
names_from ways kept (suc n) (m ∷ ms) e = names_more ways m ms (names_from ways kept n ms e)
names_from ways kept zero (m ∷ ms) e = names_case ways m ms (is_named ways m.key) (is_run ways (take (length ways) (m ∷ ms))) _ (folded_from ways kept 0 ms) m refl e (names_from ways kept 0 ms)

pub unfolded_names : (ways : List Key) (kept : Key) (ms : List Member) → folded ways kept ms ≡ None → NamesOne ways ms
unfolded_names ways kept ms e = names_from ways kept 0 ms e
