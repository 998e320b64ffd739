-- Entries put one after the other whose keys rise: each comes last.
use Rattle.std.proofs.Common.{◌≡◌, ◌||◌, Bool, true, false, List, [], ◌∷◌, ◌++◌, refl, sym, ◌∙◌, ap, subst, append-nil, append_assoc}
use Rattle.std.specs.Map.{keys_of}
use Rattle.std.specs.Prelude.{T}
use Rattle.osm_table.specs.InOrder.{insert_entry, insert_all}
use Rattle.osm_base.specs.KeyEq.{eq}
use Rattle.osm_base.specs.Rank.{rank_cmp, is_key}
use Rattle.osm_base.specs.RankLaws.{rank_ties}
use Rattle.osm_base.specs.RisingKeys.{rises, is_in}
use Rattle.osm_base.specs.declared.key.Key.{Key}
use Rattle.osm_base.proofs.Halving.{IsBelow}
use Rattle.osm_base.proofs.Tests.{first_T, second_T, less_from_T}
use Rattle.osm_table.specs.declared.entry.Entry.{Entry}
use Rattle.osm_table.proofs.OrderLaws.{less_apart, neither}

-- a new key comes last
put_new : (es : List (Key × Entry)) (k : Key) (e : Entry) → is_in k (keys_of es) ≡ false → insert_entry eq es k e ≡ es ++ (k, e) ∷ []
put_new [] k e h = refl
put_new (x ∷ es) k e h =
    let parts = neither (is_key k x.0) (is_in k (keys_of es)) h in
    let apart : eq k x.0 ≡ false = rank_ties k x.0 ∙ parts.0 in
    rw apart (ap (λ (fs : List (Key × Entry)). x ∷ fs) (put_new es k e parts.1))

below_next : (x : Key) (front : List (Key × Entry)) (e : Key × Entry) (es : List (Key × Entry)) → IsBelow x (keys_of (front ++ e ∷ es)) → is_key e.0 x ≡ false
below_next x [] e es h = less_apart x e.0 (less_from_T (rank_cmp x e.0) (first_T _ _ h))
below_next x (f ∷ front) e es h = below_next x front e es (second_T _ _ h)

both_false : (a b : Bool) → a ≡ false → b ≡ false → (a || b) ≡ false
both_false true b e f = e
both_false false b e f = f

-- the key behind others that rise isn't among them
next_apart : (front : List (Key × Entry)) (e : Key × Entry) (es : List (Key × Entry)) → T (rises (keys_of (front ++ e ∷ es))) → is_in e.0 (keys_of front) ≡ false
next_apart [] e es h = refl
next_apart (f ∷ front) e es h = both_false (is_key e.0 f.0) (is_in e.0 (keys_of front)) (below_next f.0 front e es (first_T _ _ h)) (next_apart front e es (second_T _ _ h))

pub all_new : (front es : List (Key × Entry)) → T (rises (keys_of (front ++ es))) → insert_all eq front es ≡ front ++ es
all_new front [] h = sym (append-nil front)
all_new front (e ∷ es) h =
    let on : front ++ e ∷ es ≡ (front ++ e ∷ []) ++ es = sym (append_assoc front (e ∷ []) es) in
    ap (λ (fs : List (Key × Entry)). insert_all eq fs es) (put_new front e.0 e.1 (next_apart front e es h))
    ∙ all_new (front ++ e ∷ []) es (subst (λ (fs : List (Key × Entry)). T (rises (keys_of fs))) on h)
    ∙ sym on
