-- Tables with new ways, and changes of them.
use Rattle.std.proofs.Common.{◌≡◌, ◌||◌, ◌+◌, ◌<◌, ◌≤◌, ℕ, ℤ, Bool, true, false, cond, nat_lt, List, [], ◌∷◌, length, map, Option, Some, None, refl, sym, ap, ◌∙◌, subst, arith}
use mathlib.Core.Logic.{◌⊎◌, inl, inr}
use Rattle.std.specs.List.{AllByRecursion, list_any}
use Rattle.std.proofs.lemmas.Bool.Decides.{nat_tests}
use Rattle.std.proofs.lemmas.Bool.{or_right, or_left, or_parts}
use Rattle.osm_base.specs.Rank.{is_key}
use Rattle.osm_base.specs.Content.{kind_of_content, node}
use Rattle.osm_base.specs.Tags.{Pair}
use Rattle.osm_base.specs.declared.key.Key.{Key}
use Rattle.osm_base.specs.declared.key.Kind.{Kind}
use Rattle.osm_base.specs.declared.key.Kind.TheVariants as kind
use Rattle.osm_base.specs.declared.content.Content.{Content}
use Rattle.osm_base.specs.declared.content.Content.TheVariants as content
use Rattle.osm_base.proofs.RisingKeys.{one_key, key_itself}
use Rattle.osm_base.proofs.Tests.{by_bool}
use Rattle.osm_table.specs.declared.entry.Base.TheVariants.{New}
use Rattle.osm_table.specs.declared.entry.Entry.{Entry}
use Rattle.osm_table.specs.declared.entry.Entry.TheVariants.{Known}
use Rattle.osm_table.specs.Table.{TableValue, entry_of, IsThere}
use Rattle.osm_table.proofs.Each.{same_table}
use Rattle.tool_api.specs.Checks.{is_named}
use Rattle.tool_api.specs.Changes.{placed, changed, new_key, added, all_added}
use Rattle.tool_api.proofs.Looks.{entry_placed, next_placed}
use Rattle.tool_api.proofs.Added.{added_at, at_added, there_all, RefersIn}

abbrev pub ways_of : List Pair → List (Key × List ℤ) → List Content
ways_of tags ps = map (λ (p : Key × List ℤ). content.Way tags p.1) ps

more_from : (n m : ℕ) → nat_lt n m ≡ true → n + 1 ≤ m
more_from n m e = grind (arith, nat_tests)

same_from : (n m : ℕ) → n ≤ m → nat_lt n m ≡ false → m ≡ n
same_from n m h e = grind (arith, nat_tests)

same_or_more : (n m : ℕ) → n ≤ m → (m ≡ n) ⊎ (n + 1 ≤ m)
same_or_more n m h = by_bool (nat_lt n m) (λ e. inr (more_from n m e)) (λ e. inl (same_from n m h e))

pub new_there : (x : TableValue) (tags : List Pair) (ps : List (Key × List ℤ)) (m : ℕ) → 1 ≤ x.next → x.next ≤ m → m < x.next + length ps → IsThere (entry_of (all_added x (ways_of tags ps)) (new_key kind.Way m))
new_there x tags [] m one low high = absurd (omega arith)
new_there x tags (p ∷ ps) m one low high = elim (same_or_more x.next m low) [
  | inl same ↦ subst (λ n. IsThere (entry_of (all_added x (ways_of tags (p ∷ ps))) (new_key kind.Way n))) (sym same) (subst IsThere (sym (at_added x (content.Way tags p.1) (ways_of tags ps) one)) refl)
  | inr more ↦ new_there (added x (content.Way tags p.1)) tags ps m (omega arith) more (omega arith)
]

-- a change of keys that aren't new ones commutes with new objects
swapped : (q a b : Key) (i j : Bool) (new o old : Option Entry) → is_key q a ≡ i → is_key q b ≡ j → is_key a b ≡ false → cond i new (cond j o old) ≡ cond j o (cond i new old)
swapped q a b true true new o old e f apart = let g : true ≡ false = sym f ∙ ap (λ (k : Key). is_key k b) (one_key q a e) ∙ apart in cc
swapped q a b true false new o old e f apart = refl
swapped q a b false true new o old e f apart = refl
swapped q a b false false new o old e f apart = refl

added_placed : (x : TableValue) (k : Key) (o : Option Entry) (c : Content) → is_key (new_key (kind_of_content c) x.next) k ≡ false → added (placed x k o) c ≡ placed (added x c) k o
added_placed x k None c apart =
    same_table _ _
    (λ q. added_at (placed x k None) c q ∙ ap (cond (is_key q (new_key (kind_of_content c) x.next)) (Some (Known New (Some c) None))) (entry_placed x k None q)
    ∙ swapped q (new_key (kind_of_content c) x.next) k _ _ (Some (Known New (Some c) None)) None (entry_of x q) refl refl apart
    ∙ ap (cond (is_key q k) None) (sym (added_at x c q)) ∙ sym (entry_placed (added x c) k None q)) refl
added_placed x k (Some e) c apart =
    same_table _ _
    (λ q. added_at (placed x k (Some e)) c q ∙ ap (cond (is_key q (new_key (kind_of_content c) x.next)) (Some (Known New (Some c) None))) (entry_placed x k (Some e) q)
    ∙ swapped q (new_key (kind_of_content c) x.next) k _ _ (Some (Known New (Some c) None)) (Some e) (entry_of x q) refl refl apart
    ∙ ap (cond (is_key q k) (Some e)) (sym (added_at x c q)) ∙ sym (entry_placed (added x c) k (Some e) q)) refl

added_changed : (x : TableValue) (g : Key → Option Entry) (ks : List Key) (c : Content) → is_named ks (new_key (kind_of_content c) x.next) ≡ false → added (changed x g ks) c ≡ changed (added x c) g ks
added_changed x g [] c out = refl
added_changed x g (k ∷ ks) c out =
    let p = or_parts (is_key (new_key (kind_of_content c) x.next) k) (is_named ks (new_key (kind_of_content c) x.next)) out in
    added_changed (placed x k (g k)) g ks c (ap (λ n. is_named ks (new_key (kind_of_content c) n)) (next_placed x k (g k)) ∙ p.1)
    ∙ ap (λ (y : TableValue). changed y g ks) (added_placed x k (g k) c p.0)

pub all_added_changed : (x : TableValue) (g : Key → Option Entry) (ks : List Key) (cs : List Content) → ((k : Kind) (m : ℕ) → x.next ≤ m → is_named ks (new_key k m) ≡ false) → all_added (changed x g ks) cs ≡ changed (all_added x cs) g ks
all_added_changed x g ks [] out = refl
all_added_changed x g ks (c ∷ cs) out =
    ap (λ (y : TableValue). all_added y cs) (added_changed x g ks c (out (kind_of_content c) x.next (omega arith)))
    ∙ all_added_changed (added x c) g ks cs (λ k m low. out k m (omega arith))

-- what was there is there with new objects too
pub refer_on : (t : TableValue) (new cs : List Content) → AllByRecursion (RefersIn t) cs → AllByRecursion (RefersIn (all_added t new)) cs
refer_on t new [] h = tt
refer_on t new (c ∷ cs) h = ((λ r u. there_all t new r (h.0 r u)), refer_on t new cs h.1)

-- a way's references are there where each of its nodes is
node_case : (t : TableValue) (r : Key) (n : ℤ) (b rest : Bool) → is_key r (node n) ≡ b → (b || rest) ≡ true → IsThere (entry_of t (node n)) → (rest ≡ true → IsThere (entry_of t r)) → IsThere (entry_of t r)
node_case t r n true rest is e here there = subst (λ (k : Key). IsThere (entry_of t k)) (sym (one_key r (node n) is)) here
node_case t r n false rest is e here there = there e

pub nodes_there : (t : TableValue) (tags : List Pair) (ids : List ℤ) → AllByRecursion (λ n. IsThere (entry_of t (node n))) ids → RefersIn t (content.Way tags ids)
nodes_there t tags [] h r e = let f : false ≡ true = e in cc
nodes_there t tags (n ∷ ns) h r e = node_case t r n (is_key r (node n)) (list_any (is_key r) (map node ns)) refl e h.0 (nodes_there t tags ns h.1 r)

pub there_nodes : (t : TableValue) (tags : List Pair) (ids : List ℤ) → RefersIn t (content.Way tags ids) → AllByRecursion (λ n. IsThere (entry_of t (node n))) ids
there_nodes t tags [] h = tt
there_nodes t tags (n ∷ ns) h = (h (node n) (or_left (is_key (node n) (node n)) _ (key_itself (node n))), there_nodes t tags ns (λ r e. h r (or_right (is_key r (node n)) _ e)))

pub ways_refer : (t : TableValue) (tags : List Pair) (ps : List (Key × List ℤ)) → AllByRecursion (λ (p : Key × List ℤ). AllByRecursion (λ n. IsThere (entry_of t (node n))) p.1) ps → AllByRecursion (RefersIn t) (ways_of tags ps)
ways_refer t tags [] h = tt
ways_refer t tags (p ∷ ps) h = (nodes_there t tags p.1 h.0, ways_refer t tags ps h.1)
