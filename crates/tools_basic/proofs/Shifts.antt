-- A move keeps the table sound, and ends as the definition says.
use Rattle.std.proofs.Common.{◌≡◌, ℕ, ℤ, true, List, Some, None, refl, sym, ap, ◌∙◌, subst}
use mathlib.Core.Logic.{inl}
use Rattle.osm_base.specs.Content.{refers, kind_of_content}
use Rattle.osm_base.specs.declared.coord.Coord.{Coord}
use Rattle.osm_base.specs.declared.key.Key.{Key}
use Rattle.osm_base.specs.declared.content.Content.{Content}
use Rattle.osm_base.specs.declared.content.Content.TheVariants.{Node, Way, Relation}
use Rattle.osm_table.specs.declared.entry.Entry.{Entry}
use Rattle.osm_table.specs.declared.entry.Entry.TheVariants.{Incomplete, Known}
use Rattle.osm_table.specs.Table.{TableValue, entry_of, IsThere}
use Rattle.dataset.specs.Sound.{IsSound}
use Rattle.tool_api.specs.declared.kinds.Kinds.TheVariants.{NodesAndWays}
use Rattle.tool_api.specs.Basic.{shift, moved, moved_nodes, move_entry_test, with_place}
use Rattle.tool_api.specs.Changes.{changed, edit, done}
use Rattle.tool_api.specs.Closing.{closing, closing_tests}
use Rattle.tool_api.specs.Checks.{first_of, is_named, list_tests}
use Rattle.tool_api.proofs.Passed.{Lives, lives, passes}
use Rattle.tool_api.proofs.Sounds.{edit_sound}
use Rattle.tools_basic.proofs.Moved.{moved_there}

place_kind : (f : Coord → Coord) (c : Content) → kind_of_content (with_place f c) ≡ kind_of_content c
place_kind f (Node tags at) = refl
place_kind f (Way tags refs) = refl
place_kind f (Relation tags members) = refl

place_refs : (f : Coord → Coord) (c : Content) (r : Key) → refers (with_place f c) r ≡ refers c r
place_refs f (Node tags at) r = refl
place_refs f (Way tags refs) r = refl
place_refs f (Relation tags members) r = refl

-- what is there and passed its test lives without conflict
move_lives : (dx dy : ℤ) (k : Key) (e : Entry) → IsThere (Some e) → move_entry_test dx dy k (Some e) ≡ None → Lives e
move_lives dx dy k Incomplete there passed = cc
move_lives dx dy k (Known base None conflict) there passed = let never = there in cc
move_lives dx dy k (Known base (Some c) None) there passed = lives base c
move_lives dx dy k (Known base (Some (Node tags at)) (Some conflict)) there passed = cc
move_lives dx dy k (Known base (Some (Way tags refs)) (Some conflict)) there passed = cc
move_lives dx dy k (Known base (Some (Relation tags members)) (Some conflict)) there passed = cc

moved_lives : (t : TableValue) (keys : List Key) (dx dy : ℤ) → IsSound t → list_tests t NodesAndWays keys ≡ None → first_of (λ n. move_entry_test dx dy n (entry_of t n)) (moved_nodes t keys) ≡ None
    → (k : Key) (e : Entry) → is_named (moved_nodes t keys) k ≡ true → entry_of t k ≡ Some e → Lives e
moved_lives t keys dx dy s passed movable k e named is =
    move_lives dx dy k e (subst IsThere is (moved_there t keys k s passed named))
    (ap (move_entry_test dx dy k) (sym is) ∙ passes (λ n. move_entry_test dx dy n (entry_of t n)) (moved_nodes t keys) k movable named)

-- the table of a move of nodes
abbrev pub with_moved : TableValue → ℤ → ℤ → List Key → TableValue
with_moved t dx dy nodes = changed t (edit t (with_place (moved dx dy))) nodes

pub shift_sound : (t : TableValue) (ks nodes : List Key) (dx dy : ℤ) (limit : ℕ) → list_tests t NodesAndWays ks ≡ None → nodes ≡ moved_nodes t ks → IsSound t
    → first_of (λ n. move_entry_test dx dy n (entry_of t n)) nodes ≡ None → closing_tests t limit ks (with_moved t dx dy nodes) ≡ None → IsSound (with_moved t dx dy nodes)
shift_sound t ks nodes dx dy limit passed are s =
    subst (λ ns. first_of (λ n. move_entry_test dx dy n (entry_of t n)) ns ≡ None → closing_tests t limit ks (with_moved t dx dy ns) ≡ None → IsSound (with_moved t dx dy ns)) (sym are)
    (λ movable closed. edit_sound t (with_place (moved dx dy)) (moved_nodes t ks) limit ks (place_kind (moved dx dy)) (λ c r used. inl (sym (place_refs (moved dx dy) c r) ∙ used))
    (moved_lives t ks dx dy s passed movable) s closed)

pub shift_ends : (t : TableValue) (ks nodes : List Key) (dx dy : ℤ) (limit : ℕ) → list_tests t NodesAndWays ks ≡ None → nodes ≡ moved_nodes t ks
    → first_of (λ n. move_entry_test dx dy n (entry_of t n)) nodes ≡ None → closing t limit ks (done (with_moved t dx dy nodes)) ≡ shift t limit ks dx dy
shift_ends t ks nodes dx dy limit passed are =
    subst (λ ns. first_of (λ n. move_entry_test dx dy n (entry_of t n)) ns ≡ None → closing t limit ks (done (with_moved t dx dy ns)) ≡ shift t limit ks dx dy) (sym are) (λ movable. rw (passed, movable) refl)
