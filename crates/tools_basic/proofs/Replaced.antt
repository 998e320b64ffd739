-- A table with a node at another place, a way with other nodes, or a relation with other members is sound.
use Rattle.std.proofs.Common.{◌≡◌, ℕ, ℤ, true, List, [], ◌∷◌, map, Option, Some, None, refl, ap}
use mathlib.Core.Logic.{◌⊎◌, inl, inr}
use Rattle.std.specs.Option.{option_or}
use Rattle.osm_base.specs.Content.{kind_of_content, refers, node}
use Rattle.osm_base.specs.declared.key.Key.{Key}
use Rattle.osm_base.specs.declared.coord.Coord.{Coord}
use Rattle.osm_base.specs.declared.members.Member.{Member}
use Rattle.osm_base.specs.declared.content.Content.{Content}
use Rattle.osm_base.specs.declared.content.Content.TheVariants as content
use Rattle.osm_table.specs.Table.{TableValue, entry_of, IsThere}
use Rattle.osm_table.specs.declared.entry.Entry.{Entry}
use Rattle.dataset.specs.Sound.{IsSound}
use Rattle.tool_api.specs.declared.kinds.Kinds.{Kinds}
use Rattle.tool_api.specs.declared.kinds.Kinds.TheVariants.{Nodes, Ways, Relations}
use Rattle.tool_api.specs.declared.refusal.Refusal.{Refusal}
use Rattle.tool_api.specs.Checks.{is_named, target_test, ref_tests}
use Rattle.tool_api.specs.Changes.{changed, edit}
use Rattle.tool_api.specs.Closing.{closing_tests}
use Rattle.tool_api.specs.Basic.{with_place, with_refs, with_members}
use Rattle.tool_api.proofs.Passed.{Lives, named_lives, refs_there}
use Rattle.tool_api.proofs.Sounds.{edit_sound}

-- one object that passed the target tests lives without conflict
one_lives : (t : TableValue) (kinds : Kinds) (key : Key) → target_test t kinds key ≡ None → (k : Key) (e : Entry) → is_named (key ∷ []) k ≡ true → entry_of t k ≡ Some e → Lives e
one_lives t kinds key passed k e = named_lives t kinds (key ∷ []) k e (ap (λ (o : Option Refusal). option_or o None) passed)

-- a place

kind_placed : (at : Coord) (c : Content) → kind_of_content (with_place (λ _. at) c) ≡ kind_of_content c
kind_placed at (content.Node tags old) = refl
kind_placed at (content.Way tags refs) = refl
kind_placed at (content.Relation tags members) = refl

refs_placed : (t : TableValue) (at : Coord) (c : Content) (r : Key) → refers (with_place (λ _. at) c) r ≡ true → (refers c r ≡ true) ⊎ IsThere (entry_of t r)
refs_placed t at (content.Node tags old) r h = inl h
refs_placed t at (content.Way tags refs) r h = inl h
refs_placed t at (content.Relation tags members) r h = inl h

pub place_sound : (t : TableValue) (key : Key) (at : Coord) (limit : ℕ) → IsSound t → target_test t Nodes key ≡ None
    → closing_tests t limit (key ∷ []) (changed t (edit t (with_place (λ _. at))) (key ∷ [])) ≡ None → IsSound (changed t (edit t (with_place (λ _. at))) (key ∷ []))
place_sound t key at limit s passed closed = edit_sound t (with_place (λ _. at)) (key ∷ []) limit (key ∷ []) (kind_placed at) (refs_placed t at) (one_lives t Nodes key passed) s closed

-- nodes

kind_noded : (refs : List ℤ) (c : Content) → kind_of_content (with_refs (λ _. refs) c) ≡ kind_of_content c
kind_noded refs (content.Node tags at) = refl
kind_noded refs (content.Way tags old) = refl
kind_noded refs (content.Relation tags members) = refl

refs_noded : (t : TableValue) (refs : List ℤ) → ref_tests t (map node refs) ≡ None → (c : Content) (r : Key) → refers (with_refs (λ _. refs) c) r ≡ true → (refers c r ≡ true) ⊎ IsThere (entry_of t r)
refs_noded t refs there (content.Node tags at) r h = inl h
refs_noded t refs there (content.Way tags old) r h = inr (refs_there t (map node refs) r there h)
refs_noded t refs there (content.Relation tags members) r h = inl h

pub nodes_sound : (t : TableValue) (key : Key) (refs : List ℤ) (limit : ℕ) → IsSound t → target_test t Ways key ≡ None → ref_tests t (map node refs) ≡ None
    → closing_tests t limit (key ∷ []) (changed t (edit t (with_refs (λ _. refs))) (key ∷ [])) ≡ None → IsSound (changed t (edit t (with_refs (λ _. refs))) (key ∷ []))
nodes_sound t key refs limit s passed there closed = edit_sound t (with_refs (λ _. refs)) (key ∷ []) limit (key ∷ []) (kind_noded refs) (refs_noded t refs there) (one_lives t Ways key passed) s closed

-- members

kind_joined : (members : List Member) (c : Content) → kind_of_content (with_members (λ _. members) c) ≡ kind_of_content c
kind_joined members (content.Node tags at) = refl
kind_joined members (content.Way tags refs) = refl
kind_joined members (content.Relation tags old) = refl

refs_joined : (t : TableValue) (members : List Member) → ref_tests t (map (λ (m : Member). m.key) members) ≡ None → (c : Content) (r : Key) → refers (with_members (λ _. members) c) r ≡ true → (refers c r ≡ true) ⊎ IsThere (entry_of t r)
refs_joined t members there (content.Node tags at) r h = inl h
refs_joined t members there (content.Way tags refs) r h = inl h
refs_joined t members there (content.Relation tags old) r h = inr (refs_there t (map (λ (m : Member). m.key) members) r there h)

pub members_sound : (t : TableValue) (key : Key) (members : List Member) (limit : ℕ) → IsSound t → target_test t Relations key ≡ None → ref_tests t (map (λ (m : Member). m.key) members) ≡ None
    → closing_tests t limit (key ∷ []) (changed t (edit t (with_members (λ _. members))) (key ∷ [])) ≡ None → IsSound (changed t (edit t (with_members (λ _. members))) (key ∷ []))
members_sound t key members limit s passed there closed =
    edit_sound t (with_members (λ _. members)) (key ∷ []) limit (key ∷ []) (kind_joined members) (refs_joined t members there) (one_lives t Relations key passed) s closed
