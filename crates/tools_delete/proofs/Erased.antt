-- What an erased table has at a key, and that the draft makes just that table.
use Rattle.std.proofs.Common.{◌≡◌, ◌&&◌, ◌||◌, Bool, true, false, cond, not, is_some, List, filter, Option, Some, None, refl, sym, ap, ◌∙◌}
use Rattle.std.proofs.Math.Bool.{and_comm, and-true}
use Rattle.std.specs.List.{list_all, list_any}
use Rattle.std.specs.Option.{option_map, option_map_or, option_and_then}
use Rattle.std.specs.FinMap as fin
use Rattle.osm_base.proofs.RisingKeys.{in_filter}
use Rattle.osm_base.specs.Tags.{Pair}
use Rattle.osm_base.specs.declared.key.Key.{Key}
use Rattle.osm_base.specs.declared.members.Member.{Member}
use Rattle.osm_base.specs.declared.content.Content.{Content}
use Rattle.osm_base.specs.declared.content.Content.TheVariants as content
use Rattle.osm_table.specs.declared.entry.Base.{Base}
use Rattle.osm_table.specs.declared.entry.Conflict.{Conflict}
use Rattle.osm_table.specs.declared.entry.Entry.{Entry}
use Rattle.osm_table.specs.declared.entry.Entry.TheVariants.{Incomplete, Known}
use Rattle.osm_table.specs.Table.{TableValue, entry_of, mine_of, users, keys_by_rank}
use Rattle.osm_table.proofs.Each.{same_table}
use Rattle.tool_api.specs.Checks.{is_named}
use Rattle.tool_api.specs.Changes.{changed, content_of, delete, deleted, edit, with_mine}
use Rattle.tool_api.specs.Basic.{with_members, with_refs}
use Rattle.tool_api.specs.Gone.{erased, falls, goes, gone_keys, is_bare, is_mended, is_mended_content, is_relation, members_without, mended, mended_ways, relations_left}
use Rattle.tool_api.proofs.Looks.{entry_changed, next_changed}
use Rattle.tools_delete.specs.Touched.{erased_with, falls_short, has_gone, is_left_by, lives_as_relation, lives_as_way, loses_members}
use Rattle.tools_delete.proofs.Anys.{whole}
use Rattle.tools_delete.proofs.Deletes.{either, left_from}

-- an entry that goes, is mended, or loses members
abbrev pub touched : Bool → Bool → Bool → (Content → Content) → (Content → Content) → Option Entry → Option Entry
touched going mending losing f g o = cond losing (option_map (with_mine g) o) (cond mending (option_map (with_mine f) o) (cond going (option_and_then deleted o) o))

-- three changes one after the other
entry_touched : (t : TableValue) (f g : Content → Content) (going mending losing : List Key) (q : Key)
    → entry_of (changed (changed (changed t (delete t) going) (edit t f) mending) (edit t g) losing) q ≡ touched (is_named going q) (is_named mending q) (is_named losing q) f g (entry_of t q)
entry_touched t f g going mending losing q =
    entry_changed (changed (changed t (delete t) going) (edit t f) mending) (edit t g) losing q
    ∙ ap (cond (is_named losing q) (edit t g q)) (entry_changed (changed t (delete t) going) (edit t f) mending q ∙ ap (cond (is_named mending q) (edit t f q)) (entry_changed t (delete t) going q))

next_touched : (t : TableValue) (f g : Content → Content) (going mending losing : List Key)
    → (changed (changed (changed t (delete t) going) (edit t f) mending) (edit t g) losing).next ≡ t.next
next_touched t f g going mending losing =
    next_changed (changed (changed t (delete t) going) (edit t f) mending) (edit t g) losing ∙ next_changed (changed t (delete t) going) (edit t f) mending ∙ next_changed t (delete t) going

-- what isn't there stays so
none_either : (b : Bool) → ◌≡◌ {A = Option Entry} (cond b None None) None
none_either true = refl
none_either false = refl

none_touched : (going mending losing : Bool) (f g : Content → Content) → touched going mending losing f g None ≡ None
none_touched going mending losing f g = (λ i. cond losing None (cond mending None (none_either going i))) ∙ (λ i. cond losing None (none_either mending i)) ∙ none_either losing

only_there : (going mending losing : Bool) (f g : Content → Content) (o : Option Entry)
    → touched (going && is_some o) (mending && is_some o) (losing && is_some o) f g o ≡ touched going mending losing f g o
only_there going mending losing f g None = none_touched (going && false) (mending && false) (losing && false) f g ∙ sym (none_touched going mending losing f g)
only_there going mending losing f g (Some e) = λ i. touched (and-true going i) (and-true mending i) (and-true losing i) f g (Some e)

-- a key that passes a test is among the table's keys that pass it, where it is there
among : (t : TableValue) (p : Key → Bool) (q : Key) → is_named (filter p (keys_by_rank t)) q ≡ (p q && is_some (entry_of t q))
among t p q = in_filter p q (keys_by_rank t) ∙ ap (λ b. p q && b) (sym (fin.contains_key-keys t.entries q))

-- the rules of erasing at one key
abbrev pub mends : TableValue → List Key → Key → Bool
mends t named q = is_mended t named q && not (falls t named q)

abbrev pub stays_related : TableValue → List Key → Key → Bool
stays_related t named q = not (falls t named q) && lives_as_relation t q

abbrev pub loss : TableValue → List Key → Content → Content
loss t named = with_members (members_without (goes t named))

pub entry_erased : (t : TableValue) (named : List Key) (q : Key) → entry_of (erased t named) q ≡ touched (goes t named q) (mends t named q) (stays_related t named q) (with_refs (mended named)) (loss t named) (entry_of t q)
entry_erased t named q =
    entry_touched t (with_refs (mended named)) (loss t named) (gone_keys t named) (mended_ways t named) (relations_left t named) q
    ∙ (let a = among t (goes t named) q in let b = among t (mends t named) q in let c = among t (stays_related t named) q in λ i. touched (a i) (b i) (c i) (with_refs (mended named)) (loss t named) (entry_of t q))
    ∙ only_there (goes t named q) (mends t named q) (stays_related t named q) (with_refs (mended named)) (loss t named) (entry_of t q)

pub next_erased : (t : TableValue) (named : List Key) → (erased t named).next ≡ t.next
next_erased t named = next_touched t (with_refs (mended named)) (loss t named) (gone_keys t named) (mended_ways t named) (relations_left t named)

-- what an erased entry comes from: one of a relation that stays, of a mended way, of an object that goes, or another
pub data After (t : TableValue) (named : List Key) (k : Key) (e : Entry) : Type 0 where
  related : (x : Entry) → entry_of t k ≡ Some x → with_mine (loss t named) x ≡ e → stays_related t named k ≡ true → After t named k e
  remade : (x : Entry) → entry_of t k ≡ Some x → with_mine (with_refs (mended named)) x ≡ e → mends t named k ≡ true → After t named k e
  left : (x : Entry) → entry_of t k ≡ Some x → deleted x ≡ Some e → goes t named k ≡ true → After t named k e
  untouched : entry_of t k ≡ Some e → stays_related t named k ≡ false → mends t named k ≡ false → goes t named k ≡ false → After t named k e

edited_from : (P : Type 0) (f : Content → Content) (e : Entry) (o : Option Entry) → option_map (with_mine f) o ≡ Some e → ((x : Entry) → o ≡ Some x → with_mine f x ≡ e → P) → P
edited_from P f e None has h = cc
edited_from P f e (Some x) has h = h x refl cc

pub after : (t : TableValue) (named : List Key) (k : Key) (e : Entry) → entry_of (erased t named) k ≡ Some e → After t named k e
after t named k e has =
    let o = entry_of t k in
    let f = with_refs (mended named) in
    either _ (stays_related t named k) (option_map (with_mine (loss t named)) o) (cond (mends t named k) (option_map (with_mine f) o) (cond (goes t named k) (option_and_then deleted o) o)) e (sym (entry_erased t named k) ∙ has)
    (λ is new. edited_from _ (loss t named) e o new (λ x old same. related x old same is))
    (λ unrelated rest. either _ (mends t named k) (option_map (with_mine f) o) (cond (goes t named k) (option_and_then deleted o) o) e rest
    (λ is new. edited_from _ f e o new (λ x old same. remade x old same is))
    (λ unmended rest. either _ (goes t named k) (option_and_then deleted o) o e rest
    (λ is new. left_from _ e o new (λ x old same. left x old same is))
    (λ stays old. untouched old unrelated unmended stays)))

-- The draft touches only relations that lose a member: the others stay as they are.

relation_case : (going : List Key) (base : Base) (tags : List Pair) (members : List Member) (conflict : Option Conflict) (has : Bool) → list_any (λ (m : Member). is_named going m.key) members ≡ has
    → let old = Known base (Some (content.Relation tags members)) conflict in
    let new = with_mine (with_members (members_without (is_named going))) old in
    cond has (Some new) (Some old) ≡ Some new
relation_case going base tags members conflict true is = refl
relation_case going base tags members conflict false is = sym (ap (λ (ms : List Member). Some (Known base (Some (content.Relation tags ms)) conflict)) (whole (λ (m : Member). is_named going m.key) members is))

-- an entry by itself, given whether its key is named and falls, whether a way that falls has it, and whether all its users fall
fewer_case : (named going : List Key) (f : Content → Content) (named_q falls_q of_way alone : Bool) (o : Option Entry)
    → let goes_q = falls_q || (is_bare o && of_way && alone) in
    let mends_q = (not named_q && option_map_or (is_mended_content named) (option_and_then mine_of o) false) && not falls_q in
    touched goes_q mends_q (not falls_q && option_map_or (has_gone going) (option_and_then mine_of o) false) f (with_members (members_without (is_named going))) o
    ≡ touched goes_q mends_q (not falls_q && option_map_or is_relation (option_and_then mine_of o) false) f (with_members (members_without (is_named going))) o
fewer_case named going f named_q falls_q of_way alone None = refl
fewer_case named going f named_q falls_q of_way alone (Some Incomplete) = refl
fewer_case named going f named_q falls_q of_way alone (Some (Known base None conflict)) = refl
fewer_case named going f named_q falls_q of_way alone (Some (Known base (Some (content.Node tags at)) conflict)) = refl
fewer_case named going f named_q falls_q of_way alone (Some (Known base (Some (content.Way tags refs)) conflict)) = refl
fewer_case named going f named_q true of_way alone (Some (Known base (Some (content.Relation tags members)) conflict)) = refl
fewer_case named going f true false of_way alone (Some (Known base (Some (content.Relation tags members)) conflict)) = relation_case going base tags members conflict _ refl
fewer_case named going f false false of_way alone (Some (Known base (Some (content.Relation tags members)) conflict)) = relation_case going base tags members conflict _ refl

fewer : (t : TableValue) (named going : List Key) (f : Content → Content) (q : Key)
    → touched (goes t named q) (mends t named q) (not (falls t named q) && option_map_or (has_gone going) (content_of t q) false) f (with_members (members_without (is_named going))) (entry_of t q)
    ≡ touched (goes t named q) (mends t named q) (stays_related t named q) f (with_members (members_without (is_named going))) (entry_of t q)
fewer t named going f q = fewer_case named going f (is_named named q) (falls t named q) (list_any (λ u. falls t named u && lives_as_way t u) (users t q)) (list_all (falls t named) (users t q)) (entry_of t q)

-- The sets that the index gives make the erased table.
pub erased_by : (t : TableValue) (named ways falling going relations staying : List Key)
    → ((q : Key) → is_named ways q ≡ is_mended t named q)
    → ((q : Key) → is_named falling q ≡ (is_named named q || (falls_short t named q && is_named ways q)))
    → ((q : Key) → is_named going q ≡ (is_named falling q || is_left_by t falling q))
    → ((q : Key) → is_named relations q ≡ loses_members t falling going q)
    → staying ≡ filter (λ w. not (is_named falling w)) ways
    → erased_with t named going staying relations ≡ erased t named
erased_by t named ways falling going relations staying mending fallen gone losing kept =
    let f = with_refs (mended named) in
    let g = with_members (members_without (is_named going)) in
    let falls_at : (q : Key) → is_named falling q ≡ falls t named q = λ q. fallen q ∙ ap (λ b. is_named named q || b) (and_comm (falls_short t named q) (is_named ways q) ∙ ap (λ b. b && falls_short t named q) (mending q)) in
    let goes_at : (q : Key) → is_named going q ≡ goes t named q =
    λ q. gone q ∙ (λ i. falls_at q i || (is_bare (entry_of t q) && list_any (λ u. falls_at u i && lives_as_way t u) (users t q) && list_all (λ u. falls_at u i) (users t q))) in
    let mends_at : (q : Key) → is_named staying q ≡ mends t named q =
    λ q. ap (λ ks. is_named ks q) kept ∙ in_filter (λ w. not (is_named falling w)) q ways ∙ (λ i. not (falls_at q i) && mending q i) ∙ and_comm (not (falls t named q)) (is_mended t named q) in
    let loses_at : (q : Key) → is_named relations q ≡ (not (falls t named q) && option_map_or (has_gone going) (content_of t q) false) =
    λ q. losing q ∙ (λ i. not (falls_at q i) && option_map_or (has_gone going) (content_of t q) false) in
    same_table _ _
    (λ q. entry_touched t f g going staying relations q
    ∙ (λ i. touched (goes_at q i) (mends_at q i) (loses_at q i) f g (entry_of t q))
    ∙ fewer t named going f q
    ∙ (λ i. touched (goes t named q) (mends t named q) (stays_related t named q) f (with_members (members_without (λ k. goes_at k i))) (entry_of t q))
    ∙ sym (entry_erased t named q))
    (next_touched t f g going staying relations ∙ sym (next_erased t named))
