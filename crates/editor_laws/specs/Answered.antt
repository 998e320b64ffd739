-- What the answers of a server keep of what was edited.
--
-- For example n-1 was made and w5 Nn-1,n2 changed, and the answer is that n-1 got the id 50. Then n50 has the content that n-1 had,
-- and of w5 the same is wanted as before, with n50 in place of n-1.
use Rattle.std.specs.Prelude.{◌≡◌, ℤ, Bool, List, [], ◌∷◌, Option, Some, None, true, false}
use Rattle.std.specs.Option.{option_map}
use Rattle.osm_base.specs.declared.key.Key.{Key}
use Rattle.osm_table.specs.declared.entry.Entry.{Entry}
use Rattle.osm_table.specs.declared.told.Told.{Told}
use Rattle.osm_table.specs.Table.{TableValue, entry_of}
use Rattle.renamed_content.specs.Renamed.{renamed}
use Rattle.upload_order.specs.declared.change.Change.{Change}
use Rattle.upload_order.specs.declared.change.Change.TheVariants.{Create, Modify, Delete}
use Rattle.upload_order.specs.Rename.{Names, called}
use Rattle.upload_order.specs.Run.{pick_for, picks_left}
use Rattle.placeholder.specs.declared.answer.Answer.{Answer}
use Rattle.placeholder.specs.declared.answer.Answer.TheVariants as answer
use Rattle.placeholder.specs.Confirmed.{confirmed, moved, moved_change, named_by}
use Rattle.editor_laws.specs.Kept.{wish, is_edited, IsWished, Keeps}

-- what a key is called after the answer to a change: the placeholder of an object that was made has the id that it got
abbrev pub called_then : Change → ℤ → Key → Key
called_then (Create k c) id r = moved k id r
called_then (Modify k version c) id r = r
called_then (Delete k version) id r = r

-- Of each edited object the same is wanted after the answer, under what it and its references are called then.
abbrev pub AnswerKeeps : TableValue → Change → ℤ → Type 0
AnswerKeeps t c id =
    (k : Key) (e : Entry) → entry_of t k ≡ Some e → is_edited e ≡ true
    → IsWished (option_map (renamed (called_then c id)) (wish (Some e))) (entry_of (confirmed t c id) (called_then c id k))

-- Each of the answers meets a condition with the table before it and its change, in whose references are the ids of earlier ones.
abbrev pub EachAnswer : (TableValue → Change → ℤ → Type 0) → Names → TableValue → List Change → List ℤ → Type 0
EachAnswer P names t [] ids = Unit {0}
EachAnswer P names t (c ∷ cs) ids =
    let id = pick_for c ids in
    let sent = moved_change (called names) c in
    P t sent id × EachAnswer P (named_by c id names) (confirmed t sent id) cs (picks_left c ids)

-- What was made is called by its id after the answers. Names that are there already are kept behind these.
abbrev pub names_told : Names → List Answer → Names
names_told names [] = names
names_told names (answer.Create placeholder id ∷ more) = names_told ((placeholder, id) ∷ names) more
names_told names (other ∷ more) = names_told names more

-- All that is edited in the first table is there in the second, under what it is called then, and the same is wanted of it, under
-- what its references are called then.
abbrev pub KeepsAllCalled : Names → TableValue → TableValue → Type 0
KeepsAllCalled names t u =
    (k : Key) (e : Entry) → entry_of t k ≡ Some e → is_edited e ≡ true
    → IsWished (option_map (renamed (called names)) (wish (Some e))) (entry_of u (called names k))

-- All that is edited in the first table is kept in the second: where answers came, under what they call it, and else, where this is
-- told between, all of which it isn't said that it is changed or forgotten.
abbrev pub KeepsAllBut : Option (List Answer) → (Key → Bool) → (Key → Option Told) → TableValue → TableValue → Type 0
KeepsAllBut None is_said told t u = (k : Key) (e : Entry) → entry_of t k ≡ Some e → is_edited e ≡ true → is_said k ≡ false → Keeps (told k) e (entry_of u k)
KeepsAllBut (Some answers) is_said told t u = KeepsAllCalled (names_told [] answers) t u
