-- How a draft takes an answer.
use Rattle.std.specs.Prelude.{◌≡◌, ℕ, ◌+◌, ℤ, List, [], ◌∷◌, Option, Some, None, Result, Ok, IfOk}
use Rattle.std.specs.Option.{option_map, unwrap_or}
use Rattle.osm_base.specs.Meta.{empty_meta}
use Rattle.osm_base.specs.declared.key.Key.{Key}
use Rattle.osm_base.specs.declared.content.Content.{Content}
use Rattle.osm_table.specs.declared.entry.Base.TheVariants.{Live, Gone}
use Rattle.osm_table.specs.declared.entry.Entry.{Entry}
use Rattle.osm_table.specs.declared.entry.Entry.TheVariants.{Incomplete, Known}
use Rattle.osm_table.specs.Table.{TableValue, entry_of, with_entry, without_entry, users}
use Rattle.dataset.specs.Draft.{DraftValue, drafted}
use Rattle.dataset.specs.Exact.{mine_at}
use Rattle.upload_order.specs.declared.change.Change.{Change}
use Rattle.upload_order.specs.Plan.{empty_relation}
use Rattle.upload_order.specs.Rename.{with_id}
use Rattle.renamed_content.specs.Renamed.{renamed}
use Rattle.placeholder.specs.declared.answer.Answer.{Answer}
use Rattle.placeholder.specs.declared.answer.Answer.TheVariants as answer
use Rattle.placeholder.specs.declared.fault.ConfirmFault.{ConfirmFault}
use Rattle.placeholder.specs.Confirm.{taken_at, and_then, first_change, other_changes}
use Rattle.placeholder.specs.Confirmed.{moved, made_entry, based_on}

-- where memory is found, this is the result
abbrev pub Gives : {X E : Type 0} → Result X E → X → Type 0
Gives result x = IfOk result (λ y. y ≡ x)

-- where memory is found, the draft makes u of the table t
abbrev pub DraftsTable : {E : Type 0} → TableValue → Result DraftValue E → TableValue → Type 0
DraftsTable t result u = IfOk result (λ d. drafted d t ≡ u)

-- what the draft has at a key
abbrev pub drafted_entry : DraftValue → TableValue → Key → Option Entry
drafted_entry d t k = entry_of (drafted d t) k

-- the user's content there
abbrev pub drafted_mine : DraftValue → TableValue → Key → Option Content
drafted_mine d t k = mine_at (drafted_entry d t k)

-- an entry with other references in what the user has
abbrev pub with_mine : (Key → Key) → Entry → Entry
with_mine f Incomplete = Incomplete
with_mine f (Known base mine conflict) = Known base (option_map (renamed f) mine) conflict

abbrev pub mine_moved_at : (Key → Key) → TableValue → Key → Option Entry → TableValue
mine_moved_at f t k None = t
mine_moved_at f t k (Some e) = with_entry t k (with_mine f e)

-- the table with other references in what the user has at the key
abbrev pub mine_moved : (Key → Key) → TableValue → Key → TableValue
mine_moved f t k = mine_moved_at f t k (entry_of t k)

-- the same of each of some keys
abbrev pub all_moved : (Key → Key) → TableValue → List Key → TableValue
all_moved f t [] = t
all_moved f t (k ∷ ks) = all_moved f (mine_moved f t k) ks

abbrev pub made_from : TableValue → Key → ℤ → List Key → Option Content → TableValue
made_from t k id us None = t
made_from t k id us (Some c) = with_entry (without_entry (all_moved (moved k id) t us) k) (with_id k id) (made_entry (renamed (moved k id) c))

-- The table u after the placeholder's object got the id, where t is the table before all: only its users in t are renamed.
abbrev pub made : TableValue → TableValue → Key → ℤ → TableValue
made t u placeholder id = made_from u placeholder id (users t placeholder) (mine_at (entry_of u placeholder))

-- what a Modify brought there
abbrev pub sent_content : Option Content → Content
sent_content mine = unwrap_or mine empty_relation

-- the object of u stands on what was sent, in the version
abbrev pub changed : TableValue → Key → ℕ → TableValue
changed u k version = with_entry u k (based_on (Live version (sent_content (mine_at (entry_of u k))) empty_meta) (entry_of u k))

-- the object of u stands on its end, in the version
abbrev pub deleted : TableValue → Key → ℕ → TableValue
deleted u k version = with_entry u k (based_on (Gone version empty_meta) (entry_of u k))

-- the table u after one more answer, where t is the table before all
abbrev pub answered_by : TableValue → TableValue → Answer → TableValue
answered_by t u (answer.Create placeholder id) = made t u placeholder id
answered_by t u (answer.Modify k version) = changed u k version
answered_by t u (answer.Delete k version) = deleted u k version

-- The table u after the answer with the number n, where t is the table before all, or why the answer isn't taken.
abbrev pub after_answer : TableValue → ℕ → TableValue → Option Change → Answer → Result TableValue ConfirmFault
after_answer t n u c a = taken_at n u c a (answered_by t u a)

-- one answer after the other; they are numbered from n
abbrev pub drafts_from : TableValue → ℕ → TableValue → List Change → List Answer → Result TableValue ConfirmFault
drafts_from t n u cs [] = Ok u
drafts_from t n u cs (a ∷ more) = and_then (after_answer t n u (first_change cs) a) (λ v. drafts_from t (n + 1) v (other_changes cs) more)
