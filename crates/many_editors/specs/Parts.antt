-- The parts of an act of a meeting: what each asks of the n-th editor, and what comes of it.
use Rattle.std.specs.Prelude.{◌≡◌, ◌<◌, ℕ, List, [], length, get_or, slice_get, Option, Some, None}
use Rattle.osm_base.specs.Tags.{Pair}
use Rattle.osm_base.specs.declared.area.Area.{Area}
use Rattle.tool_api.specs.declared.verb.Verb.{Verb}
use Rattle.edit_history.specs.declared.counts.Group.TheVariants.{Outside}
use Rattle.upload_order.specs.declared.change.Change.{Change}
use Rattle.upload_order.specs.Refused.{upload}
use Rattle.many_editors.specs.Acts.{Met, changes_met, fetch_met, met_at, send_met}
use Rattle.many_editors.specs.Asked.{MayMerge}
use Rattle.many_editors.specs.Meeting.{Editor, Meeting, states}

-- a fetch of an editor at work
abbrev pub fetched : ℕ → ℕ → ℕ → Option Area → Option (List Pair) → Meeting → Met
fetched limit n back area wanted m = met_at n (λ e. fetch_met limit n area wanted e.state (slice_get (states m) back)) m

-- a send of one
abbrev pub sent_at : ℕ → ℕ → Meeting → Met
sent_at n count m = met_at n (λ e. send_met n count e.state (upload e.state.now)) m

-- of changes of which none is of an object in the last version
abbrev pub changes_at : ℕ → List Change → Meeting → Met
changes_at n changes m = met_at n (λ e. changes_met n changes e.state None) m

-- What is asked of the n-th editor.
pub record IsAt (n : ℕ) (asks : Editor → List Verb → Type 0) (m : Meeting) (verbs : List (List Verb)) : Type 0 where
  pub there : n < length m.editors
  pub asked : (e : Editor) → slice_get m.editors n ≡ Some e → asks e (get_or verbs n [])

-- one at work that may merge
pub record MayFetch (e : Editor) (verbs : List Verb) : Type 0 where
  pub work : e.waits ≡ None
  pub merge : MayMerge e.state verbs

-- one at work without a group
pub record MaySend (e : Editor) (verbs : List Verb) : Type 0 where
  pub work : e.waits ≡ None
  pub outside : e.state.group ≡ Outside
