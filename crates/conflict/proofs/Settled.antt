-- What the table has in which an object is settled, and the draft that makes it.
use Rattle.std.proofs.Common.{◌≡◌, ◌||◌, Bool, true, false, cond, List, ◌∷◌, Option, Some, None, refl, sym, ap, ◌∙◌}
use Rattle.std.specs.Option.{option_or}
use Rattle.std.specs.FinMap as fin
use Rattle.osm_base.specs.Rank.{is_key}
use Rattle.osm_base.proofs.RisingKeys.{key_turned}
use Rattle.osm_base.specs.declared.key.Key.{Key}
use Rattle.osm_table.specs.declared.entry.Entry.{Entry}
use Rattle.osm_table.specs.declared.entry.Entry.TheVariants.{Incomplete}
use Rattle.osm_table.specs.Table.{TableValue, entry_of, mine_of}
use Rattle.osm_table.proofs.Each.{same_table}
use Rattle.dataset.specs.Draft.{DraftValue, drafted}
use Rattle.dataset.proofs.Changes.{drafted_none}
use Rattle.tool_api.specs.Checks.{is_named}
use Rattle.tool_api.specs.Resolve.{settled_entry, settled_table}
use Rattle.tool_api.specs.Staged.{refs_by}
use Rattle.tool_api.proofs.Looks.{entry_changed, next_changed}
use Rattle.conflict.specs.Settled.{entered}
use Rattle.conflict.proofs.Entered.{put_at}

either : (a b : Bool) (e : Entry) (o : Option Entry) → cond (a || b) (cond a (Some e) (option_or o (Some Incomplete))) o ≡ entered b (cond a (Some e) o)
either true b e o = refl
either false true e None = refl
either false true e (Some x) = refl
either false false e None = refl
either false false e (Some x) = refl

-- the object has its entry, what this refers to is there, and all else is as it was
pub settled_at : (t : TableValue) (k : Key) (e : Entry) (q : Key) → entry_of (settled_table t k (Some e)) q ≡ entered (is_named (refs_by (mine_of e)) q) (cond (is_key q k) (Some e) (entry_of t q))
settled_at t k e q =
    entry_changed t (settled_entry t k (Some e)) (k ∷ refs_by (mine_of e)) q
    ∙ ap (λ (a : Bool). cond (is_key q k || is_named (refs_by (mine_of e)) q) (cond a (Some e) (option_or (entry_of t q) (Some Incomplete))) (entry_of t q)) (key_turned k q)
    ∙ either (is_key q k) (is_named (refs_by (mine_of e)) q) e (entry_of t q)

pub settled_next : (t : TableValue) (k : Key) (e : Entry) → (settled_table t k (Some e)).next ≡ t.next
settled_next t k e = next_changed t (settled_entry t k (Some e)) (k ∷ refs_by (mine_of e))

-- a draft with the entry, in which all has entered that is listed
pub settled_is : (t : TableValue) (empty one all : DraftValue) (k : Key) (e : Entry) (refs : List Key) → refs ≡ refs_by (mine_of e) → empty ≡ record { puts = fin.empty; next = t.next }
    → one ≡ record { puts = fin.insert empty.puts k (Some e); next = empty.next }
    → ((q : Key) → entry_of (drafted all t) q ≡ entered (is_named refs q) (entry_of (drafted one t) q)) → all.next ≡ one.next
    → drafted all t ≡ settled_table t k (Some e)
settled_is t empty one all k e refs listed none put each number =
    same_table (drafted all t) (settled_table t k (Some e)) (λ q.
    each q
    ∙ ap (entered (is_named refs q)) (put_at empty one t k (Some e) put q ∙ ap (cond (is_key q k) (Some e)) (ap (λ (d : DraftValue). entry_of (drafted d t) q) none ∙ ap (λ (u : TableValue). entry_of u q) (drafted_none t.next t)))
    ∙ ap (λ (l : List Key). entered (is_named l q) (cond (is_key q k) (Some e) (entry_of t q))) listed
    ∙ sym (settled_at t k e q))
    (number ∙ ap (λ (d : DraftValue). d.next) put ∙ ap (λ (d : DraftValue). d.next) none ∙ sym (settled_next t k e))
