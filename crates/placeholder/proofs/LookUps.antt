-- What a table has at each key after one answer.
use Rattle.std.proofs.Common.{◌≡◌, ℤ, Bool, true, false, cond, Option, Some, None, refl, ◌∙◌, ap, inl, inr}
use Rattle.std.proofs.lemmas.Bool.{cases_Bool}
use Rattle.std.specs.Option.{option_map}
use Rattle.std.specs.FinMap as fin
use Rattle.osm_base.specs.Rank.{is_key}
use Rattle.osm_base.specs.RankLaws.{rank_total}
use Rattle.osm_base.specs.declared.key.Key.{Key}
use Rattle.osm_base.specs.declared.content.Content.{Content}
use Rattle.osm_base.proofs.RisingKeys.{one_key}
use Rattle.osm_table.specs.declared.entry.Entry.{Entry}
use Rattle.osm_table.specs.Table.{TableValue, entry_of, with_entry}
use Rattle.osm_table.proofs.Each.{get_with}
use Rattle.upload_order.specs.declared.change.Change.TheVariants.{Create}
use Rattle.upload_order.specs.Rename.{with_id}
use Rattle.renamed_content.specs.Renamed.{renamed}
use Rattle.upload_order.proofs.Basics.{none_some}
use Rattle.placeholder.specs.Confirmed.{moved, moved_entry, moved_entries, made_entry, confirmed}
use Rattle.placeholder.proofs.Moved.{get_moved}

-- after an object was made
pub made_at : (t : TableValue) (k : Key) (c : Content) (p : ℤ) (j : Key)
    → entry_of (confirmed t (Create k c) p) j ≡ cond (is_key j (with_id k p)) (Some (made_entry (renamed (moved k p) c))) (cond (is_key j k) None (option_map (moved_entry (moved k p)) (entry_of t j)))
made_at t k c p j =
    fin.get-insert rank_total (fin.remove (moved_entries (moved k p) t.entries) k) (with_id k p) (made_entry (renamed (moved k p) c)) j
    ∙ ap (λ (o : Option Entry). cond (is_key j (with_id k p)) (Some (made_entry (renamed (moved k p) c))) o)
    (fin.get-remove rank_total (moved_entries (moved k p) t.entries) k j ∙ ap (λ (o : Option Entry). cond (is_key j k) None o) (get_moved (moved k p) t.entries j))

none_case : (b : Bool) (f : Entry → Entry) (o : Option Entry) → o ≡ None → cond b None (option_map f o) ≡ None
none_case true f o e = refl
none_case false f o e = ap (option_map f) e

gone_case : (b : Bool) (o : Option Entry) → b ≡ true → cond b None o ≡ None
gone_case true o e = refl
gone_case false o e = cc

-- what isn't there isn't made but under the id that was given
pub made_none : (t : TableValue) (k : Key) (c : Content) (p : ℤ) (j : Key) → is_key j (with_id k p) ≡ false → entry_of t j ≡ None → entry_of (confirmed t (Create k c) p) j ≡ None
made_none t k c p j away none =
    made_at t k c p j
    ∙ ap (λ b. cond b (Some (made_entry (renamed (moved k p) c))) (cond (is_key j k) None (option_map (moved_entry (moved k p)) (entry_of t j)))) away
    ∙ none_case (is_key j k) (moved_entry (moved k p)) (entry_of t j) none

-- the placeholder is gone
pub made_gone : (t : TableValue) (k : Key) (c : Content) (p : ℤ) (j : Key) → is_key j (with_id k p) ≡ false → is_key j k ≡ true → entry_of (confirmed t (Create k c) p) j ≡ None
made_gone t k c p j away here =
    made_at t k c p j
    ∙ ap (λ b. cond b (Some (made_entry (renamed (moved k p) c))) (cond (is_key j k) None (option_map (moved_entry (moved k p)) (entry_of t j)))) away
    ∙ gone_case (is_key j k) (option_map (moved_entry (moved k p)) (entry_of t j)) here

-- what isn't there isn't there after the entry of another key was set
pub set_none : (t : TableValue) (k j : Key) (e f : Entry) → entry_of t k ≡ Some e → entry_of t j ≡ None → entry_of (with_entry t k f) j ≡ None
set_none t k j e f there none =
    let away : is_key j k ≡ false = elim (cases_Bool (is_key j k)) [ inl i ↦ none_some e (entry_of t j) none (ap (entry_of t) (one_key j k i) ∙ there) | inr i ↦ i ] in
    get_with t k f j ∙ ap (λ b. cond b (Some f) (entry_of t j)) away ∙ none
