-- A table that answers confirm.
use Rattle.std.proofs.Common.{ℕ, ℤ, ◌+◌, Bool, true, false, cond, List, [], ◌∷◌, map, Option, Some, None, Result, Ok, Err, refl, sym, subst, arith}
use Rattle.std.specs.List.{AllByRecursion}
use Rattle.std.specs.Option.{option_map}
use Rattle.osm_base.specs.Meta.{empty_meta}
use Rattle.osm_base.specs.Rank.{is_key}
use Rattle.osm_base.specs.declared.key.Key.{Key}
use Rattle.osm_base.specs.declared.content.Content.{Content}
use Rattle.osm_base.proofs.Lists.{all_joined}
use Rattle.osm_table.specs.declared.entry.Base.{Base}
use Rattle.osm_table.specs.declared.entry.Base.TheVariants.{New, Live, Gone}
use Rattle.osm_table.specs.declared.entry.Conflict.{Conflict}
use Rattle.osm_table.specs.declared.entry.Entry.{Entry}
use Rattle.osm_table.specs.declared.entry.Entry.TheVariants.{Incomplete, Known}
use Rattle.osm_table.specs.Table.{TableValue, IfContent, entry_of, with_entry}
use Rattle.osm_table.proofs.Each.{get_with}
use Rattle.dataset.specs.Diff.{diff}
use Rattle.dataset.specs.Patch.{PatchValue, after_of}
use Rattle.dataset.specs.Sound.{IfTheirs}
use Rattle.dataset.proofs.Differs.{diff_is}
use Rattle.dataset.proofs.Laws.{diff_leads}
use Rattle.opl_line.specs.Writable.{IsMeta}
use Rattle.renamed_content.specs.Renamed.{renamed}
use Rattle.upload_order.specs.declared.change.Change.{Change}
use Rattle.upload_order.specs.declared.change.Change.TheVariants.{Create, Modify, Delete}
use Rattle.upload_order.specs.declared.refusal.PlanRefusal.{PlanRefusal}
use Rattle.upload_order.specs.declared.down.Down.{Down}
use Rattle.upload_order.specs.declared.down.Down.TheVariants.{Clear, Remove}
use Rattle.upload_order.specs.Plan.{down_of, downs, plan, up_entry, up_known, up_of, ups}
use Rattle.upload_order.specs.Refused.{upload_refusal}
use Rattle.upload_order.specs.Pieces.{unless}
use Rattle.upload_order.specs.Rename.{Names, called, with_id}
use Rattle.placeholder.specs.declared.answer.Answer.{Answer}
use Rattle.placeholder.specs.declared.fault.ConfirmFault.{ConfirmFault}
use Rattle.placeholder.specs.declared.fault.ConfirmFault.TheVariants.{IdTaken, WrongAnswer}
use Rattle.placeholder.specs.Confirm.{and_then, confirm, confirms, confirms_from, id_told, is_answer, is_taken, key_given, on_upload, patch_to, taken_by}
use Rattle.placeholder.specs.Confirmed.{based_on, confirmed, made_entry, moved, moved_base, moved_change, moved_conflict, moved_entry, named_by}
use Rattle.placeholder.proofs.LookUps.{made_at}
use Rattle.editor_laws.specs.Texts.{HasTexts, IsTextBase, IsTextTable}
use Rattle.editor_laws.proofs.TextTags.{no_texts}
use Rattle.editor_laws.proofs.TextContents.{renamed_kept}
use Rattle.editor_laws.proofs.TextEntries.{IsTextAt, either_at, text_at, text_table}

none_known : IsMeta empty_meta
none_known = record { changeset = omega arith; time = tt; uid = omega arith; user = (([], (refl, refl)), refl) }

-- the content of a change
abbrev pub ChangeHasTexts : Change → Type 0
ChangeHasTexts (Create k c) = HasTexts c
ChangeHasTexts (Modify k version c) = HasTexts c
ChangeHasTexts (Delete k version) = Unit {0}

-- The plan.

known_texts : (k : Key) (b : Base) (c : Content) → HasTexts c → ChangeHasTexts (up_known k b c)
known_texts k New c h = h
known_texts k (Live version content meta) c h = h
known_texts k (Gone version meta) c h = h

up_texts : (k : Key) (o : Option Entry) → IsTextAt o → ChangeHasTexts (up_entry k o)
up_texts k None h = tt
up_texts k (Some Incomplete) h = tt
up_texts k (Some (Known base None conflict)) h = tt
up_texts k (Some (Known base (Some c) conflict)) h = known_texts k base c h.1

module _ (t : TableValue) (h : IsTextTable t) where
  all_ups : (ks : List Key) → AllByRecursion ChangeHasTexts (map (up_of t) ks)
  all_ups [] = tt
  all_ups (k ∷ ks) = (up_texts k (entry_of t k) (text_at t k h), all_ups ks)

  all_downs : (ds : List Down) → AllByRecursion ChangeHasTexts (map (down_of t) ds)
  all_downs [] = tt
  all_downs (Clear k ∷ ds) = ((no_texts, tt), all_downs ds)
  all_downs (Remove k cleared ∷ ds) = (tt, all_downs ds)

  pub plan_texts : AllByRecursion ChangeHasTexts (plan t)
  plan_texts = all_joined ChangeHasTexts (map (up_of t) (ups t)) (map (down_of t) (downs t)) (all_ups (ups t)) (all_downs (downs t))

-- Other references.

moved_base_texts : (f : Key → Key) (b : Base) → IsTextBase b → IsTextBase (moved_base f b)
moved_base_texts f New h = h
moved_base_texts f (Live version content meta) h = (renamed_kept f content h.0, h.1)
moved_base_texts f (Gone version meta) h = h

moved_mine_texts : (f : Key → Key) (o : Option Content) → IfContent o HasTexts → IfContent (option_map (renamed f) o) HasTexts
moved_mine_texts f None h = tt
moved_mine_texts f (Some c) h = renamed_kept f c h

moved_conflict_texts : (f : Key → Key) (o : Option Conflict) → IfTheirs o IsTextBase → IfTheirs (option_map (moved_conflict f) o) IsTextBase
moved_conflict_texts f None h = tt
moved_conflict_texts f (Some c) h = moved_base_texts f c.theirs h

moved_entry_texts : (f : Key → Key) (o : Option Entry) → IsTextAt o → IsTextAt (option_map (moved_entry f) o)
moved_entry_texts f None h = tt
moved_entry_texts f (Some Incomplete) h = tt
moved_entry_texts f (Some (Known base mine conflict)) h = (moved_base_texts f base h.0, moved_mine_texts f mine h.1, moved_conflict_texts f conflict h.2)

moved_change_texts : (f : Key → Key) (c : Change) → ChangeHasTexts c → ChangeHasTexts (moved_change f c)
moved_change_texts f (Create k c) h = renamed_kept f c h
moved_change_texts f (Modify k version c) h = renamed_kept f c h
moved_change_texts f (Delete k version) h = tt

-- One answer.

based_texts : (b : Base) (o : Option Entry) → IsTextBase b → IsTextAt o → IsTextAt (Some (based_on b o))
based_texts b None i h = tt
based_texts b (Some Incomplete) i h = tt
based_texts b (Some (Known old mine conflict)) i h = (i, h.1, h.2)

with_entry_texts : (t : TableValue) (k : Key) (e : Entry) → IsTextAt (Some e) → IsTextTable t → IsTextTable (with_entry t k e)
with_entry_texts t k e i h = text_table (with_entry t k e) (λ j. subst IsTextAt (sym (get_with t k e j)) (either_at (is_key j k) (Some e) (entry_of t j) i (text_at t j h)))

pub confirmed_texts : (t : TableValue) (c : Change) (id : ℤ) → ChangeHasTexts c → IsTextTable t → IsTextTable (confirmed t c id)
confirmed_texts t (Create k c) id i h =
    let f : Key → Key = moved k id in
    let new : HasTexts (renamed f c) = renamed_kept f c i in
    text_table (confirmed t (Create k c) id) (λ j. subst IsTextAt (sym (made_at t k c id j))
    (either_at (is_key j (with_id k id)) (Some (made_entry (renamed f c))) _ ((new, none_known), new, tt)
    (either_at (is_key j k) None (option_map (moved_entry f) (entry_of t j)) tt (moved_entry_texts f (entry_of t j) (text_at t j h)))))
confirmed_texts t (Modify k version c) id i h = with_entry_texts t k (based_on (Live (version + 1) c empty_meta) (entry_of t k)) (based_texts (Live (version + 1) c empty_meta) (entry_of t k) (i, none_known) (text_at t k h)) h
confirmed_texts t (Delete k version) id i h = with_entry_texts t k (based_on (Gone (version + 1) empty_meta) (entry_of t k)) (based_texts (Gone (version + 1) empty_meta) (entry_of t k) none_known (text_at t k h)) h

-- All answers.

abbrev HasTable : Result TableValue ConfirmFault → Type 0
HasTable (Ok t) = IsTextTable t
HasTable (Err fault) = Unit {0}

taken_texts : (n : ℕ) (u : TableValue) (c : Change) (a : Answer) (v : TableValue) → IsTextTable v → HasTable (taken_by n u c a v)
taken_texts n u c a v h = by (is_answer c a) (is_taken u a) where
  by : (answers taken : Bool) → HasTable (cond answers (cond taken (Err (IdTaken (key_given a))) (Ok v)) (Err (WrongAnswer n)))
  by true true = tt
  by true false = h
  by false taken = tt

then_texts : (r : Result TableValue ConfirmFault) (next : TableValue → Result TableValue ConfirmFault) → HasTable r → ((v : TableValue) → IsTextTable v → HasTable (next v)) → HasTable (and_then r next)
then_texts (Ok v) next h i = i v h
then_texts (Err e) next h i = tt

answers_texts : (answers : List Answer) (n : ℕ) (names : Names) (u : TableValue) (cs : List Change) → AllByRecursion ChangeHasTexts cs → IsTextTable u → HasTable (confirms_from n names u cs answers)
answers_texts [] n names u cs i h = h
answers_texts (a ∷ more) n names u [] i h = tt
answers_texts (a ∷ more) n names u (c ∷ cs) i h =
    then_texts (taken_by n u c a (confirmed u (moved_change (called names) c) (id_told a))) (λ v. confirms_from (n + 1) (named_by c (id_told a) names) v cs more)
    (taken_texts n u c a _ (confirmed_texts u (moved_change (called names) c) (id_told a) (moved_change_texts (called names) c i.0) h))
    (λ v j. answers_texts more (n + 1) (named_by c (id_told a) names) v cs i.1 j)

-- the table to which a difference leads
abbrev pub LeadsToTexts : {E : Type 0} → TableValue → Result PatchValue E → Type 0
LeadsToTexts t (Ok p) = IsTextTable (after_of p t)
LeadsToTexts t (Err fault) = Unit {0}

pub diff_texts : (t u : TableValue) → IsTextTable u → IsTextTable (after_of (diff t u) t)
diff_texts t u h = subst IsTextTable (diff_leads t u (diff t u) (diff_is t u)).to h

patch_texts : (t : TableValue) (r : Result TableValue ConfirmFault) → HasTable r → LeadsToTexts t (patch_to t r)
patch_texts t (Ok u) h = diff_texts t u h
patch_texts t (Err fault) h = tt

unless_texts : (t : TableValue) (h : IsTextTable t) (answers : List Answer) (o : Option PlanRefusal) → LeadsToTexts t (on_upload t answers (unless o (plan t)))
unless_texts t h answers None = patch_texts t (confirms t (plan t) answers) (answers_texts answers 1 [] t (plan t) (plan_texts t h) h)
unless_texts t h answers (Some refusal) = tt

-- The table that answers confirm has texts that may be written.
pub confirm_texts : (t : TableValue) (answers : List Answer) → IsTextTable t → LeadsToTexts t (confirm t answers)
confirm_texts t answers h = unless_texts t h answers (upload_refusal t)
