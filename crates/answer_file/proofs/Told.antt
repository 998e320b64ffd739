-- A server's answers to the first changes of a plan, as a text, are taken.
use Rattle.std.proofs.Common.{◌≡◌, ℕ, ◌≤◌, ◌^◌, ℤ, List, [], ◌∷◌, ◌++◌, Some, None, Ok, ap, subst, ◌∙◌, inl, inr, arith}
use Rattle.osm_base.specs.Number.{IsId}
use Rattle.osm_base.specs.declared.key.Key.{Key}
use Rattle.osm_base.specs.declared.content.Content.{Content}
use Rattle.osm_table.specs.declared.entry.Base.TheVariants.{New, Live, Gone}
use Rattle.osm_table.specs.declared.entry.Entry.{Entry}
use Rattle.osm_table.specs.declared.entry.Entry.TheVariants.{Incomplete, Known}
use Rattle.osm_table.specs.Table.{TableValue, entry_of}
use Rattle.dataset.specs.Diff.{diff}
use Rattle.dataset.specs.Sound.{IdFits, IsSound}
use Rattle.dataset.proofs.Ids.{positive_id, given_id}
use Rattle.upload_order.specs.declared.change.Change.{Change}
use Rattle.upload_order.specs.declared.change.Change.TheVariants.{Create, Modify, Delete}
use Rattle.upload_order.specs.Plan.{plan}
use Rattle.upload_order.specs.Refused.{upload, upload_refusal}
use Rattle.upload_order.specs.Pieces.{unless}
use Rattle.upload_order.specs.Run.{pick_for, picks_left}
use Rattle.placeholder.specs.Answers.{AreWithin}
use Rattle.placeholder.specs.Confirm.{answers_of, confirm, confirms, on_upload, patch_to}
use Rattle.placeholder.proofs.Names.{changes_stay}
use Rattle.placeholder.proofs.Steadily.{start_steady}
use Rattle.placeholder.proofs.Steady.{AreSteady, IsSentAs}
use Rattle.answer_file.specs.Answers as file
use Rattle.answer_file.specs.Text.{text_of}
use Rattle.answer_file.proofs.ReadBack.{AreTold, numbers_from, text_again}
use Rattle.answer_file.proofs.SoFar.{ended}

id_of : (next : ℕ) (k : Key) (e : Entry) → next ≤ 10 ^ 18 → IdFits next k e → IsId k.id
id_of next k Incomplete most h = positive_id k.id h
id_of next k (Known New mine conflict) most h = given_id next k.id most h.0
id_of next k (Known (Live version content meta) mine conflict) most h = positive_id k.id h
id_of next k (Known (Gone version meta) mine conflict) most h = positive_id k.id h

-- what stands in a sound table has an id
id_there : (t : TableValue) → IsSound t → (k : Key) (e : Entry) → entry_of t k ≡ Some e → IsId k.id
id_there t sound k e there = id_of t.next k e sound.number.1 (sound.entries k e there).id

sent_there : (t : TableValue) → IsSound t → (k : Key) (c : Content) → IsSentAs t k c → IsId k.id
sent_there t sound k c (inl x) = id_there t sound k x.0.entry x.0.there
sent_there t sound k c (inr x) = id_there t sound k x.0.entry x.0.there

told_from : (t : TableValue) (made : List Key) (cs ds : List Change) (ids : List ℤ) → IsSound t → AreSteady t made (cs ++ ds) → AreWithin cs ids → AreTold (answers_of cs ids)
told_from t made [] ds ids sound steady within = tt
told_from t made (Create k c ∷ cs) ds ids sound steady within =
    ((id_there t sound k steady.0.entry steady.0.there, positive_id (pick_for (Create k c) ids) within.0), told_from t (k ∷ made) cs ds (picks_left (Create k c) ids) sound steady.3 within.1)
told_from t made (Modify k version c ∷ cs) ds ids sound steady within =
    ((sent_there t sound k c steady.0, omega arith, within.0), told_from t made cs ds ids sound steady.2 within.1)
told_from t made (Delete k version ∷ cs) ds ids sound steady within =
    ((id_there t sound k steady.0.entry steady.0.there, omega arith, within.0), told_from t made cs ds ids sound steady.1 within.1)

-- the answers to the first changes of a plan have words
pub answers_told : (t : TableValue) (cs ds : List Change) (ids : List ℤ) → IsSound t → upload_refusal t ≡ None → plan t ≡ cs ++ ds → AreWithin cs ids → AreTold (answers_of cs ids)
answers_told t cs ds ids sound clear whole within = told_from t [] cs ds ids sound (subst (AreSteady t []) (changes_stay (plan t) ∙ whole) (start_steady t sound clear).steady) within

-- the text of answers that make a table makes it
pub text_makes : (t u : TableValue) (cs ds : List Change) (ids : List ℤ) → upload_refusal t ≡ None → plan t ≡ cs ++ ds → AreTold (answers_of cs ids) → confirms t (cs ++ ds) (answers_of cs ids) ≡ Ok u
    → file.confirm_text t (text_of (answers_of cs ids)) ≡ Ok (diff t u)
text_makes t u cs ds ids clear whole told makes =
    let answers = answers_of cs ids in
    let sent : upload t ≡ Ok (cs ++ ds) = ap (λ o. unless o (plan t)) clear ∙ ap Ok whole in
    let taken : confirm t answers ≡ Ok (diff t u) = ap (on_upload t answers) sent ∙ ap (patch_to t) makes in
    ap (λ read. file.by_lines read (confirm t read.answers)) (text_again answers told)
    ∙ ap (file.by_lines (ended answers (numbers_from 1 answers) None)) taken
