-- Answers that are taken keep what was edited.
use Rattle.std.proofs.Common.{◌≡◌, ℕ, ◌+◌, ◌==◌, ◌≤◌, ℤ, pos, negsuc, nat_lt, nat_le, Bool, true, false, cond, is_some, List, [], ◌∷◌, map, Option, Some, None, Result, Ok, Err, IfOk, refl, sym, ap, ◌∙◌, subst, arith}
use Rattle.std.proofs.lemmas.Bool.{ltb-true, leb-true, and_parts, true≢false}
use Rattle.std.specs.Option.{option_map}
use Rattle.osm_base.specs.Meta.{empty_meta}
use Rattle.osm_base.specs.Rank.{is_key}
use Rattle.osm_base.specs.declared.key.Key.{Key}
use Rattle.osm_base.specs.declared.content.Content.{Content}
use Rattle.osm_base.proofs.RisingKeys.{one_key}
use Rattle.osm_base.proofs.Tests.{none_from_test}
use Rattle.osm_table.specs.declared.entry.Base.TheVariants.{Live, Gone}
use Rattle.osm_table.specs.declared.entry.Entry.{Entry}
use Rattle.osm_table.specs.Table.{TableValue, entry_of, IsPositive}
use Rattle.dataset.specs.Diff.{diff}
use Rattle.dataset.specs.Patch.{PatchValue, after_of}
use Rattle.dataset.specs.Sound.{IsSound}
use Rattle.dataset.proofs.Differs.{diff_is}
use Rattle.dataset.proofs.Laws.{diff_leads}
use Rattle.renamed_content.specs.Renamed.{renamed}
use Rattle.upload_order.specs.declared.change.Change.{Change}
use Rattle.upload_order.specs.declared.change.Change.TheVariants.{Create, Modify, Delete}
use Rattle.upload_order.specs.declared.refusal.PlanRefusal.{PlanRefusal}
use Rattle.upload_order.specs.Plan.{plan}
use Rattle.upload_order.specs.Refused.{upload_refusal}
use Rattle.upload_order.specs.Pieces.{unless}
use Rattle.upload_order.specs.Rename.{Names, called, named, with_id, is_positive}
use Rattle.upload_order.specs.World.{is_known}
use Rattle.upload_order.proofs.Renaming.{renamed_itself}
use Rattle.placeholder.specs.declared.answer.Answer.{Answer}
use Rattle.placeholder.specs.declared.answer.Answer.TheVariants as answer
use Rattle.placeholder.specs.declared.fault.ConfirmFault.{ConfirmFault}
use Rattle.placeholder.specs.declared.fault.ConfirmFault.TheVariants.{WrongAnswer, IdTaken}
use Rattle.placeholder.specs.Answers.{IsNewTo, IsWithin}
use Rattle.placeholder.specs.Confirm.{and_then, confirm, confirms, confirms_from, id_told, is_answer, is_given, is_next, is_taken, key_given, on_upload, patch_to}
use Rattle.placeholder.specs.Confirmed.{confirmed, moved, moved_change, named_by}
use Rattle.placeholder.proofs.Named.{AreNamed, known_moved, left_again, named_again, none_named}
use Rattle.placeholder.proofs.Names.{called_more, called_none, renamed_once}
use Rattle.placeholder.proofs.Steadily.{IsSteady, answer_step, given_to, known_in, negative_key, new_moved, start_steady, within_moved}
use Rattle.editor_laws.specs.Answered.{KeepsAllCalled, names_told}
use Rattle.editor_laws.specs.Kept.{wish, IsWished}
use Rattle.editor_laws.proofs.KeptConfirming.{edited_known, made_keeps, set_wishes}

given_is : (id : ℤ) → is_given id ≡ true → IsPositive id
given_is (pos n) h = let x = and_parts (nat_lt 0 n) (nat_le n 1000000000000000000) h in (ltb-true 0 n x.0, leb-true n 1000000000000000000 x.1)
given_is (negsuc n) h = absurd cc

next_is : (v w : ℕ) → is_next v w ≡ true → v + 1 ≤ 2000000000
next_is v w h = let below = ltb-true v 2000000000 (and_parts (nat_lt v 2000000000) (w == v + 1) h).0 in omega (arith, below)

-- An answer that is taken is one that a server may give: an id is new to the table, all is within the limits, and it names what the
-- change made.
record IsFair (u : TableValue) (c : Change) (a : Answer) : Type 0 where
  pub new : IsNewTo u c (id_told a)
  pub within : IsWithin c (id_told a)
  pub names : (ns : Names) (more : List Answer) → names_told (named_by c (id_told a) ns) more ≡ names_told ns (a ∷ more)

fair : (u : TableValue) (c : Change) (a : Answer) → is_answer c a ≡ true → is_taken u a ≡ false → IsFair u c a
fair u (Create k c) (answer.Create placeholder id) h free =
    let parts = and_parts (is_key k placeholder) (is_given id) h in
    let one = one_key k placeholder parts.0 in
    record {
      new = none_from_test (entry_of u (with_id k id)) (ap (λ (x : Key). is_some (entry_of u (with_id x id))) one ∙ free);
      within = given_is id parts.1;
      names = λ ns more. ap (λ (x : Key). names_told ((x, id) ∷ ns) more) one;
    }
fair u (Create k c) (answer.Modify key version) h free = absurd cc
fair u (Create k c) (answer.Delete key version) h free = absurd cc
fair u (Modify k x c) (answer.Create placeholder id) h free = absurd cc
fair u (Modify k x c) (answer.Modify key version) h free = record { new = tt; within = next_is x version (and_parts (is_key k key) (is_next x version) h).1; names = λ ns more. refl }
fair u (Modify k x c) (answer.Delete key version) h free = absurd cc
fair u (Delete k x) (answer.Create placeholder id) h free = absurd cc
fair u (Delete k x) (answer.Modify key version) h free = absurd cc
fair u (Delete k x) (answer.Delete key version) h free = record { new = tt; within = next_is x version (and_parts (is_key k key) (is_next x version) h).1; names = λ ns more. refl }

-- What was wanted of the object of a key is wanted in this table under these names.
abbrev IsCarried : Names → Key → Option Content → TableValue → Type 0
IsCarried ns k wanted u = IsWished (option_map (renamed (called ns)) wanted) (entry_of u (called ns k))

-- of what is there, where anything is wanted of it
of_wished : (o : Option Entry) (w : Option Content) (P : Type 0) → IsWished w o → ((e : Entry) → o ≡ Some e → is_known e ≡ true → wish (Some e) ≡ w → P) → P
of_wished None w P h with_entry = absurd h
of_wished (Some e) w P h with_entry = with_entry e refl h.0 h.1

-- An object was made.
module _ (u : TableValue) (ns : Names) (j : Key) (d : Content) (cs : List Change) (p : ℤ) (steady : IsSteady u (moved_change (called ns) (Create j d) ∷ cs)) (named_in : AreNamed ns u) (new : entry_of u (with_id j p) ≡ None) where
  abbrev g : Key → Key
  g = called ns

  negative : is_positive j.id ≡ false
  negative = negative_key u steady.sound j (renamed g d) steady.steady.0

  no_name : (o : Option ℤ) → named ns j ≡ o → named ns j ≡ None
  no_name None is = is
  no_name (Some q) is = absurd (true≢false (ap is_some (sym steady.steady.0.there ∙ named_in.gone j q is negative)))

  called_so : (r : Key) → moved j p (called ns r) ≡ called ((j, p) ∷ ns) r
  called_so r = called_more j p ns named_in.given (no_name (named ns j) refl) r

  both_names : (o : Option Content) → option_map (renamed (moved j p)) (option_map (renamed g) o) ≡ option_map (renamed (called ((j, p) ∷ ns))) o
  both_names None = refl
  both_names (Some c) = ap (λ (x : Content). Some x) (renamed_once (moved j p) ns (called ((j, p) ∷ ns)) called_so c)

  made_carries : (k : Key) (wanted : Option Content) → IsCarried ns k wanted u → IsCarried ((j, p) ∷ ns) k wanted (confirmed u (Create j (renamed g d)) p)
  made_carries k wanted h =
      let v : TableValue = confirmed u (Create j (renamed g d)) p in
      of_wished (entry_of u (g k)) (option_map (renamed g) wanted) (IsCarried ((j, p) ∷ ns) k wanted v) h
      (λ e is known same.
      let kept : IsWished (option_map (renamed (moved j p)) (wish (Some e))) (entry_of v (moved j p (g k))) = made_keeps u j (renamed g d) p steady.sound steady.settled steady.steady.0 new (g k) e is known in
      let wished : IsWished (option_map (renamed (called ((j, p) ∷ ns))) wanted) (entry_of v (moved j p (g k))) =
      subst (λ (w : Option Content). IsWished w (entry_of v (moved j p (g k)))) (ap (option_map (renamed (moved j p))) same ∙ both_names wanted) kept in
      subst (λ (r : Key). IsWished (option_map (renamed (called ((j, p) ∷ ns))) wanted) (entry_of v r)) (called_so k) wished)

-- One answer.
one_carries : (u : TableValue) (ns : Names) (c : Change) (cs : List Change) (p : ℤ) → IsSteady u (moved_change (called ns) c ∷ cs) → AreNamed ns u → IsNewTo u c p
    → (k : Key) (wanted : Option Content) → IsCarried ns k wanted u → IsCarried (named_by c p ns) k wanted (confirmed u (moved_change (called ns) c) p)
one_carries u ns (Create j d) cs p steady named_in new k wanted h = made_carries u ns j d cs p steady named_in new k wanted h
one_carries u ns (Modify j v c) cs p steady named_in new k wanted h =
    let after : TableValue = confirmed u (moved_change (called ns) (Modify j v c)) p in
    of_wished (entry_of u (called ns k)) (option_map (renamed (called ns)) wanted) (IsCarried ns k wanted after) h
    (λ e is known same. subst (λ (w : Option Content). IsWished w (entry_of after (called ns k))) same (set_wishes u j (Live (v + 1) (renamed (called ns) c) empty_meta) (called ns k) e is known))
one_carries u ns (Delete j v) cs p steady named_in new k wanted h =
    let after : TableValue = confirmed u (moved_change (called ns) (Delete j v)) p in
    of_wished (entry_of u (called ns k)) (option_map (renamed (called ns)) wanted) (IsCarried ns k wanted after) h
    (λ e is known same. subst (λ (w : Option Content). IsWished w (entry_of after (called ns k))) same (set_wishes u j (Gone (v + 1) empty_meta) (called ns k) e is known))

taken_if : (P : TableValue → Type 0) (b d : Bool) (x y : ConfirmFault) (v : TableValue) (next : TableValue → Result TableValue ConfirmFault) → (b ≡ true → d ≡ false → IfOk (next v) P)
    → IfOk (and_then (cond b (cond d (Err x) (Ok v)) (Err y)) next) P
taken_if P true true x y v next h = tt
taken_if P true false x y v next h = h refl refl
taken_if P false d x y v next h = tt

-- All answers.
answers_carry : (answers : List Answer) (cs : List Change) (n : ℕ) (ns : Names) (u : TableValue) → IsSteady u (map (moved_change (called ns)) cs) → AreNamed ns u
    → (k : Key) (wanted : Option Content) → IsCarried ns k wanted u → IfOk (confirms_from n ns u cs answers) (IsCarried (names_told ns answers) k wanted)
answers_carry [] cs n ns u steady named_in k wanted h = h
answers_carry (a ∷ more) [] n ns u steady named_in k wanted h = tt
answers_carry (a ∷ more) (c ∷ cs) n ns u steady named_in k wanted h =
    let g = called ns in
    let p = id_told a in
    let v = confirmed u (moved_change g c) p in
    taken_if (IsCarried (names_told ns (a ∷ more)) k wanted) (is_answer c a) (is_taken u a) (IdTaken (key_given a)) (WrongAnswer n) v (λ w. confirms_from (n + 1) (named_by c p ns) w cs more)
    (λ answered free.
    let fair_one = fair u c a answered free in
    let known = known_moved g u c (known_in u (moved_change g c) (map (moved_change g) cs) steady) in
    let left : IsSteady v (map (moved_change (called (named_by c p ns))) cs) =
    subst (IsSteady v) (left_again ns u c p cs named_in known) (answer_step u (moved_change g c) (map (moved_change g) cs) p steady (new_moved g u c p fair_one.new) (within_moved g c p fair_one.within)) in
    subst (λ (names : Names). IfOk (confirms_from (n + 1) (named_by c p ns) v cs more) (IsCarried names k wanted)) (fair_one.names ns more)
    (answers_carry more cs (n + 1) (named_by c p ns) v left (named_again g ns u c p named_in known (given_to c p fair_one.within)) k wanted
    (one_carries u ns c (map (moved_change g) cs) p steady named_in fair_one.new k wanted h)))

-- Without names all is called as it is.
uncalled : (o : Option Content) → option_map (renamed (called [])) o ≡ o
uncalled None = refl
uncalled (Some c) = ap (λ (d : Content). Some d) (renamed_itself (called []) c (λ r h. called_none [] r refl))

starts : (t : TableValue) (k : Key) (e : Entry) → entry_of t k ≡ Some e → is_known e ≡ true → IsCarried [] k (wish (Some e)) t
starts t k e is known =
    subst (λ (w : Option Content). IsWished w (entry_of t (called [] k))) (sym (uncalled (wish (Some e))))
    (subst (λ (r : Key). IsWished (wish (Some e)) (entry_of t r)) (sym (called_none [] k refl))
    (subst (IsWished (wish (Some e))) (sym is) (known, refl)))

-- The table that answers confirm keeps what was edited.
module _ (t : TableValue) (answers : List Answer) (patch : PatchValue) (sound : IsSound t) (is : confirm t answers ≡ Ok patch) (k : Key) (e : Entry) (there : entry_of t k ≡ Some e) (known : is_known e ≡ true) where
  abbrev Goal : TableValue → Type 0
  Goal u = IsCarried (names_told [] answers) k (wish (Some e)) u

  by_patch : (r : Result TableValue ConfirmFault) → patch_to t r ≡ Ok patch → IfOk r Goal → Goal (after_of patch t)
  by_patch (Ok u) same h =
      let one : diff t u ≡ patch = cc in
      subst (λ (d : PatchValue). Goal (after_of d t)) one (subst Goal (diff_leads t u (diff t u) (diff_is t u)).to h)
  by_patch (Err fault) same h = absurd cc

  by_refusal : (o : Option PlanRefusal) → upload_refusal t ≡ o → Goal (after_of patch t)
  by_refusal None clear =
      by_patch (confirms t (plan t) answers) (sym (ap (λ r. on_upload t answers (unless r (plan t))) clear) ∙ is)
      (answers_carry answers (plan t) 1 [] t (start_steady t sound clear) (none_named t) k (wish (Some e)) (starts t k e there known))
  by_refusal (Some refusal) some =
      let never = sym (ap (λ r. on_upload t answers (unless r (plan t))) some) ∙ is in absurd cc

pub confirm_keeps : (t : TableValue) (answers : List Answer) (patch : PatchValue) → IsSound t → confirm t answers ≡ Ok patch → KeepsAllCalled (names_told [] answers) t (after_of patch t)
confirm_keeps t answers patch sound is k e there edits = by_refusal t answers patch sound is k e there (edited_known e edits) (upload_refusal t) refl
