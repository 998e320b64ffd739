-- What was read of an entry can be written: in each place, and of each entry that has ended.
use Rattle.std.proofs.Common.{◌≡◌, ℕ, ◌+◌, Bool, true, false, cond, not, ◌&&◌, ◌==◌, List, [], ◌∷◌, Option, Some, None, Result, Ok, Err, is_some, refl, sym, subst, ◌∙◌}
use Rattle.std.specs.Prelude.{codes}
use Rattle.std.specs.Str.{bytes_eq}
use Rattle.std.proofs.lemmas.Bool.{and_parts}
use Rattle.std.proofs.lemmas.Option.{same_Some, cond_some}
use Rattle.osm_base.specs.Number.{IsId}
use Rattle.osm_base.specs.Rank.{is_key}
use Rattle.osm_base.specs.Meta.{empty_meta}
use Rattle.osm_base.specs.Same.{same_meta}
use Rattle.osm_base.specs.declared.key.Key.{Key}
use Rattle.osm_base.specs.declared.meta.Meta.{Meta}
use Rattle.osm_base.specs.declared.content.Content.{Content}
use Rattle.osm_base.proofs.RisingKeys.{one_key}
use Rattle.osm_base.proofs.Tests.{only_passed}
use Rattle.osm_table.specs.Same.{same_mine}
use Rattle.osm_table.specs.Table.{IfContent, held_by}
use Rattle.osm_table.specs.declared.entry.Base.{Base}
use Rattle.osm_table.specs.declared.entry.Base.TheVariants as bases
use Rattle.osm_table.specs.declared.entry.Why.{Why}
use Rattle.osm_table.specs.declared.entry.Conflict.{Conflict}
use Rattle.osm_table.specs.declared.entry.Entry.{Entry}
use Rattle.osm_table.specs.declared.entry.Entry.TheVariants as entry
use Rattle.opl_line.specs.declared.mode.Mode.TheVariants.{Import}
use Rattle.opl_line.specs.declared.fault.LineFault.{LineFault}
use Rattle.opl_line.specs.declared.object.OplObject.{OplObject}
use Rattle.opl_line.specs.declared.object.LineKind.{LineKind}
use Rattle.opl_line.specs.declared.object.LineKind.TheVariants.{Skipped, Object}
use Rattle.opl_line.specs.Line.{freed, line_of}
use Rattle.opl_line.specs.Writable.{IsReadObject, IsWritable}
use Rattle.opl_line.proofs.Readable.{read_kind}
use Rattle.saved_session.specs.Words.{behind_word, first_word, head_of}
use Rattle.saved_session.specs.Saved.{mine_version}
use Rattle.saved_session.specs.Reading.{Entries, awaiting, base_as, base_at, ending, entries_from, has_ended, is_behind, may_stand, mine_at, object_behind, object_in, object_text, object_written, onto, server_base, step, theirs_at, with_base, with_head, with_mine, with_words}
use Rattle.saved_session.specs.declared.words.BaseWord.{BaseWord}
use Rattle.saved_session.specs.declared.words.BaseWord.TheVariants.{New, Live, Gone}
use Rattle.saved_session.specs.declared.words.MineWord.{MineWord}
use Rattle.saved_session.specs.declared.words.MineWord.TheVariants.{Same, Absent, Own}
use Rattle.saved_session.specs.declared.words.Words.{Words}
use Rattle.saved_session.specs.declared.words.Head.{Head}
use Rattle.saved_session.specs.declared.words.Head.TheVariants.{Incomplete, Known, End}
use Rattle.saved_session.specs.declared.place.Place.{Place}
use Rattle.saved_session.specs.declared.place.Place.TheVariants as place
use Rattle.saved_session.specs.declared.place.Step.{Step}
use Rattle.saved_session.proofs.ByKey.{Every}
use Rattle.saved_session.proofs.HeadRead.{head_id}
use Rattle.saved_session.proofs.LinesBack.{both_read}
use Rattle.saved_session.proofs.ReadBack.{ok_is, stepped_ok}
use Rattle.saved_session.proofs.WordsAgain.{IsHead}
use Rattle.saved_session.proofs.Writable.{IsBaseWritable, IsSavableEntry, IsServerWritable, none_known, own_version}

-- mine, as it stands in its line
abbrev pub IsOwn : Key → Content → Type 0
IsOwn key c = IsWritable key (mine_version key.id) (Some c) empty_meta

pub own_from : (key : Key) (version : ℕ) (c : Content) (meta : Meta) → IsWritable key version (Some c) meta → IsOwn key c
own_from key version c meta good = record { id = good.id; version_fits = own_version key.id; content = good.content; known = none_known }

-- ---- objects

in_writable : (r : Result LineKind LineFault) (o : OplObject) → ((kind : LineKind) → r ≡ Ok kind → IsReadObject Import kind) → object_in r ≡ Some o → IsWritable o.key o.version o.side o.meta
in_writable (Ok (Object x)) o h e = subst (λ (o : OplObject). IsWritable o.key o.version o.side o.meta) (same_Some x o e) (h (Object x) refl).0
in_writable (Ok Skipped) o h e = absurd cc
in_writable (Err fault) o h e = absurd cc

text_writable : (key : Key) (text : List ℕ) (o : OplObject) → object_text key text ≡ Some o → IsWritable key o.version o.side o.meta
unfolding object_text
text_writable key text o e =
    let p = both_read (λ x. cond (is_key key x.key && bytes_eq (object_written x) text) (Some x) None) (object_in (line_of Import text)) o e in
    let q = cond_some (is_key key p.0.key && bytes_eq (object_written p.0) text) p.0 o p.2 in
    let tests = and_parts (is_key key p.0.key) (bytes_eq (object_written p.0) text) q.0 in
    let good = in_writable (line_of Import text) p.0 (λ kind is. read_kind Import text kind is) p.1 in
    subst (λ (x : OplObject). IsWritable key x.version x.side x.meta) q.1 (subst (λ (k : Key). IsWritable k p.0.version p.0.side p.0.meta) (sym (one_key key p.0.key tests.0)) good)

behind_writable : (word : List ℕ) (key : Key) (line : List ℕ) (o : OplObject) → object_behind word key line ≡ Some o → IsWritable key o.version o.side o.meta
unfolding object_behind
behind_writable word key line o e =
    let p = both_read (λ text. cond (bytes_eq (first_word line) word) (object_text key text) None) (behind_word line) o e in
    let q = only_passed (bytes_eq (first_word line) word) (object_text key p.0) o p.2 in
    text_writable key p.0 o q.1

as_writable : (key : Key) (word : BaseWord) (version : ℕ) (side : Option Content) (meta : Meta) (base : Base) → IsWritable key version side meta → base_as word version side meta ≡ Some base → IsBaseWritable key base
as_writable key New version side meta base good e = absurd cc
as_writable key Live version (Some content) meta base good e = subst (IsBaseWritable key) (same_Some (bases.Live version content meta) base e) good
as_writable key Live version None meta base good e = absurd cc
as_writable key Gone version (Some content) meta base good e = absurd cc
as_writable key Gone version None meta base good e = subst (IsBaseWritable key) (same_Some (bases.Gone version meta) base e) good

base_fits : (key : Key) (word : BaseWord) (line : List ℕ) (base : Base) → base_at key word line ≡ Some base → IsBaseWritable key base
unfolding base_at
base_fits key word line base e =
    let p = both_read (λ o. base_as word o.version o.side o.meta) (object_behind (codes "base") key line) base e in
    as_writable key word p.0.version p.0.side p.0.meta base (behind_writable (codes "base") key line p.0 p.1) p.2

side_fits : (key : Key) (version : ℕ) (side : Option Content) (meta : Meta) → IsWritable key version side meta → IfContent side (IsOwn key)
side_fits key version None meta good = tt
side_fits key version (Some c) meta good = own_from key version c meta good

mine_fits : (key : Key) (base : Base) (line : List ℕ) (mine : Option Content) → mine_at key base line ≡ Some mine → IfContent mine (IsOwn key)
unfolding mine_at
mine_fits key base line mine e =
    let p = both_read (λ o. cond (is_some o.side && not (same_mine o.side (held_by base)) && o.version == mine_version key.id && same_meta o.meta empty_meta) (Some o.side) None) (object_behind (codes "mine") key line) mine e in
    let q = cond_some (is_some p.0.side && not (same_mine p.0.side (held_by base)) && p.0.version == mine_version key.id && same_meta p.0.meta empty_meta) p.0.side mine p.2 in
    subst (λ (m : Option Content). IfContent m (IsOwn key)) q.1 (side_fits key p.0.version p.0.side p.0.meta (behind_writable (codes "mine") key line p.0 p.1))

server_fits : (key : Key) (version : ℕ) (side : Option Content) (meta : Meta) → IsWritable key version side meta → IsServerWritable key (server_base version side meta)
server_fits key version (Some c) meta good = good
server_fits key version None meta good = good

theirs_fits : (key : Key) (line : List ℕ) (theirs : Base) → theirs_at key line ≡ Some theirs → IsServerWritable key theirs
unfolding theirs_at
theirs_fits key line theirs e =
    let p = both_read (λ o. Some (server_base o.version o.side o.meta)) (object_behind (codes "theirs") key line) theirs e in
    subst (IsServerWritable key) (same_Some (server_base p.0.version p.0.side p.0.meta) theirs p.2) (server_fits key p.0.version p.0.side p.0.meta (behind_writable (codes "theirs") key line p.0 p.1))

-- ---- places

-- what was read of an entry so far
abbrev pub Fits : Place → Type 0
Fits (place.Head last) = Unit {0}
Fits (place.Base key words) = IsId key.id × (words.base ≡ New → ⊥)
Fits (place.Mine key base why) = IsId key.id × IsBaseWritable key base
Fits (place.Theirs key base mine why) = IsId key.id × IsBaseWritable key base × IfContent mine (IsOwn key)
Fits place.Behind = Unit {0}

abbrev IsEnded : Option (Key × Entry) → Type 0
IsEnded None = Unit {0}
IsEnded (Some e) = IsSavableEntry e.0 e.1

pub record IsFitStep (s : Step) : Type 0 where
  pub here : Fits s.place
  pub ended : IsEnded s.entry

held_own : (key : Key) (base : Base) → IsBaseWritable key base → IfContent (held_by base) (IsOwn key)
held_own key bases.New good = tt
held_own key (bases.Live version content meta) good = own_from key version content meta good
held_own key (bases.Gone version meta) good = tt

mine_step_fits : (key : Key) (base : Base) (mine : Option Content) (why : Option Why) → IsId key.id → IsBaseWritable key base → IfContent mine (IsOwn key) → IsFitStep (with_mine key base mine why)
mine_step_fits key base mine None id b m = record { here = tt; ended = (id, record { base_is = b; mine_is = m; theirs_is = tt }) }
mine_step_fits key base mine (Some why) id b m = record { here = (id, b, m); ended = tt }

base_step_fits : (key : Key) (base : Base) (word : MineWord) (why : Option Why) → IsId key.id → IsBaseWritable key base → IsFitStep (with_base key base word why)
base_step_fits key base Same why id b = mine_step_fits key base (held_by base) why id b (held_own key base b)
base_step_fits key base Absent why id b = mine_step_fits key base None why id b tt
base_step_fits key base Own why id b = record { here = (id, b); ended = tt }

words_step_fits : (key : Key) (word : BaseWord) (words : Words) → IsId key.id → words.base ≡ word → IsFitStep (with_words key word words)
words_step_fits key New words id is = base_step_fits key bases.New words.mine words.why id tt
words_step_fits key Live words id is = record { here = (id, λ new. let no : Live ≡ New = sym is ∙ new in absurd cc); ended = tt }
words_step_fits key Gone words id is = record { here = (id, λ new. let no : Gone ≡ New = sym is ∙ new in absurd cc); ended = tt }

head_step_fits : (last : Option Key) (head : Head) (s : Step) → IsHead head → with_head last head ≡ Some s → IsFitStep s
head_step_fits last End s id e = subst IsFitStep (same_Some (awaiting place.Behind) s e) (record { here = tt; ended = tt })
head_step_fits last (Incomplete key) s id e = subst IsFitStep (cond_some (is_behind last key) (ending key entry.Incomplete) s e).1 (record { here = tt; ended = (id, tt) })
head_step_fits last (Known key words) s id e =
    subst IsFitStep (cond_some (is_behind last key && may_stand words.mine words.base) (with_words key words.base words) s e).1 (words_step_fits key words.base words id refl)

pub step_fits : (here : Place) (line : List ℕ) (s : Step) → Fits here → step here line ≡ Some s → IsFitStep s
unfolding step
step_fits (place.Head last) line s h e =
    let p = both_read (λ head. with_head last head) (head_of line) s e in
    head_step_fits last p.0 s (head_id line p.0 p.1) p.2
step_fits (place.Base key words) line s h e =
    let p = both_read (λ base. Some (with_base key base words.mine words.why)) (base_at key words.base line) s e in
    subst IsFitStep (same_Some (with_base key p.0 words.mine words.why) s p.2) (base_step_fits key p.0 words.mine words.why h.0 (base_fits key words.base line p.0 p.1))
step_fits (place.Mine key base why) line s h e =
    let p = both_read (λ mine. Some (with_mine key base mine why)) (mine_at key base line) s e in
    subst IsFitStep (same_Some (with_mine key base p.0 why) s p.2) (mine_step_fits key base p.0 why h.0 h.1 (mine_fits key base line p.0 p.1))
step_fits (place.Theirs key base mine why) line s h e =
    let p = both_read (λ theirs. Some (ending key (entry.Known base mine (Some (record { why = why; theirs = theirs }))))) (theirs_at key line) s e in
    let c : Conflict = record { why = why; theirs = p.0 } in
    subst IsFitStep (same_Some (ending key (entry.Known base mine (Some c))) s p.2)
    (record { here = tt; ended = (h.0, record { base_is = h.1; mine_is = h.2; theirs_is = theirs_fits key line p.0 p.1 }) })
step_fits place.Behind line s h e = subst IsFitStep (same_Some (awaiting place.Behind) s e) (record { here = tt; ended = tt })

-- ---- all lines

none_fit : (b : Bool) (n : ℕ) (es : Entries) → cond b (Ok []) (Err n) ≡ Ok es → Every IsSavableEntry es
none_fit true n es e = subst (Every IsSavableEntry) (ok_is [] es e) tt
none_fit false n es e = absurd cc

onto_fits : (o : Option (Key × Entry)) (r : Result Entries ℕ) (es : Entries) → IsEnded o → onto o r ≡ Ok es → ((fs : Entries) → r ≡ Ok fs → Every IsSavableEntry fs) → Every IsSavableEntry es
onto_fits None r es ended e rest = rest es e
onto_fits (Some x) (Ok fs) es ended e rest = subst (Every IsSavableEntry) (ok_is (x ∷ fs) es e) (ended, rest fs refl)
onto_fits (Some x) (Err n) es ended e rest = absurd cc

-- entries that were read can be written
pub entries_fit : (n : ℕ) (here : Place) (lines : List (List ℕ)) (es : Entries) → Fits here → entries_from n here lines ≡ Ok es → Every IsSavableEntry es
entries_fit n here [] es h e = none_fit (has_ended here) n es e
entries_fit n here (line ∷ lines) es h e =
    let p = stepped_ok n (step here (freed line)) (λ s. onto s.entry (entries_from (n + 1) s.place lines)) es e in
    let f = step_fits here (freed line) p.0 h p.1 in
    onto_fits p.0.entry (entries_from (n + 1) p.0.place lines) es f.ended p.2 (λ fs i. entries_fit (n + 1) p.0.place lines fs f.here i)
