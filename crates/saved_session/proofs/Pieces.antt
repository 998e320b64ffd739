-- The text of a table as its lines, each ended by LF.
use Rattle.std.proofs.Common.{◌≡◌, ℕ, List, [], ◌∷◌, ◌++◌, map, Option, Some, refl, sym, ap, ◌∙◌}
use Rattle.std.specs.FinMap as fin
use Rattle.std.specs.List.{flat_map}
use Rattle.std.proofs.lemmas.Grind.{flat_map-append}
use Rattle.std.proofs.lemmas.List.{append_assoc}
use Rattle.osm_base.specs.declared.key.Key.{Key}
use Rattle.osm_base.specs.declared.content.Content.{Content}
use Rattle.osm_table.specs.declared.entry.Entry.{Entry}
use Rattle.osm_table.specs.declared.entry.Base.{Base}
use Rattle.osm_table.specs.declared.entry.Conflict.{Conflict}
use Rattle.osm_table.specs.Table.{TableValue, entry_of}
use Rattle.saved_session.specs.Words.{head_written, words_of, mine_word}
use Rattle.saved_session.specs.Saved.{base_lines, mine_lines, theirs_lines, entry_lines, entries_lines, entry_written, ended, saved, saved_end, saved_entry, saved_head, saved_lines, shown}
use Rattle.saved_session.specs.Pieces.{sides_written, known_written}
use Rattle.saved_session.specs.Reading.{Entries}
use Rattle.saved_session.specs.declared.words.Head.TheVariants.{Known}
use Rattle.saved_session.proofs.ByKey.{Every, every_found}

pub ended_append : (a b : List (List ℕ)) → ended (a ++ b) ≡ ended a ++ ended b
ended_append a b = flat_map-append (λ line. line ++ 10 ∷ []) a b

-- a known entry's text in its parts
pub known_parts : (key : Key) (base : Base) (mine : Option Content) (conflict : Option Conflict) →
    known_written key base mine conflict ≡ (head_written (Known key (words_of base mine conflict)) ++ 10 ∷ []) ++ sides_written key base mine conflict
known_parts key base mine conflict =
    let mines = mine_lines key (mine_word base mine) mine in
    let theirs = theirs_lines key conflict in
    ap (λ (t : List ℕ). (head_written (Known key (words_of base mine conflict)) ++ 10 ∷ []) ++ t)
    (ended_append (base_lines key base) (mines ++ theirs) ∙ ap (λ (t : List ℕ). ended (base_lines key base) ++ t) (ended_append mines theirs))

keys_text : (t : TableValue) (es : Entries) → Every (λ k e. entry_of t k ≡ Some e) es → ended (entries_lines es) ≡ flat_map (saved_entry t) (map (λ e. e.0) es) ++ saved_end
unfolding saved_entry saved_end
keys_text t [] h = refl
keys_text t (e ∷ es) h =
    ended_append (entry_lines e.0 e.1) (entries_lines es)
    ∙ ap (λ (text : List ℕ). entry_written e.0 e.1 ++ text) (keys_text t es h.1)
    ∙ sym (append_assoc (entry_written e.0 e.1) (flat_map (saved_entry t) (map (λ e. e.0) es)) saved_end)
    ∙ ap (λ (o : Option Entry). (shown e.0 o ++ flat_map (saved_entry t) (map (λ e. e.0) es)) ++ saved_end) (sym h.0)

-- the text of a table is its lines
pub saved_is : (t : TableValue) → saved t ≡ ended (saved_lines t)
unfolding saved saved_head
saved_is t = sym (ap (λ (text : List ℕ). saved_head t.next ++ text)
    (keys_text t (fin.entries t.entries) (every_found (λ k e. entry_of t k ≡ Some e) (fin.entries t.entries) (fin.entries_sorted t.entries) (λ k e found. fin.get-entries t.entries k ∙ found))))
