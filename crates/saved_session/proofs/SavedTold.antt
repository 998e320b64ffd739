-- The text of a table is its lines, and so is that of each entry.
use Rattle.std.proofs.Common.{◌≡◌, ℕ, List, [], ◌∷◌, ◌++◌, Option, Some, None, refl, sym, ap, ◌∙◌}
use Rattle.std.specs.Prelude.{◌↔◌}
use Rattle.std.specs.FinMap as fin
use Rattle.std.specs.List.{flat_map}
use Rattle.std.specs.Option.{option_map_or}
use Rattle.std.proofs.lemmas.List.{append_assoc}
use Rattle.osm_base.specs.declared.key.Key.{Key}
use Rattle.osm_table.specs.Table.{TableValue, entry_of}
use Rattle.osm_table.specs.declared.entry.Entry.{Entry}
use Rattle.saved_session.specs.Saved.{ended, entries_lines, entry_lines, saved, saved_entry, saved_lines, shown}
use Rattle.saved_session.specs.Words.{end_written, header_written}
use Rattle.saved_session.proofs.Pieces.{saved_is}

all_lines : (es : List (Key × Entry)) → entries_lines es ≡ flat_map (λ (e : Key × Entry). entry_lines e.0 e.1) es ++ end_written ∷ []
all_lines [] = refl
all_lines (e ∷ es) =
    ap (λ (lines : List (List ℕ)). entry_lines e.0 e.1 ++ lines) (all_lines es)
    ∙ sym (append_assoc (entry_lines e.0 e.1) (flat_map (λ (e : Key × Entry). entry_lines e.0 e.1) es) (end_written ∷ []))

pub lines_told : (t : TableValue) (answer : List (List ℕ)) → (saved_lines t ≡ answer) ↔ (header_written t.next ∷ (flat_map (λ (e : Key × Entry). entry_lines e.0 e.1) (fin.entries t.entries) ++ end_written ∷ []) ≡ answer)
lines_told t answer =
    let is = ap (λ (lines : List (List ℕ)). header_written t.next ∷ lines) (all_lines (fin.entries t.entries)) in
    (λ e. sym is ∙ e, λ e. is ∙ e)

pub text_told : (t : TableValue) (answer : List ℕ) → (saved t ≡ answer) ↔ (ended (saved_lines t) ≡ answer)
text_told t answer = (λ e. sym (saved_is t) ∙ e, λ e. saved_is t ∙ e)

shown_is : (key : Key) (o : Option Entry) → shown key o ≡ option_map_or (λ (e : Entry). ended (entry_lines key e)) o []
shown_is key None = refl
shown_is key (Some e) = refl

pub entry_told : (t : TableValue) (key : Key) (answer : List ℕ) → (saved_entry t key ≡ answer) ↔ (option_map_or (λ (e : Entry). ended (entry_lines key e)) (entry_of t key) [] ≡ answer)
unfolding saved_entry
entry_told t key answer = (λ e. sym (shown_is key (entry_of t key)) ∙ e, λ e. shown_is key (entry_of t key) ∙ e)
