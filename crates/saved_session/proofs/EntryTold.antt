-- The lines of an entry are those that are told.
use Rattle.std.proofs.Common.{◌≡◌, ℕ, Bool, true, false, not, ◌&&◌, cond, codes, List, [], ◌∷◌, ◌++◌, Option, Some, None, refl, sym, ap, ◌∙◌}
use Rattle.std.specs.Prelude.{◌↔◌, is_some}
use Rattle.std.specs.Option.{option_map_or}
use Rattle.osm_base.specs.Meta.{empty_meta}
use Rattle.osm_base.specs.Number.{key_written}
use Rattle.osm_base.specs.declared.content.Content.{Content}
use Rattle.osm_base.specs.declared.key.Key.{Key}
use Rattle.osm_table.specs.Same.{same_mine}
use Rattle.osm_table.specs.Table.{held_by, is_new}
use Rattle.osm_table.specs.declared.entry.Base.{Base}
use Rattle.osm_table.specs.declared.entry.Base.TheVariants.{New, Live, Gone}
use Rattle.osm_table.specs.declared.entry.Conflict.{Conflict}
use Rattle.osm_table.specs.declared.entry.Entry.{Entry}
use Rattle.osm_table.specs.declared.entry.Entry.TheVariants.{Incomplete, Known}
use Rattle.osm_table.specs.declared.entry.Why.{Why}
use Rattle.osm_table.specs.declared.entry.Why.TheVariants.{Changed, Held, Withdrawn}
use Rattle.opl_line.specs.Written.{written}
use Rattle.saved_session.specs.EntryTold.{base_name, line_if, mine_name, told_lines, why_name}
use Rattle.saved_session.specs.Saved.{base_lines, entry_lines, mine_lines, mine_version, server_written, theirs_lines}
use Rattle.saved_session.specs.Words.{base_word, base_written, mine_word, mine_written, why_word, why_written, words_of, words_written}
use Rattle.saved_session.specs.declared.words.MineWord.TheVariants.{Same, Absent, Own}

-- The words.

cause_told : (why : Why) → 32 ∷ why_written (Some why) ≡ why_name why
cause_told Changed = refl
cause_told Held = refl
cause_told Withdrawn = refl

why_told : (conflict : Option Conflict) → 32 ∷ why_written (why_word conflict) ≡ option_map_or (λ (c : Conflict). why_name c.why) conflict (codes " none")
why_told None = refl
why_told (Some conflict) = cause_told conflict.why

mine_told : (same own : Bool) (rest : List ℕ) → 32 ∷ (mine_written (cond same Same (cond own Own Absent)) ++ rest) ≡ cond same (codes " same") (cond own (codes " own") (codes " none")) ++ rest
mine_told true own rest = refl
mine_told false true rest = refl
mine_told false false rest = refl

base_told : (base : Base) (rest : List ℕ) → 32 ∷ (base_written (base_word base) ++ rest) ≡ base_name base ++ rest
base_told New rest = refl
base_told (Live version content meta) rest = refl
base_told (Gone version meta) rest = refl

words_told : (base : Base) (mine : Option Content) (conflict : Option Conflict) → 32 ∷ words_written (words_of base mine conflict) ≡ base_name base ++ (mine_name base mine ++ option_map_or (λ (c : Conflict). why_name c.why) conflict (codes " none"))
words_told base mine conflict =
    base_told base (32 ∷ (mine_written (mine_word base mine) ++ 32 ∷ why_written (why_word conflict)))
    ∙ ap (λ text. base_name base ++ text) (mine_told (same_mine mine (held_by base)) (is_some mine) (32 ∷ why_written (why_word conflict)))
    ∙ ap (λ text. base_name base ++ (mine_name base mine ++ text)) (why_told conflict)

-- The lines.

base_line : (key : Key) (base : Base) → base_lines key base ≡ line_if (not (is_new base)) (codes "base " ++ server_written key base)
base_line key New = refl
base_line key (Live version content meta) = refl
base_line key (Gone version meta) = refl

mine_line : (key : Key) (mine : Option Content) (same : Bool) → mine_lines key (cond same Same (cond (is_some mine) Own Absent)) mine ≡ line_if (is_some mine && not same) (codes "mine " ++ written key (mine_version key.id) mine empty_meta)
mine_line key None true = refl
mine_line key None false = refl
mine_line key (Some c) true = refl
mine_line key (Some c) false = refl

theirs_line : (key : Key) (conflict : Option Conflict) → theirs_lines key conflict ≡ option_map_or (λ (c : Conflict). line_if true (codes "theirs " ++ server_written key c.theirs)) conflict []
theirs_line key None = refl
theirs_line key (Some conflict) = refl

lines_told : (key : Key) (e : Entry) → entry_lines key e ≡ told_lines key e
lines_told key Incomplete = refl
lines_told key (Known base mine conflict) = λ i.
    (codes "known " ++ (key_written key ++ words_told base mine conflict i))
    ∷ (base_line key base i ++ (mine_line key mine (same_mine mine (held_by base)) i ++ theirs_line key conflict i))

pub told_exactly : (key : Key) (e : Entry) (answer : List (List ℕ)) → (entry_lines key e ≡ answer) ↔ (told_lines key e ≡ answer)
told_exactly key e answer = (λ is. sym (lines_told key e) ∙ is, λ is. lines_told key e ∙ is)
