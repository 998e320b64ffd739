-- The closing tests find by the draft's keys what they find by all keys of the tables.
use Rattle.std.proofs.Common.{◌≡◌, ◌&&◌, Bool, true, false, not, is_some, Option, Some, None, List, refl, sym, ◌∙◌, ap}
use Rattle.std.proofs.lemmas.Bool.{and_right, not_from_true}
use Rattle.std.specs.Option.{option_map, option_and_then, unwrap_or}
use Rattle.std.specs.List.{find}
use Rattle.std.specs.FinMap as fin
use Rattle.osm_base.specs.Content.{fits}
use Rattle.osm_base.specs.RisingKeys.{is_in}
use Rattle.osm_base.proofs.ByRank.{same_least}
use Rattle.osm_base.specs.declared.key.Key.{Key}
use Rattle.osm_base.specs.declared.content.Content.{Content}
use Rattle.osm_base.proofs.Tests.{by_bool, none_from_test}
use Rattle.osm_table.proofs.SameLaws.{same_mine_decides}
use Rattle.osm_table.specs.declared.entry.Entry.{Entry}
use Rattle.osm_table.specs.Table.{TableValue, entry_of, mine_of, keys_by_rank}
use Rattle.dataset.specs.Draft.{DraftValue, drafted}
use Rattle.dataset.proofs.Drafted.{get_drafted}
use Rattle.dataset.proofs.Differs.{same_at_decides}
use Rattle.tool_api.specs.declared.refusal.Refusal.TheVariants.{InConflict, Unfit}
use Rattle.tool_api.specs.Checks.{is_named}
use Rattle.tool_api.specs.Changes.{content_of}
use Rattle.tool_api.specs.Closing.{changes_conflict, in_conflict, conflict_change_test, makes_unfit, fit_test}

-- an entry that the draft doesn't name stays
pub left_alone : (d : DraftValue) (t : TableValue) (k : Key) → is_in k (fin.keys d.puts) ≡ false → entry_of (drafted d t) k ≡ entry_of t k
left_alone d t k out = get_drafted d t k ∙ ap (λ (o : Option (Option Entry)). unwrap_or o (entry_of t k)) (none_from_test (fin.get d.puts k) (fin.contains_key-keys d.puts k ∙ out))

-- a key that passes a test of changes is in the draft
in_draft : (d : DraftValue) (t : TableValue) (k : Key) (passes : Bool) → (entry_of (drafted d t) k ≡ entry_of t k → passes ≡ false) → passes ≡ true → is_in k (fin.keys d.puts) ≡ true
in_draft d t k passes unchanged e = by_bool (is_in k (fin.keys d.puts)) (λ there. there) (λ out. let never : false ≡ true = sym (unchanged (left_alone d t k out)) ∙ e in cc)

-- a key with an entry is among the keys
pub has_key : (t : TableValue) (k : Key) → is_some (entry_of t k) ≡ true → is_in k (keys_by_rank t) ≡ true
has_key t k some = sym (fin.contains_key-keys t.entries k) ∙ some

-- InConflict

first_of_three : (a b c : Bool) → (a && b && c) ≡ true → a ≡ true
first_of_three true b c e = refl
first_of_three false b c e = cc

not_third : (a b c : Bool) → c ≡ true → (a && b && not c) ≡ false
not_third true true true e = refl
not_third true false true e = refl
not_third false b true e = refl
not_third a b false e = cc

pub conflict_some : (o : Option Entry) → in_conflict o ≡ true → is_some o ≡ true
conflict_some None e = cc
conflict_some (Some e) h = refl

abbrev pub changes_conflict_at : TableValue → List Key → TableValue → Key → Bool
changes_conflict_at t named u k = changes_conflict named k (entry_of t k) (entry_of u k)

unchanged_calm : (t u : TableValue) (named : List Key) (k : Key) → entry_of u k ≡ entry_of t k → changes_conflict_at t named u k ≡ false
unchanged_calm t u named k e = not_third (in_conflict (entry_of t k)) (not (is_named named k)) _ ((same_at_decides (entry_of t k) (entry_of u k)).1 (sym e))

pub changes_conflict_of : (t : TableValue) (d : DraftValue) (named ks : List Key) (o : Option Key) → o ≡ find (changes_conflict_at t named (drafted d t)) ks → ks ≡ fin.keys d.puts → option_map InConflict o ≡ conflict_change_test t named (drafted d t)
changes_conflict_of t d named ks o found keys =
    ap (option_map InConflict) (found ∙ ap (find (changes_conflict_at t named (drafted d t))) keys
    ∙ sym (same_least (changes_conflict_at t named (drafted d t)) t.entries d.puts (λ k passes.
    has_key t k (conflict_some (entry_of t k) (first_of_three (in_conflict (entry_of t k)) _ _ passes)) ∙ sym (in_draft d t k _ (unchanged_calm t (drafted d t) named k) passes))))

-- Unfit

after_some : (before : Option Content) (o : Option Entry) → makes_unfit before (option_and_then mine_of o) ≡ true → is_some o ≡ true
after_some before None e = cc
after_some before (Some x) e = refl

unchanged_fits : (o : Option Content) → makes_unfit o o ≡ false
unchanged_fits None = refl
unchanged_fits (Some c) = and_right (not (fits c)) _ (not_from_true _ ((same_mine_decides (Some c) (Some c)).1 refl))

abbrev pub makes_unfit_at : TableValue → TableValue → Key → Bool
makes_unfit_at t u k = makes_unfit (content_of t k) (content_of u k)

unchanged_keeps_fit : (t u : TableValue) (k : Key) → entry_of u k ≡ entry_of t k → makes_unfit_at t u k ≡ false
unchanged_keeps_fit t u k e = ap (λ (o : Option Entry). makes_unfit (content_of t k) (option_and_then mine_of o)) e ∙ unchanged_fits (content_of t k)

pub makes_unfit_of : (t : TableValue) (d : DraftValue) (ks : List Key) (o : Option Key) → o ≡ find (makes_unfit_at t (drafted d t)) ks → ks ≡ fin.keys d.puts → option_map Unfit o ≡ fit_test t (drafted d t)
makes_unfit_of t d ks o found keys =
    ap (option_map Unfit) (found ∙ ap (find (makes_unfit_at t (drafted d t))) keys
    ∙ sym (same_least (makes_unfit_at t (drafted d t)) (drafted d t).entries d.puts (λ k passes.
    has_key (drafted d t) k (after_some (content_of t k) (entry_of (drafted d t) k) passes) ∙ sym (in_draft d t k _ (unchanged_keeps_fit t (drafted d t) k) passes))))
