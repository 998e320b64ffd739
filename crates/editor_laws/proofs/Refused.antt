-- The turned definitions over a small table: `IsHeard` and `Keeps` refuse them, and words of the content alone don't.
use Rattle.std.proofs.Common.{◌≡◌, ◌++◌, pos, true, false, List, [], ◌∷◌, map, Option, Some, None, refl, sym, ap, subst, inl, inr}
use Rattle.std.specs.Option.{option_map_or}
use Rattle.std.specs.FinMap as fin
use Rattle.std.specs.FinMap.Entries.{find}
use Rattle.std.proofs.lemmas.Bool.{true≢false}
use Rattle.osm_base.specs.Rank.{rank_cmp}
use Rattle.osm_base.specs.Content.{node}
use Rattle.osm_base.specs.Meta.{empty_meta}
use Rattle.osm_base.specs.Same.{same_content}
use Rattle.osm_base.specs.declared.content.Content.{Content}
use Rattle.osm_base.specs.declared.content.Content.TheVariants.{Node}
use Rattle.osm_base.specs.declared.key.Key.{Key}
use Rattle.osm_table.specs.declared.entry.Base.{Base}
use Rattle.osm_table.specs.declared.entry.Base.TheVariants as base
use Rattle.osm_table.specs.declared.entry.Conflict.{Conflict}
use Rattle.osm_table.specs.declared.entry.Entry.{Entry}
use Rattle.osm_table.specs.declared.entry.Entry.TheVariants.{Incomplete, Known}
use Rattle.osm_table.specs.declared.told.Told.{Told}
use Rattle.osm_table.specs.declared.told.Told.TheVariants as told
use Rattle.osm_table.specs.Table.{TableValue}
use Rattle.osm_table.specs.Told.{ToldEntries}
use Rattle.merge_cases.specs.declared.verdict.Verdict.TheVariants.{Stay}
use Rattle.merge_cases.specs.Case.{verdict_of}
use Rattle.tool_api.specs.Staged.{Staged, is_candidate, theirs_told}
use Rattle.tool_api.specs.Merged.{final}
use Rattle.editor_laws.specs.Heard.{HasChanges, IsHeard}
use Rattle.editor_laws.specs.Kept.{Keeps}
use Rattle.editor_laws.specs.Parts.{KeepsParts}
use Rattle.editor_laws.proofs.Turned.{KeepsContent, made_base, turned, turned_at}

-- n1 stood here, was moved to the east by the mapper, and by others to the north in version 2
abbrev before : Content
before = Node [] (record { lon = pos 0; lat = pos 0; on_map = refl })

abbrev mine : Content
mine = Node [] (record { lon = pos 3; lat = pos 0; on_map = refl })

abbrev theirs : Content
theirs = Node [] (record { lon = pos 0; lat = pos 5; on_map = refl })

abbrev version_1 : Base
version_1 = base.Live 1 before empty_meta

abbrev version_2 : Base
version_2 = base.Live 2 theirs empty_meta

abbrev moved : Entry
moved = Known version_1 (Some mine) None

abbrev n1 : Key
n1 = node (pos 1)

abbrev entries : List (Key × Entry)
entries = (n1, moved) ∷ []

abbrev tells : List (Key × Told)
tells = (n1, told.Live 2 theirs empty_meta) ∷ []

abbrev table : TableValue
table = record { entries = fin.from_sorted entries; next = 1 }

abbrev news : ToldEntries
news = fin.from_sorted tells

-- The same over lists, on which it computes.
abbrev stage : Option Entry → Option Told → Staged
stage o s = record {
  entry = turned (option_map_or (verdict_of o) s Stay) o (option_map_or theirs_told s base.New);
  candidate = is_candidate (option_map_or (verdict_of o) s Stay);
  theirs = option_map_or theirs_told s base.New;
}

by_lists : turned_at table news n1 ≡ final (λ j. stage (find rank_cmp j entries) (find rank_cmp j tells)) (map (λ e. e.0) entries ++ map (λ e. e.0) tells) n1
by_lists = λ i. final (λ j. stage (fin.get-from_sorted rank_cmp entries j tt i) (fin.get-from_sorted rank_cmp tells j tt i)) (map (λ e. e.0) (fin.entries-from_sorted rank_cmp entries tt i) ++ map (λ e. e.0) (fin.entries-from_sorted rank_cmp tells tt i)) n1

-- What the turned merge makes of n1: the next upload sends mine at version 2, and takes their move back.
rebased_is : turned_at table news n1 ≡ Some (Known version_2 (Some mine) None)
rebased_is = by_lists

-- Nobody hears of it,
rebased_is_unheard : IsHeard version_2 (Some before) (turned_at table news n1) → ⊥
rebased_is_unheard h =
    let has : HasChanges (Some theirs) (Some before) (Some mine) = (subst (IsHeard version_2 (Some before)) rebased_is h).1 in
    let same : has.0 ≡ mine = (let i : Some mine ≡ Some has.0 = has.1 in cc) in
    let kept : KeepsParts before theirs mine = subst (KeepsParts before theirs) same has.2 in
    let other : mine ≡ theirs = kept.body refl in
    true≢false (ap (same_content mine) other)

-- and it doesn't keep the edit, which stands on a base that it hadn't,
rebased_is_not_kept : Keeps (Some (told.Live 2 theirs empty_meta)) moved (turned_at table news n1) → ⊥
rebased_is_not_kept h = by (subst (Keeps (Some (told.Live 2 theirs empty_meta)) moved) rebased_is h)
  where
    by : Keeps (Some (told.Live 2 theirs empty_meta)) moved (Some (Known version_2 (Some mine) None)) → ⊥
    by (inl kept) = let other : Some version_1 ≡ Some version_2 = kept.2.0 in cc
    by (inr (inl joined)) = let none : Some mine ≡ None = joined.2 in cc
    by (inr (inr there)) = let other : Some theirs ≡ Some mine = there.1 in true≢false (ap (λ (o : Option Content). option_map_or (same_content theirs) o false) other)

-- though it keeps its content.
rebased_keeps_the_content : KeepsContent (Some (told.Live 2 theirs empty_meta)) moved (turned_at table news n1)
rebased_keeps_the_content = subst (KeepsContent (Some (told.Live 2 theirs empty_meta)) moved) (sym rebased_is) (inl (refl, refl))

-- `tag n9 Ta=1` makes mine the base of n1: no upload sends the move. Its content is kept,
made_base_keeps_the_content : KeepsContent None moved (Some (made_base moved))
made_base_keeps_the_content = inl (refl, refl)

-- and the edit isn't.
made_base_is_not_kept : Keeps None moved (Some (made_base moved)) → ⊥
made_base_is_not_kept (inl kept) = true≢false (sym kept.0)
made_base_is_not_kept (inr (inl joined)) = joined.0
made_base_is_not_kept (inr (inr there)) = there.0

-- What is kept keeps its content.
stronger : (told : Option Told) (b : Base) (m : Option Content) (f : Option Conflict) (after : Option Entry) → Keeps told (Known b m f) after → KeepsContent told (Known b m f) after
stronger told b m f None (inl h) = absurd h
stronger told b m f None (inr (inl h)) = absurd h
stronger told b m f None (inr (inr h)) = absurd h
stronger told b m f (Some Incomplete) (inl h) = absurd h
stronger told b m f (Some Incomplete) (inr (inl h)) = absurd h
stronger told b m f (Some Incomplete) (inr (inr h)) = inr (inr h)
stronger told b m f (Some (Known d x g)) (inl h) = inl (refl, h.1)
stronger told b m f (Some (Known d x None)) (inr (inl h)) = inr (inl (h.1, h.2))
stronger told b m f (Some (Known d x (Some g))) (inr (inl h)) = absurd h
stronger told b m f (Some (Known d x None)) (inr (inr h)) = inr (inr h.1)
stronger told b m f (Some (Known d x (Some g))) (inr (inr h)) = inr (inr h.1)
