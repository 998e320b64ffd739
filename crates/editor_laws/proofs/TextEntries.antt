-- Tables that are changed entry by entry.
use Rattle.std.proofs.Common.{◌≡◌, Bool, true, false, cond, List, [], ◌∷◌, Option, Some, None, refl, sym, subst}
use Rattle.std.specs.List.{AllByRecursion}
use Rattle.std.specs.Option.{option_map, option_and_then, option_map_or, option_or}
use Rattle.osm_base.specs.Content.{kind_of_content, tags_of}
use Rattle.osm_base.specs.Rank.{is_key}
use Rattle.osm_base.specs.declared.key.Key.{Key}
use Rattle.osm_base.specs.declared.content.Content.{Content}
use Rattle.osm_table.specs.declared.entry.Base.TheVariants.{New, Live, Gone}
use Rattle.osm_table.specs.declared.entry.Entry.{Entry}
use Rattle.osm_table.specs.declared.entry.Entry.TheVariants.{Incomplete, Known}
use Rattle.osm_table.specs.Table.{TableValue, IfContent, entry_of, mine_of}
use Rattle.osm_table.proofs.Each.{get_with}
use Rattle.merge_cases.specs.declared.choice.Choice.{Choice}
use Rattle.merge_cases.specs.Resolve.{resolved}
use Rattle.tool_api.specs.Changes.{changed, content_of, with_mine, deleted, edit, delete, new_key, added, all_added}
use Rattle.tool_api.specs.Checks.{is_named}
use Rattle.tool_api.specs.Split.{tags_at}
use Rattle.tool_api.proofs.Looks.{entry_changed}
use Rattle.editor_laws.proofs.SeenLists.{IfSome}
use Rattle.editor_laws.specs.Texts.{AreTexts, HasTexts, IsTextEntry, IsTextTable}
use Rattle.editor_laws.proofs.TextTags.{no_texts}
use Rattle.editor_laws.proofs.TextContents.{chosen_kept, tags_are}

-- what stands under a key, if anything
abbrev pub IsTextAt : Option Entry → Type 0
IsTextAt o = IfSome IsTextEntry o

by_entry : (t : TableValue) (k : Key) (o : Option Entry) → IsTextTable t → entry_of t k ≡ o → IsTextAt o
by_entry t k None h is = tt
by_entry t k (Some e) h is = h.entries k e is

pub text_at : (t : TableValue) (k : Key) → IsTextTable t → IsTextAt (entry_of t k)
text_at t k h = by_entry t k (entry_of t k) h refl

pub text_table : (t : TableValue) → ((k : Key) → IsTextAt (entry_of t k)) → IsTextTable t
text_table t h = record { entries = λ k e is. subst IsTextAt is (h k) }

-- the content of a key, and its tags
mine_case : (o : Option Entry) → IsTextAt o → IfContent (option_and_then mine_of o) HasTexts
mine_case None h = tt
mine_case (Some Incomplete) h = tt
mine_case (Some (Known base mine conflict)) h = h.1

pub mine_texts : (t : TableValue) (k : Key) → IsTextTable t → IfContent (content_of t k) HasTexts
mine_texts t k h = mine_case (entry_of t k) (text_at t k h)

tags_case : (o : Option Content) → IfContent o HasTexts → AreTexts (option_map_or tags_of o [])
tags_case None h = no_texts
tags_case (Some c) h = tags_are c h

pub tags_texts : (t : TableValue) → IsTextTable t → (k : Key) → AreTexts (tags_at t k)
tags_texts t h k = tags_case (content_of t k) (mine_texts t k h)

-- One entry.

edited_at : (f : Content → Content) (o : Option Entry) → ((c : Content) → HasTexts c → HasTexts (f c)) → IsTextAt o → IsTextAt (option_map (with_mine f) o)
edited_at f None keeps h = tt
edited_at f (Some Incomplete) keeps h = tt
edited_at f (Some (Known base None conflict)) keeps h = h
edited_at f (Some (Known base (Some c) conflict)) keeps h = (h.0, keeps c h.1, h.2)

deleted_at : (o : Option Entry) → IsTextAt o → IsTextAt (option_and_then deleted o)
deleted_at None h = tt
deleted_at (Some Incomplete) h = tt
deleted_at (Some (Known New mine conflict)) h = tt
deleted_at (Some (Known (Live v c m) mine conflict)) h = (h.0, tt, h.2)
deleted_at (Some (Known (Gone v m) mine conflict)) h = (h.0, tt, h.2)

pub settled_at : (choice : Choice) (o : Option Entry) → IsTextAt o → IsTextAt (option_map (resolved choice) o)
settled_at choice None h = tt
settled_at choice (Some Incomplete) h = tt
settled_at choice (Some (Known base mine None)) h = h
settled_at choice (Some (Known base mine (Some conflict))) h = (h.2, chosen_kept choice base mine conflict h.1 h.2, tt)

pub either_at : (b : Bool) (o p : Option Entry) → IsTextAt o → IsTextAt p → IsTextAt (cond b o p)
either_at true o p h i = h
either_at false o p h i = i

pub or_incomplete : (o : Option Entry) → IsTextAt o → IsTextAt (option_or o (Some Incomplete))
or_incomplete None h = tt
or_incomplete (Some e) h = h

-- Many.

pub changed_texts : (u : TableValue) (g : Key → Option Entry) (ks : List Key) → IsTextTable u → ((k : Key) → IsTextAt (g k)) → IsTextTable (changed u g ks)
changed_texts u g ks h i = text_table (changed u g ks) (λ k. subst IsTextAt (sym (entry_changed u g ks k)) (either_at (is_named ks k) (g k) (entry_of u k) (i k) (text_at u k h)))

module _ (t : TableValue) (texts : IsTextTable t) where
  pub edits_texts : (u : TableValue) (f : Content → Content) (ks : List Key) → ((c : Content) → HasTexts c → HasTexts (f c)) → IsTextTable u → IsTextTable (changed u (edit t f) ks)
  edits_texts u f ks keeps h = changed_texts u (edit t f) ks h (λ k. edited_at f (entry_of t k) keeps (text_at t k texts))

  pub deletes_texts : (u : TableValue) (ks : List Key) → IsTextTable u → IsTextTable (changed u (delete t) ks)
  deletes_texts u ks h = changed_texts u (delete t) ks h (λ k. deleted_at (entry_of t k) (text_at t k texts))

pub added_texts : (u : TableValue) (c : Content) → HasTexts c → IsTextTable u → IsTextTable (added u c)
added_texts u c i h =
    text_table (added u c) (λ k. subst IsTextAt (sym (get_with u (new_key (kind_of_content c) u.next) (Known New (Some c) None) k))
    (either_at (is_key k (new_key (kind_of_content c) u.next)) (Some (Known New (Some c) None)) (entry_of u k) (tt, i, tt) (text_at u k h)))

pub all_added_texts : (u : TableValue) (cs : List Content) → AllByRecursion HasTexts cs → IsTextTable u → IsTextTable (all_added u cs)
all_added_texts u [] i h = h
all_added_texts u (c ∷ cs) i h = all_added_texts (added u c) cs i.1 (added_texts u c i.0 h)
