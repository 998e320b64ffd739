-- A sound table with texts that may be written can be read back.
use Rattle.std.proofs.Common.{◌≡◌, List, [], ◌∷◌, map, Option, Some, None, refl}
use Rattle.std.specs.List.{AllByRecursion}
use Rattle.std.proofs.lemmas.List.Elements.{All-from_recursion}
use Rattle.osm_base.specs.Content.{node, refs_of}
use Rattle.osm_base.specs.Number.{IsId}
use Rattle.osm_base.specs.Tags.{Pair}
use Rattle.osm_base.specs.declared.key.Key.{Key}
use Rattle.osm_base.specs.declared.members.Member.{Member}
use Rattle.osm_base.specs.declared.content.Content.{Content}
use Rattle.osm_base.specs.declared.content.Content.TheVariants as content
use Rattle.osm_table.specs.declared.entry.Base.{Base}
use Rattle.osm_table.specs.declared.entry.Base.TheVariants.{New, Live, Gone}
use Rattle.osm_table.specs.declared.entry.Conflict.{Conflict}
use Rattle.osm_table.specs.declared.entry.Entry.{Entry}
use Rattle.osm_table.specs.declared.entry.Entry.TheVariants.{Incomplete, Known}
use Rattle.osm_table.specs.Table.{TableValue, IfContent, IsPositive, IsThere, entry_of, held_by}
use Rattle.dataset.specs.Sound.{FromTheServer, IdFits, IfTheirs, IsSound, IsSoundEntry, LivesIn}
use Rattle.dataset.proofs.Ids.{positive_id, given_id}
use Rattle.opl_line.specs.Writable.{AreTags, IsContent, IsMember}
use Rattle.saved_session.specs.Savable.{AreReadable, IsReadableBase, IsReadableEntry}
use Rattle.editor_laws.proofs.SeenKeeping.{all_named}
use Rattle.editor_laws.proofs.SeenLists.{all_more, all_of_map}
use Rattle.editor_laws.specs.Texts.{AreRoles, AreTexts, HasTexts, IsTag, IsTextBase, IsTextEntry, IsTextTable}

tags_by : (tags : List Pair) → AreTexts tags → AreTags tags
tags_by tags h = (h.0, All-from_recursion IsTag tags h.1)

members_by : (members : List Member) → AllByRecursion (λ (k : Key). IsId k.id) (map (λ m. m.key) members) → AreRoles members → AllByRecursion IsMember members
members_by [] ids h = tt
members_by (m ∷ ms) ids h = ((ids.0, h.0), members_by ms ids.1 h.1)

-- a content whose references are ids
content_by : (c : Content) → AllByRecursion (λ (k : Key). IsId k.id) (refs_of c) → HasTexts c → IsContent c
content_by (content.Node tags at) ids h = tags_by tags h
content_by (content.Way tags refs) ids h = (tags_by tags h, All-from_recursion IsId refs (all_of_map (λ (k : Key). IsId k.id) node refs ids))
content_by (content.Relation tags members) ids h = (tags_by tags h.0, All-from_recursion IsMember members (members_by members ids h.1))

-- what a server told
base_by : (b : Base) → FromTheServer (held_by b) → IsTextBase b → IsReadableBase b
base_by New server h = tt
base_by (Live version content meta) server h = (content_by content (all_more (λ (k : Key). IsPositive k.id) (λ (k : Key). IsId k.id) (λ k p. positive_id k.id p) (refs_of content) server) h.0, h.1)
base_by (Gone version meta) server h = h

module _ (t : TableValue) (sound : IsSound t) where
  -- a key that the table has is one that may be written
  known : (k : Key) (e : Entry) → IdFits t.next k e → IsId k.id
  known k Incomplete h = positive_id k.id h
  known k (Known New mine conflict) h = given_id t.next k.id sound.number.1 h.0
  known k (Known (Live version content meta) mine conflict) h = positive_id k.id h
  known k (Known (Gone version meta) mine conflict) h = positive_id k.id h

  there_id : (k : Key) (o : Option Entry) → entry_of t k ≡ o → IsThere o → IsId k.id
  there_id k None is h = absurd h
  there_id k (Some e) is h = known k e (sound.entries k e is).id

  -- so is each reference of what lives
  mine_by : (base : Base) (mine : Option Content) (conflict : Option Conflict) → LivesIn t (Known base mine conflict) → IfContent mine HasTexts → IfContent mine IsContent
  mine_by base None conflict lives h = tt
  mine_by base (Some c) conflict lives h = content_by c (all_named (λ (k : Key). IsId k.id) (refs_of c) (λ r used. there_id r (entry_of t r) refl (lives r used))) h

  theirs_by : (conflict : Option Conflict) → IfTheirs conflict (λ theirs. FromTheServer (held_by theirs)) → IfTheirs conflict IsTextBase → IfTheirs conflict IsReadableBase
  theirs_by None server h = tt
  theirs_by (Some c) server h = base_by c.theirs server h

  entry_by : (k : Key) (e : Entry) → IsSoundEntry t.next k e → LivesIn t e → IsTextEntry e → IsReadableEntry e
  entry_by k Incomplete fits lives h = tt
  entry_by k (Known base mine conflict) fits lives h = (base_by base fits.server.0 h.0, mine_by base mine conflict lives h.1, theirs_by conflict fits.server.1 h.2)

  -- So a reader of lines can give each object.
  pub readable : IsTextTable t → AreReadable t
  readable h k e is = entry_by k e (sound.entries k e is) (sound.closed k e is) (h.entries k e is)
