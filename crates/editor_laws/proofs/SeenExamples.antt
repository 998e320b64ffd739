-- Worked examples: a conflict that is settled.
use Rattle.std.proofs.Common.{◌≡◌, pos, [], ◌∷◌, Option, Some, None, refl, sym, ap, subst}
use mathlib.Core.Logic.{inl, inr}
use Rattle.std.specs.Option.{option_or}
use Rattle.osm_base.specs.Content.{node}
use Rattle.osm_base.specs.Meta.{empty_meta}
use Rattle.osm_base.specs.declared.key.Key.{Key}
use Rattle.osm_base.specs.declared.key.Kind.TheVariants as kind
use Rattle.osm_base.specs.declared.content.Content.TheVariants as content
use Rattle.osm_table.specs.declared.entry.Base.{Base}
use Rattle.osm_table.specs.declared.entry.Base.TheVariants.{New, Live}
use Rattle.osm_table.specs.declared.entry.Why.TheVariants.{Changed}
use Rattle.osm_table.specs.declared.entry.Entry.{Entry}
use Rattle.osm_table.specs.declared.entry.Entry.TheVariants.{Incomplete, Known}
use Rattle.osm_table.specs.Table.{TableValue, entry_of, is_new}
use Rattle.merge_cases.specs.declared.choice.Choice.TheVariants as choice
use Rattle.merge_cases.specs.Resolve.{resolved}
use Rattle.tool_api.specs.Resolve.{settled_entry}
use Rattle.editor_laws.specs.Bases.{HasSide, KeepsSides, Mentions, side_refers}

abbrev n9 : Key
n9 = node (pos 9)

abbrev w5 : Key
w5 = record { kind = kind.Way; id = pos 5 }

-- the way by the nodes n1 and n2, and as it is in the conflict by n1 and n9
abbrev old : Base
old = Live 2 (content.Way [] (pos 1 ∷ pos 2 ∷ [])) empty_meta

abbrev theirs : Base
theirs = Live 3 (content.Way [] (pos 1 ∷ pos 9 ∷ [])) empty_meta

abbrev disputed : Entry
disputed = Known old (Some (content.Way [] (pos 2 ∷ pos 1 ∷ []))) (Some (record { why = Changed; theirs = theirs }))

abbrev settled : Entry
settled = Known theirs (Some (content.Way [] (pos 1 ∷ pos 9 ∷ []))) None

both_sides : HasSide (Some disputed) old × HasSide (Some disputed) theirs
both_sides = (inl refl, inr refl)

-- `resolve w5 theirs`: version 3 is the base, which was theirs
theirs_settles : resolved choice.Theirs disputed ≡ settled
theirs_settles = refl

keeps_sides : KeepsSides (Some disputed) (Some settled)
keeps_sides b n h = inr h

-- that the base of a new object isn't asked for
new_excepted : KeepsSides None (Some (Known New (Some (content.Way [] (pos 1 ∷ pos 2 ∷ []))) None))
new_excepted b n h = let never = ap is_new h in cc

-- n9 is mentioned, and enters
mentioned : (t : TableValue) → entry_of t w5 ≡ Some disputed → Mentions t n9
mentioned t is = side_refers w5 theirs (content.Way [] (pos 1 ∷ pos 9 ∷ [])) (subst (λ (o : Option Entry). HasSide o theirs) (sym is) (inr refl)) refl refl

enters : (t : TableValue) → entry_of t n9 ≡ None → settled_entry t w5 (Some settled) n9 ≡ Some Incomplete
enters t none = ap (λ (o : Option Entry). option_or o (Some Incomplete)) none
