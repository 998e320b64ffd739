-- What the chosen content takes over: its kind, and references of mine or of theirs.
use Rattle.std.proofs.Common.{◌≡◌, Bool, true, false, cond, ℕ, List, Option, Some, None, sym, ◌∙◌}
use mathlib.Core.Logic.{◌⊎◌, inl, inr}
use Rattle.osm_base.specs.Content.{kind_of_content, refers, tags_of}
use Rattle.osm_base.specs.Tags.{Pair}
use Rattle.osm_base.specs.declared.key.Key.{Key}
use Rattle.osm_base.specs.declared.content.Content.{Content}
use Rattle.osm_table.specs.declared.entry.Base.{Base}
use Rattle.osm_table.specs.declared.entry.Conflict.{Conflict}
use Rattle.osm_table.specs.Table.{IfContent, held_by}
use Rattle.dataset.specs.Sound.{OfKind}
use Rattle.merge_cases.specs.declared.pick.Pick.{Pick}
use Rattle.merge_cases.specs.declared.pick.Pick.TheVariants as pick
use Rattle.merge_cases.specs.Case.{is_withdrawal}
use Rattle.merge_cases.specs.Join.{both_of, picked, picked_by}
use Rattle.merge_cases.proofs.JoinedOf.{TakesOver, takes}
use Rattle.merge_cases.specs.declared.choice.Side.{Side}
use Rattle.merge_cases.specs.declared.choice.Side.TheVariants as side
use Rattle.merge_cases.specs.declared.choice.Choice.{Choice}
use Rattle.merge_cases.specs.declared.choice.Choice.TheVariants as choice
use Rattle.merge_cases.specs.Resolve.{chosen, mix_of, of_side, parts_of, settled_body, settled_tag}
use Rattle.tool_api.specs.Staged.{refers_by}

-- the content has the key's kind, and each of its references is one of mine or of theirs
pub record Stems (k : Key) (mine theirs : Option Content) (c : Content) : Type 0 where
  pub kind : kind_of_content c ≡ k.kind
  pub refs : (r : Key) → refers c r ≡ true → (refers_by mine r ≡ true) ⊎ (refers_by theirs r ≡ true)

mine_stems : (k : Key) (mine theirs : Option Content) → OfKind k mine → IfContent mine (Stems k mine theirs)
mine_stems k None theirs h = tt
mine_stems k (Some c) theirs h = record { kind = h; refs = λ r e. inl e }

theirs_stems : (k : Key) (mine theirs : Option Content) → OfKind k theirs → IfContent theirs (Stems k mine theirs)
theirs_stems k mine None h = tt
theirs_stems k mine (Some c) h = record { kind = h; refs = λ r e. inr e }

-- the body of a side with any tags
both_stem : (k : Key) (m t : Content) (tags : List Pair) (p : Pick) → kind_of_content m ≡ k.kind → kind_of_content t ≡ k.kind → IfContent (both_of (Some tags) (picked p m t)) (Stems k (Some m) (Some t))
both_stem k m t tags p g h = by (both_of (Some tags) (picked p m t)) (takes (Some tags) p m t (g ∙ sym h))
  where
    by : (o : Option Content) → IfContent o (TakesOver m t) → IfContent o (Stems k (Some m) (Some t))
    by None x = tt
    by (Some c) x = record { kind = x.kind ∙ h; refs = x.refs }

mix_stems : (k : Key) (tags body : Side) (mine theirs : Option Content) → OfKind k mine → OfKind k theirs → IfContent (mix_of tags body mine theirs) (Stems k mine theirs)
mix_stems k tags body None theirs g h = tt
mix_stems k tags body (Some m) None g h = tt
mix_stems k tags side.Mine (Some m) (Some t) g h = both_stem k m t (tags_of (of_side tags m t)) pick.Mine g h
mix_stems k tags side.Theirs (Some m) (Some t) g h = both_stem k m t (tags_of (of_side tags m t)) pick.Theirs g h

parts_stem : (k : Key) (body : Side) (listed : List (List ℕ)) (base mine theirs : Option Content) → OfKind k mine → OfKind k theirs → IfContent (parts_of body listed base mine theirs) (Stems k mine theirs)
parts_stem k body listed None mine theirs g h = tt
parts_stem k body listed (Some b) None theirs g h = tt
parts_stem k body listed (Some b) (Some m) None g h = tt
parts_stem k body listed (Some b) (Some m) (Some t) g h = both_stem k m t (picked_by (settled_tag listed b m t) (tags_of m) (tags_of t)) (settled_body body b m t) g h

pub chosen_stems : (by : Choice) (k : Key) (base : Base) (mine : Option Content) (conflict : Conflict) → OfKind k mine → OfKind k (held_by conflict.theirs)
    → IfContent (chosen by base mine conflict) (Stems k mine (held_by conflict.theirs))
chosen_stems choice.Mine k base mine conflict g h = back (is_withdrawal conflict.why)
  where
    back : (b : Bool) → IfContent (cond b None mine) (Stems k mine (held_by conflict.theirs))
    back true = tt
    back false = mine_stems k mine (held_by conflict.theirs) g
chosen_stems choice.Theirs k base mine conflict g h = theirs_stems k mine (held_by conflict.theirs) h
chosen_stems (choice.Mix tags body) k base mine conflict g h = mix_stems k tags body mine (held_by conflict.theirs) g h
chosen_stems (choice.Parts body listed) k base mine conflict g h = parts_stem k body listed (held_by base) mine (held_by conflict.theirs) g h
