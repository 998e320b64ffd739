-- What a job doesn't reshape keeps its base, its conflict and all but its tags: `tag` drops no geometry.
use Rattle.std.proofs.Common.{◌≡◌, ℕ, Bool, true, false, cond, List, Option, Some, None, Result, Ok, Err, refl, sym, ap, subst}
use Rattle.std.specs.Option.{option_map}
use Rattle.osm_base.specs.Tags.{Pair}
use Rattle.osm_base.specs.declared.key.Key.{Key}
use Rattle.osm_base.specs.declared.content.Content.TheVariants as content
use Rattle.osm_table.specs.declared.entry.Entry.{Entry}
use Rattle.osm_table.specs.declared.entry.Entry.TheVariants.{Incomplete, Known}
use Rattle.osm_table.specs.Table.{TableValue, entry_of}
use Rattle.dataset.specs.Sound.{IsSound}
use Rattle.tool_api.specs.declared.job.Job.{Job}
use Rattle.tool_api.specs.declared.job.Job.TheVariants as job
use Rattle.tool_api.specs.declared.kinds.Kinds.TheVariants.{Any}
use Rattle.tool_api.specs.declared.refusal.Refusal.{Refusal}
use Rattle.tool_api.specs.Checks.{◌>>◌, is_named, list_tests}
use Rattle.tool_api.specs.Changes.{Outcome, done, changed, with_mine, edit}
use Rattle.tool_api.specs.Closing.{closing_tests}
use Rattle.tool_api.specs.Basic.{with_tags, retagged}
use Rattle.tool_api.specs.Plain.{answered, outcome, plain}
use Rattle.tool_api.proofs.Looks.{entry_changed}
use Rattle.editor_laws.specs.Editing.{is_merge}
use Rattle.editor_laws.specs.Listed.{reshapes, IsShaped, KeepsShape}
use Rattle.editor_laws.proofs.SeenContents.{IfOk}
use Rattle.editor_laws.proofs.KeptJobs.{job_leaves}

shaped_edit : (f : List Pair → List Pair) (e : Entry) → IsShaped e (with_mine (with_tags f) e)
shaped_edit f Incomplete = record { base = refl; conflict = refl; shape = refl }
shaped_edit f (Known base None conflict) = record { base = refl; conflict = refl; shape = refl }
shaped_edit f (Known base (Some (content.Node tags at)) conflict) = record { base = refl; conflict = refl; shape = refl }
shaped_edit f (Known base (Some (content.Way tags refs)) conflict) = record { base = refl; conflict = refl; shape = refl }
shaped_edit f (Known base (Some (content.Relation tags members)) conflict) = record { base = refl; conflict = refl; shape = refl }

module _ (t : TableValue) (k : Key) (e : Entry) (is : entry_of t k ≡ Some e) (sound : IsSound t) where
  abbrev Has : TableValue → Type 0
  Has u = KeepsShape e (entry_of u k)

  abbrev Kept : Result Outcome Refusal → Type 0
  Kept r = IfOk (λ new. Has new.table) r

  same : (o : Option Entry) → o ≡ Some e → KeepsShape e o
  same o it = (e, it, record { base = refl; conflict = refl; shape = refl })

  tested : (o : Option Refusal) (r : Result Outcome Refusal) → Kept r → Kept (o >> r)
  tested None r h = h
  tested (Some x) r h = tt

  either : (b : Bool) (o p : Option Entry) → KeepsShape e o → KeepsShape e p → KeepsShape e (cond b o p)
  either true o p h i = h
  either false o p h i = i

  tagged_has : (f : List Pair → List Pair) (ks : List Key) → Has (changed t (edit t (with_tags f)) ks)
  tagged_has f ks = subst (KeepsShape e) (sym (entry_changed t (edit t (with_tags f)) ks k))
      (either (is_named ks k) (edit t (with_tags f) k) (entry_of t k) (with_mine (with_tags f) e, ap (option_map (with_mine (with_tags f))) is, shaped_edit f e) (same (entry_of t k) is))

  answered_has : (r : Result Outcome Refusal) → Kept r → Has (answered t r).table
  answered_has (Ok new) h = h
  answered_has (Err r) h = same (entry_of t k) is

  pub job_shapes : (j : Job) (limit : ℕ) → is_merge j ≡ false → reshapes j t k ≡ false → Has (plain j t limit).table
  job_shapes (job.SetTags keys tags) limit n free =
      let new = done (changed t (edit t (with_tags (λ x. retagged x tags))) keys) in
      answered_has (outcome (job.SetTags keys tags) t limit)
      (tested (list_tests t Any keys) _ (tested (closing_tests t limit keys new.table) (Ok new) (tagged_has (λ x. retagged x tags) keys)))
  job_shapes j limit n free = same (entry_of (plain j t limit).table k) (job_leaves t k e is sound j limit n free)
