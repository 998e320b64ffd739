use Rattle.std.proofs.Common.{◌∙◌, List, [], None, Some, sym, ap, subst}
use Rattle.std.specs.Map.{keys_of}
use Rattle.std.proofs.lemmas.Option.{get_or_from_slice_get, slice_get_within}
use Rattle.osm_table.specs.declared.entry.Entry.{Entry}
use Rattle.dataset.specs.Edit.{Edit}
use Rattle.dataset.specs.Draft.{DiffOver}
use Rattle.dataset.specs.PatchKept.{nothing}
use Rattle.dataset.proofs.EntriesPatch.{table_with, more_comes}
use Rattle.dataset.proofs.difference.push_entries.Goals as goal

pub loop-i-init : goal.loop-i-init
loop-i-init c = subst (λ (es : List Edit). DiffOver nothing (table_with c.args.entries.now 1) [] es) (sym c.requires) DiffOver.done

pub loop-i-preserved : goal.loop-i-preserved
loop-i-preserved c =
    let es = c.args.entries.now in
    let k = c.entry_at.result.0 in
    more_comes es c.loop-i.i k k c.entry_at.result.1.now c.comes.result c.loop-i.edits.items c.push.new.self.items
    (slice_get_within (keys_of es) c.loop-i.i k c.entry_at.ensures.key) (sym (get_or_from_slice_get (keys_of es) c.loop-i.i k k c.entry_at.ensures.key)) c.entry_at.ensures.entry
    (c.comes.ensures ∙ ap (λ (f : Entry). record { key = k; before = None; after = Some f }) c.in_ok-copy.ensures)
    c.in_ok-push.ensures.items c.loop-i.invariant
