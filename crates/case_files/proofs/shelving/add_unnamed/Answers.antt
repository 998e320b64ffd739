use Rattle.std.proofs.Common.{◌≡◌, sym, subst, None}
use Rattle.osm_outside.specs.Outside.{Shelved, held}
use Rattle.case_files.proofs.Held.{held-more}
use Rattle.case_files.proofs.shelving.add_unnamed.Goals as goal

pub returns : goal.returns
returns c name none other =
    subst (λ (files : Shelved). held files name ≡ None) (sym c.in_ok-push.ensures.ok)
    (held-more c.args.files.now c.deref-2.result.now name c.deref-3.result.now (c.requires name none) (rw c.deref-2.ensures.value other))
