use Rattle.std.proofs.Common.{List, ap, ◌∙◌}
use Rattle.std.proofs.lemmas.Result.{on_ok_weaker}
use Rattle.osm_base.specs.declared.key.Key.{Key}
use Rattle.dataset.specs.Draft.{drafted}
use Rattle.saved_session.specs.Drafting.{without_all}
use Rattle.saved_session.proofs.drafting.empty_out.Goals as goal

pub returns : goal.returns
returns c = on_ok_weaker c.take_all_out.result (λ out. out ∙ ap (λ (ks : List Key). without_all ks (drafted c.args.draft.now c.args.ds.now)) (c.as_slice.ensures ∙ c.in_ok-keys.ensures)) c.take_all_out.ensures
