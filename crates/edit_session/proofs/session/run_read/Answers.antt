use Rattle.std.proofs.Common.{◌∙◌, Some, ap, refl, sym}
use Rattle.edit_steps.specs.Given.{all_given}
use Rattle.edit_session.specs.Reads.{steps_reads}
use Rattle.edit_session.specs.Session.{steps_outcome}
use Rattle.edit_session.proofs.Missing.{fewer_than_four}
use Rattle.edit_session.proofs.Script.{comes_early, same_tool}
use Rattle.edit_session.proofs.session.run_read.Goals as goal

pub returns-in-Some-clause-part : goal.returns-in-Some-clause-part
returns-in-Some-clause-part g c = record {
  comes = comes_early (g.S.Shelf.told c.args.shelf.now) (λ files. all_given files c.args.steps.now) (g.K.Sink.taken c.args.out.now) _ _ _ _ _ _ (λ same. cc)
      (λ given. ap (steps_outcome c.args.limits given c.args.steps.now) (sym c.missing_verb.ensures ∙ c.in-Some.is))
      (λ given. ap (steps_reads c.args.limits given c.args.steps.now) (sym c.missing_verb.ensures ∙ c.in-Some.is));
  no_tool = λ verb is. fewer_than_four _ verb c.args.steps.now c.requires.orderly (sym c.missing_verb.ensures ∙ c.in-Some.is ∙ ap Some (same_tool c.in-Some.verb verb is));
  early = λ early. refl;
  asked = c.requires.begun;
  told = refl;
  is_so = tt;
}
