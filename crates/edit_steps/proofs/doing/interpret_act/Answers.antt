use Rattle.std.proofs.Common.{refl}
use Rattle.edit_steps.proofs.Doings.{confirm_missing, file_misses, file_missing, passed_comes, resume_missing}
use Rattle.edit_script.specs.declared.step.Act.TheVariants as act
use Rattle.edit_script.specs.declared.step.Purpose.TheVariants as purpose
use Rattle.edit_steps.proofs.doing.interpret_act.Goals as goal

pub returns-in_default : goal.returns-in_default
returns-in_default c =
    rw (c.in-File.is, c.in-Download.is, c.refuse.ensures, c.missing.ensures) (file_misses c.args.limits c.args.found.now c.args.ds.now c.args.group c.in-File.name (purpose.Download c.in-Download.area c.in-Download.wanted) c.requires.going (file_missing _ _ c.in_default.not-Job))

pub returns-in_default-found : goal.returns-in_default-found
returns-in_default-found c =
    rw (c.in-File.is, c.in-Import.is, c.refuse-in_default-found.ensures, c.missing-in_default-found.ensures) (file_misses c.args.limits c.args.found.now c.args.ds.now c.args.group c.in-File.name purpose.Import c.requires.going (file_missing _ _ c.in_default-found.not-Job))

pub returns-in_default-found-2 : goal.returns-in_default-found-2
returns-in_default-found-2 c =
    rw (c.in-File.is, c.in-Confirm.is, c.refuse-in_default-found-2.ensures, c.missing-in_default-found-2.ensures) (file_misses c.args.limits c.args.found.now c.args.ds.now c.args.group c.in-File.name purpose.Confirm c.requires.going (confirm_missing _ c.in_default-found-2.not-Bytes))

pub returns-in_default-found-3 : goal.returns-in_default-found-3
returns-in_default-found-3 c =
    rw (c.in-File.is, c.in-Resume.is, c.refuse-in_default-found-3.ensures, c.missing-in_default-found-3.ensures) (file_misses c.args.limits c.args.found.now c.args.ds.now c.args.group c.in-File.name purpose.Resume c.requires.going (resume_missing _ _ c.in_default-found-3.not-Bytes))

pub returns-in-Serve : goal.returns-in-Serve
returns-in-Serve c = rw (c.in-Serve.is, c.alone.ensures) (passed_comes c.args.limits c.args.found.now c.args.ds.now c.args.group (act.Serve c.in-Serve.name) (λ s. refl))

pub returns-in-Editor : goal.returns-in-Editor
returns-in-Editor c = rw (c.in-Editor.is, c.alone-in-Editor.ensures) (passed_comes c.args.limits c.args.found.now c.args.ds.now c.args.group (act.Editor c.in-Editor.n) (λ s. refl))

pub returns-in-Meet : goal.returns-in-Meet
returns-in-Meet c = rw (c.in-Meet.is, c.alone-in-Meet.ensures) (passed_comes c.args.limits c.args.found.now c.args.ds.now c.args.group (act.Meet c.in-Meet.field-0) (λ s. refl))
