use Rattle.std.proofs.Common.{Ok, Some, subst, refl, ap, sym, ◌∙◌}
use Rattle.fj_value.specs.declared.condition.Condition.TheVariants.{Error}
use Rattle.fj_slot.specs.Serving.{Serves}
use Rattle.fj_bay.specs.Jobs.{change}
use Rattle.fj_bay.specs.Meaning.{bay_meaning}
use Rattle.fj_bay.specs.declared.job.Job.TheVariants as job
use Rattle.fj_bay.specs.declared.job.Answer.TheVariants as answer
use Rattle.fj_bay.proofs.Performed.{change_empty, change_full}
use Rattle.fj_bay.proofs.bay.Bay.change.Goals as goal

pub returns-in_default-clause-serves : goal.returns-in_default-clause-serves
returns-in_default-clause-serves g c =
    λ s st. subst (λ o. Serves (bay_meaning g.F.FileStore.told g.F.FileStore.bytes g.F.FileStore.count) s (change c.args.edit) (Ok (answer.Done (Error 1))) (record c.args.self.now { connection = o }) (job.Change c.args.edit)) (sym c.get_mut.ensures.value)
    (change_empty g.F.FileStore.told g.F.FileStore.bytes g.F.FileStore.count g.F.FileStore.tells g.met.F.FileStore.decided c.args.self.now s c.args.edit (sym c.get_mut.ensures.value ∙ c.in_default.is) st)

pub returns-clause-serves : goal.returns-clause-serves
returns-clause-serves g c =
    λ s st. change_full g.F.FileStore.told g.F.FileStore.bytes g.F.FileStore.count g.F.FileStore.tells g.met.F.FileStore.decided c.args.self.now (record c.args.self.now { connection = Some c.change.new.self }) c.in-Some.connection s c.args.edit (sym c.get_mut.ensures.value ∙ c.in-Some.is) st (ap Some c.change.ensures) refl
