use Rattle.std.proofs.Common.{Ok, None, ◌∙◌, ap, sym, subst}
use Rattle.fj_value.specs.declared.condition.Condition.TheVariants.{Fine}
use Rattle.fj_slot.specs.Serving.{Serves}
use Rattle.fj_bay.specs.Meaning.{bay_meaning}
use Rattle.fj_bay.specs.declared.job.Answer.TheVariants.{Done}
use Rattle.fj_bay.specs.declared.job.Job.TheVariants as job
use Rattle.fj_bay.specs.Plain.{task_of}
use Rattle.fj_bay.proofs.Performed.{attached, flushed, resumed}
use Rattle.fj_bay.proofs.bay.Bay.carry_out.Goals as goal

pub returns-in-Attach-clause-serves : goal.returns-in-Attach-clause-serves
returns-in-Attach-clause-serves g c =
    λ s t st e. attached g.F.FileStore.told g.F.FileStore.bytes g.F.FileStore.count g.F.FileStore.tells g.met.F.FileStore.decided c.args.self.now c.attach.new.self c.get_mut.result.now c.attach.new.brought c.attach.result c.attach.ensures.refused c.attach.ensures.taken s t st
    (ap (task_of g.F.FileStore.told g.F.FileStore.bytes) (ap job.Attach c.get_mut.ensures.value ∙ sym c.in-Attach.is) ∙ e)

pub returns-in-Detach-clause-serves : goal.returns-in-Detach-clause-serves
returns-in-Detach-clause-serves g c =
    λ s t st e. c.detach.ensures.serves s t st (ap (task_of g.F.FileStore.told g.F.FileStore.bytes) (ap job.Detach c.get_mut-in-Detach.ensures.value ∙ sym c.in-Detach.is) ∙ e)

pub returns-in-Move-clause-serves : goal.returns-in-Move-clause-serves
returns-in-Move-clause-serves g c =
    λ s t st e. c.transfer.ensures.serves s t st (ap (task_of g.F.FileStore.told g.F.FileStore.bytes) (ap job.Move c.get_mut-in-Move.ensures.value ∙ sym c.in-Move.is) ∙ e)

pub returns-in-Flush-clause-serves : goal.returns-in-Flush-clause-serves
returns-in-Flush-clause-serves g c =
    λ s t st e. subst (λ j. Serves (bay_meaning g.F.FileStore.told g.F.FileStore.bytes g.F.FileStore.count) s t (Ok (Done Fine)) c.args.self.now j) (sym c.in-Flush.is)
    (flushed g.F.FileStore.told g.F.FileStore.bytes g.F.FileStore.count g.F.FileStore.tells g.met.F.FileStore.decided c.args.self.now s t st (ap (task_of g.F.FileStore.told g.F.FileStore.bytes) (sym c.in-Flush.is) ∙ e))

pub returns-in-Resume-clause-serves : goal.returns-in-Resume-clause-serves
returns-in-Resume-clause-serves g c =
    λ s t st e. subst (λ j. Serves (bay_meaning g.F.FileStore.told g.F.FileStore.bytes g.F.FileStore.count) s t (Ok (Done Fine)) (record c.args.self.now { halt = None }) j) (sym c.in-Resume.is)
    (resumed g.F.FileStore.told g.F.FileStore.bytes g.F.FileStore.count g.F.FileStore.tells g.met.F.FileStore.decided c.args.self.now s t st (ap (task_of g.F.FileStore.told g.F.FileStore.bytes) (sym c.in-Resume.is) ∙ e))

pub returns-in-Go-clause-serves : goal.returns-in-Go-clause-serves
returns-in-Go-clause-serves g c =
    λ s t st e. c.go.ensures.serves s t st (ap (task_of g.F.FileStore.told g.F.FileStore.bytes) (sym c.in-Go.is) ∙ e)
