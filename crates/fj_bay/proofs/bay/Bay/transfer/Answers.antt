use Rattle.std.proofs.Common.{Ok, Err, Some, refl, sym, ap, ◌∙◌, subst}
use Rattle.std.proofs.lemmas.Result.{err_from_is_err_and}
use Rattle.fj_value.specs.declared.condition.Condition.TheVariants.{Error}
use Rattle.fj_slot.specs.Serving.{Serves}
use Rattle.fj_bay.specs.Jobs.{move}
use Rattle.fj_bay.specs.Plain.{moving_of}
use Rattle.fj_bay.specs.Meaning.{bay_meaning}
use Rattle.fj_bay.specs.declared.job.Job.TheVariants as job
use Rattle.fj_bay.specs.declared.job.Answer.TheVariants as answer
use Rattle.fj_bay.proofs.Performed.{for_task, move_empty, move_skipped, move_full, move_stopped}
use Rattle.fj_bay.proofs.bay.Bay.transfer.Goals as goal

pub returns-in_default-clause-serves : goal.returns-in_default-clause-serves
returns-in_default-clause-serves g c =
    λ s t st e. subst (λ o. Serves (bay_meaning g.F.FileStore.told g.F.FileStore.bytes g.F.FileStore.count) s t (Ok (answer.Done (Error 1))) (record c.args.self.now { connection = o }) (job.Move c.args.job.now)) (sym c.get_mut.ensures.value)
    (for_task (λ u. Serves (bay_meaning g.F.FileStore.told g.F.FileStore.bytes g.F.FileStore.count) s u (Ok (answer.Done (Error 1))) c.args.self.now (job.Move c.args.job.now)) (move (moving_of c.args.job.now)) t e
    (move_empty g.F.FileStore.told g.F.FileStore.bytes g.F.FileStore.count g.F.FileStore.tells g.met.F.FileStore.decided c.args.self.now s c.args.job.now (sym c.get_mut.ensures.value ∙ c.in_default.is) st))

pub returns-in-Some-halt-clause-serves : goal.returns-in-Some-halt-clause-serves
returns-in-Some-halt-clause-serves g c =
    let now = record c.args.self.now { connection = Some c.in-Some.connection } in
    λ s t st e. for_task (λ u. Serves (bay_meaning g.F.FileStore.told g.F.FileStore.bytes g.F.FileStore.count) s u (Ok c.skip.result) now (job.Move c.skip.new.job)) (move (moving_of c.args.job.now)) t e
    (subst (λ a. Serves (bay_meaning g.F.FileStore.told g.F.FileStore.bytes g.F.FileStore.count) s (move (moving_of c.args.job.now)) (Ok a) now (job.Move c.skip.new.job)) (sym c.skip.ensures.answer)
    (subst (λ o. Serves (bay_meaning g.F.FileStore.told g.F.FileStore.bytes g.F.FileStore.count) s (move (moving_of c.args.job.now)) (Ok (answer.Skipped c.in-Some-halt.cause)) (record c.args.self.now { connection = o }) (job.Move c.skip.new.job)) (sym c.get_mut.ensures.value ∙ c.in-Some.is)
    (move_skipped g.F.FileStore.told g.F.FileStore.bytes g.F.FileStore.count g.F.FileStore.tells g.met.F.FileStore.decided c.args.self.now c.in-Some.connection s c.args.job.now c.skip.new.job c.in-Some-halt.cause (sym c.get_mut.ensures.value ∙ c.in-Some.is) c.in-Some-halt.is st c.skip.ensures.done c.skip.ensures.statement)))

pub returns-in_err-condition-clause-serves : goal.returns-in_err-condition-clause-serves
returns-in_err-condition-clause-serves g c =
    let p = err_from_is_err_and c.from_residual.result c.from_residual.ensures.1 in
    λ s t st e. subst (λ r. Serves (bay_meaning g.F.FileStore.told g.F.FileStore.bytes g.F.FileStore.count) s t r (record c.args.self.now { connection = Some c.perform.new.connection }) (job.Move c.perform.new.job)) (sym p.1)
    (for_task (λ u. Serves (bay_meaning g.F.FileStore.told g.F.FileStore.bytes g.F.FileStore.count) s u (Err p.0) (record c.args.self.now { connection = Some c.perform.new.connection }) (job.Move c.perform.new.job)) (move (moving_of c.args.job.now)) t e
    (move_stopped g.F.FileStore.told g.F.FileStore.bytes g.F.FileStore.count g.F.FileStore.tells g.met.F.FileStore.decided c.args.self.now (record c.args.self.now { connection = Some c.perform.new.connection }) c.in-Some.connection c.perform.new.connection s c.args.job.now c.perform.new.job p.0 (sym c.get_mut.ensures.value ∙ c.in-Some.is) c.in_default-halt.is st refl
    c.in_err-condition.ensures.telling c.in_err-condition.ensures.stopped c.in_err-condition.ensures.name c.in_err-condition.ensures.modes (λ f. c.perform.ensures.failed (c.in_err-condition.was ∙ ap Err (sym p.2 ∙ f)))))

pub returns-clause-serves : goal.returns-clause-serves
returns-clause-serves g c =
    let new = record c.args.self.now { connection = Some c.perform.new.connection; halt = c.halt_of-self.result } in
    λ s t st e. for_task (λ u. Serves (bay_meaning g.F.FileStore.told g.F.FileStore.bytes g.F.FileStore.count) s u (Ok (answer.Done c.in_ok-condition.condition)) new (job.Move c.perform.new.job)) (move (moving_of c.args.job.now)) t e
    (move_full g.F.FileStore.told g.F.FileStore.bytes g.F.FileStore.count g.F.FileStore.tells g.met.F.FileStore.decided c.args.self.now new c.in-Some.connection c.perform.new.connection s c.args.job.now c.perform.new.job c.in_ok-condition.condition (sym c.get_mut.ensures.value ∙ c.in-Some.is) c.in_default-halt.is st refl
    c.halt_of-self.ensures c.in_ok-condition.ensures.telling c.in_ok-condition.ensures.done c.in_ok-condition.ensures.statement)
