use Rattle.std.proofs.Common.{Ok, Err, Some, refl, sym, ap, ◌∙◌, subst}
use Rattle.std.proofs.lemmas.Result.{err_from_is_err_and}
use Rattle.fj_value.specs.declared.condition.Condition.TheVariants.{Error}
use Rattle.fj_slot.specs.Serving.{Serves}
use Rattle.fj_bay.specs.Jobs.{go}
use Rattle.fj_bay.specs.Meaning.{bay_meaning}
use Rattle.fj_bay.specs.declared.job.Job.TheVariants as job
use Rattle.fj_bay.specs.declared.job.Answer.TheVariants as answer
use Rattle.fj_bay.proofs.Performed.{for_task, go_empty, go_full, go_stopped}
use Rattle.fj_bay.proofs.bay.Bay.go.Goals as goal

pub returns-in_default-clause-serves : goal.returns-in_default-clause-serves
returns-in_default-clause-serves g c =
    λ s t st e. subst (λ o. Serves (bay_meaning g.F.FileStore.told g.F.FileStore.bytes g.F.FileStore.count) s t (Ok (answer.Done (Error 1))) (record c.args.self.now { connection = o }) (job.Go c.args.how)) (sym c.get_mut.ensures.value)
    (for_task (λ u. Serves (bay_meaning g.F.FileStore.told g.F.FileStore.bytes g.F.FileStore.count) s u (Ok (answer.Done (Error 1))) c.args.self.now (job.Go c.args.how)) (go c.args.how) t e
    (go_empty g.F.FileStore.told g.F.FileStore.bytes g.F.FileStore.count g.F.FileStore.tells g.met.F.FileStore.decided c.args.self.now s c.args.how (sym c.get_mut.ensures.value ∙ c.in_default.is) st))

pub returns-in_err-condition-clause-serves : goal.returns-in_err-condition-clause-serves
returns-in_err-condition-clause-serves g c =
    let p = err_from_is_err_and c.from_residual.result c.from_residual.ensures.1 in
    λ s t st e. subst (λ r. Serves (bay_meaning g.F.FileStore.told g.F.FileStore.bytes g.F.FileStore.count) s t r (record c.args.self.now { connection = Some c.move_to.new.self }) (job.Go c.args.how)) (sym p.1)
    (for_task (λ u. Serves (bay_meaning g.F.FileStore.told g.F.FileStore.bytes g.F.FileStore.count) s u (Err p.0) (record c.args.self.now { connection = Some c.move_to.new.self }) (job.Go c.args.how)) (go c.args.how) t e
    (go_stopped g.F.FileStore.told g.F.FileStore.bytes g.F.FileStore.count g.F.FileStore.tells g.met.F.FileStore.decided c.args.self.now (record c.args.self.now { connection = Some c.move_to.new.self }) c.in-Some.connection c.move_to.new.self s c.args.how p.0 (sym c.get_mut.ensures.value ∙ c.in-Some.is) st refl
    c.in_err-condition.ensures.telling c.in_err-condition.ensures.stopped c.in_err-condition.ensures.name c.in_err-condition.ensures.modes (λ f. c.move_to.ensures.failed (c.in_err-condition.was ∙ ap Err (sym p.2 ∙ f)))))

pub returns-clause-serves : goal.returns-clause-serves
returns-clause-serves g c =
    λ s t st e. for_task (λ u. Serves (bay_meaning g.F.FileStore.told g.F.FileStore.bytes g.F.FileStore.count) s u (Ok (answer.Done c.in_ok-condition.condition)) (record c.args.self.now { connection = Some c.move_to.new.self }) (job.Go c.args.how)) (go c.args.how) t e
    (go_full g.F.FileStore.told g.F.FileStore.bytes g.F.FileStore.count g.F.FileStore.tells g.met.F.FileStore.decided c.args.self.now (record c.args.self.now { connection = Some c.move_to.new.self }) c.in-Some.connection c.move_to.new.self s c.args.how c.in_ok-condition.condition (sym c.get_mut.ensures.value ∙ c.in-Some.is) st refl refl
    c.in_ok-condition.ensures.telling c.in_ok-condition.ensures.moved)
