use Rattle.std.proofs.Common.{Ok, Err, Some, refl, sym, ap, ◌∙◌, subst}
use Rattle.std.proofs.lemmas.Result.{err_from_is_err_and}
use Rattle.fj_value.specs.declared.condition.Condition.TheVariants.{Fine}
use Rattle.fj_slot.specs.Serving.{Serves}
use Rattle.fj_bay.specs.Meaning.{bay_meaning}
use Rattle.fj_bay.specs.declared.job.Job.TheVariants as job
use Rattle.fj_bay.specs.declared.job.Answer.TheVariants as answer
use Rattle.fj_bay.proofs.Performed.{detach_empty, detach_full, detach_stopped}
use Rattle.fj_bay.proofs.bay.Bay.detach.Goals as goal

pub returns-in_default-clause-serves : goal.returns-in_default-clause-serves
returns-in_default-clause-serves g c =
    λ s t st e. subst (λ o. Serves (bay_meaning g.F.FileStore.told g.F.FileStore.bytes g.F.FileStore.count) s t (Ok (answer.Done Fine)) (record c.args.self.now { connection = o }) (job.Detach c.args.place.now)) (sym c.get_mut-here.ensures.value)
    (detach_empty g.F.FileStore.told g.F.FileStore.bytes g.F.FileStore.count g.F.FileStore.tells g.met.F.FileStore.decided c.args.self.now s t c.args.place.now (sym c.get_mut-here.ensures.value ∙ c.in_default.is) st e)

pub returns-in_err-end_record-clause-serves : goal.returns-in_err-end_record-clause-serves
returns-in_err-end_record-clause-serves g c =
    let p = err_from_is_err_and c.from_residual.result c.from_residual.ensures.1 in
    λ s t st e. subst (λ r. Serves (bay_meaning g.F.FileStore.told g.F.FileStore.bytes g.F.FileStore.count) s t r (record c.args.self.now { connection = Some c.end_record.new.self }) (job.Detach c.args.place.now)) (sym p.1)
    (detach_stopped g.F.FileStore.told g.F.FileStore.bytes g.F.FileStore.count g.F.FileStore.tells g.met.F.FileStore.decided c.args.self.now (record c.args.self.now { connection = Some c.end_record.new.self }) c.in-Some.connection c.end_record.new.self s t c.args.place.now p.0 (sym c.get_mut-here.ensures.value ∙ c.in-Some.is) st e refl
    c.in_err-end_record.ensures.telling c.in_err-end_record.ensures.stopped c.in_err-end_record.ensures.name c.in_err-end_record.ensures.modes (λ f. c.end_record.ensures.failed (c.in_err-end_record.was ∙ ap Err (sym p.2 ∙ f))))

pub returns-in_ok-end_record-clause-serves : goal.returns-in_ok-end_record-clause-serves
returns-in_ok-end_record-clause-serves g c =
    let new = record c.args.self.now { connection = c.take.new.self } in
    λ s t st e. subst (λ o. Serves (bay_meaning g.F.FileStore.told g.F.FileStore.bytes g.F.FileStore.count) s t (Ok (answer.Done Fine)) new (job.Detach o)) (sym c.take.ensures.value)
    (detach_full g.F.FileStore.told g.F.FileStore.bytes g.F.FileStore.count g.F.FileStore.tells g.met.F.FileStore.decided c.args.self.now new c.in-Some.connection c.end_record.new.self s t c.args.place.now (sym c.get_mut-here.ensures.value ∙ c.in-Some.is) st e c.take.ensures.after refl
    c.in_ok-end_record.ensures.telling c.in_ok-end_record.ensures.ended)
