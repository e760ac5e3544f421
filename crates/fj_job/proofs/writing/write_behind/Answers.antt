use Rattle.std.proofs.Common.{◌≡◌, Err, ap, ◌∙◌}
use Rattle.fj_report.specs.declared.status.Status.TheVariants.{WriteFault}
use Rattle.fj_job.proofs.Fronts.{front_behind, front_more, part_behind, part_more}
use Rattle.fj_job.proofs.writing.write_behind.Goals as goal

pub returns-in-Ok-clause-front : goal.returns-in-Ok-clause-front
returns-in-Ok-clause-front g c = λ w. front_behind _ _ _ _ _ (c.in-Ok.ensures.ok w) (c.write_text.ensures.front (c.end_open.ensures.telling.0 w))

pub returns-in-Err-clause-front : goal.returns-in-Err-clause-front
returns-in-Err-clause-front g c = λ w. front_more _ _ _ _ (c.end_open.ensures.front w)

pub returns-in-Ok-clause-part : goal.returns-in-Ok-clause-part
returns-in-Ok-clause-part g c = λ w e. part_behind _ _ _ _ _ (c.in-Ok.ensures.ok w) (c.write_text.ensures.part (c.end_open.ensures.telling.0 w) e)

pub returns-in-Err-clause-part : goal.returns-in-Err-clause-part
returns-in-Err-clause-part g c = λ w e.
    let fault : c.not_taken.result ≡ WriteFault = cc in
    part_more _ _ _ _ (c.end_open.ensures.part w (c.in-Err.is ∙ ap Err (c.not_taken.ensures.sink fault)))
