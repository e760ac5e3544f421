use Rattle.std.proofs.Common.{ap, ◌∙◌}
use Rattle.fj_bay.specs.Plain.{moving_of as job_of}
use Rattle.std.proofs.lemmas.Bool.{false≢true}
use Rattle.fj_run_items.proofs.Finds.{layout_grouped}
use Rattle.fj_run_items.proofs.Takes.{job_is}
use Rattle.fj_run_items.proofs.job.job_with.Goals as goal

pub returns-clause-job : goal.returns-clause-job
returns-clause-job c =
    ap job_of c.in_ok-job.ensures
    ∙ job_is c.args.variables.now c.args.line c.args.tag.0 c.args.t.now c.args.parts.moved c.args.parts.size c.args.parts.rec c.args.parts.pos c.in_ok-layout.layout c.edit_of.result c.unwrap_or.result
    c.in_ok-layout.ensures c.edit_of.ensures c.unwrap_or.ensures

pub returns-then-not-is_grouped-clause-fits : goal.returns-then-not-is_grouped-clause-fits
returns-then-not-is_grouped-clause-fits c = λ within _.
    let same = layout_grouped c.args.variables.now c.args.t.now.control c.args.parts.moved.cells c.in_ok-layout.layout c.len.result c.len.ensures c.in_ok-layout.ensures within in
    absurd (false≢true (c.if-not-is_grouped.ensures.1 same))
