use Rattle.std.proofs.Common.{map, string_bytes, ap, ◌∙◌, refl, subst}
use Rattle.fj_job.specs.Answers.{HasRun}
use Rattle.fj_job.specs.Seen.{seen, on_disk}
use Rattle.fj_batch.specs.Members.{seen_taken}
use Rattle.fj_batch.proofs.Asking.{execution_asked}
use Rattle.fj_batch.proofs.runs.serve.Goals as goal

pub returns : goal.returns
returns g c =
    let asked = execution_asked c.args.serving.now.workers (map string_bytes c.deref.result.now) c.args.serving.now.few (ap (λ words. map string_bytes words) c.deref.ensures.value ∙ c.args.serving.now.asking) in
    record {
      name = refl;
      status = c.run_job-status.result;
      answered = refl;
      ran = subst
          (λ task. HasRun task c.run_job-status.result (seen g.R.Source.tells g.R.Source.left g.R.Source.count c.args.member.now.deck c.run_job-status.new.deck)
          (seen_taken c.args.member.now.out c.run_job-status.new.out)
          (seen g.D.Disk.tells (on_disk g.D.Disk.held g.D.Disk.refusals) g.D.Disk.count c.args.member.now.disk c.run_job-status.new.disk))
          asked c.run_job-status.ensures;
    }
