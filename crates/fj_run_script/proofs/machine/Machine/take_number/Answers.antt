use Rattle.std.proofs.Common.{◌≡◌, true, IfErr, option_map, refl, sym, ap, ◌∙◌, subst}
use Rattle.fj_slot.specs.declared.told.Refused.{Refused}
use Rattle.fj_connect.specs.Linked.{Linked}
use Rattle.fj_bay.specs.declared.job.Job.{Job}
use Rattle.fj_world.specs.Conduct.{IsSubmitting}
use Rattle.fj_run_statements.specs.Having.{name_brought}
use Rattle.fj_run_script.specs.Kept.{HaveKeptAt, MayKeep}
use Rattle.fj_run_script.specs.Tallying.{due_of}
use Rattle.fj_run_script.proofs.Kept.{brought_name, keeps_same}
use Rattle.fj_run_script.proofs.Tallies.{not_both, not_stopped, submitting_runs}
use Rattle.fj_run_script.proofs.Counting.{going_took}
use Rattle.fj_run_script.proofs.machine.Machine.take_number.Goals as goal

pub returns-in-Ok-clause-on : goal.returns-in-Ok-clause-on
returns-in-Ok-clause-on g c = λ going over. going_took c.args.self.now _ going refl refl refl c.submitted.ensures.left c.submitted.ensures.hand c.requires.submitting c.submitted.ensures.sum c.submitted.ensures.owed

pub returns-in-Ok-clause-keeps : goal.returns-in-Ok-clause-keeps
returns-in-Ok-clause-keeps g c =
    let tally = c.args.self.now.tally in
    let going = submitting_runs tally.hand tally.over tally.left tally.submits c.requires.submitting in
    let new = c.submitted.new.self in
    record {
      given_up = λ goes over stopped. absurd (not_both new.over over (c.submitted.ensures.over ∙ going));
      asked = λ goes idle. absurd (subst (λ h. IsSubmitting (due_of h)) idle c.requires.submitting);
      none = λ goes stopped. absurd (not_both new.over (new.stop stopped) (c.submitted.ensures.over ∙ going));
      stopped = λ goes stopped. absurd (not_both new.over (new.stop stopped) (c.submitted.ensures.over ∙ going));
    }

pub returns-in-Err-clause-keeps : goal.returns-in-Err-clause-keeps
returns-in-Err-clause-keeps g c =
    let m = c.args.self.now in
    let new = c.keep.new.self in
    let tally = m.tally in
    let going = submitting_runs tally.hand tally.over tally.left tally.submits c.requires.submitting in
    let never : new.tally.stopped ≡ true → ⊥ = λ stopped.
    not_both new.tally.stopped stopped (ap (λ t. t.stopped) c.keep.ensures.tally ∙ c.refused.ensures.stopped ∙ not_stopped tally.stopped tally.over tally.stop going) in
    record {
      given_up = λ goes over stopped.
          subst (λ o. HaveKeptAt o new) (sym (brought_name c.in-Err.refused.job) ∙ ap (option_map (λ (k : Linked g.row.F.Denot). k.name)) (sym c.keep.ensures.kept))
          (keeps_same m new (name_brought c.in-Err.refused.job) c.keep.ensures.deck c.keep.ensures.at c.keep.ensures.state
          (subst (λ n. IfErr n (λ (refused : Refused (Job g.row.F.Denot)). MayKeep m refused.job)) c.in-Err.is c.requires.back));
      asked = λ goes idle. absurd (subst (λ h. IsSubmitting (due_of h)) idle c.requires.submitting);
      none = λ goes stopped. absurd (never stopped);
      stopped = λ goes stopped. absurd (never stopped);
    }
