use Rattle.std.proofs.Common.{◌≡◌, ℕ, ◌∷◌, true, Some, IfOk, inr, refl, sym, ◌∙◌, subst, arith, ◌≤◌, length}
use Rattle.fj_bay.specs.Plain.{task_of, reply_of}
use Rattle.fj_meaning.specs.State.{Files}
use Rattle.fj_meaning.specs.Statement.{Stated, control_by}
use Rattle.fj_meaning.specs.Transfers.{star_limit}
use Rattle.fj_meaning_jobs.specs.Core.{Core}
use Rattle.fj_meaning_jobs.specs.Doing.{Doing}
use Rattle.fj_meaning_turns.specs.Run.{Run, Start, Waiting, Acting, Awaiting}
use Rattle.fj_meaning_turns.specs.Turns.{turn_on}
use Rattle.fj_run_pending.specs.Plain.{held}
use Rattle.fj_run_statements.specs.Doing.{next_of, then_of}
use Rattle.fj_run_statements.specs.Fitting.{IsKept}
use Rattle.fj_run_statements.specs.State.{core_of}
use Rattle.fj_run_units.specs.Files.{files_of}
use Rattle.fj_run_units.specs.Having.{HaveFiles}
use Rattle.fj_run_script.specs.Machine.{run_in, stage_of}
use Rattle.fj_run_script.specs.Turned.{IsTurn}
use Rattle.fj_run_script.proofs.NextAsks.{some_same, run_known}
use Rattle.fj_run_script.proofs.Stepping.{disk_steps, kept_steps, same_keeps, then_steps}
use Rattle.fj_meaning_turns.specs.Passing.{output_of}
use Rattle.fj_run_script.specs.Failing.{FailsStage}
use Rattle.fj_run_script.proofs.Failures.{closing_calls, fails_at, fails_from, fails_quiet, fails_still, fails_went}
use Rattle.fj_run_script.proofs.Stepping.{went, given_up}
use Rattle.fj_run_script.specs.Closing.{may_be_at}
use Rattle.fj_run_script.specs.Numbering.{gave}
use Rattle.fj_run_script.proofs.Fits.{may_go_on}
use Rattle.fj_run_script.proofs.Numbering.{at_itself, given_entered, named_entered, slot_given, untold_entered}
use Rattle.fj_run_script.specs.Going.{HaveAt}
use Rattle.fj_run_statements.specs.Jobs.{jobs_of}
use Rattle.fj_run_statements.proofs.JobLemmas.{none_when_ended}
use Rattle.fj_run_script.specs.Spending.{Spends, jobs_at}
use Rattle.fj_run_script.proofs.Spending.{ok_spends}
use Rattle.fj_run_script.proofs.Counting.{count_entered, entered_next}
use Rattle.fj_run_statements.specs.declared.doing.Given.{Given}
use Rattle.fj_run_script.specs.declared.stage.Stage.{Stage}
use Rattle.fj_run_script.specs.declared.stage.Stage.TheVariants as stage
use Rattle.fj_run_script.proofs.state.State.turn.Goals as goal

going_not_start : {F : Type 0} → (next : Given) (number : ℕ) → (let s : Stage F = stage.Going next number in s) ≡ stage.Start → ⊥
going_not_start next number e = cc

pub returns-in-Start-clause-turn : goal.returns-in-Start-clause-turn
returns-in-Start-clause-turn g c = λ tells more stage e.
    let told = g.F.FileStore.told in
    let bytes = g.F.FileStore.bytes in
    let s = c.args.self.now in
    let variables = c.args.variables.now in
    let st : Stated = (c.args.lined.now, control_by c.args.lined.now.what) in
    let files : Files = files_of (g.D.Disk.held c.args.disk.now) in
    let run : Run = run_in variables (st ∷ more) files s stage in
    let core : Core = core_of files s.core in
    let known = subst (λ x. stage_of told bytes variables (st ∷ more) core x ≡ Some stage) (sym c.replace.ensures.value ∙ c.in-Start.is) e in
    subst (λ x. IfOk c.start.result (λ t. IsTurn told bytes variables (st ∷ more) (files_of (g.D.Disk.held c.start.new.disk)) c.start.new.self t (turn_on st x run))) (some_same Start stage known)
    (c.start.ensures.turn tells more stage)

pub returns-in-Waiting-clause-turn : goal.returns-in-Waiting-clause-turn
returns-in-Waiting-clause-turn g c = λ tells more stage e.
    let told = g.F.FileStore.told in
    let bytes = g.F.FileStore.bytes in
    let s = c.args.self.now in
    let variables = c.args.variables.now in
    let st : Stated = (c.args.lined.now, control_by c.args.lined.now.what) in
    let files : Files = files_of (g.D.Disk.held c.args.disk.now) in
    let run : Run = run_in variables (st ∷ more) files s stage in
    let core : Core = core_of files s.core in
    let known = subst (λ x. stage_of told bytes variables (st ∷ more) core x ≡ Some stage) (sym c.replace.ensures.value ∙ c.in-Waiting.is) e in
    subst (λ x. IfOk c.wait.result (λ t. IsTurn told bytes variables (st ∷ more) (files_of (g.D.Disk.held c.wait.new.disk)) c.wait.new.self t (turn_on st x run))) (some_same Waiting stage known)
    (c.wait.ensures.turn tells more stage)

pub returns-in-Resuming-clause-turn : goal.returns-in-Resuming-clause-turn
returns-in-Resuming-clause-turn g c = λ tells more stage e.
    let told = g.F.FileStore.told in
    let bytes = g.F.FileStore.bytes in
    let s = c.args.self.now in
    let variables = c.args.variables.now in
    let st : Stated = (c.args.lined.now, control_by c.args.lined.now.what) in
    let files : Files = files_of (g.D.Disk.held c.args.disk.now) in
    let run : Run = run_in variables (st ∷ more) files s stage in
    let core : Core = core_of files s.core in
    let known = subst (λ x. stage_of told bytes variables (st ∷ more) core x ≡ Some stage) (sym c.replace.ensures.value ∙ c.in-Resuming.is) e in
    subst (λ x. IfOk c.resume.result (λ t. IsTurn told bytes variables (st ∷ more) (files_of (g.D.Disk.held c.resume.new.disk)) c.resume.new.self t (turn_on st x run))) (some_same _ stage known)
    (c.resume.ensures.turn tells more stage)

pub returns-in-Ok-clause-turn : goal.returns-in-Ok-clause-turn
returns-in-Ok-clause-turn g c = λ tells more stage e.
    let told = g.F.FileStore.told in
    let bytes = g.F.FileStore.bytes in
    let s = c.args.self.now in
    let variables = c.args.variables.now in
    let st : Stated = (c.args.lined.now, control_by c.args.lined.now.what) in
    let files : Files = files_of (g.D.Disk.held c.args.disk.now) in
    let run : Run = run_in variables (st ∷ more) files s stage in
    let core : Core = core_of files s.core in
    let known = subst (λ x. stage_of told bytes variables (st ∷ more) core x ≡ Some stage) (sym c.replace.ensures.value ∙ c.in-Going.is) e in
    let does : Doing = next_of variables st core c.in-Going.next c.in-Going.number in
    subst (λ x. IsTurn told bytes variables (st ∷ more) files c.act.new.self c.act.result (turn_on st x run)) (some_same (Acting does) stage known)
    (c.act.ensures.turn more files core (held s.core.pending) stage does c.given.ensures.pending (c.in-Ok.ensures.doing files))

pub returns-in-Ok-clause-steps : goal.returns-in-Ok-clause-steps
returns-in-Ok-clause-steps g c =
    kept_steps c.args.out.now c.args.disk.now c.args.self.now.core c.act.new.self.core c.act.result (record {
      kinds = c.act.ensures.keeps.kinds ∙ c.given.ensures.kinds;
      names = c.act.ensures.keeps.names ∙ c.given.ensures.names;
      output = c.act.ensures.keeps.output ∙ c.given.ensures.output;
    })

pub returns-in-Awaiting-clause-turn : goal.returns-in-Awaiting-clause-turn
returns-in-Awaiting-clause-turn g c = λ tells more stage e.
    let told = g.F.FileStore.told in
    let bytes = g.F.FileStore.bytes in
    let s = c.args.self.now in
    let variables = c.args.variables.now in
    let st : Stated = (c.args.lined.now, control_by c.args.lined.now.what) in
    let files : Files = files_of (g.D.Disk.held c.args.disk.now) in
    let run : Run = run_in variables (st ∷ more) files s stage in
    let core : Core = core_of files s.core in
    let known = subst (λ x. stage_of told bytes variables (st ∷ more) core x ≡ Some stage) (sym c.replace.ensures.value ∙ c.in-Awaiting.is) e in
    let next = then_of variables st core c.in-Awaiting.then in
    subst (λ x. IsTurn told bytes variables (st ∷ more) files c.settle.new.self c.settle.result (turn_on st x run)) (some_same (Awaiting c.in-Awaiting.slot c.in-Awaiting.number next) stage known)
    (c.settle.ensures.turn variables (st ∷ more) files stage (Awaiting c.in-Awaiting.slot c.in-Awaiting.number next) refl)

pub returns-in-Awaiting-clause-steps : goal.returns-in-Awaiting-clause-steps
returns-in-Awaiting-clause-steps g c =
    kept_steps c.args.out.now c.args.disk.now c.args.self.now.core c.settle.new.self.core c.settle.result (same_keeps c.args.self.now.core c.settle.new.self.core c.settle.ensures.core)

pub returns-in-Ok-doing-clause-turn : goal.returns-in-Ok-doing-clause-turn
returns-in-Ok-doing-clause-turn g c = λ tells more stage e.
    let told = g.F.FileStore.told in
    let bytes = g.F.FileStore.bytes in
    let s = c.args.self.now in
    let variables = c.args.variables.now in
    let st : Stated = (c.args.lined.now, control_by c.args.lined.now.what) in
    let files : Files = files_of (g.D.Disk.held c.args.disk.now) in
    let run : Run = run_in variables (st ∷ more) files s stage in
    let core : Core = core_of files s.core in
    let known = subst (λ x. stage_of told bytes variables (st ∷ more) core x ≡ Some stage) (sym c.replace.ensures.value ∙ c.in-Answered.is) e in
    let after : Files = files_of (g.D.Disk.held c.answered-doing.new.disk) in
    let k = run_known (λ task. Acting (then_of variables st core c.in-Answered.then (task, reply_of c.in-Answered.answer))) (task_of told bytes c.in-Answered.job) stage known in
    let does : Doing = then_of variables st core c.in-Answered.then (k.0, reply_of c.in-Answered.answer) in
    subst (λ x. IsTurn told bytes variables (st ∷ more) after c.act-in-Ok-doing.new.self c.act-in-Ok-doing.result (turn_on st x run)) k.2
    (c.act-in-Ok-doing.ensures.turn more after core (held s.core.pending) stage does c.answered-doing.ensures.pending (c.in-Ok-doing.ensures.doing tells k.0 k.1))

pub returns-in-Ok-doing-clause-steps : goal.returns-in-Ok-doing-clause-steps
returns-in-Ok-doing-clause-steps g c =
    let s = c.args.self.now in
    let out = c.args.out.now in
    let disk = c.args.disk.now in
    let half = c.answered-doing.new.core in
    let after = c.answered-doing.new.disk in
    let new = c.act-in-Ok-doing.new.self.core in
    let told = c.answered-doing.ensures in
    then_steps out out out disk after after s.core half new c.in-Ok-doing.doing (went c.act-in-Ok-doing.result)
    (disk_steps out disk after s.core half c.in-Ok-doing.doing told.kinds told.names told.output told.telling told.later told.own)
    (kept_steps out after half new c.act-in-Ok-doing.result c.act-in-Ok-doing.ensures.keeps)

pub returns-in-Start-clause-fails : goal.returns-in-Start-clause-fails
returns-in-Start-clause-fails g c = λ tells more stage e.
    let told = g.F.FileStore.told in
    let bytes = g.F.FileStore.bytes in
    let s = c.args.self.now in
    let variables = c.args.variables.now in
    let st : Stated = (c.args.lined.now, control_by c.args.lined.now.what) in
    let files : Files = files_of (g.D.Disk.held c.args.disk.now) in
    let run : Run = run_in variables (st ∷ more) files s stage in
    let core : Core = core_of files s.core in
    let known = subst (λ x. stage_of told bytes variables (st ∷ more) core x ≡ Some stage) (sym c.replace.ensures.value ∙ c.in-Start.is) e in
    subst (λ x. FailsStage g.W.Sink.tells g.W.Sink.taken c.args.out.now s.core c.start.result c.start.new.out c.start.new.self.core (g.D.Disk.held c.start.new.disk) (g.D.Disk.refusals c.args.disk.now) (g.D.Disk.refusals c.start.new.disk) st x run) (some_same Start stage known)
    (c.start.ensures.fails tells more stage)

pub returns-in-Waiting-clause-fails : goal.returns-in-Waiting-clause-fails
returns-in-Waiting-clause-fails g c = λ tells more stage e.
    let told = g.F.FileStore.told in
    let bytes = g.F.FileStore.bytes in
    let s = c.args.self.now in
    let variables = c.args.variables.now in
    let st : Stated = (c.args.lined.now, control_by c.args.lined.now.what) in
    let files : Files = files_of (g.D.Disk.held c.args.disk.now) in
    let run : Run = run_in variables (st ∷ more) files s stage in
    let core : Core = core_of files s.core in
    let known = subst (λ x. stage_of told bytes variables (st ∷ more) core x ≡ Some stage) (sym c.replace.ensures.value ∙ c.in-Waiting.is) e in
    subst (λ x. FailsStage g.W.Sink.tells g.W.Sink.taken c.args.out.now s.core c.wait.result c.wait.new.out c.wait.new.self.core (g.D.Disk.held c.wait.new.disk) (g.D.Disk.refusals c.args.disk.now) (g.D.Disk.refusals c.wait.new.disk) st x run) (some_same Waiting stage known)
    (c.wait.ensures.fails tells more stage)

pub returns-in-Resuming-clause-fails : goal.returns-in-Resuming-clause-fails
returns-in-Resuming-clause-fails g c = λ tells more stage e.
    let told = g.F.FileStore.told in
    let bytes = g.F.FileStore.bytes in
    let s = c.args.self.now in
    let variables = c.args.variables.now in
    let st : Stated = (c.args.lined.now, control_by c.args.lined.now.what) in
    let files : Files = files_of (g.D.Disk.held c.args.disk.now) in
    let run : Run = run_in variables (st ∷ more) files s stage in
    let core : Core = core_of files s.core in
    let known = subst (λ x. stage_of told bytes variables (st ∷ more) core x ≡ Some stage) (sym c.replace.ensures.value ∙ c.in-Resuming.is) e in
    subst (λ x. FailsStage g.W.Sink.tells g.W.Sink.taken c.args.out.now s.core c.resume.result c.resume.new.out c.resume.new.self.core (g.D.Disk.held c.resume.new.disk) (g.D.Disk.refusals c.args.disk.now) (g.D.Disk.refusals c.resume.new.disk) st x run) (some_same _ stage known)
    (fails_from c.args.out.now c.resume.new.out s.core s.core c.resume.new.self.core c.resume.result _ _ _ _ _ _ refl refl (λ z. absurd z) (λ k. k) refl refl (c.resume.ensures.fails tells more stage))

pub returns-in-Ok-clause-fails : goal.returns-in-Ok-clause-fails
returns-in-Ok-clause-fails g c = λ tells more stage e. fails_went c.args.out.now c.args.out.now c.args.self.now.core c.act.new.self.core c.act.result _ _ _

pub returns-in-Err-clause-fails : goal.returns-in-Err-clause-fails
returns-in-Err-clause-fails g c = λ tells more stage e.
    let told = g.F.FileStore.told in
    let bytes = g.F.FileStore.bytes in
    let s = c.args.self.now in
    let variables = c.args.variables.now in
    let st : Stated = (c.args.lined.now, control_by c.args.lined.now.what) in
    let held = g.D.Disk.held c.args.disk.now in
    let own = g.D.Disk.refusals c.args.disk.now in
    let run : Run = run_in variables (st ∷ more) (files_of held) s stage in
    let core : Core = core_of (files_of held) s.core in
    let known = subst (λ x. stage_of told bytes variables (st ∷ more) core x ≡ Some stage) (sym c.replace.ensures.value ∙ c.in-Going.is) e in
    let does : Doing = next_of variables st core c.in-Going.next c.in-Going.number in
    fails_at c.args.out.now c.args.out.now s.core c.given.new.core (given_up c.in-Err.lost) st (Acting does) stage run (some_same (Acting does) stage known)
    (fails_still c.args.out.now s.core c.given.new.core (given_up c.in-Err.lost) _ _ _ (λ e. c.given.ensures.causes.0 (cc (c.in-Err.is, e))) (λ e. c.given.ensures.causes.1 (cc (c.in-Err.is, e)))
    (λ fits. inr (tt, record { does = does; is = refl; stands = c.in-Err.ensures.stands held own own })))

pub returns-in-Awaiting-clause-fails : goal.returns-in-Awaiting-clause-fails
returns-in-Awaiting-clause-fails g c = λ tells more stage e. fails_went c.args.out.now c.args.out.now c.args.self.now.core c.settle.new.self.core c.settle.result _ _ _

pub returns-in-Ok-doing-clause-fails : goal.returns-in-Ok-doing-clause-fails
returns-in-Ok-doing-clause-fails g c = λ tells more stage e. fails_went c.args.out.now c.args.out.now c.args.self.now.core c.act-in-Ok-doing.new.self.core c.act-in-Ok-doing.result _ _ _

pub returns-in-Err-doing-clause-fails : goal.returns-in-Err-doing-clause-fails
returns-in-Err-doing-clause-fails g c = λ tells more stage e.
    let told = g.F.FileStore.told in
    let bytes = g.F.FileStore.bytes in
    let s = c.args.self.now in
    let variables = c.args.variables.now in
    let st : Stated = (c.args.lined.now, control_by c.args.lined.now.what) in
    let files : Files = files_of (g.D.Disk.held c.args.disk.now) in
    let run : Run = run_in variables (st ∷ more) files s stage in
    let core : Core = core_of files s.core in
    let known = subst (λ x. stage_of told bytes variables (st ∷ more) core x ≡ Some stage) (sym c.replace.ensures.value ∙ c.in-Answered.is) e in
    let k = run_known (λ task. Acting (then_of variables st core c.in-Answered.then (task, reply_of c.in-Answered.answer))) (task_of told bytes c.in-Answered.job) stage known in
    let does : Doing = then_of variables st core c.in-Answered.then (k.0, reply_of c.in-Answered.answer) in
    fails_at c.args.out.now c.args.out.now s.core c.answered-doing.new.core (given_up c.in-Err-doing.lost) st (Acting does) stage run k.2
    (fails_quiet c.args.out.now s.core c.answered-doing.new.core (given_up c.in-Err-doing.lost) (output_of (turn_on st (Acting does) run)) c.answered-doing.ensures.output c.answered-doing.ensures.tells
    (λ e. c.answered-doing.ensures.sink (cc (c.in-Err-doing.is, e))) (λ fits. record { does = does; is = refl; stands = c.in-Err-doing.ensures.stands tells k.0 k.1 (λ z. fits (cc z)) })
    (λ d. (c.answered-doing.ensures.fault tells k.0 k.1 (cc (c.in-Err-doing.is, d))).rose)
    (λ d. closing_calls st.0.what (c.answered-doing.ensures.called (subst (λ x. may_be_at st.0.what x ≡ true) (sym c.replace.ensures.value ∙ c.in-Answered.is) c.requires.hand) (cc (c.in-Err-doing.is, d)))))

pub invariant_of-self-in-Going-clause-given : goal.invariant_of-self-in-Going-clause-given
invariant_of-self-in-Going-clause-given g c =
    let s = c.args.self.now in
    given_entered s.sent.items c.in-Going.next c.in-Going.number s.core c.given.new.core
    (λ slot e. s.own slot c.in-Going.number (subst (λ x. gave slot c.in-Going.number x ≡ true) (sym (sym c.replace.ensures.value ∙ c.in-Going.is)) e)) s.given c.given.ensures.enters

pub invariant_of-self-in-Going-clause-named : goal.invariant_of-self-in-Going-clause-named
invariant_of-self-in-Going-clause-named g c =
    let s = c.args.self.now in
    named_entered c.in-Going.next c.in-Going.number s.core c.given.new.core s.named c.given.ensures.enters

pub invariant_of-self-in-Going-clause-untold : goal.invariant_of-self-in-Going-clause-untold
invariant_of-self-in-Going-clause-untold g c =
    let s = c.args.self.now in
    untold_entered s.told.items c.in-Going.next c.in-Going.number s.core c.given.new.core
    (λ slot e. s.own_untold slot c.in-Going.number (subst (λ x. gave slot c.in-Going.number x ≡ true) (sym (sym c.replace.ensures.value ∙ c.in-Going.is)) e)) s.untold c.given.ensures.enters

pub settle-requires-clause-own_untold : goal.settle-requires-clause-own_untold
settle-requires-clause-own_untold g c = λ slot number e.
    c.args.self.now.own_untold slot number (subst (λ x. gave slot number x ≡ true) (sym (sym c.replace.ensures.value ∙ c.in-Awaiting.is)) e)

pub settle-requires-clause-owed : goal.settle-requires-clause-owed
settle-requires-clause-owed g c =
    let s = c.args.self.now in
    let slot = c.in-Awaiting.slot in
    let number = c.in-Awaiting.number in
    let own = subst (λ x. gave slot number x ≡ true) (sym (sym c.replace.ensures.value ∙ c.in-Awaiting.is)) (at_itself slot number) in
    let given = (s.own slot number own).0 in
    let low = s.own_untold slot number own in
    omega (arith, given, low)

pub settle-requires-clause-slot : goal.settle-requires-clause-slot
settle-requires-clause-slot g c =
    let s = c.args.self.now in
    let slot = c.in-Awaiting.slot in
    let number = c.in-Awaiting.number in
    slot_given s.sent.items slot number s.sent_slots
    (s.own slot number (subst (λ x. gave slot number x ≡ true) (sym (sym c.replace.ensures.value ∙ c.in-Awaiting.is)) (at_itself slot number))).0

pub settle-requires-clause-own : goal.settle-requires-clause-own
settle-requires-clause-own g c = λ slot number e.
    c.args.self.now.own slot number (subst (λ x. gave slot number x ≡ true) (sym (sym c.replace.ensures.value ∙ c.in-Awaiting.is)) e)

pub returns-in-Start-clause-fits : goal.returns-in-Start-clause-fits
returns-in-Start-clause-fits g c = λ sound have more kept.
    let s = c.args.self.now in
    c.start.ensures.fits sound (subst (λ x. HaveAt x s.core.names s.core.units c.args.lined.now.what) (sym c.replace.ensures.value ∙ c.in-Start.is) have) kept

pub returns-in-Waiting-clause-fits : goal.returns-in-Waiting-clause-fits
returns-in-Waiting-clause-fits g c = λ sound have more kept.
    let s = c.args.self.now in
    c.wait.ensures.fits sound (subst (λ x. HaveAt x s.core.names s.core.units c.args.lined.now.what) (sym c.replace.ensures.value ∙ c.in-Waiting.is) have) kept

pub returns-in-Resuming-clause-fits : goal.returns-in-Resuming-clause-fits
returns-in-Resuming-clause-fits g c = λ sound have more kept.
    let s = c.args.self.now in
    c.resume.ensures.fits sound (subst (λ x. HaveAt x s.core.names s.core.units c.args.lined.now.what) (sym c.replace.ensures.value ∙ c.in-Resuming.is) have) kept

pub returns-in-Err-clause-fits : goal.returns-in-Err-clause-fits
returns-in-Err-clause-fits g c = λ sound have more kept.
    let s = c.args.self.now in
    λ e. c.given.ensures.fits
    (may_go_on s.sent.items c.in-Going.next c.in-Going.number s.core s.sent_slots s.named
    (λ slot e. s.own slot c.in-Going.number (subst (λ x. gave slot c.in-Going.number x ≡ true) (sym (sym c.replace.ensures.value ∙ c.in-Going.is)) e))
    (more (λ start. going_not_start c.in-Going.next c.in-Going.number (sym (sym c.replace.ensures.value ∙ c.in-Going.is) ∙ start)))) (cc (c.in-Err.is, e))

pub returns-in-Err-doing-clause-fits : goal.returns-in-Err-doing-clause-fits
returns-in-Err-doing-clause-fits g c = λ sound have more kept.
    let s = c.args.self.now in
    let files = subst (λ x. HaveAt x s.core.names s.core.units c.args.lined.now.what) (sym c.replace.ensures.value ∙ c.in-Answered.is) have in
    λ e. c.answered-doing.ensures.fits files (cc (c.in-Err-doing.is, e))

pub returns-in-Start-clause-files : goal.returns-in-Start-clause-files
returns-in-Start-clause-files g c = λ have.
    let s = c.args.self.now in
    let files = subst (λ x. HaveAt x s.core.names s.core.units c.args.lined.now.what) (sym c.replace.ensures.value ∙ c.in-Start.is) have in
    c.start.ensures.files files

pub returns-in-Waiting-clause-files : goal.returns-in-Waiting-clause-files
returns-in-Waiting-clause-files g c = λ have.
    let s = c.args.self.now in
    let files = subst (λ x. HaveAt x s.core.names s.core.units c.args.lined.now.what) (sym c.replace.ensures.value ∙ c.in-Waiting.is) have in
    c.wait.ensures.files files

pub returns-in-Resuming-clause-files : goal.returns-in-Resuming-clause-files
returns-in-Resuming-clause-files g c = λ have.
    let s = c.args.self.now in
    let files = subst (λ x. HaveAt x s.core.names s.core.units c.args.lined.now.what) (sym c.replace.ensures.value ∙ c.in-Resuming.is) have in
    c.resume.ensures.files files

pub returns-in-Ok-clause-files : goal.returns-in-Ok-clause-files
returns-in-Ok-clause-files g c = λ have.
    let s = c.args.self.now in
    let files = subst (λ x. HaveAt x s.core.names s.core.units c.args.lined.now.what) (sym c.replace.ensures.value ∙ c.in-Going.is) have in
    c.act.ensures.files (c.in-Ok.ensures.files files)

pub returns-in-Awaiting-clause-files : goal.returns-in-Awaiting-clause-files
returns-in-Awaiting-clause-files g c = λ have.
    let s = c.args.self.now in
    let files = subst (λ x. HaveAt x s.core.names s.core.units c.args.lined.now.what) (sym c.replace.ensures.value ∙ c.in-Awaiting.is) have in
    c.settle.ensures.files c.args.lined.now.what files

pub returns-in-Ok-doing-clause-files : goal.returns-in-Ok-doing-clause-files
returns-in-Ok-doing-clause-files g c = λ have.
    let s = c.args.self.now in
    let files = subst (λ x. HaveAt x s.core.names s.core.units c.args.lined.now.what) (sym c.replace.ensures.value ∙ c.in-Answered.is) have in
    c.act-in-Ok-doing.ensures.files (c.in-Ok-doing.ensures.files files)

pub returns-in-Ok-clause-counts : goal.returns-in-Ok-clause-counts
returns-in-Ok-clause-counts g c =
    let s = c.args.self.now in
    count_entered (went c.act.result) s _ c.act.new.self (entered_next c.in-Going.next c.in-Going.number s.core c.given.new.core c.given.ensures.enters) refl refl c.act.ensures.next c.act.ensures.counts (c.act.ensures.ends c.in-Ok.ensures.ends)

pub returns-in-Ok-clause-holds : goal.returns-in-Ok-clause-holds
returns-in-Ok-clause-holds g c = λ kept. subst (λ o. o.begun ≤ star_limit) (sym (c.act.ensures.keeps.output ∙ c.given.ensures.output)) kept

pub returns-in-Awaiting-clause-holds : goal.returns-in-Awaiting-clause-holds
returns-in-Awaiting-clause-holds g c = λ kept. subst IsKept (sym c.settle.ensures.core) kept

pub returns-in-Ok-doing-clause-holds : goal.returns-in-Ok-doing-clause-holds
returns-in-Ok-doing-clause-holds g c = λ kept. subst (λ o. o.begun ≤ star_limit) (sym (c.act-in-Ok-doing.ensures.keeps.output ∙ c.answered-doing.ensures.output)) kept

pub returns-in-Start-clause-spends : goal.returns-in-Start-clause-spends
returns-in-Start-clause-spends g c =
    let units = length c.args.self.now.core.units in
    subst (λ x. IfOk c.start.result (λ t. Spends (jobs_at x units) t c.start.new.self)) (sym (sym c.replace.ensures.value ∙ c.in-Start.is)) c.start.ensures.spends

pub returns-in-Waiting-clause-spends : goal.returns-in-Waiting-clause-spends
returns-in-Waiting-clause-spends g c =
    let units = length c.args.self.now.core.units in
    subst (λ x. IfOk c.wait.result (λ t. Spends (jobs_at x units) t c.wait.new.self)) (sym (sym c.replace.ensures.value ∙ c.in-Waiting.is)) c.wait.ensures.spends

pub returns-in-Resuming-clause-spends : goal.returns-in-Resuming-clause-spends
returns-in-Resuming-clause-spends g c =
    let units = length c.args.self.now.core.units in
    subst (λ x. IfOk c.resume.result (λ t. Spends (jobs_at x units) t c.resume.new.self)) (sym (sym c.replace.ensures.value ∙ c.in-Resuming.is)) c.resume.ensures.spends

pub returns-in-Ok-clause-spends : goal.returns-in-Ok-clause-spends
returns-in-Ok-clause-spends g c =
    let units = length c.given.new.core.units in
    let few = none_when_ended c.in-Ok.doing units (jobs_at c.args.self.now.stage (length c.args.self.now.core.units)) c.in-Ok.ensures.ends in
    ok_spends (went c.act.result) (jobs_of c.in-Ok.doing units) (jobs_at c.args.self.now.stage (length c.args.self.now.core.units)) c.act.new.self few c.act.ensures.spends

pub returns-in-Awaiting-clause-spends : goal.returns-in-Awaiting-clause-spends
returns-in-Awaiting-clause-spends g c =
    let units = length c.args.self.now.core.units in
    subst (λ x. Spends (jobs_at x units) c.settle.result c.settle.new.self) (sym (sym c.replace.ensures.value ∙ c.in-Awaiting.is)) c.settle.ensures.spends

pub returns-in-Ok-doing-clause-spends : goal.returns-in-Ok-doing-clause-spends
returns-in-Ok-doing-clause-spends g c =
    let units = length c.args.self.now.core.units in
    let left = length c.answered-doing.new.core.units in
    let few = subst (λ x. jobs_of c.in-Ok-doing.doing left ≤ jobs_at x units) (sym (sym c.replace.ensures.value ∙ c.in-Answered.is)) c.in-Ok-doing.ensures.jobs in
    ok_spends (went c.act-in-Ok-doing.result) (jobs_of c.in-Ok-doing.doing left) (jobs_at c.args.self.now.stage units) c.act-in-Ok-doing.new.self few c.act-in-Ok-doing.ensures.spends

pub returns-in-Start-clause-vain : goal.returns-in-Start-clause-vain
returns-in-Start-clause-vain g c = λ have.
    let s = c.args.self.now in
    c.start.ensures.vain (subst (λ x. HaveAt x s.core.names s.core.units c.args.lined.now.what) (sym c.replace.ensures.value ∙ c.in-Start.is) have)

pub returns-in-Waiting-clause-vain : goal.returns-in-Waiting-clause-vain
returns-in-Waiting-clause-vain g c = λ have.
    let s = c.args.self.now in
    c.wait.ensures.vain (subst (λ x. HaveAt x s.core.names s.core.units c.args.lined.now.what) (sym c.replace.ensures.value ∙ c.in-Waiting.is) have)

pub returns-in-Resuming-clause-vain : goal.returns-in-Resuming-clause-vain
returns-in-Resuming-clause-vain g c = λ have.
    let s = c.args.self.now in
    c.resume.ensures.vain (subst (λ x. HaveAt x s.core.names s.core.units c.args.lined.now.what) (sym c.replace.ensures.value ∙ c.in-Resuming.is) have)

pub returns-in-Err-clause-vain : goal.returns-in-Err-clause-vain
returns-in-Err-clause-vain g c = λ have.
    let s = c.args.self.now in
    let files = subst (λ x. HaveAt x s.core.names s.core.units c.args.lined.now.what) (sym c.replace.ensures.value ∙ c.in-Going.is) have in
    subst (HaveFiles c.given.new.core.names) (sym c.given.ensures.units) (subst (λ ns. HaveFiles ns s.core.units) (sym c.given.ensures.names) files)

pub returns-in-Err-doing-clause-vain : goal.returns-in-Err-doing-clause-vain
returns-in-Err-doing-clause-vain g c = λ have.
    let s = c.args.self.now in
    c.in-Err-doing.ensures.vain (subst (λ x. HaveAt x s.core.names s.core.units c.args.lined.now.what) (sym c.replace.ensures.value ∙ c.in-Answered.is) have)
