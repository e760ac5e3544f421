use Rattle.std.proofs.Common.{◌≡◌, ◌+◌, ◌∷◌, drop, Some, refl, sym, subst, ap, ◌∙◌, ◌-◌, ◌<◌, ◌≤◌, length, max, arith}
use Rattle.std.proofs.lemmas.Option.{slice_get_within}
use Rattle.fj_bay.specs.Jobs.{resume}
use Rattle.fj_meaning.specs.State.{Files}
use Rattle.fj_meaning.specs.Statement.{Stated, control_by}
use Rattle.fj_meaning.specs.Transfers.{star_limit}
use Rattle.fj_meaning_jobs.specs.Acting.{doing}
use Rattle.fj_meaning_jobs.specs.Core.{Core}
use Rattle.fj_meaning_jobs.specs.Doing.{Doing}
use Rattle.fj_meaning_turns.specs.Run.{Run, Acting}
use Rattle.fj_meaning_turns.specs.Turns.{turn_act, ends_halts}
use Rattle.fj_run_pending.specs.Plain.{held}
use Rattle.fj_run_statements.specs.Fitting.{IsKept}
use Rattle.fj_run_statements.specs.State.{core_of}
use Rattle.fj_run_units.specs.Files.{files_of}
use Rattle.fj_run_script.specs.Machine.{run_in}
use Rattle.fj_run_script.specs.Turned.{IsTurn}
use Rattle.fj_run_script.proofs.Lists.{drop_at, drop_none}
use Rattle.fj_run_script.proofs.Pauses.{ends_next}
use Rattle.fj_run_statements.specs.Jobs.{jobs_of}
use Rattle.fj_run_script.proofs.Spending.{doing_few, ok_spends}
use Rattle.fj_run_script.proofs.Runs.{matched_same}
use Rattle.fj_run_items.specs.Handing.{HandsFront, HandsPart}
use Rattle.fj_meaning_turns.specs.Passing.{output_of}
use Rattle.fj_run_statements.specs.State.{core_at}
use Rattle.fj_run_script.proofs.Failures.{act_output, fails_begun, fails_went}
use Rattle.fj_run_script.proofs.Stepping.{begun_steps, kept_steps, same_keeps, went}
use Rattle.fj_run_script.proofs.state.State.resume.Goals as goal

pub returns-in-Some-clause-turn : goal.returns-in-Some-clause-turn
returns-in-Some-clause-turn g c = λ tells more stage.
    let told = g.F.FileStore.told in
    let bytes = g.F.FileStore.bytes in
    let s = c.args.self.now in
    let variables = c.args.variables.now in
    let st : Stated = (c.args.lined.now, control_by c.args.lined.now.what) in
    let files : Files = files_of (g.D.Disk.held c.args.disk.now) in
    let core : Core = core_of files s.core in
    let does : Doing = doing st.1 variables st.0.line core st.0.what c.args.condition in
    let e = drop_at c.args.slots c.args.next c.in-Some.slot.now (sym c.in-Some.ensures) in
    subst (λ t'. IsTurn told bytes variables (st ∷ more) files c.submit.new.self c.submit.result t')
    (sym (ends_next variables st more files s stage core (held s.core.pending) (sym (matched_same (held s.core.pending))) c.args.slots c.args.next c.in-Some.slot.now does e))
    (c.submit.ensures.turn variables (st ∷ more) files resume stage (Acting (ends_halts (drop (c.args.next + 1) c.args.slots) core does)) refl refl)

pub returns-in-Ok-clause-turn : goal.returns-in-Ok-clause-turn
returns-in-Ok-clause-turn g c = λ tells more stage.
    let told = g.F.FileStore.told in
    let bytes = g.F.FileStore.bytes in
    let s = c.args.self.now in
    let variables = c.args.variables.now in
    let st : Stated = (c.args.lined.now, control_by c.args.lined.now.what) in
    let files : Files = files_of (g.D.Disk.held c.args.disk.now) in
    let after : Files = files_of (g.D.Disk.held c.begin.new.disk) in
    let core : Core = core_of files s.core in
    let does : Doing = doing st.1 variables st.0.line core st.0.what c.args.condition in
    let e = drop_none c.args.slots c.args.next (sym c.in_default.ensures) in
    subst (λ xs. IsTurn told bytes variables (st ∷ more) after c.act.new.self c.act.result (turn_act st (ends_halts xs core does) (run_in variables (st ∷ more) files s stage))) (sym e)
    (c.act.ensures.turn more after core (held s.core.pending) stage does c.begin.ensures.pending (c.in-Ok.ensures.doing tells))

pub returns-in-Some-clause-fails : goal.returns-in-Some-clause-fails
returns-in-Some-clause-fails g c = λ tells more stage. fails_went c.args.out.now c.args.out.now c.args.self.now.core c.submit.new.self.core c.submit.result _ _ _

pub returns-in-Ok-clause-fails : goal.returns-in-Ok-clause-fails
returns-in-Ok-clause-fails g c = λ tells more stage. fails_went c.args.out.now c.begin.new.out c.args.self.now.core c.act.new.self.core c.act.result _ _ _

pub returns-clause-fails : goal.returns-clause-fails
returns-clause-fails g c = λ tells more stage.
    let told = g.F.FileStore.told in
    let bytes = g.F.FileStore.bytes in
    let s = c.args.self.now in
    let variables = c.args.variables.now in
    let st : Stated = (c.args.lined.now, control_by c.args.lined.now.what) in
    let files : Files = files_of (g.D.Disk.held c.args.disk.now) in
    let core : Core = core_of files s.core in
    let does : Doing = doing st.1 variables st.0.line core st.0.what c.args.condition in
    let run : Run = run_in variables (st ∷ more) files s stage in
    let e = drop_none c.args.slots c.args.next (sym c.in_default.ensures) in
    let due : output_of (turn_act st (ends_halts (drop c.args.next c.args.slots) core does) run) ≡ (core_at does).output =
    ap (λ xs. output_of (turn_act st (ends_halts xs core does) run)) e ∙ act_output st does run in
    let taken = g.W.Sink.taken in
    fails_begun c.args.out.now c.begin.new.out s.core c.begin.new.core _ _ (λ t. subst (λ o. HandsFront (taken c.args.out.now) (taken c.begin.new.out) s.core.output o) (sym due) (c.in-Err.ensures.front t))
    (λ t e. subst (λ o. HandsPart (taken c.args.out.now) (taken c.begin.new.out) s.core.output o) (sym due) (c.begin.ensures.part t (cc (c.in-Err.is, e))))
    (λ e. (c.begin.ensures.still (cc (c.in-Err.is, e))).1) c.begin.ensures.tells
    (record { does = does; is = ap (λ xs. Some (ends_halts xs core does)) e; stands = c.in-Err.ensures.stands tells })
    (λ d. (c.begin.ensures.fault tells (cc (c.in-Err.is, d))).rose) (λ d. c.begin.ensures.called (cc (c.in-Err.is, d)))

pub returns-clause-steps : goal.returns-clause-steps
returns-clause-steps g c =
    let it = c.begin.ensures in
    let s = c.args.self.now in
    let st : Stated = (c.args.lined.now, control_by c.args.lined.now.what) in
    let core : Core = core_of (files_of (g.D.Disk.held c.args.disk.now)) s.core in
    let due = (core_at (doing st.1 c.args.variables.now st.0.line core st.0.what c.args.condition)).output in
    begun_steps c.args.out.now c.begin.new.out c.args.disk.now c.begin.new.disk c.args.self.now.core c.begin.new.core c.begin.result c.in-Err.lost due c.in-Err.is it.kinds it.names it.telling it.later it.own it.failed it.telling_out
    it.later_out it.failed_out it.front it.still

pub returns-in-Some-clause-steps : goal.returns-in-Some-clause-steps
returns-in-Some-clause-steps g c =
    kept_steps c.args.out.now c.args.disk.now c.args.self.now.core c.submit.new.self.core c.submit.result (same_keeps c.args.self.now.core c.submit.new.self.core c.submit.ensures.core)

pub returns-in-Some-clause-holds : goal.returns-in-Some-clause-holds
returns-in-Some-clause-holds g c = λ kept. subst IsKept (sym c.submit.ensures.core) kept

pub returns-in-Ok-clause-holds : goal.returns-in-Ok-clause-holds
returns-in-Ok-clause-holds g c = λ kept. subst (λ o. o.begun ≤ star_limit) (sym c.act.ensures.keeps.output) (c.in-Ok.ensures.keeps kept)

pub returns-in-Some-clause-spends : goal.returns-in-Some-clause-spends
returns-in-Some-clause-spends g c =
    let slots = length c.args.slots in
    let next = c.args.next in
    let most = max (length c.args.self.now.core.units) 2 in
    let within : next < slots = slice_get_within c.args.slots next c.in-Some.slot.now (sym c.in-Some.ensures) in
    let few : ((slots - (next + 1)) + most) + 1 ≤ (slots - next) + most = omega (arith, within) in
    ok_spends (went c.submit.result) (((slots - (next + 1)) + most) + 1) ((slots - next) + most) c.submit.new.self few c.submit.ensures.spends

pub returns-in-Ok-clause-spends : goal.returns-in-Ok-clause-spends
returns-in-Ok-clause-spends g c =
    let units = length c.begin.new.core.units in
    let most = max (length c.args.self.now.core.units) 2 in
    let does : jobs_of c.in-Ok.doing units ≤ most = subst (λ us. jobs_of c.in-Ok.doing units ≤ max (length us) 2) c.begin.ensures.units (doing_few c.in-Ok.doing units) in
    let few : jobs_of c.in-Ok.doing units ≤ (length c.args.slots - c.args.next) + most = omega (arith, does) in
    ok_spends (went c.act.result) (jobs_of c.in-Ok.doing units) ((length c.args.slots - c.args.next) + most) c.act.new.self few c.act.ensures.spends

pub returns-in-Some-clause-files : goal.returns-in-Some-clause-files
returns-in-Some-clause-files g c = λ have. c.submit.ensures.files c.args.lined.now.what have have
