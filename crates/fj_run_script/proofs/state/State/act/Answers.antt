use Rattle.std.proofs.Common.{◌∷◌, length, refl, sym, subst}
use Rattle.fj_meaning.specs.Statement.{Stated, control_by}
use Rattle.fj_meaning_turns.specs.Run.{Run, Acting, Awaiting}
use Rattle.fj_meaning_turns.specs.Turns.{turn_act}
use Rattle.fj_run_statements.specs.Doing.{IsDoing, next_of, then_of}
use Rattle.fj_run_statements.specs.State.{core_of}
use Rattle.fj_run_statements.specs.Having.{HaveNext}
use Rattle.fj_run_statements.specs.Jobs.{jobs_of}
use Rattle.fj_run_script.specs.Spending.{Spends}
use Rattle.fj_run_script.specs.Machine.{run_in}
use Rattle.fj_run_script.specs.Turned.{IsTurn}
use Rattle.fj_run_script.proofs.Pauses.{acts_gives, acts_awaits}
use Rattle.fj_run_script.proofs.state.State.act.Goals as goal

pub returns-in-Gives-clause-turn : goal.returns-in-Gives-clause-turn
returns-in-Gives-clause-turn g c = λ more files core book stage plain e d.
    let told = g.F.FileStore.told in
    let bytes = g.F.FileStore.bytes in
    let s = c.args.self.now in
    let st : Stated = (c.args.lined.now, control_by c.args.lined.now.what) in
    let it = subst (λ x. IsDoing told bytes c.args.variables.now st (core_of files s.core) x plain) c.in-Gives.is d in
    subst (λ t'. IsTurn told bytes c.args.variables.now (st ∷ more) files c.submit.new.self c.submit.result t')
    (sym (acts_gives c.args.variables.now st more files s stage core book e c.in-Gives.slot it.task c.in-Gives.next c.number_at-number.result plain c.number_at-number.ensures it.gives))
    (c.submit.ensures.turn c.args.variables.now (st ∷ more) files it.task stage (Acting (next_of c.args.variables.now st (core_of files s.core) c.in-Gives.next c.number_at-number.result)) it.is refl)

pub returns-in-Awaits-clause-turn : goal.returns-in-Awaits-clause-turn
returns-in-Awaits-clause-turn g c = λ more files core book stage plain e d.
    let told = g.F.FileStore.told in
    let bytes = g.F.FileStore.bytes in
    let s = c.args.self.now in
    let st : Stated = (c.args.lined.now, control_by c.args.lined.now.what) in
    let it = subst (λ x. IsDoing told bytes c.args.variables.now st (core_of files s.core) x plain) c.in-Awaits.is d in
    subst (λ t'. IsTurn told bytes c.args.variables.now (st ∷ more) files c.submit-in-Awaits.new.self c.submit-in-Awaits.result t')
    (sym (acts_awaits c.args.variables.now st more files s stage core book e c.in-Awaits.slot it.task c.in-Awaits.then c.number_at-number-in-Awaits.result plain c.number_at-number-in-Awaits.ensures it.gives))
    (c.submit-in-Awaits.ensures.turn c.args.variables.now (st ∷ more) files it.task stage (Awaiting c.in-Awaits.slot c.number_at-number-in-Awaits.result (then_of c.args.variables.now st (core_of files s.core) c.in-Awaits.then)) it.is refl)

pub returns-in-Finishes-clause-turn : goal.returns-in-Finishes-clause-turn
returns-in-Finishes-clause-turn g c = λ more files core book stage plain e d.
    let told = g.F.FileStore.told in
    let bytes = g.F.FileStore.bytes in
    let s = c.args.self.now in
    let st : Stated = (c.args.lined.now, control_by c.args.lined.now.what) in
    let run : Run = record (run_in c.args.variables.now (st ∷ more) files s stage) { core = core; book = book } in
    let it = subst (λ x. IsDoing told bytes c.args.variables.now st (core_of files s.core) x plain) c.in-Finishes.is d in
    subst (λ p. IsTurn told bytes c.args.variables.now (st ∷ more) files c.finish.new.self c.finish.result (turn_act st p run)) (sym it) (c.finish.ensures.turn more files core book stage e)

pub returns-in-Finishes-clause-spends : goal.returns-in-Finishes-clause-spends
returns-in-Finishes-clause-spends g c = c.finish.ensures.spends (jobs_of c.args.doing (length c.args.self.now.core.units))

pub returns-in-Gives-clause-spends : goal.returns-in-Gives-clause-spends
returns-in-Gives-clause-spends g c =
    let units = length c.args.self.now.core.units in
    subst (λ d. Spends (jobs_of d units) c.submit.result c.submit.new.self) (sym c.in-Gives.is) c.submit.ensures.spends

pub returns-in-Awaits-clause-spends : goal.returns-in-Awaits-clause-spends
returns-in-Awaits-clause-spends g c =
    let units = length c.args.self.now.core.units in
    subst (λ d. Spends (jobs_of d units) c.submit-in-Awaits.result c.submit-in-Awaits.new.self) (sym c.in-Awaits.is) c.submit-in-Awaits.ensures.spends

pub returns-in-Gives-clause-files : goal.returns-in-Gives-clause-files
returns-in-Gives-clause-files g c = λ have.
    let core = c.args.self.now.core in
    let what = c.args.lined.now.what in
    let it = subst (λ d. HaveNext d core.names core.units what) c.in-Gives.is have in
    c.submit.ensures.files what it.0 it.1

pub returns-in-Awaits-clause-files : goal.returns-in-Awaits-clause-files
returns-in-Awaits-clause-files g c = λ have.
    let core = c.args.self.now.core in
    let what = c.args.lined.now.what in
    let it = subst (λ d. HaveNext d core.names core.units what) c.in-Awaits.is have in
    c.submit-in-Awaits.ensures.files what it.0 it.1
