use Rattle.std.proofs.Common.{◌≡◌, ◌≤◌, length, true, Some, refl, sym, subst, arith}
use Rattle.fj_run_statements.specs.State.{core_of}
use Rattle.fj_run_script.specs.Passing.{is_waiting}
use Rattle.fj_run_script.specs.Spending.{jobs_at}
use Rattle.fj_run_script.specs.Machine.{run_in, stage_of}
use Rattle.fj_run_script.proofs.Pauses.{settle_pauses}
use Rattle.fj_run_script.specs.Going.{HaveAt}
use Rattle.fj_run_script.proofs.state.State.settle.Goals as goal

pub returns-clause-turn : goal.returns-clause-turn
returns-clause-turn g c = λ variables rest files before after s.
    let old = c.args.self.now in
    settle_pauses g.F.FileStore.told g.F.FileStore.bytes variables rest files _ (run_in variables rest files old before) c.args.slot after
    (subst (λ x. stage_of g.F.FileStore.told g.F.FileStore.bytes variables rest (core_of files old.core) x ≡ Some after) (sym c.put_stage.ensures) s) refl

pub returns-clause-counts : goal.returns-clause-counts
returns-clause-counts g c =
    (refl, refl, refl, record { inside = c.requires.slot; due = refl; owed = c.requires.owed; waits = subst (λ x. is_waiting x ≡ true) (sym c.put_stage.ensures) c.requires.waits })

pub returns-clause-spends : goal.returns-clause-spends
returns-clause-spends g c =
    let units = length c.args.self.now.core.units in
    let n = jobs_at c.args.stage units in
    subst (λ x. jobs_at x units ≤ n) (sym c.put_stage.ensures) (omega arith)

pub returns-clause-files : goal.returns-clause-files
returns-clause-files g c = λ what have.
    let core = c.args.self.now.core in
    (subst (λ s. HaveAt s core.names core.units what) (sym c.put_stage.ensures) have, tt)
