use Rattle.std.proofs.Common.{◌∷◌, Some, None, IfOk, refl, sym, subst, ap}
use Rattle.fj_meaning.specs.State.{Files}
use Rattle.fj_meaning.specs.Statement.{Stated, control_by}
use Rattle.fj_meaning_turns.specs.Run.{Run}
use Rattle.fj_run_units.specs.Files.{files_of}
use Rattle.fj_run_script.specs.Machine.{run_in}
use Rattle.fj_run_script.specs.Turned.{IsTurn}
use Rattle.fj_run_script.proofs.Beginnings.{rule_by, starts_free, starts_ruled}
use Rattle.fj_meaning_turns.specs.Passing.{output_of}
use Rattle.fj_run_script.proofs.Failures.{fails_from}
use Rattle.fj_run_script.proofs.state.State.start.Goals as goal

pub returns-in-None-clause-turn : goal.returns-in-None-clause-turn
returns-in-None-clause-turn g c = λ tells more stage.
    let told = g.F.FileStore.told in
    let bytes = g.F.FileStore.bytes in
    let s = c.args.self.now in
    let variables = c.args.variables.now in
    let st : Stated = (c.args.lined.now, control_by c.args.lined.now.what) in
    let files : Files = files_of (g.D.Disk.held c.args.disk.now) in
    let run : Run = run_in variables (st ∷ more) files s stage in
    let rule = rule_by variables c.as_slice.result.now st files s.core c.unit_asked-named.result c.check-broken.result None c.as_slice.ensures c.check-broken.ensures c.in-None.is
    c.unit_asked-named.ensures in
    subst (λ t'. IfOk c.wait.result (λ t. IsTurn told bytes variables (st ∷ more) (files_of (g.D.Disk.held c.wait.new.disk)) c.wait.new.self t t')) (sym (starts_free st run rule))
    (c.wait.ensures.turn tells more stage)

pub returns-in-Some-clause-turn : goal.returns-in-Some-clause-turn
returns-in-Some-clause-turn g c = λ tells more stage.
    let told = g.F.FileStore.told in
    let bytes = g.F.FileStore.bytes in
    let s = c.args.self.now in
    let variables = c.args.variables.now in
    let st : Stated = (c.args.lined.now, control_by c.args.lined.now.what) in
    let files : Files = files_of (g.D.Disk.held c.args.disk.now) in
    let run : Run = run_in variables (st ∷ more) files s stage in
    let rule = rule_by variables c.as_slice.result.now st files s.core c.unit_asked-named.result c.check-broken.result (Some c.in-Some.rule) c.as_slice.ensures c.check-broken.ensures
    c.in-Some.is c.unit_asked-named.ensures in
    (c.put_stage.ensures, starts_ruled st run c.in-Some.rule rule)

pub returns-in-None-clause-fails : goal.returns-in-None-clause-fails
returns-in-None-clause-fails g c = λ tells more stage.
    let told = g.F.FileStore.told in
    let bytes = g.F.FileStore.bytes in
    let s = c.args.self.now in
    let variables = c.args.variables.now in
    let st : Stated = (c.args.lined.now, control_by c.args.lined.now.what) in
    let files : Files = files_of (g.D.Disk.held c.args.disk.now) in
    let run : Run = run_in variables (st ∷ more) files s stage in
    let rule = rule_by variables c.as_slice.result.now st files s.core c.unit_asked-named.result c.check-broken.result None c.as_slice.ensures c.check-broken.ensures c.in-None.is
    c.unit_asked-named.ensures in
    fails_from c.args.out.now c.wait.new.out s.core s.core c.wait.new.self.core c.wait.result _ _ _ _ _ _ refl (ap output_of (sym (starts_free st run rule))) (λ s. s) (λ k. k) refl refl (c.wait.ensures.fails tells more stage)
