use Rattle.std.proofs.Common.{sym, ap, ◌∙◌, subst, ◌≡◌, Some, None, ℕ}
use Rattle.fj_modes.specs.Modes.{settled}
use Rattle.fj_meaning_jobs.specs.Core.{Connected as PlainConnected, Core, connected_at}
use Rattle.fj_meaning_jobs.specs.Acting.{opens_with}
use Rattle.fj_meaning_jobs.specs.Doing.{Doing as PlainDoing}
use Rattle.fj_run_units.specs.Files.{files_of}
use Rattle.fj_run_units.specs.Units.{connected_of}
use Rattle.fj_run_units.specs.Having.{HaveFiles}
use Rattle.fj_run_statements.specs.Doing.{IsDoing}
use Rattle.fj_run_statements.specs.State.{core_of}
use Rattle.fj_run_statements.proofs.FailingLemmas.{fails_as, still_as}
use Rattle.fj_run_statements.proofs.OpeningLemmas.{opens_again, opens_none, opens_another, meant}
use Rattle.fj_run_statements.specs.declared.state.Core.{Core as Held}
use Rattle.fj_run_statements.proofs.opening.open_numbered.Goals as goal
use Rattle.fj_run_statements.proofs.opening.open_numbered.Goals.{in-Some+else-keeps_name, in_default}

pub returns-then-keeps_name-clause-doing : goal.returns-then-keeps_name-clause-doing
returns-then-keeps_name-clause-doing g c = λ tells variables st asks.
    let core : Core = core_of (files_of (g.D.Disk.held c.args.disk.now)) c.args.core.now in
    let u : PlainConnected = connected_of c.in-Some.unit.now in
    let found : connected_at c.args.core.now.units c.args.number ≡ Some u = sym c.in-Some.ensures in
    subst (λ (d : PlainDoing). IsDoing g.D.File.FileStore.told g.D.File.FileStore.bytes variables st core c.change.result d)
    (opens_again core c.args.number c.args.spec.now (connected_at c.args.core.now.units c.args.number) u found (sym c.keeps_name.ensures ∙ c.if-keeps_name.true))
    (c.change.ensures.doing variables st (files_of (g.D.Disk.held c.args.disk.now)) c.args.core.now found)

pub returns-clause-doing : goal.returns-clause-doing
returns-clause-doing g c = λ tells variables st asks.
    let files = files_of (g.D.Disk.held c.args.disk.now) in
    let core : Core = core_of files c.args.core.now in
    let number : ℕ = c.args.number in
    meant g.D.File.FileStore.told g.D.File.FileStore.bytes variables st _ c.open_other.result _ _
    (elim c.match-find.branch [
      | in-Some+else-keeps_name w ↦
          let u : PlainConnected = connected_of w.in-Some.unit.now in
          let found : connected_at c.args.core.now.units number ≡ Some u = sym w.in-Some.ensures in
          let same : c.match-find.core ≡ c.args.core.now = w.core-is in
          ap (λ (x : Held). opens_with (core_of files x) number c.args.spec.now (connected_at x.units number) (settled c.args.spec.now)) same
          ∙ opens_another core number c.args.spec.now (connected_at c.args.core.now.units number) u found (sym w.keeps_name.ensures ∙ w.if-keeps_name.false)
      | in_default w ↦
          let found : connected_at c.args.core.now.units number ≡ None = sym w.in_default.ensures in
          let same : c.match-find.core ≡ c.args.core.now = w.core-is in
          ap (λ (x : Held). opens_with (core_of files x) number c.args.spec.now (connected_at x.units number) (settled c.args.spec.now)) same
          ∙ opens_none core number c.args.spec.now (connected_at c.args.core.now.units number) found
    ])
    (c.open_other.ensures.doing tells variables st asks)

pub returns-clause-stays : goal.returns-clause-stays
returns-clause-stays g c = λ tells.
    let files = files_of (g.D.Disk.held c.args.disk.now) in
    let core : Core = core_of files c.args.core.now in
    let number : ℕ = c.args.number in
    still_as c.open_other.result _ _ (g.D.Disk.held c.args.disk.now) (g.D.Disk.held c.open_other.new.disk)
    (elim c.match-find.branch [
      | in-Some+else-keeps_name w ↦
          let u : PlainConnected = connected_of w.in-Some.unit.now in
          let found : connected_at c.args.core.now.units number ≡ Some u = sym w.in-Some.ensures in
          let same : c.match-find.core ≡ c.args.core.now = w.core-is in
          ap (λ (x : Held). opens_with (core_of files x) number c.args.spec.now (connected_at x.units number) (settled c.args.spec.now)) same
          ∙ opens_another core number c.args.spec.now (connected_at c.args.core.now.units number) u found (sym w.keeps_name.ensures ∙ w.if-keeps_name.false)
      | in_default w ↦
          let found : connected_at c.args.core.now.units number ≡ None = sym w.in_default.ensures in
          let same : c.match-find.core ≡ c.args.core.now = w.core-is in
          ap (λ (x : Held). opens_with (core_of files x) number c.args.spec.now (connected_at x.units number) (settled c.args.spec.now)) same
          ∙ opens_none core number c.args.spec.now (connected_at c.args.core.now.units number) found
    ])
    (c.open_other.ensures.stays tells)

pub returns-clause-fault : goal.returns-clause-fault
returns-clause-fault g c = λ tells lost.
    let files = files_of (g.D.Disk.held c.args.disk.now) in
    let core : Core = core_of files c.args.core.now in
    let number : ℕ = c.args.number in
    fails_as _ _ c.open_other.new.core (g.D.Disk.held c.open_other.new.disk) (g.D.Disk.refusals c.args.disk.now) (g.D.Disk.refusals c.open_other.new.disk)
    (elim c.match-find.branch [
      | in-Some+else-keeps_name w ↦
          let u : PlainConnected = connected_of w.in-Some.unit.now in
          let found : connected_at c.args.core.now.units number ≡ Some u = sym w.in-Some.ensures in
          let same : c.match-find.core ≡ c.args.core.now = w.core-is in
          ap (λ (x : Held). opens_with (core_of files x) number c.args.spec.now (connected_at x.units number) (settled c.args.spec.now)) same
          ∙ opens_another core number c.args.spec.now (connected_at c.args.core.now.units number) u found (sym w.keeps_name.ensures ∙ w.if-keeps_name.false)
      | in_default w ↦
          let found : connected_at c.args.core.now.units number ≡ None = sym w.in_default.ensures in
          let same : c.match-find.core ≡ c.args.core.now = w.core-is in
          ap (λ (x : Held). opens_with (core_of files x) number c.args.spec.now (connected_at x.units number) (settled c.args.spec.now)) same
          ∙ opens_none core number c.args.spec.now (connected_at c.args.core.now.units number) found
    ])
    (c.open_other.ensures.fault tells lost)

pub returns-clause-files : goal.returns-clause-files
returns-clause-files g c = λ what opens have.
    let same : c.match-find.core ≡ c.args.core.now = elim c.match-find.branch [ in-Some+else-keeps_name w ↦ w.core-is | in_default w ↦ w.core-is ] in
    c.open_other.ensures.files what opens (subst (λ (k : Held). HaveFiles k.names k.units) (sym same) have)
