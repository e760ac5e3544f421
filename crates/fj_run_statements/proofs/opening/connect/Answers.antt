use Rattle.std.proofs.Common.{sym, subst, ◌∙◌, ap}
use Rattle.fj_meaning_jobs.specs.Core.{has_name}
use Rattle.fj_run_units.specs.Files.{files_of}
use Rattle.fj_run_statements.specs.State.{core_of}
use Rattle.fj_run_statements.proofs.OpeningLemmas.{connects_is, meant}
use Rattle.fj_run_statements.proofs.FailingLemmas.{fails_as, still_as}
use Rattle.fj_run_statements.specs.Having.{IsToOpen}
use Rattle.fj_run_statements.proofs.HavingLemmas.{free_of}
use Rattle.fj_run_statements.proofs.opening.connect.Goals as goal

pub returns-in_ok-name-in-Some-clause-doing : goal.returns-in_ok-name-in-Some-clause-doing
returns-in_ok-name-in-Some-clause-doing g c = λ tells variables st.
    meant g.D.File.FileStore.told g.D.File.FileStore.bytes variables st _ c.attach.result _ _
    (connects_is (core_of (files_of (g.D.Disk.held c.args.disk.now)) c.args.core.now) c.args.number c.in-Some.slot c.in_ok-name-in-Some.name c.args.spec.now c.args.modes
    (sym c.free_slot.ensures.free ∙ c.in-Some.is) c.in_ok-name-in-Some.ensures)
    (c.attach.ensures.doing tells variables st)

pub returns-in_ok-name-in-Some-clause-fault : goal.returns-in_ok-name-in-Some-clause-fault
returns-in_ok-name-in-Some-clause-fault g c = λ tells lost.
    fails_as _ _ c.attach.new.core (g.D.Disk.held c.attach.new.disk) (g.D.Disk.refusals c.args.disk.now) (g.D.Disk.refusals c.attach.new.disk)
    (connects_is (core_of (files_of (g.D.Disk.held c.args.disk.now)) c.args.core.now) c.args.number c.in-Some.slot c.in_ok-name-in-Some.name c.args.spec.now c.args.modes
    (sym c.free_slot.ensures.free ∙ c.in-Some.is) c.in_ok-name-in-Some.ensures)
    (c.attach.ensures.fault tells lost)

pub returns-in_ok-name-in-Some-clause-files : goal.returns-in_ok-name-in-Some-clause-files
returns-in_ok-name-in-Some-clause-files g c = λ what asks free have.
    let us = c.args.core.now.units in
    let name = c.in_ok-name-in-Some.ensures in
    let f = free_of what c.args.spec.now c.args.number us asks free in
    c.attach.ensures.files what f.none (ap (has_name us) name ∙ f.free) (subst (IsToOpen what us) (sym name) f.opens) have

pub returns-in_ok-name-in-Some-clause-stays : goal.returns-in_ok-name-in-Some-clause-stays
returns-in_ok-name-in-Some-clause-stays g c = λ tells.
    still_as c.attach.result _ _ (g.D.Disk.held c.args.disk.now) (g.D.Disk.held c.attach.new.disk)
    (connects_is (core_of (files_of (g.D.Disk.held c.args.disk.now)) c.args.core.now) c.args.number c.in-Some.slot c.in_ok-name-in-Some.name c.args.spec.now c.args.modes
    (sym c.free_slot.ensures.free ∙ c.in-Some.is) c.in_ok-name-in-Some.ensures)
    (c.attach.ensures.stays tells)
