use Rattle.std.proofs.lemmas.Result.{IfOk-weaker}
use Rattle.std.proofs.Common.{refl, sym, ap, ◌∙◌, ◌≡◌, Some, None}
use Rattle.fj_modes.specs.Modes.{settled}
use Rattle.fj_meaning.specs.Connecting.{file_due}
use Rattle.fj_meaning_jobs.specs.Core.{Connected as PlainConnected, connected_at, has_name}
use Rattle.fj_run_units.specs.Files.{files_of}
use Rattle.fj_run_units.specs.Units.{connected_of, is_taken}
use Rattle.fj_run_statements.specs.State.{core_of}
use Rattle.fj_run_statements.proofs.OpeningLemmas.{opens_behind, opens_new, meant}
use Rattle.fj_run_statements.proofs.FailingLemmas.{fails_as, on_err, still_as}
use Rattle.fj_run_statements.proofs.FittingLemmas.{free_home}
use Rattle.fj_run_statements.specs.declared.doing.After.TheVariants as after
use Rattle.fj_run_statements.proofs.ClosingLemmas.{found_again, found_number}
use Rattle.fj_run_statements.proofs.HavingLemmas.{asks_by, closing_has, free_there, opens_behind_free, opens_free}
use Rattle.fj_run_statements.proofs.opening.open_other.Goals as goal

pub returns-in-Some-clause-doing : goal.returns-in-Some-clause-doing
returns-in-Some-clause-doing g c = λ tells variables st asks.
    let u : PlainConnected = connected_of c.in-Some.unit.now in
    let found : connected_at c.args.core.now.units c.args.number ≡ Some u = sym c.in-Some.ensures in
    IfOk-weaker c.closing.result _ _ (λ next is. opens_behind g.D.File.FileStore.told g.D.File.FileStore.bytes variables st (core_of (files_of (g.D.Disk.held c.args.disk.now)) c.args.core.now)
    c.args.number c.in_ok-name.name c.args.spec.now c.in-Ok.modes (connected_at c.args.core.now.units c.args.number) u (settled c.args.spec.now) next
    asks found found (sym c.settle_open.ensures.settled ∙ c.in-Ok.is) (sym c.settle_open.ensures.settled ∙ c.in-Ok.is) c.in_ok-name.ensures (sym c.is_taken.ensures ∙ c.if-is_taken.false) is) c.closing.ensures.next

pub returns-clause-doing : goal.returns-clause-doing
returns-clause-doing g c = λ tells variables st asks.
    let found : connected_at c.args.core.now.units c.args.number ≡ None = sym c.in_default.ensures in
    meant g.D.File.FileStore.told g.D.File.FileStore.bytes variables st _ c.connect.result _ _
    (opens_new (core_of (files_of (g.D.Disk.held c.args.disk.now)) c.args.core.now) c.args.number c.in_ok-name.name c.args.spec.now c.in-Ok.modes (connected_at c.args.core.now.units c.args.number) (settled c.args.spec.now) found
    (sym c.settle_open.ensures.settled ∙ c.in-Ok.is) c.in_ok-name.ensures (sym c.is_taken.ensures ∙ c.if-is_taken.false))
    (c.connect.ensures.doing tells variables st)

pub returns-clause-fault : goal.returns-clause-fault
returns-clause-fault g c = λ tells lost.
    fails_as _ _ c.connect.new.core (g.D.Disk.held c.connect.new.disk) (g.D.Disk.refusals c.args.disk.now) (g.D.Disk.refusals c.connect.new.disk)
    (opens_new (core_of (files_of (g.D.Disk.held c.args.disk.now)) c.args.core.now) c.args.number c.in_ok-name.name c.args.spec.now c.in-Ok.modes (connected_at c.args.core.now.units c.args.number) (settled c.args.spec.now)
    (sym c.in_default.ensures) (sym c.settle_open.ensures.settled ∙ c.in-Ok.is) c.in_ok-name.ensures (sym c.is_taken.ensures ∙ c.if-is_taken.false))
    (c.connect.ensures.fault tells lost)

pub returns-clause-fits : goal.returns-clause-fits
returns-clause-fits g c = λ have.
    let units = c.args.core.now.units in
    c.connect.ensures.fits (free_home c.args.core.now.names units c.args.number (file_due c.args.spec.now c.args.number) have (sym c.in_default.ensures)
    (ap (is_taken units c.args.number) (sym c.in_ok-name.ensures) ∙ sym c.is_taken.ensures ∙ c.if-is_taken.false))

pub returns-in-Some-clause-files : goal.returns-in-Some-clause-files
returns-in-Some-clause-files g c = λ what asks have.
    let us = c.args.core.now.units in
    let u : PlainConnected = connected_of c.in-Some.unit.now in
    let number = c.args.number in
    let found : connected_at us number ≡ Some u = sym c.in-Some.ensures in
    IfOk-weaker c.closing.result _ _ (λ next is. closing_has next u.slot u _ (after.Connects number) c.args.core.now.names us what is (found_again us number u found)
    (opens_behind_free what c.args.spec.now c.in_ok-name.name u.number number us asks (found_number us number u found) c.in_ok-name.ensures (sym c.is_taken.ensures ∙ c.if-is_taken.false)) have) c.closing.ensures.next

pub returns-in-Some-clause-stays : goal.returns-in-Some-clause-stays
returns-in-Some-clause-stays g c = λ tells. on_err c.closing.result _ (λ name other. refl)

pub returns-clause-files : goal.returns-clause-files
returns-clause-files g c = λ what opens have.
    let us = c.args.core.now.units in
    let none : connected_at us c.args.number ≡ None = sym c.in_default.ensures in
    c.connect.ensures.files what (asks_by what (Some c.args.number) c.args.spec.now opens) (opens_free what c.args.spec.now c.args.number us opens none
    (ap (has_name us) (sym c.in_ok-name.ensures) ∙ free_there us c.args.number c.in_ok-name.name none (sym c.is_taken.ensures ∙ c.if-is_taken.false))) have

pub returns-clause-stays : goal.returns-clause-stays
returns-clause-stays g c = λ tells.
    still_as c.connect.result _ _ (g.D.Disk.held c.args.disk.now) (g.D.Disk.held c.connect.new.disk)
    (opens_new (core_of (files_of (g.D.Disk.held c.args.disk.now)) c.args.core.now) c.args.number c.in_ok-name.name c.args.spec.now c.in-Ok.modes (connected_at c.args.core.now.units c.args.number) (settled c.args.spec.now)
    (sym c.in_default.ensures) (sym c.settle_open.ensures.settled ∙ c.in-Ok.is) c.in_ok-name.ensures (sym c.is_taken.ensures ∙ c.if-is_taken.false))
    (c.connect.ensures.stays tells)
