use Rattle.std.proofs.Common.{refl, ap, ◌∙◌, sym, subst, [], ◌∷◌, ◌++◌}
use Rattle.fj_connect.specs.Linked.{connection_of}
use Rattle.fj_connect.specs.Opening.{opened_file}
use Rattle.fj_outside.specs.Holdings.{Holdings}
use Rattle.fj_meaning.specs.State.{without_file}
use Rattle.fj_run_units.specs.Files.{files_of}
use Rattle.fj_run_units.proofs.Files.{files-out_of}
use Rattle.fj_run_statements.specs.State.{core_of}
use Rattle.fj_run_statements.proofs.OpeningLemmas.{opened_is, unit_more, names_taken, names_back, refusal_of, stop_of}
use Rattle.fj_run_statements.proofs.FailingLemmas.{fails_open, still_open, open_rose}
use Rattle.fj_run_statements.proofs.HavingLemmas.{named_beside, named_in_vain}
use Rattle.fj_run_statements.specs.Having.{HaveNext}
use Rattle.fj_run_units.specs.Having.{HaveFiles}
use Rattle.fj_run_units.proofs.Having.{have_more}
use Rattle.fj_meaning_jobs.specs.Core.{Connected}
use Rattle.fj_run_statements.proofs.opening.attach.Goals as goal

pub returns-in-Ok-clause-doing : goal.returns-in-Ok-clause-doing
returns-in-Ok-clause-doing g c = λ tells variables st.
    let held : Holdings = g.D.Disk.held c.args.disk.now in
    let f = c.in-Ok.ensures.opened tells in
    c.attaching.ensures.doing f.0 c.args.number variables st (core_of (files_of held) c.args.core.now) (files_of (g.D.Disk.held c.open_file.new.disk))
    (opened_file (files_of held c.args.name) c.args.name c.args.spec.now c.args.modes)
    (unit_more c.in_ok-units.units c.args.core.now.units c.args.number c.args.slot c.args.name c.in_ok-copy.copy c.in-Ok.connection.name c.args.modes c.in-Ok.connection.modes c.in_ok-units.ensures c.in_ok-copy.ensures
    c.in-Ok.ensures.connected.1 c.in-Ok.ensures.connected.0)
    (opened_is held.files (g.D.Disk.held c.open_file.new.disk).files (opened_file (files_of held c.args.name) c.args.name c.args.spec.now c.args.modes) (connection_of g.D.File.FileStore.bytes c.in-Ok.connection) f.1)
    (ap (λ (h : Holdings). files_of h) f.2 ∙ files-out_of held c.args.name ∙ ap (λ n. without_file n (files_of held)) (sym c.in-Ok.ensures.connected.1))

pub returns-in-Ok-clause-names : goal.returns-in-Ok-clause-names
returns-in-Ok-clause-names g c = λ tells.
    let held : Holdings = g.D.Disk.held c.args.disk.now in
    names_taken c.args.core.now.names c.add.new.self held (g.D.Disk.held c.open_file.new.disk) c.args.name c.in_ok-add.ensures.ok (c.in-Ok.ensures.opened tells).2 (c.requires.names tells)

pub returns-in-Refused-clause-names : goal.returns-in-Refused-clause-names
returns-in-Refused-clause-names g c = λ tells.
    let held : Holdings = g.D.Disk.held c.args.disk.now in
    names_back c.args.core.now.names c.add.new.self c.remove.new.self held (g.D.Disk.held c.open_file.new.disk) c.args.name c.holds.result c.if-holds.false c.holds.ensures c.in_ok-add.ensures.ok c.remove.ensures
    (refusal_of _ c.in-Err.fault c.in-Refused.condition c.in-Refused.is (c.in-Err.ensures.refused tells)).1.in_use (c.requires.names tells)

pub returns-clause-names : goal.returns-clause-names
returns-clause-names g c = λ tells.
    let held : Holdings = g.D.Disk.held c.args.disk.now in
    names_back c.args.core.now.names c.add.new.self c.remove.new.self held (g.D.Disk.held c.open_file.new.disk) c.args.name c.holds.result c.if-holds.false c.holds.ensures c.in_ok-add.ensures.ok c.remove.ensures
    (stop_of _ c.in-Err.fault c.in-Stop.stop c.in-Stop.is (c.in-Err.ensures.stopped tells)).in_use (c.requires.names tells)

pub returns-clause-fault : goal.returns-clause-fault
returns-clause-fault g c = λ tells lost.
    let held : Holdings = g.D.Disk.held c.args.disk.now in
    fails_open (core_of (files_of held) c.args.core.now) c.args.number c.args.slot c.args.name c.args.spec.now c.args.modes _ held (g.D.Disk.held c.open_file.new.disk)
    (g.D.Disk.refusals c.args.disk.now) (g.D.Disk.refusals c.open_file.new.disk) refl refl
    (open_rose c.open_file.result c.in-Err.fault c.in-Stop.stop c.lost_by_stop.result (g.D.Disk.refusals c.args.disk.now) (g.D.Disk.refusals c.open_file.new.disk) c.in-Err.is c.in-Stop.is c.lost_by_stop.ensures.disk lost
    (c.open_file.ensures.own tells))
    (stop_of _ c.in-Err.fault c.in-Stop.stop c.in-Stop.is (c.in-Err.ensures.stopped tells))

pub returns-in-Ok-clause-files : goal.returns-in-Ok-clause-files
returns-in-Ok-clause-files g c = λ what none free opens have.
    let us = c.args.core.now.units in
    let old = c.args.core.now.names in
    let new : Connected = record { number = c.args.number; slot = c.args.slot; name = c.args.name; modes = c.args.modes } in
    let more = unit_more c.in_ok-units.units us c.args.number c.args.slot c.args.name c.in_ok-copy.copy c.args.name c.args.modes c.args.modes c.in_ok-units.ensures c.in_ok-copy.ensures refl refl in
    let names = old ++ c.args.name ∷ [] in
    subst (λ ns. HaveNext c.attaching.result ns us what) (sym c.in_ok-add.ensures.ok)
    (c.attaching.ensures.files names us what (subst (HaveFiles names) (sym more) (have_more old us new none free have))
    (named_beside old us c.args.name c.in-Ok.connection.name what c.in-Ok.ensures.connected.1 (sym c.holds.ensures ∙ c.if-holds.false) free opens have))

pub returns-in-Refused-clause-files : goal.returns-in-Refused-clause-files
returns-in-Refused-clause-files g c = λ what none free opens have.
    named_in_vain c.args.core.now.names c.add.new.self c.remove.new.self c.args.core.now.units c.args.name (sym c.holds.ensures ∙ c.if-holds.false) c.in_ok-add.ensures.ok c.remove.ensures have

pub returns-clause-vain : goal.returns-clause-vain
returns-clause-vain g c = λ have.
    named_in_vain c.args.core.now.names c.add.new.self c.remove.new.self c.args.core.now.units c.args.name (sym c.holds.ensures ∙ c.if-holds.false) c.in_ok-add.ensures.ok c.remove.ensures have

pub returns-clause-stays : goal.returns-clause-stays
returns-clause-stays g c = λ tells.
    let held : Holdings = g.D.Disk.held c.args.disk.now in
    still_open (core_of (files_of held) c.args.core.now) c.args.number c.args.slot c.args.name c.args.spec.now c.args.modes held (g.D.Disk.held c.open_file.new.disk)
    (stop_of _ c.in-Err.fault c.in-Stop.stop c.in-Stop.is (c.in-Err.ensures.stopped tells))
