use Rattle.std.proofs.Common.{ap, ◌∙◌}
use Rattle.std.specs.FinSet as set
use Rattle.fj_run_units.specs.Files.{files_of}
use Rattle.fj_run_units.specs.Names.{left_of}
use Rattle.fj_run_units.specs.Units.{connected_of}
use Rattle.fj_run_end.proofs.Returning.{on_ok}
use Rattle.fj_run_end.proofs.Due.{due_at_desk, left_at_desk}
use Rattle.fj_run_end.proofs.Each.{own_is, found_at}
use Rattle.fj_run_end.proofs.closing.close_unit.Goals as goal

pub close-requires : goal.close-requires
close-requires g c = record { names = c.requires.names; out = c.in-Some.ensures.out }

pub returns-clause-files : goal.returns-clause-files
returns-clause-files g c = λ tells own desks d are at_d.
    let its = own_is g.D.File.FileStore.count c.args.names.now c.args.all.now.items (connected_of c.args.unit.now) c.in-Some.own.connection c.in-Some.own.stop own c.in-Some.ensures.here in
    on_ok c.close.result
    (left_at_desk g.D.File.FileStore.told g.D.File.FileStore.bytes c.args.all.now.items desks c.args.unit.now.slot c.in-Some.own.connection c.in-Some.own.stop d
    (files_of (g.D.Disk.held c.args.disk.now)) (files_of (g.D.Disk.held c.close.new.disk)) are at_d c.in-Some.ensures.here)
    (c.close.ensures.files tells its.1)

pub returns-clause-due : goal.returns-clause-due
returns-clause-due g c = λ tells own none desks d are at_d named.
    let its = own_is g.D.File.FileStore.count c.args.names.now c.args.all.now.items (connected_of c.args.unit.now) c.in-Some.own.connection c.in-Some.own.stop own c.in-Some.ensures.here in
    due_at_desk g.D.File.FileStore.told g.D.File.FileStore.bytes c.args.all.now.items desks c.args.unit.now.slot c.in-Some.own.connection c.in-Some.own.stop d
    c.args.unit.now.name (g.D.Disk.refusals c.args.disk.now) (g.D.Disk.refusals c.close.new.disk) (g.D.Disk.held c.args.disk.now) (g.D.Disk.held c.close.new.disk)
    are at_d c.in-Some.ensures.here named its.0 (c.close.ensures.others tells) (c.close.ensures.due tells its.1 none)

pub returns-clause-running : goal.returns-clause-running
returns-clause-running g c = λ tells own none.
    let its = own_is g.D.File.FileStore.count c.args.names.now c.args.all.now.items (connected_of c.args.unit.now) c.in-Some.own.connection c.in-Some.own.stop own c.in-Some.ensures.here in
    (_, c.in-Some.ensures.here, λ clear. (c.close.ensures.due tells its.1 none (ap (set.contains (g.D.Disk.held c.close.new.disk).hurt) its.0 ∙ clear)).0)

pub returns-clause-found : goal.returns-clause-found
returns-clause-found g c = λ tells own.
    let its = own_is g.D.File.FileStore.count c.args.names.now c.args.all.now.items (connected_of c.args.unit.now) c.in-Some.own.connection c.in-Some.own.stop own c.in-Some.ensures.here in (
      _,
      c.in-Some.ensures.here,
      found_at g.D.File.FileStore.told g.D.File.FileStore.bytes c.in-Some.own.connection c.in-Some.own.stop c.args.unit.now.name (files_of (g.D.Disk.held c.close.new.disk))
          (g.D.Disk.refusals c.args.disk.now) (g.D.Disk.refusals c.close.new.disk) its.0 (c.close.ensures.found tells),
    )

pub returns-clause-spared : goal.returns-clause-spared
returns-clause-spared g c = λ tells own name other.
    let its = own_is g.D.File.FileStore.count c.args.names.now c.args.all.now.items (connected_of c.args.unit.now) c.in-Some.own.connection c.in-Some.own.stop own c.in-Some.ensures.here in
    c.close.ensures.others tells name (λ same. other (same ∙ its.0))

pub returns-clause-off : goal.returns-clause-off
returns-clause-off g c = λ own.
    let its = own_is g.D.File.FileStore.count c.args.names.now c.args.all.now.items (connected_of c.args.unit.now) c.in-Some.own.connection c.in-Some.own.stop own c.in-Some.ensures.here in
    c.close.ensures.off ∙ ap (left_of c.args.names.now) its.0

pub returns-clause-memory : goal.returns-clause-memory
returns-clause-memory g c = λ e. record { at = c.args.unit.now.slot; it = _; here = c.in-Some.ensures.here; lacks = c.close.ensures.memory e }
