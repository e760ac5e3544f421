use Rattle.std.proofs.Common.{not, sym, ap, ◌∙◌, subst}
use Rattle.fj_connect.specs.Linked.{connection_of}
use Rattle.fj_run_units.specs.Names.{left_of}
use Rattle.fj_run_units.specs.Files.{files_of}
use Rattle.fj_run_end.specs.Finding.{IsEndedUpTo, IsFound}
use Rattle.fj_run_end.proofs.Returning.{on_ok, wanted}
use Rattle.fj_run_end.proofs.Due.{due_closed, left_closed, counts_hurt, told_of, when_ok}
use Rattle.fj_run_end.proofs.Finding.{found_so}
use Rattle.fj_run_end.proofs.closing.close.Goals as goal

pub returns-clause-files : goal.returns-clause-files
returns-clause-files g c = λ tells counts.
    on_ok c.stop_by.result
    (λ both. left_closed g.D.File.FileStore.told g.D.File.FileStore.bytes c.args.connection c.end_open-ended.new.connection c.end_open-ended.result c.args.stop _ (files_of (g.D.Disk.held c.args.disk.now))
    c.end_open-ended.ensures.name c.end_open-ended.ensures.ended c.end_open-ended.ensures.running (ap (λ m. not m.scratch) c.modes.ensures.value)
    (files_of (g.D.Disk.held c.give_back-given.new.disk)) both.0 (when_ok c.give_back-given.result both.1 (c.give_back-given.ensures.files tells)))
    (c.stop_by.ensures.ok (counts_hurt c.end_open-ended.result c.faults-hurt.result _ c.faults-hurt.ensures (λ e. c.end_open-ended.ensures.failed e counts)))

pub returns-clause-due : goal.returns-clause-due
returns-clause-due g c = λ tells counts none.
    due_closed g.D.File.FileStore.told g.D.File.FileStore.bytes c.args.connection c.end_open-ended.new.connection c.end_open-ended.result c.args.stop _ (files_of (g.D.Disk.held c.args.disk.now))
    c.end_open-ended.ensures.name c.end_open-ended.ensures.ended c.end_open-ended.ensures.running (ap (λ m. not m.scratch) c.modes.ensures.value)
    c.faults-hurt.result _ (g.D.Disk.refusals c.args.disk.now) (g.D.Disk.refusals c.give_back-given.new.disk) (g.D.Disk.held c.give_back-given.new.disk)
    c.faults-hurt.ensures (c.give_back-given.ensures.count tells) (c.give_back-given.ensures.due tells)
    (told_of c.end_open-ended.result _ (counts_hurt c.end_open-ended.result c.faults-hurt.result _ c.faults-hurt.ensures (λ e. c.end_open-ended.ensures.failed e counts)) (sym c.stop_by.ensures.memory ∙ none))

pub returns-clause-found : goal.returns-clause-found
returns-clause-found g c = λ tells told.
    let before = g.D.Disk.refusals c.args.disk.now in
    let now = g.D.Disk.refusals c.give_back-given.new.disk in
    subst (λ m. IsFound (not m.scratch) (files_of (g.D.Disk.held c.give_back-given.new.disk) c.args.connection.name) (IsEndedUpTo c.args.stop (connection_of g.D.File.FileStore.bytes c.args.connection)) before now) c.modes.ensures.value
    (subst (λ name. IsFound (not c.modes.result.now.scratch) (files_of (g.D.Disk.held c.give_back-given.new.disk) name) (IsEndedUpTo c.args.stop (connection_of g.D.File.FileStore.bytes c.args.connection)) before now) c.end_open-ended.ensures.name
    (found_so (not c.modes.result.now.scratch) (files_of (g.D.Disk.held c.give_back-given.new.disk) c.end_open-ended.new.connection.name) (g.D.File.FileStore.bytes c.end_open-ended.new.connection.file)
    (IsEndedUpTo c.args.stop (connection_of g.D.File.FileStore.bytes c.args.connection)) before now (c.give_back-given.ensures.found tells) (c.end_open-ended.ensures.until told)))

pub returns-clause-others : goal.returns-clause-others
returns-clause-others g c = λ tells name other. c.give_back-given.ensures.others tells name (λ same. other (same ∙ c.end_open-ended.ensures.name))

pub returns-clause-memory : goal.returns-clause-memory
returns-clause-memory g c = λ e. wanted c.end_open-ended.result c.args.stop c.end_open-ended.ensures.stopped (sym c.stop_by.ensures.memory ∙ e)

pub returns-clause-off : goal.returns-clause-off
returns-clause-off g c = c.give_back-given.ensures.off ∙ ap (left_of c.args.names.now) c.end_open-ended.ensures.name
