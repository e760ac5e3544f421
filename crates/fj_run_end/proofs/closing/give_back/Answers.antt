use Rattle.std.proofs.Common.{ap, ◌∙◌}
use Rattle.fj_run_units.specs.Names.{left_of}
use Rattle.fj_run_units.proofs.Returning.{names_back, files_back, due_back, never_falls}
use Rattle.fj_run_end.proofs.Due.{hurt_back, others_back}
use Rattle.fj_run_end.proofs.Finding.{found_back}
use Rattle.fj_run_end.proofs.closing.give_back.Goals as goal

pub returns-clause-names : goal.returns-clause-names
returns-clause-names g c = λ tells.
    names_back c.args.names.now c.remove.new.self (g.D.Disk.held c.args.disk.now) (g.D.Disk.held c.close_file.new.disk) c.args.connection.name (g.D.File.FileStore.bytes c.args.connection.file) _ c.args.keep
    c.close_file.result (c.remove.ensures ∙ ap (left_of c.args.names.now) c.name.ensures) (c.close_file.ensures.back tells) (c.close_file.ensures.err tells) (c.requires.names tells)

pub returns-clause-files : goal.returns-clause-files
returns-clause-files g c = λ tells.
    files_back (g.D.Disk.held c.args.disk.now) (g.D.Disk.held c.close_file.new.disk) c.args.connection.name (g.D.File.FileStore.bytes c.args.connection.file) _ c.args.keep
    c.close_file.result (c.close_file.ensures.back tells)

pub returns-clause-due : goal.returns-clause-due
returns-clause-due g c = λ tells.
    due_back (g.D.Disk.held c.args.disk.now) (g.D.Disk.held c.close_file.new.disk) c.args.connection.name (g.D.File.FileStore.bytes c.args.connection.file) _ c.args.keep
    c.close_file.result (g.D.Disk.refusals c.args.disk.now) (g.D.Disk.refusals c.close_file.new.disk)
    (c.close_file.ensures.back tells) (c.close_file.ensures.err tells) c.close_file.ensures.kept (c.close_file.ensures.own tells)

pub returns-clause-count : goal.returns-clause-count
returns-clause-count g c = λ tells.
    hurt_back (g.D.Disk.held c.args.disk.now) (g.D.Disk.held c.close_file.new.disk) c.args.connection.name (g.D.File.FileStore.bytes c.args.connection.file) _ c.args.keep
    c.close_file.result (c.close_file.ensures.back tells) (c.close_file.ensures.err tells)

pub returns-clause-others : goal.returns-clause-others
returns-clause-others g c = λ tells.
    others_back (g.D.Disk.held c.args.disk.now) (g.D.Disk.held c.close_file.new.disk) c.args.connection.name (g.D.File.FileStore.bytes c.args.connection.file) _ c.args.keep
    c.close_file.result (c.close_file.ensures.back tells) (c.close_file.ensures.err tells)

pub returns-clause-own : goal.returns-clause-own
returns-clause-own g c = λ tells. never_falls _ (g.D.Disk.refusals c.args.disk.now) (g.D.Disk.refusals c.close_file.new.disk) (c.close_file.ensures.own tells)

pub returns-clause-found : goal.returns-clause-found
returns-clause-found g c = λ tells.
    found_back (g.D.Disk.held c.args.disk.now) (g.D.Disk.held c.close_file.new.disk) c.args.connection.name (g.D.File.FileStore.bytes c.args.connection.file) _
    (g.D.Disk.refusals c.args.disk.now) (g.D.Disk.refusals c.close_file.new.disk) c.args.keep c.close_file.result (c.close_file.ensures.back tells) (c.close_file.ensures.err tells)
    (due_back (g.D.Disk.held c.args.disk.now) (g.D.Disk.held c.close_file.new.disk) c.args.connection.name (g.D.File.FileStore.bytes c.args.connection.file) _ c.args.keep
    c.close_file.result (g.D.Disk.refusals c.args.disk.now) (g.D.Disk.refusals c.close_file.new.disk)
    (c.close_file.ensures.back tells) (c.close_file.ensures.err tells) c.close_file.ensures.kept (c.close_file.ensures.own tells) c.args.connection.name)
