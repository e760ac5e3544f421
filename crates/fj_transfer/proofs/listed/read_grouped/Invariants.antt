use Rattle.fj_connect.specs.Linked.{connection_of}
use Rattle.fj_transfer.proofs.listed.read_grouped.Given as goal

abbrev pub ghosts-group_from : goal.ghosts-group_from
ghosts-group_from g a = record { begun = record { connection = connection_of g.F.FileStore.bytes a.connection.now; size = g.F.FileStore.size a.connection.now.file; place = a.place } }
