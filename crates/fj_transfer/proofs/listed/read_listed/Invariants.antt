use Rattle.fj_connect.specs.Linked.{connection_of}
use Rattle.fj_transfer.proofs.listed.read_listed.Given as goal

abbrev pub ghosts-list_from : goal.ghosts-list_from
ghosts-list_from g a = record { begun = record { connection = connection_of g.F.FileStore.bytes a.connection.now; size = g.F.FileStore.size a.connection.now.file; place = a.place } }
