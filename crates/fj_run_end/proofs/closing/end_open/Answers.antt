use Rattle.std.proofs.Common.{sym, subst}
use Rattle.fj_connect.specs.Linked.{connection_of}
use Rattle.fj_run_end.specs.Finding.{IsEndedUpTo}
use Rattle.fj_run_end.proofs.Finding.{until_end}
use Rattle.fj_run_end.proofs.closing.end_open.Goals as goal

pub returns-clause-ended : goal.returns-clause-ended
returns-clause-ended g c = λ told. c.end_record.ensures.ended ((g.met.F.FileStore.decided c.args.connection.now.file).0 told)

pub returns-clause-until : goal.returns-clause-until
returns-clause-until g c = λ told.
    let tells = (g.met.F.FileStore.decided c.args.connection.now.file).0 told in
    subst (λ stop. IsEndedUpTo stop (connection_of g.F.FileStore.bytes c.args.connection.now) (g.F.FileStore.bytes c.end_record.new.self.file)) (sym c.in_default.is)
    (until_end c.end_record.result (connection_of g.F.FileStore.bytes c.args.connection.now) (connection_of g.F.FileStore.bytes c.end_record.new.self) (c.end_record.ensures.ended tells) (c.end_record.ensures.stopped tells))
