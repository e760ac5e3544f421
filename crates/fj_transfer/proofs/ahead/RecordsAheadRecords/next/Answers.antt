use Rattle.std.proofs.Common.{ap, subst}
use Rattle.fj_seqrec.specs.declared.read.RecordRead.{RecordRead}
use Rattle.fj_connect.specs.Linked.{connection_of}
use Rattle.fj_connect.specs.Positions.{ended}
use Rattle.fj_connect.specs.Spot.{size_ended}
use Rattle.fj_transfer.specs.Ahead.{IsNextRecord, GoesOn}
use Rattle.fj_transfer.proofs.AheadLemmas.{further_on}
use Rattle.fj_transfer.proofs.ahead.RecordsAheadRecords.next.Goals as goal

pub invariant_of-self-in-Line : goal.invariant_of-self-in-Line
invariant_of-self-in-Line g c =
    let before = c.args.self.now in
    let old = c.args.self.now.connection.now in
    let after = c.look_on.new.connection in
    let looked = c.in_ok-next.ensures in
    let N : RecordRead → Type 0 = λ r. IsNextRecord before.place (ended (connection_of g.F.FileStore.bytes old)) r after.hand in
    let G : RecordRead → Type 0 = λ r. GoesOn before.place (size_ended old.spot (g.F.FileStore.size old.file)) r in
    record {
      come = further_on (g.F.FileStore.tells old.file) (g.F.FileStore.tells after.file) (connection_of g.F.FileStore.bytes old) (connection_of g.F.FileStore.bytes after) (g.F.FileStore.size old.file) (g.F.FileStore.size after.file)
          before.place g.B.Beginning.begun c.in-Line.next after.hand before.come looked.telling.1 (ap (connection_of g.F.FileStore.bytes) looked.rest) looked.same looked.size
          (λ t. subst N c.in-Line.is (looked.next t)) (subst G c.in-Line.is looked.goes_on).0;
    }
