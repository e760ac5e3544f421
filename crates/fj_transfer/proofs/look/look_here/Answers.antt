use Rattle.fj_connect.specs.Linked.{connection_of}
use Rattle.fj_transfer.proofs.AheadLemmas.{outside_if}
use Rattle.fj_transfer.proofs.look.look_here.Goals as goal

pub returns-in-Outside-clause-next : goal.returns-in-Outside-clause-next
returns-in-Outside-clause-next g c = λ t.
    outside_if c.look_as_ended.result (connection_of g.F.FileStore.bytes c.args.connection.now) c.spot-spot.result c.look_as_ended.new.self.hand c.spot-spot.ensures.value c.in-Outside.is
    (c.look_as_ended.ensures.answer t) (c.look_as_ended.ensures.text t)
