use Rattle.fj_connect.specs.Linked.{connection_of}
use Rattle.fj_transfer.proofs.AheadLemmas.{place_if}
use Rattle.fj_transfer.proofs.look.look_on.Goals as goal

pub returns-in-Some-clause-next : goal.returns-in-Some-clause-next
returns-in-Some-clause-next g c = λ t.
    place_if c.look_as_ended.result (connection_of g.F.FileStore.bytes c.args.connection.now) c.args.place c.in-Some.at c.look_as_ended.new.self.hand c.in-Some.is
    (c.look_as_ended.ensures.answer t) (c.look_as_ended.ensures.text t)
