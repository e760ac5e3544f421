use Rattle.fj_job.specs.Seen.{seen, on_disk}
use Rattle.fj_batch.proofs.Agreement.{answers_agree}
use Rattle.fj_batch.proofs.laws.batches_agree.Goals as goal

pub returns : goal.returns
returns g c old new old' new' =
    answers_agree c.one_reply.ensures old new (seen g.R.Source.tells g.R.Source.left g.R.Source.count old.deck new.deck)
    (seen g.D.Disk.tells (on_disk g.D.Disk.held g.D.Disk.refusals) g.D.Disk.count old.disk new.disk) old' new'
    (seen g.S.Source.tells g.S.Source.left g.S.Source.count old'.deck new'.deck)
    (seen g.E.Disk.tells (on_disk g.E.Disk.held g.E.Disk.refusals) g.E.Disk.count old'.disk new'.disk)
