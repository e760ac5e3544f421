use Rattle.std.proofs.Common.{rules, subst}
use Rattle.fj_job.specs.Seen.{seen, on_disk}
use Rattle.fj_batch.specs.Members.{HasCome}
use Rattle.fj_batch.specs.declared.member.Member.{Member}
use Rattle.fj_batch.proofs.runs.serve_each.Goals as goal

pub returns : goal.returns
returns g c =
    let Comes : Member g.row.R.Denot g.row.D.Denot → Member g.row.R.Denot g.row.D.Denot → Type 0 =
    λ old new. HasCome c.args.serving.now.workers old new (seen g.R.Source.tells g.R.Source.left g.R.Source.count old.deck new.deck)
    (seen g.D.Disk.tells (on_disk g.D.Disk.held g.D.Disk.refusals) g.D.Disk.count old.disk new.disk) in
    record {
      long = search rules;
      each = λ i d low.
          let x = (c.for_each_mut.ensures i d low).1 in
          subst (Comes _) x.left (subst (λ old. Comes old x.after_call.now) x.argument_is x.call);
    }
