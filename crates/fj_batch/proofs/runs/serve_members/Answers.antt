use Rattle.std.proofs.Common.{sym, ◌∙◌}
use Rattle.fj_job.specs.Seen.{seen, on_disk}
use Rattle.fj_batch.specs.Members.{HasCome}
use Rattle.fj_batch.proofs.Becoming.{become_along}
use Rattle.fj_batch.proofs.runs.serve_members.Goals as goal

pub returns : goal.returns
returns g c =
    become_along
    (λ old new. HasCome c.args.serving.now.workers old new (seen g.R.Source.tells g.R.Source.left g.R.Source.count old.deck new.deck)
    (seen g.D.Disk.tells (on_disk g.D.Disk.held g.D.Disk.refusals) g.D.Disk.count old.disk new.disk))
    c.into_vec-list.result.items c.serve_vec.new.members.items c.args.members.now c.replace-empty.new.dest
    (c.into_vec-list.ensures ∙ c.replace.ensures.value) (sym (c.replace-empty.ensures.after ∙ c.from_vec.ensures)) c.serve_vec.ensures
