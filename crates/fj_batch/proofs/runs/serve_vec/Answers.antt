use Rattle.std.proofs.Common.{rules, length, ap, sym, ◌∙◌}
use Rattle.fj_job.specs.Seen.{seen, on_disk}
use Rattle.fj_batch.specs.Members.{HasCome}
use Rattle.fj_batch.proofs.Becoming.{become_along, whole_again}
use Rattle.fj_batch.proofs.runs.serve_vec.Goals as goal

pub returns : goal.returns
returns g c =
    become_along
    (λ old new. HasCome c.args.serving.now.workers old new (seen g.R.Source.tells g.R.Source.left g.R.Source.count old.deck new.deck)
    (seen g.D.Disk.tells (on_disk g.D.Disk.held g.D.Disk.refusals) g.D.Disk.count old.disk new.disk))
    c.as_mut_slice.result.now c.serve_each.new.members c.args.members.now.items _ c.as_mut_slice.ensures.value
    (sym (whole_again c.args.members.now.items c.serve_each.new.members c.args.members.now.len (c.serve_each.ensures.long ∙ ap length c.as_mut_slice.ensures.value) (search rules))) c.serve_each.ensures
