use Rattle.fj_run_pending.proofs.Idle.{found_behind}
use Rattle.fj_run_pending.proofs.busy.first_from.Goals as goal

pub loop-at-init : goal.loop-at-init
loop-at-init c = found_behind c.args.unit c.args.helds.now.items c.args.from c.requires
