use Rattle.fj_run_pending.specs.Waits.{is_cause}
use Rattle.fj_run_pending.proofs.Idle.{any_behind}
use Rattle.fj_run_pending.proofs.pendings.any_causes.Goals as goal

pub loop-at-init : goal.loop-at-init
loop-at-init c = any_behind (is_cause c.args.pick c.args.unit) c.args.helds.now.items c.args.from c.requires
