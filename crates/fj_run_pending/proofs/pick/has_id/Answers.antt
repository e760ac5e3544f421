use Rattle.std.proofs.Common.{pos, ◌<ℤ◌, sym, rules}
use Rattle.fj_run_pending.proofs.Asked.{id_low}
use Rattle.fj_run_pending.proofs.pick.has_id.Goals as goal

pub returns-then-id-lt0 : goal.returns-then-id-lt0
returns-then-id-lt0 c =
    let low : c.args.id <ℤ pos 0 = search rules in
    sym (id_low c.args.unit c.args.id c.args.helds.now.items low)
