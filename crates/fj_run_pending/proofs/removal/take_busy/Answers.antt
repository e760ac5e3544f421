use Rattle.std.proofs.Common.{sym, ◌∙◌}
use Rattle.fj_run_pending.proofs.Idle.{idle_taken}
use Rattle.fj_run_pending.proofs.removal.take_busy.Goals as goal

pub returns-in_default-clause-told : goal.returns-in_default-clause-told
returns-in_default-clause-told c = c.new.ensures.items ∙ (idle_taken c.args.busy.now.items c.args.unit c.args.helds.now.items c.requires.busy (sym c.first_of.ensures ∙ c.in_default.is)).0

pub returns-in_default-clause-left : goal.returns-in_default-clause-left
returns-in_default-clause-left c = (idle_taken c.args.busy.now.items c.args.unit c.args.helds.now.items c.requires.busy (sym c.first_of.ensures ∙ c.in_default.is)).1
