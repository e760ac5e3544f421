use Rattle.std.proofs.Common.{sym, ap, ◌∙◌}
use Rattle.fj_run_pending.specs.Taking.{without}
use Rattle.fj_run_pending.proofs.Tying.{none_left}
use Rattle.fj_run_pending.proofs.removal.leave.Goals as goal

pub returns-in-All : goal.returns-in-All
returns-in-All c = c.tell_from-in-All.ensures ∙ none_left c.args.book.now ∙ sym (ap (λ p. without p c.args.busy.now.items c.args.book.now) c.in-All.is)
