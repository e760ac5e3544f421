use Rattle.std.proofs.Common.{subst, sym}
use Rattle.fj_run_pending.specs.Busy.{AreBusy, without_told}
use Rattle.fj_run_pending.proofs.busy.forget.Goals as goal

pub returns-in-None : goal.returns-in-None
returns-in-None c = subst (λ p. AreBusy (without_told p c.args.busy.now.items) c.args.helds.now.items) c.in-None.is c.requires.busy

pub returns-in-OfUnit : goal.returns-in-OfUnit
returns-in-OfUnit c =
    subst (λ l. AreBusy l c.args.helds.now.items) (sym c.take_off.ensures.left) (subst (λ p. AreBusy (without_told p c.args.busy.now.items) c.args.helds.now.items) c.in-OfUnit.is c.requires.busy)

pub tighten-requires-clause-busy : goal.tighten-requires-clause-busy
tighten-requires-clause-busy c = subst (λ p. AreBusy (without_told p c.args.busy.now.items) c.args.helds.now.items) c.in-One.is c.requires.busy
