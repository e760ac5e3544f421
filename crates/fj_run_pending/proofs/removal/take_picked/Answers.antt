use Rattle.std.proofs.Common.{not, filter, sym, ap, ◌∙◌}
use Rattle.fj_meaning.proofs.Lists.{filter_true, filter_false}
use Rattle.fj_run_pending.specs.declared.held.Held.{Held}
use Rattle.fj_run_pending.specs.Waits.{picks}
use Rattle.fj_run_pending.proofs.removal.take_picked.Goals as goal

pub returns-in-None-clause-told : goal.returns-in-None-clause-told
returns-in-None-clause-told c = c.new.ensures.items ∙ sym (ap (λ p. filter (picks p) c.args.helds.now.items) c.in-None.is ∙ filter_false c.args.helds.now.items)

pub returns-in-None-clause-left : goal.returns-in-None-clause-left
returns-in-None-clause-left c = sym (ap (λ p. filter (λ (h : Held). not (picks p h)) c.args.helds.now.items) c.in-None.is ∙ filter_true c.args.helds.now.items)

pub returns-in-All-clause-told : goal.returns-in-All-clause-told
returns-in-All-clause-told c = ap (λ d. d.items) c.replace.ensures.value ∙ sym (ap (λ p. filter (picks p) c.args.helds.now.items) c.in-All.is ∙ filter_true c.args.helds.now.items)

pub returns-in-All-clause-left : goal.returns-in-All-clause-left
returns-in-All-clause-left c =
    ap (λ d. d.items) c.replace.ensures.after ∙ c.new-in-All.ensures.items ∙ sym (ap (λ p. filter (λ (h : Held). not (picks p h)) c.args.helds.now.items) c.in-All.is ∙ filter_false c.args.helds.now.items)
