use Rattle.std.proofs.Common.{sym, ap, ◌∙◌, Some}
use Rattle.fj_store.proofs.SlotLemmas.{put_in, stood, lost_at, none_put, never_none}
use Rattle.fj_store.proofs.slots.Slots.replace.Goals as goal

pub invariant_of-self : goal.invariant_of-self
invariant_of-self c =
    (none_put c.self.inside.marks c.self.inside.values c.replace.new.self c.args.self.now c.args.place c.args.slot c.apart-mark.result.1 c.self.invariant c.self.view_is c.in_err-value.ensures.old c.replace.ensures.new).marked

pub returns-in_err-value-clause-old : goal.returns-in_err-value-clause-old
returns-in_err-value-clause-old c =
    c.from_residual.ensures ∙ sym (lost_at c.self.inside.marks c.self.inside.values c.args.self.now c.args.place c.self.invariant c.self.view_is c.in_err-value.ensures.old)

pub returns-in_err-value-clause-new : goal.returns-in_err-value-clause-new
returns-in_err-value-clause-new c =
    (none_put c.self.inside.marks c.self.inside.values c.replace.new.self c.args.self.now c.args.place c.args.slot c.apart-mark.result.1 c.self.invariant c.self.view_is c.in_err-value.ensures.old c.replace.ensures.new).new

pub invariant_of-self-in_err-mark : goal.invariant_of-self-in_err-mark
invariant_of-self-in_err-mark c =
    absurd (never_none c.self.inside.marks c.self.inside.values c.args.place c.in_ok-value.value c.self.invariant c.in_ok-value.ensures.old c.in_err-mark.ensures.old)

pub returns-in_err-mark-clause-old : goal.returns-in_err-mark-clause-old
returns-in_err-mark-clause-old c =
    absurd (never_none c.self.inside.marks c.self.inside.values c.args.place c.in_ok-value.value c.self.invariant c.in_ok-value.ensures.old c.in_err-mark.ensures.old)

pub returns-in_err-mark-clause-new : goal.returns-in_err-mark-clause-new
returns-in_err-mark-clause-new c =
    absurd (never_none c.self.inside.marks c.self.inside.values c.args.place c.in_ok-value.value c.self.invariant c.in_ok-value.ensures.old c.in_err-mark.ensures.old)

pub invariant_of-self-2 : goal.invariant_of-self-2
invariant_of-self-2 c =
    (put_in c.self.inside.marks c.replace-2.new.self c.self.inside.values c.replace.new.self c.args.self.now c.args.place c.args.slot c.apart-mark.result.0 c.apart-mark.result.1 c.self.invariant c.self.view_is c.apart-mark.ensures.mark c.apart-mark.ensures.value c.replace.ensures.new c.replace-2.ensures.new).marked

pub returns-clause-old : goal.returns-clause-old
returns-clause-old c =
    ap (λ x. Some x) c.with.ensures ∙ stood c.self.inside.marks c.self.inside.values c.args.self.now c.args.place c.in_ok-mark.mark c.in_ok-value.value c.self.invariant c.self.view_is c.in_ok-value.ensures.old c.in_ok-mark.ensures.old

pub returns-clause-new : goal.returns-clause-new
returns-clause-new c =
    (put_in c.self.inside.marks c.replace-2.new.self c.self.inside.values c.replace.new.self c.args.self.now c.args.place c.args.slot c.apart-mark.result.0 c.apart-mark.result.1 c.self.invariant c.self.view_is c.apart-mark.ensures.mark c.apart-mark.ensures.value c.replace.ensures.new c.replace-2.ensures.new).new
