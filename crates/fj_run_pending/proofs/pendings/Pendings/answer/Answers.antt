use Rattle.std.proofs.Common.{◌≡◌, subst, sym, ap, ◌∙◌}
use Rattle.std.specs.Prelude.{is_some}
use Rattle.std.specs.List.{list_any}
use Rattle.fj_meaning_turns.specs.Run as run
use Rattle.fj_meaning_turns.specs.Turns.{is_at, with_answer}
use Rattle.fj_run_pending.specs.Plain.{held, brought_of}
use Rattle.fj_run_pending.specs.Tied.{IsTied}
use Rattle.fj_run_pending.proofs.Answering.{has_is, none_answered, answered_is, answer_is}
use Rattle.fj_run_pending.proofs.pendings.Pendings.answer.Goals as goal

pub returns-in_default-clause-answered : goal.returns-in_default-clause-answered
returns-in_default-clause-answered c =
    subst (λ hs. held hs ≡ with_answer c.args.slot c.args.number (brought_of c.args.told) (held hs)) c.self.view_is
    (sym (none_answered c.args.slot c.args.number (brought_of c.args.told) c.self.inside.helds.items c.in_default.ensures.none))

pub invariant_of-self : goal.invariant_of-self
invariant_of-self c =
    subst (λ ms. IsTied c.put_answer.new.helds.items c.self.inside.book ms c.self.inside.busy.items) (sym c.mark_answered.ensures)
    (answered_is c.args.told c.self.inside.helds.items c.put_answer.new.helds.items c.self.inside.book c.pass.new.marks.items c.self.inside.busy.items c.args.slot c.args.number c.in-Some.at c.in-Some.ensures.some.0 c.in-Some.ensures.some.1 c.put_answer.ensures
    (record { ascending = c.self.invariant.ascending; rising = c.self.invariant.rising; same = c.self.invariant.same; slots = c.pass.ensures.slots ∙ c.self.invariant.slots; marked = c.pass.ensures.marked; busy = c.self.invariant.busy }))

pub returns-clause-answered : goal.returns-clause-answered
returns-clause-answered c =
    answer_is c.args.told c.self.inside.helds.items c.put_answer.new.helds.items c.args.slot c.args.number c.in-Some.at c.self.invariant.rising c.in-Some.ensures.some.0 c.in-Some.ensures.some.1 c.put_answer.ensures
    ∙ ap (λ hs. with_answer c.args.slot c.args.number (brought_of c.args.told) (held hs)) c.self.view_is

pub returns-in_default-clause-found : goal.returns-in_default-clause-found
returns-in_default-clause-found c =
    ap is_some (sym c.in_default.is)
    ∙ has_is c.args.slot c.args.number c.self.inside.helds.items c.seek.result c.seek.ensures.some c.seek.ensures.none
    ∙ ap (λ hs. list_any (λ (h : run.Held). is_at c.args.slot c.args.number h.pending) (held hs)) c.self.view_is

pub returns-clause-found : goal.returns-clause-found
returns-clause-found c =
    ap is_some (sym c.in-Some.is)
    ∙ has_is c.args.slot c.args.number c.self.inside.helds.items c.seek.result c.seek.ensures.some c.seek.ensures.none
    ∙ ap (λ hs. list_any (λ (h : run.Held). is_at c.args.slot c.args.number h.pending) (held hs)) c.self.view_is
