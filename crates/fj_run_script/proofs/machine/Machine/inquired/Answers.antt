use Rattle.std.proofs.Common.{◌≡◌, ◌≤◌, false, length, is_some, sym, ap, ◌∙◌, arith}
use Rattle.fj_meaning_turns.specs.Run.{Start}
use Rattle.fj_run_script.specs.Machine.{run_at}
use Rattle.fj_run_script.proofs.Known.{none_begun, none_ended, none_left, none_over, question_is}
use Rattle.fj_run_script.proofs.NextAsks.{not_ended}
use Rattle.fj_run_script.proofs.machine.Machine.inquired.Goals as goal

pub returns-then-self-clause-question : goal.returns-then-self-clause-question
returns-then-self-clause-question g c = λ files. sym (none_over files c.args.self.now c.if-self.true)

pub returns-then-is_some-clause-question : goal.returns-then-is_some-clause-question
returns-then-is_some-clause-question g c = λ files. sym (none_ended files c.args.self.now (sym c.is_some.ensures ∙ c.if-is_some.true))

pub returns-then-self-len-clause-question : goal.returns-then-self-len-clause-question
returns-then-self-len-clause-question g c = λ files.
    let m = c.args.self.now in
    let low : length m.deck.statements ≤ m.at.place = omega arith in
    sym (none_left files m low)

pub returns-in_default-clause-question : goal.returns-in_default-clause-question
returns-in_default-clause-question g c = λ files. sym (none_begun files c.args.self.now c.in_default.not-Start)

pub returns-in-Start-clause-question : goal.returns-in-Start-clause-question
returns-in-Start-clause-question g c = λ files.
    let m = c.args.self.now in
    let none : is_some (run_at files m Start).ending ≡ false = ap is_some (not_ended m.state.ending (sym c.is_some.ensures ∙ c.if-is_some.false)) in
    c.look_at_hand.ensures.question files ∙ sym (question_is files m c.if-self.false none c.in-Start.is)
