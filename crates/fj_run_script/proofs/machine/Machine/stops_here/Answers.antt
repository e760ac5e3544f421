use Rattle.std.proofs.Common.{is_some, sym, ap, ◌∙◌}
use Rattle.fj_meaning_turns.specs.Run.{Start}
use Rattle.fj_meaning_looks.specs.Inquiring.{look_due, looks_by}
use Rattle.fj_run_script.specs.Asking.{inquired_of}
use Rattle.fj_run_script.specs.Machine.{rest_of, run_at}
use Rattle.fj_run_script.proofs.Looks.{due_false, due_true, some_mapped}
use Rattle.fj_run_script.proofs.machine.Machine.stops_here.Goals as goal

pub returns-clause-stops : goal.returns-clause-stops
returns-clause-stops g c = λ files.
    let m = c.args.self.now in
    c.is_some.ensures ∙ sym (some_mapped inquired_of c.look_at_hand.result) ∙ ap is_some (c.look_at_hand.ensures.question files) ∙ sym (due_true (rest_of m) (run_at files m Start))
    ∙ ap (λ b. look_due (looks_by b) (rest_of m) (run_at files m Start)) (sym c.if-not-to_look.false)

pub returns-then-not-to_look-clause-stops : goal.returns-then-not-to_look-clause-stops
returns-then-not-to_look-clause-stops g c = λ files.
    let m = c.args.self.now in
    sym (ap (λ b. look_due (looks_by b) (rest_of m) (run_at files m Start)) c.if-not-to_look.true ∙ due_false (rest_of m) (run_at files m Start))
