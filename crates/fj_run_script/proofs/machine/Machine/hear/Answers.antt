use Rattle.std.proofs.Common.{◌≡◌, true, Some, sym, ap, ◌∙◌, subst, ◌+◌, arith}
use Rattle.std.specs.List.{sum}
use Rattle.fj_bay.specs.Meaning.{bay_meaning}
use Rattle.fj_bay.specs.Jobs.{Answer as Reply}
use Rattle.fj_meaning_jobs.specs.Desks.{Outcome}
use Rattle.fj_meaning_turns.specs.Turns.{told_of}
use Rattle.fj_world.specs.Conduct.{IsAnswer}
use Rattle.fj_run_script.proofs.Tallies.{settling_runs, not_both}
use Rattle.fj_run_script.proofs.Counting.{going_told}
use Rattle.fj_run_script.specs.Tallying.{owed_at}
use Rattle.fj_run_script.specs.declared.tally.Tally.{Tally}
use Rattle.fj_run_script.proofs.machine.Machine.hear.Goals as goal

pub returns-in-Done-clause-stops : goal.returns-in-Done-clause-stops
returns-in-Done-clause-stops g c = λ stopped.
    let tally = c.args.self.now.tally in
    let was : tally.stopped ≡ true = sym (ap (λ (t : Tally). t.stopped) c.take_answer.ensures.tally ∙ c.settled.ensures.stopped) ∙ stopped in
    absurd (not_both tally.over (tally.stop was) (settling_runs tally.hand tally.over tally.left tally.owed.items tally.settles c.requires.settling))

pub returns-in-Done-clause-told : goal.returns-in-Done-clause-told
returns-in-Done-clause-told g c = λ files r reply known over answers.
    let it = subst (λ x. IsAnswer (bay_meaning g.F.FileStore.told g.F.FileStore.bytes g.F.FileStore.count) x reply) c.in-Done.is answers in
    c.take_answer.ensures.told files r reply.0 known it.0 ∙ ap (λ (a : Reply). let o : Outcome = (reply.0, a) in Some (told_of r o)) it.1

pub returns-in-Done-clause-on : goal.returns-in-Done-clause-on
returns-in-Done-clause-on g c = λ going over.
    let same = c.take_answer.ensures.tally in
    let left : c.take_answer.new.self.tally.left ≡ c.settled.new.self.left = ap (λ (t : Tally). t.left) same in
    let less : c.take_answer.new.self.tally.left + 1 ≡ c.args.self.now.tally.left = omega (arith, left, c.settled.ensures.left) in
    let fewer : sum c.take_answer.new.self.tally.owed.items + 1 ≡ sum c.args.self.now.tally.owed.items = ap (λ (t : Tally). sum t.owed.items + 1) same ∙ c.settled.ensures.sum in
    going_told c.args.self.now c.take_answer.new.self going c.take_answer.ensures.rests.deck c.take_answer.ensures.rests.at c.take_answer.ensures.hears less (ap (λ (t : Tally). t.hand) same ∙ c.settled.ensures.hand) c.requires.settling fewer
    (λ slot. ap (λ (t : Tally). owed_at t.owed.items slot) same ∙ c.settled.ensures.owed slot)
