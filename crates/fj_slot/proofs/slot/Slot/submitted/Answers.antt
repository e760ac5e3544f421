use Rattle.std.proofs.Common.{◌≡◌, arith, subst, ap}
use Rattle.std.proofs.lemmas.Grind.{common_steps}
use Rattle.fj_slot.specs.Ledger.{IsSized}
use Rattle.fj_slot.specs.Slot.{count_out}
use Rattle.fj_slot.proofs.Given.{length-given_jobs}
use Rattle.fj_slot.proofs.Counted.{not_halted}
use Rattle.fj_slot.proofs.slot.Slot.submitted.Goals as goal

pub returns-clause-sized : goal.returns-clause-sized
returns-clause-sized g c =
    let s = c.self.inside in
    let h = c.self.invariant in
    let long = length-given_jobs s in
    subst (λ l. IsSized l) c.self.view_is (record {
      few = omega (arith, long, h.few);
      within = omega (arith, long, h.total, h.reached);
      away = λ e.
          let out : count_out s.home ≡ 1 = ap count_out e in
          let runs = not_halted s.halt (λ q. let zero = h.stopped q in omega arith) in
          omega (arith, long, h.total, h.running runs, out);
      home = λ q. let zero = h.stopped q in grind (arith, common_steps);
      told = λ e. omega (arith, h.running e);
    })
