use Rattle.std.proofs.Common.{sym, subst}
use Rattle.fj_world.specs.Fits.{Fits}
use Rattle.fj_world.specs.Plain.{asked_next}
use Rattle.fj_world.specs.Scene.{IsOrderly}
use Rattle.fj_world.proofs.Runs.{begins_orderly, begins_fitting}
use Rattle.fj_world.proofs.world.World.new.Goals as goal

pub invariant_of-result : goal.invariant_of-result
invariant_of-result g c = (
  subst (λ z. IsOrderly g.S.Gear.Engine.meaning g.S.Script.conduct (record { start = z; script = c.ask-hand.new.self; hand = c.ask-hand.result; rack = c.args.slots; workers = c.in-Ok.workers.items })) (sym c.of-start.ensures)
      (begins_orderly g.S.Gear.Engine.meaning g.S.Script.conduct c.args.script c.ask-hand.new.self c.ask-hand.result c.args.slots c.in-Ok.workers.items c.args.workers
      c.requires.uses c.requires.few c.ask-hand.ensures.asks c.in-Ok.ensures),
  c.ask-hand.ensures.gives,
)

pub returns-clause-fits : goal.returns-clause-fits
returns-clause-fits g c = λ s qs state going fit.
    subst (λ z. Fits g.S.Gear.Engine.meaning g.S.Script.conduct (asked_next g.S.Gear.Engine.meaning g.S.Script.conduct s qs) (record { start = z; script = c.ask-hand.new.self; hand = c.ask-hand.result; rack = c.args.slots; workers = c.in-Ok.workers.items })) (sym c.of-start.ensures)
    (begins_fitting g.S.Gear.Engine.meaning g.S.Script.conduct c.args.script c.ask-hand.new.self c.ask-hand.result c.args.slots c.in-Ok.workers.items c.args.workers s qs
    c.ask-hand.ensures.asks c.in-Ok.ensures state going fit)
