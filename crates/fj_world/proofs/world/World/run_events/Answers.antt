use Rattle.std.proofs.Common.{◌≡◌, ℕ, ◌+◌, cond, sym, ap, ◌∙◌, subst, arith}
use Rattle.std.proofs.lemmas.Grind.{common_steps}
use Rattle.fj_world.proofs.Running.{SoFar, none_so_far, one_more, through}
use Rattle.fj_world.proofs.world.World.run_events.Goals as goal
use Rattle.fj_world.proofs.world.World.run_events.Goals.{then-step, else-step}

pub loop-event-init : goal.loop-event-init
loop-event-init g c = record {
  count = omega arith;
  so_far = none_so_far g.S.Gear.Engine.meaning g.S.Script.conduct c.args.events.now c.args.self.now;
}

pub loop-event-preserved : goal.loop-event-preserved
loop-event-preserved g c = record {
  count = grind (arith, common_steps);
  so_far =
      let m = g.S.Gear.Engine.meaning in let k = g.S.Script.conduct in
      let more = one_more m k c.args.events.now c.args.self.now c.loop-event.self c.step.new.self c.loop-event.event-index c.loop-event.count _ c.step.result
      c.loop-event-test.true c.loop-event.invariant.so_far (record {
        variant = c.step.ensures.variant;
        none = c.step.ensures.none;
        happens = c.step.ensures.happens;
        keeps = c.step.ensures.keeps;
        going = c.step.ensures.going;
        fits = c.step.ensures.fits;
        moves = c.step.ensures.moves;
      }) in
      let counted : c.loop-event.count + cond c.step.result 1 0 ≡ c.if-step.count = elim c.if-step.branch [
        | then-step w ↦ ap {B = ℕ} (λ b. c.loop-event.count + cond b 1 0) w.if-step.true ∙ sym w.count-is
        | else-step w ↦ ap {B = ℕ} (λ b. c.loop-event.count + cond b 1 0) w.if-step.false ∙ omega (arith, w.count-is)
      ] in
      subst (λ n. SoFar m k c.args.events.now c.args.self.now (c.loop-event.event-index + 1) n c.step.new.self) counted more;
}

pub returns : goal.returns
returns g c =
    through g.S.Gear.Engine.meaning g.S.Script.conduct c.args.events.now c.args.self.now c.loop-event.self c.loop-event.event-index c.loop-event.count
    (omega (arith, c.loop-event-test.false, c.loop-event.auto.event-index-end)) c.loop-event.invariant.so_far
