use Rattle.std.proofs.Common.{◌≡◌, true, None, IfErr, slice_get, set, refl, sym, ap, ◌∙◌, subst, arith}
use Rattle.std.proofs.lemmas.Grind.{common_steps}
use Rattle.std.proofs.lemmas.Option.{slice_get_within}
use Rattle.fj_world.specs.Scene.{IsOrderly}
use Rattle.fj_world.specs.Steps.{is_busy}
use Rattle.fj_slot.specs.Ledger.{with_halt}
use Rattle.fj_world.specs.Fits.{Fits}
use Rattle.fj_world.specs.declared.event.Event.TheVariants.{End}
use Rattle.fj_world.specs.Sketch.{Moves}
use Rattle.fj_world.specs.Happening.{Happens}
use Rattle.fj_world.specs.Keeping.{Keeps}
use Rattle.fj_world.proofs.Kept.{end_keeps_all}
use Rattle.fj_world.proofs.Moving.{end_moves}
use Rattle.fj_world.proofs.Fitting.{end_fits}
use Rattle.fj_world.proofs.Order.{end_orderly, end_result}
use Rattle.fj_world.proofs.Places.{same_some, held_place}
use Rattle.fj_world.proofs.world.World.end.Goals as goal

pub end-requires-clause-within : goal.end-requires-clause-within
end-requires-clause-within g c =
    let holds = held_place c.self.inside.workers.items c.args.worker c.index_mut.result.now c.in-Some.busy (grind (arith, common_steps)) c.index_mut.ensures.value (sym c.take.ensures.value ∙ c.in-Some.is) in
    let out = c.self.invariant.0.held c.args.worker c.in-Some.busy holds in
    slice_get_within c.self.inside.slots.slots c.in-Some.busy.slot out.ledger out.found

pub end-requires-clause-number : goal.end-requires-clause-number
end-requires-clause-number g c = λ l found.
    let holds = held_place c.self.inside.workers.items c.args.worker c.index_mut.result.now c.in-Some.busy (grind (arith, common_steps)) c.index_mut.ensures.value (sym c.take.ensures.value ∙ c.in-Some.is) in
    let out = c.self.invariant.0.held c.args.worker c.in-Some.busy holds in
    out.number ∙ ap (λ z. z.done) (same_some (sym out.found ∙ found))

pub end-requires-clause-out : goal.end-requires-clause-out
end-requires-clause-out g c = λ l found.
    let holds = held_place c.self.inside.workers.items c.args.worker c.index_mut.result.now c.in-Some.busy (grind (arith, common_steps)) c.index_mut.ensures.value (sym c.take.ensures.value ∙ c.in-Some.is) in
    let out = c.self.invariant.0.held c.args.worker c.in-Some.busy holds in
    ap (λ z. z.home) (sym (same_some (sym out.found ∙ found))) ∙ out.away

pub invariant_of-self-2 : goal.invariant_of-self-2
invariant_of-self-2 g c =
    let s = c.self.inside in
    let holds = held_place s.workers.items c.args.worker c.index_mut.result.now c.in-Some.busy (grind (arith, common_steps)) c.index_mut.ensures.value (sym c.take.ensures.value ∙ c.in-Some.is) in
    let out = c.self.invariant.0.held c.args.worker c.in-Some.busy holds in
    let left = end_result s.slots c.end.new.self c.in-Some.busy.slot out.ledger c.perform-got.new.self c.perform-got.new.job c.perform-got.result c.faults-before.result
    (g.S.Gear.Engine.meaning.faults c.perform-got.new.self) (c.end.ensures.ok out.ledger out.found) (c.end.ensures.err out.ledger out.found) in (
      subst (λ z. IsOrderly g.S.Gear.Engine.meaning g.S.Script.conduct (record { start = s.start.value; script = s.script; hand = s.hand; rack = c.end.new.self; workers = set s.workers.items c.args.worker z })) (sym c.take.ensures.after)
          (end_orderly g.S.Gear.Engine.meaning g.S.Script.conduct (record { start = s.start.value; script = s.script; hand = s.hand; rack = s.slots; workers = s.workers.items })
          c.args.worker c.in-Some.busy out.ledger left.0 c.end.new.self c.self.invariant.0 holds out.found left.1 left.2),
      c.self.invariant.1,
    )

pub returns-clause-variant : goal.returns-clause-variant
returns-clause-variant g c =
    let s = c.self.inside in
    let holds = held_place s.workers.items c.args.worker c.index_mut.result.now c.in-Some.busy (grind (arith, common_steps)) c.index_mut.ensures.value (sym c.take.ensures.value ∙ c.in-Some.is) in
    subst (λ w. true ≡ is_busy (slice_get w.workers c.args.worker)) c.self.view_is (sym (ap is_busy holds))

pub returns-clause-fits : goal.returns-clause-fits
returns-clause-fits g c = λ p before.
    let s = c.self.inside in
    let holds = held_place s.workers.items c.args.worker c.index_mut.result.now c.in-Some.busy (grind (arith, common_steps)) c.index_mut.ensures.value (sym c.take.ensures.value ∙ c.in-Some.is) in
    let out = c.self.invariant.0.held c.args.worker c.in-Some.busy holds in
    let m = g.S.Gear.Engine.meaning in
    let counted = c.faults-before.ensures in
    let halted = subst (λ n. IfErr c.perform-got.result (λ stop. c.end.new.self.slots ≡ set s.slots.slots c.in-Some.busy.slot
    (with_halt out.ledger c.perform-got.new.self (record { stop = stop; before = n; after = m.faults c.perform-got.new.self })))) counted (c.end.ensures.err out.ledger out.found) in
    subst (λ z. Fits g.S.Gear.Engine.meaning g.S.Script.conduct p (record { start = s.start.value; script = s.script; hand = s.hand; rack = c.end.new.self; workers = set s.workers.items c.args.worker z })) (sym c.take.ensures.after)
    (end_fits g.S.Gear.Engine.meaning g.S.Script.conduct p (record { start = s.start.value; script = s.script; hand = s.hand; rack = s.slots; workers = s.workers.items })
    c.args.worker c.in-Some.busy out.ledger c.end.new.self c.perform-got.new.self c.perform-got.new.job c.perform-got.result
    c.self.invariant.0 (subst (λ w. Fits g.S.Gear.Engine.meaning g.S.Script.conduct p w) (sym c.self.view_is) before) holds out.found
    c.perform-got.ensures.serves c.perform-got.ensures.cause (c.end.ensures.ok out.ledger out.found) halted)

pub returns-clause-moves : goal.returns-clause-moves
returns-clause-moves g c = λ yes'.
    let m = g.S.Gear.Engine.meaning in let k = g.S.Script.conduct in
    let s = c.self.inside in
    let holds = held_place s.workers.items c.args.worker c.index_mut.result.now c.in-Some.busy (grind (arith, common_steps)) c.index_mut.ensures.value (sym c.take.ensures.value ∙ c.in-Some.is) in
    let out = c.self.invariant.0.held c.args.worker c.in-Some.busy holds in
    let m = g.S.Gear.Engine.meaning in
    subst (λ z. Moves m k (End c.args.worker) c.args.self.now (record { start = s.start.value; script = s.script; hand = s.hand; rack = c.end.new.self; workers = set s.workers.items c.args.worker z })) (sym c.take.ensures.after)
    (subst (λ w. Moves m k (End c.args.worker) w (record { start = s.start.value; script = s.script; hand = s.hand; rack = c.end.new.self; workers = set s.workers.items c.args.worker None })) c.self.view_is
    (end_moves m k (record { start = s.start.value; script = s.script; hand = s.hand; rack = s.slots; workers = s.workers.items }) c.args.worker c.in-Some.busy out.ledger c.end.new.self
    c.perform-got.new.self c.perform-got.new.job c.perform-got.result c.faults-before.result (m.faults c.perform-got.new.self)
    c.self.invariant.0 holds out.found
    (λ p h. subst (λ z. Fits m k p (record { start = s.start.value; script = s.script; hand = s.hand; rack = c.end.new.self; workers = set s.workers.items c.args.worker z })) c.take.ensures.after
    (returns-clause-fits g c p (subst (λ w. Fits m k p w) c.self.view_is h)))
    (c.end.ensures.ok out.ledger out.found) (c.end.ensures.err out.ledger out.found)))

pub returns-clause-happens : goal.returns-clause-happens
returns-clause-happens g c = λ yes'.
    let m = g.S.Gear.Engine.meaning in let k = g.S.Script.conduct in
    let s = c.self.inside in
    let holds = held_place s.workers.items c.args.worker c.index_mut.result.now c.in-Some.busy (grind (arith, common_steps)) c.index_mut.ensures.value (sym c.take.ensures.value ∙ c.in-Some.is) in
    let out = c.self.invariant.0.held c.args.worker c.in-Some.busy holds in
    let counted = c.faults-before.ensures in
    let halted = subst (λ n. IfErr c.perform-got.result (λ stop. c.end.new.self.slots ≡ set s.slots.slots c.in-Some.busy.slot
    (with_halt out.ledger c.perform-got.new.self (record { stop = stop; before = n; after = m.faults c.perform-got.new.self })))) counted (c.end.ensures.err out.ledger out.found) in
    subst (λ z. Happens m k (End c.args.worker) c.args.self.now (record { start = s.start.value; script = s.script; hand = s.hand; rack = c.end.new.self; workers = set s.workers.items c.args.worker z })) (sym c.take.ensures.after)
    (subst (λ w. Happens m k (End c.args.worker) w (record { start = s.start.value; script = s.script; hand = s.hand; rack = c.end.new.self; workers = set s.workers.items c.args.worker None })) c.self.view_is (record {
      busy = c.in-Some.busy;
      holds = holds;
      ledger = out.ledger;
      found = out.found;
      engine = c.perform-got.new.self;
      job = c.perform-got.new.job;
      got = c.perform-got.result;
      serves = c.perform-got.ensures.serves;
      cause = c.perform-got.ensures.cause;
      done = c.end.ensures.ok out.ledger out.found;
      stopped = halted;
      workers = refl;
      script = refl;
      hand = refl;
    }))

pub returns-clause-keeps : goal.returns-clause-keeps
returns-clause-keeps g c = λ yes'.
    let m = g.S.Gear.Engine.meaning in let k = g.S.Script.conduct in
    let s = c.self.inside in
    let holds = held_place s.workers.items c.args.worker c.index_mut.result.now c.in-Some.busy (grind (arith, common_steps)) c.index_mut.ensures.value (sym c.take.ensures.value ∙ c.in-Some.is) in
    let out = c.self.invariant.0.held c.args.worker c.in-Some.busy holds in
    let counted = c.faults-before.ensures in
    let halted = subst (λ n. IfErr c.perform-got.result (λ stop. c.end.new.self.slots ≡ set s.slots.slots c.in-Some.busy.slot
    (with_halt out.ledger c.perform-got.new.self (record { stop = stop; before = n; after = m.faults c.perform-got.new.self })))) counted (c.end.ensures.err out.ledger out.found) in
    subst (λ z. Keeps m k c.args.self.now (record { start = s.start.value; script = s.script; hand = s.hand; rack = c.end.new.self; workers = set s.workers.items c.args.worker z })) (sym c.take.ensures.after)
    (subst (λ w. Keeps m k w (record { start = s.start.value; script = s.script; hand = s.hand; rack = c.end.new.self; workers = set s.workers.items c.args.worker None })) c.self.view_is
    (end_keeps_all m k (record { start = s.start.value; script = s.script; hand = s.hand; rack = s.slots; workers = s.workers.items }) (record { start = s.start.value; script = s.script; hand = s.hand; rack = c.end.new.self; workers = set s.workers.items c.args.worker None }) c.args.worker c.self.invariant.0 (record {
      busy = c.in-Some.busy;
      holds = holds;
      ledger = out.ledger;
      found = out.found;
      engine = c.perform-got.new.self;
      job = c.perform-got.new.job;
      got = c.perform-got.result;
      serves = c.perform-got.ensures.serves;
      cause = c.perform-got.ensures.cause;
      done = c.end.ensures.ok out.ledger out.found;
      stopped = halted;
      workers = refl;
      script = refl;
      hand = refl;
    }) c.end.ensures.spare))
