use Rattle.std.proofs.Common.{◌≡◌, ◌&&◌, true, false, Some, is_some, slice_get, set, refl, sym, ap, ◌∙◌, subst, arith}
use Rattle.std.proofs.lemmas.Grind.{common_steps}
use Rattle.fj_world.specs.Steps.{is_free, is_waiting}
use Rattle.fj_world.specs.Fits.{Fits}
use Rattle.fj_world.specs.declared.busy.Busy.{Busy}
use Rattle.fj_world.specs.declared.event.Event.TheVariants.{Begin}
use Rattle.fj_world.specs.Sketch.{Moves}
use Rattle.fj_world.specs.Happening.{Happens}
use Rattle.fj_world.specs.Keeping.{Keeps}
use Rattle.fj_world.proofs.Kept.{begin_keeps_all}
use Rattle.fj_world.proofs.Moving.{begin_moves}
use Rattle.fj_world.proofs.Fitting.{begin_fits}
use Rattle.fj_world.proofs.Order.{begin_orderly, begin_variant}
use Rattle.fj_world.proofs.Places.{slice_get_in, free_place}
use Rattle.fj_world.proofs.world.World.begin.Goals as goal

pub returns-in_default-clause-variant : goal.returns-in_default-clause-variant
returns-in_default-clause-variant g c =
    let s = c.self.inside in
    let free = free_place s.workers.items c.args.worker c.index.result.now (grind (arith, common_steps)) c.index.ensures (grind (arith, common_steps)) in
    let found = slice_get_in s.slots.slots c.args.slot (grind (arith, common_steps)) in
    subst (λ w. false ≡ (is_free (slice_get w.workers c.args.worker) && is_waiting (slice_get w.rack.slots c.args.slot))) c.self.view_is
    (begin_variant (record { start = s.start.value; script = s.script; hand = s.hand; rack = s.slots; workers = s.workers.items })
    c.args.worker c.args.slot found.0 false free found.1 (sym (ap is_some c.in_default.is) ∙ c.begin.ensures.variant found.0 found.1))

pub invariant_of-self-2 : goal.invariant_of-self-2
invariant_of-self-2 g c =
    let s = c.self.inside in
    let found = slice_get_in s.slots.slots c.args.slot (grind (arith, common_steps)) in
    let can = sym (c.begin.ensures.variant found.0 found.1) ∙ ap is_some c.in-Some.is in (
      begin_orderly g.S.Gear.Engine.meaning g.S.Script.conduct (record { start = s.start.value; script = s.script; hand = s.hand; rack = s.slots; workers = s.workers.items })
          c.args.worker (record { slot = c.args.slot; out = c.in-Some.out }) found.0 c.begin.new.self c.self.invariant.0 (grind (arith, common_steps)) found.1 can
          (c.in-Some.ensures.number found.0 found.1) (c.in-Some.ensures.some found.0 found.1),
      c.self.invariant.1,
    )

pub returns-clause-variant : goal.returns-clause-variant
returns-clause-variant g c =
    let s = c.self.inside in
    let free = free_place s.workers.items c.args.worker c.index.result.now (grind (arith, common_steps)) c.index.ensures (grind (arith, common_steps)) in
    let found = slice_get_in s.slots.slots c.args.slot (grind (arith, common_steps)) in
    subst (λ w. true ≡ (is_free (slice_get w.workers c.args.worker) && is_waiting (slice_get w.rack.slots c.args.slot))) c.self.view_is
    (begin_variant (record { start = s.start.value; script = s.script; hand = s.hand; rack = s.slots; workers = s.workers.items })
    c.args.worker c.args.slot found.0 true free found.1 (sym (ap is_some c.in-Some.is) ∙ c.begin.ensures.variant found.0 found.1))

pub returns-clause-fits : goal.returns-clause-fits
returns-clause-fits g c = λ p before.
    let s = c.self.inside in
    let found = slice_get_in s.slots.slots c.args.slot (grind (arith, common_steps)) in
    let can = sym (c.begin.ensures.variant found.0 found.1) ∙ ap is_some c.in-Some.is in
    begin_fits g.S.Gear.Engine.meaning g.S.Script.conduct p (record { start = s.start.value; script = s.script; hand = s.hand; rack = s.slots; workers = s.workers.items })
    c.args.worker (record { slot = c.args.slot; out = c.in-Some.out }) found.0 c.begin.new.self
    (subst (λ w. Fits g.S.Gear.Engine.meaning g.S.Script.conduct p w) (sym c.self.view_is) before) found.1 can
    (c.in-Some.ensures.number found.0 found.1) (c.in-Some.ensures.engine found.0 found.1) (c.in-Some.ensures.job found.0 found.1) (c.in-Some.ensures.some found.0 found.1)

pub returns-clause-moves : goal.returns-clause-moves
returns-clause-moves g c = λ yes'.
    let m = g.S.Gear.Engine.meaning in let k = g.S.Script.conduct in
    let s = c.self.inside in
    let found = slice_get_in s.slots.slots c.args.slot (grind (arith, common_steps)) in
    let busy : Busy g.row.S-Gear.Denot g.row.S-Gear-Job.Denot g.row.S-Gear-Answer.Denot g.row.S-Gear-State.Denot g.row.S-Gear-Task.Denot g.row.S-Gear-Reply.Denot = record { slot = c.args.slot; out = c.in-Some.out } in
    subst (λ w. Moves m k (Begin c.args.worker c.args.slot) w (record { start = s.start.value; script = s.script; hand = s.hand; rack = c.begin.new.self; workers = set s.workers.items c.args.worker (Some busy) })) c.self.view_is
    (begin_moves m k (record { start = s.start.value; script = s.script; hand = s.hand; rack = s.slots; workers = s.workers.items }) c.args.worker busy found.0 c.begin.new.self
    (λ p h. returns-clause-fits g c p (subst (λ w. Fits m k p w) c.self.view_is h)) found.1 (c.in-Some.ensures.some found.0 found.1))

pub returns-clause-happens : goal.returns-clause-happens
returns-clause-happens g c = λ yes'.
    let m = g.S.Gear.Engine.meaning in let k = g.S.Script.conduct in
    let s = c.self.inside in
    let found = slice_get_in s.slots.slots c.args.slot (grind (arith, common_steps)) in
    let can = sym (c.begin.ensures.variant found.0 found.1) ∙ ap is_some c.in-Some.is in
    let busy : Busy g.row.S-Gear.Denot g.row.S-Gear-Job.Denot g.row.S-Gear-Answer.Denot g.row.S-Gear-State.Denot g.row.S-Gear-Task.Denot g.row.S-Gear-Reply.Denot = record { slot = c.args.slot; out = c.in-Some.out } in
    subst (λ w. Happens m k (Begin c.args.worker c.args.slot) w (record { start = s.start.value; script = s.script; hand = s.hand; rack = c.begin.new.self; workers = set s.workers.items c.args.worker (Some busy) })) c.self.view_is (record {
      ledger = found.0;
      found = found.1;
      may = can;
      busy = busy;
      slot = refl;
      number = c.in-Some.ensures.number found.0 found.1;
      engine = c.in-Some.ensures.engine found.0 found.1;
      job = c.in-Some.ensures.job found.0 found.1;
      after = c.in-Some.ensures.some found.0 found.1;
      workers = refl;
      script = refl;
      hand = refl;
    })

pub returns-clause-keeps : goal.returns-clause-keeps
returns-clause-keeps g c = λ yes'.
    let m = g.S.Gear.Engine.meaning in let k = g.S.Script.conduct in
    let s = c.self.inside in
    let found = slice_get_in s.slots.slots c.args.slot (grind (arith, common_steps)) in
    let can = sym (c.begin.ensures.variant found.0 found.1) ∙ ap is_some c.in-Some.is in
    let busy : Busy g.row.S-Gear.Denot g.row.S-Gear-Job.Denot g.row.S-Gear-Answer.Denot g.row.S-Gear-State.Denot g.row.S-Gear-Task.Denot g.row.S-Gear-Reply.Denot = record { slot = c.args.slot; out = c.in-Some.out } in
    subst (λ w. Keeps m k w (record { start = s.start.value; script = s.script; hand = s.hand; rack = c.begin.new.self; workers = set s.workers.items c.args.worker (Some busy) })) c.self.view_is
    (begin_keeps_all m k (record { start = s.start.value; script = s.script; hand = s.hand; rack = s.slots; workers = s.workers.items }) (record { start = s.start.value; script = s.script; hand = s.hand; rack = c.begin.new.self; workers = set s.workers.items c.args.worker (Some busy) }) c.args.worker c.args.slot c.self.invariant.0 (record {
      ledger = found.0;
      found = found.1;
      may = can;
      busy = busy;
      slot = refl;
      number = c.in-Some.ensures.number found.0 found.1;
      engine = c.in-Some.ensures.engine found.0 found.1;
      job = c.in-Some.ensures.job found.0 found.1;
      after = c.in-Some.ensures.some found.0 found.1;
      workers = refl;
      script = refl;
      hand = refl;
    }) c.begin.ensures.spare)
