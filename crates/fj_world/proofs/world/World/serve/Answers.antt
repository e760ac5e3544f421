use Rattle.std.proofs.Common.{◌≡◌, true, false, refl, sym, ◌∙◌, subst, arith}
use Rattle.fj_world.specs.declared.ask.Ask.TheVariants.{Submit, Settle}
use Rattle.fj_world.specs.Conduct.{KeepsTo}
use Rattle.fj_world.specs.Steps.{can_serve}
use Rattle.std.proofs.lemmas.Bool.{false_from_ne_true}
use Rattle.fj_world.specs.Fits.{Fits}
use Rattle.fj_world.specs.declared.event.Event.TheVariants.{Script}
use Rattle.fj_world.specs.Sketch.{Moves}
use Rattle.fj_world.specs.Happening.{ServesAsk, Happens}
use Rattle.fj_world.specs.Keeping.{Keeps}
use Rattle.fj_world.proofs.Kept.{submit_keeps_all, tell_keeps_all}
use Rattle.fj_world.proofs.Moving.{script_moves, submit_spots, tell_spots}
use Rattle.fj_world.proofs.Fitting.{submit_advances, settle_advances}
use Rattle.fj_world.proofs.Order.{serve_orderly, submit_alike, tell_alike, settle_variant}
use Rattle.fj_world.proofs.Places.{slice_get_in}
use Rattle.fj_world.proofs.world.World.serve.Goals as goal

pub invariant_of-self : goal.invariant_of-self
invariant_of-self g c =
    let s = c.self.inside in
    let inv = c.self.invariant.0 in
    let hand = sym c.replace.ensures.value ∙ c.in-Submit.is in
    let keeps = subst (KeepsTo g.S.Script.conduct s.script) hand inv.keeps_to in
    let found = slice_get_in s.slots.slots c.in-Submit.slot (omega (arith, keeps.0, inv.uses)) in (
      serve_orderly g.S.Gear.Engine.meaning g.S.Script.conduct (record { start = s.start.value; script = s.script; hand = s.hand; rack = s.slots; workers = s.workers.items })
          c.took.new.self c.ask.new.self c.ask.result c.submit-number.new.self inv
          (submit_alike s.slots c.submit-number.new.self c.in-Submit.slot found.0 c.in-Submit.job c.submit-number.result found.1 (c.submit-number.ensures.after found.0 found.1) c.submit-number.ensures.err)
          c.took.ensures.left c.took.ensures.uses c.ask.ensures.asks,
      c.ask.ensures.gives,
    )

pub returns-then-not-ready-clause-variant : goal.returns-then-not-ready-clause-variant
returns-then-not-ready-clause-variant g c =
    let s = c.self.inside in
    let inv = c.self.invariant.0 in
    let hand = sym c.replace.ensures.value ∙ c.in-Settle.is in
    let keeps = subst (KeepsTo g.S.Script.conduct s.script) hand inv.keeps_to in
    let found = slice_get_in s.slots.slots c.in-Settle.slot (omega (arith, keeps.0, inv.uses)) in
    subst (λ w. false ≡ can_serve w.hand w.rack) c.self.view_is
    (settle_variant (record { start = s.start.value; script = s.script; hand = s.hand; rack = s.slots; workers = s.workers.items })
    c.in-Settle.slot found.0 false hand found.1 (sym c.if-not-ready.true ∙ c.ready.ensures found.0 found.1))

pub invariant_of-self-in-Settle : goal.invariant_of-self-in-Settle
invariant_of-self-in-Settle g c =
    let s = c.self.inside in
    let inv = c.self.invariant.0 in
    let hand = sym c.replace.ensures.value ∙ c.in-Settle.is in
    let keeps = subst (KeepsTo g.S.Script.conduct s.script) hand inv.keeps_to in
    let found = slice_get_in s.slots.slots c.in-Settle.slot (omega (arith, keeps.0, inv.uses)) in (
      serve_orderly g.S.Gear.Engine.meaning g.S.Script.conduct (record { start = s.start.value; script = s.script; hand = s.hand; rack = s.slots; workers = s.workers.items })
          c.told.new.self c.ask-in-Settle.new.self c.ask-in-Settle.result c.tell-told.new.self inv
          (tell_alike s.slots c.tell-told.new.self c.in-Settle.slot found.0 found.1 (c.tell-told.ensures.after found.0 found.1))
          c.told.ensures.left c.told.ensures.uses c.ask-in-Settle.ensures.asks,
      c.ask-in-Settle.ensures.gives,
    )

pub returns-else-not-ready-clause-variant : goal.returns-else-not-ready-clause-variant
returns-else-not-ready-clause-variant g c =
    let s = c.self.inside in
    let inv = c.self.invariant.0 in
    let hand = sym c.replace.ensures.value ∙ c.in-Settle.is in
    let keeps = subst (KeepsTo g.S.Script.conduct s.script) hand inv.keeps_to in
    let found = slice_get_in s.slots.slots c.in-Settle.slot (omega (arith, keeps.0, inv.uses)) in
    subst (λ w. true ≡ can_serve w.hand w.rack) c.self.view_is
    (settle_variant (record { start = s.start.value; script = s.script; hand = s.hand; rack = s.slots; workers = s.workers.items })
    c.in-Settle.slot found.0 true hand found.1 (sym c.if-not-ready.false ∙ c.ready.ensures found.0 found.1))

pub returns-in-Submit-clause-fits : goal.returns-in-Submit-clause-fits
returns-in-Submit-clause-fits g c = λ _ p before.
    let s = c.self.inside in
    let inv = c.self.invariant.0 in
    let hand : s.hand ≡ Submit c.in-Submit.slot c.in-Submit.job = sym c.replace.ensures.value ∙ c.in-Submit.is in
    let keeps = subst (KeepsTo g.S.Script.conduct s.script) hand inv.keeps_to in
    let found = slice_get_in s.slots.slots c.in-Submit.slot (omega (arith, keeps.0, inv.uses)) in
    let going = false_from_ne_true (g.S.Script.conduct.over s.script) (λ e. let end = inv.ends e in cc) in
    submit_advances g.S.Gear.Engine.meaning g.S.Script.conduct p (record { start = s.start.value; script = s.script; hand = s.hand; rack = s.slots; workers = s.workers.items })
    c.took.new.self c.ask.new.self c.ask.result c.submit-number.new.self c.in-Submit.slot c.in-Submit.job c.submit-number.result found.0
    (subst (λ w. Fits g.S.Gear.Engine.meaning g.S.Script.conduct p w) (sym c.self.view_is) before) going hand found.1
    (c.submit-number.ensures.ok found.0 found.1) (c.submit-number.ensures.after found.0 found.1) c.submit-number.ensures.err
    c.took.ensures c.ask.ensures.asks

pub returns-else-not-ready-clause-fits : goal.returns-else-not-ready-clause-fits
returns-else-not-ready-clause-fits g c = λ _ p before.
    let s = c.self.inside in
    let inv = c.self.invariant.0 in
    let hand : s.hand ≡ Settle c.in-Settle.slot = sym c.replace.ensures.value ∙ c.in-Settle.is in
    let keeps = subst (KeepsTo g.S.Script.conduct s.script) hand inv.keeps_to in
    let found = slice_get_in s.slots.slots c.in-Settle.slot (omega (arith, keeps.0, inv.uses)) in
    let going = false_from_ne_true (g.S.Script.conduct.over s.script) (λ e. let end = inv.ends e in cc) in
    let can = sym (c.ready.ensures found.0 found.1) ∙ c.if-not-ready.false in
    settle_advances g.S.Gear.Engine.meaning g.S.Script.conduct p (record { start = s.start.value; script = s.script; hand = s.hand; rack = s.slots; workers = s.workers.items })
    c.told.new.self c.ask-in-Settle.new.self c.ask-in-Settle.result c.tell-told.new.self c.in-Settle.slot found.0 c.tell-told.result
    (subst (λ w. Fits g.S.Gear.Engine.meaning g.S.Script.conduct p w) (sym c.self.view_is) before) going hand found.1 can
    (c.tell-told.ensures.told found.0 found.1) (c.tell-told.ensures.after found.0 found.1)
    c.told.ensures c.ask-in-Settle.ensures.asks

pub returns-in-Submit-clause-moves : goal.returns-in-Submit-clause-moves
returns-in-Submit-clause-moves g c = λ yes'.
    let m = g.S.Gear.Engine.meaning in let k = g.S.Script.conduct in
    let s = c.self.inside in
    let inv = c.self.invariant.0 in
    let hand : s.hand ≡ Submit c.in-Submit.slot c.in-Submit.job = sym c.replace.ensures.value ∙ c.in-Submit.is in
    let keeps = subst (KeepsTo k s.script) hand inv.keeps_to in
    let found = slice_get_in s.slots.slots c.in-Submit.slot (omega (arith, keeps.0, inv.uses)) in
    subst (λ w. Moves m k Script w (record { start = s.start.value; script = c.ask.new.self; hand = c.ask.result; rack = c.submit-number.new.self; workers = s.workers.items })) c.self.view_is
    (script_moves m k (record { start = s.start.value; script = s.script; hand = s.hand; rack = s.slots; workers = s.workers.items }) c.ask.new.self c.ask.result c.submit-number.new.self
    (λ p h. returns-in-Submit-clause-fits g c yes' p (subst (λ w. Fits m k p w) c.self.view_is h))
    (submit_spots m k s.slots c.submit-number.new.self c.in-Submit.slot found.0 c.in-Submit.job c.submit-number.result found.1 (c.submit-number.ensures.after found.0 found.1) c.submit-number.ensures.err))

pub returns-else-not-ready-clause-moves : goal.returns-else-not-ready-clause-moves
returns-else-not-ready-clause-moves g c = λ yes'.
    let m = g.S.Gear.Engine.meaning in let k = g.S.Script.conduct in
    let s = c.self.inside in
    let inv = c.self.invariant.0 in
    let hand : s.hand ≡ Settle c.in-Settle.slot = sym c.replace.ensures.value ∙ c.in-Settle.is in
    let keeps = subst (KeepsTo k s.script) hand inv.keeps_to in
    let found = slice_get_in s.slots.slots c.in-Settle.slot (omega (arith, keeps.0, inv.uses)) in
    subst (λ w. Moves m k Script w (record { start = s.start.value; script = c.ask-in-Settle.new.self; hand = c.ask-in-Settle.result; rack = c.tell-told.new.self; workers = s.workers.items })) c.self.view_is
    (script_moves m k (record { start = s.start.value; script = s.script; hand = s.hand; rack = s.slots; workers = s.workers.items }) c.ask-in-Settle.new.self c.ask-in-Settle.result c.tell-told.new.self
    (λ p h. returns-else-not-ready-clause-fits g c yes' p (subst (λ w. Fits m k p w) c.self.view_is h))
    (tell_spots m k s.slots c.tell-told.new.self c.in-Settle.slot found.0 found.1 (c.tell-told.ensures.after found.0 found.1)))

pub returns-in-Submit-clause-happens : goal.returns-in-Submit-clause-happens
returns-in-Submit-clause-happens g c = λ yes'.
    let m = g.S.Gear.Engine.meaning in let k = g.S.Script.conduct in
    let s = c.self.inside in
    let inv = c.self.invariant.0 in
    let hand : s.hand ≡ Submit c.in-Submit.slot c.in-Submit.job = sym c.replace.ensures.value ∙ c.in-Submit.is in
    let keeps = subst (KeepsTo k s.script) hand inv.keeps_to in
    let found = slice_get_in s.slots.slots c.in-Submit.slot (omega (arith, keeps.0, inv.uses)) in
    subst (λ w. Happens m k Script w (record { start = s.start.value; script = c.ask.new.self; hand = c.ask.result; rack = c.submit-number.new.self; workers = s.workers.items })) c.self.view_is
    (subst (λ h. ServesAsk m k h (record { start = s.start.value; script = s.script; hand = s.hand; rack = s.slots; workers = s.workers.items }) (record { start = s.start.value; script = c.ask.new.self; hand = c.ask.result; rack = c.submit-number.new.self; workers = s.workers.items })) (sym hand) (record {
      ledger = found.0;
      found = found.1;
      number = c.submit-number.result;
      counts = c.submit-number.ensures.ok found.0 found.1;
      after = c.submit-number.ensures.after found.0 found.1;
      refused = c.submit-number.ensures.handed_back;
      same = c.submit-number.ensures.err;
      script = c.took.new.self;
      takes = c.took.ensures;
      asks = c.ask.ensures.asks;
      workers = refl;
    }))

pub returns-in-Submit-clause-keeps : goal.returns-in-Submit-clause-keeps
returns-in-Submit-clause-keeps g c = λ yes'.
    let m = g.S.Gear.Engine.meaning in let k = g.S.Script.conduct in
    let s = c.self.inside in
    let inv = c.self.invariant.0 in
    let hand : s.hand ≡ Submit c.in-Submit.slot c.in-Submit.job = sym c.replace.ensures.value ∙ c.in-Submit.is in
    let keeps = subst (KeepsTo k s.script) hand inv.keeps_to in
    let found = slice_get_in s.slots.slots c.in-Submit.slot (omega (arith, keeps.0, inv.uses)) in
    subst (λ w. Keeps m k w (record { start = s.start.value; script = c.ask.new.self; hand = c.ask.result; rack = c.submit-number.new.self; workers = s.workers.items })) c.self.view_is
    (submit_keeps_all m k (record { start = s.start.value; script = s.script; hand = s.hand; rack = s.slots; workers = s.workers.items }) (record { start = s.start.value; script = c.ask.new.self; hand = c.ask.result; rack = c.submit-number.new.self; workers = s.workers.items }) c.in-Submit.slot c.in-Submit.job inv hand (record {
      ledger = found.0;
      found = found.1;
      number = c.submit-number.result;
      counts = c.submit-number.ensures.ok found.0 found.1;
      after = c.submit-number.ensures.after found.0 found.1;
      refused = c.submit-number.ensures.handed_back;
      same = c.submit-number.ensures.err;
      script = c.took.new.self;
      takes = c.took.ensures;
      asks = c.ask.ensures.asks;
      workers = refl;
    }) c.submit-number.ensures.spare)

pub returns-in-Submit-clause-going : goal.returns-in-Submit-clause-going
returns-in-Submit-clause-going g c = λ yes'.
    let m = g.S.Gear.Engine.meaning in let k = g.S.Script.conduct in
    let s = c.self.inside in
    let inv = c.self.invariant.0 in
    let hand : s.hand ≡ Submit c.in-Submit.slot c.in-Submit.job = sym c.replace.ensures.value ∙ c.in-Submit.is in
    let keeps = subst (KeepsTo k s.script) hand inv.keeps_to in
    let found = slice_get_in s.slots.slots c.in-Submit.slot (omega (arith, keeps.0, inv.uses)) in
    let going = false_from_ne_true (k.over s.script) (λ e. let end = inv.ends e in cc) in
    subst (λ w. k.over w.script ≡ false) c.self.view_is going

pub returns-else-not-ready-clause-happens : goal.returns-else-not-ready-clause-happens
returns-else-not-ready-clause-happens g c = λ yes'.
    let m = g.S.Gear.Engine.meaning in let k = g.S.Script.conduct in
    let s = c.self.inside in
    let inv = c.self.invariant.0 in
    let hand : s.hand ≡ Settle c.in-Settle.slot = sym c.replace.ensures.value ∙ c.in-Settle.is in
    let keeps = subst (KeepsTo k s.script) hand inv.keeps_to in
    let found = slice_get_in s.slots.slots c.in-Settle.slot (omega (arith, keeps.0, inv.uses)) in
    let can = sym (c.ready.ensures found.0 found.1) ∙ c.if-not-ready.false in
    subst (λ w. Happens m k Script w (record { start = s.start.value; script = c.ask-in-Settle.new.self; hand = c.ask-in-Settle.result; rack = c.tell-told.new.self; workers = s.workers.items })) c.self.view_is
    (subst (λ h. ServesAsk m k h (record { start = s.start.value; script = s.script; hand = s.hand; rack = s.slots; workers = s.workers.items }) (record { start = s.start.value; script = c.ask-in-Settle.new.self; hand = c.ask-in-Settle.result; rack = c.tell-told.new.self; workers = s.workers.items })) (sym hand) (record {
      ledger = found.0;
      found = found.1;
      ready = can;
      told = c.tell-told.result;
      tells = c.tell-told.ensures.told found.0 found.1;
      after = c.tell-told.ensures.after found.0 found.1;
      script = c.told.new.self;
      hears = c.told.ensures;
      asks = c.ask-in-Settle.ensures.asks;
      workers = refl;
    }))

pub returns-else-not-ready-clause-keeps : goal.returns-else-not-ready-clause-keeps
returns-else-not-ready-clause-keeps g c = λ yes'.
    let m = g.S.Gear.Engine.meaning in let k = g.S.Script.conduct in
    let s = c.self.inside in
    let inv = c.self.invariant.0 in
    let hand : s.hand ≡ Settle c.in-Settle.slot = sym c.replace.ensures.value ∙ c.in-Settle.is in
    let keeps = subst (KeepsTo k s.script) hand inv.keeps_to in
    let found = slice_get_in s.slots.slots c.in-Settle.slot (omega (arith, keeps.0, inv.uses)) in
    let can = sym (c.ready.ensures found.0 found.1) ∙ c.if-not-ready.false in
    subst (λ w. Keeps m k w (record { start = s.start.value; script = c.ask-in-Settle.new.self; hand = c.ask-in-Settle.result; rack = c.tell-told.new.self; workers = s.workers.items })) c.self.view_is
    (tell_keeps_all m k (record { start = s.start.value; script = s.script; hand = s.hand; rack = s.slots; workers = s.workers.items }) (record { start = s.start.value; script = c.ask-in-Settle.new.self; hand = c.ask-in-Settle.result; rack = c.tell-told.new.self; workers = s.workers.items }) c.in-Settle.slot inv hand (record {
      ledger = found.0;
      found = found.1;
      ready = can;
      told = c.tell-told.result;
      tells = c.tell-told.ensures.told found.0 found.1;
      after = c.tell-told.ensures.after found.0 found.1;
      script = c.told.new.self;
      hears = c.told.ensures;
      asks = c.ask-in-Settle.ensures.asks;
      workers = refl;
    }) c.tell-told.ensures.spare)

pub returns-else-not-ready-clause-going : goal.returns-else-not-ready-clause-going
returns-else-not-ready-clause-going g c = λ yes'.
    let m = g.S.Gear.Engine.meaning in let k = g.S.Script.conduct in
    let s = c.self.inside in
    let inv = c.self.invariant.0 in
    let hand : s.hand ≡ Settle c.in-Settle.slot = sym c.replace.ensures.value ∙ c.in-Settle.is in
    let keeps = subst (KeepsTo k s.script) hand inv.keeps_to in
    let found = slice_get_in s.slots.slots c.in-Settle.slot (omega (arith, keeps.0, inv.uses)) in
    let can = sym (c.ready.ensures found.0 found.1) ∙ c.if-not-ready.false in
    let going = false_from_ne_true (k.over s.script) (λ e. let end = inv.ends e in cc) in
    subst (λ w. k.over w.script ≡ false) c.self.view_is going
