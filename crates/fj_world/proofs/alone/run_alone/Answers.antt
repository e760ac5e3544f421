use Rattle.std.proofs.Common.{◌≡◌, [], length, refl, sym, ap, ◌∙◌, subst, arith}
use Rattle.std.proofs.lemmas.List.{length-set}
use Rattle.std.proofs.lemmas.Bool.{false_from_ne_true}
use Rattle.fj_slot.specs.Ledger.{with_tell}
use Rattle.fj_world.specs.declared.ask.Ask.TheVariants.{Submit, Settle, Finished}
use Rattle.fj_world.specs.Conduct.{KeepsTo, IsDueAsk}
use Rattle.fj_world.specs.Plain.{asked_next, after}
use Rattle.fj_world.specs.Fits.{Fits}
use Rattle.fj_world.proofs.Leads.{led_once, led_twice}
use Rattle.fj_world.proofs.Order.{serve_orderly, submit_alike}
use Rattle.fj_world.proofs.Fitting.{submit_advances}
use Rattle.fj_world.proofs.Runs.{begins_orderly, begins_fitting}
use Rattle.fj_world.proofs.AloneSteps.{alone_orderly, set_few, set_home, owes_settle, settle_alone, turns, restart, submit_owed, submit_home}
use Rattle.fj_slot.proofs.Counted.{counted_tell}
use Rattle.fj_world.proofs.Kept.{all_go_itself, all_go_on_and_on, all_go_set, goes_same, counted_set, submit_counted, submit_stopped, told_stopped}
use Rattle.fj_world.proofs.Places.{slice_get_in}
use Rattle.fj_world.proofs.Losing.{first_lost, submit_lost, settle_lost}
use Rattle.fj_world.proofs.alone.run_alone.Goals as goal

pub loop-slot-init : goal.loop-slot-init
loop-slot-init g c =
    let m = g.S.Gear.Engine.meaning in let k = g.S.Script.conduct in
    let asks = c.ask-hand.ensures.asks in
    let first = begins_orderly m k c.args.script.now c.ask-hand.new.self c.ask-hand.result c.args.slots.now [] 0 c.requires.uses c.requires.few asks refl in
    record {
      orderly = record { due = first.due; keeps_to = first.keeps_to; ends = first.ends; uses = first.uses; few = first.few; held = first.held; apart = first.apart };
      gives = c.ask-hand.ensures.gives;
      uses = asks.uses;
      keeps = all_go_itself c.args.slots.now;
      stopped = λ on e. absurd (let o = (asks.stops e).0 in cc);
      counted = λ all. all;
      owed = λ at l used e. omega (arith, c.requires.owed at l (omega (arith, used, asks.uses)) e, asks.owed at);
      home = c.requires.home;
      leads = led_once k.leads c.args.script.now c.ask-hand.new.self asks.leads;
      gave_up = λ s qs state on start fit over. first_lost m k s qs c.args.script.now c.ask-hand.new.self c.ask-hand.result c.args.slots.now state c.requires.idle start fit asks over;
      fits = λ s qs state on fit. (
        0,
        restart m k (asked_next m k s qs) c.args.script.now c.ask-hand.new.self c.ask-hand.new.self c.ask-hand.result c.args.slots.now
            (begins_fitting m k c.args.script.now c.ask-hand.new.self c.ask-hand.result c.args.slots.now [] 0 s qs asks refl state on fit),
      );
    }

pub loop-slot-preserved-in-Submit : goal.loop-slot-preserved-in-Submit
loop-slot-preserved-in-Submit g c =
    let m = g.S.Gear.Engine.meaning in let k = g.S.Script.conduct in
    let inv = c.loop-slot.invariant in
    let asks = c.ask-hand-in-Submit.ensures.asks in
    let hand : c.loop-slot.hand ≡ Submit c.in-Submit.slot c.in-Submit.job = sym c.replace.ensures.value ∙ c.in-Submit.is in
    let keeps = subst (KeepsTo k c.loop-slot.script) hand inv.orderly.keeps_to in
    let due = subst (IsDueAsk (k.due c.loop-slot.script)) hand inv.orderly.due in
    let found = slice_get_in c.loop-slot.slots.slots c.in-Submit.slot (omega (arith, keeps.0, inv.orderly.uses)) in
    let going = false_from_ne_true (k.over c.loop-slot.script) (λ e. let end = inv.orderly.ends e in cc) in
    let orderly = serve_orderly m k (record { start = c.loop-slot.script; script = c.loop-slot.script; hand = c.loop-slot.hand; rack = c.loop-slot.slots; workers = [] })
    c.took.new.self c.ask-hand-in-Submit.new.self c.ask-hand-in-Submit.result c.submit-number.new.self inv.orderly
    (submit_alike c.loop-slot.slots c.submit-number.new.self c.in-Submit.slot found.0 c.in-Submit.job c.submit-number.result found.1 (c.submit-number.ensures.after found.0 found.1) c.submit-number.ensures.err)
    c.took.ensures.left c.took.ensures.uses asks in
    let moves = submit_counted m k c.loop-slot.slots c.submit-number.new.self c.in-Submit.slot c.in-Submit.job found.0 c.submit-number.result found.1
    (c.submit-number.ensures.after found.0 found.1) c.submit-number.ensures.err c.submit-number.ensures.spare in
    record {
      orderly = record { due = orderly.due; keeps_to = orderly.keeps_to; ends = orderly.ends; uses = orderly.uses; few = orderly.few; held = orderly.held; apart = orderly.apart };
      gives = c.ask-hand-in-Submit.ensures.gives;
      uses = asks.uses ∙ c.took.ensures.uses ∙ inv.uses;
      keeps = all_go_on_and_on c.args.slots.now c.loop-slot.slots c.submit-number.new.self inv.keeps moves.0;
      stopped = λ on e. submit_stopped m k c.loop-slot.slots c.submit-number.new.self c.in-Submit.slot c.in-Submit.job found.0 c.submit-number.result found.1
          (c.submit-number.ensures.after found.0 found.1) c.submit-number.ensures.err (inv.stopped on (c.took.ensures.stops (asks.stops e).0));
      counted = λ all. moves.1 (inv.counted all);
      owed = submit_owed m k c.loop-slot.script c.took.new.self c.ask-hand-in-Submit.new.self c.ask-hand-in-Submit.result c.loop-slot.slots c.submit-number.new.self c.in-Submit.slot c.submit-number.result found.0 c.in-Submit.job
          inv.owed due found.1 (c.submit-number.ensures.after found.0 found.1) c.submit-number.ensures.err c.took.ensures asks;
      leads = led_twice k.leads c.args.script.now c.loop-slot.script c.took.new.self c.ask-hand-in-Submit.new.self inv.leads c.took.ensures.leads asks.leads;
      home = submit_home m k c.loop-slot.slots c.submit-number.new.self c.in-Submit.slot c.submit-number.result found.0 c.in-Submit.job inv.home found.1 (c.submit-number.ensures.after found.0 found.1) c.submit-number.ensures.err;
      gave_up = λ s qs state on start fit over.
          let before = inv.fits s qs state on fit in
          submit_lost m k s qs before.0 c.args.script.now c.loop-slot.script c.took.new.self c.ask-hand-in-Submit.new.self c.loop-slot.hand c.ask-hand-in-Submit.result c.loop-slot.slots c.submit-number.new.self
          c.in-Submit.slot c.in-Submit.job c.submit-number.result found.0 inv.leads before.1 going hand due found.1 (c.submit-number.ensures.ok found.0 found.1) (c.submit-number.ensures.after found.0 found.1) c.submit-number.ensures.err
          c.took.ensures asks over;
      fits = λ s qs state on fit.
          let before = inv.fits s qs state on fit in
          let moved = submit_advances m k (after m k before.0 (asked_next m k s qs)) (record { start = c.loop-slot.script; script = c.loop-slot.script; hand = c.loop-slot.hand; rack = c.loop-slot.slots; workers = [] })
          c.took.new.self c.ask-hand-in-Submit.new.self c.ask-hand-in-Submit.result c.submit-number.new.self c.in-Submit.slot c.in-Submit.job c.submit-number.result found.0
          before.1 going hand found.1 (c.submit-number.ensures.ok found.0 found.1) (c.submit-number.ensures.after found.0 found.1) c.submit-number.ensures.err c.took.ensures asks in
          let turned = turns m k (asked_next m k s qs) c.ask-hand-in-Submit.new.self (record { start = c.loop-slot.script; script = c.ask-hand-in-Submit.new.self; hand = c.ask-hand-in-Submit.result; rack = c.submit-number.new.self; workers = [] }) before.0 moved in
          (turned.0, restart m k (after m k turned.0 (asked_next m k s qs)) c.loop-slot.script c.ask-hand-in-Submit.new.self c.ask-hand-in-Submit.new.self c.ask-hand-in-Submit.result c.submit-number.new.self turned.1);
    }

pub loop-slot-preserved : goal.loop-slot-preserved
loop-slot-preserved g c =
    let m = g.S.Gear.Engine.meaning in let k = g.S.Script.conduct in
    let inv = c.loop-slot.invariant in
    let asks = c.ask-hand-in-Settle.ensures.asks in
    let hand : c.loop-slot.hand ≡ Settle c.in-Settle.slot = sym c.replace.ensures.value ∙ c.in-Settle.is in
    let keeps = subst (KeepsTo k c.loop-slot.script) hand inv.orderly.keeps_to in
    let due = subst (IsDueAsk (k.due c.loop-slot.script)) hand inv.orderly.due in
    let found = slice_get_in c.loop-slot.slots.slots c.in-Settle.slot (omega (arith, keeps.0, inv.orderly.uses)) in
    let going = false_from_ne_true (k.over c.loop-slot.script) (λ e. let end = inv.orderly.ends e in cc) in
    let settled = c.settle-told.ensures.settles found.0 found.1 in
    record {
      orderly = alone_orderly m k c.loop-slot.script c.told.new.self c.ask-hand-in-Settle.new.self c.loop-slot.hand c.ask-hand-in-Settle.result c.loop-slot.slots c.settle-told.new.slots inv.orderly
          (ap length settled.after ∙ length-set c.loop-slot.slots.slots c.in-Settle.slot (with_tell settled.ledger))
          (set_few m k c.loop-slot.slots.slots c.settle-told.new.slots.slots c.in-Settle.slot found.0 (with_tell settled.ledger) found.1 settled.after (omega (arith, ap length settled.serves.jobs)))
          c.told.ensures.left c.told.ensures.uses asks;
      stopped = λ on e. told_stopped m k c.loop-slot.slots c.settle-told.new.slots c.in-Settle.slot settled.ledger c.settle-told.result
          (omega (arith, keeps.0, inv.orderly.uses)) settled.after settled.tells (c.told.ensures.stops (asks.stops e).0).0;
      gives = c.ask-hand-in-Settle.ensures.gives;
      uses = asks.uses ∙ c.told.ensures.uses ∙ inv.uses;
      keeps = all_go_on_and_on c.args.slots.now c.loop-slot.slots c.settle-told.new.slots inv.keeps
          (all_go_set c.loop-slot.slots c.settle-told.new.slots c.in-Settle.slot found.0 (with_tell settled.ledger) found.1 settled.after c.settle-told.ensures.spare
          (goes_same found.0 (with_tell settled.ledger) settled.serves.start settled.serves.jobs settled.serves.done (omega (arith, settled.serves.told))));
      counted = λ all. counted_set m k c.loop-slot.slots c.settle-told.new.slots c.in-Settle.slot found.0 (with_tell settled.ledger) found.1 settled.after
          (λ was. counted_tell m settled.ledger (settled.serves.counted was) settled.ready) (inv.counted all);
      owed = owes_settle m k c.loop-slot.script c.told.new.self c.ask-hand-in-Settle.new.self c.ask-hand-in-Settle.result c.loop-slot.slots c.settle-told.new.slots c.in-Settle.slot found.0 settled.ledger c.settle-told.result
          inv.owed due keeps.2 found.1 settled.after settled.serves.told settled.serves.jobs c.told.ensures asks;
      leads = led_twice k.leads c.args.script.now c.loop-slot.script c.told.new.self c.ask-hand-in-Settle.new.self inv.leads c.told.ensures.leads asks.leads;
      home = set_home m k c.loop-slot.slots.slots c.settle-told.new.slots.slots c.in-Settle.slot (with_tell settled.ledger) settled.after settled.serves.home inv.home;
      gave_up = λ s qs state on start fit over.
          let before = inv.fits s qs state on fit in
          settle_lost m k s qs before.0 c.args.script.now c.loop-slot.script c.told.new.self c.ask-hand-in-Settle.new.self c.loop-slot.hand c.ask-hand-in-Settle.result c.loop-slot.slots c.settle-told.new.slots
          c.in-Settle.slot found.0 c.settle-told.result inv.leads before.1 going hand due found.1 settled c.told.ensures asks over;
      fits = λ s qs state on fit.
          let before = inv.fits s qs state on fit in
          let moved = settle_alone m k (after m k before.0 (asked_next m k s qs)) c.loop-slot.script c.told.new.self c.ask-hand-in-Settle.new.self c.loop-slot.hand c.ask-hand-in-Settle.result c.loop-slot.slots c.settle-told.new.slots
          c.in-Settle.slot found.0 c.settle-told.result before.1 going hand found.1 settled c.told.ensures asks in
          let turned = turns m k (asked_next m k s qs) c.ask-hand-in-Settle.new.self (record { start = c.loop-slot.script; script = c.ask-hand-in-Settle.new.self; hand = c.ask-hand-in-Settle.result; rack = c.settle-told.new.slots; workers = [] }) before.0 moved in
          (turned.0, restart m k (after m k turned.0 (asked_next m k s qs)) c.loop-slot.script c.ask-hand-in-Settle.new.self c.ask-hand-in-Settle.new.self c.ask-hand-in-Settle.result c.settle-told.new.slots turned.1);
    }

pub returns-in-Finished-clause-alone : goal.returns-in-Finished-clause-alone
returns-in-Finished-clause-alone g c = λ s qs state on fit.
    let m = g.S.Gear.Engine.meaning in let k = g.S.Script.conduct in
    let hand : c.loop-slot.hand ≡ Finished = sym c.replace.ensures.value ∙ c.in-Finished.is in
    let before = c.loop-slot.invariant.fits s qs state on fit in
    record {
      entries = before.0;
      fits = subst (λ h. Fits m k (after m k before.0 (asked_next m k s qs)) (record { start = c.loop-slot.script; script = c.loop-slot.script; hand = h; rack = c.loop-slot.slots; workers = [] })) hand before.1;
    }

pub returns-in-Finished-clause-again : goal.returns-in-Finished-clause-again
returns-in-Finished-clause-again g c =
    let k = g.S.Script.conduct in
    let hand : c.loop-slot.hand ≡ Finished = sym c.replace.ensures.value ∙ c.in-Finished.is in
    record {
      idle = subst (IsDueAsk (k.due c.loop-slot.script)) hand c.loop-slot.invariant.orderly.due;
      uses = c.loop-slot.invariant.uses;
      few = c.loop-slot.invariant.orderly.few;
    }
