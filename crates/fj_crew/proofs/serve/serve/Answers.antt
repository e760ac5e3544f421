use Rattle.std.proofs.Common.{◌≡◌, length, sym, ap, ◌∙◌, subst, arith}
use Rattle.std.proofs.lemmas.List.{length-set}
use Rattle.std.proofs.lemmas.Bool.{false_from_ne_true}
use Rattle.fj_world.proofs.Leads.{led_once, led_twice}
use Rattle.fj_world.specs.declared.ask.Ask.TheVariants.{Submit, Settle, Finished}
use Rattle.fj_world.specs.Conduct.{KeepsTo, IsDueAsk}
use Rattle.fj_world.specs.Plain.{asked_next}
use Rattle.fj_queue.specs.Knows.{knows}
use Rattle.fj_world.proofs.Places.{slice_get_in}
use Rattle.fj_crew.proofs.Serving.{same_set, same_itself, submit_goes, settle_goes, sent_at_most, kept_by, first_goes, few_on, submit_owes, settle_owes, submit_answers, settle_answers, submit_told, settle_told, is_next}
use Rattle.fj_crew.proofs.GivingUp.{first_gave_up, submit_gave_up, settle_gave_up}
use Rattle.fj_crew.proofs.serve.serve.Goals as goal

pub loop-slot-init : goal.loop-slot-init
loop-slot-init g c =
    let m = g.S.Gear.Engine.meaning in let k = g.S.Script.conduct in
    let asks = c.ask-hand.ensures.asks in
    record {
      serves = c.requires.serves;
      due = asks.due;
      keeps_to = asks.keeps_to;
      gives = c.ask-hand.ensures.gives;
      as_many = asks.uses;
      ends = asks.ends;
      uses = omega (arith, asks.uses, c.requires.uses);
      few = λ at s e. omega (arith, c.requires.few at s e, asks.left);
      owed = λ at s used e. omega (arith, c.requires.owed at s (omega (arith, used, asks.uses)) e, asks.owed at);
      paired = c.requires.paired;
      same = same_itself c.args.seats.now.items;
      answered = λ all _. all;
      stopped = λ was is. absurd (let o = (asks.stops is).0 in cc);
      leads = led_once k.leads c.args.script.now c.ask-hand.new.self asks.leads;
      gave_up = λ b start over. first_gave_up m k c.args.script.now c.ask-hand.new.self c.ask-hand.result c.args.seats.now.items b (λ all. all) c.requires.idle start asks over;
      goes = λ b. first_goes m k c.args.script.now c.ask-hand.new.self c.ask-hand.result c.args.seats.now.items b asks (λ all. all);
    }

pub submit_at-number-requires-clause-next : goal.submit_at-number-requires-clause-next
submit_at-number-requires-clause-next g c =
    let m = g.S.Gear.Engine.meaning in let k = g.S.Script.conduct in
    let inv = c.loop-slot.invariant in
    let hand : c.loop-slot.hand ≡ Submit c.in-Submit.slot c.in-Submit.job = sym c.replace.ensures.value ∙ c.in-Submit.is in
    let keeps = subst (KeepsTo k c.loop-slot.script) hand inv.keeps_to in
    let going = false_from_ne_true (k.over c.loop-slot.script) (λ e. let end = inv.ends e in cc) in
    is_next m k c.args.script.now c.loop-slot.script c.loop-slot.hand c.args.seats.now.items c.loop-slot.seats.items c.in-Submit.slot c.in-Submit.job
    c.requires.planned inv.same inv.goes going keeps.1 hand

pub loop-slot-preserved-in-Submit : goal.loop-slot-preserved-in-Submit
loop-slot-preserved-in-Submit g c =
    let m = g.S.Gear.Engine.meaning in let k = g.S.Script.conduct in
    let inv = c.loop-slot.invariant in
    let asks = c.ask-hand-in-Submit.ensures.asks in
    let old = c.loop-slot.seats.items in
    let new = c.submit_at-number.new.seats.items in
    let hand : c.loop-slot.hand ≡ Submit c.in-Submit.slot c.in-Submit.job = sym c.replace.ensures.value ∙ c.in-Submit.is in
    let keeps = subst (KeepsTo k c.loop-slot.script) hand inv.keeps_to in
    let due = subst (IsDueAsk (k.due c.loop-slot.script)) hand inv.due in
    let going = false_from_ne_true (k.over c.loop-slot.script) (λ e. let end = inv.ends e in cc) in
    let found = slice_get_in old c.in-Submit.slot (omega (arith, keeps.0, inv.uses)) in
    let did = c.submit_at-number.ensures.submits in
    let sends = did.sends found.0 found.1 in
    let kept = kept_by (knows found.0) (knows did.seat) c.submit_at-number.result sends in
    record {
      serves = inv.serves;
      due = asks.due;
      keeps_to = asks.keeps_to;
      gives = c.ask-hand-in-Submit.ensures.gives;
      as_many = asks.uses ∙ c.took.ensures.uses ∙ inv.as_many;
      ends = asks.ends;
      uses = omega (arith, inv.uses, c.took.ensures.uses, asks.uses, ap length did.after, length-set old c.in-Submit.slot did.seat);
      few = few_on m k c.loop-slot.script c.took.new.self c.ask-hand-in-Submit.new.self old new c.in-Submit.slot found.0 did.seat inv.few found.1 did.after
          (sent_at_most (knows found.0) (knows did.seat) c.submit_at-number.result sends) c.took.ensures.left asks.left;
      owed = submit_owes m k c.loop-slot.script c.took.new.self c.ask-hand-in-Submit.new.self c.ask-hand-in-Submit.result old new c.in-Submit.slot c.submit_at-number.result found.0
          inv.owed due found.1 did c.took.ensures asks;
      paired = c.submit_at-number.ensures.paired;
      same = same_set c.args.seats.now.items old new c.in-Submit.slot found.0 did.seat found.1 did.after kept.0 kept.1 kept.3 kept.4 inv.same;
      answered = λ all _. submit_answers m k old new c.in-Submit.slot c.submit_at-number.result found.0 (inv.answered all going) found.1 did;
      leads = led_twice k.leads c.args.script.now c.loop-slot.script c.took.new.self c.ask-hand-in-Submit.new.self inv.leads c.took.ensures.leads asks.leads;
      stopped = λ was is. submit_told m k c.loop-slot.script c.took.new.self c.ask-hand-in-Submit.new.self c.ask-hand-in-Submit.result new c.submit_at-number.result (λ e. (inv.stopped was e).0) going c.took.ensures asks is;
      gave_up = λ b start over. submit_gave_up m k b.state b.slots (k.left c.args.script.now) c.args.script.now c.loop-slot.script c.took.new.self c.ask-hand-in-Submit.new.self c.loop-slot.hand c.ask-hand-in-Submit.result
          old new c.in-Submit.slot c.in-Submit.job c.submit_at-number.result found.0 inv.leads (inv.goes b) going hand due found.1 did c.took.ensures asks over;
      goes = λ b. submit_goes m k (asked_next m k b.state b.slots) (k.left c.args.script.now) c.loop-slot.script c.took.new.self c.ask-hand-in-Submit.new.self c.loop-slot.hand c.ask-hand-in-Submit.result
          old new c.in-Submit.slot c.in-Submit.job c.submit_at-number.result found.0 (inv.goes b) going hand found.1 did c.took.ensures asks;
    }

pub loop-slot-preserved : goal.loop-slot-preserved
loop-slot-preserved g c =
    let m = g.S.Gear.Engine.meaning in let k = g.S.Script.conduct in
    let inv = c.loop-slot.invariant in
    let asks = c.ask-hand-in-Settle.ensures.asks in
    let old = c.loop-slot.seats.items in
    let new = c.settle_at-told.new.seats.items in
    let hand : c.loop-slot.hand ≡ Settle c.in-Settle.slot = sym c.replace.ensures.value ∙ c.in-Settle.is in
    let keeps = subst (KeepsTo k c.loop-slot.script) hand inv.keeps_to in
    let due = subst (IsDueAsk (k.due c.loop-slot.script)) hand inv.due in
    let going = false_from_ne_true (k.over c.loop-slot.script) (λ e. let end = inv.ends e in cc) in
    let found = slice_get_in old c.in-Settle.slot (omega (arith, keeps.0, inv.uses)) in
    let did = c.settle_at-told.ensures.settles in
    let numbers = did.numbers found.0 found.1 in
    let owes = inv.owed c.in-Settle.slot found.0 keeps.0 found.1 in
    record {
      serves = c.settle_at-told.ensures.serves;
      due = asks.due;
      keeps_to = asks.keeps_to;
      gives = c.ask-hand-in-Settle.ensures.gives;
      as_many = asks.uses ∙ c.told.ensures.uses ∙ inv.as_many;
      ends = asks.ends;
      uses = omega (arith, inv.uses, c.told.ensures.uses, asks.uses, ap length did.after, length-set old c.in-Settle.slot did.seat);
      few = few_on m k c.loop-slot.script c.told.new.self c.ask-hand-in-Settle.new.self old new c.in-Settle.slot found.0 did.seat inv.few found.1 did.after
          (omega (arith, numbers.sent_is)) c.told.ensures.left asks.left;
      owed = settle_owes m k c.loop-slot.script c.told.new.self c.ask-hand-in-Settle.new.self c.ask-hand-in-Settle.result old new c.in-Settle.slot c.settle_at-told.result found.0
          inv.owed due keeps.2 found.1 did c.told.ensures asks;
      paired = c.settle_at-told.ensures.paired;
      same = same_set c.args.seats.now.items old new c.in-Settle.slot found.0 did.seat found.1 did.after numbers.plan numbers.hands_is (omega (arith, numbers.sent_is)) (omega (arith, numbers.heard_is)) inv.same;
      answered = λ all on. settle_answers m k c.loop-slot.script c.told.new.self c.ask-hand-in-Settle.new.self c.ask-hand-in-Settle.result old new c.in-Settle.slot c.settle_at-told.result found.0 (inv.answered all going) found.1 did c.told.ensures asks on;
      leads = led_twice k.leads c.args.script.now c.loop-slot.script c.told.new.self c.ask-hand-in-Settle.new.self inv.leads c.told.ensures.leads asks.leads;
      stopped = λ was is. settle_told m k c.loop-slot.script c.told.new.self c.ask-hand-in-Settle.new.self c.ask-hand-in-Settle.result old new c.in-Settle.slot c.settle_at-told.result found.0 found.1 did c.told.ensures asks is;
      gave_up = λ b start over. settle_gave_up m k b.state b.slots (k.left c.args.script.now) c.args.seats.now.items c.args.script.now c.loop-slot.script c.told.new.self c.ask-hand-in-Settle.new.self c.loop-slot.hand c.ask-hand-in-Settle.result
          old new c.in-Settle.slot c.settle_at-told.result found.0 b.planned inv.same inv.leads (inv.goes b) going keeps.1 hand due found.1 (omega (arith, owes, keeps.2)) (λ all. inv.answered all going c.in-Settle.slot found.0 found.1) did c.told.ensures asks over;
      goes = λ b. settle_goes m k (asked_next m k b.state b.slots) (k.left c.args.script.now) c.args.seats.now.items c.loop-slot.script c.told.new.self c.ask-hand-in-Settle.new.self c.loop-slot.hand c.ask-hand-in-Settle.result
          old new c.in-Settle.slot c.settle_at-told.result found.0 b.planned inv.same (inv.goes b) going keeps.1 hand found.1 (omega (arith, owes, keeps.2)) (λ all. inv.answered all going c.in-Settle.slot found.0 found.1) did c.told.ensures asks;
    }

pub returns-in-Finished-clause-again : goal.returns-in-Finished-clause-again
returns-in-Finished-clause-again g c =
    let k = g.S.Script.conduct in
    let hand : c.loop-slot.hand ≡ Finished = sym c.replace.ensures.value ∙ c.in-Finished.is in
    record {
      idle = subst (IsDueAsk (k.due c.loop-slot.script)) hand c.loop-slot.invariant.due;
      uses = c.loop-slot.invariant.as_many;
      few = c.loop-slot.invariant.few;
    }
