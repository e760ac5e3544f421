use Rattle.std.proofs.Common.{◌≡◌, ℕ, length, Option, refl, sym, ap, ◌∙◌, subst, arith, rules}
use borrow.Author.Rules.{rules, lives}
use Rattle.fj_world.specs.Plain.{asked_next}
use Rattle.fj_crew.specs.Plan.{Opened, Shut, plan_at}
use Rattle.fj_crew.proofs.Looking.{on_ok, on_err}
use Rattle.fj_crew.proofs.Liking.{opened_like}
use Rattle.fj_crew.proofs.Planning.{plan_sound, planned_or_not, begun_from, ends_alone, ends_lost, slots_told, opened_begins, opened_answered, closed_home, back_home, back_long, back_numbers, back_counted, back_fits, plan_names}
use Rattle.fj_crew.proofs.Closing.{numbers_go_on, counted_at_last, some_stopped, owes_at_last, goes_on_at_last}
use Rattle.fj_crew.proofs.crew.run_crew.Goals as goal

pub open-requires : goal.open-requires
open-requires g c κs within =
    let m = g.S.Gear.Engine.meaning in let k = g.S.Script.conduct in
    let sound = plan_sound m k c.args.script.now c.args.slots.slots c.requires.sound c.requires.counted in
    search (rules, lives, within.0, within.1, sound) depth 40 fits 40000

pub employ-queues-requires-clause-can : goal.employ-queues-requires-clause-can
employ-queues-requires-clause-can g c κs within =
    let m = g.S.Gear.Engine.meaning in let con = g.S.Script.conduct in
    let opened = subst (λ z. Opened (plan_at m con c.args.script.now c.args.slots.slots) c.args.slots.slots z c.open.new.seats.items) c.in-Ok.ensures.all c.in-Ok.ensures.opened in
    let seats = c.open.new.seats.items in
    let long : length seats ≡ length c.args.slots.slots = opened.same ∙ sym (ap length opened.is) in
    record {
      idle = c.requires.idle;
      uses = omega (arith, c.requires.uses, long);
      few = λ k x e.
          let b = opened_begins (plan_at m con c.args.script.now c.args.slots.slots) c.args.slots.slots seats opened k x e in
          omega (arith, b.2.sent_is, c.requires.few k b.0 b.1);
      owed = λ k x used e.
          let b = opened_begins (plan_at m con c.args.script.now c.args.slots.slots) c.args.slots.slots seats opened k x e in
          omega (arith, b.2.sent_is, b.2.heard_is, c.requires.owed k b.0 used b.1);
      paired = c.in-Ok.ensures.paired;
      planned = planned_or_not m con c.args.script.now c.args.slots.slots seats opened;
    }

pub returns-in-Ok-done-clause-home : goal.returns-in-Ok-done-clause-home
returns-in-Ok-done-clause-home g c =
    let m = g.S.Gear.Engine.meaning in
    let seats = c.employ-queues.new.seats.items in
    closed_home m seats c.shut.new.slots.slots (subst (λ z. Shut m z seats c.shut.new.slots.slots) c.in-Ok.ensures.all c.shut.ensures.shut)

pub returns-in-Ok-done-clause-alone : goal.returns-in-Ok-done-clause-alone
returns-in-Ok-done-clause-alone g c = λ s qs state on fits.
    let m = g.S.Gear.Engine.meaning in let con = g.S.Script.conduct in
    let opened = subst (λ z. Opened (plan_at m con c.args.script.now c.args.slots.slots) c.args.slots.slots z c.open.new.seats.items) c.in-Ok.ensures.all c.in-Ok.ensures.opened in
    let seats = c.employ-queues.new.seats.items in
    let served = on_ok c.employ-queues.result.1 c.in-Ok-done.field-0 c.in-Ok-done.is c.employ-queues.ensures.served in
    let shut = subst (λ z. Shut m z seats c.shut.new.slots.slots) c.in-Ok.ensures.all c.shut.ensures.shut in
    let b = begun_from m con c.args.script.now c.args.slots.slots c.open.new.seats.items s qs state (slots_told m c.args.slots.slots qs fits.same fits.each) opened in
    let all = opened_answered m (plan_at m con c.args.script.now c.args.slots.slots) c.args.slots c.open.new.seats.items qs opened fits in
    ends_alone m con (asked_next m con s qs) (con.left c.args.script.now) c.employ-queues.new.script c.open.new.seats.items seats c.shut.new.slots b.planned served.same (served.alone b) on all shut

pub returns-in-Ok-done-clause-gave_up : goal.returns-in-Ok-done-clause-gave_up
returns-in-Ok-done-clause-gave_up g c = λ s qs state on start fits over.
    let m = g.S.Gear.Engine.meaning in let con = g.S.Script.conduct in
    let opened = subst (λ z. Opened (plan_at m con c.args.script.now c.args.slots.slots) c.args.slots.slots z c.open.new.seats.items) c.in-Ok.ensures.all c.in-Ok.ensures.opened in
    let seats = c.employ-queues.new.seats.items in
    let served = on_ok c.employ-queues.result.1 c.in-Ok-done.field-0 c.in-Ok-done.is c.employ-queues.ensures.served in
    let shut = subst (λ z. Shut m z seats c.shut.new.slots.slots) c.in-Ok.ensures.all c.shut.ensures.shut in
    let b = begun_from m con c.args.script.now c.args.slots.slots c.open.new.seats.items s qs state (slots_told m c.args.slots.slots qs fits.same fits.each) opened in
    let all = opened_answered m (plan_at m con c.args.script.now c.args.slots.slots) c.args.slots c.open.new.seats.items qs opened fits in
    ends_lost m con s qs (con.left c.args.script.now) c.args.script.now c.employ-queues.new.script c.open.new.seats.items seats c.shut.new.slots b.planned served.same (served.gave_up b start over) all shut

pub returns-in-Err-done-clause-lost : goal.returns-in-Err-done-clause-lost
returns-in-Err-done-clause-lost g c =
    let m = g.S.Gear.Engine.meaning in let con = g.S.Script.conduct in
    let plans : ℕ → Option _ = plan_at m con c.args.script.now c.args.slots.slots in
    let seats = c.employ-queues.new.seats.items in
    let not_served = on_err c.employ-queues.result.1 c.in-Err-done.error c.in-Err-done.is c.employ-queues.ensures.not_served in
    let opened = opened_like plans c.args.slots.slots c.open.new.slots.slots c.open.new.seats.items seats c.in-Ok.ensures.opened not_served.1 c.employ-queues.ensures.hands in (
      not_served.0,
      back_home m plans c.args.slots.slots c.open.new.slots.slots c.shut.new.slots.slots seats opened c.shut.ensures.shut c.requires.home,
      record {
        long = back_long m plans c.args.slots.slots c.open.new.slots.slots c.shut.new.slots.slots seats opened c.shut.ensures.shut;
        spare = omega (arith, c.in-Ok.ensures.spare, c.shut.ensures.spare, not_served.1.long);
        each = back_numbers m plans c.args.slots.slots c.open.new.slots.slots c.shut.new.slots.slots seats opened c.shut.ensures.shut (plan_names m con c.args.script.now c.args.slots.slots);
      },
    )

pub returns-in-Err-done-clause-lost_sound : goal.returns-in-Err-done-clause-lost_sound
returns-in-Err-done-clause-lost_sound g c = λ s qs state fits.
    let m = g.S.Gear.Engine.meaning in let con = g.S.Script.conduct in
    let seats = c.employ-queues.new.seats.items in
    let not_served = on_err c.employ-queues.result.1 c.in-Err-done.error c.in-Err-done.is c.employ-queues.ensures.not_served in
    let opened = opened_like (plan_at m con c.args.script.now c.args.slots.slots) c.args.slots.slots c.open.new.slots.slots c.open.new.seats.items seats c.in-Ok.ensures.opened not_served.1 c.employ-queues.ensures.hands in
    back_fits m con c.args.script.now c.args.slots c.shut.new.slots c.open.new.slots.slots seats s qs state fits opened c.shut.ensures.shut

pub returns-in-Err-open-clause-lost : goal.returns-in-Err-open-clause-lost
returns-in-Err-open-clause-lost g c =
    let m = g.S.Gear.Engine.meaning in let con = g.S.Script.conduct in
    let plans : ℕ → Option _ = plan_at m con c.args.script.now c.args.slots.slots in (
      refl,
      back_home m plans c.args.slots.slots c.open.new.slots.slots c.shut-in-Err-open.new.slots.slots c.open.new.seats.items c.in-Err-open.ensures.opened c.shut-in-Err-open.ensures.shut c.requires.home,
      record {
        long = back_long m plans c.args.slots.slots c.open.new.slots.slots c.shut-in-Err-open.new.slots.slots c.open.new.seats.items c.in-Err-open.ensures.opened c.shut-in-Err-open.ensures.shut;
        spare = omega (arith, c.in-Err-open.ensures.spare, c.shut-in-Err-open.ensures.spare);
        each = back_numbers m plans c.args.slots.slots c.open.new.slots.slots c.shut-in-Err-open.new.slots.slots c.open.new.seats.items c.in-Err-open.ensures.opened c.shut-in-Err-open.ensures.shut (plan_names m con c.args.script.now c.args.slots.slots);
      },
    )

pub returns-in-Err-open-clause-lost_sound : goal.returns-in-Err-open-clause-lost_sound
returns-in-Err-open-clause-lost_sound g c = λ s qs state fits.
    let m = g.S.Gear.Engine.meaning in let con = g.S.Script.conduct in
    back_fits m con c.args.script.now c.args.slots c.shut-in-Err-open.new.slots c.open.new.slots.slots c.open.new.seats.items s qs state fits c.in-Err-open.ensures.opened c.shut-in-Err-open.ensures.shut

pub returns-in-Ok-done-clause-keeps : goal.returns-in-Ok-done-clause-keeps
returns-in-Ok-done-clause-keeps g c =
    let m = g.S.Gear.Engine.meaning in let con = g.S.Script.conduct in
    let plans : ℕ → Option _ = plan_at m con c.args.script.now c.args.slots.slots in
    let opened = subst (λ z. Opened plans c.args.slots.slots z c.open.new.seats.items) c.in-Ok.ensures.all c.in-Ok.ensures.opened in
    let seats = c.employ-queues.new.seats.items in
    let served = on_ok c.employ-queues.result.1 c.in-Ok-done.field-0 c.in-Ok-done.is c.employ-queues.ensures.served in
    let shut = subst (λ z. Shut m z seats c.shut.new.slots.slots) c.in-Ok.ensures.all c.shut.ensures.shut in
    numbers_go_on m plans c.args.slots c.shut.new.slots c.open.new.seats.items seats opened served.same shut (plan_names m con c.args.script.now c.args.slots.slots) (omega (arith, c.in-Ok.ensures.spare, c.shut.ensures.spare, served.same.long))

pub returns-in-Ok-done-clause-owed : goal.returns-in-Ok-done-clause-owed
returns-in-Ok-done-clause-owed g c =
    let m = g.S.Gear.Engine.meaning in let con = g.S.Script.conduct in
    let seats = c.employ-queues.new.seats.items in
    let served = on_ok c.employ-queues.result.1 c.in-Ok-done.field-0 c.in-Ok-done.is c.employ-queues.ensures.served in
    let shut = subst (λ z. Shut m z seats c.shut.new.slots.slots) c.in-Ok.ensures.all c.shut.ensures.shut in
    owes_at_last m con c.employ-queues.new.script seats c.shut.new.slots shut served.owed

pub returns-in-Ok-done-clause-again : goal.returns-in-Ok-done-clause-again
returns-in-Ok-done-clause-again g c =
    let m = g.S.Gear.Engine.meaning in let con = g.S.Script.conduct in
    let seats = c.employ-queues.new.seats.items in
    let served = on_ok c.employ-queues.result.1 c.in-Ok-done.field-0 c.in-Ok-done.is c.employ-queues.ensures.served in
    let shut = subst (λ z. Shut m z seats c.shut.new.slots.slots) c.in-Ok.ensures.all c.shut.ensures.shut in
    goes_on_at_last m con c.args.script.now c.employ-queues.new.script seats c.shut.new.slots shut served.again

pub returns-in-Ok-done-clause-stopped : goal.returns-in-Ok-done-clause-stopped
returns-in-Ok-done-clause-stopped g c = λ was is.
    let m = g.S.Gear.Engine.meaning in
    let seats = c.employ-queues.new.seats.items in
    let served = on_ok c.employ-queues.result.1 c.in-Ok-done.field-0 c.in-Ok-done.is c.employ-queues.ensures.served in
    let shut = subst (λ z. Shut m z seats c.shut.new.slots.slots) c.in-Ok.ensures.all c.shut.ensures.shut in
    some_stopped m seats c.shut.new.slots shut (served.stopped was is)

pub returns-in-Ok-done-clause-counted : goal.returns-in-Ok-done-clause-counted
returns-in-Ok-done-clause-counted g c =
    let m = g.S.Gear.Engine.meaning in let con = g.S.Script.conduct in
    let plans : ℕ → Option _ = plan_at m con c.args.script.now c.args.slots.slots in
    let opened = subst (λ z. Opened plans c.args.slots.slots z c.open.new.seats.items) c.in-Ok.ensures.all c.in-Ok.ensures.opened in
    let seats = c.employ-queues.new.seats.items in
    let served = on_ok c.employ-queues.result.1 c.in-Ok-done.field-0 c.in-Ok-done.is c.employ-queues.ensures.served in
    let shut = subst (λ z. Shut m z seats c.shut.new.slots.slots) c.in-Ok.ensures.all c.shut.ensures.shut in
    counted_at_last m plans c.args.slots.slots c.shut.new.slots.slots c.open.new.seats.items seats opened served.same shut (plan_names m con c.args.script.now c.args.slots.slots)

pub returns-in-Err-done-clause-lost_counted : goal.returns-in-Err-done-clause-lost_counted
returns-in-Err-done-clause-lost_counted g c =
    let m = g.S.Gear.Engine.meaning in let con = g.S.Script.conduct in
    let plans : ℕ → Option _ = plan_at m con c.args.script.now c.args.slots.slots in
    let seats = c.employ-queues.new.seats.items in
    let not_served = on_err c.employ-queues.result.1 c.in-Err-done.error c.in-Err-done.is c.employ-queues.ensures.not_served in
    let opened = opened_like plans c.args.slots.slots c.open.new.slots.slots c.open.new.seats.items seats c.in-Ok.ensures.opened not_served.1 c.employ-queues.ensures.hands in
    back_counted m plans c.args.slots.slots c.open.new.slots.slots c.shut.new.slots.slots seats opened c.shut.ensures.shut (plan_names m con c.args.script.now c.args.slots.slots) c.requires.counted

pub returns-in-Err-open-clause-lost_counted : goal.returns-in-Err-open-clause-lost_counted
returns-in-Err-open-clause-lost_counted g c =
    let m = g.S.Gear.Engine.meaning in let con = g.S.Script.conduct in
    let plans : ℕ → Option _ = plan_at m con c.args.script.now c.args.slots.slots in
    back_counted m plans c.args.slots.slots c.open.new.slots.slots c.shut-in-Err-open.new.slots.slots c.open.new.seats.items c.in-Err-open.ensures.opened c.shut-in-Err-open.ensures.shut (plan_names m con c.args.script.now c.args.slots.slots) c.requires.counted

pub returns-in-Ok-done-clause-leads : goal.returns-in-Ok-done-clause-leads
returns-in-Ok-done-clause-leads g c = (on_ok c.employ-queues.result.1 c.in-Ok-done.field-0 c.in-Ok-done.is c.employ-queues.ensures.served).leads
