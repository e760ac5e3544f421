-- What every event keeps of a world.
use Rattle.std.proofs.Common.{◌≡◌, ℕ, ◌+◌, ◌<◌, ◌≤◌, ◌^◌, Bool, true, ◌&&◌, List, [], ◌∷◌, length, Some, None, slice_get, set, Result, Ok, Err, IfOk, IfErr, OnErr, refl, sym, ap, ◌∙◌, subst, inl, inr, arith}
use Rattle.std.proofs.lemmas.List.{length-set, length-append}
use Rattle.std.proofs.lemmas.Bool.{cases_eq}
use Rattle.std.proofs.lemmas.Option.{slice_get_within}
use Rattle.fj_slot.specs.Ledger.{Ledger, with_job, with_tell, with_out, with_answer, with_halt, can_tell, can_begin}
use Rattle.fj_outside.specs.declared.errors.Stop.{Stop}
use Rattle.fj_slot.specs.declared.told.Refused.{Refused}
use Rattle.fj_world.specs.declared.ask.Ask.{Ask}
use Rattle.fj_world.specs.declared.ask.Ask.TheVariants.{Settle}
use Rattle.fj_world.specs.Steps.{can_serve, is_ready, is_free, is_waiting}
use Rattle.fj_world.specs.declared.busy.Busy.{Busy}
use Rattle.fj_slot.specs.Serving.{Meaning}
use Rattle.fj_world.specs.Conduct.{Conduct, Asks}
use Rattle.fj_world.specs.Rack.{Rack}
use Rattle.fj_world.specs.Scene.{Scene, IsOut, IsOrderly}
use Rattle.fj_slot.proofs.Counted.{may_begin}
use Rattle.fj_world.proofs.Places.{slice_get_set, set_same, set_other, slice_get_in, same_some}

-- the ledger has the same engine at home and as many jobs done, and at most one job more
pub record Alike {G J A : Type 0} (l l' : Ledger G J A) : Type 0 where
  pub home : l'.home ≡ l.home
  pub done : l'.done ≡ l.done
  pub few : length l'.jobs ≤ length l.jobs + 1

pub record AllAlike {G J A : Type 0} (slots slots' : List (Ledger G J A)) : Type 0 where
  pub long : length slots' ≡ length slots
  pub onward : (k : ℕ) (l : Ledger G J A) → slice_get slots k ≡ Some l → (l' : Ledger G J A) × (slice_get slots' k ≡ Some l') × Alike l l'

pub alike_itself : {G J A : Type 0} → (l : Ledger G J A) → Alike l l
alike_itself l = record { home = refl; done = refl; few = omega arith }

pub all_alike_same : {G J A : Type 0} → (slots : List (Ledger G J A)) → AllAlike slots slots
all_alike_same slots = record { long = refl; onward = λ k l e. (l, e, alike_itself l) }

pub all_alike_set : {G J A : Type 0} → (slots : List (Ledger G J A)) (at : ℕ) (l v : Ledger G J A) → slice_get slots at ≡ Some l → Alike l v → AllAlike slots (set slots at v)
all_alike_set slots at l v found alike = record {
  long = length-set slots at v;
  onward = λ k y e. elim (cases_eq k at) [
    | inl same ↦
        let here : slice_get slots at ≡ Some y = subst (λ n. slice_get slots n ≡ Some y) same e in
        let is : l ≡ y = same_some (sym found ∙ here) in
        (v, subst (λ n. slice_get (set slots at v) n ≡ Some v) (sym same) (set_same slots at v (slice_get_within slots at l found)), subst (λ z. Alike z v) is alike)
    | inr ne ↦ (y, set_other slots at k v ne ∙ e, alike_itself y)
  ];
}

pub back : {G J A : Type 0} → (slots slots' : List (Ledger G J A)) → AllAlike slots slots' → (k : ℕ) (l' : Ledger G J A) → slice_get slots' k ≡ Some l'
    → (l : Ledger G J A) × (slice_get slots k ≡ Some l) × Alike l l'
back slots slots' h k l' e =
    let inside = slice_get_within slots' k l' e in
    let found = slice_get_in slots k (omega (arith, inside, h.long)) in
    let on = h.onward k found.0 found.1 in
    let is : on.0 ≡ l' = same_some (sym on.1 ∙ e) in
    (found.0, found.1, subst (λ z. Alike found.0 z) is on.2)

pub out_stays : {G J A P T R : Type 0} → (rack rack' : Rack G J A) (busy : Busy G J A P T R) → AllAlike rack.slots rack'.slots → IsOut rack busy → IsOut rack' busy
out_stays rack rack' busy h out =
    let on = h.onward busy.slot out.ledger out.found in
    record { ledger = on.0; found = on.1; away = on.2.home ∙ out.away; number = out.number ∙ sym on.2.done }

-- the ask at hand was served, and the next one taken
pub serve_orderly : {S G J A P T R : Type 0} → (m : Meaning G J A P T R) (c : Conduct S T R) (w : Scene S G J A P T R) (mid new : S) (hand : Ask J) (rack : Rack G J A)
    → IsOrderly m c w → AllAlike w.rack.slots rack.slots → c.left mid < c.left w.script → c.uses mid ≡ c.uses w.script → Asks m c mid hand new
    → IsOrderly m c (record { start = w.start; script = new; hand = hand; rack = rack; workers = w.workers })
serve_orderly m c w mid new hand rack h alike left uses asks = record {
  due = asks.due;
  keeps_to = asks.keeps_to;
  ends = asks.ends;
  uses = omega (arith, h.uses, uses, asks.uses, alike.long);
  few = λ at l' e. let was = back w.rack.slots rack.slots alike at l' e in omega (arith, h.few at was.0 was.1, was.2.few, asks.left, left);
  held = λ k busy e. out_stays w.rack rack busy alike (h.held k busy e);
  apart = h.apart;
}

pub submit_alike : {G J A : Type 0} → (old new : Rack G J A) (at : ℕ) (l : Ledger G J A) (job : J) (number : Result ℕ (Refused J)) → slice_get old.slots at ≡ Some l
    → IfOk number (λ _. new.slots ≡ set old.slots at (with_job l job)) → OnErr number (new ≡ old) → AllAlike old.slots new.slots
submit_alike old new at l job (Ok n) found after err =
    subst (λ s. AllAlike old.slots s) (sym after) (all_alike_set old.slots at l (with_job l job) found
    (record { home = refl; done = refl; few = omega (arith, length-append l.jobs (job ∷ [])) }))
submit_alike old new at l job (Err e) found after err = subst (λ r. AllAlike old.slots r.slots) (sym err) (all_alike_same old.slots)

pub tell_alike : {G J A : Type 0} → (old new : Rack G J A) (at : ℕ) (l : Ledger G J A) → slice_get old.slots at ≡ Some l
    → new.slots ≡ set old.slots at (with_tell l) → AllAlike old.slots new.slots
tell_alike old new at l found after =
    subst (λ s. AllAlike old.slots s) (sym after) (all_alike_set old.slots at l (with_tell l) found (record { home = refl; done = refl; few = omega arith }))

-- a settle is served where its slot is ready
pub settle_variant : {S G J A P T R : Type 0} → (w : Scene S G J A P T R) (at : ℕ) (l : Ledger G J A) (b : Bool) → w.hand ≡ Settle at → slice_get w.rack.slots at ≡ Some l
    → b ≡ can_tell l → b ≡ can_serve w.hand w.rack
settle_variant w at l b hand found e = e ∙ sym (ap is_ready found) ∙ sym (ap (λ h. can_serve h w.rack) hand)

-- a job is begun only where the engine is at home
pub home_to_begin : {G J A : Type 0} → (l : Ledger G J A) → can_begin l ≡ true → l.home ≡ None → ⊥
home_to_begin l can away = let may = may_begin l can in let here = may.here in cc

pub begin_orderly : {S G J A P T R : Type 0} → (m : Meaning G J A P T R) (c : Conduct S T R) (w : Scene S G J A P T R) (worker : ℕ) (busy : Busy G J A P T R) (l : Ledger G J A) (rack : Rack G J A)
    → IsOrderly m c w → worker < length w.workers → slice_get w.rack.slots busy.slot ≡ Some l → can_begin l ≡ true → busy.out.number ≡ l.done
    → rack.slots ≡ set w.rack.slots busy.slot (with_out l)
    → IsOrderly m c (record { start = w.start; script = w.script; hand = w.hand; rack = rack; workers = set w.workers worker (Some busy) })
begin_orderly {S} {G} {J} {A} {P} {T} {R} m c w worker busy l rack h free found can number after =
    let inside = slice_get_within w.rack.slots busy.slot l found in
    let others : (k : ℕ) (one : Busy G J A P T R) → slice_get w.workers k ≡ Some (Some one) → one.slot ≡ busy.slot → ⊥ =
    λ k one e same.
    let out = h.held k one e in
    let is : out.ledger ≡ l = same_some (sym out.found ∙ ap (slice_get w.rack.slots) same ∙ found) in
    home_to_begin l can (subst (λ z. z.home ≡ None) is out.away) in
    record {
      due = h.due;
      keeps_to = h.keeps_to;
      ends = h.ends;
      uses = omega (arith, h.uses, ap length after, length-set w.rack.slots busy.slot (with_out l));
      few = λ at l' e. elim (slice_get_set w.rack.slots busy.slot at (with_out l) l' (subst (λ s. slice_get s at ≡ Some l') after e)) [
        | inl here ↦ subst (λ z. length z.jobs + c.left w.script < 2 ^ 62) (sym here.1) (h.few busy.slot l found)
        | inr other ↦ h.few at l' other.1
      ];
      held = λ k one e. elim (slice_get_set w.workers worker k (Some busy) (Some one) e) [
        | inl here ↦
            let is : busy ≡ one = sym (same_some here.1) in
            subst (λ z. IsOut rack z) is (record {
              ledger = with_out l;
              found = subst (λ s. slice_get s busy.slot ≡ Some (with_out l)) (sym after) (set_same w.rack.slots busy.slot (with_out l) inside);
              away = refl;
              number = number;
            })
        | inr other ↦
            let out = h.held k one other.1 in
            record {
              ledger = out.ledger;
              found = subst (λ s. slice_get s one.slot ≡ Some out.ledger) (sym after) (set_other w.rack.slots busy.slot one.slot (with_out l) (others k one other.1) ∙ out.found);
              away = out.away;
              number = out.number;
            }
      ];
      apart = λ k n one other ek en same. elim (slice_get_set w.workers worker k (Some busy) (Some one) ek) [
        | inl a ↦ elim (slice_get_set w.workers worker n (Some busy) (Some other) en) [
          | inl b ↦ a.0 ∙ sym b.0
          | inr b ↦ absurd (others n other b.1 (sym same ∙ ap (λ z. z.slot) (same_some a.1)))
        ]
        | inr a ↦ elim (slice_get_set w.workers worker n (Some busy) (Some other) en) [
          | inl b ↦ absurd (others k one a.1 (same ∙ ap (λ z. z.slot) (same_some b.1)))
          | inr b ↦ h.apart k n one other a.1 b.1 same
        ]
      ];
    }

pub end_orderly : {S G J A P T R : Type 0} → (m : Meaning G J A P T R) (c : Conduct S T R) (w : Scene S G J A P T R) (worker : ℕ) (busy : Busy G J A P T R) (l l' : Ledger G J A) (rack : Rack G J A)
    → IsOrderly m c w → slice_get w.workers worker ≡ Some (Some busy) → slice_get w.rack.slots busy.slot ≡ Some l → l'.jobs ≡ l.jobs
    → rack.slots ≡ set w.rack.slots busy.slot l'
    → IsOrderly m c (record { start = w.start; script = w.script; hand = w.hand; rack = rack; workers = set w.workers worker None })
end_orderly {S} {G} {J} {A} {P} {T} {R} m c w worker busy l l' rack h holds found jobs after =
    let still : (k : ℕ) (one : Busy G J A P T R) → slice_get (set w.workers worker None) k ≡ Some (Some one) → (k ≡ worker → ⊥) × (slice_get w.workers k ≡ Some (Some one)) =
    λ k one e. elim (slice_get_set w.workers worker k None (Some one) e) [
      | inl here ↦ absurd (let x = here.1 in cc)
      | inr other ↦ other
    ] in
    record {
      due = h.due;
      keeps_to = h.keeps_to;
      ends = h.ends;
      uses = omega (arith, h.uses, ap length after, length-set w.rack.slots busy.slot l');
      few = λ at m e. elim (slice_get_set w.rack.slots busy.slot at l' m (subst (λ s. slice_get s at ≡ Some m) after e)) [
        | inl here ↦ subst (λ js. length js + c.left w.script < 2 ^ 62) (sym jobs ∙ ap (λ z. z.jobs) (sym here.1)) (h.few busy.slot l found)
        | inr other ↦ h.few at m other.1
      ];
      held = λ k one e.
          let old = still k one e in
          let out = h.held k one old.1 in
          record {
            ledger = out.ledger;
            found = subst (λ s. slice_get s one.slot ≡ Some out.ledger) (sym after)
                (set_other w.rack.slots busy.slot one.slot l' (λ same. old.0 (h.apart k worker one busy old.1 holds same)) ∙ out.found);
            away = out.away;
            number = out.number;
          };
      apart = λ k n one other ek en. h.apart k n one other (still k one ek).1 (still n other en).1;
    }

pub begin_variant : {S G J A P T R : Type 0} → (w : Scene S G J A P T R) (worker slot : ℕ) (l : Ledger G J A) (b : Bool) → slice_get w.workers worker ≡ Some None → slice_get w.rack.slots slot ≡ Some l
    → b ≡ can_begin l → b ≡ (is_free (slice_get w.workers worker) && is_waiting (slice_get w.rack.slots slot))
begin_variant w worker slot l b free found e =
    let one : is_free (slice_get w.workers worker) ≡ true = ap is_free free in
    let two : is_waiting (slice_get w.rack.slots slot) ≡ can_begin l = ap is_waiting found in
    rw (one, two) e

-- ending a job leaves one slot changed, and its jobs as they were
pub end_result : {G J A : Type 0} → (old new : Rack G J A) (at : ℕ) (l : Ledger G J A) (engine : G) (job : J) (got : Result A Stop) (before after : ℕ)
    → IfOk got (λ answer. new.slots ≡ set old.slots at (with_answer l engine job answer))
    → IfErr got (λ stop. new.slots ≡ set old.slots at (with_halt l engine (record { stop = stop; before = before; after = after })))
    → (l' : Ledger G J A) × (l'.jobs ≡ l.jobs) × (new.slots ≡ set old.slots at l')
end_result old new at l engine job (Ok answer) before after ok err = (with_answer l engine job answer, refl, ok)
end_result old new at l engine job (Err stop) before after ok err = (with_halt l engine (record { stop = stop; before = before; after = after }), refl, err)
