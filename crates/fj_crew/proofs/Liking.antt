-- What holds of submitters that are as they were, but for their hands.
use Rattle.std.proofs.Common.{Bool, ◌≡◌, ℕ, List, Option, refl, sym, ap, ◌∙◌, inl, inr, arith}
use Rattle.fj_slot.specs.Serving.{Meaning}
use Rattle.fj_slot.specs.Ledger.{Ledger}
use Rattle.fj_world.specs.declared.ask.Ask.{Ask}
use Rattle.fj_world.specs.Conduct.{Conduct}
use Rattle.fj_world.specs.Plain.{Plain, PlainSlot}
use Rattle.fj_queue.specs.declared.view.Agenda.{Agenda}
use Rattle.fj_queue.specs.declared.seats.QueueOf.{QueueOf}
use Rattle.fj_queue.specs.declared.seats.SubmitterOf.{SubmitterOf}
use Rattle.fj_queue.specs.Knows.{knows}
use Rattle.fj_crew.specs.Seats.{Paired}
use Rattle.std.proofs.lemmas.Option.{slice_get_within}
use Rattle.fj_world.proofs.Places.{slice_get_in, same_some}
use Rattle.fj_crew.specs.Fits.{AllAnswered, AllReached, SomeTold, Begun, CrewGoes, CrewGaveUp}
use Rattle.fj_crew.proofs.Serving.{still_reached}
use Rattle.fj_crew.specs.Plan.{Opened}
use Rattle.fj_crew.specs.Team.{HandsAre, SeatsLike, CanServe, HasServed}

module _ {C G J A T : Type 0} where
  pub opened_like : (plans : ℕ → Option (Agenda G T)) (slots rest : List (Ledger G J A)) (old new : List (SubmitterOf C G T))
      → Opened plans slots rest old → SeatsLike old new → HandsAre 0 new → Opened plans slots rest new
  opened_like plans slots rest old new h like none = record {
    taken = h.taken;
    is = h.is;
    same = like.long ∙ h.same;
    each = λ k l w el e.
        let was = like.each k w e in
        let b = h.each k l was.0 el was.1 in
        record {
          plan = was.2.numbers.plan ∙ b.plan;
          sent_is = was.2.numbers.sent_is ∙ b.sent_is;
          heard_is = was.2.numbers.heard_is ∙ b.heard_is;
          hands_is = none k w e;
          answered = λ z. was.2.answered ∙ b.answered z;
          stopped = was.2.stopped ∙ b.stopped;
        };
  }

module _ {C G T : Type 0} where
  pub answered_like : (old new : List (SubmitterOf C G T)) → SeatsLike old new → AllAnswered old → AllAnswered new
  answered_like old new like all k w e = let was = like.each k w e in was.2.answered ∙ all k was.0 was.1

  pub reached_like : {P : Type 0} (qs : List (PlainSlot P T)) (old new : List (SubmitterOf C G T)) → SeatsLike old new → AllReached qs old → AllReached qs new
  reached_like qs old new like all k q w eq e =
      let was = like.each k w e in
      still_reached q q (knows was.0) (knows w) refl was.2.answered was.2.numbers.heard_is was.2.stopped was.2.stopped_at (all k q was.0 eq was.1)

  pub told_like : (old new : List (SubmitterOf C G T)) → SeatsLike old new → SomeTold old → SomeTold new
  told_like old new like some =
      let here = slice_get_in new some.at (omega (arith, like.long, slice_get_within old some.at some.seat some.found)) in
      let was = like.each some.at here.0 here.1 in
      let same : some.seat ≡ was.0 = same_some (sym some.found ∙ was.1) in
      record {
        at = some.at;
        seat = here.0;
        found = here.1;
        told = λ z. some.told (ap (λ x. (knows x).stopped) same ∙ sym was.2.stopped ∙ z);
      }

module _ {S C G J A P T R : Type 0} (m : Meaning G J A P T R) (c : Conduct S T R) where
  abbrev pub begun_like : (script : S) (old new : List (SubmitterOf C G T)) → SeatsLike old new → Begun m c script old → Begun m c script new
  begun_like script old new like b = record {
    state = b.state;
    slots = b.slots;
    told = b.told;
    planned = record {
      same = b.planned.same ∙ sym like.long;
      plans = λ k w q e eq.
          let was = like.each k w e in
          let it = b.planned.plans k was.0 q was.1 eq in
          (it.0, was.2.numbers.plan ∙ it.1, it.2, it.3);
    };
    fits = λ k q w eq e.
        let was = like.each k w e in
        let fit = b.fits k q was.0 eq was.1 in
        record { sent = was.2.numbers.sent_is ∙ fit.sent; heard = λ h. was.2.numbers.heard_is ∙ fit.heard h };
  }

  pub goes_like : {ever : Bool} {level level' : Type 0} (p : Plain P c) (most : ℕ) (script : S) (hand : Ask J) (old new : List (SubmitterOf C G T)) → (level' → level) → SeatsLike old new
      → CrewGoes m c ever level p most script hand old → CrewGoes m c ever level' p most script hand new
  goes_like p most script hand old new levels like g = record {
    entries = g.entries;
    few = g.few;
    fits = record {
      script_is = g.fits.script_is;
      stop = λ is e.
          let h = g.fits.stop is e in
          record {
            over = h.over;
            state = h.state;
            slot = h.slot;
            hand = h.hand;
            halted = λ q w eq ew.
                let was = like.each h.slot w ew in
                let old = h.halted q was.0 eq was.1 in
                (λ z. old.0 (sym was.2.stopped ∙ z), omega (arith, old.1, was.2.stopped_at), λ l. let exact = old.2 (levels l) in omega (arith, exact, was.2.stopped_at));
          };
      same = g.fits.same ∙ sym like.long;
      slots = λ k q w eq e.
          let was = like.each k w e in
          let fit = g.fits.slots k q was.0 eq was.1 in
          record { sent = was.2.numbers.sent_is ∙ fit.sent; heard = λ h. was.2.numbers.heard_is ∙ fit.heard h };
      reached = λ l. reached_like _ old new like (g.fits.reached (levels l));
    };
  }

  pub gave_up_like : {level level' : Type 0} (most : ℕ) (s : c.State) (qs : List (PlainSlot P T)) (first last : S) (old new : List (SubmitterOf C G T)) → (level' → level) → SeatsLike old new
      → CrewGaveUp m c level most s qs first last old → CrewGaveUp m c level' most s qs first last new
  gave_up_like most s qs first last old new levels like g = record {
    asks = g.asks;
    few = g.few;
    call = g.call;
    slots = record {
      same = g.slots.same ∙ sym like.long;
      sent = λ k q w eq e. let was = like.each k w e in was.2.numbers.sent_is ∙ g.slots.sent k q was.0 eq was.1;
      reached = λ l. reached_like _ old new like (g.slots.reached (levels l));
    };
  }

module _ {S C G J A P T R L : Type 0} (m : Meaning G J A P T R) (c : Conduct S T R) where
  -- hiring keeps what serving asks
  pub can_like : (queues : List (QueueOf C G T L)) (script : S) (old new : List (SubmitterOf C G T)) → SeatsLike old new → Paired queues new → CanServe m c queues script old → CanServe m c queues script new
  can_like queues script old new like paired h = record {
    idle = h.idle;
    uses = omega (arith, h.uses, like.long);
    few = λ k w e. let was = like.each k w e in omega (arith, h.few k was.0 was.1, was.2.numbers.sent_is);
    owed = λ k w used e. let was = like.each k w e in omega (arith, h.owed k was.0 used was.1, was.2.numbers.sent_is, was.2.numbers.heard_is);
    paired = paired;
    planned = elim h.planned [
      | inl none ↦ inl (λ k w it e named. let was = like.each k w e in none k was.0 it was.1 (sym was.2.numbers.plan ∙ named))
      | inr b ↦ inr (begun_like m c script old new like b)
    ];
  }

  -- served by submitters whose hands were hired before and folded in after
  pub served_like : (queues : List (QueueOf C G T L)) (script script' : S) (a b d e : List (SubmitterOf C G T))
      → HandsAre 0 a → SeatsLike a b → HasServed m c queues script b script' d → SeatsLike d e → Paired queues e → HandsAre 0 e → HasServed m c queues script a script' e
  served_like queues script script' a b d e none hired h folded paired none' = record {
    paired = paired;
    same = record {
      long = folded.long ∙ h.same.long ∙ hired.long;
      each = λ k w ew.
          let z = folded.each k w ew in
          let y = h.same.each k z.0 z.1 in
          let x = hired.each k y.0 y.1 in
          let more = y.4 in
          let told = y.5 in
          (x.0, x.1, z.2.numbers.plan ∙ y.2 ∙ x.2.numbers.plan, none' k w ew ∙ sym (none k x.0 x.1), omega (arith, more, z.2.numbers.sent_is, x.2.numbers.sent_is), omega (arith, told, z.2.numbers.heard_is, x.2.numbers.heard_is));
    };
    owed = λ k w used ew. let z = folded.each k w ew in omega (arith, h.owed k z.0 used z.1, z.2.numbers.sent_is, z.2.numbers.heard_is);
    answered = λ all going. answered_like d e folded (h.answered (answered_like a b hired all) going);
    stopped = λ was is. told_like d e folded (h.stopped was is);
    again = record {
      idle = h.again.idle;
      uses = h.again.uses;
      few = λ k w ew. let z = folded.each k w ew in omega (arith, h.again.few k z.0 z.1, z.2.numbers.sent_is);
    };
    leads = h.leads;
    alone = λ begun. goes_like m c _ _ script' _ d e (answered_like a b hired) folded (h.alone (begun_like m c script a b hired begun));
    gave_up = λ begun going over. gave_up_like m c _ _ _ script script' d e (answered_like a b hired) folded (h.gave_up (begun_like m c script a b hired begun) going over);
  }
