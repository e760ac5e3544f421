-- What is said at the end of the slots of a script that was served.
use Rattle.std.proofs.Common.{◌≡◌, ◌≢◌, ℕ, List, [], length, Option, Some, slice_get, sym, ap, ◌∙◌, arith}
use Rattle.std.proofs.lemmas.Option.{slice_get_within}
use Rattle.fj_slot.specs.Serving.{Meaning}
use Rattle.fj_slot.specs.Ledger.{Ledger}
use Rattle.fj_world.specs.Conduct.{Conduct}
use Rattle.fj_world.specs.Rack.{Rack}
use Rattle.fj_world.specs.Keeping.{CanGoOn, SomeStopped}
use Rattle.fj_world.specs.Alone as alone
use Rattle.fj_world.proofs.Places.{slice_get_in, same_some}
use Rattle.fj_queue.specs.declared.view.Agenda.{Agenda}
use Rattle.fj_queue.specs.declared.seats.SubmitterOf.{SubmitterOf}
use Rattle.fj_queue.specs.Knows.{knows}
use Rattle.fj_queue.specs.Tokens.{IsLast}
use Rattle.fj_crew.specs.Fits.{SeatsSame, SeatsGoOn, OwesAsSaid, SomeTold}
use Rattle.fj_slot.specs.Sound.{IsCounted}
use Rattle.fj_crew.specs.Plan.{Opened, Shut, NumbersGoOn}
use Rattle.fj_crew.proofs.Looking.{code_halts}
use Rattle.fj_crew.proofs.Planning.{NamesStarts, opened_begins}

module _ {C G J A P T R : Type 0} (m : Meaning G J A P T R) where
  -- the submitter of a slot that was closed
  pub last_of : (seats : List (SubmitterOf C G T)) (closed : List (Ledger G J A)) → Shut m [] seats closed → (k : ℕ) (l : Ledger G J A) → slice_get closed k ≡ Some l
      → (x : SubmitterOf C G T) × (slice_get seats k ≡ Some x) × IsLast m (knows x) l
  last_of seats closed shut k l e =
      let e' = ap (λ z. slice_get z k) (sym shut.is) ∙ e in
      let x = slice_get_in seats k (omega (arith, shut.same, slice_get_within shut.closed k l e')) in
      (x.0, x.1, shut.each k x.0 l x.1 e')

  pub numbers_go_on : (plans : ℕ → Option (Agenda G T)) (old new : Rack G J A) (seats seats' : List (SubmitterOf C G T))
      → Opened plans old.slots [] seats → SeatsSame seats seats' → Shut m [] seats' new.slots → NamesStarts plans old.slots → new.spare ≡ old.spare → NumbersGoOn old new
  numbers_go_on plans old new seats seats' opened same shut names spare = record {
    long = ap length shut.is ∙ shut.same ∙ same.long ∙ opened.same ∙ sym (ap length opened.is);
    spare = spare;
    each = λ k l l' e e'.
        let x = last_of seats' new.slots shut k l' e' in
        let s = same.each k x.0 x.1 in
        let b = opened_begins plans old.slots seats opened k s.0 s.1 in
        let is : b.0 ≡ l = same_some (sym b.1 ∙ e) in
        let jobs = ap (λ z. length z.jobs) is in
        let told = ap (λ z. z.told) is in
        let more = s.4 in
        let heard = s.5 in
        let p = names k l e in
        let start = (x.2.sound p.0 (s.2 ∙ b.2.plan ∙ p.1)).0 ∙ p.2 in
        (start, omega (arith, jobs, more, b.2.sent_is, x.2.jobs), omega (arith, told, heard, b.2.heard_is, x.2.told_is));
  }

  pub counted_at_last : (plans : ℕ → Option (Agenda G T)) (slots new : List (Ledger G J A)) (seats seats' : List (SubmitterOf C G T))
      → Opened plans slots [] seats → SeatsSame seats seats' → Shut m [] seats' new → NamesStarts plans slots → (k : ℕ) (l : Ledger G J A) → slice_get new k ≡ Some l → IsCounted m l
  counted_at_last plans slots new seats seats' opened same shut names k l e =
      let x = last_of seats' new shut k l e in
      let s = same.each k x.0 x.1 in
      let b = opened_begins plans slots seats opened k s.0 s.1 in
      let p = names k b.0 b.1 in
      (x.2.sound p.0 (s.2 ∙ b.2.plan ∙ p.1)).2

  -- a slot of which a stop was told has stopped
  pub some_stopped : (seats : List (SubmitterOf C G T)) (closed : Rack G J A) → Shut m [] seats closed.slots → SomeTold seats → SomeStopped closed
  some_stopped seats closed shut some =
      let long : length closed.slots ≡ length seats = ap length shut.is ∙ shut.same in
      let l = slice_get_in closed.slots some.at (omega (arith, long, slice_get_within seats some.at some.seat some.found)) in
      let x = last_of seats closed.slots shut some.at l.0 l.1 in
      let is : some.seat ≡ x.0 = same_some (sym some.found ∙ x.1) in
      let told : (knows x.0).stopped ≢ 0 = λ z. some.told (ap (λ s. (knows s).stopped) is ∙ z) in
      record {
        at = some.at;
        ledger = l.0;
        found = l.1;
        halted = code_halts l.0.halt (λ z. told (sym (x.2.stopped told).0 ∙ z));
      }

  pub owes_at_last : {S : Type 0} (c : Conduct S T R) (script : S) (seats : List (SubmitterOf C G T)) (closed : Rack G J A)
      → Shut m [] seats closed.slots → OwesAsSaid c script seats → alone.OwesAsSaid c script closed
  owes_at_last c script seats closed shut owes k l used e =
      let x = last_of seats closed.slots shut k l e in
      omega (arith, owes k x.0 used x.1, x.2.jobs, x.2.told_is)

  pub goes_on_at_last : {S : Type 0} (c : Conduct S T R) (old new : S) (seats : List (SubmitterOf C G T)) (closed : Rack G J A)
      → Shut m [] seats closed.slots → SeatsGoOn c old new seats → CanGoOn c old new closed
  goes_on_at_last c old new seats closed shut h = record {
    idle = h.idle;
    uses = h.uses;
    few = λ k l e. let x = last_of seats closed.slots shut k l e in omega (arith, h.few k x.0 x.1, x.2.jobs);
  }
