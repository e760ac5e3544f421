-- A sound slot that has stopped: the job in which it did, and the engine that this left.
use Rattle.std.proofs.Common.{◌≡◌, List, length, take, Some, IsSome, is_some, slice_get, sym, ap, ◌∙◌, subst, arith}
use Rattle.std.specs.Prelude.{IfSome}
use Rattle.std.proofs.lemmas.List.{length-map}
use Rattle.fj_slot.specs.declared.stop.Halt.{Halt}
use Rattle.fj_slot.specs.Ledger.{Ledger}
use Rattle.fj_slot.specs.Serving.{Meaning}
use Rattle.fj_slot.specs.Sound.{IsSound, served_by}
use Rattle.fj_slot.proofs.Sound.{slice_get_inside}
use Rattle.fj_run_end.proofs.Desking.{some_in}

module _ {G J A P T R : Type 0} (m : Meaning G J A P T R) (s : P) (ts : List T) (l : Ledger G J A) where
  pub record IsHalted (h : Halt) : Type 0 where
    pub engine : G
    pub home : l.home ≡ Some engine
    pub job : T
    pub at : slice_get ts l.done ≡ Some job
    pub tells : IsSome (m.state engine)
    pub spoilt : m.spoilt (served_by m s (take l.done ts)) job h.stop engine

  pub halted_at : (h : Halt) → IsSound m s ts l → l.halt ≡ Some h → IsHalted h
  halted_at h sound e =
      let home = some_in l.home (sound.counted.at_home (ap is_some e)) in
      let long : length l.jobs ≡ length ts = sym (length-map l.jobs m.task) ∙ ap length sound.jobs ∙ length-map ts Some in
      let below = sound.counted.below (ap is_some e) in
      let job = slice_get_inside ts l.done (omega (arith, below, long)) in
      let tells = subst (λ o. IfSome o (λ (x : Halt). IfSome l.home (λ b. IsSome (m.state b)))) e sound.tells in
      let at_halt = subst (λ o. IfSome o (λ (x : Halt). IfSome l.home (λ b. IfSome (slice_get ts l.done) (λ t. m.spoilt (served_by m s (take l.done ts)) t x.stop b)))) e sound.spoilt in
      let at_home = subst (λ o. IfSome o (λ b. IfSome (slice_get ts l.done) (λ t. m.spoilt (served_by m s (take l.done ts)) t h.stop b))) home.1 at_halt in
      record {
        engine = home.0;
        home = home.1;
        job = job.0;
        at = job.1;
        tells = subst (λ o. IfSome o (λ b. IsSome (m.state b))) home.1 tells;
        spoilt = subst (λ o. IfSome o (λ t. m.spoilt (served_by m s (take l.done ts)) t h.stop home.0)) job.1 at_home;
      }
