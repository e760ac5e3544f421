-- The jobs that are left of a slot, performed one after another.
use Rattle.std.proofs.Common.{◌≡◌, ◌⊎◌, ℕ, ◌+◌, true, false, ◌&&◌, [], ◌∷◌, length, Some, None, is_some, is_none, nat_lt, slice_get, Result, Ok, Err, IfOk, IfErr, refl, sym, ap, ◌∙◌, subst, arith}
use Rattle.std.proofs.lemmas.Grind.{common_steps}
use Rattle.fj_outside.specs.declared.errors.Stop.{Stop}
use Rattle.fj_slot.specs.Causes.{HasCause}
use Rattle.fj_slot.specs.Ledger.{Ledger, IsSized, with_out, with_answer, with_halt, can_begin}
use Rattle.fj_slot.specs.Serving.{Meaning, Serves}
use Rattle.fj_world.specs.Alone.{ServesOn}
use Rattle.fj_world.specs.Rack.{Rack}
use Rattle.fj_world.proofs.Front.{front_serves}
use Rattle.fj_run_end.specs.Serving.{ServesFirst}

module _ {G J A P T R : Type 0} (m : Meaning G J A P T R) where
  -- a list of this slot alone
  abbrev alone : Ledger G J A → Rack G J A
  alone l = record { slots = l ∷ []; spare = 0 }

  first_by : (l new : Ledger G J A) (engine engine' : G) (job job' : J) (got : Result A Stop)
      → can_begin l ≡ true → l.home ≡ Some engine → slice_get l.jobs l.done ≡ Some job
      → ((s : P) (t : T) → m.state engine ≡ Some s → m.task job ≡ Some t → Serves m s t got engine' job')
      → HasCause (m.faults engine) (m.faults engine') got
      → IfOk got (λ answer. new ≡ with_answer (with_out l) engine' job' answer)
      → IfErr got (λ stop. new ≡ with_halt (with_out l) engine' (record { stop = stop; before = m.faults engine; after = m.faults engine' }))
      → ServesFirst m l new
  first_by l new engine engine' job job' (Ok answer) can home first serves cause ok err =
      let front = front_serves m (alone l) (alone (with_out l)) (alone new) 0 l engine engine' job job' (Ok answer) refl refl can home first serves cause (ap (λ z. z ∷ []) ok) tt in
      let is : front.ledger ≡ new = cc in
      record { serves = subst (λ z. ServesOn m l z) is front.serves; further = subst (λ z. (z.done ≡ l.done + 1) ⊎ (is_some z.halt ≡ true)) is front.further }
  first_by l new engine engine' job job' (Err stop) can home first serves cause ok err =
      let front = front_serves m (alone l) (alone (with_out l)) (alone new) 0 l engine engine' job job' (Err stop) refl refl can home first serves cause tt (ap (λ z. z ∷ []) err) in
      let is : front.ledger ≡ new = cc in
      record { serves = subst (λ z. ServesOn m l z) is front.serves; further = subst (λ z. (z.done ≡ l.done + 1) ⊎ (is_some z.halt ≡ true)) is front.further }

  pub first_serves : (l mid new : Ledger G J A) (engine engine' : G) (job job' : J) (got : Result A Stop) (before : ℕ)
      → can_begin l ≡ true → l.home ≡ Some engine → slice_get l.jobs l.done ≡ Some job → mid ≡ with_out l → before ≡ m.faults engine
      → ((s : P) (t : T) → m.state engine ≡ Some s → m.task job ≡ Some t → Serves m s t got engine' job')
      → HasCause (m.faults engine) (m.faults engine') got
      → IfOk got (λ answer. new ≡ with_answer mid engine' job' answer)
      → IfErr got (λ stop. new ≡ with_halt mid engine' (record { stop = stop; before = before; after = m.faults engine' }))
      → ServesFirst m l new
  first_serves l mid new engine engine' job job' got before can home first out count serves cause ok err =
      first_by l new engine engine' job job' got can home first serves cause
      (subst (λ z. IfOk got (λ answer. new ≡ with_answer z engine' job' answer)) out ok)
      (subst (λ n. IfErr got (λ stop. new ≡ with_halt (with_out l) engine' (record { stop = stop; before = n; after = m.faults engine' }))) count
      (subst (λ z. IfErr got (λ stop. new ≡ with_halt z engine' (record { stop = stop; before = before; after = m.faults engine' }))) out err))

  -- there is more to do
  pub may_serve : (l : Ledger G J A) → is_some l.home ≡ true → (is_none l.halt && nat_lt l.done (length l.jobs)) ≡ true → can_begin l ≡ true
  may_serve l home more = grind (arith, common_steps)

  pub nothing_left : (l : Ledger G J A) → IsSized l → (is_none l.halt && nat_lt l.done (length l.jobs)) ≡ false → l.halt ≡ None → l.done ≡ length l.jobs
  nothing_left l sized none running =
      let within = sized.within in
      let less : nat_lt l.done (length l.jobs) ≡ false = sym (ap (λ h. is_none h && nat_lt l.done (length l.jobs)) running) ∙ none in
      grind (arith, common_steps)
