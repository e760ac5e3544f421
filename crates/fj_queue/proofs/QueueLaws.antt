-- Laws of the numbers that a seat sees.
use Rattle.std.proofs.lemmas.Grind.{common_steps}
use Rattle.std.proofs.Common.{◌≡◌, ◌≢◌, ◌⊎◌, ℕ, ◌+◌, ◌*◌, false, ◌&&◌, nat_lt, is_none, is_some, Option, Some, None, refl, subst, inl, inr, arith, length}
use Rattle.fj_outside.specs.declared.errors.Stop.TheVariants.{Failed, Memory}
use Rattle.fj_slot.specs.declared.stop.Halt.{Halt}
use Rattle.fj_queue.specs.Cell.{out_of, stops_of, submitted, progress, stop_code}
use Rattle.fj_queue.specs.Laws.{ShowsNothingToBegin, TellsStopsApart}
use Rattle.fj_queue.proofs.Calls.{because}

pub tells_stops_apart : TellsStopsApart
tells_stops_apart Failed Failed = ((λ z. omega arith), λ e. ((λ x. x), λ x. x))
tells_stops_apart Failed (Memory y) = ((λ z. omega arith), λ e. absurd (omega arith))
tells_stops_apart (Memory x) Failed = ((λ z. omega arith), λ e. absurd (omega arith))
tells_stops_apart (Memory x) (Memory y) = ((λ z. omega arith), λ e. ((λ f. absurd (cc)), λ f. absurd (cc)))

-- where the numbers show it, nothing may be begun
none_begins : {E : Type 0} (home : Option E) (halt : Option Halt) (done n : ℕ) → (((k : ℕ) × (2 * (done + stops_of halt) + out_of home ≡ 2 * k + 1)) ⊎ ((2 * (done + stops_of halt) + out_of home ≡ 2 * n) ⊎ (stop_code halt ≢ 0)))
    → is_none halt && (is_some home && nat_lt done n) ≡ false
none_begins home (Some h) done n why = refl
none_begins None None done n why = refl
none_begins (Some x) None done n (inl k) = absurd (let odd = k.1 in omega arith)
none_begins (Some x) None done n (inr (inl all)) = let same : done ≡ n = omega arith in rw same (grind (arith, common_steps))
none_begins (Some x) None done n (inr (inr stop)) = absurd (stop refl)

pub shows_nothing_to_begin : {E J A T : Type 0} → ShowsNothingToBegin E J A T
shows_nothing_to_begin {E} {J} {A} {T} v c sized saw = (
  λ it. let n : it.0 ≡ submitted c = (let a = it.3 in let b = saw.jobs in cc) in let p : it.1 ≡ progress c = (let a = it.4 in let b = saw.steps in cc) in let h : it.2 ≡ stop_code c.halt = (let a = it.5 in let b = saw.stop in cc) in
      let P : ℕ × ℕ × ℕ → Type 0 = λ z. ((k : ℕ) × (z.1 ≡ 2 * k + 1)) ⊎ ((z.1 ≡ 2 * z.0) ⊎ (z.2 ≢ 0)) in
      none_begins c.home c.halt c.done (submitted c) (subst P (λ i. (n i, p i, h i)) it.6),
  λ none. (submitted c, progress c, stop_code c.halt, saw.jobs, saw.steps, saw.stop, because c.home c.halt c.done (length c.jobs) refl none sized.within),
)
