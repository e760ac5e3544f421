-- The jobs that OPEN gives.
use Rattle.std.proofs.Common.{◌≡◌, ℕ, Bool, true, false, List, [], ◌∷◌, ◌++◌, Option, Some, None, refl, sym, ap, ◌∙◌, subst, Result, Ok, Err}
use Rattle.std.specs.Prelude.{if◌then◌else◌, filter, nat_lt}
use Rattle.std.proofs.lemmas.Bool.{eq-eqb, ne_eqb}
use Rattle.fj_value.specs.declared.condition.Condition.{Condition}
use Rattle.fj_value.specs.declared.condition.Condition.TheVariants.{Fine, Error}
use Rattle.fj_modes.specs.Modes.{settled}
use Rattle.fj_modes.specs.Modes as mode
use Rattle.fj_modes.specs.declared.modes.Modes.{Modes}
use Rattle.fj_modes.specs.declared.specifiers.OpenSpec.{OpenSpec}
use Rattle.fj_connect.specs.Connection.{Connection}
use Rattle.fj_connect.specs.Opening.{opened_file}
use Rattle.fj_connect.specs.Positions.{ended}
use Rattle.fj_bay.specs.Jobs.{detach, done}
use Rattle.fj_meaning.specs.State.{State, found, without_unit}
use Rattle.fj_meaning.specs.State as plain
use Rattle.fj_meaning.specs.Connecting as plainly
use Rattle.fj_meaning.specs.Connecting.{file_due, keeps_name}
use Rattle.fj_meaning_jobs.specs.Core.{Connected, connected_at, without_connected}
use Rattle.fj_meaning_jobs.specs.Desks.{carry, most_slots}
use Rattle.fj_meaning_jobs.specs.Doing.{Doing, Desked, acted, given, finishes}
use Rattle.fj_meaning_jobs.specs.Acting as desk
use Rattle.fj_statement.specs.declared.unit.UnitRef.{UnitRef}
use Rattle.fj_statement.specs.Units.{is_outside}
use Rattle.fj_meaning_jobs.specs.Acting.{keeps, disconnected, detaches, free_from, attaches, connects, connects_at, opens_with, opens, opens_unit, changes}
use Rattle.fj_meaning_jobs.specs.Both.{Both}
use Rattle.fj_meaning_jobs.specs.Giving.{Jobs, brought, connect_jobs, opening_jobs, mode_jobs, open_jobs, open_unit_jobs, IsGiven}
use Rattle.fj_meaning_jobs.proofs.Apart.{Differs}
use Rattle.fj_meaning_jobs.proofs.Seen.{At, at_unit, not_at_unit, taken_same}
use Rattle.fj_meaning_jobs.proofs.Tied.{Tied, Free}
use Rattle.fj_meaning_jobs.proofs.Closing.{out_tied, gone_out, halt_none, keeps_same}
use Rattle.fj_meaning_jobs.proofs.Opening.{free_found, fewer, no_fewer, gone_differs}
use Rattle.fj_meaning_jobs.proofs.Given.{Gives, here}

found_inserted : (new : Connected) (us rest : List Connected) → Differs (λ (u : Connected). u.number) new.number us → connected_at (filter (λ (u : Connected). nat_lt u.number new.number) us ++ new ∷ rest) new.number ≡ Some new
found_inserted new [] rest d = ap (λ b. if b then Some new else connected_at rest new.number) (eq-eqb new.number new.number refl)
found_inserted new (x ∷ us) rest d = by (nat_lt x.number new.number) (found_inserted new us rest d.1)
  where
    by : (b : Bool) → connected_at (filter (λ (u : Connected). nat_lt u.number new.number) us ++ new ∷ rest) new.number ≡ Some new
        → connected_at ((if b then x ∷ filter (λ (u : Connected). nat_lt u.number new.number) us else filter (λ (u : Connected). nat_lt u.number new.number) us) ++ new ∷ rest) new.number ≡ Some new
    by true h = ap (λ b. if b then Some x else connected_at (filter (λ (u : Connected). nat_lt u.number new.number) us ++ new ∷ rest) new.number) (ne_eqb x.number new.number d.0) ∙ h
    by false h = h

connects_given : (before after : List Connected) (q : Desked) (s : State) (number : ℕ) (spec : OpenSpec) (modes : Modes) → Tied q s → Differs (λ (u : Connected). u.number) number q.core.units
    → after ≡ (acted q.desks (connects number spec modes q.core)).0.core.units → Both (IsGiven before after) (given q.desks (connects number spec modes q.core)) (connect_jobs s number spec modes)
connects_given before after q s number spec modes t d is = by (free_from q.core.units 0 most_slots) refl is
  where
    due : List ℕ
    due = file_due spec number

    opened : (slot : ℕ) (r : Result Connection Condition) → after ≡ (acted q.desks (attaches q.core number slot r)).0.core.units → Both (IsGiven before after) (given q.desks (attaches q.core number slot r)) (brought number r)
    opened slot (Err condition) e = tt
    opened slot (Ok c) e =
        let new : Connected = record { number = number; slot = slot; name = c.name; modes = c.modes } in
        ((refl, (new, ap (λ l. connected_at l number) e ∙ found_inserted new q.core.units (filter (λ (u : Connected). nat_lt number u.number) q.core.units) d, refl)), tt)

    by : (o : Option ℕ) → free_from q.core.units 0 most_slots ≡ o → after ≡ (acted q.desks (connects_at number spec modes q.core o)).0.core.units
        → Both (IsGiven before after) (given q.desks (connects_at number spec modes q.core o)) (connect_jobs s number spec modes)
    by None e f = subst (λ b. Both (IsGiven before after) [] (if b then brought number (opened_file (s.files due) due spec modes) else [])) (sym (no_fewer q s t e)) tt
    by (Some slot) e f =
        subst (λ b. Both (IsGiven before after) (given q.desks (attaches q.core number slot (opened_file (q.core.files due) due spec modes))) (if b then brought number (opened_file (s.files due) due spec modes) else []))
        (sym (fewer q s slot t (free_found q.core.units 0 most_slots slot e)))
        (subst (λ r. Both (IsGiven before after) (given q.desks (attaches q.core number slot (opened_file (q.core.files due) due spec modes))) (brought number r)) (ap (λ fs. opened_file (fs due) due spec modes) t.same.files)
        (opened slot (opened_file (q.core.files due) due spec modes) f))

taken_given : (p : Desked) (s : State) (number : ℕ) (name : List ℕ) → Tied p s → (next : Doing) (due : Jobs) → Gives p next due
    → Gives p (if desk.is_taken p.core number name then finishes p.core (Error 7) else next) (if plainly.is_taken s number name then [] else due)
taken_given p s number name t next due h =
    subst (λ b. Gives p (if b then finishes p.core (Error 7) else next) (if plainly.is_taken s number name then [] else due)) (sym (taken_same p.desks p.core.units s.units number name t.same.units))
    (by (plainly.is_taken s number name))
  where
    by : (b : Bool) → Gives p (if b then finishes p.core (Error 7) else next) (if b then [] else due)
    by true after is = tt
    by false after is = h after is

new_given : (p : Desked) (s : State) (number : ℕ) (spec : OpenSpec) → Tied p s → connected_at p.core.units number ≡ None → (r : Result Modes Condition) → Gives p (opens_with p.core number spec None r) (opening_jobs s number spec None r)
new_given p s number spec t e (Err condition) after is = tt
new_given p s number spec t e (Ok modes) after is =
    taken_given p s number (file_due spec number) t (connects number spec modes p.core) (connect_jobs s number spec modes)
    (λ a i. connects_given p.core.units a p s number spec modes t (not_at_unit p.desks p.core.units s.units number t.same.units e).1 i) after is

other_given : (p : Desked) (s : State) (number : ℕ) (spec : OpenSpec) (u : Connected) (at : At p.desks s.units number u) → Tied p s → connected_at p.core.units number ≡ Some u → Free number s.units → (r : Result Modes Condition)
    → Gives p (opens_with p.core number spec (Some u) r) (opening_jobs s number spec (Some at.it) r)
other_given p s number spec u at t e free (Err condition) after is = tt
other_given p s number spec u at t e free (Ok modes) after is =
    taken_given p s number (file_due spec number) t (detaches p.core u (keeps u) (connects number spec modes)) ((at.it.number, detach None) ∷ connect_jobs meant number spec modes)
    (λ a i. (
      (refl, (u, here p.core.units s.units p.desks number u at e, refl)),
      gone_out (λ d. a ≡ (acted q.desks d).0.core.units → Both (IsGiven p.core.units a) (given q.desks d) (connect_jobs meant number spec modes)) p.desks u at.it at.seen p.core (keeps u) (connects number spec modes)
          (connects_given p.core.units a q meant number spec modes
          (subst (λ k. Tied q (plain.disconnected s at.it k)) (keeps_same p s number u at) (out_tied p s number u at (keeps u) t e (halt_none p s number u at free)))
          (subst (λ k. Differs (λ (y : Connected). y.number) k (without_connected u.number p.core.units)) at.own_number (gone_differs (λ (y : Connected). y.number) u.number p.core.units))) i,
    )) after is
  where
    meant : State
    meant = plain.disconnected s at.it (plain.keeps at.it)

    q : Desked
    q = record { core = disconnected p.core u (keeps u) (detach (Some (ended at.it.connection)), done Fine); desks = carry p.desks u.slot (detach None) }

modes_given : (p : Desked) (s : State) (number : ℕ) (u : Connected) (at : At p.desks s.units number u) (spec : OpenSpec) → connected_at p.core.units number ≡ Some u → (after : List Connected)
    → Both (IsGiven p.core.units after) (given p.desks (changes p.core u (mode.changed u.modes spec))) (mode_jobs at.it.number (mode.changed at.it.connection.modes spec))
modes_given p s number u at spec e after =
    subst (λ m. Both (IsGiven p.core.units after) (given p.desks (changes p.core u (mode.changed m spec))) (mode_jobs at.it.number (mode.changed at.it.connection.modes spec))) (sym at.seen.modes) (by (mode.changed at.it.connection.modes spec))
  where
    by : (r : Result Modes Condition) → Both (IsGiven p.core.units after) (given p.desks (changes p.core u r)) (mode_jobs at.it.number r)
    by (Err condition) = tt
    by (Ok modes) = ((refl, (u, here p.core.units s.units p.desks number u at e, refl)), tt)

pub opens_given : (p : Desked) (s : State) (number : ℕ) (spec : OpenSpec) → Tied p s → Free number s.units → Gives p (opens p.core number spec (connected_at p.core.units number)) (open_jobs s number spec (found s.units number))
opens_given p s number spec t free after is = by (connected_at p.core.units number) refl is
  where
    by : (o : Option Connected) → connected_at p.core.units number ≡ o → after ≡ (acted p.desks (opens p.core number spec o)).0.core.units
        → Both (IsGiven p.core.units after) (given p.desks (opens p.core number spec o)) (open_jobs s number spec (found s.units number))
    by None e i =
        subst (λ o. Both (IsGiven p.core.units after) (given p.desks (opens p.core number spec None)) (open_jobs s number spec o)) (sym (not_at_unit p.desks p.core.units s.units number t.same.units e).0)
        (new_given p s number spec t e (settled spec) after i)
    by (Some u) e i =
        subst (λ o. Both (IsGiven p.core.units after) (given p.desks (opens p.core number spec (Some u))) (open_jobs s number spec o)) (sym at.found_is)
        (subst (λ n. after ≡ (acted p.desks (if keeps_name n spec spec.file then changes p.core u (mode.changed u.modes spec) else opens_with p.core number spec (Some u) (settled spec))).0.core.units → Both (IsGiven p.core.units after) (given p.desks (if keeps_name n spec spec.file then changes p.core u (mode.changed u.modes spec) else opens_with p.core number spec (Some u) (settled spec))) (open_jobs s number spec (Some at.it)))
        (sym at.seen.name) (which (keeps_name at.it.connection.name spec spec.file)) i)
      where
        at : At p.desks s.units number u
        at = at_unit p.desks p.core.units s.units number u t.same.units e

        which : (b : Bool) → after ≡ (acted p.desks (if b then changes p.core u (mode.changed u.modes spec) else opens_with p.core number spec (Some u) (settled spec))).0.core.units
            → Both (IsGiven p.core.units after) (given p.desks (if b then changes p.core u (mode.changed u.modes spec) else opens_with p.core number spec (Some u) (settled spec)))
            (if b then mode_jobs at.it.number (mode.changed at.it.connection.modes spec) else opening_jobs s number spec (Some at.it) (settled spec))
        which true j = modes_given p s number u at spec e after
        which false j = other_given p s number spec u at t e free (settled spec) after j

pub opens_unit_given : (p : Desked) (s : State) (ref : UnitRef) (number : ℕ) (spec : OpenSpec) → Tied p s → Free number s.units
    → Gives p (opens_unit p.core ref number spec (connected_at p.core.units number)) (open_unit_jobs s ref number spec (found s.units number))
opens_unit_given p s ref number spec t free = by (connected_at p.core.units number) refl (opens_given p s number spec t free)
  where
    outside : (b : Bool) (d : Doing) (jobs : Jobs) → Gives p d jobs → Gives p (if b then finishes p.core (Error 3) else d) (if b then [] else jobs)
    outside true d jobs h after is = tt
    outside false d jobs h after is = h after is

    by : (o : Option Connected) → connected_at p.core.units number ≡ o → Gives p (opens p.core number spec o) (open_jobs s number spec (found s.units number))
        → Gives p (opens_unit p.core ref number spec o) (open_unit_jobs s ref number spec (found s.units number))
    by None e h =
        let none = (not_at_unit p.desks p.core.units s.units number t.same.units e).0 in
        subst (λ o. Gives p (opens_unit p.core ref number spec None) (open_unit_jobs s ref number spec o)) (sym none)
        (outside (is_outside ref) (opens p.core number spec None) (open_jobs s number spec None) (subst (λ o. Gives p (opens p.core number spec None) (open_jobs s number spec o)) none h))
    by (Some u) e h =
        let at : At p.desks s.units number u = at_unit p.desks p.core.units s.units number u t.same.units e in
        subst (λ o. Gives p (opens p.core number spec (Some u)) (open_unit_jobs s ref number spec o)) (sym at.found_is)
        (subst (λ o. Gives p (opens p.core number spec (Some u)) (open_jobs s number spec o)) at.found_is h)
