-- A statement but END waits at one unit at most.
use Rattle.std.proofs.Common.{◌≡◌, ℕ, Bool, List, Option, Some, inl, inr, refl, sym, ap, ◌∙◌, unwrap_or}
use Rattle.fj_value.specs.declared.place.Place.{Place}
use Rattle.fj_modes.specs.declared.asked.Wanted.{Wanted}
use Rattle.fj_statement.specs.declared.unit.Subject.{Subject}
use Rattle.fj_statement.specs.declared.unit.Subject.TheVariants as subject
use Rattle.fj_statement.specs.declared.statement.Operand.{Operand}
use Rattle.fj_statement.specs.declared.statement.Statement.TheVariants as statement
use Rattle.fj_meaning.specs.Needs.{unit_about}
use Rattle.fj_meaning_cut.specs.Awaiting.{WaitsBy, WaitsAtOneUnit}

one : (o : Option ℕ) (n m : ℕ) → o ≡ Some n → o ≡ Some m → n ≡ m
one o n m a b = ap (λ x. unwrap_or x n) (sym a ∙ b)

-- whatever INQUIRE waits for, it is at the unit that it asks about
asked_about : (unit_named : List ℕ → Option ℕ) (about : Subject) (asked : List Wanted) (id : Option Operand) (iostat : Option Place) (done : Option Bool) (n : ℕ) → WaitsBy unit_named (statement.Inquire about asked id iostat done) n
    → unit_about unit_named about ≡ Some n
asked_about unit_named about asked id iostat _ n (inl a) = a.1
asked_about unit_named (subject.Unit u) asked id iostat _ n (inr a) = a.1
asked_about unit_named (subject.File name) asked id iostat _ n (inr (is, e)) = cc

pub waits_at_one_unit : WaitsAtOneUnit
waits_at_one_unit s (statement.Assign to from) n m other a b = absurd a
waits_at_one_unit s (statement.OpenUnit u spec iostat) n m other a b = one _ n m a b
waits_at_one_unit s (statement.CloseUnit u keep iostat) n m other a b = one _ n m a b
waits_at_one_unit s (statement.WaitFor u id iostat) n m other a b = one _ n m a b
waits_at_one_unit s (statement.Move how u iostat) n m other a b = one _ n m a b
waits_at_one_unit s (statement.Inquire about asked id iostat done) n m other a b = one _ n m (asked_about _ about asked id iostat done n a) (asked_about _ about asked id iostat done m b)
waits_at_one_unit s (statement.Transfer t) n m other a b = one _ n m a.1 b.1
waits_at_one_unit s statement.End n m other a b = absurd (other refl)
