-- A statement as it begins differs from the one that stands in the deck by the number of its unit alone.
use Rattle.std.proofs.Common.{◌≡◌, ℕ, refl, ap, ◌∙◌}
use Rattle.std.specs.Option.{option_map_or}
use Rattle.fj_value.specs.declared.place.Place.{Place}
use Rattle.fj_value.specs.declared.value.Value.{Value}
use Rattle.fj_statement.specs.declared.unit.UnitRef.{UnitRef}
use Rattle.fj_statement.specs.declared.unit.UnitRef.TheVariants as unit
use Rattle.fj_statement.specs.declared.unit.Subject.TheVariants as subject
use Rattle.fj_statement.specs.declared.statement.Statement.{Statement}
use Rattle.fj_statement.specs.declared.statement.Statement.TheVariants as statement
use Rattle.fj_statement.specs.Units.{begun, number_due, numbered, unit_of, with_number}
use Rattle.fj_store.specs.Variables.{Variables, value_at}
use Rattle.fj_meaning.specs.Reaching.{is_later}
use Rattle.fj_meaning.specs.Statement.{Stated, begins}

-- ---- another number

numbered_twice : (m n : ℕ) (u : UnitRef) → numbered n (numbered m u) ≡ numbered n u
numbered_twice m n unit.Star = refl
numbered_twice m n (unit.Number k) = refl
numbered_twice m n (unit.Held place k) = refl
numbered_twice m n (unit.New place k) = refl
numbered_twice m n (unit.Internal file) = refl

pub with_twice : (m n : ℕ) (w : Statement) → with_number n (with_number m w) ≡ with_number n w
with_twice m n (statement.Assign to from) = refl
with_twice m n (statement.OpenUnit u spec iostat) = ap (λ x. statement.OpenUnit x spec iostat) (numbered_twice m n u)
with_twice m n (statement.CloseUnit u keep iostat) = ap (λ x. statement.CloseUnit x keep iostat) (numbered_twice m n u)
with_twice m n (statement.WaitFor u id iostat) = ap (λ x. statement.WaitFor x id iostat) (numbered_twice m n u)
with_twice m n (statement.Move how u iostat) = ap (λ x. statement.Move how x iostat) (numbered_twice m n u)
with_twice m n (statement.Inquire (subject.Unit u) asked id iostat done) = ap (λ x. statement.Inquire (subject.Unit x) asked id iostat done) (numbered_twice m n u)
with_twice m n (statement.Inquire (subject.File name) asked id iostat _) = refl
with_twice m n (statement.Transfer t) = ap (λ x. statement.Transfer (record t { unit = x })) (numbered_twice m n t.unit)
with_twice m n statement.End = refl

-- ---- the number that is due is by the place

due_for : (at : Place → Value) (new m : ℕ) (u : UnitRef) → number_due at new (numbered m u) ≡ number_due at new u
due_for at new m unit.Star = refl
due_for at new m (unit.Number k) = refl
due_for at new m (unit.Held place k) = refl
due_for at new m (unit.New place k) = refl
due_for at new m (unit.Internal file) = refl

due_same : (at : Place → Value) (new m : ℕ) (w : Statement) → option_map_or (number_due at new) (unit_of (with_number m w)) 0 ≡ option_map_or (number_due at new) (unit_of w) 0
due_same at new m (statement.Assign to from) = refl
due_same at new m (statement.OpenUnit u spec iostat) = due_for at new m u
due_same at new m (statement.CloseUnit u keep iostat) = due_for at new m u
due_same at new m (statement.WaitFor u id iostat) = due_for at new m u
due_same at new m (statement.Move how u iostat) = due_for at new m u
due_same at new m (statement.Inquire (subject.Unit u) asked id iostat _) = due_for at new m u
due_same at new m (statement.Inquire (subject.File name) asked id iostat _) = refl
due_same at new m (statement.Transfer t) = due_for at new m t.unit
due_same at new m statement.End = refl

-- whatever number stands in it
pub begun_with : (at : Place → Value) (new m : ℕ) (w : Statement) → begun at new (with_number m w) ≡ begun at new w
begun_with at new m w = ap (λ n. with_number n (with_number m w)) (due_same at new m w) ∙ with_twice m (option_map_or (number_due at new) (unit_of w) 0) w

-- as it begins it stays
pub begins_twice : (vars : Variables) (new : ℕ) (st : Stated) → begins vars new (begins vars new st) ≡ begins vars new st
begins_twice vars new st = ap (λ w. (record st.0 { what = w }, st.1)) (begun_with (value_at vars) new (option_map_or (number_due (value_at vars) new) (unit_of st.0.what) 0) st.0.what)

-- ---- what the number does not change

pub with_later : (n : ℕ) (w : Statement) → is_later (with_number n w) ≡ is_later w
with_later n (statement.Assign to from) = refl
with_later n (statement.OpenUnit u spec iostat) = refl
with_later n (statement.CloseUnit u keep iostat) = refl
with_later n (statement.WaitFor u id iostat) = refl
with_later n (statement.Move how u iostat) = refl
with_later n (statement.Inquire (subject.Unit u) asked id iostat _) = refl
with_later n (statement.Inquire (subject.File name) asked id iostat _) = refl
with_later n (statement.Transfer t) = refl
with_later n statement.End = refl
