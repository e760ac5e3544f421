-- The file that a statement names is at home where no unit has it.
use Rattle.std.proofs.Common.{◌≡◌, ◌||◌, ℕ, Bool, true, false, List, [], ◌∷◌, Some, None, refl, ap, ◌∙◌}
use Rattle.std.specs.Prelude.{◌==◌, if◌then◌else◌, IfSome}
use Rattle.std.proofs.lemmas.Bool.{eq-eqb}
use Rattle.std.specs.Str.{bytes_eq}
use Rattle.fj_statement.specs.declared.unit.Subject.{Subject}
use Rattle.fj_statement.specs.declared.unit.Subject.TheVariants as subject
use Rattle.fj_meaning.specs.Needs.{unit_about}
use Rattle.fj_meaning.specs.Statement.{file_asked}
use Rattle.fj_meaning_jobs.specs.Core.{Connected, connected_at, has_name, unit_named}
use Rattle.fj_run_units.specs.Having.{HaveFiles}
use Rattle.fj_run_units.specs.Names.{stands}
use Rattle.fj_run_units.specs.Units.{is_taken}
use Rattle.fj_run_units.proofs.Having.{bytes_back}
use Rattle.fj_run_statements.proofs.HavingLemmas.{free_there}

-- the unit that has a file is connected
named_found : (us : List Connected) (name : List ℕ) (n : ℕ) → unit_named us name ≡ Some n → connected_at us n ≡ None → ⊥
named_found [] name n named none = (let bad : ⊥ = cc in bad)
named_found (u ∷ us) name n named none = by (bytes_eq u.name name) refl (named_found us name n)
  where
    numbered : (b : Bool) → (if b then Some u.number else unit_named us name) ≡ Some n → b ≡ true → u.number ≡ n
    numbered true e t = (let is : u.number ≡ n = cc in is)
    numbered false e t = absurd (let bad : ⊥ = cc in bad)

    unfound : (b : Bool) → (if b then Some u else connected_at us n) ≡ None → connected_at us n ≡ None
    unfound true e = absurd (let bad : ⊥ = cc in bad)
    unfound false e = e

    other : (b : Bool) → (if b then Some u.number else unit_named us name) ≡ Some n → b ≡ false → unit_named us name ≡ Some n
    other true e f = absurd (let bad : ⊥ = cc in bad)
    other false e f = e

    not_first : (b : Bool) → (if b then Some u else connected_at us n) ≡ None → b ≡ true → ⊥
    not_first true e t = (let bad : ⊥ = cc in bad)
    not_first false e t = (let bad : ⊥ = cc in bad)

    by : (b : Bool) → bytes_eq u.name name ≡ b → (unit_named us name ≡ Some n → connected_at us n ≡ None → ⊥) → ⊥
    by true e rest = not_first (u.number == n) none (eq-eqb u.number n (numbered (bytes_eq u.name name) named e))
    by false e rest = rest (other (bytes_eq u.name name) named e) (unfound (u.number == n) none)

-- no unit has it
none_has : (us : List Connected) (name : List ℕ) → unit_named us name ≡ None → has_name us name ≡ false
none_has [] name none = refl
none_has (u ∷ us) name none = by (bytes_eq u.name name) (bytes_back name u.name) none (none_has us name)
  where
    by : (b : Bool) → bytes_eq name u.name ≡ b → (if b then Some u.number else unit_named us name) ≡ None → (unit_named us name ≡ None → has_name us name ≡ false)
        → (bytes_eq name u.name || has_name us name) ≡ false
    by true e found rest = absurd (let bad : ⊥ = cc in bad)
    by false e found rest = ap (λ b. b || has_name us name) e ∙ rest found

-- the file of OPEN, where its unit is not connected
pub free_home : (names : List (List ℕ)) (us : List Connected) (number : ℕ) (name : List ℕ) → HaveFiles names us → connected_at us number ≡ None → is_taken us number name ≡ false
    → stands names name ≡ false
free_home names us number name have none free = have.0 name ∙ free_there us number name none free

-- the file of INQUIRE, where it asks about no unit
pub nobody_home : (names : List (List ℕ)) (us : List Connected) (about : Subject) → HaveFiles names us → unit_about (unit_named us) about ≡ None
    → IfSome (file_asked about) (λ (name : List ℕ). stands names name ≡ false)
nobody_home names us (subject.Unit u) have is = tt
nobody_home names us (subject.File name) have is = have.0 name ∙ none_has us name is

-- the file of INQUIRE, where the unit that it asks about is not connected
pub unknown_home : (names : List (List ℕ)) (us : List Connected) (about : Subject) (n : ℕ) → unit_about (unit_named us) about ≡ Some n → connected_at us n ≡ None
    → IfSome (file_asked about) (λ (name : List ℕ). stands names name ≡ false)
unknown_home names us (subject.Unit u) n is none = tt
unknown_home names us (subject.File name) n is none = absurd (named_found us name n is none)
