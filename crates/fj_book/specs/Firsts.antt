-- The first transfer of a unit.
use Rattle.std.specs.Prelude.{◌≡◌, ◌≤◌, ℕ, true, false, List, find, All, Some, None}
use Rattle.fj_book.specs.declared.pending.Pending.{Pending}
use Rattle.fj_book.specs.Entries.{is_of_unit, tag_of, IsAscending}

-- the transfer of a unit that is found first has the least identifier of them; none is found exactly where none is pending
pub record FirstIsLeast : Type 0 where
  pub of_unit : (book : List Pending) (unit : ℕ) (e : Pending) → find (is_of_unit unit) book ≡ Some e → is_of_unit unit e ≡ true
  pub least : (book : List Pending) (unit : ℕ) (e : Pending) → IsAscending book → find (is_of_unit unit) book ≡ Some e → All (λ other. is_of_unit unit other ≡ true → tag_of e ≤ tag_of other) book
  pub none : (book : List Pending) (unit : ℕ) → find (is_of_unit unit) book ≡ None → All (λ other. is_of_unit unit other ≡ false) book
