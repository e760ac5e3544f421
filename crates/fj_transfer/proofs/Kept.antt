-- The facts of a transfer stay where its cells get other values at their places.
use Rattle.std.proofs.Common.{◌≡◌, ℕ, ◌<◌, ◌^◌, List, length, sym, subst}
use Rattle.std.specs.Prelude.{All}
use Rattle.fj_moved.proofs.MovedLemmas.{distinct_kept, count_kept}
use Rattle.fj_moved.specs.Cells.{places_of}
use Rattle.fj_moved.specs.Moved.{AreDistinct, IsOrdered}
use Rattle.fj_moved.specs.declared.moved.Moved.{Moved}
use Rattle.fj_namelist.specs.GroupText.{IsWithin}
use Rattle.fj_transfer.specs.Moving.{members_of}
use Rattle.fj_transfer.specs.declared.transfer.Layout.{Layout}

-- what a transfer says of what it moves
pub record IsMoved (layout : Layout) (moved : Moved) : Type 0 where
  pub distinct : AreDistinct moved.cells
  pub ordered : IsOrdered moved
  pub few : length moved.order < 2 ^ 32
  pub grouped : All (IsWithin (length moved.cells)) (members_of layout)

pub kept : (layout : Layout) (old new : Moved) → new.order ≡ old.order → places_of new.cells ≡ places_of old.cells → IsMoved layout old → IsMoved layout new
kept layout old new order places is =
    let count : length new.cells ≡ length old.cells = count_kept old.cells new.cells places in
    let cells : All (λ at. at < length new.cells) old.order = subst (λ (n : ℕ). All (λ at. at < n) old.order) (sym count) is.ordered in
    record {
      distinct = distinct_kept old.cells new.cells places is.distinct;
      ordered = subst (All (λ at. at < length new.cells)) (sym order) cells;
      few = subst (λ (l : List ℕ). length l < 2 ^ 32) (sym order) is.few;
      grouped = subst (λ (n : ℕ). All (IsWithin n) (members_of layout)) (sym count) is.grouped;
    }
