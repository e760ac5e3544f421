-- What holds of every format that was read, and of its items.
use Rattle.std.specs.Prelude.{ℕ, ◌≤◌, List, length}
use Rattle.fj_format.specs.declared.item.FormatItem.{FormatItem}
use Rattle.fj_format.specs.Grammar.{IsFormat}
use Rattle.fj_format.specs.Unfolding.{pass, height}

-- Some text is a format with these items, however long one pass of it is.
pub record IsWritten (items : List FormatItem) : Type 0 where
  pub written : ∥ ((text : List ℕ) × IsFormat text items) ∥₁
  pub low : height items ≤ 31

-- Some text is a format with these items, one pass of which has no more elementary steps than a format may have.
pub record IsSound (items : List FormatItem) : Type 0 where
  pub written : ∥ ((text : List ℕ) × IsFormat text items) ∥₁
  pub short : length (pass items) ≤ 1000000
  pub low : height items ≤ 31
