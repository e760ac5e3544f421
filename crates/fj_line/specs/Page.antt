-- The record at hand at the end of a text, and what a call does to it.
use Rattle.std.specs.Prelude.{ℕ, ◌+◌, ◌^◌, ◌≡◌, ◌≤◌, ◌==◌, if◌then◌else◌, max, List, length, take, drop, Option, Some, None, Result, Ok, Err}
use Rattle.std.specs.declared.alloc.AllocError.{AllocError}
use Rattle.fj_value.specs.declared.condition.Condition.{Condition}
use Rattle.fj_line.specs.declared.page.Page.{Page}
use Rattle.fj_line.specs.declared.unwritten.Unwritten.{Unwritten}
use Rattle.fj_line.specs.declared.unwritten.Unwritten.TheVariants.{Met, Memory}
use Rattle.fj_line.specs.Actions.{Action, AtHand, carried_out}

-- the record at hand of a page in a text
abbrev pub at_hand : Page → List ℕ → AtHand
at_hand page text = record {
  limit = page.limit;
  start = page.start;
  ended = drop page.begin (take page.line text);
  line = record { at = page.at; text = drop page.line text };
}

-- the page is one of the text
pub record IsIn (page : Page) (text : List ℕ) : Type 0 where
  pub begin : page.begin ≤ page.line
  pub line : page.line ≤ length text
  pub near : page.at ≤ 2 ^ 63

-- and its position is at the end of the text
pub record IsAtEnd (page : Page) (text : List ℕ) : Type 0 where
  pub begin : page.begin ≤ page.line
  pub at : page.line + page.at ≡ length text

-- what stood in the text before the statement stays
pub record Keeps (old : Page) (before : List ℕ) (new : Page) (behind : List ℕ) : Type 0 where
  pub begin : new.begin ≡ old.begin
  pub front : take old.begin behind ≡ take old.begin before

-- The actions are carried out, or the answer is the first condition. Nothing is said after want of memory.
abbrev pub Carries : AtHand → List Action → Result (Unit {0}) Unwritten → AtHand → Type 0
Carries old actions (Ok u) new = carried_out old actions ≡ Ok new
Carries old actions (Err (Met condition)) new = carried_out old actions ≡ Err condition
Carries old actions (Err (Memory error)) new = Unit {0}

-- what is told of a statement whose output is not written
abbrev pub told_by : Unwritten → Result Condition AllocError
told_by (Met condition) = Ok condition
told_by (Memory error) = Err error

-- the width of a line behind so many characters at a position
abbrev pub widened : ℕ → ℕ → ℕ → ℕ
widened width at count = if count == 0 then width else max width (at + count)

-- the answer tells this condition, or none where there is none
abbrev pub Tells : Option Condition → Result (Unit {0}) Unwritten → Type 0
Tells condition (Ok u) = condition ≡ None
Tells condition (Err (Met met)) = condition ≡ Some met
Tells condition (Err (Memory error)) = Unit {0}
