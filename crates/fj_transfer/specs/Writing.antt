-- What a writer has still to do.
use Rattle.std.specs.Prelude.{ℕ, ℤ, Bool, ◌≡◌, ◌<◌, ◌≤◌, List, [], ◌∷◌, ◌++◌, map, length, None, Result, Ok, Err}
use Rattle.fj_value.specs.declared.condition.Condition.{Condition}
use Rattle.fj_control.specs.Steps.{Given}
use Rattle.fj_control.specs.Paired.{paired}
use Rattle.fj_byterec.specs.Runs.{run_of}
use Rattle.fj_line.specs.declared.unwritten.Unwritten.{Unwritten}
use Rattle.fj_line.specs.declared.unwritten.Unwritten.TheVariants.{Met, Memory}
use Rattle.fj_line.specs.Actions.{Action, put, AtHand, carried_out}
use Rattle.fj_line.specs.Page.{at_hand}
use Rattle.fj_line.specs.Records.{texts_from}
use Rattle.fj_edit_out.specs.OutputField.{integer_field}
use Rattle.fj_moved.specs.Items.{Output, items_left}
use Rattle.fj_list.specs.ListText.{text_of}
use Rattle.fj_transfer.specs.declared.writer.Writer.{Writer}
use Rattle.fj_transfer.specs.Explicit.{action_of}
use Rattle.fj_transfer.specs.Printing.{Printed, open_count}

-- the items that it has still to write
abbrev pub items_of_writer : Writer → List Output
items_of_writer w = items_left w.items

-- integers one after another in fields of a width
abbrev pub row_of : Bool → ℕ → List ℤ → List Action
row_of plus w numbers = map (λ n. put (integer_field plus (w, None) n)) numbers

-- what it has still to do where these steps are due
abbrev pub actions_left : Writer → List Given → List Action
actions_left w due = map action_of (paired w.modes due (items_of_writer w))

-- the texts of the records that it has still to write where these steps are due, from the one at hand on
abbrev pub texts_left : List ℕ → Writer → List Given → List (List ℕ)
texts_left text w due = texts_from (at_hand w.page text).line (actions_left w due)

-- Of these actions the call carried out the first and left the others, or it met the first condition.
abbrev pub CarriesFirst : AtHand → List Action → Result (Unit {0}) Unwritten → AtHand → List Action → Type 0
CarriesFirst old all (Ok u) new rest = carried_out old all ≡ carried_out new rest
CarriesFirst old all (Err (Met condition)) new rest = carried_out old all ≡ Err condition
CarriesFirst old all (Err (Memory error)) new rest = Unit {0}

-- A call appends what is printed and answers how many characters the record has that stays open, or it meets the condition; a
-- condition and want of memory leave the text.
abbrev pub Prints : ℕ → Result Printed Condition → List ℕ → Result ℕ Unwritten → List ℕ → Type 0
Prints begun (Ok p) old (Ok count) new = (count ≡ open_count begun p) × (new ≡ old ++ (text_of p.records ++ p.«open»))
Prints begun (Ok p) old (Err (Met met)) new = ⊥
Prints begun (Ok p) old (Err (Memory error)) new = new ≡ old
Prints begun (Err condition) old (Ok count) new = ⊥
Prints begun (Err condition) old (Err (Met met)) new = (met ≡ condition) × (new ≡ old)
Prints begun (Err condition) old (Err (Memory error)) new = new ≡ old

-- A call appends the records that are printed, each filled up to its size, or it meets the condition. Nothing is said after
-- want of memory.
abbrev pub Fills : ℕ → Result Printed Condition → List ℕ → Result (Unit {0}) Unwritten → List ℕ → Type 0
Fills recl (Ok p) old (Ok u) new = new ≡ old ++ run_of recl 32 p.records
Fills recl (Ok p) old (Err (Met met)) new = ⊥
Fills recl (Err condition) old (Ok u) new = ⊥
Fills recl (Err condition) old (Err (Met met)) new = met ≡ condition
Fills recl printed old (Err (Memory error)) new = Unit {0}

-- no text is longer than this
abbrev pub AreShort : ℕ → List (List ℕ) → Type 0
AreShort limit [] = Unit {0}
AreShort limit (text ∷ texts) = (length text ≤ limit) × AreShort limit texts

-- bytes that are records of this size, at least one, none longer before it was filled up
pub record HasPieces (recl : ℕ) (records : List (List ℕ)) (run : List ℕ) : Type 0 where
  pub made : run ≡ run_of recl 32 records
  pub some : 0 < length records
  pub short : AreShort recl records
