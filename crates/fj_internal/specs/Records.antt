-- A READ by the records that it reads, without a file: what the elements of an internal file give.
use Rattle.std.specs.Prelude.{ℕ, ◌*◌, ◌<◌, ◌≤◌, ◌^◌, nat_lt, Bool, List, [], ◌∷◌, length, drop, All, Option, Some, None, if◌then◌else◌}
use Rattle.fj_value.specs.declared.edit.EditModes.{EditModes}
use Rattle.fj_value.specs.declared.value.Cell.{Cell}
use Rattle.fj_value.specs.declared.condition.Condition.{Condition}
use Rattle.fj_value.specs.declared.condition.Condition.TheVariants.{Fine, EndOfFile, EndOfRecord, Error}
use Rattle.fj_modes.specs.Limits.{longest_formatted}
use Rattle.fj_modes.specs.OpenSpec.{bare}
use Rattle.fj_line.specs.Line.{position_behind}
use Rattle.fj_list.specs.ListInput.{Outcome, list_input}
use Rattle.fj_moved.specs.Cells.{kind_at}
use Rattle.fj_moved.specs.Load.{with_undefined}
use Rattle.fj_moved.specs.declared.moved.Moved.{Moved}
use Rattle.fj_namelist.specs.GroupInput.{group_input}
use Rattle.fj_control.specs.Steps.{Given}
use Rattle.fj_control.specs.Paired.{Part, item, string, move, slash, lacking, paired}
use Rattle.fj_transfer.specs.Input.{Progress, Ended, stopped, field_from}
use Rattle.fj_transfer.specs.Transfer.{up_to_excess, behind_them}
use Rattle.fj_transfer.specs.declared.explicit.Performed.{Performed}
use Rattle.fj_transfer.specs.declared.transfer.Layout.{Layout}
use Rattle.fj_transfer.specs.declared.transfer.Layout.TheVariants.{Unformatted, Explicit, Listed, Group}
use Rattle.fj_internal.specs.Internal.{Taken, file_of}
use Rattle.fj_internal.specs.declared.reader.Reader.{Reader}
use Rattle.fj_internal.specs.Internal.{records_of}

-- ---- how it ends

-- an error and the end of the records leave the items undefined, and SIZE= without a count
abbrev pub taken_at : List Cell → Option ℕ → Condition → Taken
taken_at cells count Fine = record { cells = cells; count = count; condition = Fine }
taken_at cells count EndOfRecord = record { cells = cells; count = count; condition = EndOfRecord }
taken_at cells count EndOfFile = record { cells = with_undefined cells; count = None; condition = EndOfFile }
taken_at cells count (Error n) = record { cells = with_undefined cells; count = None; condition = Error n }

-- the values with what was performed
abbrev pub taken_with : List Cell → Performed → Taken
taken_with cells performed = record { cells = cells; count = performed.count; condition = performed.condition }

-- ---- under an explicit format

-- another record is at hand, from its first character on
abbrev pub at_record : List ℕ → Progress → Progress
at_record text p = record p { hand = record p.hand { text = text }; at = 0 }

-- What the format and the items ask for, from the left to the right, up to the first condition; these are the records behind
-- the one at hand. Nothing else of the one at hand counts but its characters.
abbrev pub taken_out : Bool → List (Part ℕ) → List (List ℕ) → Progress → Ended
taken_out advance [] records p = stopped Fine p
taken_out advance (item modes e cell ∷ more) records p = field_from advance e modes (kind_at p.cells cell) cell p (taken_out advance more records)
taken_out advance (string s ∷ more) records p = stopped (Error 29) p
taken_out advance (move m ∷ more) records p = taken_out advance more records (record p { at = position_behind m p.at })
taken_out advance (slash ∷ more) [] p = stopped EndOfFile p
taken_out advance (slash ∷ more) (text ∷ records) p = if nat_lt longest_formatted (length text) then stopped (Error 15) p else taken_out advance more records (at_record text p)
taken_out advance (lacking ∷ more) records p = stopped (Error 11) p

-- before the first character of a record
abbrev pub begins_in : List ℕ → List Cell → Progress
begins_in text cells = record { hand = record { connection = file_of bare []; text = text }; at = 0; cells = cells; count = 0 }

abbrev pub taken_ended : Ended → Taken
taken_ended e = taken_at e.progress.cells (Some e.progress.count) e.condition

-- the first of the records is at hand, whatever the format
abbrev pub explicit_taken : Bool → EditModes → List Given → Moved → List (List ℕ) → Taken
explicit_taken advance modes control moved [] = taken_at moved.cells None EndOfFile
explicit_taken advance modes control moved (text ∷ records) =
    if nat_lt longest_formatted (length text) then taken_at moved.cells None (Error 15)
    else taken_ended (taken_out advance (paired modes control moved.order) records (begins_in text moved.cells))

-- ---- list-directed and namelist

abbrev pub outcome_taken : Outcome → Taken
outcome_taken o = taken_at o.cells None o.condition

abbrev pub listed_taken : EditModes → Moved → List (List ℕ) → Taken
listed_taken modes moved records = outcome_taken (list_input modes.comma (up_to_excess longest_formatted records) (behind_them longest_formatted records) moved.cells moved.order)

-- ---- by the layout

abbrev pub records_taken : Layout → (ℕ → List Given) → Bool → EditModes → Moved → List (List ℕ) → Taken
records_taken Unformatted control advance modes moved records = taken_at moved.cells None (Error 16)
records_taken (Explicit f) control advance modes moved records = explicit_taken advance modes (control (length moved.order)) moved records
records_taken Listed control advance modes moved records = listed_taken modes moved records
records_taken (Group name members) control advance modes moved records =
    outcome_taken (group_input modes.comma (up_to_excess longest_formatted records) (behind_them longest_formatted records) name members moved.cells)

-- ---- a reader

-- where it stands
abbrev pub progress_of : Reader → List Cell → Progress
progress_of r cells = record { hand = record { connection = file_of bare []; text = r.text.now }; at = r.at; cells = cells; count = r.count }

-- the records behind the one at hand
abbrev pub records_behind : Reader → List (List ℕ)
records_behind r = records_of r.behind.now

-- the items that are left, with what is due of the format
abbrev pub items_left : Reader → List ℕ
items_left r = drop r.next r.order.now

abbrev pub parts_left : Reader → List Given → List (Part ℕ)
parts_left r due = paired r.modes due (items_left r)

-- what holds of each reader of items with so many cells
pub record IsReady (r : Reader) (cells : ℕ) : Type 0 where
  pub near : r.at ≤ 2 ^ 63
  pub few : length r.order.now < 2 ^ 32
  pub taken : r.next ≤ length r.order.now
  pub count : r.count ≤ r.next * 4294967295
  pub ordered : All (λ at. at < cells) r.order.now
