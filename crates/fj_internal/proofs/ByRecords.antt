-- A READ of elements is one by their records.
use Rattle.std.proofs.Common.{◌≡◌, ℕ, Bool, true, false, cond, ltb, List, [], ◌∷◌, length, take, drop, get_or, inl, inr, Option, Some, None, Result, Ok, Err, refl, sym, ap, subst, ◌∙◌, arith}
use Rattle.std.specs.Prelude.{All, ◌≢◌}
use Rattle.std.specs.List.{list_any}
use Rattle.std.proofs.lemmas.List.Folds.{list_any_at}
use Rattle.fj_value.specs.declared.edit.EditModes.{EditModes}
use Rattle.fj_value.specs.declared.value.Cell.{Cell}
use Rattle.fj_value.specs.declared.condition.Condition.{Condition}
use Rattle.fj_value.specs.declared.condition.Condition.TheVariants.{Fine, EndOfFile, EndOfRecord, Error}
use Rattle.fj_modes.specs.Modes.{usual_edit}
use Rattle.fj_modes.specs.OpenSpec.{bare}
use Rattle.fj_modes.specs.declared.specifiers.Access.TheVariants.{Sequential}
use Rattle.fj_seqrec.specs.Lines.{lines}
use Rattle.fj_seqrec.proofs.LastLine.{lines_behind}
use Rattle.fj_control.specs.Steps.{Given}
use Rattle.fj_control.specs.Paired.{Part, item, string, move, slash, lacking, paired}
use Rattle.fj_line.specs.Line.{position_behind}
use Rattle.fj_list.specs.ListInput.{Outcome, list_input}
use Rattle.fj_moved.specs.Cells.{kind_at}
use Rattle.fj_list.specs.ListText.{text_of}
use Rattle.fj_moved.specs.declared.moved.Moved.{Moved}
use Rattle.fj_namelist.specs.GroupInput.{group_input}
use Rattle.fj_connect.specs.Connection.{Connection, bytes_behind, in_record}
use Rattle.fj_connect.specs.declared.spot.Within.TheVariants.{Outside}
use Rattle.fj_transfer.specs.AtHand.{AtHand, behind, next_record}
use Rattle.fj_transfer.specs.Change.{changed}
use Rattle.fj_transfer.specs.Input.{Ended, stopped, width_for, with_record, carried_out, field_read}
use Rattle.fj_transfer.specs.Transfer.{Ways, input_done, in_error, differ, is_formatted, read_by, explicit_read, records_read, records_to_come, condition_to_come, up_to_excess, behind_them}
use Rattle.fj_transfer.specs.declared.transfer.TransferSpec.{TransferSpec}
use Rattle.fj_transfer.specs.declared.transfer.Layout.{Layout}
use Rattle.fj_transfer.specs.declared.transfer.Layout.TheVariants.{Unformatted, Explicit, Listed, Group}
use Rattle.fj_internal.specs.Internal.{IsInput, file_of, taken_by, is_line_end, holds_line_end, records_of, read_inside}
use Rattle.fj_internal.specs.InternalLaws.{StandsAtRecords, HasNoLineEnd}
use Rattle.fj_internal.specs.Records.{taken_at, taken_out, taken_ended, begins_in, explicit_taken, outcome_taken, records_taken, at_record}
use Rattle.fj_internal.proofs.Alike.{SameEnd, GoesAlike, found, found_is, others, behind_lines, behind_modes, next_is, field_same, value_in, standing}
use Rattle.fj_internal.proofs.Reading as reading
use Rattle.fj_internal.proofs.LawProofs as law

-- ---- how an input ends

pub done_taken : (ways : Ways) (cells : List Cell) (count : Option ℕ) (k : Condition) → taken_by (input_done ways cells count k) ≡ taken_at cells count k
done_taken ways cells count Fine = refl
done_taken ways cells count EndOfFile = refl
done_taken ways cells count EndOfRecord = refl
done_taken ways cells count (Error n) = refl

ended_same : (e f : Ended) → SameEnd e f → taken_ended e ≡ taken_ended f
ended_same e f s =
    ap (λ x. taken_at x (Some e.progress.count) e.condition) s.cells
    ∙ ap (λ n. taken_at f.progress.cells (Some n) e.condition) s.count
    ∙ ap (taken_at f.progress.cells (Some f.progress.count)) s.condition

-- ---- under an explicit format

-- these lines stand behind the record at hand
pub record StandsBefore (h : AtHand) (records : List (List ℕ)) : Type 0 where
  pub sequential : (behind h).modes.access ≡ Sequential
  pub limit : (behind h).modes.recl ≡ 65536
  pub ahead : lines (bytes_behind (behind h)) ≡ records

abbrev hand_at : Connection → List ℕ → AtHand
hand_at c text = record { connection = in_record c c.spot.at 0; text = text }

stands_on : (c : Connection) (text : List ℕ) (records : List (List ℕ)) → c.modes.access ≡ Sequential → c.modes.recl ≡ 65536 → lines (bytes_behind c) ≡ text ∷ records → StandsBefore (hand_at c text) records
stands_on c text records sequential limit ahead = record {
  sequential = ap (λ m. m.access) (behind_modes c text sequential) ∙ sequential;
  limit = ap (λ m. m.recl) (behind_modes c text sequential) ∙ limit;
  ahead = behind_lines c text sequential ∙ ap others ahead;
}

by_length : (long advance : Bool) (more : List (Part ℕ)) (text : List ℕ) (records : List (List ℕ)) (c : Connection) (h k : AtHand) (at : ℕ) (cells : List Cell) (count : ℕ)
    → GoesAlike (hand_at c text) (record { connection = k.connection; text = text }) (carried_out advance more) (taken_out advance more records)
    → SameEnd (with_record (cond long (Err (Error 15)) (Ok (hand_at c text))) (standing h at cells count) (carried_out advance more))
    (cond long (stopped (Error 15) (standing k at cells count)) (taken_out advance more records (at_record text (standing k at cells count))))
by_length true advance more text records c h k at cells count go = record { cells = refl; count = refl; condition = refl }
by_length false advance more text records c h k at cells count go = go 0 cells count

-- the next record, where the rest goes alike from each record on
on_next : (advance : Bool) (more : List (Part ℕ)) (records : List (List ℕ)) (c : Connection) (h k : AtHand) (at : ℕ) (cells : List Cell) (count : ℕ)
    → c.modes.access ≡ Sequential → c.modes.recl ≡ 65536 → lines (bytes_behind c) ≡ records
    → ((rest : List (List ℕ)) (m n : AtHand) → m.text ≡ n.text → StandsBefore m rest → GoesAlike m n (carried_out advance more) (taken_out advance more rest))
    → SameEnd (with_record (found c records) (standing h at cells count) (carried_out advance more)) (taken_out advance (slash ∷ more) records (standing k at cells count))
on_next advance more [] c h k at cells count sequential limit ahead go = record { cells = refl; count = refl; condition = refl }
on_next advance more (text ∷ records) c h k at cells count sequential limit ahead go =
    let P : ℕ → Type 0 = λ n. SameEnd (with_record (cond (ltb n (length text)) (Err (Error 15)) (Ok (hand_at c text))) (standing h at cells count) (carried_out advance more))
    (taken_out advance (slash ∷ more) (text ∷ records) (standing k at cells count)) in
    subst P (sym limit) (by_length (ltb 65536 (length text)) advance more text records c h k at cells count
    (go records (hand_at c text) (record { connection = k.connection; text = text }) refl (stands_on c text records sequential limit ahead)))

next_found : (c : Connection) (records : List (List ℕ)) → c.modes.access ≡ Sequential → lines (bytes_behind c) ≡ records → next_record c ≡ found c records
next_found c records sequential ahead = next_is c sequential ∙ found_is c (bytes_behind c) ∙ ap (found c) ahead

pub out_same : (advance : Bool) (parts : List (Part ℕ)) (records : List (List ℕ)) (h k : AtHand) → h.text ≡ k.text → StandsBefore h records → GoesAlike h k (carried_out advance parts) (taken_out advance parts records)
out_same advance [] records h k t s at cells count = record { cells = refl; count = refl; condition = refl }
out_same advance (item modes e cell ∷ more) records h k t s at cells count =
    let width = width_for e (kind_at cells cell) in
    let P : List ℕ → Type 0 = λ text. SameEnd
    (field_read advance modes.pad width (take width (drop at h.text)) cell (value_in e modes (kind_at cells cell) width (take width (drop at h.text))) (standing h at cells count) (carried_out advance more))
    (field_read advance modes.pad width (take width (drop at text)) cell (value_in e modes (kind_at cells cell) width (take width (drop at text))) (standing k at cells count) (taken_out advance more records)) in
    subst P t (field_same advance modes.pad width (take width (drop at h.text)) cell (value_in e modes (kind_at cells cell) width (take width (drop at h.text))) h k at cells count
    (carried_out advance more) (taken_out advance more records) (out_same advance more records h k t s))
out_same advance (string c ∷ more) records h k t s at cells count = record { cells = refl; count = refl; condition = refl }
out_same advance (move m ∷ more) records h k t s at cells count = out_same advance more records h k t s (position_behind m at) cells count
out_same advance (slash ∷ more) records h k t s at cells count =
    let P : Result AtHand Condition → Type 0 = λ r. SameEnd (with_record r (standing h at cells count) (carried_out advance more)) (taken_out advance (slash ∷ more) records (standing k at cells count)) in
    subst P (sym (next_found (behind h) records s.sequential s.ahead))
    (on_next advance more records (behind h) h k at cells count s.sequential s.limit s.ahead (λ rest m n e b. out_same advance more rest m n e b))
out_same advance (lacking ∷ more) records h k t s at cells count = record { cells = refl; count = refl; condition = refl }

-- ---- the first record

first_length : (long advance : Bool) (modes : EditModes) (control : ℕ → List Given) (moved : Moved) (text : List ℕ) (records : List (List ℕ)) (c : Connection) → StandsBefore (hand_at c text) records
    → taken_by (explicit_read c c advance modes control moved (cond long (Err (Error 15)) (Ok (hand_at c text))))
    ≡ cond long (taken_at moved.cells None (Error 15)) (taken_ended (taken_out advance (paired modes (control (length moved.order)) moved.order) records (begins_in text moved.cells)))
first_length true advance modes control moved text records c s = refl
first_length false advance modes control moved text records c s =
    let parts = paired modes (control (length moved.order)) moved.order in
    let e = carried_out advance (paired modes (control (length moved.order)) moved.order) (standing (hand_at c text) 0 moved.cells 0) in
    done_taken _ e.progress.cells (Some e.progress.count) e.condition
    ∙ ended_same e (taken_out advance parts records (begins_in text moved.cells)) (out_same advance parts records (hand_at c text) (record { connection = file_of bare []; text = text }) refl s 0 moved.cells 0)

explicit_is : (advance : Bool) (modes : EditModes) (control : ℕ → List Given) (moved : Moved) (records : List (List ℕ)) (c : Connection) → c.modes.access ≡ Sequential → c.modes.recl ≡ 65536 → lines (bytes_behind c) ≡ records
    → taken_by (explicit_read c c advance modes control moved (found c records)) ≡ explicit_taken advance modes (control (length moved.order)) moved records
explicit_is advance modes control moved [] c sequential limit ahead = refl
explicit_is advance modes control moved (text ∷ records) c sequential limit ahead =
    ap (λ n. taken_by (explicit_read c c advance modes control moved (cond (ltb n (length text)) (Err (Error 15)) (Ok (hand_at c text))))) limit
    ∙ first_length (ltb 65536 (length text)) advance modes control moved text records c (stands_on c text records sequential limit ahead)

-- ---- by the layout

outcome_is : (c : Connection) (cells : List Cell) (o p : Outcome) → o ≡ p → taken_by (records_read c c cells o) ≡ outcome_taken p
outcome_is c cells o p e = done_taken _ o.cells None o.condition ∙ ap outcome_taken e

to_come : (c : Connection) (records : List (List ℕ)) → c.spot.within ≡ Outside → c.modes.recl ≡ 65536 → lines (bytes_behind c) ≡ records → records_to_come c ≡ up_to_excess 65536 records
to_come c records within limit ahead = reading.records_are c within ∙ ap (λ n. up_to_excess n (lines (bytes_behind c))) limit ∙ ap (up_to_excess 65536) ahead

ending_is : (c : Connection) (records : List (List ℕ)) → c.spot.within ≡ Outside → c.modes.recl ≡ 65536 → lines (bytes_behind c) ≡ records → condition_to_come c ≡ behind_them 65536 records
ending_is c records within limit ahead = reading.condition_is c within ∙ ap (λ n. behind_them n (lines (bytes_behind c))) limit ∙ ap (behind_them 65536) ahead

by_layout : (l : Layout) (control : ℕ → List Given) (c : Connection) (spec : TransferSpec) (modes : EditModes) (moved : Moved) (records : List (List ℕ)) → StandsAtRecords c → c.modes.recl ≡ 65536 → lines (bytes_behind c) ≡ records
    → taken_by (cond (differ true (is_formatted l)) (in_error c true moved.cells (Error 16)) (read_by l control c c spec modes moved)) ≡ records_taken l control spec.advance modes moved records
by_layout Unformatted control c spec modes moved records o limit ahead = refl
by_layout (Explicit f) control c spec modes moved records o limit ahead =
    ap (λ r. taken_by (explicit_read c c spec.advance modes control moved r)) (reading.first_is c o.access o.within ∙ found_is c (bytes_behind c) ∙ ap (found c) ahead)
    ∙ explicit_is spec.advance modes control moved records c o.access limit ahead
by_layout Listed control c spec modes moved records o limit ahead =
    outcome_is c moved.cells _ _
    (ap (λ r. list_input modes.comma r (condition_to_come c) moved.cells moved.order) (to_come c records o.within limit ahead)
    ∙ ap (λ k. list_input modes.comma (up_to_excess 65536 records) k moved.cells moved.order) (ending_is c records o.within limit ahead))
by_layout (Group name members) control c spec modes moved records o limit ahead =
    outcome_is c moved.cells _ _
    (ap (λ r. group_input modes.comma r (condition_to_come c) name members moved.cells) (to_come c records o.within limit ahead)
    ∙ ap (λ k. group_input modes.comma (up_to_excess 65536 records) k name members moved.cells) (ending_is c records o.within limit ahead))

-- ---- the statement

none_any : {A : Type 0} (p : A → Bool) (xs : List A) → list_any p xs ≡ false → All (λ x. p x ≡ false) xs
none_any p xs none k d low = by (p (get_or xs k d)) refl
  where
    by : (b : Bool) → p (get_or xs k d) ≡ b → p (get_or xs k d) ≡ false
    by false e = e
    by true e =
        let h : true ≡ false = sym (list_any_at p xs k d low e) ∙ none in
        cc

no_end : (c : ℕ) → is_line_end c ≡ false → (c ≢ 10) × (c ≢ 13)
no_end c h = (λ e. both (sym (law.is_end c (inl e)) ∙ h), λ e. both (sym (law.is_end c (inr e)) ∙ h))
  where
    both : true ≡ false → ⊥
    both e = cc

clean : (text : List ℕ) → holds_line_end text ≡ false → HasNoLineEnd text
clean text h k d low = no_end _ (none_any is_line_end text h k d low)

lines_are : (records : List (List ℕ)) → list_any holds_line_end records ≡ false → lines (text_of records) ≡ records
lines_are records none = lines_behind [] records (λ some. absurd (omega (arith, some))) (λ k d low. law.plain _ (clean _ (none_any holds_line_end records none k d low)))

stands : (bytes : List ℕ) → StandsAtRecords (file_of bare bytes)
stands bytes = record { access = refl; formatted = refl; edit = refl; within = refl; after_end = refl }

pub records_are_taken : (control : ℕ → List Given) (elements : List Cell) (spec : TransferSpec) (moved : Moved) → list_any holds_line_end (records_of elements) ≡ false → IsInput spec
    → records_taken spec.layout control spec.advance (changed spec.edit usual_edit) moved (records_of elements) ≡ read_inside control elements spec moved
records_are_taken control elements spec moved none is =
    let c = file_of bare (text_of (records_of elements)) in
    sym (by_layout spec.layout control c spec (changed spec.edit usual_edit) moved (records_of elements) (stands (text_of (records_of elements))) refl (lines_are (records_of elements) none))
    ∙ sym (ap (λ b. taken_by (cond (differ true (is_formatted spec.layout)) (in_error c b moved.cells (Error 16)) (read_by spec.layout control c c spec (changed spec.edit usual_edit) moved))) is.input)
    ∙ sym (ap taken_by (reading.read_is control c spec moved (stands (text_of (records_of elements))) refl is))
    ∙ law.read_is control elements spec moved (text_of (records_of elements)) none refl
