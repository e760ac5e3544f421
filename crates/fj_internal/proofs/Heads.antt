-- Elements as records, one more at a time.
use Rattle.std.proofs.Common.{◌≡◌, ℕ, ◌<◌, ◌≤◌, ◌||◌, Bool, true, false, cond, List, [], ◌∷◌, length, Some, None, refl, sym, ap, ◌∙◌, arith}
use Rattle.std.specs.List.{list_any}
use Rattle.std.proofs.lemmas.Bool.{le-ltb, lt-ltb}
use Rattle.std.proofs.lemmas.List.{get_or_default}
use Rattle.std.proofs.lemmas.List.Folds.{list_any_at, list_any_none}
use Rattle.memchr.specs.Find.{NoneBefore, Nowhere, Passes, is_byte2}
use Rattle.fj_value.specs.declared.value.Cell.{Cell}
use Rattle.fj_value.specs.declared.condition.Condition.{Condition}
use Rattle.fj_value.specs.declared.condition.Condition.TheVariants.{EndOfFile, Error}
use Rattle.fj_value.specs.declared.edit.EditModes.{EditModes}
use Rattle.fj_control.specs.Steps.{Given}
use Rattle.fj_control.specs.Paired.{Part, slash, paired}
use Rattle.fj_list.specs.ListInput.{Outcome}
use Rattle.fj_list.specs.Scan.{IsOutcome}
use Rattle.fj_moved.specs.declared.moved.GroupMember.{GroupMember}
use Rattle.fj_moved.specs.declared.moved.Moved.{Moved}
use Rattle.fj_transfer.specs.Ahead.{ending_of}
use Rattle.fj_transfer.specs.Input.{Progress, stopped}
use Rattle.fj_transfer.specs.Printing.{control_of}
use Rattle.fj_transfer.specs.Transfer.{up_to_excess, behind_them}
use Rattle.fj_transfer.specs.declared.transfer.Layout.{Layout}
use Rattle.fj_transfer.specs.declared.transfer.Layout.TheVariants.{Group}
use Rattle.fj_internal.specs.Internal.{characters_of, is_line_end, holds_line_end, records_of}
use Rattle.fj_internal.specs.Records.{at_record, begins_in, explicit_taken, outcome_taken, taken_at, taken_ended, taken_out, records_taken}

-- ---- the ends of lines

pub end_found : (text : List ℕ) (k : ℕ) → NoneBefore (Passes (is_byte2 10 13) text) 0 (length text) k × Passes (is_byte2 10 13) text k → holds_line_end text ≡ true
end_found text k (none, here) = list_any_at is_line_end text k 0 none.high here

not_true : (b : Bool) → (b ≡ true → ⊥) → b ≡ false
not_true true h = absurd (h refl)
not_true false h = refl

pub end_none : (text : List ℕ) → Nowhere (Passes (is_byte2 10 13) text) 0 (length text) → holds_line_end text ≡ false
end_none text none =
    list_any_none is_line_end text (λ k d low. ap is_line_end (get_or_default text k d 0 low) ∙ not_true _ (none k (omega arith) low))

pub ends_here : (cells rest : List Cell) (cell : Cell) → cells ≡ cell ∷ rest → holds_line_end (characters_of cell.value) ≡ true → list_any holds_line_end (records_of cells) ≡ true
ends_here cells rest cell is held = ap (λ (cs : List Cell). list_any holds_line_end (records_of cs)) is ∙ ap (λ b. b || list_any holds_line_end (records_of rest)) held

pub ends_behind : (cells rest : List Cell) (cell : Cell) → cells ≡ cell ∷ rest → holds_line_end (characters_of cell.value) ≡ false
    → list_any holds_line_end (records_of rest) ≡ list_any holds_line_end (records_of cells)
ends_behind cells rest cell is none =
    sym (ap (λ (cs : List Cell). list_any holds_line_end (records_of cs)) is ∙ ap (λ b. b || list_any holds_line_end (records_of rest)) none)

pub no_ends : (cells : List Cell) → length cells ≡ 0 → list_any holds_line_end (records_of cells) ≡ false
no_ends [] h = refl
no_ends (cell ∷ cells) h = absurd (omega (arith, h))

-- ---- the records to come

pub first_of_records : (cells rest : List Cell) (cell : Cell) → cells ≡ cell ∷ rest → records_of cells ≡ characters_of cell.value ∷ records_of rest
first_of_records cells rest cell is = ap (λ (cs : List Cell). records_of cs) is

pub none_of_records : (cells : List Cell) → length cells ≡ 0 → records_of cells ≡ []
none_of_records [] h = refl
none_of_records (cell ∷ cells) h = absurd (omega (arith, h))

pub ahead_long : (text : List ℕ) (records : List (List ℕ)) → 65536 < length text
    → (up_to_excess 65536 (text ∷ records) ≡ []) × (ending_of (behind_them 65536 (text ∷ records)) ≡ Some (Error 15))
ahead_long text records long = (
  ap (λ b. cond b [] (text ∷ up_to_excess 65536 records)) (lt-ltb 65536 (length text) long),
  ap (λ b. ending_of (cond b (Error 15) (behind_them 65536 records))) (lt-ltb 65536 (length text) long),
)

pub ahead_short : (text : List ℕ) (records : List (List ℕ)) → length text ≤ 65536
    → (up_to_excess 65536 (text ∷ records) ≡ text ∷ up_to_excess 65536 records) × (ending_of (behind_them 65536 (text ∷ records)) ≡ ending_of (behind_them 65536 records))
ahead_short text records short = (
  ap (λ b. cond b [] (text ∷ up_to_excess 65536 records)) (le-ltb 65536 (length text) short),
  ap (λ b. ending_of (cond b (Error 15) (behind_them 65536 records))) (le-ltb 65536 (length text) short),
)

-- ---- the next record under a format

pub next_long : (advance : Bool) (more : List (Part ℕ)) (text : List ℕ) (records : List (List ℕ)) (p : Progress) → 65536 < length text
    → taken_out advance (slash ∷ more) (text ∷ records) p ≡ stopped (Error 15) p
next_long advance more text records p long = ap (λ b. cond b (stopped (Error 15) p) (taken_out advance more records (at_record text p))) (lt-ltb 65536 (length text) long)

pub next_short : (advance : Bool) (more : List (Part ℕ)) (text : List ℕ) (records : List (List ℕ)) (p : Progress) → length text ≤ 65536
    → taken_out advance (slash ∷ more) (text ∷ records) p ≡ taken_out advance more records (at_record text p)
next_short advance more text records p short = ap (λ b. cond b (stopped (Error 15) p) (taken_out advance more records (at_record text p))) (le-ltb 65536 (length text) short)

-- ---- what list-directed and namelist input comes to

pub outcome_read : (condition : Condition) (o : Outcome) (cells : List Cell) (left : List (List ℕ)) → IsOutcome condition o cells left → taken_at cells None condition ≡ outcome_taken o
outcome_read condition o cells left is = ap (λ x. taken_at x None condition) is.cells_are ∙ ap (taken_at o.cells None) is.condition_is

-- ---- the first record under a format

pub first_none : (advance : Bool) (modes : EditModes) (control : List Given) (moved : Moved) (cells : List Cell) → length cells ≡ 0
    → explicit_taken advance modes control moved (records_of cells) ≡ taken_at moved.cells None EndOfFile
first_none advance modes control moved cells none = ap (explicit_taken advance modes control moved) (none_of_records cells none)

pub first_long : (advance : Bool) (modes : EditModes) (control : List Given) (moved : Moved) (cells rest : List Cell) (cell : Cell) → cells ≡ cell ∷ rest → 65536 < length (characters_of cell.value)
    → explicit_taken advance modes control moved (records_of cells) ≡ taken_at moved.cells None (Error 15)
first_long advance modes control moved cells rest cell is long =
    ap (λ (cs : List Cell). explicit_taken advance modes control moved (records_of cs)) is
    ∙ ap (λ b. cond b (taken_at moved.cells None (Error 15)) (taken_ended (taken_out advance (paired modes control moved.order) (records_of rest) (begins_in (characters_of cell.value) moved.cells))))
    (lt-ltb 65536 (length (characters_of cell.value)) long)

pub first_short : (advance : Bool) (modes : EditModes) (control : List Given) (moved : Moved) (cells rest : List Cell) (cell : Cell) → cells ≡ cell ∷ rest → length (characters_of cell.value) ≤ 65536
    → explicit_taken advance modes control moved (records_of cells)
    ≡ taken_ended (taken_out advance (paired modes control moved.order) (records_of rest) (begins_in (characters_of cell.value) moved.cells))
first_short advance modes control moved cells rest cell is short =
    ap (λ (cs : List Cell). explicit_taken advance modes control moved (records_of cs)) is
    ∙ ap (λ b. cond b (taken_at moved.cells None (Error 15)) (taken_ended (taken_out advance (paired modes control moved.order) (records_of rest) (begins_in (characters_of cell.value) moved.cells))))
    (le-ltb 65536 (length (characters_of cell.value)) short)

-- ---- by equal layouts, under equal modes

pub same_taken : (l k : Layout) (m n : EditModes) (advance : Bool) (moved : Moved) (records : List (List ℕ)) → m ≡ n → k ≡ l
    → records_taken l (control_of l) advance m moved records ≡ records_taken k (control_of k) advance n moved records
same_taken l k m n advance moved records modes layout =
    ap (λ (x : EditModes). records_taken l (control_of l) advance x moved records) modes ∙ ap (λ (x : Layout). records_taken x (control_of x) advance n moved records) (sym layout)

pub same_group : (m : EditModes) (advance : Bool) (moved : Moved) (records : List (List ℕ)) (n k : List ℕ) (ms ks : List GroupMember) → n ≡ k → ms ≡ ks
    → records_taken (Group n ms) (control_of (Group n ms)) advance m moved records ≡ records_taken (Group k ks) (control_of (Group k ks)) advance m moved records
same_group m advance moved records n k ms ks name members =
    ap (λ (x : List ℕ). records_taken (Group x ms) (control_of (Group x ms)) advance m moved records) name
    ∙ ap (λ (x : List GroupMember). records_taken (Group k x) (control_of (Group k x)) advance m moved records) members
