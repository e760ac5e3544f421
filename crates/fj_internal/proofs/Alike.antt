-- Input by two connections that have the same lines ahead.
use Rattle.std.proofs.Common.{◌≡◌, ℕ, ◌+◌, ◌-◌, ◌==◌, Bool, true, false, cond, ltb, List, [], ◌∷◌, ◌++◌, length, take, drop, replicate, inl, inr, Result, Ok, Err, refl, sym, ap, subst, ◌∙◌, arith, add-zero}
use Rattle.std.proofs.lemmas.Bool.{ne_eqb, cases_lt}
use Rattle.std.proofs.lemmas.List.{drop-drop, drop_all, length-drop}
use Rattle.fj_value.specs.declared.edit.Edit.{Edit}
use Rattle.fj_value.specs.declared.edit.EditModes.{EditModes}
use Rattle.fj_value.specs.declared.kind.Kind.{Kind}
use Rattle.fj_value.specs.declared.value.Cell.{Cell}
use Rattle.fj_value.specs.declared.value.Value.{Value}
use Rattle.fj_value.specs.declared.value.Value.TheVariants.{Undefined}
use Rattle.fj_value.specs.declared.condition.Condition.{Condition}
use Rattle.fj_value.specs.declared.condition.Condition.TheVariants.{EndOfFile, EndOfRecord, Error}
use Rattle.fj_modes.specs.declared.specifiers.Access.{Access}
use Rattle.fj_modes.specs.declared.specifiers.Access.TheVariants.{Sequential, Direct}
use Rattle.fj_modes.specs.Words.{same_access}
use Rattle.fj_seqrec.specs.Lines.{lines, first_line, behind_line}
use Rattle.fj_seqrec.proofs.Positions.{line_feed_place}
use Rattle.fj_seqrec.proofs.LineLemmas.{lines_first}
use Rattle.fj_control.specs.Paired.{Part, item, string, move, slash, lacking}
use Rattle.fj_line.specs.Line.{position_behind}
use Rattle.fj_moved.specs.Cells.{with_value, kind_at}
use Rattle.fj_connect.specs.Connection.{Connection, bytes_behind, in_record, past_record}
use Rattle.fj_edit_in.specs.InputField.{input_field}
use Rattle.fj_transfer.specs.AtHand.{AtHand, behind, line_at, next_record, record_numbered}
use Rattle.fj_transfer.specs.Input.{Progress, Ended, stopped, width_for, with_field, field_read, without_padding, with_record, carried_out}

-- ---- connections

-- they are of sequential access, with records of the same limit, and the same lines stand behind their positions
pub record SameAhead (c d : Connection) : Type 0 where
  pub left : c.modes.access ≡ Sequential
  pub right : d.modes.access ≡ Sequential
  pub limit : c.modes.recl ≡ d.modes.recl
  pub lines : lines (bytes_behind c) ≡ lines (bytes_behind d)

pub record SameHands (h k : AtHand) : Type 0 where
  pub text : h.text ≡ k.text
  pub ahead : SameAhead (behind h) (behind k)

abbrev pub SameFound : Result AtHand Condition → Result AtHand Condition → Type 0
SameFound (Ok h) (Ok k) = SameHands h k
SameFound (Err a) (Err b) = a ≡ b
SameFound (Ok h) (Err b) = ⊥
SameFound (Err a) (Ok k) = ⊥

-- ---- the next record

-- a record that begins at the position, by the lines from there on
abbrev pub found : Connection → List (List ℕ) → Result AtHand Condition
found c [] = Err EndOfFile
found c (t ∷ ts) = cond (ltb c.modes.recl (length t)) (Err (Error 15)) (Ok (record { connection = in_record c c.spot.at 0; text = t }))

abbrev pub found_in : Connection → List ℕ → Result AtHand Condition
found_in c b = cond (length b == 0) (Err EndOfFile) (found c (first_line b ∷ []))

pub found_is : (c : Connection) (b : List ℕ) → found_in c b ≡ found c (lines b)
found_is c [] = refl
found_is c (y ∷ ys) =
    ap (λ t. cond t (Err EndOfFile) (found c (first_line (y ∷ ys) ∷ []))) (ne_eqb (length (y ∷ ys)) 0 (λ e. absurd (omega (arith, e))))
    ∙ ap (found c) (sym (lines_first (y ∷ ys) (omega arith)))

-- the lines behind the first
abbrev pub others : List (List ℕ) → List (List ℕ)
others [] = []
others (t ∷ ts) = ts

others_are : (b : List ℕ) → lines (behind_line b) ≡ others (lines b)
others_are [] = refl
others_are (y ∷ ys) = ap others (sym (lines_first (y ∷ ys) (omega arith)))

-- what stands behind a record
suffix_is : (bytes : List ℕ) (place : ℕ) → drop (length bytes - length (drop place bytes)) bytes ≡ drop place bytes
suffix_is bytes place = elim (cases_lt (length bytes) place) [
  | inl past ↦
      let all : length bytes - length (drop place bytes) ≡ length bytes = omega (arith, length-drop place bytes) in
      ap (λ n. drop n bytes) all ∙ drop_all (length bytes) bytes (omega arith) ∙ sym (drop_all place bytes (omega (arith, past)))
  | inr within ↦
      let same : length bytes - length (drop place bytes) ≡ place = omega (arith, length-drop place bytes) in
      ap (λ n. drop n bytes) same
]

behind_end : (c : Connection) → bytes_behind (past_record c) ≡ behind_line (bytes_behind c)
behind_end c =
    let place = c.spot.at + (line_feed_place (bytes_behind c) + 1) in
    let behind : behind_line (bytes_behind c) ≡ drop (c.spot.at + (line_feed_place (bytes_behind c) + 1)) c.bytes = drop-drop (line_feed_place (bytes_behind c) + 1) c.spot.at c.bytes in
    ap (λ b. drop (length c.bytes - length b) c.bytes) behind ∙ suffix_is c.bytes (c.spot.at + (line_feed_place (bytes_behind c) + 1)) ∙ sym behind

not_direct : (a : Access) → a ≡ Sequential → same_access a Direct ≡ false
not_direct a e = ap (λ x. same_access x Direct) e

pub behind_lines : (c : Connection) (t : List ℕ) → c.modes.access ≡ Sequential → let h : AtHand = record { connection = in_record c c.spot.at 0; text = t } in
    (lines (bytes_behind (behind h)) ≡ others (lines (bytes_behind c)))
behind_lines c t sequential =
    let x = in_record c c.spot.at 0 in
    let h : AtHand = record { connection = in_record c c.spot.at 0; text = t } in
    ap (λ b. lines (bytes_behind (cond b h.connection (past_record h.connection)))) (not_direct c.modes.access sequential)
    ∙ ap lines (behind_end x)
    ∙ ap (λ n. lines (behind_line (drop n c.bytes))) (add-zero c.spot.at)
    ∙ others_are (bytes_behind c)

pub behind_modes : (c : Connection) (t : List ℕ) → c.modes.access ≡ Sequential → let h : AtHand = record { connection = in_record c c.spot.at 0; text = t } in (behind h).modes ≡ c.modes
behind_modes c t sequential =
    let h : AtHand = record { connection = in_record c c.spot.at 0; text = t } in
    ap (λ b. (cond b h.connection (past_record h.connection)).modes) (not_direct c.modes.access sequential)

hands_ahead : (c d : Connection) (t : List ℕ) → SameAhead c d
    → SameHands (record { connection = in_record c c.spot.at 0; text = t }) (record { connection = in_record d d.spot.at 0; text = t })
hands_ahead c d t s = record {
  text = refl;
  ahead = record {
    left = ap (λ m. m.access) (behind_modes c t s.left) ∙ s.left;
    right = ap (λ m. m.access) (behind_modes d t s.right) ∙ s.right;
    limit = ap (λ m. m.recl) (behind_modes c t s.left) ∙ s.limit ∙ sym (ap (λ m. m.recl) (behind_modes d t s.right));
    lines = behind_lines c t s.left ∙ ap others s.lines ∙ sym (behind_lines d t s.right);
  };
}

found_fit : (c d : Connection) (t : List ℕ) (long : Bool) → SameAhead c d
    → SameFound (cond long (Err (Error 15)) (Ok (record { connection = in_record c c.spot.at 0; text = t }))) (cond long (Err (Error 15)) (Ok (record { connection = in_record d d.spot.at 0; text = t })))
found_fit c d t true s = refl
found_fit c d t false s = hands_ahead c d t s

found_same : (c d : Connection) (ls : List (List ℕ)) → SameAhead c d → SameFound (found c ls) (found d ls)
found_same c d [] s = refl
found_same c d (t ∷ ts) s =
    let P : ℕ → Type 0 = λ n. SameFound (found c (t ∷ ts)) (cond (ltb n (length t)) (Err (Error 15)) (Ok (record { connection = in_record d d.spot.at 0; text = t }))) in
    subst P s.limit (found_fit c d t (ltb c.modes.recl (length t)) s)

pub line_same : (c d : Connection) → SameAhead c d → SameFound (line_at c) (line_at d)
line_same c d s =
    let P : List (List ℕ) → Type 0 = λ ls. SameFound (found c (lines (bytes_behind c))) (found d ls) in
    let Q : Result AtHand Condition → Type 0 = λ r. SameFound r (line_at d) in
    let R : Result AtHand Condition → Type 0 = λ r. SameFound (found c (lines (bytes_behind c))) r in
    subst Q (sym (found_is c (bytes_behind c))) (subst R (sym (found_is d (bytes_behind d))) (subst P s.lines (found_same c d (lines (bytes_behind c)) s)))

pub next_is : (c : Connection) → c.modes.access ≡ Sequential → next_record c ≡ line_at c
next_is c e = ap (λ b. cond b (record_numbered c c.spot.next_number) (line_at c)) (not_direct c.modes.access e)

next_same : (c d : Connection) → SameAhead c d → SameFound (next_record c) (next_record d)
next_same c d s =
    let Q : Result AtHand Condition → Type 0 = λ r. SameFound r (next_record d) in
    let R : Result AtHand Condition → Type 0 = λ r. SameFound (line_at c) r in
    subst Q (sym (next_is c s.left)) (subst R (sym (next_is d s.right)) (line_same c d s))

-- ---- input under a format

-- where an input stands
abbrev pub standing : AtHand → ℕ → List Cell → ℕ → Progress
standing h at cells count = record { hand = h; at = at; cells = cells; count = count }

-- it ends with the same values, the same count and the same condition
pub record SameEnd (e f : Ended) : Type 0 where
  pub cells : e.progress.cells ≡ f.progress.cells
  pub count : e.progress.count ≡ f.progress.count
  pub condition : e.condition ≡ f.condition

abbrev pub GoesAlike : AtHand → AtHand → (Progress → Ended) → (Progress → Ended) → Type 0
GoesAlike h k next next' = (at : ℕ) (cells : List Cell) (count : ℕ) → SameEnd (next (standing h at cells count)) (next' (standing k at cells count))

outcome_same : (there advance pad : Bool) (h k : AtHand) (cell : ℕ) (read : ℕ × (List Cell × ℕ)) (at : ℕ) (cells : List Cell) (count : ℕ) (next next' : Progress → Ended) → GoesAlike h k next next'
    → SameEnd
    (cond there (next (standing h read.0 read.1.0 read.1.1)) (cond advance (cond pad (next (standing h read.0 read.1.0 read.1.1)) (stopped (Error 30) (standing h at cells count)))
    (cond pad (stopped EndOfRecord (standing h read.0 read.1.0 read.1.1)) (stopped EndOfRecord (standing h at (with_value cells cell Undefined) count)))))
    (cond there (next' (standing k read.0 read.1.0 read.1.1)) (cond advance (cond pad (next' (standing k read.0 read.1.0 read.1.1)) (stopped (Error 30) (standing k at cells count)))
    (cond pad (stopped EndOfRecord (standing k read.0 read.1.0 read.1.1)) (stopped EndOfRecord (standing k at (with_value cells cell Undefined) count)))))
outcome_same true advance pad h k cell read at cells count next next' go = go read.0 read.1.0 read.1.1
outcome_same false true true h k cell read at cells count next next' go = go read.0 read.1.0 read.1.1
outcome_same false true false h k cell read at cells count next next' go = record { cells = refl; count = refl; condition = refl }
outcome_same false false true h k cell read at cells count next next' go = record { cells = refl; count = refl; condition = refl }
outcome_same false false false h k cell read at cells count next next' go = record { cells = refl; count = refl; condition = refl }

pub field_same : (advance pad : Bool) (width : ℕ) (chars : List ℕ) (cell : ℕ) (r : Result Value Condition) (h k : AtHand) (at : ℕ) (cells : List Cell) (count : ℕ) (next next' : Progress → Ended) → GoesAlike h k next next'
    → SameEnd (field_read advance pad width chars cell r (standing h at cells count) next) (field_read advance pad width chars cell r (standing k at cells count) next')
field_same advance pad width chars cell (Err condition) h k at cells count next next' go = record { cells = refl; count = refl; condition = refl }
field_same advance pad width chars cell (Ok value) h k at cells count next next' go =
    let read = with_field width (length chars) cell value (standing h at cells count) in
    outcome_same (length chars == width) advance pad h k cell (read.at, (read.cells, read.count)) at cells count next next' go

-- what a field of a record gives
abbrev pub value_in : Edit → EditModes → Kind → ℕ → List ℕ → Result Value Condition
value_in e modes kind width chars = without_padding modes.pad width chars (input_field e kind modes.blank_zero (chars ++ replicate (width - length chars) 32))

with_record_same : (r r' : Result AtHand Condition) (h k : AtHand) (at : ℕ) (cells : List Cell) (count : ℕ) (next next' : Progress → Ended) → SameFound r r' → ((m n : AtHand) → SameHands m n → GoesAlike m n next next')
    → SameEnd (with_record r (standing h at cells count) next) (with_record r' (standing k at cells count) next')
with_record_same (Ok m) (Ok n) h k at cells count next next' s go = go m n s 0 cells count
with_record_same (Err a) (Err b) h k at cells count next next' s go = record { cells = refl; count = refl; condition = s }
with_record_same (Ok m) (Err b) h k at cells count next next' s go = absurd s
with_record_same (Err a) (Ok n) h k at cells count next next' s go = absurd s

pub input_same : (advance : Bool) (parts : List (Part ℕ)) (h k : AtHand) → SameHands h k → GoesAlike h k (carried_out advance parts) (carried_out advance parts)
input_same advance [] h k s at cells count = record { cells = refl; count = refl; condition = refl }
input_same advance (item modes e cell ∷ more) h k s at cells count =
    let width = width_for e (kind_at cells cell) in
    let P : List ℕ → Type 0 = λ text. SameEnd
    (field_read advance modes.pad width (take width (drop at h.text)) cell (value_in e modes (kind_at cells cell) width (take width (drop at h.text))) (standing h at cells count) (carried_out advance more))
    (field_read advance modes.pad width (take width (drop at text)) cell (value_in e modes (kind_at cells cell) width (take width (drop at text))) (standing k at cells count) (carried_out advance more)) in
    subst P s.text (field_same advance modes.pad width (take width (drop at h.text)) cell (value_in e modes (kind_at cells cell) width (take width (drop at h.text))) h k at cells count
    (carried_out advance more) (carried_out advance more) (input_same advance more h k s))
input_same advance (string c ∷ more) h k s at cells count = record { cells = refl; count = refl; condition = refl }
input_same advance (move m ∷ more) h k s at cells count = input_same advance more h k s (position_behind m at) cells count
input_same advance (slash ∷ more) h k s at cells count =
    with_record_same (next_record (behind h)) (next_record (behind k)) h k at cells count (carried_out advance more) (carried_out advance more) (next_same (behind h) (behind k) s.ahead) (λ m n t. input_same advance more m n t)
input_same advance (lacking ∷ more) h k s at cells count = record { cells = refl; count = refl; condition = refl }
