-- The records that list-directed and namelist input looks at, and where it comes to.
use Rattle.std.proofs.Common.{◌≡◌, ◌<◌, ◌≤◌, ◌+◌, ◌-◌, ℕ, zero, suc, true, false, cond, List, [], ◌∷◌, length, drop, Option, Some, None, arith, refl, sym, ap, subst, ◌∙◌, inl, inr}
use Rattle.std.specs.Prelude.{nat_lt, unwrap_or, IfOk, Result, Ok, Err}
use Rattle.fj_outside.specs.declared.errors.Stop.{Stop}
use Rattle.fj_connect.specs.declared.spot.Spot.{Spot}
use Rattle.fj_connect.specs.Spot.{is_reading, size_ended}
use Rattle.fj_list.specs.Scan.{IsOutcome}
use Rattle.std.proofs.lemmas.Bool.{cases_lt, lt-ltb, le-ltb}
use Rattle.std.proofs.lemmas.List.{drop_all, drop-drop, length-drop}
use Rattle.fj_value.specs.declared.value.Cell.{Cell}
use Rattle.fj_value.specs.declared.condition.Condition.{Condition}
use Rattle.fj_value.specs.declared.condition.Condition.TheVariants.{Fine, EndOfFile, EndOfRecord, Error}
use Rattle.fj_seqrec.specs.declared.read.RecordRead.{RecordRead}
use Rattle.fj_seqrec.specs.declared.read.RecordRead.TheVariants.{Line, End, TooLong}
use Rattle.fj_seqrec.specs.Lines.{lines, first_line, behind_line}
use Rattle.fj_seqrec.specs.Reading.{record_at, HoldsRecord}
use Rattle.fj_seqrec.proofs.Positions.{line_feed_place}
use Rattle.fj_seqrec.proofs.LineLemmas.{lines_first}
use Rattle.fj_seqrec.proofs.ReadLaws.{at_line, at_long, at_end}
use Rattle.fj_list.specs.ListInput.{Outcome, condition_of}
use Rattle.fj_connect.specs.Connection.{Connection, bytes_behind, rest_of_record, begun, between, past_record, past_end}
use Rattle.fj_connect.specs.Positions.{ended}
use Rattle.fj_connect.specs.declared.spot.Within.{Within}
use Rattle.fj_connect.specs.declared.spot.Within.TheVariants.{Outside, Reading, Writing}
use Rattle.fj_transfer.specs.Ahead.{ending_of, IsNextRecord, rest_read, behind_looked_at, ways_from, come_to, Begun, HasCome, Comes}
use Rattle.fj_transfer.specs.declared.reached.Reached.{Reached}
use Rattle.fj_transfer.specs.Places.{at_place, IsPlace}
use Rattle.fj_transfer.specs.Transfer.{input_done, up_to_excess, behind_them, rest_exceeds, records_to_come, condition_to_come, past_records, records_read}

-- ---- the lines of bytes

-- a suffix is found by its length
suffix_is : (bytes : List ℕ) (place : ℕ) → drop (length bytes - length (drop place bytes)) bytes ≡ drop place bytes
suffix_is bytes place = elim (cases_lt (length bytes) place) [
  | inl past ↦
      let all : length bytes - length (drop place bytes) ≡ length bytes = omega (arith, length-drop place bytes) in
      ap (λ n. drop n bytes) all ∙ drop_all (length bytes) bytes (omega arith) ∙ sym (drop_all place bytes (omega (arith, past)))
  | inr within ↦
      let same : length bytes - length (drop place bytes) ≡ place = omega (arith, length-drop place bytes) in
      ap (λ n. drop n bytes) same
]

behind_is : (bytes : List ℕ) (at : ℕ) → drop (length bytes - length (behind_line (drop at bytes))) bytes ≡ behind_line (drop at bytes)
behind_is bytes at =
    let behind : behind_line (drop at bytes) ≡ drop (at + (line_feed_place (drop at bytes) + 1)) bytes = drop-drop (line_feed_place (drop at bytes) + 1) at bytes in
    ap (λ b. drop (length bytes - length b) bytes) behind ∙ suffix_is bytes (at + (line_feed_place (drop at bytes) + 1)) ∙ sym behind

-- a line that fits is the first of the records, and one that is too long ends them
line_fits : (limit : ℕ) (line : List ℕ) (more : List (List ℕ)) → length line ≤ limit → (up_to_excess limit (line ∷ more) ≡ line ∷ up_to_excess limit more) × (behind_them limit (line ∷ more) ≡ behind_them limit more)
line_fits limit line more short =
    (ap (λ b. cond b [] (line ∷ up_to_excess limit more)) (le-ltb limit (length line) short), ap (λ b. cond b (Error 15) (behind_them limit more)) (le-ltb limit (length line) short))

line_exceeds : (limit : ℕ) (line : List ℕ) (more : List (List ℕ)) → limit < length line → (up_to_excess limit (line ∷ more) ≡ []) × (behind_them limit (line ∷ more) ≡ Error 15)
line_exceeds limit line more long =
    (ap (λ b. cond b [] (line ∷ up_to_excess limit more)) (lt-ltb limit (length line) long), ap (λ b. cond b (Error 15) (behind_them limit more)) (lt-ltb limit (length line) long))

-- ---- a record that begins at a place

at_end_of_file : (c : Connection) (at : ℕ) (text : List ℕ) → length c.bytes ≤ at → IsNextRecord (Some at) c End text
at_end_of_file c at text past =
    let none : drop at c.bytes ≡ [] = drop_all at c.bytes past in
    (ap (λ b. up_to_excess c.modes.recl (lines b)) none, ap (λ b. behind_them c.modes.recl (lines b)) none)

at_long_line : (c : Connection) (at : ℕ) (text : List ℕ) → 0 < length (drop at c.bytes) → c.modes.recl < length (first_line (drop at c.bytes)) → IsNextRecord (Some at) c TooLong text
at_long_line c at text some long =
    let is = lines_first (drop at c.bytes) some in
    let exceeds = line_exceeds c.modes.recl (first_line (drop at c.bytes)) (lines (behind_line (drop at c.bytes))) long in
    (ap (up_to_excess c.modes.recl) is ∙ exceeds.0, ap (behind_them c.modes.recl) is ∙ exceeds.1)

at_some_line : (c : Connection) (at : ℕ) (text : List ℕ) → 0 < length (drop at c.bytes) → length (first_line (drop at c.bytes)) ≤ c.modes.recl → text ≡ first_line (drop at c.bytes)
    → IsNextRecord (Some at) c (Line (length c.bytes - length (behind_line (drop at c.bytes)))) text
at_some_line c at text some short holds =
    let is = lines_first (drop at c.bytes) some in
    let rest = behind_line (drop at c.bytes) in
    let fits = line_fits c.modes.recl (first_line (drop at c.bytes)) (lines (behind_line (drop at c.bytes))) short in
    let behind = sym (behind_is c.bytes at) in (
      ap (up_to_excess c.modes.recl) is ∙ fits.0 ∙ ap (λ b. first_line (drop at c.bytes) ∷ up_to_excess c.modes.recl (lines b)) behind
          ∙ ap (λ (l : List ℕ). l ∷ up_to_excess c.modes.recl (lines (drop (length c.bytes - length (behind_line (drop at c.bytes))) c.bytes))) (sym holds),
      ap (behind_them c.modes.recl) is ∙ fits.1 ∙ ap (λ b. behind_them c.modes.recl (lines b)) behind,
      refl,
    )

looked_at : (c : Connection) (at : ℕ) (read : RecordRead) (text : List ℕ) → read ≡ record_at c.bytes at c.modes.recl → HoldsRecord c.bytes at read text → IsNextRecord (Some at) c read text
looked_at c at read text is =
    let P : RecordRead → Type 0 = λ r. HoldsRecord c.bytes at r text → IsNextRecord (Some at) c r text in
    elim (cases_lt 0 (length (drop at c.bytes))) [
      | inr none ↦
          let past : length c.bytes ≤ at = omega (arith, none, length-drop at c.bytes) in
          subst P (at_end c.bytes at c.modes.recl past ∙ sym is) (λ h. at_end_of_file c at text past)
      | inl some ↦ elim (cases_lt c.modes.recl (length (first_line (drop at c.bytes)))) [
        | inl long ↦ subst P (at_long c.bytes at c.modes.recl some long ∙ sym is) (λ h. at_long_line c at text some long)
        | inr short ↦
            let line = at_line c.bytes at c.modes.recl (first_line (drop at c.bytes)) (length c.bytes - length (behind_line (drop at c.bytes))) (record { some = some; first = refl; behind = refl }) short in
            subst P (line ∙ sym is) (λ h. at_some_line c at text some short h)
      ]
    ]

-- ---- the record at the position

-- outside a record it is the one that begins there
outside_a_record : (c : Connection) (read : RecordRead) (text : List ℕ) → c.spot.within ≡ Outside → IsNextRecord (Some c.spot.at) c read text → IsNextRecord None c read text
outside_a_record c read text w =
    let records : records_to_come (between c c.spot.at) ≡ records_to_come c =
    ap (λ b. cond b (cond (rest_exceeds c) [] (rest_of_record c ∷ up_to_excess c.modes.recl (lines (bytes_behind (past_record c))))) (up_to_excess c.modes.recl (lines (bytes_behind c)))) (sym (ap is_reading w)) in
    let condition : condition_to_come (between c c.spot.at) ≡ condition_to_come c =
    ap (λ b. cond b (cond (rest_exceeds c) (Error 15) (behind_them c.modes.recl (lines (bytes_behind (past_record c))))) (behind_them c.modes.recl (lines (bytes_behind c)))) (sym (ap is_reading w)) in
    elim read as (λ r. IsNextRecord (Some c.spot.at) c r text → IsNextRecord None c r text) [
      | Line next ↦ λ h. (sym records ∙ h.0, sym condition ∙ h.1, h.2)
      | End ↦ λ h. (sym records ∙ h.0, sym condition ∙ h.1)
      | TooLong ↦ λ h. (sym records ∙ h.0, sym condition ∙ h.1)
    ]

-- the rest of the record at hand
reading_records : (c : Connection) → c.spot.within ≡ Reading → records_to_come c ≡ cond (rest_exceeds c) [] (rest_of_record c ∷ up_to_excess c.modes.recl (lines (bytes_behind (past_record c))))
reading_records c w =
    ap (λ b. cond b (cond (rest_exceeds c) [] (rest_of_record c ∷ up_to_excess c.modes.recl (lines (bytes_behind (past_record c))))) (up_to_excess c.modes.recl (lines (bytes_behind c)))) (ap is_reading w)

reading_condition : (c : Connection) → c.spot.within ≡ Reading → condition_to_come c ≡ cond (rest_exceeds c) (Error 15) (behind_them c.modes.recl (lines (bytes_behind (past_record c))))
reading_condition c w =
    ap (λ b. cond b (cond (rest_exceeds c) (Error 15) (behind_them c.modes.recl (lines (bytes_behind (past_record c))))) (behind_them c.modes.recl (lines (bytes_behind c)))) (ap is_reading w)

rest_long : (c : Connection) (text : List ℕ) → c.spot.within ≡ Reading → c.modes.recl < begun c + length (rest_of_record c) → IsNextRecord None c TooLong text
rest_long c text w long =
    let exceeds : rest_exceeds c ≡ true = lt-ltb c.modes.recl (begun c + length (rest_of_record c)) long in (
      reading_records c w ∙ ap (λ b. cond b [] (rest_of_record c ∷ up_to_excess c.modes.recl (lines (bytes_behind (past_record c))))) exceeds,
      reading_condition c w ∙ ap (λ b. cond b (Error 15) (behind_them c.modes.recl (lines (bytes_behind (past_record c))))) exceeds,
    )

rest_fits : (c : Connection) (text : List ℕ) (next : ℕ) → c.spot.within ≡ Reading → begun c + length (rest_of_record c) ≤ c.modes.recl → text ≡ rest_of_record c → past_record c ≡ between c next → IsNextRecord None c (Line next) text
rest_fits c text next w short holds past =
    let fits : rest_exceeds c ≡ false = le-ltb c.modes.recl (begun c + length (rest_of_record c)) short in (
      reading_records c w ∙ ap (λ b. cond b [] (rest_of_record c ∷ up_to_excess c.modes.recl (lines (bytes_behind (past_record c))))) fits
          ∙ ap (λ (p : Connection). rest_of_record c ∷ up_to_excess c.modes.recl (lines (bytes_behind p))) past ∙ ap (λ (l : List ℕ). l ∷ records_to_come (between c next)) (sym holds),
      reading_condition c w ∙ ap (λ b. cond b (Error 15) (behind_them c.modes.recl (lines (bytes_behind (past_record c))))) fits
          ∙ ap (λ (p : Connection). behind_them c.modes.recl (lines (bytes_behind p))) past,
      past,
    )

none_left : (n : ℕ) → n - 0 ≡ n
none_left n = omega arith

-- one that fits or not
rest_either : (c : Connection) (text : List ℕ) (next : ℕ) → c.spot.within ≡ Reading → text ≡ rest_of_record c → past_record c ≡ between c next
    → IsNextRecord None c (cond (nat_lt c.modes.recl (begun c + length text)) TooLong (Line next)) text
rest_either c text next w holds past =
    let P : RecordRead → Type 0 = λ r. IsNextRecord None c r text in
    elim (cases_lt c.modes.recl (begun c + length text)) [
      | inl long ↦ subst P (ap (λ b. cond b TooLong (Line next)) (sym (lt-ltb c.modes.recl (begun c + length text) long))) (rest_long c text w (omega (arith, long, ap length holds)))
      | inr short ↦ subst P (ap (λ b. cond b TooLong (Line next)) (sym (le-ltb c.modes.recl (begun c + length text) short))) (rest_fits c text next w (omega (arith, short, ap length holds)) holds past)
    ]

rest_looked_at : (c : Connection) (read : RecordRead) (text : List ℕ) → c.spot.within ≡ Reading → read ≡ record_at c.bytes c.spot.at c.modes.recl → HoldsRecord c.bytes c.spot.at read text
    → IsNextRecord None c (rest_read c.modes.recl (begun c) (length c.bytes) text read) text
rest_looked_at c read text w is =
    let at = c.spot.at in
    let P : RecordRead → Type 0 = λ r. HoldsRecord c.bytes c.spot.at r text → IsNextRecord None c (rest_read c.modes.recl (begun c) (length c.bytes) text r) text in
    elim (cases_lt 0 (length (bytes_behind c))) [
      | inr none ↦
          let past : length c.bytes ≤ c.spot.at = omega (arith, none, length-drop c.spot.at c.bytes) in
          let nothing : bytes_behind c ≡ [] = drop_all c.spot.at c.bytes past in
          let last : length c.bytes - length (behind_line (bytes_behind c)) ≡ length c.bytes = ap (λ b. length c.bytes - length (behind_line b)) nothing ∙ none_left (length c.bytes) in
          subst P (at_end c.bytes c.spot.at c.modes.recl past ∙ sym is) (λ h. rest_either c text (length c.bytes) w (h ∙ ap first_line (sym nothing)) (ap (between c) last))
      | inl some ↦ elim (cases_lt c.modes.recl (length (rest_of_record c))) [
        | inl long ↦ subst P (at_long c.bytes c.spot.at c.modes.recl some long ∙ sym is) (λ h. rest_long c text w (omega (arith, long)))
        | inr short ↦
            let line = at_line c.bytes c.spot.at c.modes.recl (rest_of_record c) (length c.bytes - length (behind_line (bytes_behind c))) (record { some = some; first = refl; behind = refl }) short in
            subst P (line ∙ sym is) (λ h. rest_either c text (length c.bytes - length (behind_line (bytes_behind c))) w h refl)
      ]
    ]

-- ---- the same of the connection once its open record is ended

ended_limit_by : (c : Connection) (within : Within) → c.spot.within ≡ within → (ended c).modes.recl ≡ c.modes.recl
ended_limit_by c Outside w = rw w refl
ended_limit_by c Reading w = rw w refl
ended_limit_by c Writing w = rw w refl

pub place_looked_at : (c : Connection) (at : ℕ) (read : RecordRead) (text : List ℕ) → read ≡ record_at (ended c).bytes at c.modes.recl → HoldsRecord (ended c).bytes at read text → IsNextRecord (Some at) (ended c) read text
place_looked_at c at read text is holds = looked_at (ended c) at read text (is ∙ ap (record_at (ended c).bytes at) (sym (ended_limit_by c c.spot.within refl))) holds

pub here_outside : (c : Connection) (read : RecordRead) (text : List ℕ) → c.spot.within ≡ Outside → read ≡ record_at (ended c).bytes c.spot.at c.modes.recl → HoldsRecord (ended c).bytes c.spot.at read text
    → IsNextRecord None (ended c) read text
here_outside c read text w is holds =
    let same : c ≡ ended c = rw w refl in
    let here : IsNextRecord (Some c.spot.at) c read text = subst (λ (x : Connection). IsNextRecord (Some c.spot.at) x read text) (sym same) (place_looked_at c c.spot.at read text is holds) in
    subst (λ (x : Connection). IsNextRecord None x read text) same (outside_a_record c read text w here)

pub here_writing : (c : Connection) (read : RecordRead) (text : List ℕ) → c.spot.within ≡ Writing → read ≡ record_at (ended c).bytes (c.spot.at + 1) c.modes.recl → HoldsRecord (ended c).bytes (c.spot.at + 1) read text
    → IsNextRecord None (ended c) read text
here_writing c read text w is holds =
    let same : ended c ≡ between (ended c) (c.spot.at + 1) = rw w refl in
    elim read as (λ r. IsNextRecord (Some (c.spot.at + 1)) (ended c) r text → IsNextRecord None (ended c) r text) [
      | Line next ↦ λ h. (ap records_to_come same ∙ h.0, ap condition_to_come same ∙ h.1, ap past_record same ∙ h.2)
      | End ↦ λ h. (ap records_to_come same ∙ h.0, ap condition_to_come same ∙ h.1)
      | TooLong ↦ λ h. (ap records_to_come same ∙ h.0, ap condition_to_come same ∙ h.1)
    ] (place_looked_at c (c.spot.at + 1) read text is holds)

pub here_reading : (c : Connection) (read : RecordRead) (text : List ℕ) → c.spot.within ≡ Reading → read ≡ record_at c.bytes c.spot.at c.modes.recl → HoldsRecord c.bytes c.spot.at read text
    → IsNextRecord None (ended c) (rest_read c.modes.recl (begun c) (length c.bytes) text read) text
here_reading c read text w is holds =
    let same : c ≡ ended c = rw w refl in
    subst (λ (x : Connection). IsNextRecord None x (rest_read c.modes.recl (begun c) (length c.bytes) text read) text) same (rest_looked_at c read text w is holds)

-- ---- record by record

past_more : (records : List (List ℕ)) (c : Connection) → past_records records (past_record c) ≡ past_record (past_records records c)
past_more [] c = refl
past_more (line ∷ more) c = past_more more (past_record c)

further : (n : ℕ) (records : List (List ℕ)) (c : Connection) → n < length records → past_records (drop n records) c ≡ past_record (past_records (drop (suc n) records) c)
further n [] c low = absurd (omega (arith, low))
further zero (line ∷ more) c low = past_more more c
further (suc n) (line ∷ more) c low = further n more c (omega (arith, low))

pub nothing_looked_at : (c : Connection) → behind_looked_at c (length (records_to_come c)) ≡ c
nothing_looked_at c = ap (λ (l : List (List ℕ)). past_records l c) (drop_all (length (records_to_come c)) (records_to_come c) (omega arith))

pub one_further : (c now next : Connection) (text : List ℕ) → length (records_to_come now) ≤ length (records_to_come c) → behind_looked_at c (length (records_to_come now)) ≡ now
    → records_to_come now ≡ text ∷ records_to_come next → past_record now ≡ next
    → (length (records_to_come next) ≤ length (records_to_come c)) × (behind_looked_at c (length (records_to_come next)) ≡ next)
one_further c now next text low is come past =
    let long : length (records_to_come now) ≡ suc (length (records_to_come next)) = ap length come in (
      omega (arith, low, long),
      further (length (records_to_come next)) (records_to_come c) c (omega (arith, low, long)) ∙ ap past_record (ap (behind_looked_at c) (sym long) ∙ is) ∙ past,
    )

-- ---- what the input comes to

pub behind_all : (condition : Condition) → condition_of (ending_of condition) ≡ condition
behind_all Fine = refl
behind_all EndOfFile = refl
behind_all EndOfRecord = refl
behind_all (Error n) = refl

pub same_connection : (a b : Connection) → a.modes ≡ b.modes → a.name ≡ b.name → a.bytes ≡ b.bytes → a.spot ≡ b.spot → a ≡ b
same_connection a b modes name bytes spot =
    ap (λ x. record { modes = x; name = a.name; bytes = a.bytes; spot = a.spot }) modes
    ∙ ap (λ x. record { modes = b.modes; name = x; bytes = a.bytes; spot = a.spot }) name
    ∙ ap (λ x. record { modes = b.modes; name = b.name; bytes = x; spot = a.spot }) bytes
    ∙ ap (λ x. record { modes = b.modes; name = b.name; bytes = b.bytes; spot = x }) spot

-- the end of the file is where it is, wherever the input began
end_anywhere : (c : Connection) (place : Option ℕ) → past_end c ≡ past_end (at_place place c)
end_anywhere c None = refl
end_anywhere c (Some place) = refl

pub comes_to : (old : Connection) (place : Option ℕ) (reached : Reached) (cells before : List Cell) (o : Outcome) → Comes reached cells (ended old) place o
    → input_done (ways_from old reached.place) cells None reached.condition ≡ records_read old (at_place place (ended old)) before o
comes_to old place reached cells before o is =
    let behind = behind_looked_at (at_place place (ended old)) (length o.left) in
    ap (λ (x : Connection). input_done (record { old = old; end_of_file = past_end (ended old); end_of_record = old; fine = x }) cells None reached.condition) is.place_is
    ∙ ap (λ (x : Connection). input_done (record { old = old; end_of_file = x; end_of_record = old; fine = behind }) cells None reached.condition) (end_anywhere (ended old) place)
    ∙ ap (λ (x : List Cell). input_done (record { old = old; end_of_file = past_end (at_place place (ended old)); end_of_record = old; fine = behind }) x None reached.condition) is.cells_are
    ∙ ap (λ (k : Condition). input_done (record { old = old; end_of_file = past_end (at_place place (ended old)); end_of_record = old; fine = behind }) o.cells None k) is.condition_is

-- ---- the same of answers

pub outside_if : (r : Result RecordRead Stop) (c : Connection) (s : Spot) (text : List ℕ) → s ≡ c.spot → s.within ≡ Outside
    → IfOk r (λ read. read ≡ record_at (ended c).bytes s.at c.modes.recl) → IfOk r (λ read. HoldsRecord (ended c).bytes s.at read text) → IfOk r (λ read. IsNextRecord None (ended c) read text)
outside_if (Err stop) c s text e w is holds = tt
outside_if (Ok read) c s text e w is holds =
    here_outside c read text (ap (λ (x : Spot). x.within) (sym e) ∙ w) (is ∙ ap (λ (x : Spot). record_at (ended c).bytes x.at c.modes.recl) e) (subst (λ (x : Spot). HoldsRecord (ended c).bytes x.at read text) e holds)

pub writing_if : (r : Result RecordRead Stop) (c : Connection) (s : Spot) (text : List ℕ) → s ≡ c.spot → s.within ≡ Writing
    → IfOk r (λ read. read ≡ record_at (ended c).bytes (s.at + 1) c.modes.recl) → IfOk r (λ read. HoldsRecord (ended c).bytes (s.at + 1) read text) → IfOk r (λ read. IsNextRecord None (ended c) read text)
writing_if (Err stop) c s text e w is holds = tt
writing_if (Ok read) c s text e w is holds =
    here_writing c read text (ap (λ (x : Spot). x.within) (sym e) ∙ w) (is ∙ ap (λ (x : Spot). record_at (ended c).bytes (x.at + 1) c.modes.recl) e) (subst (λ (x : Spot). HoldsRecord (ended c).bytes (x.at + 1) read text) e holds)

pub place_if : (r : Result RecordRead Stop) (c : Connection) (place : Option ℕ) (at : ℕ) (text : List ℕ) → place ≡ Some at
    → IfOk r (λ read. read ≡ record_at (ended c).bytes at c.modes.recl) → IfOk r (λ read. HoldsRecord (ended c).bytes at read text) → IfOk r (λ read. IsNextRecord place (ended c) read text)
place_if (Err stop) c place at text e is holds = tt
place_if (Ok read) c place at text e is holds = subst (λ (x : Option ℕ). IsNextRecord x (ended c) read text) (sym e) (place_looked_at c at read text is holds)

-- ---- the input over its records

pub place_from : (place : Option ℕ) (size : ℕ) → IsPlace place size → unwrap_or place 0 ≤ size
place_from None size h = omega arith
place_from (Some at) size h = h

pub place_to : (place : Option ℕ) (size : ℕ) → unwrap_or place 0 ≤ size → IsPlace place size
place_to None size h = tt
place_to (Some at) size h = h

pub starts : (tells : Type 0) (now : Connection) (size : ℕ) (place : Option ℕ) (b : Begun) → b ≡ record { connection = now; size = size; place = place } → IsPlace place (size_ended now.spot size)
    → HasCome tells now size place b
starts tells now size place b is within =
    let P : Begun → Type 0 = λ x. HasCome tells now size place x in
    subst P (sym is) (record {
      modes = refl;
      name = refl;
      spot = refl;
      bytes = λ t. refl;
      extent = refl;
      within = place_from place (size_ended now.spot size) within;
      fewer = λ t. omega arith;
      behind = λ t. nothing_looked_at (at_place place (ended now));
    })

pub same_as : (tells : Type 0) (now old : Connection) (size before : ℕ) (to place : Option ℕ) (b : Begun) → HasCome tells now size to b → b ≡ record { connection = old; size = before; place = place } → tells → now ≡ old
same_as tells now old size before to place b h is t =
    same_connection now b.connection h.modes h.name (h.bytes t) h.spot ∙ ap (λ (x : Begun). x.connection) is

pub goes_further : (tells : Type 0) (now : Connection) (size : ℕ) (place : Option ℕ) (b : Begun) (next : ℕ) (text : List ℕ) → HasCome tells now size place b → next ≤ size_ended now.spot size
    → (tells → IsNextRecord place (ended now) (Line next) text) → HasCome tells now size (Some next) b
goes_further tells now size place b next text h within come =
    let same : tells → now ≡ b.connection = λ t. same_connection now b.connection h.modes h.name (h.bytes t) h.spot in
    let there : tells → IsNextRecord place (ended b.connection) (Line next) text = λ t. subst (λ (x : Connection). IsNextRecord place (ended x) (Line next) text) (same t) (come t) in
    let on : tells → (length (records_to_come (come_to b (Some next))) ≤ length (records_to_come (come_to b b.place))) × (behind_looked_at (come_to b b.place) (length (records_to_come (come_to b (Some next)))) ≡ come_to b (Some next)) =
    λ t. one_further (come_to b b.place) (come_to b place) (come_to b (Some next)) text (h.fewer t) (h.behind t) (there t).0 (there t).2 in
    record {
      modes = h.modes;
      name = h.name;
      spot = h.spot;
      bytes = h.bytes;
      extent = h.extent;
      within = within;
      fewer = λ t. (on t).0;
      behind = λ t. (on t).1;
    }

pub came : (tells : Type 0) (now old : Connection) (size before : ℕ) (to place : Option ℕ) (b : Begun) → HasCome tells now size to b → b ≡ record { connection = old; size = before; place = place } → tells
    → (condition : Condition) (cells : List Cell) (o : Outcome) → IsOutcome condition o cells (records_to_come (at_place to (ended now))) → Comes (record { condition = condition; place = to }) cells (ended old) place o
came tells now old size before to place b h is t condition cells o out =
    let P : Begun → Type 0 = λ x. HasCome tells now size to x in
    let h' = subst P is h in
    let same = same_as tells now old size before to place b h is t in
    record {
      condition_is = out.condition_is;
      cells_are = out.cells_are;
      place_is = sym (h'.behind t)
          ∙ ap (λ (l : List (List ℕ)). behind_looked_at (at_place place (ended old)) (length l)) (ap (λ (x : Connection). records_to_come (at_place to (ended x))) (sym same) ∙ out.left_are);
    }

-- the same behind a look that read the file
pub further_on : (tells tells' : Type 0) (now now' : Connection) (size size' : ℕ) (place : Option ℕ) (b : Begun) (next : ℕ) (text : List ℕ) → HasCome tells now size place b → (tells' → tells)
    → now' ≡ record now { bytes = now'.bytes } → (tells → now'.bytes ≡ now.bytes) → size' ≡ size → (tells → IsNextRecord place (ended now) (Line next) text) → next ≤ size_ended now.spot size
    → HasCome tells' now' size' (Some next) b
further_on tells tells' now now' size size' place b next text h told like same extent come within =
    let on = goes_further tells now size place b next text h within come in
    let spot : now'.spot ≡ now.spot = ap (λ (x : Connection). x.spot) like in
    record {
      modes = ap (λ (x : Connection). x.modes) like ∙ on.modes;
      name = ap (λ (x : Connection). x.name) like ∙ on.name;
      spot = spot ∙ on.spot;
      bytes = λ t. same (told t) ∙ on.bytes (told t);
      extent = extent ∙ on.extent;
      within = subst (λ (x : Spot). next ≤ size_ended x size') (sym spot) (subst (λ (n : ℕ). next ≤ size_ended now.spot n) (sym extent) within);
      fewer = λ t. on.fewer (told t);
      behind = λ t. on.behind (told t);
    }

-- what stays, told or not
pub record Stays (now old : Connection) (size before : ℕ) (to : Option ℕ) : Type 0 where
  pub modes : now.modes ≡ old.modes
  pub name : now.name ≡ old.name
  pub spot : now.spot ≡ old.spot
  pub extent : size ≡ before
  pub within : IsPlace to (size_ended old.spot before)

pub stays : (tells : Type 0) (now old : Connection) (size before : ℕ) (to place : Option ℕ) (b : Begun) → HasCome tells now size to b → b ≡ record { connection = old; size = before; place = place } → Stays now old size before to
stays tells now old size before to place b h is =
    let P : Begun → Type 0 = λ x. HasCome tells now size to x in
    let h' = subst P is h in
    record {
      modes = h'.modes;
      name = h'.name;
      spot = h'.spot;
      extent = h'.extent;
      within = subst (λ (x : Spot). IsPlace to (size_ended x before)) h'.spot (subst (λ (n : ℕ). IsPlace to (size_ended now.spot n)) h'.extent (place_to to (size_ended now.spot size) h'.within));
    }
