-- A record that is read in pieces.
use Rattle.std.proofs.Common.{◌≡◌, ℕ, ◌+◌, ◌≤◌, min, Bool, true, false, cond, List, ◌++◌, length, drop, Some, None, Ok, Err, refl, sym, ap, subst, ◌∙◌, arith}
use Rattle.std.proofs.lemmas.Bool.{le-ltb}
use Rattle.std.proofs.lemmas.List.{length-drop}
use Rattle.fj_value.specs.declared.value.Cell.{Cell}
use Rattle.fj_value.specs.declared.condition.Condition.{Condition}
use Rattle.fj_value.specs.declared.condition.Condition.TheVariants.{Fine, EndOfFile, EndOfRecord, Error}
use Rattle.fj_modes.specs.declared.modes.Modes.{Modes}
use Rattle.fj_modes.specs.declared.specifiers.Access.TheVariants.{Direct}
use Rattle.fj_modes.specs.Words.{same_access}
use Rattle.fj_control.specs.Steps.{steps}
use Rattle.fj_control.specs.Paired.{paired}
use Rattle.fj_connect.specs.Connection.{Connection, rest_of_record, past_end, begun}
use Rattle.fj_connect.specs.Spot.{spot_past_end}
use Rattle.fj_connect.specs.declared.spot.Spot.{Spot}
use Rattle.fj_connect.specs.declared.spot.Within.TheVariants.{Outside}
use Rattle.fj_transfer.specs.AtHand.{AtHand, behind, first_record, rest_at, record_numbered}
use Rattle.fj_transfer.specs.Change.{changed}
use Rattle.fj_transfer.specs.Input.{Ended, carried_out, left_at}
use Rattle.fj_transfer.specs.Transfer.{Done, Ways, input_done, explicit_ended, is_forbidden, transfer}
use Rattle.fj_transfer_laws.specs.Statements.{reading, moving}
use Rattle.fj_transfer_laws.specs.Pieces.{IsOneRead, PiecesAreOneRead}
use Rattle.fj_transfer_laws.proofs.Going.{goes_on, advancing}
use Rattle.fj_transfer_laws.proofs.Split.{parts_split, parts_ahead}
use Rattle.fj_transfer_laws.proofs.Alike.{SameEnd, shifted, piece_of, rest_shifted, alike}
use Rattle.fj_transfer_laws.proofs.Begun.{IsFit, fits, SameFile, IsHand, IsSerial, first_hand, hand_kept, stands_at, starting, reads_as, fine_read}

-- ---- two ends as what two statements come to

abbrev one_done : Connection → List Cell → ℕ → Done
one_done c cells count = record { connection = c; cells = cells; count = Some count; condition = Fine }

-- by the condition that both end with
by_condition : (first : Done) (n : ℕ) (ways all : Ways) (cells : List Cell) (count total : ℕ) (condition : Condition) → first.count ≡ Some n → total ≡ n + count → ways.end_of_file ≡ all.end_of_file → ways.end_of_record ≡ all.end_of_record → ways.fine ≡ all.fine
    → IsOneRead first (input_done ways cells (Some count) condition) (input_done all cells (Some total) condition)
by_condition first n ways all cells count total Fine is sum file rec fine =
    record { condition = refl; cells = refl; count = rw (is, sum) refl; connection = λ no. fine }
by_condition first n ways all cells count total EndOfRecord is sum file rec fine =
    record { condition = refl; cells = refl; count = rw (is, sum) refl; connection = λ no. rec }
by_condition first n ways all cells count total EndOfFile is sum file rec fine =
    record { condition = refl; cells = refl; count = rw is refl; connection = λ no. file }
by_condition first n ways all cells count total (Error k) is sum file rec fine =
    record { condition = refl; cells = refl; count = rw is refl; connection = λ no. absurd (no k refl) }

both_ends : (first : Done) (advance : Bool) (n : ℕ) (old c old' c' : Connection) (all last : Ended) → first.count ≡ Some n → past_end c' ≡ past_end c → SameEnd advance n all last
    → IsOneRead first (explicit_ended old' c' advance last) (explicit_ended old c advance all)
both_ends first advance n old c old' c' all last is file same =
    let ways : Ways = record { old = old'; end_of_file = past_end c'; end_of_record = behind last.progress.hand; fine = left_at advance last.progress } in
    let ways' : Ways = record { old = old; end_of_file = past_end c; end_of_record = behind all.progress.hand; fine = left_at advance all.progress } in
    let P : List Cell → Type 0 = λ l. IsOneRead first (input_done ways l (Some last.progress.count) last.condition) (input_done ways' all.progress.cells (Some all.progress.count) all.condition) in
    let Q : Condition → Type 0 = λ k. IsOneRead first (input_done ways all.progress.cells (Some last.progress.count) k) (input_done ways' all.progress.cells (Some all.progress.count) all.condition) in
    subst P (sym same.cells) (subst Q (sym same.condition)
    (by_condition first n ways ways' all.progress.cells last.progress.count all.progress.count all.condition is same.count file same.behind same.left))

-- ---- the connection behind the first statement

abbrev past_of : Modes → List ℕ → List ℕ → ℕ → Connection
past_of modes name bytes number =
    let spot : Spot = record { at = 0; start = 0; within = Outside; after_end = false; next_number = number } in
    record { modes = modes; name = name; bytes = bytes; spot = spot_past_end modes spot (length bytes) }

same_past : (b c : Connection) → SameFile b c → past_end c ≡ past_end b
same_past b c same =
    ap (λ m. past_of m c.name c.bytes c.spot.next_number) same.modes
    ∙ ap (λ l. past_of b.modes l c.bytes c.spot.next_number) same.name
    ∙ ap (λ l. past_of b.modes b.name l c.spot.next_number) same.bytes
    ∙ ap (λ n. past_of b.modes b.name b.bytes n) same.number

-- the second statement begins in the rest of the record
second_hand : (b : Connection) (h : AtHand) (m : ℕ) → IsHand b h → m ≤ length h.text → first_record (shifted h.connection m) ≡ Ok (record { connection = shifted h.connection m; text = drop m h.text })
second_hand b h m is inside =
    let c = h.connection in
    let s = shifted h.connection m in
    let inside' : m ≤ length (rest_of_record c) = omega (arith, inside, ap length is.rest.line) in
    let rest : rest_of_record s ≡ drop m h.text = rest_shifted c m is.rest.start inside' ∙ ap (drop m) (sym is.rest.line) in
    let limit : c.modes.recl ≡ b.modes.recl = ap (λ (k : Modes). k.recl) is.file.modes in
    let low : begun s + length (rest_of_record s) ≤ c.modes.recl = omega (arith, is.within, limit, ap length rest, length-drop m h.text, inside) in
    ap (λ t. cond t (record_numbered s s.spot.next_number) (rest_at s)) is.rest.sequential
    ∙ ap (λ t. cond t (Err (Error 15)) (Ok (record { connection = s; text = rest_of_record s }))) (le-ltb c.modes.recl (begun s + length (rest_of_record s)) low)
    ∙ ap (λ l. Ok (record { connection = s; text = l })) rest

pub pieces_are_one : PiecesAreOneRead
pieces_are_one c f g advance edit place cells order more stands limited alone count go many fine =
    let r = fine_read c f edit place cells order fine in
    let b = r.b in
    let begun' = stands_at c b f edit place stands r.begins in
    let plain : IsSerial b = record { sequential = ap (λ (m : Modes). same_access m.access Direct) begun'.modes ∙ r.fit.sequential; short = begun'.short } in
    let modes = changed edit b.modes.edit in
    let parts = paired modes (steps f (length order)) order in
    let start = starting r.hand cells in
    let e = carried_out false parts start in
    let h = e.progress.hand in
    let is : IsHand b h = hand_kept b plain false parts start (first_hand b r.hand plain begun'.start r.found) in
    let m = min e.progress.at (length h.text) in
    let c' = shifted h.connection m in
    let first = one_done c' e.progress.cells e.progress.count in
    let first_is : transfer c (reading f false edit place) (moving cells order) ≡ first =
    reads_as c b r.hand f false edit place cells order (fits c.modes f false edit place r.fit) r.begins r.found
    ∙ ap (λ (k : Condition). input_done (record { old = c; end_of_file = past_end b; end_of_record = behind h; fine = left_at false e.progress }) e.progress.cells (Some e.progress.count) k) r.fine in
    let modes_are : h.connection.modes ≡ c.modes = is.file.modes ∙ begun'.modes in
    let fit' : IsFit h.connection.modes None = record {
      formatted = ap (λ (k : Modes). k.formatted) modes_are ∙ r.fit.formatted;
      sequential = is.rest.sequential;
      stream = refl;
      allowed = ap (λ (k : Modes). is_forbidden k.action true) modes_are ∙ r.fit.allowed;
    } in
    let last = carried_out advance (paired modes (steps g (length more)) more) (piece_of m 0 0 e.progress) in
    let second_is : transfer c' (reading g advance edit None) (moving e.progress.cells more) ≡ explicit_ended c' c' advance last =
    reads_as c' c' (record { connection = c'; text = drop m h.text }) g advance edit None e.progress.cells more (fits h.connection.modes g advance edit None fit') refl (second_hand b h m is (omega arith))
    ∙ ap (λ (k : Modes). explicit_ended c' c' advance (carried_out advance (paired (changed edit k.edit) (steps g (length more)) more) (piece_of m 0 0 e.progress))) is.file.modes in
    let all = carried_out advance (paired modes (steps g (length more)) more) e.progress in
    let on : carried_out advance (paired modes (steps (f ++ g) (length (order ++ more))) (order ++ more)) start ≡ all =
    ap (λ l. carried_out advance l start) (parts_split f g modes order more limited alone count many)
    ∙ goes_on advance parts (paired modes (steps g (length more)) more) start (ap (λ (x : Ended). x.condition) (advancing advance parts start r.fine) ∙ r.fine)
    ∙ ap (λ (x : Ended). carried_out advance (paired modes (steps g (length more)) more) x.progress) (advancing advance parts start r.fine) in
    let both_is : transfer c (reading (f ++ g) advance edit place) (moving cells (order ++ more)) ≡ explicit_ended c b advance all =
    reads_as c b r.hand (f ++ g) advance edit place cells (order ++ more) (fits c.modes (f ++ g) advance edit place r.fit) r.begins r.found
    ∙ ap (explicit_ended c b advance) on in
    let same : SameEnd advance e.progress.count all last =
    alike advance e.progress.count m (paired modes (steps g (length more)) more) 0 0 e.progress (parts_ahead g modes more go)
    (record { rest = is.rest; inside = omega arith; place = omega arith; count = omega arith }) in
    let file : SameFile b c' = record { modes = is.file.modes; name = is.file.name; bytes = is.file.bytes; number = is.file.number } in
    let P : Done → Type 0 = λ d. IsOneRead d (transfer d.connection (reading g advance edit None) (moving d.cells more)) (transfer c (reading (f ++ g) advance edit place) (moving cells (order ++ more))) in
    let Q : Done → Type 0 = λ d. IsOneRead first d (transfer c (reading (f ++ g) advance edit place) (moving cells (order ++ more))) in
    let R : Done → Type 0 = λ d. IsOneRead first (explicit_ended c' c' advance last) d in
    subst P (sym first_is) (subst Q (sym second_is) (subst R (sym both_is) (both_ends first advance e.progress.count c b c' c' all last refl (same_past b c' file) same)))
