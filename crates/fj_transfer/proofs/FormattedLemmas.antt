-- Formatted output put into a file.
use Rattle.std.proofs.Common.{◌≡◌, ℕ, ◌+◌, ◌≤◌, ◌<◌, ◌==◌, Bool, true, false, cond, List, ◌++◌, length, take, Option, Some, None, Result, Ok, Err, refl, sym, ap, subst, ◌∙◌, arith}
use Rattle.std.proofs.lemmas.List.{length-append, length-take}
use Rattle.fj_value.specs.declared.value.Cell.{Cell}
use Rattle.fj_value.specs.declared.condition.Condition.{Condition}
use Rattle.fj_value.specs.declared.condition.Condition.TheVariants.{Fine}
use Rattle.fj_span.specs.Change.{KeepsUpToChange}
use Rattle.fj_span.proofs.ChangeLaws.{kept_as}
use Rattle.fj_line.specs.Actions.{Action}
use Rattle.fj_list.specs.ListText.{text_of}
use Rattle.fj_connect.specs.Connection.{Connection, begun, with_records, with_open_record}
use Rattle.fj_connect.specs.Linked.{Linked, connection_of}
use Rattle.fj_transfer.specs.Places.{spot_at, at_place}
use Rattle.fj_transfer.specs.Printing.{Printed, printed_by, open_count}
use Rattle.fj_transfer.specs.Writing.{Prints}
use Rattle.fj_transfer.specs.Transfer.{Done, told_with, text_written, lines_written}
use Rattle.fj_transfer.proofs.UnformattedLemmas.{within}

-- the same file in another state of its own
pub same_connection : {F : Type 0} (bytes : F → List ℕ) (old new : Linked F) → new ≡ record old { file = new.file } → bytes new.file ≡ bytes old.file → connection_of bytes new ≡ connection_of bytes old
same_connection bytes old new rest same =
    ap (connection_of bytes) rest ∙ ap (λ b. record { modes = old.modes; name = old.name; bytes = b; spot = old.spot }) same

pub placed : {F : Type 0} (bytes : F → List ℕ) (old : Linked F) (place : Option ℕ) → connection_of bytes (record old { spot = spot_at place old.spot }) ≡ at_place place (connection_of bytes old)
placed bytes old None = refl
placed bytes old (Some place) = refl

pub ended_kept : (old c : Connection) (cells : List Cell) (text : List ℕ) (count : ℕ) (ends : Bool) (new : List ℕ) → ends ≡ true → c.spot.at + length text ≤ 268435456
    → KeepsUpToChange old.bytes (with_records c text).bytes new → KeepsUpToChange old.bytes (text_written old c ends cells text count).connection.bytes new
ended_kept old c cells text count ends new e fits kept =
    let fine : text_written old c true cells text count ≡ told_with (with_records c text) cells Fine =
    within old (with_records c text) cells 0 (omega (arith, length-append (take c.spot.at c.bytes) text, length-take c.spot.at c.bytes)) in
    kept_as old.bytes (with_records c text).bytes (text_written old c ends cells text count).connection.bytes new
    (ap (λ (d : Done). d.connection.bytes) (sym fine) ∙ ap (λ b. (text_written old c b cells text count).connection.bytes) (sym e)) kept

pub open_kept : (old c : Connection) (cells : List Cell) (text : List ℕ) (count : ℕ) (ends : Bool) (new : List ℕ) → ends ≡ false → c.spot.at + length text < 268435456
    → KeepsUpToChange old.bytes (with_open_record c text count).bytes new → KeepsUpToChange old.bytes (text_written old c ends cells text count).connection.bytes new
open_kept old c cells text count ends new e fits kept =
    let fine : text_written old c false cells text count ≡ told_with (with_open_record c text count) cells Fine =
    within old (with_open_record c text count) cells 1 (omega (arith, length-append (take c.spot.at c.bytes) text, length-take c.spot.at c.bytes)) in
    kept_as old.bytes (with_open_record c text count).bytes (text_written old c ends cells text count).connection.bytes new
    (ap (λ (d : Done). d.connection.bytes) (sym fine) ∙ ap (λ b. (text_written old c b cells text count).connection.bytes) (sym e)) kept

-- what was printed is put behind the line feed
pub lines_as_text : (old c : Connection) (feed : List ℕ) (ends : Bool) (cells : List Cell) (printed : Result Printed Condition) (out : List ℕ) (count : ℕ)
    → Prints (begun c) printed feed (Ok count) out → text_written old c ends cells out count ≡ lines_written old c feed ends cells printed
lines_as_text old c feed ends cells (Ok p) out count h =
    ap (λ l. text_written old c ends cells l count) h.1 ∙ ap (λ n. text_written old c ends cells (feed ++ (text_of p.records ++ p.«open»)) n) h.0
lines_as_text old c feed ends cells (Err condition) out count h = absurd h

pub placed_modes : (place : Option ℕ) (c : Connection) → (at_place place c).modes ≡ c.modes
placed_modes None c = refl
placed_modes (Some place) c = refl

-- the same where the call was given what is equal
pub lines_printed : (old c : Connection) (feed : List ℕ) (ends : Bool) (cells : List Cell) (actions : List Action) (before out : List ℕ) (count started limit : ℕ)
    → started ≡ begun c → limit ≡ c.modes.recl → before ≡ feed → Prints started (printed_by limit started actions) before (Ok count) out
    → text_written old c ends cells out count ≡ lines_written old c feed ends cells (printed_by c.modes.recl (begun c) actions)
lines_printed old c feed ends cells actions before out count started limit e f h prints =
    let P : ℕ → Type 0 = λ n. Prints n (printed_by limit n actions) before (Ok count) out in
    let Q : ℕ → Type 0 = λ n. Prints (begun c) (printed_by n (begun c) actions) before (Ok count) out in
    let R : List ℕ → Type 0 = λ l. Prints (begun c) (printed_by c.modes.recl (begun c) actions) l (Ok count) out in
    lines_as_text old c feed ends cells (printed_by c.modes.recl (begun c) actions) out count (subst R h (subst Q f (subst P e prints)))

-- the record that stays open has no more characters than stand before its end
pub count_within : (begun : ℕ) (printed : Result Printed Condition) (before out : List ℕ) (count : ℕ) → Prints begun printed before (Ok count) out → count ≤ begun + length out
count_within begun (Ok p) before out count h =
    let open' : open_count begun p ≤ begun + length p.«open» = at_most (length p.records == 0) in
    omega (arith, h.0, open', ap length h.1, length-append before (text_of p.records ++ p.«open»), length-append (text_of p.records) p.«open»)
  where
    at_most : (b : Bool) → cond b begun 0 + length p.«open» ≤ begun + length p.«open»
    at_most true = omega arith
    at_most false = omega arith
count_within begun (Err condition) before out count h = absurd h
