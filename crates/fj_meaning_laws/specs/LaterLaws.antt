-- A transfer that becomes pending and the WAIT for it come to what the transfer at once comes to (ISO/IEC 1539-1:2004, 9.5.1.4, 9.6.2).
use Rattle.std.specs.Prelude.{◌≡◌, ◌≢◌, ℕ, ◌+◌, true, List, [], ◌∷◌, ◌++◌, Some, None}
use Rattle.std.specs.List.{All}
use Rattle.fj_control.specs.Steps.{Given}
use Rattle.fj_statement.specs.Units.{number_of}
use Rattle.fj_statement.specs.declared.deck.Variable.{Variable}
use Rattle.fj_statement.specs.declared.statement.Transfer.{Transfer}
use Rattle.fj_statement.specs.declared.statement.Statement.{Statement}
use Rattle.fj_statement.specs.declared.statement.Statement.TheVariants as statement
use Rattle.fj_book.specs.Prohibitions.{prohibited}
use Rattle.fj_meaning.specs.State.{State, Files, Entry}
use Rattle.fj_meaning.specs.Needs.{need, holders}
use Rattle.fj_meaning.specs.Statement.{Stated, step, own}
use Rattle.fj_meaning.specs.Reaching.{reached, becomes_pending}

-- a READ or WRITE without ASYNCHRONOUS=; with ASYNCHRONOUS='YES'; and then WAIT, with its IOSTAT=
abbrev pub at_once : Transfer → Statement
at_once t = statement.Transfer (record t { asynchronous = None; id = None })

abbrev pub begun : Transfer → Statement
begun t = statement.Transfer (record t { asynchronous = Some true; id = None; iostat = None })

abbrev pub awaited : Transfer → Statement
awaited t = statement.WaitFor t.unit None t.iostat

abbrev pub on_line : ℕ → (ℕ → List Given) → Statement → Stated
on_line line control st = (record { line = line; what = st }, control)

abbrev pub IsAllowed : List Variable → State → Statement → Type 0
IsAllowed variables s st = prohibited s.vars (holders s.book) (need variables s st) ≡ None

-- On a unit of which no transfer is pending both come to the same variables, SIZE= and IOSTAT= among them, units, files, output and ending; one
-- identifier was used, and one transfer was told, with the condition of the transfer at once.
abbrev pub LaterIsAsAtOnce : Type 0
LaterIsAsAtOnce = (variables : List Variable) (sts : List Stated) (files : Files) (control : ℕ → List Given) (line n : ℕ) (t : Transfer) →
    let s = reached variables sts files in
    let once = step variables (on_line line control (at_once t)) s in
    let first = step variables (on_line line control (begun t)) s in
    number_of t.unit ≡ Some n → All (λ (e : Entry). e.unit ≢ n) s.book → becomes_pending variables s (begun t) ≡ true →
    IsAllowed variables s (at_once t) → IsAllowed variables s (begun t) → IsAllowed variables first.0 (awaited t) →
    (first.1 ≡ None)
    × (step variables (on_line line control (awaited t)) first.0
    ≡ (record once.0 { next = s.next + 1; tells = s.tells ++ record { line = line; unit = n; id = s.next; condition = (own control variables s (at_once t)).1 } ∷ [] }, once.1))
