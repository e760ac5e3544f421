-- The output on unit `*`, and what of it a sink took.
use Rattle.std.specs.Prelude.{◌≡◌, ◌≢◌, ℕ, ◌-◌, List, [], ◌∷◌, ◌++◌, length, take, drop, if◌then◌else◌}
use Rattle.fj_value.specs.declared.condition.Condition.{Condition}
use Rattle.fj_statement.specs.declared.deck.Variable.{Variable}
use Rattle.fj_statement.specs.declared.statement.Transfer.{Transfer as Stated}
use Rattle.fj_statement.specs.declared.statement.Statement.TheVariants.{Transfer}
use Rattle.fj_store.specs.Variables.{Variables}
use Rattle.fj_meaning.specs.State.{Output}
use Rattle.fj_meaning.specs.Statement.{control_by}
use Rattle.fj_meaning.specs.Transfers.{moved_in, spec_in, star_printed}

-- the records that have ended, each with its line feed
abbrev pub whole_records : Output → List ℕ
whole_records o = take (length o.text - o.begun) o.text

-- the record that is open, if there is one, with its line feed
abbrev pub open_record : Output → List ℕ
open_record o = if o.is_open then drop (length o.text - o.begun) o.text ++ 10 ∷ [] else []

-- the characters of the record that is open that are in front of so many
abbrev pub ended_part : Output → ℕ → List ℕ
ended_part o count = take (o.begun - count) (drop (length o.text - o.begun) o.text)

-- what a WRITE on `*` leaves of the output, and its condition
abbrev pub printed_on : List Variable → Variables → Stated → Output → Output × Condition
printed_on variables vars t output =
    let moved = moved_in variables vars t in star_printed (control_by (Transfer t)) output t moved (spec_in variables vars t moved.cells)

-- the output and the condition are those of the statement
abbrev pub IsPrinted : List Variable → Variables → Stated → Output → Output → Condition → Type 0
IsPrinted variables vars t old new condition = (new, condition) ≡ printed_on variables vars t old

-- the sink took the records that ended
abbrev pub HandsOver : List ℕ → List ℕ → Output → Output → Type 0
HandsOver taken taken' old new = (part : List ℕ) × (whole_records new ≡ whole_records old ++ part) × (taken' ≡ taken ++ part)

-- the sink took a front of the records that were to end
abbrev pub HandsFront : List ℕ → List ℕ → Output → Output → Type 0
HandsFront taken taken' old due = (part : List ℕ) × (rest : List ℕ) × (whole_records due ≡ whole_records old ++ (part ++ rest)) × (taken' ≡ taken ++ part)

-- and not all of them
abbrev pub HandsPart : List ℕ → List ℕ → Output → Output → Type 0
HandsPart taken taken' old due = (part : List ℕ) × (rest : List ℕ) × (rest ≢ []) × (whole_records due ≡ whole_records old ++ (part ++ rest)) × (taken' ≡ taken ++ part)

-- the sink took a part from the front of what is due
abbrev pub TakesFront : List ℕ → List ℕ → List ℕ → Type 0
TakesFront old new due = (part rest : List ℕ) × (due ≡ part ++ rest) × (new ≡ old ++ part)

-- and not all of it
abbrev pub TakesPart : List ℕ → List ℕ → List ℕ → Type 0
TakesPart old new due = (part rest : List ℕ) × (rest ≢ []) × (due ≡ part ++ rest) × (new ≡ old ++ part)
