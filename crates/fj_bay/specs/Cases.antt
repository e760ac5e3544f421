-- Worked cases: each job on an empty, a full and a halted bay.
use Rattle.std.specs.Prelude.{◌≡◌, ℕ, Bool, true, false, List, [], ◌∷◌, ◌++◌, map, codes, Option, Some, None}
use Rattle.fj_value.specs.declared.kind.Kind.TheVariants.{Chars}
use Rattle.fj_value.specs.declared.edit.Edit.TheVariants as edit
use Rattle.fj_value.specs.declared.value.Value.{Value}
use Rattle.fj_value.specs.declared.value.Value.TheVariants as value
use Rattle.fj_value.specs.declared.value.Cell.{Cell}
use Rattle.fj_value.specs.declared.condition.Condition.{Condition}
use Rattle.fj_value.specs.declared.condition.Condition.TheVariants.{Fine, EndOfFile, Error}
use Rattle.fj_modes.specs.Modes.{usual_edit}
use Rattle.fj_modes.specs.declared.modes.Modes.{Modes}
use Rattle.fj_modes.specs.declared.specifiers.Access.TheVariants.{Sequential}
use Rattle.fj_modes.specs.declared.specifiers.Action.TheVariants.{ReadWrite}
use Rattle.fj_modes.specs.declared.specifiers.Start.TheVariants.{AsIs}
use Rattle.fj_format.specs.declared.item.FormatItem.TheVariants.{Field}
use Rattle.fj_format.specs.Unfolding as step
use Rattle.fj_control.specs.Steps.{gives}
use Rattle.fj_control.specs.Steps as control
use Rattle.fj_connect.specs.Connection.{Connection}
use Rattle.fj_connect.specs.declared.spot.Positioning.TheVariants.{Rewind, Endfile}
use Rattle.fj_connect.specs.declared.spot.Within.{Within}
use Rattle.fj_connect.specs.declared.spot.Within.TheVariants.{Outside, Writing}
use Rattle.fj_transfer.specs.declared.transfer.Layout.TheVariants.{Explicit}
use Rattle.fj_bay.specs.Bay.{Bay}
use Rattle.fj_bay.specs.Jobs.{Moving, Job, attach, detach, move, go, change, flush, look, resume, Answer, done, skipped}
use Rattle.fj_bay.specs.Serving.{serve}
use Rattle.fj_bay.specs.Spoilt.{first_change}

-- ---- connections and transfers

abbrev pub modes : Modes
modes = record { access = Sequential; formatted = true; recl = 80; action = ReadWrite; asynchronous = true; scratch = false; start = AsIs; edit = usual_edit }

abbrev pub standing : List ℕ → ℕ → ℕ → Within → Connection
standing bytes start at within =
    record { modes = modes; name = codes "T"; bytes = bytes; spot = record { at = at; start = start; within = within; after_end = false; next_number = 1 } }

-- one record, and the connection stands before it or behind it
abbrev pub before_it : Connection
before_it = standing (codes "ab" ++ 10 ∷ []) 0 0 Outside

abbrev pub behind_it : Connection
behind_it = standing (codes "ab" ++ 10 ∷ []) 3 3 Outside

-- output left the record open
abbrev pub inside_it : Connection
inside_it = standing (codes "ab") 0 2 Writing

-- (A) of one item
abbrev pub one_item : Value → List Cell
one_item v = record { place = record { var = 0; index = 1 }; kind = Chars 2; value = v } ∷ []

abbrev pub transfer : Bool → Value → Moving
transfer input v = record {
  stmt = 5;
  tag = 1;
  spec = record {
    input = input;
    layout = Explicit (Field 1 (edit.Chars None) ∷ []);
    advance = true;
    rec = None;
    pos = None;
    edit = record { blank_zero = None; comma = None; delim = None; pad = None; plus = None };
  };
  control = gives (step.edit (edit.Chars None)) ∷ control.done ∷ [];
  moved = record { cells = one_item v; order = 0 ∷ [] };
  size = None;
  count = None;
}

abbrev pub reading : Job
reading = move (transfer true value.Undefined)

abbrev pub writing : Job
writing = move (transfer false (value.Chars (codes "xy")))

-- one of each kind
abbrev pub jobs : List Job
jobs = attach (Some behind_it) ∷ detach None ∷ reading ∷ go Rewind ∷ change usual_edit ∷ flush ∷ look None ∷ resume ∷ []

abbrev pub bay : Option Connection → Option Condition → Bay
bay connection halt = record { connection = connection; halt = halt }

abbrev pub answers : Bay → List Answer
answers b = map (λ job. (serve b job).answer) jobs

abbrev pub halts_then : Bay → List (Option Condition)
halts_then b = map (λ job. (serve b job).engine.halt) jobs

-- ---- the cases

-- on an empty bay
abbrev pub OnAnEmptyBay : Type 0
OnAnEmptyBay =
    (answers (bay None None) ≡ done Fine ∷ done Fine ∷ done (Error 1) ∷ done (Error 1) ∷ done (Error 1) ∷ done Fine ∷ done (Error 1) ∷ done Fine ∷ [])
    × ((serve (bay None None) (attach (Some behind_it))).engine ≡ bay (Some behind_it) None)

-- on a full bay that is not halted
abbrev pub OnAFullBay : Type 0
OnAFullBay =
    (answers (bay (Some before_it) None) ≡ done (Error 7) ∷ done Fine ∷ done Fine ∷ done Fine ∷ done Fine ∷ done Fine ∷ done Fine ∷ done Fine ∷ [])
    × ((serve (bay (Some before_it) None) reading).engine ≡ bay (Some behind_it) None)
    × ((serve (bay (Some before_it) None) reading).job ≡ move (record (transfer true (value.Chars (codes "ab"))) { count = Some 2 }))
    × ((serve (bay (Some behind_it) None) writing).engine ≡ bay (Some (standing (codes "ab" ++ 10 ∷ codes "xy" ++ 10 ∷ []) 6 6 Outside)) None)

-- the end of the file halts; a full bay that is halted skips transfers and carries out all else
abbrev pub OnAHaltedBay : Type 0
OnAHaltedBay =
    ((serve (bay (Some behind_it) None) reading).engine.halt ≡ Some EndOfFile)
    × (answers (bay (Some before_it) (Some EndOfFile)) ≡ done (Error 7) ∷ done Fine ∷ skipped EndOfFile ∷ done Fine ∷ done Fine ∷ done Fine ∷ done Fine ∷ done Fine ∷ [])
    × (halts_then (bay (Some before_it) (Some EndOfFile))
    ≡ Some EndOfFile ∷ Some EndOfFile ∷ Some EndOfFile ∷ Some EndOfFile ∷ Some EndOfFile ∷ Some EndOfFile ∷ Some EndOfFile ∷ None ∷ [])
    × ((serve (bay (Some before_it) (Some EndOfFile)) reading).engine ≡ bay (Some before_it) (Some EndOfFile))

-- a connection goes out with its open record ended
abbrev pub OpenRecordGoesOutEnded : Type 0
OpenRecordGoesOutEnded =
    (serve (bay (Some inside_it) None) (detach None)).job ≡ detach (Some behind_it)

-- the first byte that a job changes: behind the last one for a line feed or a record, at the position for ENDFILE
abbrev pub FirstChanges : Type 0
FirstChanges =
    (map (first_change (bay (Some inside_it) None) (Some inside_it)) (detach None ∷ go Rewind ∷ go Endfile ∷ reading ∷ writing ∷ flush ∷ []) ≡ Some 2 ∷ Some 2 ∷ Some 2 ∷ Some 2 ∷ Some 2 ∷ None ∷ [])
    × (map (first_change (bay (Some before_it) None) (Some before_it)) (detach None ∷ go Rewind ∷ go Endfile ∷ reading ∷ writing ∷ flush ∷ []) ≡ None ∷ None ∷ Some 0 ∷ None ∷ Some 0 ∷ None ∷ [])
    × (map (first_change (bay (Some before_it) (Some (Error 25))) (Some before_it)) (reading ∷ writing ∷ []) ≡ None ∷ None ∷ [])
