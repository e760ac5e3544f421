-- The words that name modes (ISO/IEC 1539-1:2004, 9.4.5, 9.4.6 and 9.5.1): one table for each kind of words.
use Rattle.std.specs.Prelude.{◌≡◌, ℕ, Bool, true, false, List, [], ◌∷◌, Option, Some, None, if◌then◌else◌, codes}
use Rattle.std.specs.Str.{str_eq_ignore_ascii_case}
use Rattle.fj_value.specs.declared.edit.Delim.{Delim}
use Rattle.fj_value.specs.declared.edit.Delim.TheVariants as delim
use Rattle.fj_modes.specs.declared.specifiers.FileStatus.{FileStatus}
use Rattle.fj_modes.specs.declared.specifiers.FileStatus.TheVariants as status
use Rattle.fj_modes.specs.declared.specifiers.Access.{Access}
use Rattle.fj_modes.specs.declared.specifiers.Access.TheVariants as access
use Rattle.fj_modes.specs.declared.specifiers.Start.{Start}
use Rattle.fj_modes.specs.declared.specifiers.Start.TheVariants as start
use Rattle.fj_modes.specs.declared.specifiers.Action.{Action}
use Rattle.fj_modes.specs.declared.specifiers.Action.TheVariants as action

-- words, and the mode that each names
abbrev pub Table : Type 0 → Type 0
Table M = List (List ℕ × M)

-- the mode of the word that a text is, in either case
abbrev pub mode_of : {M : Type 0} → Table M → List ℕ → Option M
mode_of [] text = None
mode_of (w ∷ words) text = if str_eq_ignore_ascii_case w.0 text then Some w.1 else mode_of words text

-- each mode has a word, which is read as it
abbrev pub AreReadBack : {M : Type 0} → Table M → (M → List ℕ) → Type 0
AreReadBack {M} words word_of = (mode : M) → mode_of words (word_of mode) ≡ Some mode

-- STATUS= of OPEN (9.4.5.15)
abbrev pub status_words : Table FileStatus
status_words = (codes "OLD", status.Old) ∷ (codes "NEW", status.New) ∷ (codes "SCRATCH", status.Scratch) ∷ (codes "REPLACE", status.Replace) ∷ (codes "UNKNOWN", status.Unknown) ∷ []

abbrev pub status_word : FileStatus → List ℕ
status_word status.Old = codes "OLD"
status_word status.New = codes "NEW"
status_word status.Scratch = codes "SCRATCH"
status_word status.Replace = codes "REPLACE"
status_word status.Unknown = codes "UNKNOWN"

-- ACCESS= (9.4.5.1)
abbrev pub access_words : Table Access
access_words = (codes "SEQUENTIAL", access.Sequential) ∷ (codes "DIRECT", access.Direct) ∷ (codes "STREAM", access.Stream) ∷ []

abbrev pub access_word : Access → List ℕ
access_word access.Sequential = codes "SEQUENTIAL"
access_word access.Direct = codes "DIRECT"
access_word access.Stream = codes "STREAM"

-- POSITION= (9.4.5.11)
abbrev pub position_words : Table Start
position_words = (codes "ASIS", start.AsIs) ∷ (codes "REWIND", start.Rewind) ∷ (codes "APPEND", start.Append) ∷ []

abbrev pub position_word : Start → List ℕ
position_word start.AsIs = codes "ASIS"
position_word start.Rewind = codes "REWIND"
position_word start.Append = codes "APPEND"

-- ACTION= (9.4.5.2)
abbrev pub action_words : Table Action
action_words = (codes "READ", action.Read) ∷ (codes "WRITE", action.Write) ∷ (codes "READWRITE", action.ReadWrite) ∷ []

abbrev pub action_word : Action → List ℕ
action_word action.Read = codes "READ"
action_word action.Write = codes "WRITE"
action_word action.ReadWrite = codes "READWRITE"

-- DELIM= (9.4.5.6)
abbrev pub delim_words : Table Delim
delim_words = (codes "APOSTROPHE", delim.Apostrophe) ∷ (codes "QUOTE", delim.Quote) ∷ (codes "NONE", delim.Plain) ∷ []

abbrev pub delim_word : Delim → List ℕ
delim_word delim.Apostrophe = codes "APOSTROPHE"
delim_word delim.Quote = codes "QUOTE"
delim_word delim.Plain = codes "NONE"

-- STATUS= of CLOSE (9.4.6.1): the file is kept
abbrev pub disposition_words : Table Bool
disposition_words = (codes "KEEP", true) ∷ (codes "DELETE", false) ∷ []

abbrev pub disposition_word : Bool → List ℕ
disposition_word true = codes "KEEP"
disposition_word false = codes "DELETE"

-- FORM= (9.4.5.9): records are formatted
abbrev pub form_words : Table Bool
form_words = (codes "FORMATTED", true) ∷ (codes "UNFORMATTED", false) ∷ []

abbrev pub form_word : Bool → List ℕ
form_word true = codes "FORMATTED"
form_word false = codes "UNFORMATTED"

-- BLANK= (9.4.5.4): blanks are zeros
abbrev pub blank_words : Table Bool
blank_words = (codes "NULL", false) ∷ (codes "ZERO", true) ∷ []

abbrev pub blank_word : Bool → List ℕ
blank_word false = codes "NULL"
blank_word true = codes "ZERO"

-- DECIMAL= (9.4.5.5): the decimal symbol is a comma
abbrev pub decimal_words : Table Bool
decimal_words = (codes "COMMA", true) ∷ (codes "POINT", false) ∷ []

abbrev pub decimal_word : Bool → List ℕ
decimal_word true = codes "COMMA"
decimal_word false = codes "POINT"

-- SIGN= (9.4.5.14): a plus is written; what the processor defines is to suppress it
abbrev pub sign_words : Table Bool
sign_words = (codes "PLUS", true) ∷ (codes "SUPPRESS", false) ∷ (codes "PROCESSOR_DEFINED", false) ∷ []

abbrev pub sign_word : Bool → List ℕ
sign_word true = codes "PLUS"
sign_word false = codes "SUPPRESS"

-- PAD=, ASYNCHRONOUS= and ADVANCE= (9.4.5.10, 9.4.5.3, 9.5.1.3)
abbrev pub answer_words : Table Bool
answer_words = (codes "YES", true) ∷ (codes "NO", false) ∷ []

abbrev pub answer_word : Bool → List ℕ
answer_word true = codes "YES"
answer_word false = codes "NO"
