-- What a run answers, prints and leaves.
use Rattle.std.specs.Prelude.{◌≡◌, ℕ, zero, suc, ◌+◌, List, [], ◌∷◌, ◌++◌, length, min, sum, filter, codes, Bool, true, false, Some, None, unwrap_or, Result, Ok, Err, if◌then◌else◌}
use Rattle.std.specs.List.{flat_map}
use Rattle.std.specs.FinMap as map
use Rattle.fj_value.specs.Condition.{code_of}
use Rattle.fj_value.specs.declared.condition.Condition.{Condition}
use Rattle.fj_value.specs.declared.condition.Condition.TheVariants.{Fine}
use Rattle.fj_value.specs.declared.place.Place.{Place}
use Rattle.fj_outside.specs.Holdings.{Files as Held}
use Rattle.fj_statement.specs.declared.deck.Variable.{Variable}
use Rattle.fj_statement.specs.declared.deck.Deck.{Deck}
use Rattle.fj_statement.specs.declared.reason.Reason.{Reason}
use Rattle.fj_statement.specs.Units.{number_from_code}
use Rattle.fj_deck.specs.Deck.{IsDeck, IsRefused}
use Rattle.fj_store.specs.Variables.{Variables, value_at}
use Rattle.fj_meaning.specs.State.{Files, Output, Tell, elements}
use Rattle.fj_meaning.specs.Statement.{Result as Left, Ending, ended, error_stop, prohibition, plain_execution}
use Rattle.fj_report.specs.Lines.{usage_text, status_text, check_text, variable_text, trace_text, summary_text}
use Rattle.fj_report.specs.declared.summary.Summary.{Summary}
use Rattle.fj_gen.specs.Generated.{generated_text}
use Rattle.fj_report.specs.declared.status.Status.{Status}
use Rattle.fj_report.specs.declared.status.Status.TheVariants.{Ended, ErrorStop, Prohibited, DeckRefused, Usage}
use Rattle.fj_job.specs.declared.middle.Middle.{Middle}
use Rattle.fj_job.specs.declared.middle.Middle.TheVariants.{Nothing, Trace, Given}
use Rattle.fj_job.specs.declared.task.Task.{Task}
use Rattle.fj_job.specs.declared.task.Task.TheVariants.{Refuse, Check, Execute, Generate}

-- an answer, the bytes for the sink, and by name the files that are left
pub record Reply : Type 0 where
  pub status : Status
  pub output : List ℕ
  pub files : Files

-- the files of a disk by name
abbrev pub files_in : Held → Files
files_in held = λ name. map.get held name

-- ---- the report

abbrev pub status_of : Ending → Status
status_of ended = Ended
status_of (error_stop line code) = ErrorStop line code
status_of (prohibition line rule) = Prohibited line rule

-- a record of unit `*` that is open at the end gets its line feed
abbrev pub open_feed : Output → List ℕ
open_feed output = if output.is_open then 10 ∷ [] else []

abbrev pub told_line : Tell → List ℕ
told_line t = trace_text t.line (number_from_code t.unit) t.id (code_of t.condition)

-- what stands between the output and how the deck ended, by the transfers that were told
abbrev pub Lines : Type 0
Lines = List Tell → List ℕ

abbrev pub lines_of : Middle → Lines
lines_of Nothing tells = []
lines_of Trace tells = flat_map told_line tells
lines_of (Given text) tells = text.now

-- the transfers in the order in which they were told, where they are asked for
abbrev pub trace_of : Bool → Lines
trace_of trace tells = if trace then flat_map told_line tells else []

-- the index that is shown of a place: a scalar has none
abbrev pub shown_at : Variable → ℕ → ℕ
shown_at variable index = min variable.count index

abbrev pub place_line : Variables → Variable → Place → List ℕ
place_line vars variable place = variable_text variable.name (shown_at variable place.index) (Some (value_at vars place))

-- the lines of so many places of a variable, from an index on
abbrev pub place_lines : Variables → Variable → ℕ → ℕ → ℕ → List ℕ
place_lines vars variable var index zero = []
place_lines vars variable var index (suc n) = place_line vars variable (record { var = var; index = index }) ++ place_lines vars variable var (index + 1) n

-- the lines of variables in the order of their declarations, from a number on
abbrev pub lines_from : Variables → ℕ → List Variable → List ℕ
lines_from vars var [] = []
lines_from vars var (variable ∷ more) = place_lines vars variable var 1 (elements variable) ++ lines_from vars (var + 1) more

abbrev pub variable_lines : List Variable → Variables → List ℕ
variable_lines variables vars = lines_from vars 0 variables

-- what unit `*` got, the lines behind it, how the deck ended, and its variables
abbrev pub report_of : Deck → Lines → Left → Ending → List ℕ
report_of deck lines r e = r.output.text ++ (open_feed r.output ++ (lines r.tells ++ (status_text (status_of e) ++ variable_lines deck.variables r.vars)))

-- ---- the report of a deck that is made

-- no file is there
abbrev pub no_files : Files
no_files name = None

-- the bytes of both its files, one file behind the other
abbrev pub made_bytes : Files → List ℕ
made_bytes files = unwrap_or (files (codes "G10")) [] ++ unwrap_or (files (codes "G11")) []

abbrev pub is_condition : Condition → Bool
is_condition Fine = false
is_condition _ = true

-- how many transfers were told with a condition
abbrev pub conditions_in : List Tell → ℕ
conditions_in tells = length (filter (λ (t : Tell). is_condition t.condition) tells)

-- of so many statements, with those tells and files
abbrev pub summed : ℕ → ℕ → ℕ → List Tell → Files → Summary
summed seed count statements tells files = record {
  seed = seed;
  count = count;
  statements = statements;
  tells = length tells;
  conditions = conditions_in tells;
  bytes = length (made_bytes files);
  sum = sum (made_bytes files);
}

abbrev pub summary_of : ℕ → ℕ → Deck → Left → Summary
summary_of seed count deck r = summed seed count (length deck.statements) r.tells r.files

-- where it ended, its summary stands in place of how it ended and of its variables
abbrev pub made_lines : ℕ → ℕ → Deck → Left → Ending → List ℕ
made_lines seed count deck r ended = summary_text (summary_of seed count deck r)
made_lines seed count deck r e = status_text (status_of e) ++ variable_lines deck.variables r.vars

abbrev pub made_report : ℕ → ℕ → Deck → Left → Ending → List ℕ
made_report seed count deck r e = r.output.text ++ (open_feed r.output ++ made_lines seed count deck r e)

-- ---- replies

-- to a deck that is carried out: what executing it one statement after another gives
pub record IsRunReply (deck : Deck) (lines : Lines) (files : Files) (reply : Reply) : Type 0 where
  pub ending : Ending
  pub ends : (plain_execution deck.variables deck.statements files).ending ≡ Some ending
  pub status : reply.status ≡ status_of ending
  pub output : reply.output ≡ report_of deck lines (plain_execution deck.variables deck.statements files) ending
  pub files_left : reply.files ≡ (plain_execution deck.variables deck.statements files).files

-- to a deck that is made, which is carried out where no file is; the files are as they were
pub record IsMadeReply (deck : Deck) (seed count : ℕ) (files : Files) (reply : Reply) : Type 0 where
  pub ending : Ending
  pub ends : (plain_execution deck.variables deck.statements no_files).ending ≡ Some ending
  pub status : reply.status ≡ status_of ending
  pub output : reply.output ≡ made_report seed count deck (plain_execution deck.variables deck.statements no_files) ending
  pub files_left : reply.files ≡ files

-- to what is refused at a line
abbrev pub refusal_reply : ℕ → Reason → Files → Reply
refusal_reply line reason files = record { status = DeckRefused line reason; output = status_text (DeckRefused line reason); files = files }

-- to the words for the text of a deck that is made
abbrev pub text_reply : ℕ → ℕ → Files → Reply
text_reply seed count files = record { status = Ended; output = generated_text seed count; files = files }

-- to words that are no form
abbrev pub usage_reply : Files → Reply
usage_reply files = record { status = Usage; output = usage_text; files = files }

-- a deck, or a line and the reason for which it is refused
abbrev pub Reading : Type 0
Reading = Result Deck (ℕ × Reason)

abbrev pub IsReading : List ℕ → Reading → Type 0
IsReading text (Ok deck) = IsDeck text deck
IsReading text (Err refusal) = IsRefused text refusal.0 refusal.1

-- to a text that is carried out
abbrev pub IsExecuted : Reading → Lines → Files → Reply → Type 0
IsExecuted (Ok deck) lines files reply = IsRunReply deck lines files reply
IsExecuted (Err refusal) lines files reply = reply ≡ refusal_reply refusal.0 refusal.1 files

-- to a text that is read alone
abbrev pub checked : Reading → Files → Reply
checked (Ok deck) files = record { status = Ended; output = check_text (length deck.statements); files = files }
checked (Err refusal) files = refusal_reply refusal.0 refusal.1 files

-- to a deck that was made and carried out where no file is
abbrev pub IsMade : Reading → ℕ → ℕ → Files → Reply → Type 0
IsMade (Ok deck) seed count files reply = IsMadeReply deck seed count files reply
IsMade (Err refusal) seed count files reply = reply ≡ refusal_reply refusal.0 refusal.1 files

-- to the words, a text and files
abbrev pub IsReplyTo : Task → List ℕ → Files → Reply → Type 0
IsReplyTo Refuse text files reply = reply ≡ usage_reply files
IsReplyTo Check text files reply = (reading : Reading) × IsReading text reading × (reply ≡ checked reading files)
IsReplyTo (Execute workers trace) text files reply = (reading : Reading) × IsReading text reading × IsExecuted reading (trace_of trace) files reply
IsReplyTo (Generate seed count true) text files reply = reply ≡ text_reply seed count files
IsReplyTo (Generate seed count false) text files reply = (reading : Reading) × IsReading (generated_text seed count) reading × IsMade reading seed count files reply

-- there is one reply at most
abbrev pub OneReply : Type 0
OneReply = (task : Task) (text : List ℕ) (files : Files) (reply other : Reply) → IsReplyTo task text files reply → IsReplyTo task text files other → reply ≡ other

-- and there is one
abbrev pub SomeReply : Type 0
SomeReply = (task : Task) (text : List ℕ) (files : Files) → (reply : Reply) × IsReplyTo task text files reply

-- the text is refused at a line
abbrev pub IsRefusal : Task → List ℕ → ℕ → Reason → Type 0
IsRefusal Refuse text line reason = ⊥
IsRefusal (Generate seed count shown) text line reason = IsRefused (generated_text seed count) line reason
IsRefusal _ text line reason = IsRefused text line reason
