-- How a run that was carried out is reported, and what it replies.
use Rattle.std.specs.Prelude.{◌≡◌, ◌++◌, ℕ, false, List, Some}
use Rattle.std.specs.Option.{option_map}
use Rattle.fj_outside.specs.Holdings.{Files as Held}
use Rattle.fj_statement.specs.declared.deck.Deck.{Deck}
use Rattle.fj_statement.specs.declared.deck.Variable.{Variable}
use Rattle.fj_store.specs.Storage.{values_of}
use Rattle.fj_meaning.specs.State.{Files, Output, Tell}
use Rattle.fj_meaning.specs.Statement.{Ending as PlainEnding, Result}
use Rattle.fj_run_pending.specs.Plain.{tells_of}
use Rattle.fj_run_statements.specs.declared.state.Core.{Core}
use Rattle.fj_report.specs.Lines.{status_text}
use Rattle.fj_run_items.specs.Handing.{open_record}
use Rattle.fj_report.specs.declared.status.Status.{Status}
use Rattle.fj_report.specs.declared.status.Status.TheVariants.{DiskFault}
use Rattle.fj_run_script.specs.Machine.{ending_of}
use Rattle.fj_run_script.specs.declared.ending.Ending.{Ending}
use Rattle.fj_run_script.specs.declared.left.Left.{Left}
use Rattle.fj_job.specs.Reply.{Reply, Lines, IsRunReply, status_of, variable_lines, files_in}

-- the lines behind the output: those in the middle, how the deck ended, and its variables
abbrev pub run_text : List Variable → Lines → PlainEnding → Core → List ℕ
run_text variables lines ending core = lines (tells_of core.tells) ++ (status_text (status_of ending) ++ variable_lines variables (values_of core.store))

-- the open record, the lines in the middle and the line of a fault of the disk
abbrev pub fault_text : Lines → ℕ → Output → List Tell → List ℕ
fault_text lines line output tells = open_record output ++ (lines tells ++ status_text (DiskFault line))

-- what is left is that result, with those files
pub record IsResult {F : Type 0} (r : Result) (now : Files) (left : Left F) : Type 0 where
  pub ending : r.ending ≡ option_map ending_of left.ending
  pub output : r.output ≡ left.core.output
  pub tells : r.tells ≡ tells_of left.core.tells
  pub vars : r.vars ≡ values_of left.core.store
  pub files : r.files ≡ now

-- the deck ended, and the sink took the open record and the lines behind it
pub record HasEnded {F : Type 0} (lines : Lines) (left : Left F) (status : Status) (Tells : Type 0) (old new : List ℕ) : Type 0 where
  pub going : left.over ≡ false
  pub ending : Ending
  pub ends : left.ending ≡ Some ending
  pub status_is : status ≡ status_of (ending_of ending)
  pub output : Tells → new ≡ old ++ (open_record left.core.output ++ run_text left.deck.variables lines (ending_of ending) left.core)

-- the answer and the files that are left are those of the reply to a deck that is carried out, and its output was taken
pub record IsReplied (deck : Deck) (lines : Lines) (files : Held) (status : Status) (left : Held) (Taken : List ℕ → Type 0) : Type 0 where
  pub reply : Reply
  pub is : IsRunReply deck lines (files_in files) reply
  pub answer : status ≡ reply.status
  pub files_left : files_in left ≡ reply.files
  pub output : Taken reply.output
