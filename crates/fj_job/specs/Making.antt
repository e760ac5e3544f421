-- How a deck that was made and carried out is summed up, and what is replied.
use Rattle.std.specs.Prelude.{◌≡◌, ◌⊎◌, ◌++◌, ℕ, false, List, length, Some, Ok}
use Rattle.fj_statement.specs.declared.deck.Deck.{Deck}
use Rattle.fj_meaning.specs.State.{Files}
use Rattle.fj_meaning.specs.Statement.{Ending as PlainEnding, ended}
use Rattle.fj_run_pending.specs.Plain.{tells_of}
use Rattle.fj_report.specs.Lines.{summary_text}
use Rattle.fj_report.specs.declared.status.Status.{Status}
use Rattle.fj_run_items.specs.Handing.{open_record, TakesFront}
use Rattle.fj_run_script.specs.Machine.{ending_of}
use Rattle.fj_run_script.specs.declared.ending.Ending.{Ending}
use Rattle.fj_run_script.specs.declared.left.Left.{Left}
use Rattle.fj_job.specs.Concluding.{run_text}
use Rattle.fj_job.specs.Reply.{Reply, IsMadeReply, status_of, summed, lines_of}
use Rattle.fj_job.specs.declared.ending.Carried.{Carried}
use Rattle.fj_job.specs.declared.middle.Middle.TheVariants.{Nothing}

-- the lines behind the output: the summary of a deck that ended, and of any other how it ended and its variables
abbrev pub made_text : {F : Type 0} → ℕ → ℕ → PlainEnding → Left F → Files → List ℕ
made_text seed count ended left files = summary_text (summed seed count (length left.deck.statements) (tells_of left.core.tells) files)
made_text seed count e left files = run_text left.deck.variables (lines_of Nothing) e left.core

-- the deck ended, and the sink took the open record and the lines behind it
pub record HasMade {F : Type 0} (seed count : ℕ) (left : Left F) (files : Files) (status : Status) (Tells : Type 0) (old new : List ℕ) : Type 0 where
  pub going : left.over ≡ false
  pub ending : Ending
  pub ends : left.ending ≡ Some ending
  pub status_is : status ≡ status_of (ending_of ending)
  pub output : Tells → new ≡ old ++ (open_record left.core.output ++ made_text seed count (ending_of ending) left files)

-- the deck ended, and the sink took a front of the open record and the lines behind it
pub record IsMadeBegun {F : Type 0} (seed count : ℕ) (it : Carried F) (files : Files) (old new : List ℕ) : Type 0 where
  pub settled : it.settled ≡ Ok tt
  pub going : it.left.over ≡ false
  pub ending : Ending
  pub ends : it.left.ending ≡ Some ending
  pub taken : TakesFront old new (open_record it.left.core.output ++ made_text seed count (ending_of ending) it.left files)

-- what the sink took of a report
abbrev pub IsMadeFront : {F : Type 0} → ℕ → ℕ → Carried F → Files → List ℕ → List ℕ → Type 0
IsMadeFront seed count it files old new = (new ≡ old) ⊎ IsMadeBegun seed count it files old new

-- the sink took a front of the reply to a deck that was made, which leaves the files
abbrev pub TookMade : Deck → ℕ → ℕ → Files → List ℕ → List ℕ → Type 0
TookMade deck seed count files old new = (reply : Reply) × IsMadeReply deck seed count files reply × TakesFront old new reply.output

-- the answer is that of the reply to a deck that was made, which leaves the files, and its output was taken
pub record IsMadeReplied (deck : Deck) (seed count : ℕ) (files : Files) (status : Status) (Taken : List ℕ → Type 0) : Type 0 where
  pub reply : Reply
  pub is : IsMadeReply deck seed count files reply
  pub answer : status ≡ reply.status
  pub files_left : files ≡ reply.files
  pub output : Taken reply.output
