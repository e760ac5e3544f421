-- What is asked for is answered, or is a deck that is to be carried out.
use Rattle.std.specs.Prelude.{◌≡◌, ◌⊎◌, ℕ, Bool, List}
use Rattle.fj_deck.specs.Deck.{IsDeck, IsRefused}
use Rattle.fj_statement.specs.Sound.{IsSound}
use Rattle.fj_statement.specs.declared.deck.Deck.{Deck as Decked}
use Rattle.fj_statement.specs.declared.reason.Reason.{Reason}
use Rattle.fj_report.specs.declared.status.Status.{Status}
use Rattle.fj_report.specs.declared.status.Status.TheVariants.{DeckRefused, ReadFault, WriteFault, Memory}
use Rattle.fj_job.specs.Answers.{HasRun, IfExecute, TookRefusal}
use Rattle.fj_job.specs.Seen.{Seen, OnDisk, left_alone}
use Rattle.fj_job.specs.declared.task.Task.{Task}
use Rattle.fj_job.specs.declared.task.Task.TheVariants.{Execute}
use Rattle.fj_job.specs.declared.asked.Asked.{Asked}
use Rattle.fj_job.specs.declared.asked.Asked.TheVariants.{Answered, Deck}

abbrev pub IfAnswered : Asked → (Status → Type 0) → Type 0
IfAnswered (Answered status) P = P status
IfAnswered (Deck deck workers trace) P = Unit {0}

abbrev pub IfDeck : Asked → (Decked → ℕ → Bool → Type 0) → Type 0
IfDeck (Answered status) P = Unit {0}
IfDeck (Deck deck workers trace) P = P deck workers trace

-- No deck was read. The text is refused, where the source tells it: that is answered, or that the sink failed then. Or memory was
-- wanting, or the source failed.
abbrev pub IsUnread : Status → Type 0 → List ℕ → Type 0
IsUnread status Tells text =
    ((line : ℕ) × (reason : Reason) × ((status ≡ DeckRefused line reason) ⊎ (status ≡ WriteFault)) × (Tells → IsRefused text line reason)) ⊎ (status ≡ Memory) ⊎ (status ≡ ReadFault)

-- And the sink took nothing, or a front of the line by which the text is refused.
pub record WasUnread (status : Status) (source sink : Seen (List ℕ)) : Type 0 where
  pub is : IsUnread status source.tells source.before
  pub taken : source.tells → sink.tells → TookRefusal source.before sink.before sink.after

-- Of a source and a sink, whatever the disk is: nothing is done with it.
pub record IsAsked (task : Task) (source sink : Seen (List ℕ)) (asked : Asked) : Type 0 where
  pub told : (disk : OnDisk) → IfAnswered asked (λ status. HasRun task status source sink (left_alone disk))
  -- what is answered where a deck was to be carried out is that none was read
  pub unread : IfAnswered asked (λ status. IfExecute task (λ lines. WasUnread status source sink))
  -- a deck is that of the source, and is to be carried out
  pub is_deck : source.tells → IfDeck asked (λ it workers trace. IsDeck source.before it)
  pub sound : IfDeck asked (λ it workers trace. IsSound it)
  pub task_is : IfDeck asked (λ it workers trace. task ≡ Execute workers trace)
  pub untold : IfDeck asked (λ it workers trace. sink.same)
  pub goes_on : source.goes_on × sink.goes_on
