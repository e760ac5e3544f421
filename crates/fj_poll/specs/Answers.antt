-- What a run with looks has done.
use Rattle.std.specs.Prelude.{◌≡◌, ◌⊎◌, ◌↔◌, ◌≤◌, ℕ, ◌+◌, false, List, [], ◌++◌, codes, Option, Some, None, Result, Ok, Err, IfOk}
use Rattle.fj_outside.specs.Faults.{Rose}
use Rattle.fj_outside.specs.Holdings.{Holdings}
use Rattle.fj_statement.specs.Sound.{IsSound}
use Rattle.fj_statement.specs.declared.deck.Deck.{Deck}
use Rattle.fj_deck.specs.Deck.{IsDeck}
use Rattle.fj_run_items.specs.Handing.{TakesFront}
use Rattle.fj_run_units.specs.Files.{files_of}
use Rattle.fj_report.specs.declared.status.Status.{Status}
use Rattle.fj_report.specs.declared.status.Status.TheVariants.{Usage}
use Rattle.fj_run_script.specs.declared.looking.Look.{Look}
use Rattle.fj_job.specs.declared.ending.Carried.{Carried}
use Rattle.fj_job.specs.declared.task.Task.TheVariants.{Execute}
use Rattle.fj_job.specs.Answers.{HasRun, HasCause, IsAnswer, IsLost}
use Rattle.fj_job.specs.Asking.{WasUnread}
use Rattle.fj_job.specs.Executing.{IsCarriedOut, IsExecuted}
use Rattle.fj_job.specs.Seen.{on_disk, seen}
use Rattle.fj_poll.specs.Lines.{look_lines}
use Rattle.fj_poll.specs.Looks.{IsPut, NoneLooks, NoneLooksBefore}

-- words that are no form
unfoldable pub usage_text : List ℕ
usage_text = codes "usage: fjob poll [--workers N]\n"

-- What is put of a deck, with its looks, over these files: where the disk tells, they are right; and the deck is sound.
pub record Polled (tells : Type 0) (deck : Deck) (files : Holdings) : Type 0 where
  pub put : Deck
  pub looks : List Look
  pub is_put : tells → IsPut deck put (files_of files) looks
  pub sound : IsSound put

-- the looks that a run left; none where it was not begun
abbrev pub looks_left : {F E : Type 0} → Result (Carried F) E → List Look
looks_left (Ok it) = it.left.looks.items
looks_left (Err error) = []

-- A deck was carried out with looks: what is left is what carrying it out leaves as they put it. Where it ended no look is missing, and where it
-- was cut none up to the statement at which it was.
pub record IsCarriedOutPolled {W D F E : Type 0} (tells_out : W → Type 0) (taken : W → List ℕ) (count_out : W → ℕ) (tells : D → Type 0) (held : D → Holdings) (count refusals : D → ℕ)
    (deck : Deck) (out : W) (disk : D) (out' : W) (disk' : D) (result : Result (Carried F) E) : Type 0 where
  pub polled : Polled (tells disk) deck (held disk)
  pub looks : polled.looks ≡ looks_left result
  pub none : tells disk → IfOk result (λ it. it.left.over ≡ false → NoneLooks polled.put (files_of (held disk)))
  pub none_before : tells disk → IfOk result (λ it. NoneLooksBefore polled.put (files_of (held disk)) (it.left.at + 1))
  pub carried : IsCarriedOut tells_out taken count_out tells held count refusals polled.put out disk out' disk' result

-- And reported, with the lines of its looks in the place of those of a trace: all of them; or, where it was cut at a statement, all up to that.
pub record IsExecutedPolled {W D : Type 0} (tells_out : W → Type 0) (taken : W → List ℕ) (count_out : W → ℕ) (tells : D → Type 0) (held : D → Holdings) (count refusals : D → ℕ)
    (deck : Deck) (out : W) (disk : D) (out' : W) (disk' : D) (status : Status) : Type 0 where
  pub polled : Polled (tells disk) deck (held disk)
  pub none : IsAnswer status → tells disk → NoneLooks polled.put (files_of (held disk))
  pub executed : IsExecuted tells_out taken count_out tells held count refusals polled.put (look_lines polled.looks)
      (λ place. NoneLooksBefore polled.put (files_of (held disk)) (place + 1)) out disk out' disk' status

module _ {R W D : Type 0} (tells_in : R → Type 0) (left : R → List ℕ) (count_in : R → ℕ) (tells_out : W → Type 0) (taken : W → List ℕ) (count_out : W → ℕ)
    (tells : D → Type 0) (held : D → Holdings) (count refusals : D → ℕ) where
  -- Words that are no form are told so: nothing is done with the source and the disk.
  pub record ToldUsage (source : R) (out : W) (disk : D) (status : Status) (source' : R) (out' : W) (disk' : D) : Type 0 where
    pub answer : (status ≡ Usage) ⊎ IsLost status
    pub source_is : source' ≡ source
    pub disk_is : disk' ≡ disk
    pub output : IsAnswer status → tells_out out → taken out' ≡ taken out ++ usage_text
    pub front : tells_out out → TakesFront (taken out) (taken out') usage_text
    pub cause : HasCause ⊥ (Rose (count_out out) (count_out out')) ⊥ status
    pub goes_on : (tells_out out ↔ tells_out out') × (count_out out ≤ count_out out')

  -- No deck was read: that is answered as the words of a run are, and nothing is done with the disk.
  pub record NoneCarriedOut (workers : ℕ) (source : R) (out : W) (disk : D) (status : Status) (source' : R) (out' : W) (disk' : D) : Type 0 where
    pub disk_is : disk' ≡ disk
    pub unread : WasUnread status (seen tells_in left count_in source source') (seen tells_out taken count_out out out')
    pub ran : HasRun (Execute workers false) status (seen tells_in left count_in source source') (seen tells_out taken count_out out out')
        (seen tells (on_disk held refusals) count disk disk')

  -- The source's text is a deck, which was carried out with looks.
  pub record DeckCarriedOut (source : R) (out : W) (disk : D) (status : Status) (source' : R) (out' : W) (disk' : D) : Type 0 where
    pub deck : Deck
    pub is : tells_in source → IsDeck (left source) deck
    pub goes_on : (tells_in source ↔ tells_in source') × (count_in source ≤ count_in source')
    pub executed : IsExecutedPolled tells_out taken count_out tells held count refusals deck out disk out' disk' status

  -- by the workers that the words ask for; or there was no memory to read the words
  abbrev pub HasPolled : Option ℕ → R → W → D → Status → R → W → D → Type 0
  HasPolled None source out disk status source' out' disk' = ToldUsage source out disk status source' out' disk'
  HasPolled (Some workers) source out disk status source' out' disk' =
      NoneCarriedOut workers source out disk status source' out' disk' ⊎ DeckCarriedOut source out disk status source' out' disk'
