-- To the words, a text and files there is a reply.
use Rattle.std.proofs.Common.{◌≡◌, inl, inr, ℕ, true, false, List, Option, Some, None, IsSome, Ok, Err, refl}
use Rattle.fj_statement.specs.Sound.{IsSound}
use Rattle.fj_statement.specs.declared.deck.Deck.{Deck}
use Rattle.fj_deck.specs.Deck.{SomeAnswer, DecksAreSound}
use Rattle.fj_meaning.specs.State.{Files}
use Rattle.fj_meaning.specs.Statement.{Ending, plain_execution}
use Rattle.fj_gen.specs.Generated.{generated_text}
use Rattle.fj_job.specs.Reply.{Reply, Reading, IsReading, IsExecuted, IsRunReply, IsMade, IsMadeReply, SomeReply, checked, status_of, report_of, made_report, refusal_reply, usage_reply, text_reply, no_files, Lines, trace_of}
use Rattle.fj_job.specs.declared.task.Task.TheVariants.{Refuse, Check, Execute, Generate}
use Rattle.fj_job.proofs.Fronts.{deck_ends}

module _ (some : SomeAnswer) (sound : DecksAreSound) where
  some_reading : (text : List ℕ) → (reading : Reading) × IsReading text reading
  some_reading text = elim (some text) [
    | inl deck ↦ (Ok deck.0, deck.1)
    | inr refusal ↦ (Err (refusal.0, refusal.1), refusal.2)
  ]

  some_run : (deck : Deck) (lines : Lines) (files : Files) → IsSound deck → (reply : Reply) × IsRunReply deck lines files reply
  some_run deck lines files is = by (plain_execution deck.variables deck.statements files).ending refl (deck_ends deck files is)
    where
      by : (o : Option Ending) → (plain_execution deck.variables deck.statements files).ending ≡ o → IsSome o → (reply : Reply) × IsRunReply deck lines files reply
      by None e k = cc
      by (Some ending) e k =
          let left = plain_execution deck.variables deck.statements files in (
            record { status = status_of ending; output = report_of deck lines left ending; files = left.files },
            record { ending = ending; ends = e; status = refl; output = refl; files_left = refl },
          )

  some_made : (deck : Deck) (seed count : ℕ) (files : Files) → IsSound deck → (reply : Reply) × IsMadeReply deck seed count files reply
  some_made deck seed count files is = by (plain_execution deck.variables deck.statements no_files).ending refl (deck_ends deck no_files is)
    where
      by : (o : Option Ending) → (plain_execution deck.variables deck.statements no_files).ending ≡ o → IsSome o → (reply : Reply) × IsMadeReply deck seed count files reply
      by None e k = cc
      by (Some ending) e k = (
        record { status = status_of ending; output = made_report seed count deck (plain_execution deck.variables deck.statements no_files) ending; files = files },
        record { ending = ending; ends = e; status = refl; output = refl; files_left = refl },
      )

  some_executed : (text : List ℕ) (reading : Reading) (lines : Lines) (files : Files) → IsReading text reading → (reply : Reply) × IsExecuted reading lines files reply
  some_executed text (Ok deck) lines files is = some_run deck lines files (sound text deck is)
  some_executed text (Err refusal) lines files is = (refusal_reply refusal.0 refusal.1 files, refl)

  some_making : (text : List ℕ) (reading : Reading) (seed count : ℕ) (files : Files) → IsReading text reading → (reply : Reply) × IsMade reading seed count files reply
  some_making text (Ok deck) seed count files is = some_made deck seed count files (sound text deck is)
  some_making text (Err refusal) seed count files is = (refusal_reply refusal.0 refusal.1 files, refl)

  pub some_reply : SomeReply
  some_reply Refuse text files = (usage_reply files, refl)
  some_reply Check text files = let r = some_reading text in (checked r.0 files, (r.0, r.1, refl))
  some_reply (Execute workers trace) text files =
      let r = some_reading text in
      let it = some_executed text r.0 (trace_of trace) files r.1 in
      (it.0, (r.0, r.1, it.1))
  some_reply (Generate seed count true) text files = (text_reply seed count files, refl)
  some_reply (Generate seed count false) text files =
      let r = some_reading (generated_text seed count) in
      let it = some_making (generated_text seed count) r.0 seed count files r.1 in
      (it.0, (r.0, r.1, it.1))
