-- What is replied to the words for a deck that is made.
use Rattle.std.proofs.Common.{◌≡◌, inr, ℕ, Bool, true, false, List, Ok, Err, refl, sym, subst}
use Rattle.fj_outside.specs.Holdings.{Files as Held}
use Rattle.fj_statement.specs.declared.deck.Deck.{Deck}
use Rattle.fj_statement.specs.declared.reason.Reason.{Reason}
use Rattle.fj_deck.specs.Deck.{IsDeck, IsRefused}
use Rattle.fj_gen.specs.Generated.{generated_text}
use Rattle.fj_run_items.specs.Handing.{TakesFront}
use Rattle.fj_meaning.specs.State.{Files}
use Rattle.fj_report.specs.Lines.{status_text}
use Rattle.fj_report.specs.declared.status.Status.{Status}
use Rattle.fj_report.specs.declared.status.Status.TheVariants.{Ended, DeckRefused}
use Rattle.fj_job.specs.Answers.{Replied, TookFor}
use Rattle.fj_job.specs.Making.{IsMadeReplied, TookMade}
use Rattle.fj_job.specs.Reply.{text_reply, refusal_reply, files_in}
use Rattle.fj_job.specs.declared.task.Task.TheVariants.{Generate}

-- its text
pub shown_reply : (seed count : ℕ) (shown : Bool) (text : List ℕ) (files : Held) (status : Status) (Taken : List ℕ → Type 0) → shown ≡ true → status ≡ Ended
    → Taken (generated_text seed count) → Replied (Generate seed count shown) text files status files Taken
shown_reply seed count shown text files status Taken e is taken = subst (λ (b : Bool). Replied (Generate seed count b) text files status files Taken) (sym e) (record {
  reply = text_reply seed count (files_in files);
  is = refl;
  answer = is;
  files_left = refl;
  output = taken;
})

pub run_reply : (seed count : ℕ) (shown : Bool) (text : List ℕ) (files : Held) (status : Status) (Taken : List ℕ → Type 0) → shown ≡ false
    → Replied (Generate seed count false) text files status files Taken → Replied (Generate seed count shown) text files status files Taken
run_reply seed count shown text files status Taken e r = subst (λ (b : Bool). Replied (Generate seed count b) text files status files Taken) (sym e) r

-- what it came to
pub made_reply : (seed count : ℕ) (made text : List ℕ) (deck : Deck) (files : Held) (status : Status) (Taken : List ℕ → Type 0) → made ≡ generated_text seed count → IsDeck made deck
    → IsMadeReplied deck seed count (files_in files) status Taken → Replied (Generate seed count false) text files status files Taken
made_reply seed count made text deck files status Taken e is r = record {
  reply = r.reply;
  is = (Ok deck, subst (λ (t : List ℕ). IsDeck t deck) e is, r.is);
  answer = r.answer;
  files_left = r.files_left;
  output = r.output;
}

pub unmade_reply : (seed count : ℕ) (made text : List ℕ) (line : ℕ) (reason : Reason) (files : Held) (status : Status) (Taken : List ℕ → Type 0) → made ≡ generated_text seed count
    → IsRefused made line reason → status ≡ DeckRefused line reason → Taken (status_text (DeckRefused line reason)) → Replied (Generate seed count false) text files status files Taken
unmade_reply seed count made text line reason files status Taken e is s taken = record {
  reply = refusal_reply line reason (files_in files);
  is = (Err (line, reason), subst (λ (t : List ℕ). IsRefused t line reason) e is, refl);
  answer = s;
  files_left = refl;
  output = taken;
}

-- ---- fronts

-- of its text
pub shown_taken : (seed count : ℕ) (shown : Bool) (text : List ℕ) (files : Files) (old new : List ℕ) → shown ≡ true → TakesFront old new (generated_text seed count)
    → TookFor (Generate seed count shown) text files old new
shown_taken seed count shown text files old new e front =
    subst (λ (b : Bool). TookFor (Generate seed count b) text files old new) (sym e) (inr (text_reply seed count files, refl, front))

pub run_taken : (seed count : ℕ) (shown : Bool) (text : List ℕ) (files : Files) (old new : List ℕ) → shown ≡ false → TookFor (Generate seed count false) text files old new
    → TookFor (Generate seed count shown) text files old new
run_taken seed count shown text files old new e took = subst (λ (b : Bool). TookFor (Generate seed count b) text files old new) (sym e) took

-- of what it came to
pub made_taken : (seed count : ℕ) (made text : List ℕ) (deck : Deck) (files : Files) (old new : List ℕ) → made ≡ generated_text seed count → IsDeck made deck → TookMade deck seed count files old new
    → TookFor (Generate seed count false) text files old new
made_taken seed count made text deck files old new e is took = inr (took.0, (Ok deck, subst (λ (t : List ℕ). IsDeck t deck) e is, took.1), took.2)

pub unmade_taken : (seed count : ℕ) (made text : List ℕ) (line : ℕ) (reason : Reason) (files : Files) (old new : List ℕ) → made ≡ generated_text seed count → IsRefused made line reason
    → TakesFront old new (status_text (DeckRefused line reason)) → TookFor (Generate seed count false) text files old new
unmade_taken seed count made text line reason files old new e is front =
    inr (refusal_reply line reason files, (Err (line, reason), subst (λ (t : List ℕ). IsRefused t line reason) e is, refl), front)
