-- What is replied to a text that was read.
use Rattle.std.proofs.Common.{◌≡◌, ◌⊎◌, inl, inr, ℕ, ◌<◌, true, false, List, length, Ok, Err, unwrap_or, refl, ap, sym, ◌∙◌, subst, arith}
use Rattle.fj_outside.specs.Holdings.{Files as Held}
use Rattle.fj_statement.specs.declared.deck.Deck.{Deck}
use Rattle.fj_statement.specs.declared.reason.Reason.{Reason}
use Rattle.fj_deck.specs.Deck.{IsDeck, IsRefused, OneDeck, NoneIsBoth, OneRefusal}
use Rattle.fj_deck.specs.Deck as reading
use Rattle.fj_meaning.specs.State.{Files}
use Rattle.fj_meaning.specs.Statement.{Ending, plain_execution}
use Rattle.fj_gen.specs.Generated.{generated_text}
use Rattle.fj_report.specs.declared.status.Status.{Status}
use Rattle.fj_report.specs.declared.status.Status.TheVariants.{Ended, ErrorStop, Prohibited, DeckRefused, Usage, ReadFault, WriteFault, DiskFault, Memory}
use Rattle.fj_job.specs.Answers.{Replied, IfEnded, IfRefused, IsLost, IsSomeDeck, HasDeck}
use Rattle.fj_job.specs.Reply.{Reply, Reading, IsReading, IsReplyTo, IsRefusal, IsExecuted, IsRunReply, IsMade, IsMadeReply, OneReply, checked, status_of, report_of, made_report, no_files, Lines, trace_of}
use Rattle.fj_job.specs.Taken.{IsReadOf}
use Rattle.fj_job.specs.declared.task.Task.{Task}
use Rattle.fj_job.specs.declared.task.Task.TheVariants.{Refuse, Check, Execute, Generate}

one_refusal : (line another : ℕ) (reason other : Reason) → line ≡ another → reason ≡ other → (let r : Reading = Err (line, reason) in r) ≡ Err (another, other)
one_refusal line another reason other a b = rw (a, b) refl

-- a text has one reading at most
one_reading : OneDeck → NoneIsBoth → OneRefusal → (text : List ℕ) (a b : Reading) → IsReading text a → IsReading text b → a ≡ b
one_reading d n r text (Ok deck) (Ok other) h k = ap Ok (d text deck other h k)
one_reading d n r text (Ok deck) (Err refusal) h k = absurd (n text deck refusal.0 refusal.1 h k)
one_reading d n r text (Err refusal) (Ok deck) h k = absurd (n text deck refusal.0 refusal.1 k h)
one_reading d n r text (Err refusal) (Err other) h k =
    let same = r text refusal.0 other.0 refusal.1 other.1 h k in
    one_refusal refusal.0 other.0 refusal.1 other.1 same.0 same.1

reply_same : (s t : Status) (o p : List ℕ) (f g : Files) → s ≡ t → o ≡ p → f ≡ g
    → (let r : Reply = record { status = s; output = o; files = f } in r) ≡ record { status = t; output = p; files = g }
reply_same s t o p f g a b c = rw (a, b, c) refl

-- a deck that is carried out has one reply at most
one_run : (deck : Deck) (lines : Lines) (files : Files) (reply other : Reply) → IsRunReply deck lines files reply → IsRunReply deck lines files other → reply ≡ other
one_run deck lines files reply other a b =
    let same : a.ending ≡ b.ending = ap (λ o. unwrap_or o a.ending) (sym a.ends ∙ b.ends) in
    reply_same _ _ _ _ _ _ (a.status ∙ ap status_of same ∙ sym b.status)
    (a.output ∙ ap (λ (e : Ending). report_of deck lines (plain_execution deck.variables deck.statements files) e) same ∙ sym b.output)
    (a.files_left ∙ sym b.files_left)

one_made : (deck : Deck) (seed count : ℕ) (files : Files) (reply other : Reply) → IsMadeReply deck seed count files reply → IsMadeReply deck seed count files other → reply ≡ other
one_made deck seed count files reply other a b =
    let same : a.ending ≡ b.ending = ap (λ o. unwrap_or o a.ending) (sym a.ends ∙ b.ends) in
    reply_same _ _ _ _ _ _ (a.status ∙ ap status_of same ∙ sym b.status)
    (a.output ∙ ap (λ (e : Ending). made_report seed count deck (plain_execution deck.variables deck.statements no_files) e) same ∙ sym b.output)
    (a.files_left ∙ sym b.files_left)

one_making : (seed count : ℕ) (files : Files) (reading : Reading) (reply other : Reply) → IsMade reading seed count files reply → IsMade reading seed count files other → reply ≡ other
one_making seed count files (Ok deck) reply other a b = one_made deck seed count files reply other a b
one_making seed count files (Err refusal) reply other a b = a ∙ sym b

one_executed : (lines : Lines) (files : Files) (reading : Reading) (reply other : Reply) → IsExecuted reading lines files reply → IsExecuted reading lines files other → reply ≡ other
one_executed lines files (Ok deck) reply other a b = one_run deck lines files reply other a b
one_executed lines files (Err refusal) reply other a b = a ∙ sym b

pub one_reply : OneDeck → NoneIsBoth → OneRefusal → OneReply
one_reply d n r Refuse text files reply other h k = h ∙ sym k
one_reply d n r Check text files reply other h k = h.2 ∙ ap (λ (x : Reading). checked x files) (one_reading d n r text h.0 k.0 h.1 k.1) ∙ sym k.2
one_reply d n r (Execute workers trace) text files reply other h k = one_executed (trace_of trace) files k.0 reply other
    (subst (λ (x : Reading). IsExecuted x (trace_of trace) files reply) (one_reading d n r text h.0 k.0 h.1 k.1) h.2) k.2
one_reply d n r (Generate seed count true) text files reply other h k = h ∙ sym k
one_reply d n r (Generate seed count false) text files reply other h k = one_making seed count files k.0 reply other
    (subst (λ (x : Reading). IsMade x seed count files reply) (one_reading d n r (generated_text seed count) h.0 k.0 h.1 k.1) h.2) k.2

-- a text that is too long is refused as every other one is
long_is : (held text : List ℕ) (line : ℕ) (reason : Reason) → 4194304 < length text → 4194304 < length held → IsRefused text line reason → IsRefused held line reason
long_is held text line reason t h (reading.IsRefused.long long) = reading.IsRefused.long h
long_is held text line reason t h (reading.IsRefused.bad before bad behind short lines good refused) = absurd (omega arith)
long_is held text line reason t h (reading.IsRefused.endless last short good ended) = absurd (omega arith)

-- a text that was read in part is read as the whole is
pub same_refusal : (held text : List ℕ) (line : ℕ) (reason : Reason) → IsReadOf 4194304 held text → IsRefused text line reason → IsRefused held line reason
same_refusal held text line reason (inl e) h = subst (λ (x : List ℕ). IsRefused x line reason) e h
same_refusal held text line reason (inr l) h = long_is held text line reason l.0 l.1 h

pub same_deck : (held text : List ℕ) (deck : Deck) → IsReadOf 4194304 held text → IsDeck text deck → IsDeck held deck
same_deck held text deck (inl e) h = subst (λ (x : List ℕ). IsDeck x deck) e h
same_deck held text deck (inr l) h = absurd (let s = h.short in omega (arith, s, l.0))

same_reading : (held text : List ℕ) (r : Reading) → IsReadOf 4194304 held text → IsReading text r → IsReading held r
same_reading held text (Ok deck) e h = same_deck held text deck e h
same_reading held text (Err refusal) e h = same_refusal held text refusal.0 refusal.1 e h

pub same_reply : (task : Task) (held text : List ℕ) (files : Files) (reply : Reply) → IsReadOf 4194304 held text → IsReplyTo task text files reply → IsReplyTo task held files reply
same_reply Refuse held text files reply e h = h
same_reply Check held text files reply e h = (h.0, same_reading held text h.0 e h.1, h.2)
same_reply (Execute workers trace) held text files reply e h = (h.0, same_reading held text h.0 e h.1, h.2)
same_reply (Generate seed count true) held text files reply e h = h
same_reply (Generate seed count false) held text files reply e h = h

-- what is replied to a text that was read in part is replied to the whole
pub replied_whole : (task : Task) (held text : List ℕ) (files : Held) (status : Status) (left : Held) (Taken : List ℕ → Type 0) → IsReadOf 4194304 held text
    → Replied task text files status left Taken → Replied task held files status left Taken
replied_whole task held text files status left Taken e r =
    record { reply = r.reply; is = same_reply task held text _ r.reply e r.is; answer = r.answer; files_left = r.files_left; output = r.output }

pub refusal_whole : (task : Task) (held text : List ℕ) (line : ℕ) (reason : Reason) → IsReadOf 4194304 held text → IsRefusal task text line reason → IsRefusal task held line reason
refusal_whole Refuse held text line reason e h = h
refusal_whole Check held text line reason e h = same_refusal held text line reason e h
refusal_whole (Execute workers trace) held text line reason e h = same_refusal held text line reason e h
refusal_whole (Generate seed count shown) held text line reason e h = h

pub refused_whole : (task : Task) (held text : List ℕ) (status : Status) → IsReadOf 4194304 held text → IfRefused status (IsRefusal task text) → IfRefused status (IsRefusal task held)
refused_whole task held text Ended e h = tt
refused_whole task held text (ErrorStop stmt code) e h = tt
refused_whole task held text (Prohibited stmt rule) e h = tt
refused_whole task held text (DeckRefused line reason) e h = refusal_whole task held text line reason e h
refused_whole task held text Usage e h = tt
refused_whole task held text ReadFault e h = tt
refused_whole task held text WriteFault e h = tt
refused_whole task held text (DiskFault stmt) e h = tt
refused_whole task held text Memory e h = tt

-- ---- answers of a deck

pub ended_by : (s : Status) (P : Type 0) → P → IfEnded s P
ended_by Ended P p = p
ended_by (ErrorStop stmt code) P p = p
ended_by (Prohibited stmt rule) P p = p
ended_by (DeckRefused line reason) P p = tt
ended_by Usage P p = tt
ended_by ReadFault P p = tt
ended_by WriteFault P p = tt
ended_by (DiskFault stmt) P p = tt
ended_by Memory P p = tt

pub ended_weaker : (s : Status) (P Q : Type 0) → (P → Q) → IfEnded s P → IfEnded s Q
ended_weaker Ended P Q f h = f h
ended_weaker (ErrorStop stmt code) P Q f h = f h
ended_weaker (Prohibited stmt rule) P Q f h = f h
ended_weaker (DeckRefused line reason) P Q f h = tt
ended_weaker Usage P Q f h = tt
ended_weaker ReadFault P Q f h = tt
ended_weaker WriteFault P Q f h = tt
ended_weaker (DiskFault stmt) P Q f h = tt
ended_weaker Memory P Q f h = tt

-- what holds of both answers that are lost
pub lost_by : (s : Status) (P : Status → Type 0) → IsLost s → P WriteFault → P Memory → P s
lost_by Ended P h w m = absurd h
lost_by (ErrorStop stmt code) P h w m = absurd h
lost_by (Prohibited stmt rule) P h w m = absurd h
lost_by (DeckRefused line reason) P h w m = absurd h
lost_by Usage P h w m = absurd h
lost_by ReadFault P h w m = absurd h
lost_by WriteFault P h w m = w
lost_by (DiskFault stmt) P h w m = absurd h
lost_by Memory P h w m = m

-- an answer that is told or lost is none of a deck, where the one that is told is none
pub no_end : (s told : Status) (P : Type 0) → IfEnded told P → (s ≡ told) ⊎ IsLost s → IfEnded s P
no_end s told P h (inl e) = subst (λ (x : Status). IfEnded x P) (sym e) h
no_end s told P h (inr lost) = lost_by s (λ x. IfEnded x P) lost tt tt

deck_whole : (task : Task) (held text : List ℕ) → IsReadOf 4194304 held text → HasDeck task text → HasDeck task held
deck_whole Refuse held text e h = h
deck_whole Check held text e h = (h.0, same_deck held text h.0 e h.1)
deck_whole (Execute workers trace) held text e h = (h.0, same_deck held text h.0 e h.1)
deck_whole (Generate seed count shown) held text e h = h

pub ended_whole : (task : Task) (held text : List ℕ) (s : Status) → IsReadOf 4194304 held text → IfEnded s (HasDeck task text) → IfEnded s (HasDeck task held)
ended_whole task held text s e h = ended_weaker s _ _ (deck_whole task held text e) h

pub changed_whole : (held text : List ℕ) (Same : Type 0) → IsReadOf 4194304 held text → Same ⊎ IsSomeDeck text → Same ⊎ IsSomeDeck held
changed_whole held text Same e (inl same) = inl same
changed_whole held text Same e (inr deck) = inr (deck.0, same_deck held text deck.0 e deck.1)
