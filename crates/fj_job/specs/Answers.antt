-- What a run has done: its answer, what the sink took, what the disk is left with, and the cause of each fault.
use Rattle.std.specs.Prelude.{◌≡◌, ◌⊎◌, ℕ, List, ◌++◌}
use Rattle.std.specs.FinSet as set
use Rattle.fj_outside.specs.Holdings.{Files as Held}
use Rattle.fj_statement.specs.declared.reason.Reason.{Reason}
use Rattle.fj_statement.specs.declared.deck.Deck.{Deck}
use Rattle.fj_deck.specs.Deck.{IsDeck, IsRefused}
use Rattle.fj_meaning.specs.State.{Files}
use Rattle.fj_run_items.specs.Handing.{TakesFront}
use Rattle.fj_report.specs.Lines.{status_text}
use Rattle.fj_report.specs.declared.status.Status.{Status}
use Rattle.fj_report.specs.declared.status.Status.TheVariants.{Ended, ErrorStop, Prohibited, DeckRefused, Usage, ReadFault, WriteFault, DiskFault, Memory}
use Rattle.fj_job.specs.declared.task.Task.{Task}
use Rattle.fj_job.specs.declared.task.Task.TheVariants.{Refuse, Check, Execute, Generate}
use Rattle.fj_job.specs.Reply.{Reply, Lines, IsReplyTo, IsRefusal, files_in, trace_of}
use Rattle.fj_job.specs.Cut.{TookReport, CutByDisk, CutBySink, CutByMemory}
use Rattle.fj_job.specs.Seen.{Seen, OnDisk}

-- neither a fault nor want of memory
abbrev pub IsAnswer : Status → Type 0
IsAnswer ReadFault = ⊥
IsAnswer WriteFault = ⊥
IsAnswer (DiskFault stmt) = ⊥
IsAnswer Memory = ⊥
IsAnswer _ = Unit {0}

-- the report was not written whole: the sink failed, or memory was wanting
abbrev pub IsLost : Status → Type 0
IsLost WriteFault = Unit {0}
IsLost Memory = Unit {0}
IsLost _ = ⊥

-- an answer that a deck may come to which is carried out
abbrev pub IsOfRun : Status → Type 0
IsOfRun (DeckRefused line reason) = ⊥
IsOfRun Usage = ⊥
IsOfRun ReadFault = ⊥
IsOfRun _ = Unit {0}

-- an answer that no statement comes before
abbrev pub LeavesDisk : Status → Type 0
LeavesDisk (DeckRefused line reason) = Unit {0}
LeavesDisk Usage = Unit {0}
LeavesDisk ReadFault = Unit {0}
LeavesDisk _ = ⊥

-- each fault has its cause
abbrev pub HasCause : Type 0 → Type 0 → Type 0 → Status → Type 0
HasCause read write disk ReadFault = read
HasCause read write disk WriteFault = write
HasCause read write disk (DiskFault stmt) = disk
HasCause read write disk _ = Unit {0}

-- of a refused deck, its line and reason
abbrev pub IfRefused : Status → (ℕ → Reason → Type 0) → Type 0
IfRefused (DeckRefused line reason) P = P line reason
IfRefused _ P = Unit {0}

-- of a fault of the disk, its line
abbrev pub IfFault : Status → (ℕ → Type 0) → Type 0
IfFault (DiskFault line) P = P line
IfFault _ P = Unit {0}

-- where the sink failed
abbrev pub IfWriteFault : Status → Type 0 → Type 0
IfWriteFault WriteFault P = P
IfWriteFault _ P = Unit {0}

-- where memory was wanting
abbrev pub IfMemory : Status → Type 0 → Type 0
IfMemory Memory P = P
IfMemory _ P = Unit {0}

-- of a deck that is to be carried out, the lines in the middle of its report
abbrev pub IfExecute : Task → (Lines → Type 0) → Type 0
IfExecute (Execute workers trace) P = P (trace_of trace)
IfExecute _ P = Unit {0}

-- of a deck that was carried out or checked to an end
abbrev pub IfEnded : Status → Type 0 → Type 0
IfEnded Ended P = P
IfEnded (ErrorStop stmt code) P = P
IfEnded (Prohibited stmt rule) P = P
IfEnded _ P = Unit {0}

-- the sink took nothing, or a front of the line by which the text is refused
abbrev pub TookRefusal : List ℕ → List ℕ → List ℕ → Type 0
TookRefusal text old new = (new ≡ old) ⊎ ((line : ℕ) × (reason : Reason) × IsRefused text line reason × TakesFront old new (status_text (DeckRefused line reason)))

-- no deck was begun: the disk is as it was, and the sink took nothing, or a front of the line by which the text is refused
abbrev pub NoneBegun : Seen (List ℕ) → Seen (List ℕ) → Seen OnDisk → Type 0
NoneBegun source sink disk = disk.same × (sink.tells → TookRefusal source.before sink.before sink.after)

-- the text is a deck, which is done what the words ask for
abbrev pub HasDeck : Task → List ℕ → Type 0
HasDeck Refuse text = ⊥
HasDeck (Generate seed count shown) text = Unit {0}
HasDeck _ text = (deck : Deck) × IsDeck text deck

-- the text is a deck
abbrev pub IsSomeDeck : List ℕ → Type 0
IsSomeDeck text = (deck : Deck) × IsDeck text deck

-- the text is refused
abbrev pub IsSomeRefusal : List ℕ → Type 0
IsSomeRefusal text = (line : ℕ) × (reason : Reason) × IsRefused text line reason

-- the answer and the files that are left are those of a reply, and its output was taken
pub record Replied (task : Task) (text : List ℕ) (files : Held) (status : Status) (left : Held) (Taken : List ℕ → Type 0) : Type 0 where
  pub reply : Reply
  pub is : IsReplyTo task text (files_in files) reply
  pub answer : status ≡ reply.status
  pub files_left : files_in left ≡ reply.files
  pub output : Taken reply.output

-- the sink took nothing, or a front of the reply to the words and the text
abbrev pub TookFor : Task → List ℕ → Files → List ℕ → List ℕ → Type 0
TookFor task text files old new = (new ≡ old) ⊎ ((reply : Reply) × IsReplyTo task text files reply × TakesFront old new reply.output)

-- the text is a deck that is carried out, and the sink took a front of the report of a fault of the disk
abbrev pub TookFault : Task → Status → List ℕ → Files → List ℕ → List ℕ → Type 0
TookFault (Execute workers trace) status text files old new = (deck : Deck) × IsDeck text deck × TookReport deck (trace_of trace) files status old new
TookFault _ status text files old new = ⊥

-- what has to hold of the source, where its text is asked for
abbrev pub OfSource : Task → Type 0 → Type 0
OfSource Refuse P = Unit {0}
OfSource (Generate seed count shown) P = Unit {0}
OfSource _ P = P

-- what has to hold of the disk, where the text is a deck that is carried out on it
abbrev pub OfDisk : Task → List ℕ → Type 0 → Type 0
OfDisk (Execute workers trace) text P = IsSomeDeck text → P
OfDisk _ text P = Unit {0}

-- a deck may be carried out on the disk
abbrev pub IsOnDisk : Task → Type 0
IsOnDisk (Execute workers trace) = Unit {0}
IsOnDisk _ = ⊥

-- nothing is done with the source, nor with the disk
abbrev pub IsAside : Task → Type 0
IsAside Refuse = Unit {0}
IsAside (Generate seed count shown) = Unit {0}
IsAside _ = ⊥

-- The answers that are about the words and the text.
pub record AnswersRightly (task : Task) (status : Status) (source : Seen (List ℕ)) : Type 0 where
  -- Words that are no form, and they alone, are refused, unless the sink or memory fails.
  pub usage : status ≡ Usage → task ≡ Refuse
  pub no_form : task ≡ Refuse → (status ≡ Usage) ⊎ IsLost status
  -- What is refused is so at the line and for the reason that it has, and what is not is a deck.
  pub ended : source.tells → IfEnded status (HasDeck task source.before)
  pub refused : source.tells → IfRefused status (IsRefusal task source.before)

-- What stays as it was.
pub record Keeps (task : Task) (status : Status) (source sink : Seen (List ℕ)) (disk : Seen OnDisk) : Type 0 where
  -- Words that are no form, or ask for a deck that is made, leave the source and the disk, and CHECK leaves the disk.
  pub aside : IsAside task → source.same × disk.same
  pub check : task ≡ Check → disk.same
  -- Where no deck is carried out the disk is as it was.
  pub answer : LeavesDisk status → disk.same
  pub changed : source.tells → disk.same ⊎ IsSomeDeck source.before
  -- A fault of the source leaves the sink.
  pub untold : status ≡ ReadFault → sink.same

-- What a run has done. The premises of a clause are that the parts of the outside which it is about tell what they hold: the source where
-- its text is asked for, the disk where that text is a deck which is carried out, and the sink where it is said what that took.
pub record HasRun (task : Task) (status : Status) (source sink : Seen (List ℕ)) (disk : Seen OnDisk) : Type 0 where
  -- An answer that is no fault and no want of memory is that of the reply to the words and the text, whose output is taken and whose
  -- files are left.
  pub replied : IsAnswer status → OfSource task source.tells → OfDisk task source.before disk.tells
      → Replied task source.before disk.before.held.files status disk.after.held.files (λ output. sink.tells → sink.after ≡ sink.before ++ output)
  pub rightly : AnswersRightly task status source
  -- A fault of the disk is that of the statement which learnt of it: behind what executing the deck tells up to there, the report
  -- says its line: unless the deck stops at the statement, it waits at a unit whose file is told as hurt, or it calls the disk itself and
  -- the disk's own number rose.
  -- The sink took all of it; or it failed then, and took a front of it, and not all. Each file that the disk does not tell as hurt,
  -- and that the statement is not about, is left as closing all units leaves it there; of the others `AreLeft` says how far they are.
  pub fault : source.tells → OfDisk task source.before disk.tells → IfFault status (λ line. IfExecute task (λ lines. (deck : Deck) × IsDeck source.before deck
      × CutByDisk deck lines (files_in disk.before.held.files) line sink.tells sink.before sink.after sink.rose disk.after.held disk.before.own disk.after.own))
  -- A fault of the sink is met where the text is refused and that is said; or at a statement of the deck that is carried out, or in the
  -- report of a deck that ended at it. The sink took the records that ended until there, whole, and then a front of those that the
  -- statement ends, or of the reply, and not all. Each file that the disk does not tell as hurt, and that the statement is not about,
  -- is left as closing all units leaves it there.
  pub written : source.tells → OfDisk task source.before disk.tells → IfWriteFault status (IfExecute task (λ lines. IsSomeRefusal source.before
      ⊎ ((deck : Deck) × IsDeck source.before deck
      × CutBySink deck lines (files_in disk.before.held.files) sink.tells sink.before sink.after disk.after.held disk.before.own disk.after.own)))
  -- Want of memory is met before a deck was begun; or at a statement of the deck that is carried out, or, where the deck stops at it, behind
  -- it, in closing or in the report. The sink took a front of what may be written there. Each file that the statement neither opens nor
  -- removes is left as closing all units leaves it there; or a job was stopped in it that stands behind each one of its slot which a
  -- statement before this one waits for, or the end of its record: its bytes are as before below the first one that this changes, and a
  -- scratch file is gone, unless the disk's own number rose.
  pub memory : source.tells → OfDisk task source.before disk.tells → IfMemory status (IfExecute task (λ lines. NoneBegun source sink disk
      ⊎ ((deck : Deck) × IsDeck source.before deck
      × CutByMemory deck lines (files_in disk.before.held.files) sink.tells sink.before sink.after disk.after.held disk.before.own disk.after.own)))
  -- Whatever is answered, the sink took nothing or a front of the reply; or, where the disk failed while a deck was carried out, of
  -- the report of that fault, which is then answered, unless memory was wanting.
  pub front : OfSource task source.tells → OfDisk task source.before disk.tells → sink.tells → TookFor task source.before (files_in disk.before.held.files) sink.before sink.after
      ⊎ (disk.rose × TookFault task status source.before (files_in disk.before.held.files) sink.before sink.after)
  pub keeps : Keeps task status source sink disk
  -- Each fault has its cause; whatever the counts are, one of the source is met only where its text is asked for, and one of the disk
  -- only where a deck may be carried out on it. Where no count rises the answer is that of a reply, or memory was wanting.
  pub cause : HasCause ((IsAside task → ⊥) × source.rose) sink.rose (IsOnDisk task × disk.rose) status
  pub fine : (source.rose → ⊥) → (sink.rose → ⊥) → (disk.rose → ⊥) → (status ≡ Memory) ⊎ IsAnswer status
  -- Each file is back, whatever is answered; and the outside goes on telling, and counting.
  pub back : disk.tells → disk.after.held.in_use ≡ set.empty
  pub goes_on : source.goes_on × sink.goes_on × disk.goes_on
