-- What a run has done, by what the words ask for.
use Rattle.std.proofs.Common.{◌≡◌, ◌⊎◌, inl, inr, ℕ, Bool, List, ◌++◌, Result, Ok, Err, IfErr, refl, sym, ap, ◌∙◌, subst}
use Rattle.std.specs.FinSet as set
use Rattle.fj_outside.specs.Holdings.{Files}
use Rattle.fj_statement.specs.declared.reason.Reason.{Reason}
use Rattle.fj_meaning.specs.Statement.{Ending, ended, error_stop, prohibition}
use Rattle.fj_statement.specs.declared.deck.Deck.{Deck}
use Rattle.fj_deck.specs.Deck.{IsDeck, IsRefused}
use Rattle.fj_run_items.specs.Handing.{TakesFront}
use Rattle.fj_report.specs.Lines.{usage_text, status_text}
use Rattle.fj_report.specs.declared.status.Status.{Status}
use Rattle.fj_report.specs.declared.status.Status.TheVariants.{Ended, ErrorStop, Prohibited, DeckRefused, Usage, ReadFault, WriteFault, DiskFault, Memory}
use Rattle.fj_job.specs.Asking.{IsUnread}
use Rattle.fj_job.specs.Concluding.{IsReplied}
use Rattle.fj_job.specs.Taken.{IsReadOf}
use Rattle.fj_job.proofs.ReplyLaws.{ended_by, lost_by, same_refusal}
use Rattle.fj_job.specs.Answers.{IsAnswer, IsLost, IsOfRun, LeavesDisk, HasCause, IfEnded, IfRefused, IfFault, IfMemory, IfWriteFault, IfExecute, IsAside, HasDeck, IsSomeRefusal, OfSource, OfDisk, Replied, AnswersRightly, TookFor, TookRefusal, HasRun, Keeps}
use Rattle.fj_job.specs.Seen.{Seen, OnDisk, left_alone}
use Rattle.fj_job.specs.Cut.{TookRun, TookReport, CutByDisk, CutBySink, CutByMemory}
use Rattle.fj_job.proofs.Fronts.{fault_by, fault_more, want_by, want_at, write_by, write_at}
use Rattle.fj_job.specs.Reply.{IsRefusal, usage_reply, refusal_reply, files_in, status_of, Lines, trace_of}
use Rattle.fj_job.specs.declared.task.Task.{Task}
use Rattle.fj_job.specs.declared.task.Task.TheVariants.{Refuse, Check, Execute, Generate}

pub run_for : (task other : Task) (status : Status) (source sink : Seen (List ℕ)) (disk : Seen OnDisk) → task ≡ other → HasRun task status source sink disk → HasRun other status source sink disk
run_for task other status source sink disk e t = subst (λ (x : Task). HasRun x status source sink disk) e t

pub execute_for : (task other : Task) (P : Lines → Type 0) → task ≡ other → IfExecute task P → IfExecute other P
execute_for task other P e p = subst (λ (x : Task). IfExecute x P) e p

-- where no cause of a fault is there, it is no fault
pub fine_by : (status : Status) (R W D : Type 0) → HasCause R W D status → (R → ⊥) → (W → ⊥) → (D → ⊥) → (status ≡ Memory) ⊎ IsAnswer status
fine_by Ended R W D c r w d = inr tt
fine_by (ErrorStop stmt code) R W D c r w d = inr tt
fine_by (Prohibited stmt rule) R W D c r w d = inr tt
fine_by (DeckRefused line reason) R W D c r w d = inr tt
fine_by Usage R W D c r w d = inr tt
fine_by ReadFault R W D c r w d = absurd (r c)
fine_by WriteFault R W D c r w d = absurd (w c)
fine_by (DiskFault stmt) R W D c r w d = absurd (d c)
fine_by Memory R W D c r w d = inl refl

-- a cause where others are possible too
pub cause_more : (status : Status) (R W D R' W' D' : Type 0) → (R → R') → (W → W') → (D → D') → HasCause R W D status → HasCause R' W' D' status
cause_more Ended R W D R' W' D' r w d c = tt
cause_more (ErrorStop stmt code) R W D R' W' D' r w d c = tt
cause_more (Prohibited stmt rule) R W D R' W' D' r w d c = tt
cause_more (DeckRefused line reason) R W D R' W' D' r w d c = tt
cause_more Usage R W D R' W' D' r w d c = tt
cause_more ReadFault R W D R' W' D' r w d c = r c
cause_more WriteFault R W D R' W' D' r w d c = w c
cause_more (DiskFault stmt) R W D R' W' D' r w d c = d c
cause_more Memory R W D R' W' D' r w d c = tt

-- ---- words that are a form

abbrev pub IsForm : Task → Type 0
IsForm Refuse = ⊥
IsForm Check = Unit {0}
IsForm (Execute workers trace) = Unit {0}
IsForm (Generate seed count shown) = Unit {0}

pub no_words : (task : Task) (P : Type 0) → IsForm task → task ≡ Refuse → P
no_words task P is q = absurd (subst (λ (x : Task). IsForm x) q is)

abbrev pub IsNoCheck : Task → Type 0
IsNoCheck Check = ⊥
IsNoCheck _ = Unit {0}

pub no_check : (task : Task) (P : Type 0) → IsNoCheck task → task ≡ Check → P
no_check task P is q = absurd (subst (λ (x : Task). IsNoCheck x) q is)

-- ---- no source was read

abbrev pub IsNoReadFault : Status → Type 0
IsNoReadFault ReadFault = ⊥
IsNoReadFault _ = Unit {0}

pub no_read : (status : Status) (W D P : Type 0) → HasCause ⊥ W D status → status ≡ ReadFault → P
no_read status W D P c e = absurd (subst (λ (x : Status). HasCause ⊥ W D x) e c)

-- ---- answers of a deck that is carried out

pub run_leaves : (status : Status) (P : Type 0) → IsOfRun status → LeavesDisk status → P
run_leaves Ended P r l = absurd l
run_leaves (ErrorStop stmt code) P r l = absurd l
run_leaves (Prohibited stmt rule) P r l = absurd l
run_leaves (DeckRefused line reason) P r l = absurd r
run_leaves Usage P r l = absurd r
run_leaves ReadFault P r l = absurd r
run_leaves WriteFault P r l = absurd l
run_leaves (DiskFault stmt) P r l = absurd l
run_leaves Memory P r l = absurd l

pub run_is_not_refused : (status : Status) (P : ℕ → Reason → Type 0) → IsOfRun status → IfRefused status P
run_is_not_refused Ended P r = tt
run_is_not_refused (ErrorStop stmt code) P r = tt
run_is_not_refused (Prohibited stmt rule) P r = tt
run_is_not_refused (DeckRefused line reason) P r = absurd r
run_is_not_refused Usage P r = tt
run_is_not_refused ReadFault P r = tt
run_is_not_refused WriteFault P r = tt
run_is_not_refused (DiskFault stmt) P r = tt
run_is_not_refused Memory P r = tt

pub run_is_no_usage : (status : Status) → IsOfRun status → status ≡ Usage → ⊥
run_is_no_usage status r e = subst (λ (x : Status). IsOfRun x) e r

-- an answer that was lost is one of a run
pub lost_of_run : (status : Status) → IsLost status → IsOfRun status
lost_of_run status l = lost_by status (λ s. IsOfRun s) l tt tt

pub ending_of_run : (e : Ending) → IsOfRun (status_of e)
ending_of_run ended = tt
ending_of_run (error_stop line code) = tt
ending_of_run (prohibition line rule) = tt

pub lost_is_no_answer : (status : Status) (P : Type 0) → IsLost status → IsAnswer status → P
lost_is_no_answer status P l a = absurd (lost_by status (λ s. IsAnswer s → ⊥) l (λ b. b) (λ b. b) a)

-- an answer that was told or lost, where it is an answer
pub answered : (status told : Status) (P : Type 0) → (status ≡ told) ⊎ IsLost status → IsAnswer status → (status ≡ told → P) → P
answered status told P (inl e) a f = f e
answered status told P (inr l) a f = lost_is_no_answer status P l a

pub of_run : (status told : Status) → IsOfRun told → (status ≡ told) ⊎ IsLost status → IsOfRun status
of_run status told r (inl e) = subst (λ (x : Status). IsOfRun x) (sym e) r
of_run status told r (inr l) = lost_of_run status l

-- ---- where no deck is carried out

execute_more : (task : Task) (P Q : Lines → Type 0) → ((lines : Lines) → P lines → Q lines) → IfExecute task P → IfExecute task Q
execute_more Refuse P Q f p = tt
execute_more Check P Q f p = tt
execute_more (Execute workers trace) P Q f p = f (trace_of trace) p
execute_more (Generate seed count shown) P Q f p = tt

-- a fault of the disk has no cause there
no_fault : (status : Status) (R W P : Type 0) (line : ℕ) → HasCause R W ⊥ status → status ≡ DiskFault line → P
no_fault status R W P line c e = absurd (subst (λ (x : Status). HasCause R W ⊥ x) e c)

execute_all : (task : Task) (P : Lines → Type 0) → ((lines : Lines) → P lines) → IfExecute task P
execute_all Refuse P f = tt
execute_all Check P f = tt
execute_all (Execute workers trace) P f = f (trace_of trace)
execute_all (Generate seed count shown) P f = tt

pub run_without : (task : Task) (status : Status) (source sink : Seen (List ℕ)) (disk : OnDisk)
    → (IsAnswer status → OfSource task source.tells → Replied task source.before disk.held.files status disk.held.files (λ output. sink.tells → sink.after ≡ sink.before ++ output))
    → AnswersRightly task status source
    → (source.tells → status ≡ WriteFault → IfExecute task (λ lines. IsSomeRefusal source.before))
    → (source.tells → IfExecute task (λ lines. sink.tells → TookRefusal source.before sink.before sink.after))
    → (OfSource task source.tells → sink.tells → TookFor task source.before (files_in disk.held.files) sink.before sink.after)
    → HasCause ((IsAside task → ⊥) × source.rose) sink.rose ⊥ status → Keeps task status source sink (left_alone disk) → source.goes_on × sink.goes_on → HasRun task status source sink (left_alone disk)
run_without task status source sink disk replied rightly written begun front cause keeps goes_on = record {
  replied = λ a t u. replied a t;
  rightly = rightly;
  fault = λ t u. fault_by status _ (λ line e. no_fault status _ _ _ line cause e);
  written = λ t u. write_by status _ (λ e. execute_more task _ _ (λ lines. inl) (written t e));
  memory = λ t u. want_by status _ (λ e. execute_more task _ _ (λ lines took. inl (tt, took)) (begun t));
  front = λ t u w. inl (front t w);
  keeps = keeps;
  cause = cause_more status _ _ _ _ _ _ (λ x. x) (λ x. x) (λ x. absurd x) cause;
  fine = λ x y z. fine_by status _ _ _ cause (λ r. x r.1) y z;
  back = λ empty. empty;
  goes_on = (goes_on.0, goes_on.1, tt);
}

-- ---- words that are no form

refused_rightly : (status : Status) (source : Seen (List ℕ)) → (status ≡ Usage) ⊎ IsLost status → AnswersRightly Refuse status source
refused_rightly status source (inl e) = subst (λ (x : Status). AnswersRightly Refuse x source) (sym e) (record {
  usage = λ q. refl;
  no_form = λ q. inl refl;
  ended = λ t. tt;
  refused = λ t. tt;
})
refused_rightly status source (inr lost) = record {
  usage = λ q. refl;
  no_form = λ q. inr lost;
  ended = λ t. lost_by status (λ s. IfEnded s (HasDeck Refuse source.before)) lost tt tt;
  refused = λ t. lost_by status (λ s. IfRefused s (IsRefusal Refuse source.before)) lost tt tt;
}

pub run_refused : (status : Status) (source sink : Seen (List ℕ)) (disk : OnDisk) → (status ≡ Usage) ⊎ IsLost status → (IsAnswer status → sink.tells → sink.after ≡ sink.before ++ usage_text)
    → (sink.tells → TakesFront sink.before sink.after usage_text) → HasCause ⊥ sink.rose ⊥ status → Keeps Refuse status source sink (left_alone disk) → source.goes_on × sink.goes_on
    → HasRun Refuse status source sink (left_alone disk)
run_refused status source sink disk told output front c keeps goes_on = run_without Refuse status source sink disk
    (λ a t. answered status Usage _ told a (λ e. record { reply = usage_reply (files_in disk.held.files); is = refl; answer = e; files_left = refl; output = output a }))
    (refused_rightly status source told) (λ t e. tt) (λ t. tt) (λ t w. inr (usage_reply (files_in disk.held.files), refl, front w))
    (cause_more status _ _ _ _ _ _ (λ x. absurd x) (λ x. x) (λ x. x) c) keeps goes_on

-- ---- a text that is not carried out

-- a front of the line of a refusal is one of the reply
refusal_taken : (workers : ℕ) (trace : Bool) (text : List ℕ) (files : Files) (old new : List ℕ) → TookRefusal text old new → TookFor (Execute workers trace) text (files_in files) old new
refusal_taken workers trace text files old new (inl same) = inl same
refusal_taken workers trace text files old new (inr (line, reason, is, front)) = inr (refusal_reply line reason (files_in files), (Err (line, reason), is, refl), front)

-- it is refused, and that is told, or what kept it from being told is; or it was not read
abbrev IsOfRefusal : Status → Type 0
IsOfRefusal (DeckRefused line reason) = Unit {0}
IsOfRefusal ReadFault = Unit {0}
IsOfRefusal WriteFault = Unit {0}
IsOfRefusal Memory = Unit {0}
IsOfRefusal _ = ⊥

unread_is : (status : Status) (R : Type 0) (text : List ℕ) → IsUnread status R text → IsOfRefusal status
unread_is status R text (inl (line, reason, inl e, is)) = subst IsOfRefusal (sym e) tt
unread_is status R text (inl (line, reason, inr e, is)) = subst IsOfRefusal (sym e) tt
unread_is status R text (inr (inl e)) = subst IsOfRefusal (sym e) tt
unread_is status R text (inr (inr e)) = subst IsOfRefusal (sym e) tt

-- the line and the reason where it is refused
refused_at : (status : Status) (R : Type 0) (text : List ℕ) → IsUnread status R text → R → IfRefused status (IsRefused text)
refused_at status R text (inl (line, reason, inl e, is)) r = subst (λ (s : Status). IfRefused s (IsRefused text)) (sym e) (is r)
refused_at status R text (inl (line, reason, inr e, is)) r = subst (λ (s : Status). IfRefused s (IsRefused text)) (sym e) tt
refused_at status R text (inr (inl e)) r = subst (λ (s : Status). IfRefused s (IsRefused text)) (sym e) tt
refused_at status R text (inr (inr e)) r = subst (λ (s : Status). IfRefused s (IsRefused text)) (sym e) tt

-- and where the sink failed
written_at : (status : Status) (R : Type 0) (text : List ℕ) → IsUnread status R text → R → status ≡ WriteFault → IsSomeRefusal text
written_at status R text (inl (line, reason, told, is)) r e = (line, reason, is r)
written_at status R text (inr (inl m)) r e = absurd (let z : Memory ≡ WriteFault = sym m ∙ e in cc)
written_at status R text (inr (inr f)) r e = absurd (let z : ReadFault ≡ WriteFault = sym f ∙ e in cc)

no_usage : (status : Status) (P : Type 0) → IsOfRefusal status → status ≡ Usage → P
no_usage status P u e = absurd (subst IsOfRefusal e u)

not_ended : (status : Status) (P : Type 0) → IsOfRefusal status → IfEnded status P
not_ended Ended P u = absurd u
not_ended (ErrorStop stmt code) P u = absurd u
not_ended (Prohibited stmt rule) P u = absurd u
not_ended (DeckRefused line reason) P u = tt
not_ended Usage P u = tt
not_ended ReadFault P u = tt
not_ended WriteFault P u = tt
not_ended (DiskFault stmt) P u = tt
not_ended Memory P u = tt

-- an answer to it is a refusal
refusal_by : (status : Status) (P : Status → Type 0) → IsOfRefusal status → IsAnswer status → ((line : ℕ) (reason : Reason) → status ≡ DeckRefused line reason → P (DeckRefused line reason)) → P status
refusal_by Ended P u a f = absurd u
refusal_by (ErrorStop stmt code) P u a f = absurd u
refusal_by (Prohibited stmt rule) P u a f = absurd u
refusal_by (DeckRefused line reason) P u a f = f line reason refl
refusal_by Usage P u a f = absurd u
refusal_by ReadFault P u a f = absurd a
refusal_by WriteFault P u a f = absurd a
refusal_by (DiskFault stmt) P u a f = absurd a
refusal_by Memory P u a f = absurd a

pub run_unread : (workers : ℕ) (trace : Bool) (status : Status) (source sink : Seen (List ℕ)) (disk : OnDisk) → IsUnread status source.tells source.before
    → IfRefused status (λ line reason. sink.tells → sink.after ≡ sink.before ++ status_text (DeckRefused line reason)) → (source.tells → sink.tells → TookRefusal source.before sink.before sink.after)
    → HasCause source.rose sink.rose ⊥ status → Keeps (Execute workers trace) status source sink (left_alone disk) → source.goes_on × sink.goes_on
    → HasRun (Execute workers trace) status source sink (left_alone disk)
run_unread workers trace status source sink disk unread output front c keeps goes_on =
    let task = Execute workers trace in
    let of_refusal = unread_is status source.tells source.before unread in
    run_without task status source sink disk
    (λ a t. refusal_by status (λ s. Replied task source.before disk.held.files s disk.held.files (λ output. sink.tells → sink.after ≡ sink.before ++ output)) of_refusal a (λ line reason e. record {
      reply = refusal_reply line reason (files_in disk.held.files);
      is = (Err (line, reason), subst (λ (s : Status). IfRefused s (IsRefused source.before)) e (refused_at status source.tells source.before unread t), refl);
      answer = refl;
      files_left = refl;
      output = subst (λ (s : Status). IfRefused s (λ line reason. sink.tells → sink.after ≡ sink.before ++ status_text (DeckRefused line reason))) e output;
    }))
    (record {
      usage = λ q. no_usage status _ of_refusal q;
      no_form = λ q. no_words task _ tt q;
      ended = λ t. not_ended status _ of_refusal;
      refused = λ t. refused_at status source.tells source.before unread t;
    })
    (λ t e. written_at status source.tells source.before unread t e) front (λ t w. refusal_taken workers trace source.before disk.held.files sink.before sink.after (front t w))
    (cause_more status _ _ _ _ _ _ (λ r. ((λ a. a), r)) (λ x. x) (λ x. x) c) keeps goes_on

-- a refusal that is told, or what kept it from being told, where it is
pub unread_of : (status : Status) (line : ℕ) (reason : Reason) (R : Type 0) (text : List ℕ) → (status ≡ DeckRefused line reason) ⊎ IsLost status → (R → IsRefused text line reason) → IsUnread status R text
unread_of status line reason R text (inl e) is = inl (line, reason, inl e, is)
unread_of status line reason R text (inr l) is = lost_by status (λ s. IsUnread s R text) l (inl (line, reason, inr refl, is)) (inr (inl refl))

-- ---- over a disk

-- what has to hold of another disk
of_disk : (task : Task) (text : List ℕ) (P Q : Type 0) → (P → Q) → OfDisk task text P → OfDisk task text Q
of_disk Refuse text P Q f u = tt
of_disk Check text P Q f u = tt
of_disk (Execute workers trace) text P Q f u = λ some. f (u some)
of_disk (Generate seed count shown) text P Q f u = tt

-- of one that is as it was, and on which no file was in use
pub run_over : (task : Task) (status : Status) (source sink : Seen (List ℕ)) (disk : Seen OnDisk) → disk.after ≡ disk.before → disk.same → disk.goes_on
    → (disk.tells → disk.before.held.in_use ≡ set.empty) → HasRun task status source sink (left_alone disk.before) → HasRun task status source sink disk
run_over task status source sink disk is same goes_on empty t = subst (λ (after : OnDisk). HasRun task status source sink (record disk { after = after })) (sym is) (record {
  replied = λ a r d. t.replied a r (of_disk task source.before _ _ empty d);
  rightly = t.rightly;
  fault = λ r d. t.fault r (of_disk task source.before _ _ empty d);
  written = λ r d. t.written r (of_disk task source.before _ _ empty d);
  memory = λ r d. want_by status _ (λ e. execute_more task _ _ (λ lines begun. elim begun [ inl none ↦ inl (same, none.1) | inr cut ↦ inr cut ])
      (want_at status _ (t.memory r (of_disk task source.before _ _ empty d)) e));
  front = λ r d w. elim (t.front r (of_disk task source.before _ _ empty d) w) [ inl reply ↦ inl reply | inr fault ↦ absurd fault.0 ];
  keeps = record {
    aside = λ a. ((t.keeps.aside a).0, same);
    check = λ e. same;
    answer = λ l. same;
    changed = λ r. inl same;
    untold = t.keeps.untold;
  };
  cause = cause_more status _ _ _ _ _ _ (λ x. x) (λ x. x) (λ x. absurd x.1) t.cause;
  fine = λ x y z. t.fine x y (λ b. b);
  back = λ d. empty d;
  goes_on = (t.goes_on.0, t.goes_on.1, goes_on);
})

-- ---- memory was wanting before anything was done

pub run_nothing : (task : Task) (source sink : Seen (List ℕ)) (disk : Seen OnDisk) → sink.after ≡ sink.before → disk.after ≡ disk.before → (disk.tells → disk.before.held.in_use ≡ set.empty) → source.same → sink.same → disk.same → source.goes_on × sink.goes_on × disk.goes_on
    → HasRun task Memory source sink disk
run_nothing task source sink disk is still empty source_same sink_same disk_same goes_on = record {
  replied = λ a t u. absurd a;
  rightly = record {
    usage = λ q. cc;
    no_form = λ q. inr tt;
    ended = λ t. tt;
    refused = λ t. tt;
  };
  fault = λ t u. tt;
  written = λ t u. tt;
  memory = λ t u. execute_all task _ (λ lines. inl (disk_same, λ w. inl is));
  front = λ t u w. inl (inl is);
  keeps = record {
    aside = λ a. (source_same, disk_same);
    check = λ e. disk_same;
    answer = λ l. disk_same;
    changed = λ t. inl disk_same;
    untold = λ e. cc;
  };
  cause = tt;
  fine = λ x y z. inl refl;
  back = λ d. ap (λ (x : OnDisk). x.held.in_use) still ∙ empty d;
  goes_on = goes_on;
}

-- ---- a deck was read, and carried out

pub run_executed : (workers : ℕ) (trace : Bool) (deck : Deck) (status : Status) (source sink : Seen (List ℕ)) (disk : Seen OnDisk) → (source.tells → IsDeck source.before deck)
    → (IsAnswer status → disk.tells → IsReplied deck (trace_of trace) disk.before.held.files status disk.after.held.files (λ output. sink.tells → sink.after ≡ sink.before ++ output))
    → (disk.tells → IfFault status (λ line. CutByDisk deck (trace_of trace) (files_in disk.before.held.files) line sink.tells sink.before sink.after sink.rose disk.after.held disk.before.own disk.after.own))
    → (disk.tells → IfWriteFault status (CutBySink deck (trace_of trace) (files_in disk.before.held.files) sink.tells sink.before sink.after disk.after.held disk.before.own disk.after.own))
    → (disk.tells → IfMemory status ((disk.same × (sink.after ≡ sink.before)) ⊎ CutByMemory deck (trace_of trace) (files_in disk.before.held.files) sink.tells sink.before sink.after disk.after.held disk.before.own disk.after.own))
    → (disk.tells → sink.tells → TookRun deck (trace_of trace) (files_in disk.before.held.files) sink.before sink.after
    ⊎ (disk.rose × TookReport deck (trace_of trace) (files_in disk.before.held.files) status sink.before sink.after))
    → IsOfRun status → HasCause ⊥ sink.rose disk.rose status → (disk.tells → disk.after.held.in_use ≡ set.empty) → source.goes_on × sink.goes_on × disk.goes_on
    → HasRun (Execute workers trace) status source sink disk
run_executed workers trace deck status source sink disk is replied fault written memory front r c back goes_on = record {
  replied = λ a t u. let it = replied a (u (deck, is t)) in record {
    reply = it.reply;
    is = (Ok deck, is t, it.is);
    answer = it.answer;
    files_left = it.files_left;
    output = it.output;
  };
  rightly = record {
    usage = λ q. absurd (run_is_no_usage status r q);
    no_form = λ q. no_words (Execute workers trace) _ tt q;
    ended = λ t. ended_by status _ (deck, is t);
    refused = λ t. run_is_not_refused status _ r;
  };
  fault = λ t u. fault_more status _ _ (λ line told. (deck, is t, told)) (fault (u (deck, is t)));
  written = λ t u. write_by status _ (λ e. inr (deck, is t, write_at status _ (written (u (deck, is t))) e));
  memory = λ t u. want_by status _ (λ e. elim (want_at status _ (memory (u (deck, is t))) e) [ inl none ↦ inl (none.0, λ w. inl none.1) | inr cut ↦ inr (deck, is t, cut) ]);
  front = λ t u w. elim (front (u (deck, is t)) w) [ inl run ↦ inl (inr (run.0, (Ok deck, is t, run.1), run.2)) | inr fault ↦ inr (fault.0, (deck, is t, fault.1)) ];
  keeps = record {
    aside = λ q. absurd q;
    check = λ q. no_check (Execute workers trace) _ tt q;
    answer = λ l. run_leaves status _ r l;
    changed = λ t. inr (deck, is t);
    untold = λ e. no_read status _ _ _ c e;
  };
  cause = cause_more status _ _ _ _ _ _ (λ x. absurd x) (λ x. x) (λ x. (tt, x)) c;
  fine = λ x y z. fine_by status _ _ _ c (λ b. b) y z;
  back = back;
  goes_on = goes_on;
}

-- a text that was read in part is refused as the whole is
pub unread_whole : {X : Type 0} (result : Result X Status) (R : Type 0) (held text : List ℕ) → (R → IsReadOf 4194304 held text) → IfErr result (λ status. IsUnread status (Unit {0}) text)
    → IfErr result (λ status. IsUnread status R held)
unread_whole (Ok x) R held text read h = tt
unread_whole (Err status) R held text read (inl (line, reason, e, is)) = inl (line, reason, e, λ r. same_refusal held text line reason (read r) (is tt))
unread_whole (Err status) R held text read (inr other) = inr other
