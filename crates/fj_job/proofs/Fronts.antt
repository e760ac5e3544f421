-- What a sink took of what was written to it, and that every deck ends.
use Rattle.std.proofs.Common.{◌≡◌, ◌≢◌, ◌⊎◌, inl, inr, ℕ, Bool, true, false, List, [], ◌∷◌, ◌++◌, Option, Some, None, IsSome, Result, Ok, Err, IfErr, refl, ap, sym, ◌∙◌, subst, append_assoc}
use Rattle.std.proofs.lemmas.List.{append-nil}
use Rattle.std.specs.Option.{option_map}
use Rattle.fj_value.specs.declared.condition.Condition.{Condition}
use Rattle.fj_value.specs.declared.condition.Condition.TheVariants.{Fine, EndOfFile, EndOfRecord, Error}
use Rattle.fj_value.specs.declared.condition.Rule.{Rule}
use Rattle.fj_control.specs.Steps.{Given}
use Rattle.fj_statement.specs.Sound.{IsSound}
use Rattle.fj_statement.specs.declared.statement.Statement.{Statement}
use Rattle.fj_statement.specs.declared.statement.Statement.TheVariants as statement
use Rattle.fj_statement.specs.declared.deck.Variable.{Variable}
use Rattle.fj_statement.specs.declared.deck.Lined.{Lined}
use Rattle.fj_statement.specs.declared.deck.Deck.{Deck}
use Rattle.fj_book.specs.Prohibitions.{prohibited}
use Rattle.fj_meaning.specs.Needs.{need, holders}
use Rattle.fj_meaning.specs.State.{State, Files, start}
use Rattle.fj_meaning.specs.Statement.{Stated, Ran, Ending, begun_in, ends, goes_on, step, executed, stated, control_by, plain_execution}
use Rattle.fj_run_items.specs.Handing.{TakesFront, TakesPart}
use Rattle.fj_report.specs.declared.status.Status.{Status}
use Rattle.fj_report.specs.declared.status.Status.TheVariants.{Ended, ErrorStop, Prohibited, DeckRefused, Usage, ReadFault, WriteFault, DiskFault, Memory}
use Rattle.fj_job.specs.Answers.{IsLost, IfFault, IfMemory, IfWriteFault, TookFor, TookRefusal}
use Rattle.fj_job.specs.Cut.{IsOfReport}
use Rattle.fj_job.specs.Taken.{IsReadOf}
use Rattle.fj_job.specs.declared.task.Task.{Task}
use Rattle.fj_job.proofs.ReplyLaws.{same_refusal, same_reply}

-- ---- fronts

-- behind what was taken whole
pub front_behind : (old mid new first text : List ℕ) → mid ≡ old ++ first → TakesFront mid new text → TakesFront old new (first ++ text)
front_behind old mid new first text e (part, rest, due, taken) =
    (first ++ part, rest, ap (λ x. first ++ x) due ∙ sym (append_assoc first part rest), taken ∙ ap (λ x. x ++ part) e ∙ append_assoc old first part)

pub front_more : (old new due more : List ℕ) → TakesFront old new due → TakesFront old new (due ++ more)
front_more old new due more (part, rest, is, taken) = (part, rest ++ more, ap (λ x. x ++ more) is ∙ append_assoc part rest more, taken)

-- the same of a part that is not all
pub part_behind : (old mid new first text : List ℕ) → mid ≡ old ++ first → TakesPart mid new text → TakesPart old new (first ++ text)
part_behind old mid new first text e (part, rest, some, due, taken) =
    (first ++ part, rest, some, ap (λ x. first ++ x) due ∙ sym (append_assoc first part rest), taken ∙ ap (λ x. x ++ part) e ∙ append_assoc old first part)

some_more : (rest more : List ℕ) → rest ≢ [] → rest ++ more ≢ []
some_more [] more some = absurd (some refl)
some_more (x ∷ rest) more some = λ e. cc

pub part_more : (old new due more : List ℕ) → TakesPart old new due → TakesPart old new (due ++ more)
part_more old new due more (part, rest, some, is, taken) =
    (part, rest ++ more, some_more rest more some, ap (λ x. x ++ more) is ∙ append_assoc part rest more, taken)

pub front_of_same : (old new due : List ℕ) → new ≡ old → TakesFront old new due
front_of_same old new due e = ([], due, refl, e ∙ sym (append-nil old))

-- ---- faults

-- a fault that is reported is answered, unless memory was wanting
pub of_report : (status : Status) (line : ℕ) → (status ≡ DiskFault line) ⊎ (status ≡ Memory) → IsOfReport status line
of_report status line (inl e) = subst (λ (s : Status). IsOfReport s line) (sym e) refl
of_report status line (inr e) = subst (λ (s : Status). IsOfReport s line) (sym e) tt

-- where it is claimed of every fault
pub fault_by : (status : Status) (P : ℕ → Type 0) → ((line : ℕ) → status ≡ DiskFault line → P line) → IfFault status P
fault_by Ended P h = tt
fault_by (ErrorStop stmt code) P h = tt
fault_by (Prohibited stmt rule) P h = tt
fault_by (DeckRefused line reason) P h = tt
fault_by Usage P h = tt
fault_by ReadFault P h = tt
fault_by WriteFault P h = tt
fault_by (DiskFault line) P h = h line refl
fault_by Memory P h = tt

pub write_by : (status : Status) (P : Type 0) → (status ≡ WriteFault → P) → IfWriteFault status P
write_by Ended P h = tt
write_by (ErrorStop stmt code) P h = tt
write_by (Prohibited stmt rule) P h = tt
write_by (DeckRefused line reason) P h = tt
write_by Usage P h = tt
write_by ReadFault P h = tt
write_by WriteFault P h = h refl
write_by (DiskFault line) P h = tt
write_by Memory P h = tt

pub want_by : (status : Status) (P : Type 0) → (status ≡ Memory → P) → IfMemory status P
want_by Ended P h = tt
want_by (ErrorStop stmt code) P h = tt
want_by (Prohibited stmt rule) P h = tt
want_by (DeckRefused line reason) P h = tt
want_by Usage P h = tt
want_by ReadFault P h = tt
want_by WriteFault P h = tt
want_by (DiskFault line) P h = tt
want_by Memory P h = h refl

-- where it is known of one
pub want_at : (status : Status) (P : Type 0) → IfMemory status P → status ≡ Memory → P
want_at status P h e = subst (λ (s : Status). IfMemory s P) e h

pub write_at : (status : Status) (P : Type 0) → IfWriteFault status P → status ≡ WriteFault → P
write_at status P h e = subst (λ (s : Status). IfWriteFault s P) e h

pub fault_more : (status : Status) (P Q : ℕ → Type 0) → ((line : ℕ) → P line → Q line) → IfFault status P → IfFault status Q
fault_more Ended P Q f h = tt
fault_more (ErrorStop stmt code) P Q f h = tt
fault_more (Prohibited stmt rule) P Q f h = tt
fault_more (DeckRefused line reason) P Q f h = tt
fault_more Usage P Q f h = tt
fault_more ReadFault P Q f h = tt
fault_more WriteFault P Q f h = tt
fault_more (DiskFault line) P Q f h = f line h
fault_more Memory P Q f h = tt

-- a fault of the disk is neither lost nor how a deck ends
pub lost_is_no_fault : (status : Status) (line : ℕ) (P : Type 0) → IsLost status → status ≡ DiskFault line → P
lost_is_no_fault status line P l e = absurd (subst (λ (s : Status). IsLost s) e l)

-- the reply to what was read is one to the whole
pub took_whole : (task : Task) (held text : List ℕ) (files : Files) (old new : List ℕ) → IsReadOf 4194304 held text → TookFor task text files old new → TookFor task held files old new
took_whole task held text files old new read (inl same) = inl same
took_whole task held text files old new read (inr (reply, is, front)) = inr (reply, same_reply task held text files reply read is, front)

-- a refusal of what was read is one of the whole
pub front_whole : {X E : Type 0} (result : Result X E) (R W : Type 0) (held text old new : List ℕ) → (R → IsReadOf 4194304 held text) → IfErr result (λ _. W → TookRefusal text old new)
    → IfErr result (λ _. R → W → TookRefusal held old new)
front_whole (Ok x) R W held text old new read h = tt
front_whole (Err e) R W held text old new read h = λ r w. by (read r) (h w)
  where
    by : IsReadOf 4194304 held text → TookRefusal text old new → TookRefusal held old new
    by read (inl same) = inl same
    by read (inr (line, reason, is, front)) = inr (line, reason, same_refusal held text line reason read is, front)

-- ---- every deck ends

condition_ends : (line : ℕ) (c : Condition) → IsSome (ends line statement.End c)
condition_ends line Fine = refl
condition_ends line EndOfFile = refl
condition_ends line EndOfRecord = refl
condition_ends line (Error n) = refl

goes_to_end : (control : ℕ → List Given) (variables : List Variable) (line : ℕ) (s : State) (rule : Option Rule) → IsSome (goes_on control variables line statement.End s rule).1
goes_to_end control variables line s (Some rule) = refl
goes_to_end control variables line s None = condition_ends line _

end_ends : (variables : List Variable) (st : Stated) (s : State) → st.0.what ≡ statement.End → IsSome (step variables st s).1
unfolding step
end_ends variables st s e =
    subst (λ (what : Statement). IsSome (goes_on st.1 variables st.0.line what s (prohibited s.vars (holders s.book) (need variables s what))).1) (sym e)
    (goes_to_end st.1 variables st.0.line s (prohibited s.vars (holders s.book) (need variables s statement.End)))

executed_ends : (variables : List Variable) (body : List Lined) (line : ℕ) (s : State) → IsSome (executed variables (stated (body ++ record { line = line; what = statement.End } ∷ [])) s).ending
executed_ends variables [] line s =
    let last : Lined = record { line = line; what = statement.End } in
    let hand = begun_in s (last, control_by last.what) in
    by (step variables hand s) (end_ends variables hand s refl)
  where
    by : (done : State × Option Ending) → IsSome done.1
        → IsSome (elim done.1 as (λ _. Ran) [ None ↦ executed variables [] done.0 | Some e ↦ record { state = done.0; ending = Some e } ]).ending
    by (next, None) k = cc
    by (next, Some e) k = refl
executed_ends variables (lined ∷ body) line s = by (λ next. executed_ends variables body line next) (step variables (begun_in s (lined, control_by lined.what)) s)
  where
    by : ((next : State) → IsSome (executed variables (stated (body ++ record { line = line; what = statement.End } ∷ [])) next).ending) → (done : State × Option Ending)
        → IsSome (elim done.1 as (λ _. Ran) [ None ↦ executed variables (stated (body ++ record { line = line; what = statement.End } ∷ [])) done.0 | Some e ↦ record { state = done.0; ending = Some e } ]).ending
    by rest (next, None) = rest next
    by rest (next, Some e) = refl

-- carrying out a deck ends
pub deck_ends : (deck : Deck) (files : Files) → IsSound deck → IsSome (plain_execution deck.variables deck.statements files).ending
deck_ends deck files sound =
    subst (λ (sts : List Lined). IsSome (plain_execution deck.variables sts files).ending) (sym sound.ends) (executed_ends deck.variables sound.body sound.end_line (start deck.variables files))

-- what maps to something is something
pub some_by : {A B : Type 0} (f : A → B) (o : Option A) → IsSome (option_map f o) → (a : A) × (o ≡ Some a)
some_by f None s = cc
some_by f (Some a) s = (a, refl)

-- where nothing lost goes on, what goes on lost nothing
pub not_lost : {X : Type 0} → (lost : Option X) (over : Bool) → (IsSome lost → over ≡ true) → over ≡ false → lost ≡ None
not_lost None over h e = refl
not_lost (Some l) over h e = let z : true ≡ false = sym (h refl) ∙ e in cc

-- the line of a fault that is answered
pub line_of_fault : (status : Status) (at line : ℕ) → (status ≡ DiskFault at) ⊎ (status ≡ Memory) → status ≡ DiskFault line → at ≡ line
line_of_fault status at line (inl e) f = let same : DiskFault at ≡ DiskFault line = sym e ∙ f in cc
line_of_fault status at line (inr e) f = cc
