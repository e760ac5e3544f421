-- A run that was told an answer.
use Rattle.std.proofs.Common.{◌≡◌, ℕ, ◌==◌, ◌&&◌, Bool, true, false, cond, List, [], ◌∷◌, map, get_or, Option, Some, refl, sym, ap, ◌∙◌, subst}
use Rattle.std.specs.Option.{option_map}
use Rattle.fj_outside.specs.declared.outside.FileStore.{Ghosts}
use Rattle.fj_statement.specs.declared.deck.Variable.{Variable}
use Rattle.fj_bay.specs.Jobs.{Job as Task}
use Rattle.fj_bay.specs.Plain.{task_of, reply_of}
use Rattle.fj_bay.specs.declared.job.Job.{Job}
use Rattle.fj_bay.specs.declared.job.Answer.{Answer}
use Rattle.fj_meaning.specs.State.{Files}
use Rattle.fj_meaning.specs.Statement.{Stated, Ending as PlainEnding}
use Rattle.fj_meaning_jobs.specs.Core.{Core, Pending}
use Rattle.fj_meaning_jobs.specs.Desks.{Brought, Outcome, brought_by}
use Rattle.fj_meaning_turns.specs.Run.{Run, Held, Start, Waiting, Acting, Awaiting}
use Rattle.fj_meaning_turns.specs.Run.{Stage as PlainStage}
use Rattle.fj_meaning_turns.specs.Turns.{told_of, stage_told, with_answer, bump}
use Rattle.fj_run_pending.specs.Plain.{held}
use Rattle.fj_run_pending.specs.declared.held.Held as code_held
use Rattle.fj_run_statements.specs.Doing.{then_of}
use Rattle.fj_run_statements.specs.State.{core_of}
use Rattle.fj_run_statements.specs.declared.doing.Then.{Then}
use Rattle.fj_run_statements.specs.declared.state.Core as code_core
use Rattle.fj_run_script.specs.Answering.{with_own}
use Rattle.fj_run_script.specs.Machine.{stage_of, run_in, ending_of}
use Rattle.fj_run_script.specs.Passing.{awaits, is_passed}
use Rattle.fj_run_script.specs.Turned.{Stands}
use Rattle.fj_run_script.specs.declared.stage.Stage.{Stage}
use Rattle.fj_run_script.specs.declared.stage.Stage.TheVariants as stage
use Rattle.fj_run_script.specs.declared.state.State.{State}
use Rattle.fj_run_script.proofs.NextAsks.{some_same, run_known}
use Rattle.fj_run_script.proofs.Owning.{own_same}
use Rattle.fj_run_script.proofs.Passed.{passed_kept, answered_pendings}

-- ---- the stage

taken_by : {X : Type 0} → (b : Bool) (x y : X) → b ≡ false → cond b x y ≡ y
taken_by b x y e = ap (λ t. cond t x y) e

module _ {F : Type 0} (told : F → Bool) (bytes : F → List ℕ) (variables : List Variable) (core : Core) (slot number : ℕ) where
  -- another job than its own
  other_stage : (it : Outcome) (rest : List Stated) (s : Stage F) (plain : PlainStage) → awaits slot number s ≡ false → stage_of told bytes variables rest core s ≡ Some plain → stage_told plain slot number it ≡ plain
  other_stage it rest stage.Start plain a e = subst (λ x. stage_told x slot number it ≡ x) (some_same _ plain e) refl
  other_stage it rest (stage.Waiting whose from) plain a e = subst (λ x. stage_told x slot number it ≡ x) (some_same _ plain e) refl
  other_stage it [] (stage.Resuming slots next condition) plain a e = cc
  other_stage it (st ∷ more) (stage.Resuming slots next condition) plain a e = subst (λ x. stage_told x slot number it ≡ x) (some_same _ plain e) refl
  other_stage it [] (stage.Going next n) plain a e = cc
  other_stage it (st ∷ more) (stage.Going next n) plain a e = subst (λ x. stage_told x slot number it ≡ x) (some_same _ plain e) refl
  other_stage it [] (stage.Awaiting own last then_) plain a e = cc
  other_stage it (st ∷ more) (stage.Awaiting own last then_) plain a e =
      subst (λ x. stage_told x slot number it ≡ x) (some_same _ plain e)
      (taken_by ((own == slot) && (last == number)) (Acting (then_of variables st core then_ it)) (Awaiting own last (then_of variables st core then_)) a)
  other_stage it [] (stage.Answered then_ job answer) plain a e = cc
  other_stage it (st ∷ more) (stage.Answered then_ job answer) plain a e =
      let k = run_known (λ task. Acting (then_of variables st core then_ (task, reply_of answer))) (task_of told bytes job) plain e in
      subst (λ x. stage_told x slot number it ≡ x) k.2 refl

  own_by : (job : Job F) (answer : Answer) (task : Task) (st : Stated) (more : List Stated) (own last : ℕ) (then_ : Then) (b : Bool) → task_of told bytes job ≡ Some task
      → stage_of told bytes variables (st ∷ more) core (cond b (stage.Answered then_ job answer) (stage.Awaiting own last then_))
      ≡ Some (cond b (Acting (then_of variables st core then_ (task, reply_of answer))) (Awaiting own last (then_of variables st core then_)))
  own_by job answer task st more own last then_ true t = ap (option_map (λ task. Acting (then_of variables st core then_ (task, reply_of answer)))) t
  own_by job answer task st more own last then_ false t = refl

  -- a job that may be its own
  pub own_stage : (job : Job F) (answer : Answer) (task : Task) → task_of told bytes job ≡ Some task → (rest : List Stated) (s : Stage F) (plain : PlainStage) → stage_of told bytes variables rest core s ≡ Some plain
      → stage_of told bytes variables rest core (with_own slot number job answer s) ≡ Some (stage_told plain slot number (task, reply_of answer))
  own_stage job answer task t rest stage.Start plain e = ap (λ x. Some (stage_told x slot number (task, reply_of answer))) (some_same Start plain e)
  own_stage job answer task t rest (stage.Waiting whose from) plain e = ap (λ x. Some (stage_told x slot number (task, reply_of answer))) (some_same Waiting plain e)
  own_stage job answer task t rest (stage.Resuming slots next condition) plain e =
      e ∙ ap Some (sym (other_stage (task, reply_of answer) rest (stage.Resuming slots next condition) plain refl e))
  own_stage job answer task t rest (stage.Going next n) plain e = e ∙ ap Some (sym (other_stage (task, reply_of answer) rest (stage.Going next n) plain refl e))
  own_stage job answer task t [] (stage.Awaiting own last then_) plain e = cc
  own_stage job answer task t (st ∷ more) (stage.Awaiting own last then_) plain e =
      own_by job answer task st more own last then_ ((own == slot) && (last == number)) t
      ∙ ap (λ x. Some (stage_told x slot number (task, reply_of answer))) (some_same (Awaiting own last (then_of variables st core then_)) plain e)
  own_stage job answer task t rest (stage.Answered then_ other reply) plain e =
      e ∙ ap Some (sym (other_stage (task, reply_of answer) rest (stage.Answered then_ other reply) plain refl e))

  pub kept_stage : (it : Outcome) (rest : List Stated) (s : Stage F) (plain : PlainStage) → awaits slot number s ≡ false → stage_of told bytes variables rest core s ≡ Some plain
      → stage_of told bytes variables rest core s ≡ Some (stage_told plain slot number it)
  kept_stage it rest s plain a e = e ∙ ap Some (sym (other_stage it rest s plain a e))

-- ---- the run

abbrev made : List Variable → List Stated → Core → List Held → List ℕ → List ℕ → PlainStage → ℕ → Option PlainEnding → Run
made variables rest core book sent told_counts plain due ending =
    record { variables = variables; core = core; book = book; rest = rest; sent = sent; told = told_counts; stage = plain; due = due; ending = ending }

module _ {F : Type 0} {ghosts : Ghosts F} (told : F → Bool) (bytes : F → List ℕ) (variables : List Variable) (rest : List Stated) (files : Files) where
  pub answered_stands : (s s' : State F ghosts) (plain : PlainStage) (it : Outcome) (number : ℕ) → number ≡ get_or s.told.items s.due 0
      → stage_of told bytes variables rest (core_of files s.core) s'.stage ≡ Some (stage_told plain s.due number it)
      → core_of files s'.core ≡ core_of files s.core → held s'.core.pending ≡ with_answer s.due number (brought_by it) (held s.core.pending)
      → s'.sent.items ≡ s.sent.items → s'.told.items ≡ bump s.told.items s.due → s'.due ≡ s.due → s'.ending ≡ s.ending
      → Stands told bytes variables rest files s' (told_of (run_in variables rest files s plain) it)
  answered_stands s s' plain it number n stage core book sent told_counts due ending = record {
    stage = ap (λ k. stage_of told bytes variables rest k s'.stage) core ∙ stage ∙ ap (λ k. Some (stage_told plain s.due k it)) n;
    run =
        let new : PlainStage = stage_told plain s.due (get_or s.told.items s.due 0) it in
        ap (λ c. made variables rest c (held s'.core.pending) s'.sent.items s'.told.items new s'.due (option_map ending_of s'.ending)) core
        ∙ ap (λ b. made variables rest (core_of files s.core) b s'.sent.items s'.told.items new s'.due (option_map ending_of s'.ending)) (book ∙ ap (λ k. with_answer s.due k (brought_by it) (held s.core.pending)) n)
        ∙ ap (λ x. made variables rest (core_of files s.core) (with_answer s.due (get_or s.told.items s.due 0) (brought_by it) (held s.core.pending)) x s'.told.items new s'.due (option_map ending_of s'.ending)) sent
        ∙ ap (λ x. made variables rest (core_of files s.core) (with_answer s.due (get_or s.told.items s.due 0) (brought_by it) (held s.core.pending)) s.sent.items x new s'.due (option_map ending_of s'.ending)) told_counts
        ∙ ap (λ d. made variables rest (core_of files s.core) (with_answer s.due (get_or s.told.items s.due 0) (brought_by it) (held s.core.pending)) s.sent.items (bump s.told.items s.due) new d (option_map ending_of s'.ending)) due
        ∙ ap (λ e. made variables rest (core_of files s.core) (with_answer s.due (get_or s.told.items s.due 0) (brought_by it) (held s.core.pending)) s.sent.items (bump s.told.items s.due) new s.due (option_map ending_of e)) ending;
  }

-- the core holds the same, but for what is known of answers
pub core_answered : (files : Files) (old new : code_core.Core) (slot number : ℕ) (it : Brought) → new ≡ record old { pending = new.pending }
    → held new.pending ≡ with_answer slot number it (held old.pending) → core_of files new ≡ core_of files old
core_answered files old new slot number it e h =
    ap (core_of files) e
    ∙ ap (λ (ps : List Pending). record (core_of files old) { book = ps }) (ap (map (λ (x : Held). x.pending)) h ∙ answered_pendings slot number it (held old.pending))

-- ---- those before a place have answers still

pub passed_still : {F : Type 0} → (slot number : ℕ) (it : Brought) (hs hs' : List code_held.Held) (s : Stage F) → held hs' ≡ with_answer slot number it (held hs) → is_passed hs s ≡ true → is_passed hs' s ≡ true
passed_still slot number it hs hs' (stage.Waiting whose from) e p = passed_kept slot number it hs hs' whose from e p
passed_still slot number it hs hs' stage.Start e p = refl
passed_still slot number it hs hs' (stage.Resuming slots next condition) e p = refl
passed_still slot number it hs hs' (stage.Going next n) e p = refl
passed_still slot number it hs hs' (stage.Awaiting own last then_) e p = refl
passed_still slot number it hs hs' (stage.Answered then_ job answer) e p = refl

pub own_passed : {F : Type 0} → (hs : List code_held.Held) (slot number : ℕ) (job : Job F) (answer : Answer) (s : Stage F) → is_passed hs s ≡ true → is_passed hs (with_own slot number job answer s) ≡ true
own_passed hs slot number job answer s p = own_same (is_passed hs) slot number job answer (λ own last next. refl) s ∙ p
