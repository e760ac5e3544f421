-- Runs as plain data: a core with another book, the end of a statement, and transfers that are told.
use Rattle.std.proofs.Common.{◌≡◌, ℕ, Bool, true, false, cond, not, List, [], ◌∷◌, map, filter, refl, sym, ap, ◌∙◌}
use Rattle.std.proofs.lemmas.List.{append-nil}
use Rattle.fj_outside.specs.declared.outside.FileStore.{Ghosts}
use Rattle.fj_value.specs.Condition.{code_of}
use Rattle.fj_value.specs.declared.condition.Condition.{Condition}
use Rattle.fj_statement.specs.declared.deck.Variable.{Variable}
use Rattle.fj_store.specs.Storage.{values_of}
use Rattle.fj_store.specs.Variables.{Variables}
use Rattle.fj_run_items.specs.Handing.{HandsOver, whole_records}
use Rattle.fj_meaning.specs.State.{Files, Entry, Output}
use Rattle.fj_meaning.specs.Statement.{Stated, ends, iostat_of, new_place, next_new, with_new_unit}
use Rattle.fj_meaning.specs.Telling.{tells_id}
use Rattle.fj_meaning.specs.Transfers.{with_number}
use Rattle.fj_meaning_jobs.specs.Core.{Core, Pending}
use Rattle.fj_meaning_jobs.specs.Desking.{defined}
use Rattle.fj_meaning_turns.specs.Run.{Held, Stage}
use Rattle.fj_meaning_turns.specs.Turns.{matched, with_core, finish_by, turn_finish}
use Rattle.fj_run_pending.specs.Plain.{held, pending_of}
use Rattle.fj_run_pending.specs.declared.held.Held as code
use Rattle.fj_run_statements.specs.State.{core_of}
use Rattle.fj_run_script.specs.Machine.{run_in}
use Rattle.fj_run_script.specs.Taking.{TakesMore}
use Rattle.fj_run_script.specs.declared.state.State.{State}

-- ---- the book

pub matched_same : (hs : List Held) → matched (map (λ (h : Held). h.pending) hs) hs ≡ hs
matched_same [] = refl
matched_same (h ∷ hs) = ap (λ t. h ∷ t) (matched_same hs)

pub pendings_are : (hs : List code.Held) → map (λ (h : Held). h.pending) (held hs) ≡ map pending_of hs
pendings_are [] = refl
pendings_are (h ∷ hs) = ap (λ t. pending_of h ∷ t) (pendings_are hs)

told_by : (b : Bool) (h : Held) (xs : List Held) (ys : List Pending) → map (λ (h : Held). h.pending) xs ≡ ys
    → map (λ (h : Held). h.pending) (cond b (h ∷ xs) xs) ≡ cond b (h.pending ∷ ys) ys
told_by true h xs ys e = ap (λ t. h.pending ∷ t) e
told_by false h xs ys e = e

pub told_book : (told : List Entry) (hs : List Held)
    → map (λ (h : Held). h.pending) (filter (λ (h : Held). not (tells_id told h.pending.id)) hs) ≡ filter (λ (e : Pending). not (tells_id told e.id)) (map (λ (h : Held). h.pending) hs)
told_book told [] = refl
told_book told (h ∷ hs) = told_by (not (tells_id told h.pending.id)) h _ _ (told_book told hs)

-- ---- the end of a statement

module _ {F : Type 0} {ghosts : Ghosts F} (variables : List Variable) (rest : List Stated) (files : Files) (s : State F ghosts) (stage : Stage) (core : Core) (book : List Held)
    (e : held s.core.pending ≡ matched (map (λ (h : Held). h.pending) (held s.core.pending)) book) where
  pub with_core_is : with_core (core_of files s.core) (record (run_in variables rest files s stage) { core = core; book = book }) ≡ run_in variables rest files s stage
  with_core_is = ap (λ b. record (run_in variables rest files s stage) { book = b }) (sym e)

  pub finish_is : (st : Stated) (condition : Condition) (vars : Variables) (new_unit : ℕ)
      → vars ≡ with_number variables (iostat_of st.0.what) (code_of condition) (with_new_unit variables st.0.what condition s.core.new_unit (values_of s.core.store))
      → new_unit ≡ next_new (new_place st.0.what condition) s.core.new_unit
      → turn_finish st (core_of files s.core) condition (record (run_in variables rest files s stage) { core = core; book = book })
      ≡ finish_by (ends st.0.line st.0.what condition) (record (run_in variables rest files s stage) { core = record (core_of files s.core) { vars = vars; new_unit = new_unit } })
  finish_is st condition vars new_unit v n =
      ap (λ b. finish_by (ends st.0.line st.0.what condition) (record (run_in variables rest files s stage) { core = defined variables st.0.what condition (core_of files s.core); book = b })) (sym e)
      ∙ ap (λ vs. finish_by (ends st.0.line st.0.what condition) (record (run_in variables rest files s stage) { core = record (core_of files s.core) { vars = vs; new_unit = next_new (new_place st.0.what condition) s.core.new_unit } })) (sym v)
      ∙ ap (λ u. finish_by (ends st.0.line st.0.what condition) (record (run_in variables rest files s stage) { core = record (core_of files s.core) { vars = vars; new_unit = u } })) (sym n)

-- ---- the output

pub hands_none : (taken taken' : List ℕ) (old new : Output) → taken' ≡ taken → new ≡ old → HandsOver taken taken' old new
hands_none taken taken' old new t o = ([], ap whole_records o ∙ sym (append-nil (whole_records old)), t ∙ sym (append-nil taken))

pub takes_none : (taken taken' : List ℕ) → taken' ≡ taken → TakesMore taken taken'
takes_none taken taken' t = ([], t ∙ sym (append-nil taken))
