-- What a run holds, after a part of it changed.
use Rattle.std.proofs.Common.{◌≡◌, ℕ, ◌+◌, List, [], ◌∷◌, ◌++◌, map, None, refl, sym, ap, ◌∙◌}
use Rattle.std.specs.Prelude.{pos, option_map}
use Rattle.fj_statement.specs.declared.deck.Variable.{Variable}
use Rattle.fj_statement.specs.declared.statement.Transfer.{Transfer}
use Rattle.fj_store.specs.Variables.{Variables}
use Rattle.fj_store.specs.Storage.{values_of}
use Rattle.fj_meaning.specs.State.{Files, Output}
use Rattle.fj_meaning.specs.Transfers.{with_number}
use Rattle.fj_meaning_jobs.specs.Core.{Core as PlainCore, Connected, Pending}
use Rattle.fj_meaning_turns.specs.Run.{Held as PlainHeld}
use Rattle.fj_meaning_turns.specs.Turns.{matched}
use Rattle.fj_run_pending.specs.Plain.{held, held_of, pending_of, brought_of, tells_of}
use Rattle.fj_run_pending.specs.declared.tell.Tell.{Tell as Said}
use Rattle.fj_run_pending.specs.declared.held.Held.{Held}
use Rattle.fj_run_statements.specs.Doing.{entered}
use Rattle.fj_run_statements.specs.Holding.{pending_under, unanswered}
use Rattle.fj_run_statements.specs.State.{core_of, KeepsAnswers}
use Rattle.fj_run_statements.specs.declared.state.Core.{Core}

matched_same : (hs : List PlainHeld) → hs ≡ matched (map (λ (h : PlainHeld). h.pending) hs) hs
matched_same [] = refl
matched_same (h ∷ hs) = ap (λ l. h ∷ l) (matched_same hs)

matched_more : (hs : List PlainHeld) (h : PlainHeld) → h.answer ≡ None → hs ++ h ∷ [] ≡ matched (map (λ (x : PlainHeld). x.pending) (hs ++ h ∷ [])) hs
matched_more [] h none = ap (λ a. (let r : PlainHeld = record { pending = h.pending; answer = a } in r) ∷ []) none
matched_more (x ∷ hs) h none = ap (λ l. x ∷ l) (matched_more hs h none)

-- they are as they were
pub keeps_answers : (old new : Core) → new.pending ≡ old.pending → KeepsAnswers old new
keeps_answers old new e =
    ap held e ∙ matched_same (held old.pending) ∙ ap (λ ps. matched (map (λ (h : PlainHeld). h.pending) (held ps)) (held old.pending)) (sym e)

pub answers_kept : (hs : List Held) → held hs ≡ matched (map (λ (h : PlainHeld). h.pending) (held hs)) (held hs)
answers_kept hs = matched_same (held hs)

-- ---- one more has no answer

held_more : (hs : List Held) (x : Held) → held (hs ++ x ∷ []) ≡ held hs ++ held_of x ∷ []
held_more [] x = refl
held_more (y ∷ hs) x = ap (λ l. held_of y ∷ l) (held_more hs x)

pub held_is : (old new : List Held) (h : Held) (p : Pending) → new ≡ old ++ h ∷ [] → pending_of h ≡ p → h.answer ≡ None → held new ≡ held old ++ unanswered p ∷ []
held_is old new h p more is none =
    ap held more ∙ held_more old h
    ∙ ap (λ q. held old ++ (let r : PlainHeld = record { pending = q; answer = option_map brought_of h.answer } in r) ∷ []) is
    ∙ ap (λ a. held old ++ (let r : PlainHeld = record { pending = p; answer = option_map brought_of a } in r) ∷ []) none

pub answers_more : (old new : Core) (p : Pending) → held new.pending ≡ held old.pending ++ unanswered p ∷ [] → KeepsAnswers old new
answers_more old new p e = e ∙ matched_more (held old.pending) (unanswered p) refl ∙ sym (ap (λ hs. matched (map (λ (h : PlainHeld). h.pending) hs) (held old.pending)) e)

book_more : (hs : List PlainHeld) (p : Pending) → map (λ (h : PlainHeld). h.pending) (hs ++ unanswered p ∷ []) ≡ map (λ (h : PlainHeld). h.pending) hs ++ p ∷ []
book_more [] p = refl
book_more (h ∷ hs) p = ap (λ l. h.pending ∷ l) (book_more hs p)

pub entered_is : (files : Files) (variables : List Variable) (old new : Core) (t : Transfer) (unit slot number : ℕ)
    → held new.pending ≡ held old.pending ++ unanswered (pending_under variables old.next t unit slot number) ∷ []
    → values_of new.store ≡ with_number variables t.id (pos old.next) (values_of old.store) → new.next ≡ old.next + 1
    → new.units ≡ old.units → new.output ≡ old.output → new.tells ≡ old.tells → new.new_unit ≡ old.new_unit
    → core_of files new ≡ entered variables (core_of files old) t unit slot number
entered_is files variables old new t unit slot number more values next units output tells new_unit =
    let made : Variables → List PlainHeld → List Connected → Output → ℕ → List Said → ℕ → PlainCore =
    λ v hs u o n l w. record { new_unit = w; vars = v; book = map (λ (h : PlainHeld). h.pending) hs; units = u; files = files; output = o; next = n; tells = tells_of l } in
    let due : Variables = with_number variables t.id (pos old.next) (values_of old.store) in
    let all : List PlainHeld = held old.pending ++ unanswered (pending_under variables old.next t unit slot number) ∷ [] in
    ap (λ v. made v (held new.pending) new.units new.output new.next new.tells new.new_unit) values
    ∙ ap (λ hs. made due hs new.units new.output new.next new.tells new.new_unit) more
    ∙ ap (λ u. made due all u new.output new.next new.tells new.new_unit) units
    ∙ ap (λ o. made due all old.units o new.next new.tells new.new_unit) output
    ∙ ap (λ n. made due all old.units old.output n new.tells new.new_unit) next
    ∙ ap (λ l. made due all old.units old.output (old.next + 1) l new.new_unit) tells
    ∙ ap (λ w. made due all old.units old.output (old.next + 1) old.tells w) new_unit
    ∙ ap (λ b. (let r : PlainCore = record { vars = due; book = b; units = old.units; files = files; output = old.output; next = old.next + 1; new_unit = old.new_unit; tells = tells_of old.tells } in r))
    (book_more (held old.pending) (pending_under variables old.next t unit slot number))
