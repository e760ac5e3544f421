-- The jobs that statements give, kind by kind.
use Rattle.std.proofs.Common.{◌≡◌, ℕ, ℤ, Bool, true, false, List, [], ◌∷◌, Option, Some, None, slice_get, refl, sym, ap, ◌∙◌, subst, ◌&&◌}
use Rattle.std.specs.Prelude.{if◌then◌else◌, unwrap_or}
use Rattle.std.specs.List.{list_any}
use Rattle.std.proofs.lemmas.Bool.{eq-eqb, ne_eqb}
use Rattle.fj_value.specs.declared.condition.Condition.{Condition}
use Rattle.fj_value.specs.declared.condition.Condition.TheVariants.{Fine, EndOfFile, EndOfRecord, Error}
use Rattle.fj_modes.specs.declared.modes.Modes.{Modes}
use Rattle.fj_modes.specs.declared.asked.Wanted.{Wanted}
use Rattle.fj_modes.specs.declared.motion.Motion.{Motion}
use Rattle.fj_modes.specs.declared.motion.Motion.TheVariants as motion
use Rattle.fj_statement.specs.declared.unit.UnitRef.{UnitRef}
use Rattle.fj_statement.specs.declared.unit.UnitRef.TheVariants as unit
use Rattle.fj_control.specs.Steps.{Given}
use Rattle.fj_connect.specs.Positions.{ended}
use Rattle.fj_transfer.specs.Transfer.{Done, transfer_by}
use Rattle.fj_bay.specs.Halt.{halts}
use Rattle.fj_bay.specs.Jobs.{items_for, Moving, detach, move, look, resume, done}
use Rattle.fj_bay.specs.Serving.{serve, with_done}
use Rattle.fj_bay.proofs.Controlled.{control_same}
use Rattle.fj_statement.specs.declared.deck.Variable.{Variable}
use Rattle.fj_statement.specs.declared.statement.Transfer.{Transfer}
use Rattle.fj_store.specs.Variables.{Variables}
use Rattle.fj_meaning.specs.Needs.{number_of}
use Rattle.fj_meaning.specs.State.{State, found, without_unit}
use Rattle.fj_meaning.specs.State as plain
use Rattle.fj_meaning.specs.Telling.{is_asynchronous}
use Rattle.fj_meaning.specs.Transfers.{moved_by, moved_in, spec_in, spec_of, layout_of, refusal, with_cells, without_values}
use Rattle.fj_meaning.specs.Statement as meant
use Rattle.fj_meaning_jobs.specs.Core.{Core, Connected, connected_at}
use Rattle.fj_meaning_jobs.specs.Desks.{Desk, carry, outcome, look_in}
use Rattle.fj_meaning_jobs.specs.Doing.{Doing, Desked, acted, given, finishes, gives, awaits}
use Rattle.fj_meaning_jobs.specs.Acting as desk
use Rattle.fj_meaning_jobs.specs.Acting.{moving_of, finishes_behind, transfer_at, keeps, disconnected, detaches, closes, closes_anyway, all_closed, moves, job_of, inquires, unit_at}
use Rattle.fj_meaning_jobs.specs.Both.{Both}
use Rattle.fj_meaning_jobs.specs.Forgetting.{IsSeen, bay_at}
use Rattle.fj_meaning_jobs.specs.Giving.{Jobs, resume_behind, moving_in, transfer_jobs, unless_refused, fitting_jobs, out, close_jobs, motion_jobs, look_jobs, all_out, IsGiven}
use Rattle.fj_meaning_jobs.proofs.Apart.{Each, Apart, Differs}
use Rattle.fj_meaning_jobs.proofs.Carrying.{carry_other, serves_at}
use Rattle.fj_meaning_jobs.proofs.Seen.{Seen, At, at_unit, not_at_unit, both_other, numbers_apart}
use Rattle.fj_meaning_jobs.proofs.Tied.{Tied, Free, each_found}
use Rattle.fj_meaning_jobs.proofs.Closing.{gone_out}

-- what an action gives is due
abbrev pub Gives : Desked → Doing → Jobs → Type 0
Gives p doing due = (after : List Connected) → after ≡ (acted p.desks doing).0.core.units → Both (IsGiven p.core.units after) (given p.desks doing) due

-- the unit has its slot
pub here : (us : List Connected) (vs : List plain.Unit) (desks : List Desk) (number : ℕ) (u : Connected) (at : At desks vs number u) → connected_at us number ≡ Some u → connected_at us at.it.number ≡ Some u
here us vs desks number u at e = ap (connected_at us) at.number_is ∙ e

-- ---- READ and WRITE

behind_given : (before after : List Connected) (u : Connected) (number : ℕ) (desks : List Desk) (core : Core) (c : Condition) → connected_at before number ≡ Some u
    → Both (IsGiven before after) (given desks (finishes_behind u core c)) (resume_behind number c)
behind_given before after u number desks core c e = by (halts c)
  where
    by : (b : Bool) → Both (IsGiven before after) (given desks (if b then gives u.slot resume core (λ n. finishes core c) else finishes core c)) (if b then (number, resume) ∷ [] else [])
    by true = ((refl, (u, e, refl)), tt)
    by false = tt

module _ (control : ℕ → List Given) (variables : List Variable) (line : ℕ) where
  job_same : (p : Desked) (s : State) (t : Transfer) → Tied p s → (tag : ℕ) → move (moving_of control variables line tag p.core.vars t (moved_by variables s t)) ≡ moving_in control variables line tag s t
  job_same p s t ties tag = ap (λ v. move (moving_of control variables line tag v t (moved_by variables s t))) ties.same.vars

  now_given : (p : Desked) (s : State) (t : Transfer) (number : ℕ) (u : Connected) (at : At p.desks s.units number u) → Tied p s → connected_at p.core.units number ≡ Some u → at.it.halt ≡ None → (after : List Connected)
      → Both (IsGiven p.core.units after)
      (given p.desks (awaits u.slot (move (moving_of control variables line 0 p.core.vars t (moved_by variables s t))) (desk.with_items_out variables p.core t (moved_by variables s t)) (desk.carried_out variables p.core t (moved_by variables s t) u)))
      ((at.it.number, moving_in control variables line 0 s t) ∷ resume_behind at.it.number (transfer_by control at.it.connection (spec_of variables s t (moved_by variables s t).cells) (moved_by variables s t)).condition)
  unfolding serve
  now_given p s t number u at ties e none after = (
    (job_same p s t ties 0, (u, here p.core.units s.units p.desks number u at e, refl)),
    subst (λ o. Both (IsGiven p.core.units after) (given (carry p.desks u.slot (move mv)) (desk.carried_out variables p.core t (moved_by variables s t) u o)) (resume_behind at.it.number (by_vars s.vars).condition)) (sym outcome_is)
        (subst (λ x. Both (IsGiven p.core.units after) (given (carry p.desks u.slot (move mv)) (desk.carried_out variables p.core t (moved_by variables s t) u (move (with_done mv d), done d.condition))) (resume_behind at.it.number x.condition))
        (control_same control (moved_by variables s t) at.it.connection (spec_in variables p.core.vars t (moved_by variables s t).cells) ∙ ap by_vars ties.same.vars)
        (behind_given p.core.units after u at.it.number (carry p.desks u.slot (move mv)) (core_then d) d.condition (here p.core.units s.units p.desks number u at e))),
  )
    where
      mv : Moving
      mv = moving_of control variables line 0 p.core.vars t (moved_by variables s t)

      by_vars : Variables → Done
      by_vars v = transfer_by control at.it.connection (spec_in variables v t (moved_by variables s t).cells) (moved_by variables s t)

      d : Done
      d = transfer_by (λ n. control (items_for t.input (moved_by variables s t))) at.it.connection (spec_in variables p.core.vars t (moved_by variables s t).cells) (moved_by variables s t)

      core_then : Done → Core
      core_then d = record (p.core) { vars = with_cells variables t d.cells d.count (without_values variables t (moved_by variables s t) p.core.vars) }

      there : bay_at (slice_get p.desks u.slot) ≡ Some (record { connection = Some at.it.connection; halt = None })
      there = at.seen.bay ∙ ap (λ h. Some (record { connection = Some at.it.connection; halt = h })) none

      outcome_is : outcome p.desks u.slot (move mv) ≡ (move (with_done mv d), done d.condition)
      outcome_is = (serves_at p.desks u.slot (move mv) (record { connection = Some at.it.connection; halt = None }) there).outcome_is

  fit_given : (p : Desked) (s : State) (t : Transfer) (number : ℕ) (u : Connected) (at : At p.desks s.units number u) → Tied p s → connected_at p.core.units number ≡ Some u
      → (is_asynchronous t ≡ false → Free number s.units) → (after : List Connected) (b : Bool) → is_asynchronous t ≡ b
      → Both (IsGiven p.core.units after) (given p.desks (if b
      then gives u.slot (move (moving_of control variables line p.core.next p.core.vars t (moved_by variables s t))) (desk.with_items_out variables p.core t (moved_by variables s t)) (λ n. finishes (desk.with_pending variables p.core t (moved_by variables s t) u n) Fine)
      else awaits u.slot (move (moving_of control variables line 0 p.core.vars t (moved_by variables s t))) (desk.with_items_out variables p.core t (moved_by variables s t)) (desk.carried_out variables p.core t (moved_by variables s t) u)))
      (if b then (at.it.number, moving_in control variables line s.next s t) ∷ []
      else (at.it.number, moving_in control variables line 0 s t) ∷ resume_behind at.it.number (transfer_by control at.it.connection (spec_of variables s t (moved_by variables s t).cells) (moved_by variables s t)).condition)
  fit_given p s t number u at ties e free after true q =
      ((job_same p s t ties p.core.next ∙ ap (λ n. moving_in control variables line n s t) ties.same.next, (u, here p.core.units s.units p.desks number u at e, refl)), tt)
  fit_given p s t number u at ties e free after false q =
      now_given p s t number u at ties e (each_found (λ v. v.number ≡ number → v.halt ≡ None) s.units number at.it (free q) at.found_is at.number_is) after

  unit_given : (p : Desked) (s : State) (t : Transfer) (number : ℕ) → Tied p s → (is_asynchronous t ≡ false → Free number s.units) → (after : List Connected)
      → (o : Option Connected) → connected_at p.core.units number ≡ o
      → Both (IsGiven p.core.units after) (given p.desks (desk.on_unit control variables line p.core t (moved_by variables s t) o)) (fitting_jobs control variables line s t (found s.units number))
  unit_given p s t number ties free after None e =
      subst (λ o. Both (IsGiven p.core.units after) [] (fitting_jobs control variables line s t o)) (sym (not_at_unit p.desks p.core.units s.units number ties.same.units e).0) tt
  unit_given p s t number ties free after (Some u) e =
      subst (λ o. Both (IsGiven p.core.units after) (given p.desks (desk.on_unit control variables line p.core t (moved_by variables s t) (Some u))) (fitting_jobs control variables line s t o)) (sym at.found_is)
      (subst (λ m. Both (IsGiven p.core.units after) (given p.desks (desk.unless_refused control variables line p.core t (moved_by variables s t) u (refusal m t (layout_of variables (moved_by variables s t).cells t.control))))
      (unless_refused (refusal at.it.connection.modes t (layout_of variables (moved_by variables s t).cells t.control)) (transfer_jobs control variables line s t at.it))) (sym at.seen.modes)
      (by (refusal at.it.connection.modes t (layout_of variables (moved_by variables s t).cells t.control))))
    where
      at : At p.desks s.units number u
      at = at_unit p.desks p.core.units s.units number u ties.same.units e

      by : (c : Condition) → Both (IsGiven p.core.units after) (given p.desks (desk.unless_refused control variables line p.core t (moved_by variables s t) u c)) (unless_refused c (transfer_jobs control variables line s t at.it))
      by Fine = fit_given p s t number u at ties e free after (is_asynchronous t) refl
      by EndOfFile = tt
      by EndOfRecord = tt
      by (Error n) = tt

  pub transfer_given : (p : Desked) (s : State) (t : Transfer) → Tied p s → (is_asynchronous t ≡ false → (n : ℕ) → number_of t.unit ≡ Some n → Free n s.units)
      → Gives p (transfer_at control variables line p.core t (moved_in variables p.core.vars t) t.unit) (fitting_jobs control variables line s t (meant.unit_at s (number_of t.unit)))
  transfer_given p s t ties free after is =
      subst (λ v. Both (IsGiven p.core.units after) (given p.desks (transfer_at control variables line p.core t (moved_in variables v t) t.unit)) (fitting_jobs control variables line s t (meant.unit_at s (number_of t.unit)))) (sym ties.same.vars)
      (by t.unit (λ q n e. free q n e))
    where
      by : (ref : UnitRef) → (is_asynchronous t ≡ false → (n : ℕ) → number_of ref ≡ Some n → Free n s.units)
          → Both (IsGiven p.core.units after) (given p.desks (transfer_at control variables line p.core t (moved_by variables s t) ref)) (fitting_jobs control variables line s t (meant.unit_at s (number_of ref)))
      by unit.Star f = tt
      by (unit.Number n) f = unit_given p s t n ties (λ q. f q n refl) after (connected_at p.core.units n) refl
      by (unit.Held place n) f = unit_given p s t n ties (λ q. f q n refl) after (connected_at p.core.units n) refl
      by (unit.New place n) f = unit_given p s t n ties (λ q. f q n refl) after (connected_at p.core.units n) refl
      by (unit.Internal file) f = tt

-- ---- CLOSE and END

-- a connection goes out, and more is done behind it
detaches_given : (before after : List Connected) (desks : List Desk) (core : Core) (u : Connected) (v : plain.Unit) (keep : Bool) (next : Core → Doing) (due : Jobs) → IsSeen desks u v → connected_at before v.number ≡ Some u
    → Both (IsGiven before after) (given (carry desks u.slot (detach None)) (next (disconnected core u keep (detach (Some (ended v.connection)), done Fine)))) due
    → Both (IsGiven before after) (given desks (detaches core u keep next)) ((v.number, detach None) ∷ due)
detaches_given before after desks core u v keep next due seen found h =
    ((refl, (u, found, refl)), gone_out (λ d. Both (IsGiven before after) (given (carry desks u.slot (detach None)) d) due) desks u v seen core keep next h)

pub closes_given : (p : Desked) (s : State) (keep : Option Bool) (number : Option ℕ) → Tied p s → Gives p (closes p.core keep (unit_at p.core number)) (close_jobs keep (meant.unit_at s number))
closes_given p s keep None t after is = tt
closes_given p s keep (Some number) t after is = by (connected_at p.core.units number) refl
  where
    by : (o : Option Connected) → connected_at p.core.units number ≡ o → Both (IsGiven p.core.units after) (given p.desks (closes p.core keep o)) (close_jobs keep (found s.units number))
    by None e = subst (λ o. Both (IsGiven p.core.units after) [] (close_jobs keep o)) (sym (not_at_unit p.desks p.core.units s.units number t.same.units e).0) tt
    by (Some u) e =
        subst (λ o. Both (IsGiven p.core.units after) (given p.desks (closes p.core keep (Some u))) (close_jobs keep o)) (sym at.found_is)
        (subst (λ k. Both (IsGiven p.core.units after) (given p.desks (if unwrap_or keep false && k then finishes p.core (Error 4) else detaches p.core u (unwrap_or keep (keeps u)) (λ new. finishes new Fine))) (close_jobs keep (Some at.it)))
        (sym (ap (λ (m : Modes). m.scratch) at.seen.modes)) (which (unwrap_or keep false && at.it.connection.modes.scratch)))
      where
        at : At p.desks s.units number u
        at = at_unit p.desks p.core.units s.units number u t.same.units e

        which : (b : Bool) → Both (IsGiven p.core.units after) (given p.desks (if b then finishes p.core (Error 4) else detaches p.core u (unwrap_or keep (keeps u)) (λ new. finishes new Fine))) (if b then [] else (at.it.number, detach None) ∷ [])
        which true = tt
        which false = detaches_given p.core.units after p.desks p.core u at.it (unwrap_or keep (keeps u)) (λ new. finishes new Fine) [] at.seen (here p.core.units s.units p.desks number u at e) tt

pub closes_anyway_given : (p : Desked) (s : State) (keep : Option Bool) (condition : Condition) (number : Option ℕ) → Tied p s → Gives p (closes_anyway p.core keep condition (unit_at p.core number)) (out (meant.unit_at s number))
closes_anyway_given p s keep condition None t after is = tt
closes_anyway_given p s keep condition (Some number) t after is = by (connected_at p.core.units number) refl
  where
    by : (o : Option Connected) → connected_at p.core.units number ≡ o → Both (IsGiven p.core.units after) (given p.desks (closes_anyway p.core keep condition o)) (out (found s.units number))
    by None e = subst (λ o. Both (IsGiven p.core.units after) [] (out o)) (sym (not_at_unit p.desks p.core.units s.units number t.same.units e).0) tt
    by (Some u) e =
        let at = at_unit p.desks p.core.units s.units number u t.same.units e in
        subst (λ o. Both (IsGiven p.core.units after) (given p.desks (closes_anyway p.core keep condition (Some u))) (out o)) (sym at.found_is)
        (detaches_given p.core.units after p.desks p.core u at.it (keeps u && unwrap_or keep true) (λ new. finishes new condition) [] at.seen (here p.core.units s.units p.desks number u at e) tt)

-- each unit of a list is found by its number
find_further : (x : Connected) (us xs : List Connected) → Differs (λ (u : Connected). u.number) x.number xs → Each (λ (u : Connected). connected_at us u.number ≡ Some u) xs → Each (λ (u : Connected). connected_at (x ∷ us) u.number ≡ Some u) xs
find_further x us [] d h = tt
find_further x us (y ∷ ys) d h = (ap (λ b. if b then Some x else connected_at us y.number) (ne_eqb x.number y.number (λ q. d.0 (sym q))) ∙ h.0, find_further x us ys d.1 h.1)

find_each : (us : List Connected) → Apart (λ (u : Connected). u.number) us → Each (λ (u : Connected). connected_at us u.number ≡ Some u) us
find_each [] h = tt
find_each (x ∷ us) h = (ap (λ b. if b then Some x else connected_at us x.number) (eq-eqb x.number x.number refl), find_further x us us h.0 (find_each us h.1))

pub units_found : (p : Desked) (s : State) → Tied p s → Each (λ (u : Connected). connected_at p.core.units u.number ≡ Some u) p.core.units
units_found p s t = find_each p.core.units (numbers_apart p.desks p.core.units s.units t.same.units t.numbers)

all_given : (before after : List Connected) (us : List Connected) (vs : List plain.Unit) (desks : List Desk) (core : Core) (condition : Condition) → Seen desks us vs → Apart (λ (u : Connected). u.slot) us
    → Each (λ (u : Connected). connected_at before u.number ≡ Some u) us → Both (IsGiven before after) (given desks (all_closed us core condition)) (all_out vs)
all_given before after [] [] desks core condition b slots f = tt
all_given before after [] (v ∷ vs) desks core condition b slots f = absurd b
all_given before after (u ∷ us) [] desks core condition b slots f = absurd b
all_given before after (u ∷ us) (v ∷ vs) desks core condition b slots f =
    detaches_given before after desks core u v (keeps u) (λ new. all_closed us new condition) (all_out vs) b.0 (ap (connected_at before) (sym b.0.number) ∙ f.0)
    (all_given before after us vs (carry desks u.slot (detach None)) (disconnected core u (keeps u) (detach (Some (ended v.connection)), done Fine)) condition
    (both_other desks (carry desks u.slot (detach None)) u.slot us vs (carry_other desks u.slot (detach None)) slots.0 b.1) slots.1 f.1)

pub ends_given : (p : Desked) (s : State) (condition : Condition) → Tied p s → Gives p (all_closed p.core.units p.core condition) (all_out s.units)
ends_given p s condition t after is = all_given p.core.units after p.core.units s.units p.desks p.core condition t.same.units t.slots.apart (units_found p s t)

-- ---- the motions and INQUIRE

pub moves_given : (p : Desked) (s : State) (how : Motion) (number : Option ℕ) → Tied p s → Gives p (moves p.core how (unit_at p.core number)) (motion_jobs how (meant.unit_at s number))
moves_given p s how None t after is = tt
moves_given p s how (Some number) t after is = by (connected_at p.core.units number) refl
  where
    by : (o : Option Connected) → connected_at p.core.units number ≡ o → Both (IsGiven p.core.units after) (given p.desks (moves p.core how o)) (motion_jobs how (found s.units number))
    by None e = subst (λ o. Both (IsGiven p.core.units after) [] (motion_jobs how o)) (sym (not_at_unit p.desks p.core.units s.units number t.same.units e).0) tt
    by (Some u) e = subst (λ o. Both (IsGiven p.core.units after) (given p.desks (moves p.core how (Some u))) (motion_jobs how o)) (sym at.found_is) (each how)
      where
        at : At p.desks s.units number u
        at = at_unit p.desks p.core.units s.units number u t.same.units e

        each : (how : Motion) → Both (IsGiven p.core.units after) (given p.desks (moves p.core how (Some u))) ((at.it.number, job_of how) ∷ [])
        each motion.Flush = ((refl, (u, here p.core.units s.units p.desks number u at e, refl)), tt)
        each motion.Backspace = ((refl, (u, here p.core.units s.units p.desks number u at e, refl)), tt)
        each motion.Rewind = ((refl, (u, here p.core.units s.units p.desks number u at e, refl)), tt)
        each motion.Endfile = ((refl, (u, here p.core.units s.units p.desks number u at e, refl)), tt)

pub inquires_given : (variables : List Variable) (p : Desked) (s : State) (number : Option ℕ) (file : Option (List ℕ)) (asked : List Wanted) (id : Option ℤ) → Tied p s → Gives p (inquires variables p.core number file asked id (unit_at p.core number)) (look_jobs asked (meant.unit_at s number))
inquires_given variables p s None file asked id t after is = tt
inquires_given variables p s (Some number) file asked id t after is = by (connected_at p.core.units number) refl
  where
    by : (o : Option Connected) → connected_at p.core.units number ≡ o → Both (IsGiven p.core.units after) (given p.desks (inquires variables p.core (Some number) file asked id o)) (look_jobs asked (found s.units number))
    by None e = subst (λ o. Both (IsGiven p.core.units after) [] (look_jobs asked o)) (sym (not_at_unit p.desks p.core.units s.units number t.same.units e).0) tt
    by (Some u) e = subst (λ o. Both (IsGiven p.core.units after) (given p.desks (inquires variables p.core (Some number) file asked id (Some u))) (look_jobs asked o)) (sym at.found_is) (which (list_any (λ (w : Wanted). desk.asks_connection w.what) asked))
      where
        at : At p.desks s.units number u
        at = at_unit p.desks p.core.units s.units number u t.same.units e

        which : (b : Bool) → Both (IsGiven p.core.units after)
            (given p.desks (if b then awaits u.slot (look None) p.core (λ o. desk.answers variables p.core (desk.about_unit p.core (Some number) file id u (look_in o.0)) asked) else desk.answers variables p.core (desk.about_unit p.core (Some number) file id u None) asked))
            (if b then (at.it.number, look None) ∷ [] else [])
        which true = ((refl, (u, here p.core.units s.units p.desks number u at e, refl)), tt)
        which false = tt
