-- READ and WRITE over desks.
use Rattle.std.proofs.Common.{◌≡◌, ℕ, ◌+◌, ◌<◌, Bool, true, false, List, [], ◌∷◌, ◌++◌, Option, Some, None, slice_get, refl, sym, ap, ◌∙◌, subst}
use Rattle.std.specs.Prelude.{if◌then◌else◌, pos}
use Rattle.std.specs.Option.{option_map}
use Rattle.std.proofs.lemmas.List.{map-append}
use Rattle.fj_value.specs.declared.condition.Condition.{Condition}
use Rattle.fj_value.specs.declared.condition.Condition.TheVariants.{Fine, EndOfFile, EndOfRecord, Error}
use Rattle.fj_moved.specs.declared.moved.Moved.{Moved}
use Rattle.fj_control.specs.Steps.{Given}
use Rattle.fj_connect.specs.Connection.{Connection}
use Rattle.fj_transfer.specs.Transfer.{Done, transfer_by}
use Rattle.fj_bay.specs.Bay.{Bay}
use Rattle.fj_bay.specs.Halt.{halts, halt_behind, unless_halted}
use Rattle.fj_bay.specs.Jobs.{items_for, Moving, move, resume}
use Rattle.fj_bay.specs.Serving.{serve, answer_in, with_done}
use Rattle.fj_bay.proofs.Controlled.{control_same}
use Rattle.fj_bay.proofs.Keeping.{Kept, kept_same, transfer_kept}
use Rattle.fj_statement.specs.declared.deck.Variable.{Variable}
use Rattle.fj_statement.specs.declared.statement.Transfer.{Transfer}
use Rattle.fj_statement.specs.declared.unit.InternalFile.{InternalFile}
use Rattle.fj_statement.specs.declared.unit.UnitRef.{UnitRef}
use Rattle.fj_statement.specs.declared.unit.UnitRef.TheVariants as unit
use Rattle.fj_store.specs.Variables.{Variables}
use Rattle.fj_meaning.specs.State.{State, Entry, found, with_unit}
use Rattle.fj_meaning.specs.State as plain
use Rattle.fj_meaning.specs.Telling.{is_asynchronous}
use Rattle.fj_meaning.specs.Transfers as plainly
use Rattle.fj_meaning.specs.Transfers.{inside, moved_in, spec_in, layout_of, refusal, without_values, with_cells, with_number, held_places, star_printed}
use Rattle.fj_meaning_jobs.specs.Core.{Core, Pending, Connected, connected_at}
use Rattle.fj_meaning_jobs.specs.Desks.{Desk, carry, outcome, brought_by, entry_with, entry_of, log_length}
use Rattle.fj_meaning_jobs.specs.Doing.{Desked, acted, finishes, gives, awaits}
use Rattle.fj_statement.specs.Units.{number_of}
use Rattle.fj_meaning_jobs.specs.Acting.{moving_of, pending_of, with_items_out, with_pending, carried_out, refused, unless_refused, on_unit, on_star, on_file, transfer_at}
use Rattle.fj_meaning_jobs.specs.Forgetting.{bay_at}
use Rattle.fj_meaning_jobs.proofs.Apart.{each_append}
use Rattle.fj_meaning_jobs.proofs.Carrying.{Reaches, reaches_then, Serves, serves_at}
use Rattle.fj_meaning_jobs.proofs.Seen.{At, at_unit, not_at_unit}
use Rattle.fj_meaning_jobs.proofs.Tied.{Tied, ActTied, Free, bay_of, unit_moves, with_vars, with_output, each_found}

module _ (control : ℕ → List Given) (variables : List Variable) (line : ℕ) where
  -- what a transfer comes to on a connection, and by a job, which has what the format gives for its items
  abbrev transferred : Variables → Transfer → Moved → Connection → Done
  transferred vars t moved c = transfer_by control c (spec_in variables vars t moved.cells) moved

  abbrev by_job : Variables → Transfer → Moved → Connection → Done
  by_job vars t moved c = transfer_by (λ n. control (items_for t.input moved)) c (spec_in variables vars t moved.cells) moved

  job_same : (old new : Variables) (t : Transfer) (moved : Moved) (c : Connection) → old ≡ new → by_job old t moved c ≡ transferred new t moved c
  job_same old new t moved c e = control_same control moved c (spec_in variables old t moved.cells) ∙ ap (λ v. transferred v t moved c) e

  job_kept : (vars : Variables) (t : Transfer) (moved : Moved) (c : Connection) → Kept c (by_job vars t moved c).connection
  job_kept vars t moved c = transfer_kept (λ n. control (items_for t.input moved)) c (spec_in variables vars t moved.cells) moved

  halted_kept : (vars : Variables) (t : Transfer) (moved : Moved) (c : Connection) (h : Option Condition) → Kept c (unless_halted h c t.input moved.cells (by_job vars t moved c)).connection
  halted_kept vars t moved c None = job_kept vars t moved c
  halted_kept vars t moved c (Some cause) = kept_same c

  -- on that of a unit
  abbrev done_on : Transfer → Moved → plain.Unit → Done → Done
  done_on t moved v d = unless_halted v.halt v.connection t.input moved.cells d

  abbrev moving : ℕ → Variables → Transfer → Moved → Moving
  moving tag vars t moved = moving_of control variables line tag vars t moved

  -- ---- a pending transfer

  entry_is : (e : Pending) (mv : Moving) (h : Option Condition) (c : Connection) (d : Done)
      → ◌≡◌ {A = Entry} (entry_with e (Some (brought_by (move (with_done mv (unless_halted h c e.input mv.moved.cells d)), answer_in h (unless_halted h c e.input mv.moved.cells d).condition))))
      (record { id = e.id; unit = e.unit; input = e.input; places = e.places; cells = if e.input then (unless_halted h c e.input mv.moved.cells d).cells else []; size = e.size; count = (unless_halted h c e.input mv.moved.cells d).count; condition = (unless_halted h c e.input mv.moved.cells d).condition })
  entry_is e mv None c d = refl
  entry_is e mv (Some cause) c d = refl

  later_tied : (p : Desked) (s : State) (t : Transfer) (moved : Moved) (number : ℕ) (u : Connected) (at : At p.desks s.units number u)
      → Tied p s → connected_at p.core.units number ≡ Some u
      → ActTied (acted p.desks (gives u.slot (move (moving p.core.next p.core.vars t moved)) (with_items_out variables p.core t moved) (λ n. finishes (with_pending variables p.core t moved u n) Fine)))
      (plainly.made_pending variables s t moved at.it (transferred s.vars t moved at.it.connection))
  unfolding serve
  later_tied p s t moved number u at ties e = (
    refl,
    record {
      same = record {
        vars = ap (λ v. with_number variables t.id (pos p.core.next) (without_values variables t moved v)) ties.same.vars
            ∙ ap (λ n. with_number variables t.id (pos n) (without_values variables t moved s.vars)) ties.same.next;
        book = map-append (entry_of behind) p.core.book (pending_of variables p.core t u number_of_job ∷ [])
            ∙ ap (λ l. l ++ entry_of behind (pending_of variables p.core t u number_of_job) ∷ []) moves.same.book
            ∙ ap (λ x. s.book ++ x ∷ []) entry;
        units = moves.same.units;
        files = ties.same.files;
        output = ties.same.output;
        next = ap (λ n. n + 1) ties.same.next;
        new_unit = ties.same.new_unit;
        tells = ties.same.tells;
      };
      slots = record {
        apart = moves.slots.apart;
        idle = moves.slots.idle;
        sixteen = moves.slots.sixteen;
        placed = each_append (λ (x : Pending). x.number < log_length (slice_get behind x.slot)) p.core.book (pending_of variables p.core t u number_of_job ∷ []) moves.slots.placed (job.longer, tt);
      };
      numbers = moves.numbers;
    },
  )
    where
      mv : Moving
      mv = moving p.core.next p.core.vars t moved

      number_of_job : ℕ
      number_of_job = log_length (slice_get p.desks u.slot)

      behind : List Desk
      behind = carry p.desks u.slot (move mv)

      job : Serves p.desks u.slot (move mv) (bay_of at.it)
      job = serves_at p.desks u.slot (move mv) (bay_of at.it) at.seen.bay

      d : Done
      d = done_on t moved at.it (by_job p.core.vars t moved at.it.connection)

      plain_d : Done
      plain_d = done_on t moved at.it (transferred s.vars t moved at.it.connection)

      same_d : d ≡ plain_d
      same_d = ap (done_on t moved at.it) (job_same p.core.vars s.vars t moved at.it.connection ties.same.vars)

      kept : Kept at.it.connection d.connection
      kept = halted_kept p.core.vars t moved at.it.connection at.it.halt

      moves : Tied (record { core = p.core; desks = behind }) (record s { units = with_unit (record (at.it) { connection = plain_d.connection; halt = halt_behind at.it.halt plain_d.condition }) s.units })
      moves =
          subst (λ x. Tied (record { core = p.core; desks = behind }) (record s { units = with_unit (record (at.it) { connection = x.connection; halt = halt_behind at.it.halt x.condition }) s.units })) same_d
          (unit_moves p s number u at behind d.connection (halt_behind at.it.halt d.condition) ties e job.reaches kept.named kept.modes)

      entry : entry_of behind (pending_of variables p.core t u number_of_job) ≡ plainly.entry_of variables s t at.it plain_d
      entry =
          ap (λ o. entry_with (pending_of variables p.core t u number_of_job) (option_map brought_by o)) job.logged
          ∙ entry_is (pending_of variables p.core t u number_of_job) mv at.it.halt at.it.connection (by_job p.core.vars t moved at.it.connection)
          ∙ ap (λ x. record { id = p.core.next; unit = u.number; input = t.input; places = held_places variables t; cells = if t.input then x.cells else []; size = t.size; count = x.count; condition = x.condition }) same_d
          ∙ ap (λ n. record { id = n; unit = u.number; input = t.input; places = held_places variables t; cells = if t.input then plain_d.cells else []; size = t.size; count = plain_d.count; condition = plain_d.condition }) ties.same.next
          ∙ ap (λ n. record { id = s.next; unit = n; input = t.input; places = held_places variables t; cells = if t.input then plain_d.cells else []; size = t.size; count = plain_d.count; condition = plain_d.condition }) (at.own_number ∙ sym at.number_is)

  -- ---- a synchronous transfer: the halt that it set ends with it

  now_tied : (p : Desked) (s : State) (t : Transfer) (moved : Moved) (number : ℕ) (u : Connected) (at : At p.desks s.units number u)
      → Tied p s → connected_at p.core.units number ≡ Some u → at.it.halt ≡ None
      → ActTied (acted p.desks (awaits u.slot (move (moving 0 p.core.vars t moved)) (with_items_out variables p.core t moved) (carried_out variables p.core t moved u)))
      (plainly.carried_out variables s t moved at.it (transferred s.vars t moved at.it.connection))
  unfolding serve
  now_tied p s t moved number u at ties e none =
      subst (λ o. ActTied (acted behind (carried_out variables p.core t moved u o)) meant) (sym outcome_is)
      (subst (λ x. ActTied (acted behind (carried_out variables p.core t moved u (move (with_done mv d), answer_in None d.condition))) (meant_by x)) same_d (by (halts d.condition) refl))
    where
      mv : Moving
      mv = moving 0 p.core.vars t moved

      behind : List Desk
      behind = carry p.desks u.slot (move mv)

      d : Done
      d = by_job p.core.vars t moved at.it.connection

      plain_d : Done
      plain_d = transferred s.vars t moved at.it.connection

      same_d : d ≡ plain_d
      same_d = job_same p.core.vars s.vars t moved at.it.connection ties.same.vars

      meant_by : Done → State × Condition
      meant_by x = plainly.carried_out variables s t moved at.it x

      meant : State × Condition
      meant = meant_by plain_d

      bay : Bay
      bay = record { connection = Some at.it.connection; halt = None }

      there : bay_at (slice_get p.desks u.slot) ≡ Some bay
      there = at.seen.bay ∙ ap (λ h. Some (record { connection = Some at.it.connection; halt = h })) none

      job : Serves p.desks u.slot (move mv) bay
      job = serves_at p.desks u.slot (move mv) bay there

      outcome_is : outcome p.desks u.slot (move mv) ≡ (move (with_done mv d), answer_in None d.condition)
      outcome_is = job.outcome_is

      kept : Kept at.it.connection d.connection
      kept = job_kept p.core.vars t moved at.it.connection

      values : Variables → Variables
      values v = with_cells variables t d.cells d.count (without_values variables t moved v)

      core : Core
      core = record (p.core) { vars = values p.core.vars }

      new_state : State
      new_state = record s { vars = values s.vars; units = with_unit (record (at.it) { connection = d.connection }) s.units }

      tied_over : (desks : List Desk) → Reaches p.desks desks u.slot (record { connection = Some d.connection; halt = None }) → Tied (record { core = core; desks = desks }) new_state
      tied_over desks r =
          with_vars (record { core = p.core; desks = desks }) (record s { units = with_unit (record (at.it) { connection = d.connection }) s.units }) (values p.core.vars) (values s.vars) (ap values ties.same.vars)
          (subst (λ h. Tied (record { core = p.core; desks = desks }) (record s { units = with_unit (record { number = at.it.number; connection = d.connection; halt = h }) s.units })) (sym none)
          (unit_moves p s number u at desks d.connection None ties e r kept.named kept.modes))

      first : (b : Bool) → halts d.condition ≡ b → Reaches p.desks behind u.slot (record { connection = Some d.connection; halt = if b then Some d.condition else None })
      first b q = subst (λ k. Reaches p.desks behind u.slot (record { connection = Some d.connection; halt = if k then Some d.condition else None })) q job.reaches

      by : (b : Bool) → halts d.condition ≡ b → ActTied (acted behind (if b then gives u.slot resume core (λ n. finishes core d.condition) else finishes core d.condition)) (new_state, d.condition)
      by true q = (
        refl,
        tied_over (carry behind u.slot resume)
            (reaches_then p.desks behind (carry behind u.slot resume) u.slot (record { connection = Some d.connection; halt = Some d.condition }) (record { connection = Some d.connection; halt = None }) (first true q)
            (serves_at behind u.slot resume (record { connection = Some d.connection; halt = Some d.condition }) (first true q).here).reaches),
      )
      by false q = (refl, tied_over behind (first false q))

  -- ---- on a unit

  items_out : (p : Desked) (s : State) (t : Transfer) (moved : Moved) (condition : Condition) → Tied p s → ActTied (acted p.desks (refused variables p.core t moved condition)) (plainly.refused variables s t moved condition)
  items_out p s t moved condition ties = (refl, with_vars p s (without_values variables t moved p.core.vars) (without_values variables t moved s.vars) (ap (without_values variables t moved) ties.same.vars) ties)

  fit_tied : (p : Desked) (s : State) (t : Transfer) (moved : Moved) (number : ℕ) (u : Connected) (at : At p.desks s.units number u) → Tied p s → connected_at p.core.units number ≡ Some u
      → (is_asynchronous t ≡ false → Free number s.units) → (b : Bool) → is_asynchronous t ≡ b
      → ActTied (acted p.desks (if b
      then gives u.slot (move (moving p.core.next p.core.vars t moved)) (with_items_out variables p.core t moved) (λ n. finishes (with_pending variables p.core t moved u n) Fine)
      else awaits u.slot (move (moving 0 p.core.vars t moved)) (with_items_out variables p.core t moved) (carried_out variables p.core t moved u)))
      (if b then plainly.made_pending variables s t moved at.it (transferred s.vars t moved at.it.connection)
      else plainly.carried_out variables s t moved at.it (transferred s.vars t moved at.it.connection))
  fit_tied p s t moved number u at ties e free true q = later_tied p s t moved number u at ties e
  fit_tied p s t moved number u at ties e free false q =
      now_tied p s t moved number u at ties e (each_found (λ v. v.number ≡ number → v.halt ≡ None) s.units number at.it (free q) at.found_is at.number_is)

  unit_tied : (p : Desked) (s : State) (t : Transfer) (moved : Moved) (number : ℕ) → Tied p s → (is_asynchronous t ≡ false → Free number s.units)
      → (o : Option Connected) → connected_at p.core.units number ≡ o
      → ActTied (acted p.desks (on_unit control variables line p.core t moved o)) (plainly.on_unit control variables s t moved (found s.units number))
  unit_tied p s t moved number ties free None e =
      subst (λ o. ActTied (acted p.desks (refused variables p.core t moved (Error 1))) (plainly.on_unit control variables s t moved o)) (sym (not_at_unit p.desks p.core.units s.units number ties.same.units e).0)
      (items_out p s t moved (Error 1) ties)
  unit_tied p s t moved number ties free (Some u) e =
      subst (λ o. ActTied (acted p.desks (on_unit control variables line p.core t moved (Some u))) (plainly.on_unit control variables s t moved o)) (sym at.found_is)
      (subst (λ m. ActTied (acted p.desks (unless_refused control variables line p.core t moved u (refusal m t (layout_of variables moved.cells t.control))))
      (plainly.unless_refused control variables s t moved at.it (refusal at.it.connection.modes t (layout_of variables moved.cells t.control)))) (sym at.seen.modes)
      (by (refusal at.it.connection.modes t (layout_of variables moved.cells t.control))))
    where
      at : At p.desks s.units number u
      at = at_unit p.desks p.core.units s.units number u ties.same.units e

      by : (c : Condition) → ActTied (acted p.desks (unless_refused control variables line p.core t moved u c)) (plainly.unless_refused control variables s t moved at.it c)
      by Fine = fit_tied p s t moved number u at ties e free (is_asynchronous t) refl
      by EndOfFile = items_out p s t moved EndOfFile ties
      by EndOfRecord = items_out p s t moved EndOfRecord ties
      by (Error n) = items_out p s t moved (Error n) ties

  -- ---- on `*`

  star_tied : (p : Desked) (s : State) (t : Transfer) (moved : Moved) → Tied p s
      → ActTied (acted p.desks (on_star control variables p.core t moved)) (plainly.on_star control s t moved (spec_in variables s.vars t moved.cells))
  star_tied p s t moved ties = (ap (λ x. x.1) prints, with_output p s (printed p.core.output p.core.vars).0 (printed s.output s.vars).0 (ap (λ x. x.0) prints) ties)
    where
      printed : plain.Output → Variables → plain.Output × Condition
      printed output v = star_printed control output t moved (spec_in variables v t moved.cells)

      prints : printed p.core.output p.core.vars ≡ printed s.output s.vars
      prints = ap (λ x. printed x p.core.vars) ties.same.output ∙ ap (λ v. printed s.output v) ties.same.vars

  -- ---- on an internal file

  file_tied : (p : Desked) (s : State) (t : Transfer) (moved : Moved) (file : InternalFile) → Tied p s
      → ActTied (acted p.desks (on_file control variables p.core t moved file)) (plainly.on_file control variables s t moved file)
  file_tied p s t moved file ties = (ap (λ x. x.1) same, with_vars p s (done p.core.vars).0 (done s.vars).0 (ap (λ x. x.0) same) ties)
    where
      done : Variables → Variables × Condition
      done vars = inside control variables vars t moved file

      same : done p.core.vars ≡ done s.vars
      same = ap done ties.same.vars

  -- ---- wherever it goes

  at_tied : (p : Desked) (s : State) (t : Transfer) (moved : Moved) (ref : UnitRef) → Tied p s → (is_asynchronous t ≡ false → (n : ℕ) → number_of ref ≡ Some n → Free n s.units)
      → ActTied (acted p.desks (transfer_at control variables line p.core t moved ref)) (plainly.transfer_at control variables s t moved ref)
  at_tied p s t moved unit.Star ties free = star_tied p s t moved ties
  at_tied p s t moved (unit.Number n) ties free = unit_tied p s t moved n ties (λ q. free q n refl) (connected_at p.core.units n) refl
  at_tied p s t moved (unit.Held place n) ties free = unit_tied p s t moved n ties (λ q. free q n refl) (connected_at p.core.units n) refl
  at_tied p s t moved (unit.New place n) ties free = unit_tied p s t moved n ties (λ q. free q n refl) (connected_at p.core.units n) refl
  at_tied p s t moved (unit.Internal file) ties free = file_tied p s t moved file ties

  pub transfer_tied : (p : Desked) (s : State) (t : Transfer) → Tied p s → (is_asynchronous t ≡ false → (n : ℕ) → number_of t.unit ≡ Some n → Free n s.units)
      → ActTied (acted p.desks (transfer_at control variables line p.core t (moved_in variables p.core.vars t) t.unit)) (plainly.reads_or_writes control variables s t)
  transfer_tied p s t ties free =
      subst (λ v. ActTied (acted p.desks (transfer_at control variables line p.core t (moved_in variables v t) t.unit)) (plainly.reads_or_writes control variables s t)) (sym ties.same.vars)
      (at_tied p s t (moved_in variables s.vars t) t.unit ties free)

  pub nothing_tied : (p : Desked) (s : State) (t : Transfer) (condition : Condition) → Tied p s
      → ActTied (acted p.desks (finishes (with_items_out variables p.core t (moved_in variables p.core.vars t)) condition)) (plainly.transfers_nothing variables s t, condition)
  nothing_tied p s t condition ties = (
    refl,
    with_vars p s (without_values variables t (moved_in variables p.core.vars t) p.core.vars) (without_values variables t (moved_in variables s.vars t) s.vars)
        (ap (λ v. without_values variables t (moved_in variables v t) v) ties.same.vars) ties,
  )
