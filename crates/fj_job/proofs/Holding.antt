-- What closing all units would leave, where a stop was told and where a call on the outside failed.
use Rattle.std.proofs.Common.{◌≡◌, ◌≢◌, inl, inr, ℕ, ◌+◌, ◌≤◌, true, false, List, length, drop, Option, Some, None, IfSome, is_some, slice_get, sym, ap, ◌∙◌, subst}
use Rattle.fj_outside.specs.Holdings.{Holdings}
use Rattle.fj_outside.specs.declared.outside.FileStore.{Ghosts}
use Rattle.fj_statement.specs.declared.deck.Deck.{Deck}
use Rattle.fj_connect.specs.Linked.{Linked}
use Rattle.fj_slot.specs.Ledger.{Ledger}
use Rattle.fj_slot.specs.Serving.{Meaning}
use Rattle.fj_world.specs.Rack.{Rack}
use Rattle.fj_bay.specs.Bay.{Bay}
use Rattle.fj_bay.specs.Jobs.{Job, Answer}
use Rattle.fj_meaning.specs.State.{State, Files, all_closed, start}
use Rattle.fj_meaning.specs.Statement.{Stated, stated, cut}
use Rattle.fj_meaning_jobs.specs.Core.{Core, Connected, has_name}
use Rattle.fj_meaning_jobs.specs.Desks.{Desk}
use Rattle.fj_meaning_jobs.specs.Desking.{all_left}
use Rattle.fj_meaning_turns.specs.Run.{Run}
use Rattle.fj_meaning_turns.specs.Cutting.{IsCutRun}
use Rattle.fj_meaning_turns.specs.Executing.{HoldsDesks}
use Rattle.fj_meaning_turns.specs.Serving.{Shows}
use Rattle.fj_meaning_cut.specs.Others.{names_in, file_about, file_opened, has_file, core_now, AreHoused, LeavesOthers, file_renewed}
use Rattle.fj_meaning_cut.specs.Awaiting.{StopsAt}
use Rattle.fj_meaning_cut.specs.Stopping.{HoldsGiven, WasAwaited}
use Rattle.fj_meaning_cut.specs.Turning.{IsUnbegun, SubmitLeavesOthers, TurnLeavesOthers}
use Rattle.fj_meaning_cut.proofs.Connecting.{opened_about}
use Rattle.fj_run_statements.specs.State.{core_of, core_at}
use Rattle.fj_run_units.specs.Files.{files_of}
use Rattle.fj_run_units.specs.Returning.{IsAsDue}
use Rattle.fj_run_end.specs.Ended.{TurnHolds}
use Rattle.fj_run_end.specs.Holding.{HoldUnits}
use Rattle.fj_run_end.proofs.Due.{all_due}
use Rattle.fj_run_script.specs.Failing.{StandsAt, StandsStill}
use Rattle.fj_run_script.specs.declared.machine.Machine.{Machine}
use Rattle.fj_job.specs.Cut.{Untold, Told, ComesTo}
use Rattle.fj_job.specs.Cutting.{IsServed, HoldsFiles, StopsAside, IsCause}
use Rattle.fj_job.proofs.Leaving.{not_at, due_wider, core_same, next_named, told_files, one_place, within, one_index}
use Rattle.fj_job.proofs.Giving.{not_left, no_slot, about_or}

module _ {E J A F : Type 0} {ghosts : Ghosts F} (meaning : Meaning E J A Bay Job Answer) (rack : Rack E J A) (held : Holdings) (before now : ℕ) (deck : Deck) (files : Files) (m : Machine F ghosts) where
  abbrev LeavesSo : List Desk → Stated × State → Type 0
  LeavesSo desks at = (name : List ℕ) → IsServed rack m.state.core.units name → file_about (names_in at.1.units) at.0.0.what ≢ Some name
      → IsAsDue before now (all_left desks m.state.core.units (files_of held) name) ((all_closed at.1).files name)

  -- so is a file that no unit has
  abbrev FreesSo : Stated × State → Type 0
  FreesSo at = (name : List ℕ) → has_name m.state.core.units name ≡ false → file_renewed (names_in at.1.units) at.0.0.what ≢ Some name
      → IsAsDue before now (files_of held name) ((all_closed at.1).files name)

  -- and a connection that was kept is of the file that the statement opens
  abbrev pub KeepsSo : Stated × State → Type 0
  KeepsSo at = IfSome m.kept (λ c. file_opened (names_in at.1.units) at.0.0.what ≡ Some c.name)

  -- The execution is cut just before a statement, the one in front of these, in this state; and what the slots' desks leave is as closing all
  -- units in that state leaves it. The slots hold the connections of the machine's units.
  pub record HoldsAt (rest : List Stated) : Type 0 where
    pub index : ℕ
    pub statement : Stated
    pub state : State
    pub cut_is : cut deck.variables index (stated deck.statements) (start deck.variables files) ≡ Some (statement, state)
    pub place : length rest ≡ length (drop index (stated deck.statements))
    pub desks : List Desk
    pub slots : HoldsDesks meaning rack desks
    pub units : AreHoused desks m.state.core.units
    pub others : LeavesSo desks (statement, state)
    pub freed : FreesSo (statement, state)
    pub given : HoldsGiven deck.variables (stated deck.statements) files meaning rack index
    pub kept : KeepsSo (statement, state)
    pub holding : HoldUnits meaning rack m.state.core.units

  abbrev CausesSo : ℕ → Stated × State → Type 0
  CausesSo index at = IsCause rack m.state.core.units deck files index at.0 at.1 before now

  -- the same place, and why no more was done
  pub record CauseAt (rest : List Stated) : Type 0 where
    pub index : ℕ
    pub statement : Stated
    pub state : State
    pub cut_is : cut deck.variables index (stated deck.statements) (start deck.variables files) ≡ Some (statement, state)
    pub place : length rest ≡ length (drop index (stated deck.statements))
    pub cause : CausesSo index (statement, state)

  pub cause_there : (rest : List Stated) (h : CauseAt rest) (comes : ComesTo deck files) → length rest ≡ length (drop comes.index (stated deck.statements)) → CausesSo comes.index (comes.statement, comes.before)
  cause_there rest h comes e =
      subst (λ n. CausesSo n (comes.statement, comes.before))
      (one_index (stated deck.statements) h.index comes.index (within deck.variables h.index (stated deck.statements) (start deck.variables files) (h.statement, h.state) h.cut_is)
      (within deck.variables comes.index (stated deck.statements) (start deck.variables files) (comes.statement, comes.before) comes.there) (sym h.place ∙ e))
      (subst (CausesSo h.index) (one_place deck.variables (stated deck.statements) (start deck.variables files) h.index comes.index (h.statement, h.state) (comes.statement, comes.before) h.cut_is comes.there (sym h.place ∙ e)) h.cause)

  -- where a stop of that slot was told, and the statement waits for such a job
  pub stop_cause : (run : Run) (index : ℕ) (statement : Stated) (slot : ℕ) (l : Ledger E J A) → slice_get rack.slots slot ≡ Some l → is_some l.halt ≡ true → run.core ≡ core_of (files_of held) m.state.core
      → length run.rest ≡ length (drop index (stated deck.statements)) → StopsAt deck.variables (stated deck.statements) files index statement slot run
      → (job : ℕ) × (l.done ≤ job) × WasAwaited deck.variables (stated deck.statements) files (index + 1) slot job → CauseAt run.rest
  stop_cause run index statement slot l here halted core place at waits = record {
    index = index;
    statement = statement;
    state = at.state;
    cut_is = at.cut_is;
    place = place;
    cause = elim at.place [
      | inl (u, has) ↦ inl (record {
        unit = u;
        slot = slot;
        filed = ap (λ us. has_file us slot u.name) (sym units) ∙ has;
        ledger = l;
        here = here;
        halted = halted;
        job = waits.0;
        behind = waits.1;
        awaited = waits.2;
      })
      | inr free ↦ inr (inl (subst (λ us. StopsAside rack us) units (record { slot = slot; ledger = l; here = here; free = free; halted = halted })))
    ];
  }
    where
      units : run.core.units ≡ m.state.core.units
      units = ap (λ (c : Core). c.units) core

  -- there nothing of the statement was done
  pub holds_there : (rest : List Stated) (h : HoldsAt rest) (comes : ComesTo deck files) → length rest ≡ length (drop comes.index (stated deck.statements)) → HoldsFiles meaning rack held before now deck files comes Untold m
  holds_there rest h comes e = record {
    desks = h.desks;
    slots = h.slots;
    units = h.units;
    others = subst (LeavesSo h.desks) place h.others;
    freed = subst FreesSo place h.freed;
    given = subst (λ n. HoldsGiven deck.variables (stated deck.statements) files meaning rack n)
        (one_index (stated deck.statements) h.index comes.index (within deck.variables h.index (stated deck.statements) (start deck.variables files) (h.statement, h.state) h.cut_is)
        (within deck.variables comes.index (stated deck.statements) (start deck.variables files) (comes.statement, comes.before) comes.there) (sym h.place ∙ e)) h.given;
    kept = subst KeepsSo place h.kept;
  }
    where
      place : ◌≡◌ {A = Stated × State} (h.statement, h.state) (comes.statement, comes.before)
      place = one_place deck.variables (stated deck.statements) (start deck.variables files) h.index comes.index (h.statement, h.state) (comes.statement, comes.before) h.cut_is comes.there (sym h.place ∙ e)

  -- or the transfers that it waits for were told
  pub holds_told : (comes : ComesTo deck files) → HoldsFiles meaning rack held before now deck files comes Untold m → HoldsFiles meaning rack held before now deck files comes Told m
  holds_told comes h = record {
    desks = h.desks;
    slots = h.slots;
    units = h.units;
    others = λ name served about.
        subst (λ (due : Files). IsAsDue before now (all_left h.desks m.state.core.units (files_of held) name) (due name)) (sym (told_files deck.variables comes.statement comes.before)) (h.others name served about);
    freed = λ name none new.
        subst (λ (due : Files). IsAsDue before now (files_of held name) (due name)) (sym (told_files deck.variables comes.statement comes.before)) (h.freed name none new);
    given = h.given;
    kept = h.kept;
  }

  -- a file that no unit has is as the others: one that the statement is about has its unit, unless it is opened or removed
  frees_by : (desks : List Desk) (at : Stated × State) → AreHoused desks m.state.core.units → LeavesSo desks at
      → ((name : List ℕ) → file_about (names_in at.1.units) at.0.0.what ≡ Some name → file_renewed (names_in at.1.units) at.0.0.what ≢ Some name → has_name m.state.core.units name ≡ true) → FreesSo at
  frees_by desks at housed others keeps name none new = elim (about_or (file_about (names_in at.1.units) at.0.0.what) name) [
    | inl about ↦ absurd (let z : true ≡ false = sym (keeps name about new) ∙ none in cc)
    | inr about ↦ subst (λ (o : Option (List ℕ)). IsAsDue before now o ((all_closed at.1).files name)) (not_left desks m.state.core.units (files_of held) name housed none)
        (others name (no_slot rack m.state.core.units name none) about)
  ]

  -- a file that the statement is about, and neither opens nor removes, has its unit
  abbrev KeepsUnits : Stated × State → Type 0
  KeepsUnits at = (name : List ℕ) → file_about (names_in at.1.units) at.0.0.what ≡ Some name → file_renewed (names_in at.1.units) at.0.0.what ≢ Some name → has_name m.state.core.units name ≡ true

  -- so a file that no unit has is as the others
  holds_by : (rest : List Stated) (index : ℕ) (statement : Stated) (state : State) (desks : List Desk) → cut deck.variables index (stated deck.statements) (start deck.variables files) ≡ Some (statement, state)
      → length rest ≡ length (drop index (stated deck.statements)) → HoldsDesks meaning rack desks → AreHoused desks m.state.core.units → LeavesSo desks (statement, state) → KeepsUnits (statement, state)
      → HoldsGiven deck.variables (stated deck.statements) files meaning rack index → KeepsSo (statement, state) → HoldUnits meaning rack m.state.core.units → HoldsAt rest
  holds_by rest index statement state desks cut_is place slots housed others keeps given kept holding = record {
    index = index;
    statement = statement;
    state = state;
    cut_is = cut_is;
    place = place;
    desks = desks;
    slots = slots;
    units = housed;
    others = others;
    freed = frees_by desks (statement, state) housed others keeps;
    given = given;
    kept = kept;
    holding = holding;
  }

  -- where nothing is kept
  pub none_kept : (at : Stated × State) → m.kept ≡ None → KeepsSo at
  none_kept at none = subst (λ (o : Option (Linked F)). IfSome o (λ c. file_opened (names_in at.1.units) at.0.0.what ≡ Some c.name)) (sym none) tt

  -- where a stop was told
  pub stop_holds : {S : Type 0} (s : Shows S) (run : Run) → run.core ≡ core_of (files_of held) m.state.core → (it : IsCutRun meaning s deck.variables (stated deck.statements) files run rack)
      → LeavesOthers deck.variables (stated deck.statements) files it.stop.index it.stop.statement it.slot run it.desks → HoldsGiven deck.variables (stated deck.statements) files meaning rack it.stop.index
      → m.kept ≡ None → HoldUnits meaning rack run.core.units → HoldsAt run.rest
  stop_holds s run core it lo given none holds =
      holds_by run.rest it.stop.index it.stop.statement lo.state it.desks lo.cut_is it.stop.rest it.held (subst (λ (us : List Connected). AreHoused it.desks us) units lo.units) others
      (λ name about new. sym (ap (λ (us : List Connected). has_name us name) units) ∙ lo.keeps name about new) given (none_kept (it.stop.statement, lo.state) none)
      (subst (λ (us : List Connected). HoldUnits meaning rack us) units holds)
    where
      units : run.core.units ≡ m.state.core.units
      units = ap (λ (c : Core). c.units) core

      others : LeavesSo it.desks (it.stop.statement, lo.state)
      others name served about =
          let free = not_at rack m.state.core.units name it.slot served (λ l e. (it.halted l e).0) in
          inl (sym (ap (λ (c : Core). all_left it.desks c.units c.files name) core)
          ∙ lo.others name (ap (λ (c : Core). has_file c.units it.slot name) core ∙ free) (λ opened. about (opened_about (names_in lo.state.units) it.stop.statement.0.what name opened)))

  -- where a call on the outside failed
  pub turn_holds : (early late : ℕ) (run : Run) (desks : List Desk) → before ≤ early → late ≤ now
      → StandsAt held early late run m → (t : TurnLeavesOthers deck.variables (stated deck.statements) files run desks) → HoldsDesks meaning rack desks
      → HoldsGiven deck.variables (stated deck.statements) files meaning rack t.index → m.kept ≡ None → TurnHolds meaning rack run → HoldsAt run.rest
  turn_holds early late run desks l k it t slots given none holds =
      holds_by run.rest t.index t.statement t.state desks t.cut_is t.rest slots (subst (λ (us : List Connected). AreHoused desks us) (sym same) (t.units it.known it.does.does it.does.is)) others
      (λ name about new. ap (λ (us : List Connected). has_name us name) same ∙ t.keeps it.known it.does.does it.does.is name about new) given (none_kept (t.statement, t.state) none)
      (subst (λ (us : List Connected). HoldUnits meaning rack us) (sym same) (holds.now it.does.does it.does.is))
    where
      same : m.state.core.units ≡ (core_now it.does.does).units
      same = it.does.stands.units ∙ ap (λ (c : Core). c.units) (core_same it.does.does)

      others : LeavesSo desks (t.statement, t.state)
      others name served about =
          let due : IsAsDue early late (files_of held name) ((core_at it.does.does).files name) =
          it.does.stands.files name
          (λ e. about (next_named it.does.does (file_about (names_in t.state.units) t.statement.0.what) (λ slot c core next d. t.connects it.known slot c core next (it.does.is ∙ ap Some d)) name e)) in
          let left : all_left desks m.state.core.units (core_at it.does.does).files name ≡ (all_closed t.state).files name =
          ap (λ (us : List Connected). all_left desks us (core_at it.does.does).files name) same ∙ ap (λ (c : Core). all_left desks (core_now it.does.does).units c.files name) (core_same it.does.does)
          ∙ t.others it.known it.does.does it.does.is name about in
          due_wider before early late now (all_left desks m.state.core.units (files_of held) name) ((all_closed t.state).files name) l k
          (subst (λ (o : Option (List ℕ)). IsAsDue early late (all_left desks m.state.core.units (files_of held) name) o) left
          (all_due early late desks m.state.core.units (files_of held) (core_at it.does.does).files name due))

  -- where nothing of the statement was begun
  pub still_holds : (run : Run) (desks : List Desk) → StandsStill (IsUnbegun run.stage) run m.state.core held → (t : TurnLeavesOthers deck.variables (stated deck.statements) files run desks) → HoldsDesks meaning rack desks
      → HoldsGiven deck.variables (stated deck.statements) files meaning rack t.index → m.kept ≡ None → TurnHolds meaning rack run → HoldsAt run.rest
  still_holds run desks it t slots given none holds = record {
    index = t.index;
    statement = t.statement;
    state = t.state;
    cut_is = t.cut_is;
    place = t.rest;
    desks = desks;
    slots = slots;
    units = housed;
    others = λ name served about. inl (due name);
    freed = λ name none new. inl (sym (not_left desks m.state.core.units (files_of held) name housed none) ∙ due name);
    given = given;
    kept = none_kept (t.statement, t.state) none;
    holding = subst (λ (us : List Connected). HoldUnits meaning rack us) (sym it.units) (holds.unbegun it.may);
  }
    where
      housed : AreHoused desks m.state.core.units
      housed = subst (λ (us : List Connected). AreHoused desks us) (sym it.units) (t.unbegun it.may).0

      due : (name : List ℕ) → all_left desks m.state.core.units (files_of held) name ≡ (all_closed t.state).files name
      due name = ap (λ (us : List Connected). all_left desks us (files_of held) name) it.units ∙ ap (λ (f : Files). all_left desks run.core.units f name) it.files ∙ (t.unbegun it.may).1 name

  -- where a job was to be submitted
  pub submit_holds : (rest : List Stated) (run : Run) (desks : List Desk) → rest ≡ run.rest → m.state.core.units ≡ run.core.units → files_of held ≡ run.core.files
      → (t : SubmitLeavesOthers deck.variables (stated deck.statements) files run desks) → HoldsDesks meaning rack desks → HoldsGiven deck.variables (stated deck.statements) files meaning rack t.index
      → KeepsSo (t.statement, t.state) → HoldUnits meaning rack run.core.units → HoldsAt rest
  submit_holds rest run desks same units home t slots given kept holds =
      holds_by rest t.index t.statement t.state desks t.cut_is (ap length same ∙ t.rest) slots (subst (λ (us : List Connected). AreHoused desks us) (sym units) t.units) others
      (λ name about new. ap (λ (us : List Connected). has_name us name) units ∙ t.keeps name about new) given kept (subst (λ (us : List Connected). HoldUnits meaning rack us) (sym units) holds)
    where
      others : LeavesSo desks (t.statement, t.state)
      others name served about =
          inl (ap (λ (us : List Connected). all_left desks us (files_of held) name) units ∙ ap (λ (f : Files). all_left desks run.core.units f name) home ∙ t.others name about)
