-- Where the disk fails in a statement's own call.
use Rattle.std.proofs.Common.{◌≡◌, ◌⊎◌, ℕ, Bool, true, List, [], ◌∷◌, Option, Some, None, Result, Ok, Err, inl, inr, refl, sym, ap, subst, ◌∙◌}
use Rattle.std.specs.Prelude.{◌≢◌, ◌↔◌, ℤ, OnErr, if◌then◌else◌, unwrap_or}
use Rattle.std.specs.List.{list_any}
use Rattle.std.specs.FinMap as map
use Rattle.fj_value.specs.declared.condition.Condition.{Condition}
use Rattle.fj_value.specs.declared.condition.Condition.TheVariants.{Fine}
use Rattle.fj_modes.specs.Modes.{settled}
use Rattle.fj_modes.specs.declared.asked.Wanted.{Wanted}
use Rattle.fj_modes.specs.declared.motion.Motion.{Motion}
use Rattle.fj_statement.specs.declared.unit.UnitRef.{UnitRef}
use Rattle.fj_statement.specs.declared.unit.UnitRef.TheVariants as unit
use Rattle.fj_control.specs.Steps.{Given}
use Rattle.fj_moved.specs.declared.moved.Moved.{Moved}
use Rattle.fj_statement.specs.declared.deck.Variable.{Variable}
use Rattle.fj_statement.specs.declared.statement.Transfer.{Transfer}
use Rattle.fj_modes.specs.declared.modes.Modes.{Modes}
use Rattle.fj_modes.specs.declared.specifiers.FileStatus.TheVariants.{Unknown}
use Rattle.fj_modes.specs.declared.specifiers.OpenSpec.{OpenSpec}
use Rattle.fj_outside.specs.Faults.{Rose}
use Rattle.fj_outside.specs.Refusals.{CountsFailure}
use Rattle.fj_outside.specs.declared.errors.Stop.{Stop}
use Rattle.fj_outside.specs.declared.errors.Stop.TheVariants.{Failed}
use Rattle.fj_outside.specs.Holdings as disk
use Rattle.fj_outside.specs.Holdings.{Holdings}
use Rattle.fj_outside.proofs.HoldingLaws.{steps}
use Rattle.fj_connect.specs.Connection.{Connection}
use Rattle.fj_connect.specs.Faults.{LeavesAtHome, has_failed}
use Rattle.fj_connect.specs.declared.connection.opening.OpenFault.{OpenFault}
use Rattle.fj_connect.specs.declared.connection.opening.OpenFault.TheVariants as fault
use Rattle.fj_connect.specs.Linked.{Linked}
use Rattle.fj_connect.specs.Opening.{bytes_opened, connected_to, opened_file}
use Rattle.fj_statement.specs.declared.statement.Statement.{Statement}
use Rattle.fj_statement.specs.declared.statement.Statement.TheVariants as statement
use Rattle.fj_bay.specs.Halt.{halts}
use Rattle.fj_bay.specs.Jobs.{Answer, Looked, detach}
use Rattle.fj_bay.specs.Plain.{told_of}
use Rattle.fj_meaning.specs.Needs.{number_of, number_given, unit_about}
use Rattle.fj_meaning.specs.Statement.{Stated, file_asked}
use Rattle.fj_meaning.specs.Telling.{is_asynchronous}
use Rattle.fj_meaning.specs.Transfers.{moved_in}
use Rattle.fj_meaning.specs.State.{Files}
use Rattle.fj_meaning.proofs.Units.{bytes_differ}
use Rattle.fj_meaning_jobs.specs.Acting.{all_closed, attaches, connects, opens_unit, moves, inquires, asks_connection, transferred, transfer_at, if_numbered, unit_at, own, doing}
use Rattle.fj_meaning_jobs.proofs.Walking.{either, unit_by, closes_by, anyway_by, connects_by as new_by, open_by, doing_by}
use Rattle.fj_meaning_jobs.specs.Core.{Core as PlainCore, Connected, connected_at, unit_named, without_connected}
use Rattle.fj_meaning_jobs.specs.Desks.{Outcome, condition_in, look_in}
use Rattle.fj_meaning_jobs.specs.Doing.{Doing, finishes}
use Rattle.fj_run_items.specs.declared.lost.Lost.{Lost}
use Rattle.fj_run_items.specs.declared.lost.Lost.TheVariants.{Disk}
use Rattle.fj_run_units.specs.Files.{files_of}
use Rattle.fj_run_units.specs.Returning.{IsAsDue, returned}
use Rattle.fj_run_units.proofs.Returning.{given_back, given_files}
use Rattle.fj_run_statements.specs.Doing.{carries, closed, connects_by, connects_in, goes_on, looks, looks_at, next_of, pends}
use Rattle.fj_run_statements.specs.Failing.{FailsWhere, StandsWhere, AreStill, connected_next}
use Rattle.fj_run_statements.specs.State.{core_at}
use Rattle.fj_run_statements.specs.Steps.{is_due}
use Rattle.fj_run_statements.specs.declared.doing.Given.{Given as Next}
use Rattle.fj_run_statements.specs.declared.doing.Given.TheVariants as given
use Rattle.fj_run_statements.specs.declared.doing.After.{After}
use Rattle.fj_run_statements.specs.declared.doing.After.TheVariants as after
use Rattle.fj_run_statements.specs.declared.state.Core.{Core}
use Rattle.fj_run_statements.proofs.StepLemmas.{disconnects_is}

-- ---- the units and files of what is due are these, but for the file that is to be connected

pub record Leaves (core : PlainCore) (due : Doing) : Type 0 where
  pub units : (core_at due).units ≡ core.units
  pub files : (name : List ℕ) → connected_next due ≢ Some name → (core_at due).files name ≡ core.files name

ends_there : (core : PlainCore) (condition : Condition) → Leaves core (finishes core condition)
ends_there core condition = record { units = refl; files = λ name other. refl }

attaches_there : (core : PlainCore) (number slot : ℕ) (r : Result Connection Condition) → Leaves core (attaches core number slot r)
attaches_there core number slot (Err condition) = ends_there core condition
attaches_there core number slot (Ok c) = record {
  units = refl;
  files = λ name other. ap (λ b. if b then None else core.files name) (bytes_differ name c.name (λ same. other (ap Some (sym same))));
}

connects_there : (number : ℕ) (spec : OpenSpec) (modes : Modes) (core : PlainCore) → Leaves core (connects number spec modes core)
connects_there number spec modes core = new_by (Leaves core) core number spec modes (ends_there core) (λ slot c free e. attaches_there core number slot (Ok c))

settled_there : (number : ℕ) (spec : OpenSpec) (core : PlainCore) (r : Result Modes Condition) → Leaves core (connects_by number spec core r)
settled_there number spec core (Err condition) = ends_there core condition
settled_there number spec core (Ok modes) = connects_there number spec modes core

opens_there : (what : Statement) (number : ℕ) (core : PlainCore) → Leaves core (connects_in what number core)
opens_there (statement.OpenUnit unit spec iostat) number core = settled_there number spec core (settled spec)
opens_there (statement.Assign to from) number core = ends_there core Fine
opens_there (statement.CloseUnit unit keep iostat) number core = ends_there core Fine
opens_there (statement.WaitFor unit id iostat) number core = ends_there core Fine
opens_there (statement.Move how unit iostat) number core = ends_there core Fine
opens_there (statement.Inquire subject asked id iostat _) number core = ends_there core Fine
opens_there (statement.Transfer t) number core = ends_there core Fine
opens_there statement.End number core = ends_there core Fine

closes_there : (units : List Connected) (core : PlainCore) (condition : Condition) → Leaves core (all_closed units core condition)
closes_there [] core condition = ends_there core condition
closes_there (u ∷ us) core condition = record { units = refl; files = λ name other. refl }

pub goes_on_there : (what : Statement) (core : PlainCore) (next : After) → Leaves core (goes_on what core next)
goes_on_there what core (after.Finishes condition) = ends_there core condition
goes_on_there what core (after.ClosesAll condition) = closes_there core.units core condition
goes_on_there what core (after.Connects number) = opens_there what number core

-- ---- so are those of what a statement does first

open_there : (core : PlainCore) (ref : UnitRef) (number : Option ℕ) (spec : OpenSpec) → Leaves core (if_numbered core number (λ n. opens_unit core ref n spec (connected_at core.units n)))
open_there core ref number spec =
    open_by (Leaves core) core ref spec number (ends_there core) (λ n u modes is e. record { units = refl; files = λ name other. refl }) (λ n modes is e. connects_there n spec modes core)
    (λ n u modes is e other. record { units = refl; files = λ name other. refl })

moved_there : (core : PlainCore) (how : Motion) (old : Option Connected) → Leaves core (moves core how old)
moved_there core how None = ends_there core _
moved_there core how (Some u) = record { units = refl; files = λ name other. refl }

asked_there : (variables : List Variable) (core : PlainCore) (number : Option ℕ) (file : Option (List ℕ)) (asked : List Wanted) (id : Option ℤ) (old : Option Connected) → Leaves core (inquires variables core number file asked id old)
asked_there variables core number file asked id None = record { units = refl; files = λ name other. refl }
asked_there variables core number file asked id (Some u) =
    either (Leaves core) (list_any (λ (w : Wanted). asks_connection w.what) asked) _ _ (record { units = refl; files = λ name other. refl }) (record { units = refl; files = λ name other. refl })

module _ (control : ℕ → List Given) (variables : List Variable) (line : ℕ) (core : PlainCore) where
  carried_there : (t : Transfer) (moved : Moved) (u : Connected) → Leaves core (transferred control variables line core t moved u)
  carried_there t moved u = either (Leaves core) (is_asynchronous t) _ _ (record { units = refl; files = λ name other. refl }) (record { units = refl; files = λ name other. refl })

  at_there : (t : Transfer) (moved : Moved) (ref : UnitRef) → Leaves core (transfer_at control variables line core t moved ref)
  at_there t moved unit.Star = record { units = refl; files = λ name other. refl }
  at_there t moved (unit.Internal file) = record { units = refl; files = λ name other. refl }
  at_there t moved (unit.Number n) =
      unit_by (Leaves core) control variables line core t moved (connected_at core.units n) (λ condition. record { units = refl; files = λ name other. refl }) (λ u e. carried_there t moved u)
  at_there t moved (unit.Held place n) =
      unit_by (Leaves core) control variables line core t moved (connected_at core.units n) (λ condition. record { units = refl; files = λ name other. refl }) (λ u e. carried_there t moved u)
  at_there t moved (unit.New place n) =
      unit_by (Leaves core) control variables line core t moved (connected_at core.units n) (λ condition. record { units = refl; files = λ name other. refl }) (λ u e. carried_there t moved u)

  own_there : (what : Statement) → Leaves core (own control variables line core what)
  own_there (statement.Assign to from) = record { units = refl; files = λ name other. refl }
  own_there (statement.OpenUnit u spec iostat) = open_there core u (number_of u) spec
  own_there (statement.CloseUnit u keep iostat) = closes_by (Leaves core) core keep (unit_at core (number_of u)) (ends_there core) (λ u e. record { units = refl; files = λ name other. refl })
  own_there (statement.WaitFor u id iostat) = ends_there core Fine
  own_there (statement.Move how u iostat) = moved_there core how (unit_at core (number_of u))
  own_there (statement.Inquire subject asked id iostat _) =
      let number = unit_about (unit_named core.units) subject in asked_there variables core number (file_asked subject) asked (number_given core.vars id) (unit_at core number)
  own_there (statement.Transfer t) = at_there t (moved_in variables core.vars t) t.unit
  own_there statement.End = closes_there core.units core Fine

  pub doing_there : (what : Statement) (condition : Condition) → Leaves core (doing control variables line core what condition)
  doing_there what =
      doing_by (Leaves core) control variables line core what (own_there what) (λ vars condition. record { units = refl; files = λ name other. refl })
      (λ u keep iostat condition is. anyway_by (Leaves core) core keep condition (unit_at core (number_of u)) (ends_there core condition) (λ u e. record { units = refl; files = λ name other. refl }))
      (λ condition is. closes_there core.units core condition)

-- ---- and of what it does once it has the number of its job, or the job came back

pends_there : (variables : List Variable) (core : PlainCore) (what : Statement) (unit slot number : ℕ) → Leaves core (pends variables core what unit slot number)
pends_there variables core (statement.Assign to from) unit slot number = ends_there core Fine
pends_there variables core (statement.OpenUnit u spec iostat) unit slot number = ends_there core Fine
pends_there variables core (statement.CloseUnit u keep iostat) unit slot number = ends_there core Fine
pends_there variables core (statement.WaitFor u id iostat) unit slot number = ends_there core Fine
pends_there variables core (statement.Move how u iostat) unit slot number = ends_there core Fine
pends_there variables core (statement.Inquire subject asked id iostat _) unit slot number = ends_there core Fine
pends_there variables core (statement.Transfer t) unit slot number = record { units = refl; files = λ name other. refl }
pends_there variables core statement.End unit slot number = ends_there core Fine

pub next_there : (variables : List Variable) (st : Stated) (core : PlainCore) (next : Next) (number : ℕ) → Leaves core (next_of variables st core next number)
next_there variables st core (given.Finishes condition) number = ends_there core condition
next_there variables st core (given.Pends unit slot) number = pends_there variables core st.0.what unit slot number

pub carries_there : (variables : List Variable) (core : PlainCore) (what : Statement) (slot : ℕ) (o : Outcome) → Leaves core (carries variables core what slot o)
carries_there variables core (statement.Assign to from) slot o = ends_there core Fine
carries_there variables core (statement.OpenUnit u spec iostat) slot o = ends_there core Fine
carries_there variables core (statement.CloseUnit u keep iostat) slot o = ends_there core Fine
carries_there variables core (statement.WaitFor u id iostat) slot o = ends_there core Fine
carries_there variables core (statement.Move how u iostat) slot o = ends_there core Fine
carries_there variables core (statement.Inquire subject asked id iostat _) slot o = ends_there core Fine
carries_there variables core (statement.Transfer t) slot o =
    either (Leaves core) (halts (condition_in o.1)) _ _ (record { units = refl; files = λ name other. refl }) (record { units = refl; files = λ name other. refl })
carries_there variables core statement.End slot o = ends_there core Fine

seen_there : (variables : List Variable) (core : PlainCore) (number : Option ℕ) (file : Option (List ℕ)) (asked : List Wanted) (id : Option ℤ) (u : Option Connected) (look : Option Looked) → Leaves core (looks_at variables core number file asked id u look)
seen_there variables core number file asked id None look = ends_there core Fine
seen_there variables core number file asked id (Some u) look = record { units = refl; files = λ name other. refl }

pub looks_there : (variables : List Variable) (core : PlainCore) (what : Statement) (o : Outcome) → Leaves core (looks variables core what o)
looks_there variables core (statement.Assign to from) o = ends_there core Fine
looks_there variables core (statement.OpenUnit u spec iostat) o = ends_there core Fine
looks_there variables core (statement.CloseUnit u keep iostat) o = ends_there core Fine
looks_there variables core (statement.WaitFor u id iostat) o = ends_there core Fine
looks_there variables core (statement.Move how u iostat) o = ends_there core Fine
looks_there variables core (statement.Inquire subject asked id iostat _) o =
    let number = unit_about (unit_named core.units) subject in seen_there variables core number (file_asked subject) asked (number_given core.vars id) (unit_at core number) (look_in o.0)
looks_there variables core (statement.Transfer t) o = ends_there core Fine
looks_there variables core statement.End o = ends_there core Fine

-- ---- a call that is given up

-- whatever it comes to
pub on_err : {X : Type 0} → (r : Result X Lost) (P : Type 0) → P → OnErr r P
on_err (Ok x) P p = tt
on_err (Err lost) P p = p

-- units and files stand where they were due, if they are as they were
pub stands_still : {X : Type 0} → (r : Result X Lost) (core : PlainCore) (due : Doing) (new : Core) (old held : Holdings) (before now : ℕ) → Leaves core due → core.files ≡ files_of old → new.units ≡ core.units
    → OnErr r (AreStill due old held) → OnErr r (StandsWhere due new held before now)
stands_still (Ok x) core due new old held before now leaves home units still = tt
stands_still (Err lost) core due new old held before now leaves home units still = record {
  units = units ∙ sym leaves.units;
  files = λ name other. inl (still name other ∙ sym (ap (λ (f : Files). f name) home) ∙ sym (leaves.files name other));
}

-- and so they do, where the call changes neither
pub stands_here : {X : Type 0} → (r : Result X Lost) (core : PlainCore) (due : Doing) (new : Core) (held : Holdings) (before now : ℕ) → Leaves core due → core.files ≡ files_of held → new.units ≡ core.units → OnErr r (StandsWhere due new held before now)
stands_here r core due new held before now leaves home units = stands_still r core due new held held before now leaves home units (on_err r (AreStill due held held) (λ name other. refl))

-- the same by an equal meaning
pub stands_as : {X : Type 0} → (r : Result X Lost) (old due : Doing) (new : Core) (held : Holdings) (before now : ℕ) → old ≡ due → OnErr r (StandsWhere old new held before now) → OnErr r (StandsWhere due new held before now)
stands_as r old due new held before now e h = subst (λ (d : Doing). OnErr r (StandsWhere d new held before now)) e h

-- and where the number was the same before
pub stands_since : {X : Type 0} → (r : Result X Lost) (due : Doing) (new : Core) (held : Holdings) (start before now : ℕ) → before ≡ start → OnErr r (StandsWhere due new held before now) → OnErr r (StandsWhere due new held start now)
stands_since r due new held start before now e h = subst (λ n. OnErr r (StandsWhere due new held n now)) e h

-- ---- the disk failed there

fails : (core : PlainCore) (due : Doing) (new : Core) (held : Holdings) (before now : ℕ) → Leaves core due → Rose before now → new.units ≡ core.units
    → ((name : List ℕ) → connected_next due ≢ Some name → IsAsDue before now (files_of held name) (core.files name)) → FailsWhere due new held before now
fails core due new held before now leaves rose units files = record {
  rose = rose;
  stands = record {
    units = units ∙ sym leaves.units;
    files = λ name other. subst (IsAsDue before now (files_of held name)) (sym (leaves.files name other)) (files name other);
  };
}

-- the same by an equal meaning
pub fails_as : (old due : Doing) (new : Core) (held : Holdings) (before now : ℕ) → old ≡ due → FailsWhere old new held before now → FailsWhere due new held before now
fails_as old due new held before now e h = subst (λ (d : Doing). FailsWhere d new held before now) e h

-- and where the number was the same before
pub fails_since : (due : Doing) (new : Core) (held : Holdings) (start before now : ℕ) → before ≡ start → FailsWhere due new held before now → FailsWhere due new held start now
fails_since due new held start before now e h = subst (λ n. FailsWhere due new held n now) e h

-- ---- OPEN

without_other : (h : Holdings) (n q : List ℕ) → q ≢ n → map.get (map.remove h.files n) q ≡ map.get h.files q
unfolding disk.without
without_other h n q other = ((steps h n [] true).3 q other).2.0

lost_is : {T : Type 0} (lost other : Lost) → (let r : Result T Lost = Err lost in r) ≡ Err other → lost ≡ other
lost_is lost other e = cc

-- the call of the disk failed
pub open_rose : {T X : Type 0} (opened : Result T OpenFault) (f : OpenFault) (stop : Stop) (lost : Lost) (before now : ℕ) → opened ≡ Err f → f ≡ fault.Stop stop → (lost ≡ Disk ↔ stop ≡ Failed)
    → (let r : Result X Lost = Err lost in r) ≡ Err Disk → CountsFailure (has_failed opened) before now → Rose before now
open_rose opened f stop lost before now is stops same e own =
    let failed : opened ≡ Err (fault.Stop Failed) = is ∙ ap Err (stops ∙ ap fault.Stop (same.0 (lost_is lost Disk e))) in
    (subst (λ b. CountsFailure b before now) (ap has_failed failed) own).1

pub still_open : (core : PlainCore) (number slot : ℕ) (name : List ℕ) (spec : OpenSpec) (modes : Modes) (h left : Holdings) → LeavesAtHome (unwrap_or spec.status Unknown) h name left
    → AreStill (attaches core number slot (opened_file (files_of h name) name spec modes)) h left
still_open core number slot name spec modes h left leaves = by leaves.files
  where
    due : Doing
    due = attaches core number slot (opened_file (files_of h name) name spec modes)

    opens : bytes_opened (unwrap_or spec.status Unknown) (map.get h.files name) ≡ Ok [] → connected_next due ≡ Some name
    opens e = ap (λ (r : Result (List ℕ) Condition). connected_next (attaches core number slot (connected_to modes name r))) e

    by : (left.files ≡ h.files) ⊎ ((bytes_opened (unwrap_or spec.status Unknown) (map.get h.files name) ≡ Ok []) × (left.files ≡ map.remove h.files name))
        → (q : List ℕ) → connected_next due ≢ Some q → files_of left q ≡ files_of h q
    by (inl same) q other = ap (λ (f : disk.Files). map.get f q) same
    by (inr (ok, gone)) q other = ap (λ (f : disk.Files). map.get f q) gone ∙ without_other h name q (λ same. other (opens ok ∙ ap Some (sym same)))

pub fails_open : (core : PlainCore) (number slot : ℕ) (name : List ℕ) (spec : OpenSpec) (modes : Modes) (new : Core) (h left : Holdings) (before now : ℕ)
    → core.files ≡ files_of h → new.units ≡ core.units → Rose before now → LeavesAtHome (unwrap_or spec.status Unknown) h name left
    → FailsWhere (attaches core number slot (opened_file (files_of h name) name spec modes)) new left before now
fails_open core number slot name spec modes new h left before now home units rose leaves =
    fails core (attaches core number slot (opened_file (files_of h name) name spec modes)) new left before now (attaches_there core number slot (opened_file (files_of h name) name spec modes)) rose units
    (λ q other. inl (still_open core number slot name spec modes h left leaves q other ∙ sym (ap (λ (f : Files). f q) home)))

-- the same by an equal meaning
pub still_as : {X : Type 0} → (r : Result X Lost) (due other : Doing) (old new : Holdings) → due ≡ other → OnErr r (AreStill due old new) → OnErr r (AreStill other old new)
still_as r due other old new e h = subst (λ (d : Doing). OnErr r (AreStill d old new)) e h

-- ---- the file of a connection went back

pub fails_closing : {F : Type 0} (told : F → Bool) (bytes : F → List ℕ) (core : PlainCore) (h left : Holdings) (number : ℕ) (conn : Linked F) (c : Connection) (keep : Bool) (answer : Answer)
    (what : Statement) (next : After) (new : Core) (before now : ℕ)
    → is_due (connected_at core.units number) conn.name ≡ true → told_of told bytes conn ≡ Some c → core.files ≡ files_of h → new.units ≡ without_connected number core.units → Rose before now
    → ((name : List ℕ) → IsAsDue before now (files_of left name) (returned conn.name (bytes conn.file) keep (files_of h) name))
    → FailsWhere (closed core (connected_at core.units number) keep (λ (k : PlainCore). goes_on what k next) (detach (Some c), answer)) new left before now
fails_closing told bytes core h left number conn c keep answer what next new before now due is_told home units rose back =
    let home_again : Holdings = given_back keep h conn.name (bytes conn.file) true in
    let there : PlainCore = record core { units = without_connected number core.units; files = files_of home_again } in
    fails_as (goes_on what there next) _ new left before now
    (disconnects_is told bytes core h home_again number conn c true keep answer (λ (k : PlainCore). goes_on what k next) (connected_at core.units number) refl due is_told home refl)
    (fails there (goes_on what there next) new left before now (goes_on_there what there next) rose units
    (λ name other. subst (IsAsDue before now (files_of left name)) (ap (λ (f : Files). f name) (sym (given_files keep h conn.name (bytes conn.file) true))) (back name)))
