-- What OPEN does, as jobs and how the statement goes on.
use Rattle.std.proofs.Common.{Bor, option_copied, ◌≡◌, ℕ, Bool, true, false, List, [], ◌∷◌, ◌++◌, Option, Some, None, Result, Ok, Err, refl, sym, ap, subst, ◌∙◌, ◌⊎◌, inl, inr}
use Rattle.std.specs.Prelude.{option_map, is_some, if◌then◌else◌, IfOk}
use Rattle.std.specs.FinSet as set
use Rattle.fj_value.specs.declared.condition.Condition.{Condition}
use Rattle.fj_value.specs.declared.condition.Condition.TheVariants.{Error}
use Rattle.fj_modes.specs.Modes.{settled}
use Rattle.fj_modes.specs.Modes as mode
use Rattle.fj_modes.specs.declared.modes.Modes.{Modes}
use Rattle.fj_modes.specs.declared.specifiers.OpenSpec.{OpenSpec}
use Rattle.fj_outside.specs.Holdings as holdings
use Rattle.fj_outside.specs.Holdings.{Holdings, out_of}
use Rattle.fj_connect.specs.Connection.{Connection}
use Rattle.fj_connect.specs.Faults.{IfRefused, IfStopped}
use Rattle.fj_connect.specs.Linked.{Linked, connection_of}
use Rattle.fj_connect.specs.Opening.{with_left, opened_file}
use Rattle.fj_connect.specs.declared.connection.opening.OpenFault.{OpenFault}
use Rattle.fj_connect.specs.declared.connection.opening.OpenFault.TheVariants as fault
use Rattle.fj_outside.specs.declared.errors.Stop.{Stop}
use Rattle.fj_statement.specs.declared.deck.Variable.{Variable}
use Rattle.fj_bay.specs.Jobs.{attach, change}
use Rattle.fj_bay.specs.declared.job.Job.TheVariants as job
use Rattle.fj_statement.specs.declared.unit.UnitRef.{UnitRef}
use Rattle.fj_statement.specs.Units.{is_outside}
use Rattle.fj_meaning.specs.Needs.{number_of}
use Rattle.fj_meaning.specs.Connecting.{file_due, keeps_name}
use Rattle.fj_meaning.specs.State.{Files, without_file}
use Rattle.fj_meaning.specs.Statement.{Stated}
use Rattle.fj_meaning_jobs.specs.Core.{Core, Connected, connected_at, inserted}
use Rattle.fj_meaning_jobs.specs.Desks.{condition_in, most_slots}
use Rattle.fj_meaning_jobs.specs.Doing.{Doing, finishes, awaits}
use Rattle.fj_meaning_jobs.specs.Acting.{attaches, changes, closes_first, connects, connects_at, detaches, free_from, if_numbered, is_taken, keeps, opens, opens_unit, opens_with}
use Rattle.fj_run_units.specs.Names.{AreInUse, left_of, stands}
use Rattle.fj_run_units.specs.Units.{with_modes}
use Rattle.fj_run_units.proofs.Files.{names-out_of, names-vain}
use Rattle.fj_run_statements.specs.Doing.{IsDoing, AsksToOpen}
use Rattle.fj_run_statements.specs.declared.doing.After.TheVariants as after
use Rattle.fj_run_statements.specs.declared.doing.Then.TheVariants as then
use Rattle.fj_run_statements.specs.declared.doing.Doing.TheVariants as doing
use Rattle.fj_run_statements.specs.declared.doing.Doing.{Doing as Given}
use Rattle.fj_run_statements.proofs.ClosingLemmas.{found_number, found_again, closes_first_is}

abbrev first_of : {A B C : Type 0} → Result (A × B) C → Result A C
first_of (Ok p) = Ok p.0
first_of (Err e) = Err e

first_left : (files : holdings.Files) (r : Result Connection Condition) → first_of (with_left files r) ≡ r
first_left files (Ok c) = refl
first_left files (Err e) = refl

pub opened_is : (files left : holdings.Files) (r : Result Connection Condition) (c : Connection) → with_left files r ≡ Ok (c, left) → r ≡ Ok c
opened_is files left r c e = sym (first_left files r) ∙ ap first_of e

-- ---- names

-- of a file that came out
pub names_taken : (names more : List (List ℕ)) (h new : Holdings) (n : List ℕ) → more ≡ names ++ n ∷ [] → new ≡ out_of h n → AreInUse names h.in_use → AreInUse more new.in_use
names_taken names more h new n is_more is_new are q =
    ap (λ (s : Holdings). set.contains s.in_use q) is_new ∙ names-out_of names h n are q ∙ ap (λ l. stands l q) (sym is_more)

-- of a file that did not
pub names_back : (names more back : List (List ℕ)) (h new : Holdings) (n : List ℕ) (b : Bool) → b ≡ false → b ≡ stands names n → more ≡ names ++ n ∷ [] → back ≡ left_of more n
    → new.in_use ≡ h.in_use → AreInUse names h.in_use → AreInUse back new.in_use
names_back names more back h new n b is_false is_b is_more is_back same are q =
    names-vain names h new n (sym is_b ∙ is_false) same are q ∙ ap (λ l. stands (left_of l n) q) (sym is_more) ∙ ap (λ l. stands l q) (sym is_back)

pub refusal_of : (P : Condition → Type 0) (f : OpenFault) (condition : Condition) → f ≡ fault.Refused condition → IfRefused f P → P condition
refusal_of P f condition e p = subst (λ (x : OpenFault). IfRefused x P) e p

pub stop_of : (P : Type 0) (f : OpenFault) (stop : Stop) → f ≡ fault.Stop stop → IfStopped f P → P
stop_of P f stop e p = subst (λ (x : OpenFault). IfStopped x P) e p

-- ---- one connection

pub attaches_is : {F : Type 0} (told : F → Bool) (bytes : F → List ℕ) (variables : List Variable) (st : Stated) (core : Core) (left : Files) (units : List Connected) (number slot : ℕ) (conn : Linked F) (r : Result Connection Condition)
    → told conn.file ≡ true → units ≡ inserted (record { number = number; slot = slot; name = conn.name; modes = conn.modes }) core.units → r ≡ Ok (connection_of bytes conn) → left ≡ without_file conn.name core.files
    → IsDoing told bytes variables st (record core { files = left }) (doing.Awaits slot (job.Attach (Some conn)) (then.Attaches units)) (attaches core number slot r)
attaches_is told bytes variables st core left units number slot conn r is_told are opened is_left =
    let goes : List Connected → Files → Doing = λ us files. awaits slot (attach (Some (connection_of bytes conn))) (record core { files = files })
    (λ o. finishes (record core { files = files; units = us }) (condition_in o.1)) in
    record {
      task = attach (Some (connection_of bytes conn));
      is = ap (λ b. option_map attach (option_map Some (if b then Some (connection_of bytes conn) else None))) is_told;
      gives =
          ap (attaches core number slot) opened
          ∙ ap (λ us. goes us (without_file conn.name core.files)) (sym are)
          ∙ ap (goes units) (sym is_left);
    }

-- the unit that is to be connected, by its copied name and by the modes of its connection
pub unit_more : (us old : List Connected) (number slot : ℕ) (name copy given : List ℕ) (modes of : Modes) → us ≡ inserted (record { number = number; slot = slot; name = copy; modes = modes }) old
    → copy ≡ name → given ≡ name → of ≡ modes → us ≡ inserted (record { number = number; slot = slot; name = given; modes = of }) old
unit_more us old number slot name copy given modes of are is_copy is_given is_modes =
    are ∙ ap (λ n. inserted (record { number = number; slot = slot; name = n; modes = modes }) old) (is_copy ∙ sym is_given)
    ∙ ap (λ m. inserted (record { number = number; slot = slot; name = given; modes = m }) old) (sym is_modes)

pub changes_is : {F : Type 0} (told : F → Bool) (bytes : F → List ℕ) (variables : List Variable) (st : Stated) (core : Core) (u : Connected) (number : ℕ) (modes : Modes) (r : Result Modes Condition)
    → connected_at core.units number ≡ Some u → r ≡ Ok modes
    → IsDoing told bytes variables st core (doing.Awaits u.slot (job.Change modes.edit) (then.Changes number modes)) (changes core u r)
changes_is told bytes variables st core u number modes r found is_ok = record {
  task = change modes.edit;
  is = refl;
  gives =
      ap (changes core u) is_ok
      ∙ ap (λ (x : Option Connected). awaits u.slot (change modes.edit) core (λ o. finishes (record core { units = with_modes core.units x modes }) (condition_in o.1))) (sym found);
}

-- ---- what OPEN comes to

pub connects_is : (core : Core) (number slot : ℕ) (name : List ℕ) (spec : OpenSpec) (modes : Modes) → free_from core.units 0 most_slots ≡ Some slot → name ≡ file_due spec number
    → attaches core number slot (opened_file (core.files name) name spec modes) ≡ connects number spec modes core
connects_is core number slot name spec modes free is_name =
    ap (λ n. attaches core number slot (opened_file (core.files n) n spec modes)) is_name ∙ ap (connects_at number spec modes core) (sym free)

not_taken : (core : Core) (number : ℕ) (name : List ℕ) (spec : OpenSpec) (modes : Modes) (old : Option Connected) (r : Result Modes Condition)
    → r ≡ Ok modes → name ≡ file_due spec number → is_taken core number name ≡ false
    → opens_with core number spec old r ≡ closes_first core old (connects number spec modes)
not_taken core number name spec modes old r is_ok is_name free =
    ap (opens_with core number spec old) is_ok
    ∙ ap (λ n. if is_taken core number n then finishes core (Error 7) else closes_first core old (connects number spec modes)) (sym is_name)
    ∙ ap (λ b. if b then finishes core (Error 7) else closes_first core old (connects number spec modes)) free

pub opens_new : (core : Core) (number : ℕ) (name : List ℕ) (spec : OpenSpec) (modes : Modes) (old : Option Connected) (r : Result Modes Condition)
    → old ≡ None → r ≡ Ok modes → name ≡ file_due spec number → is_taken core number name ≡ false
    → connects number spec modes core ≡ opens_with core number spec old r
opens_new core number name spec modes old r none is_ok is_name free =
    sym (not_taken core number name spec modes old r is_ok is_name free ∙ ap (λ o. closes_first core o (connects number spec modes)) none)

pub opens_first : (core : Core) (number : ℕ) (name : List ℕ) (spec : OpenSpec) (modes : Modes) (old : Option Connected) (u : Connected) (r : Result Modes Condition)
    → connected_at core.units number ≡ Some u → old ≡ Some u → r ≡ Ok modes → name ≡ file_due spec number → is_taken core number name ≡ false
    → detaches core u (keeps u) (connects u.number spec modes) ≡ opens_with core number spec old r
opens_first core number name spec modes old u r found some is_ok is_name free =
    sym (not_taken core number name spec modes old r is_ok is_name free ∙ ap (λ o. closes_first core o (connects number spec modes)) some
    ∙ ap (λ n. detaches core u (keeps u) (connects n spec modes)) (sym (found_number core.units number u found)))

-- the old file is closed first
pub opens_behind : {F : Type 0} (told : F → Bool) (bytes : F → List ℕ) (variables : List Variable) (st : Stated) (core : Core) (number : ℕ) (name : List ℕ) (spec : OpenSpec) (modes : Modes) (old : Option Connected) (u : Connected) (r : Result Modes Condition) (result : Given F)
    → AsksToOpen st.0.what spec → connected_at core.units number ≡ Some u → old ≡ Some u → r ≡ Ok modes → settled spec ≡ Ok modes → name ≡ file_due spec number → is_taken core number name ≡ false
    → result ≡ doing.Awaits u.slot (job.Detach None) (then.Closes u.number (keeps u) (after.Connects number))
    → IsDoing told bytes variables st core result (opens_with core number spec old r)
opens_behind {F = F} told bytes variables st core number name spec modes old u r result asks found some is_ok settles is_name free is_result =
    let same : u.number ≡ number = found_number core.units number u found in
    let first : IsDoing told bytes variables st core (doing.Awaits u.slot (job.Detach None) (then.Closes u.number (keeps u) (after.Connects u.number))) (detaches core u (keeps u) (connects u.number spec modes)) =
    closes_first_is told bytes variables st core u (keeps u) spec modes (found_again core.units number u found) asks settles in
    let with_number : IsDoing told bytes variables st core (doing.Awaits u.slot (job.Detach None) (then.Closes u.number (keeps u) (after.Connects number))) (detaches core u (keeps u) (connects u.number spec modes)) =
    subst (λ n. IsDoing told bytes variables st core (doing.Awaits u.slot (job.Detach None) (then.Closes u.number (keeps u) (after.Connects n))) (detaches core u (keeps u) (connects u.number spec modes))) same first in
    subst (λ (d : Doing). IsDoing told bytes variables st core result d) (opens_first core number name spec modes old u r found some is_ok is_name free)
    (subst (λ (d : Given F). IsDoing told bytes variables st core d (detaches core u (keeps u) (connects u.number spec modes))) (sym is_result) with_number)

opens_here : (core : Core) (which : UnitRef) (n : ℕ) (spec : OpenSpec) (old : Option Connected) → (is_outside which ≡ false) ⊎ (is_some old ≡ true) → opens core n spec old ≡ opens_unit core which n spec old
opens_here core which n spec None (inl e) = sym (ap (λ b. if b then finishes core (Error 3) else opens core n spec None) e)
opens_here core which n spec None (inr e) = cc
opens_here core which n spec (Some u) h = refl

-- of a unit that is connected, or whose number is one that there is
pub opens_numbered : (core : Core) (which : UnitRef) (n : ℕ) (spec : OpenSpec) → number_of which ≡ Some n → (is_outside which ≡ false) ⊎ (is_some (connected_at core.units n) ≡ true)
    → opens core n spec (connected_at core.units n) ≡ if_numbered core (number_of which) (λ k. opens_unit core which k spec (connected_at core.units k))
opens_numbered core which n spec e h =
    opens_here core which n spec (connected_at core.units n) h ∙ sym (ap (λ o. if_numbered core o (λ k. opens_unit core which k spec (connected_at core.units k))) e)

pub found_some : {A B : Type 0} (f : A → B) (r : Option (Bor A)) (p : Option B) → option_map f (option_copied r) ≡ p → is_some r ≡ true → is_some p ≡ true
found_some f None p e s = cc
found_some f (Some u) p e s = ap is_some (sym e)

-- of any other
pub opens_out : (core : Core) (which : UnitRef) (n : ℕ) (spec : OpenSpec) → number_of which ≡ Some n → is_outside which ≡ true → connected_at core.units n ≡ None
    → finishes core (Error 3) ≡ if_numbered core (number_of which) (λ k. opens_unit core which k spec (connected_at core.units k))
opens_out core which n spec e out none =
    sym (ap (λ o. if_numbered core o (λ k. opens_unit core which k spec (connected_at core.units k))) e ∙ ap (opens_unit core which n spec) none
    ∙ ap (λ b. if b then finishes core (Error 3) else opens core n spec None) out)

pub opens_again : (core : Core) (number : ℕ) (spec : OpenSpec) (old : Option Connected) (u : Connected) → old ≡ Some u → keeps_name u.name spec spec.file ≡ true
    → changes core u (mode.changed u.modes spec) ≡ opens core number spec old
opens_again core number spec old u some keeps_it =
    sym (ap (opens core number spec) some
    ∙ ap (λ b. if b then changes core u (mode.changed u.modes spec) else opens_with core number spec (Some u) (settled spec)) keeps_it)

pub opens_none : (core : Core) (number : ℕ) (spec : OpenSpec) (old : Option Connected) → old ≡ None → opens_with core number spec old (settled spec) ≡ opens core number spec old
opens_none core number spec old none =
    ap (λ o. opens_with core number spec o (settled spec)) none ∙ sym (ap (opens core number spec) none)

pub opens_another : (core : Core) (number : ℕ) (spec : OpenSpec) (old : Option Connected) (u : Connected) → old ≡ Some u → keeps_name u.name spec spec.file ≡ false
    → opens_with core number spec old (settled spec) ≡ opens core number spec old
opens_another core number spec old u some keeps_not =
    ap (λ o. opens_with core number spec o (settled spec)) some
    ∙ sym (ap (opens core number spec) some
    ∙ ap (λ b. if b then changes core u (mode.changed u.modes spec) else opens_with core number spec (Some u) (settled spec)) keeps_not)

-- the same by an equal meaning
pub meant : {F E : Type 0} (told : F → Bool) (bytes : F → List ℕ) (variables : List Variable) (st : Stated) (core : Core) (r : Result (Given F) E) (old new : Doing) → old ≡ new
    → IfOk r (λ next. IsDoing told bytes variables st core next old) → IfOk r (λ next. IsDoing told bytes variables st core next new)
meant told bytes variables st core r old new e h = subst (λ (d : Doing). IfOk r (λ next. IsDoing told bytes variables st core next d)) e h
