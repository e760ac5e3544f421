-- A deck that came to its end is closed whole: slots and names are those of its units.
use Rattle.std.proofs.Common.{◌≡◌, ℕ, Bool, List, [], ◌∷◌, length, drop, Option, Some, None, refl, sym, ap, ◌∙◌, subst, arith}
use Rattle.std.proofs.Math.Logic.{∥∥₁_elim}
use Rattle.std.proofs.Props.{props}
use Rattle.std.specs.Prelude.{IsSome, ◌||◌, false}
use Rattle.std.specs.Str.{bytes_eq}
use Rattle.std.specs.Option.{option_map}
use Rattle.std.proofs.lemmas.List.{length-drop}
use Rattle.fj_outside.specs.declared.outside.FileStore.{Ghosts}
use Rattle.fj_statement.specs.Sound.{IsSound}
use Rattle.fj_statement.specs.declared.deck.Deck.{Deck}
use Rattle.fj_statement.specs.declared.deck.Variable.{Variable}
use Rattle.fj_statement.specs.declared.statement.Statement.{Statement}
use Rattle.fj_connect.specs.Linked.{Linked}
use Rattle.fj_slot.specs.Serving.{Meaning}
use Rattle.fj_bay.specs.Bay.{Bay}
use Rattle.fj_bay.specs.Jobs.{Job, Answer}
use Rattle.fj_bay.specs.Plain.{task_of, reply_of}
use Rattle.fj_meaning.specs.State.{Files}
use Rattle.fj_meaning.specs.Statement.{Stated, stated}
use Rattle.fj_meaning_jobs.specs.Core.{Core, Connected, has_name}
use Rattle.fj_meaning_jobs.specs.Desks.{Outcome}
use Rattle.fj_meaning_jobs.specs.Doing.{Doing}
use Rattle.fj_world.specs.Rack.{Rack}
use Rattle.fj_meaning_turns.specs.Run.{Run, Stage as PlainStage, Start, Waiting, Acting, Awaiting}
use Rattle.fj_meaning_cut.specs.Others.{core_now}
use Rattle.fj_run_units.specs.Having.{HaveFiles, DifferInFile}
use Rattle.fj_run_end.specs.Ended.{unit_names, LeavesNames}
use Rattle.fj_run_end.specs.Holding.{HoldUnits}
use Rattle.fj_run_statements.specs.Doing.{then_of}
use Rattle.fj_run_statements.specs.Having.{HaveThen}
use Rattle.fj_run_statements.specs.declared.doing.Then.{Then}
use Rattle.fj_run_statements.specs.declared.doing.Then.TheVariants as then
use Rattle.fj_run_statements.specs.State.{core_of}
use Rattle.fj_run_script.specs.Going.{HaveAt, IsGoing}
use Rattle.fj_run_script.specs.Machine.{stage_of, run_at, run_of, stage_at, rest_of, ending_of}
use Rattle.fj_run_script.specs.declared.machine.Machine.{Machine}
use Rattle.fj_run_script.specs.declared.stage.Stage.{Stage}
use Rattle.fj_run_script.specs.declared.stage.Stage.TheVariants as stage
use Rattle.fj_job.specs.Carrying.{HasRun}
use Rattle.fj_job.specs.Fitting.{kept_name, AreOut, LeavesFit}
use Rattle.fj_job.proofs.Executed.{parts, rest_is, ending_is}
use Rattle.fj_job.proofs.Fronts.{deck_ends, not_lost}
use Rattle.fj_job.proofs.Learning.{WaitsIn, WaitsOn}

-- ---- units of the same names

any_same : (us vs : List Connected) (name : List ℕ) → unit_names us ≡ unit_names vs → has_name us name ≡ has_name vs name
any_same [] [] name e = refl
any_same [] (v ∷ vs) name e = cc
any_same (u ∷ us) [] name e = cc
any_same (u ∷ us) (v ∷ vs) name e =
    let first : u.name ≡ v.name = cc in
    let rest : unit_names us ≡ unit_names vs = cc in
    ap (λ n. bytes_eq name n || has_name us name) first ∙ ap (λ b. bytes_eq name v.name || b) (any_same us vs name rest)

differ_same : (us vs : List Connected) → unit_names us ≡ unit_names vs → DifferInFile us → DifferInFile vs
differ_same us [] e d = tt
differ_same [] (v ∷ vs) e d = cc
differ_same (u ∷ us) (v ∷ vs) e d =
    let first : u.name ≡ v.name = cc in
    let rest : unit_names us ≡ unit_names vs = cc in
    (sym (any_same us vs v.name rest) ∙ ap (has_name us) (sym first) ∙ d.0, differ_same us vs rest d.1)

-- have the same files
pub have_same : (names : List (List ℕ)) (us vs : List Connected) → unit_names us ≡ unit_names vs → HaveFiles names us → HaveFiles names vs
have_same names us vs e h = (λ name. h.0 name ∙ any_same us vs name e, differ_same us vs e h.1)

differ_prop : (us : List Connected) → IsProp (DifferInFile us)
differ_prop [] = hlevel props
differ_prop (u ∷ us) = let more = differ_prop us in hlevel (props, more)

pub have_prop : (names : List (List ℕ)) (us : List Connected) → IsProp (HaveFiles names us)
have_prop names us = let differ = differ_prop us in hlevel (props, differ)

-- ---- a statement that attaches no connection

-- no statement is at work, or it waits; and some outcome of its own job leaves units of the same names
abbrev pub Spares : PlainStage → List Connected → Type 0
Spares Start us = Unit {0}
Spares Waiting us = Unit {0}
Spares (Acting does) us = ⊥
Spares (Awaiting own number next) us = (o : Outcome) × (unit_names (core_now (next o)).units ≡ unit_names us)

some_is : {X : Type 0} → {x y : X} → Some x ≡ Some y → x ≡ y
some_is e = cc

acting_not : {X : Type 0} (does : X → Doing) (us : List Connected) (o : Option X) (p : PlainStage) → option_map (λ x. Acting (does x)) o ≡ Some p → Spares p us → ⊥
acting_not does us None p e s = cc
acting_not does us (Some x) p e s = subst (λ q. Spares q us) (sym (some_is e)) s

module _ {F : Type 0} (told : F → Bool) (bytes : F → List ℕ) (variables : List Variable) (core : Core) (names : List (List ℕ)) (units : List Connected) (what : Statement) where
  then_files : (st : Stated) (own number : ℕ) (next : Then) → Spares (Awaiting own number (then_of variables st core next)) units → HaveThen next names units what → HaveFiles names units
  then_files st own number then.Finishes s h = h
  then_files st own number (then.Carries slot) s h = h
  then_files st own number (then.Closes unit keep next) s h = h.0
  then_files st own number (then.Changes unit modes) s h = h
  then_files st own number (then.Attaches more) s h = have_same names more units s.1 h
  then_files st own number then.Looks s h = h

  pub files_at : (rest : List Stated) (s : Stage F) (p : PlainStage) → stage_of told bytes variables rest core s ≡ Some p → Spares p units → HaveAt s names units what → HaveFiles names units
  files_at rest stage.Start p e k h = h
  files_at rest (stage.Waiting whose from) p e k h = h
  files_at rest (stage.Resuming slots next condition) p e k h = h
  files_at rest (stage.Going next number) p e k h = h
  files_at [] (stage.Awaiting slot number next) p e k h = cc
  files_at (st ∷ more) (stage.Awaiting slot number next) p e k h = then_files st slot number next (subst (λ q. Spares q units) (sym (some_is e)) k) h
  files_at [] (stage.Answered next job answer) p e k h = cc
  files_at (st ∷ more) (stage.Answered next job answer) p e k h =
      absurd (acting_not (λ task. then_of variables st core next (task, reply_of answer)) units (task_of told bytes job) p e k)

-- ---- where a stop was told

-- the statement at hand waits, and some outcome of its own job leaves units of the same names
waits_spare : (st : Stated) (stage : PlainStage) (r : Run) (us : List Connected) → WaitsIn st stage r → LeavesNames stage us → Spares stage us
waits_spare st Start r us w l = absurd w
waits_spare st Waiting r us w l = tt
waits_spare st (Acting does) r us w l = absurd w
waits_spare st (Awaiting own number next) r us w l = l

pub stopped_files : {F : Type 0} {ghosts : Ghosts F} (told : F → Bool) (bytes : F → List ℕ) (left : Files) (m : Machine F ghosts) (r : Run) → run_of told bytes left m ≡ Some r → WaitsOn r.rest r → LeavesNames r.stage r.core.units
    → ((st : Stated) (more : List Stated) → rest_of m ≡ st ∷ more → HaveAt m.state.stage m.state.core.names m.state.core.units st.0.what) → HaveFiles m.state.core.names m.state.core.units
stopped_files told bytes left m r is waits spares have = by (rest_of m) refl (subst (λ l. WaitsOn l r) (rest_is told bytes left m r is) waits)
  where
    units : r.core.units ≡ m.state.core.units
    units = ap (λ (c : Core). c.units) (parts told bytes left m r is).0

    stage_by : (o : Option PlainStage) → option_map (run_at left m) o ≡ Some r → o ≡ Some r.stage
    stage_by None e = cc
    stage_by (Some s) e = ap (λ (x : Run). Some x.stage) (some_is e)

    by : (rest : List Stated) → rest_of m ≡ rest → WaitsOn rest r → HaveFiles m.state.core.names m.state.core.units
    by [] e w = absurd w
    by (st ∷ more) e w =
        files_at told bytes m.deck.variables (core_of left m.state.core) m.state.core.names m.state.core.units st.0.what (rest_of m) m.state.stage r.stage (stage_by (stage_at told bytes left m) is)
        (subst (λ us. Spares r.stage us) units (waits_spare st r.stage r r.core.units w spares)) (have st more e)

-- ---- the end of a deck

module _ {E J A F : Type 0} {ghosts : Ghosts F} (meaning : Meaning E J A Bay Job Answer) (told : F → Bool) (bytes : F → List ℕ) (deck : Deck) (files left : Files) (m : Machine F ghosts) (rack : Rack E J A)
    (h : HasRun meaning told bytes deck files left m rack) (sound : IsSound deck) where
  both : (h.run.core ≡ core_of left m.state.core) × (h.run.ending ≡ option_map ending_of m.state.ending)
  both = parts told bytes left m h.run h.is

  has_ending : IsSome h.run.ending
  has_ending = subst IsSome (ending_is meaning told bytes deck files left m rack h ∙ sym both.1) (deck_ends deck files sound)

  units_held : HoldUnits meaning rack m.state.core.units
  units_held = subst (λ (us : List Connected). HoldUnits meaning rack us) (ap (λ (c : Core). c.units) both.0) (h.units has_ending).0

  stage_by : (o : Option PlainStage) (r : Run) → option_map (run_at left m) o ≡ Some r → r.stage ≡ Start → o ≡ Some Start
  stage_by None r e start = absurd (cc)
  stage_by (Some s) r e start = let same : run_at left m s ≡ r = some_is e in ap Some (ap (λ (x : Run). x.stage) same ∙ start)

  files_out : IsGoing m → HaveFiles m.state.core.names m.state.core.units
  files_out on = by (rest_of m) refl
    where
      stage : stage_at told bytes left m ≡ Some Start
      stage = stage_by (stage_at told bytes left m) h.run h.is (h.units has_ending).1

      by : (rest : List Stated) → rest_of m ≡ rest → HaveFiles m.state.core.names m.state.core.units
      by [] e =
          let g = h.given has_ending in
          let none : length (drop g.index (stated deck.statements)) ≡ 0 = sym g.rest ∙ ap length (rest_is told bytes left m h.run h.is ∙ e) in
          let long = length-drop g.index (stated deck.statements) in
          let within = g.within in
          absurd (omega (arith, none, long, within))
      by (st ∷ more) e = files_at told bytes m.deck.variables (core_of left m.state.core) m.state.core.names m.state.core.units st.0.what (rest_of m) m.state.stage Start stage tt (on.at.files st more e)

  -- so what it leaves fits
  pub ended_fit : ∥ (m.tally.over ≡ false → IsGoing m) ∥₁ → m.tally.over ≡ false → LeavesFit meaning rack m
  ended_fit on going = record {
    held = units_held;
    out = subst (λ (o : Option (Linked F)). AreOut (kept_name o) m.state.core.names m.state.core.units) (sym (not_lost m.kept m.tally.over m.refused going))
        (∥∥₁_elim on (have_prop m.state.core.names m.state.core.units) (λ f. files_out (f going)));
  }
