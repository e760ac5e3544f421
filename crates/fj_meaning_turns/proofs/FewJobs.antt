-- How many jobs each kind of statement gives, whatever becomes of them; and units have slots of their own all the while.
use Rattle.std.proofs.Common.{◌≡◌, ℕ, ℤ, zero, suc, ◌+◌, ◌-◌, ◌<◌, ◌≤◌, Bool, true, false, not, List, [], ◌∷◌, map, length, Option, Some, None, slice_get, refl, sym, ap, ◌∙◌, subst, ◌&&◌, arith}
use Rattle.std.specs.Prelude.{if◌then◌else◌, filter, ◌==◌, unwrap_or}
use Rattle.std.specs.List.{list_any}
use Rattle.fj_value.specs.declared.condition.Condition.{Condition}
use Rattle.fj_value.specs.declared.condition.Condition.TheVariants.{Fine}
use Rattle.fj_value.specs.declared.condition.Rule.{Rule}
use Rattle.fj_modes.specs.declared.modes.Modes.{Modes}
use Rattle.fj_modes.specs.declared.specifiers.OpenSpec.{OpenSpec}
use Rattle.fj_modes.specs.declared.asked.Wanted.{Wanted}
use Rattle.fj_modes.specs.declared.motion.Motion.{Motion}
use Rattle.fj_statement.specs.declared.unit.UnitRef.{UnitRef}
use Rattle.fj_statement.specs.declared.unit.UnitRef.TheVariants as unit
use Rattle.fj_moved.specs.declared.moved.Moved.{Moved}
use Rattle.fj_control.specs.Steps.{Given}
use Rattle.fj_statement.specs.declared.deck.Variable.{Variable}
use Rattle.fj_statement.specs.declared.statement.Statement.{Statement}
use Rattle.fj_statement.specs.declared.statement.Statement.TheVariants as statement
use Rattle.fj_statement.specs.declared.statement.Transfer.{Transfer}
use Rattle.fj_bay.specs.Halt.{halts}
use Rattle.fj_meaning.specs.Needs.{number_of, number_given, unit_about}
use Rattle.fj_meaning.specs.State.{Entry}
use Rattle.fj_meaning.specs.Statement.{Stated, Ending, file_asked}
use Rattle.fj_meaning.specs.Telling.{is_asynchronous, condition_of, tells_cause}
use Rattle.fj_meaning.specs.Transfers.{moved_in}
use Rattle.fj_meaning_jobs.specs.Core.{Core, Connected, connected_at, unit_named}
use Rattle.fj_meaning_jobs.specs.Desks.{Desk, Outcome, most_slots, carry, log_length}
use Rattle.fj_meaning_jobs.specs.Desks as desks
use Rattle.fj_meaning_jobs.specs.Doing.{Doing, finishes, gives, awaits, Desked, acted}
use Rattle.fj_meaning_jobs.specs.Acting.{finishes_behind, transferred, transfer_at, keeps, came_out, detaches, closes, closes_anyway, all_closed, connects, opens_unit, moves, asks_connection, inquires, if_numbered, unit_at, own, doing}
use Rattle.fj_meaning_jobs.specs.Desking.{begun_at, told_core, desk_step, goes_on, completed, fresh}
use Rattle.fj_meaning_jobs.proofs.Walking.{either, unit_by, closes_by, anyway_by, connects_by, open_by, doing_by}
use Rattle.fj_meaning_turns.specs.Turns.{halted_slots, ends_halts, doing_told, rule_of}
use Rattle.fj_meaning_turns.specs.Inside.{waited_at, does, cut_desks}
use Rattle.fj_meaning_turns.specs.Few.{AtMost, most_jobs, GivesFewJobs}
use Rattle.fj_meaning_turns.proofs.Seated.{Seated, few_seated, filter_seated, with_seated, found_number, inserted_seated}
use Rattle.fj_meaning_turns.proofs.Statements.{acts_are, step_is}
use Rattle.fj_meaning_turns.proofs.Decks.{cut_on}

-- at most so many jobs, and units have slots of their own behind each
abbrev pub Fair : ℕ → Doing → Type 0
Fair k (finishes core condition) = Seated core.units
Fair zero (gives slot job core next) = ⊥
Fair (suc k) (gives slot job core next) = Seated core.units × ((number : ℕ) → Fair k (next number))
Fair zero (awaits slot job core next) = ⊥
Fair (suc k) (awaits slot job core next) = Seated core.units × ((o : Outcome) → Fair k (next o))

-- ---- READ and WRITE

behind_fair : (k : ℕ) (u : Connected) (core : Core) (condition : Condition) → Seated core.units → Fair (suc k) (finishes_behind u core condition)
behind_fair k u core condition h = either (Fair (suc k)) (halts condition) _ _ (h, (λ number. h)) h

transferred_fair : (k : ℕ) (control : ℕ → List Given) (variables : List Variable) (line : ℕ) (core : Core) (t : Transfer) (moved : Moved) (u : Connected) → Seated core.units → Fair (suc (suc k)) (transferred control variables line core t moved u)
transferred_fair k control variables line core t moved u h = either (Fair (suc (suc k))) (is_asynchronous t) _ _ (h, (λ number. h)) (h, (λ o. behind_fair k u _ _ h))

transfer_fair : (k : ℕ) (control : ℕ → List Given) (variables : List Variable) (line : ℕ) (core : Core) (t : Transfer) (moved : Moved) (to : UnitRef) → Seated core.units
    → Fair (suc (suc k)) (transfer_at control variables line core t moved to)
transfer_fair k control variables line core t moved unit.Star h = h
transfer_fair k control variables line core t moved (unit.Internal file) h = h
transfer_fair k control variables line core t moved (unit.Number n) h =
    unit_by (Fair (suc (suc k))) control variables line core t moved (connected_at core.units n) (λ condition. h) (λ u e. transferred_fair k control variables line core t moved u h)
transfer_fair k control variables line core t moved (unit.Held place n) h =
    unit_by (Fair (suc (suc k))) control variables line core t moved (connected_at core.units n) (λ condition. h) (λ u e. transferred_fair k control variables line core t moved u h)
transfer_fair k control variables line core t moved (unit.New place n) h =
    unit_by (Fair (suc (suc k))) control variables line core t moved (connected_at core.units n) (λ condition. h) (λ u e. transferred_fair k control variables line core t moved u h)

-- ---- CLOSE

detaches_fair : (k : ℕ) (core : Core) (u : Connected) (keep : Bool) (next : Core → Doing) → Seated core.units → ((new : Core) → Seated new.units → Fair k (next new)) → Fair (suc k) (detaches core u keep next)
detaches_fair k core u keep next h f = (h, (λ o. either (Fair k) (came_out u o) _ _ (f _ (filter_seated (λ (v : Connected). not (v.number == u.number)) core.units h)) h))

closes_fair : (k : ℕ) (core : Core) (keep : Option Bool) (o : Option Connected) → Seated core.units → Fair (suc k) (closes core keep o)
closes_fair k core keep o h = closes_by (Fair (suc k)) core keep o (λ condition. h) (λ u e. detaches_fair k core u (unwrap_or keep (keeps u)) (λ new. finishes new Fine) h (λ new s. s))

anyway_fair : (k : ℕ) (core : Core) (keep : Option Bool) (condition : Condition) (o : Option Connected) → Seated core.units → Fair (suc k) (closes_anyway core keep condition o)
anyway_fair k core keep condition o h =
    anyway_by (Fair (suc k)) core keep condition o h (λ u e. detaches_fair k core u (keeps u && unwrap_or keep true) (λ new. finishes new condition) h (λ new s. s))

all_fair : (k : ℕ) (us : List Connected) (core : Core) (condition : Condition) → length us ≤ k → Seated core.units → Fair k (all_closed us core condition)
all_fair k [] core condition l h = h
all_fair zero (u ∷ us) core condition l h = absurd (omega (arith, l))
all_fair (suc k) (u ∷ us) core condition l h = detaches_fair k core u (keeps u) (λ new. all_closed us new condition) h (λ new s. all_fair k us new condition (omega (arith, l)) s)

-- ---- OPEN

connects_fair : (k : ℕ) (core : Core) (number : ℕ) (spec : OpenSpec) (modes : Modes) → Seated core.units → Fair (suc k) (connects number spec modes core)
connects_fair k core number spec modes h =
    connects_by (Fair (suc k)) core number spec modes (λ condition. h)
    (λ slot c free e. (h, (λ o. inserted_seated (record { number = number; slot = slot; name = c.name; modes = c.modes }) core.units h (let inside : slot < most_slots = omega (arith, free.inside) in inside) free.differs)))

open_fair : (k : ℕ) (core : Core) (ref : UnitRef) (spec : OpenSpec) (number : Option ℕ) → Seated core.units → Fair (suc (suc k)) (if_numbered core number (λ n. opens_unit core ref n spec (connected_at core.units n)))
open_fair k core ref spec number h =
    open_by (Fair (suc (suc k))) core ref spec number (λ condition. h) (λ n u modes is e. (h, (λ o. with_seated (record u { modes = modes }) u n core.units h e (found_number core.units n u e) refl)))
    (λ n modes is e. connects_fair (suc k) core n spec modes h) (λ n u modes is e other. detaches_fair (suc k) core u (keeps u) (connects n spec modes) h (λ new s. connects_fair k new n spec modes s))

-- ---- the motions, INQUIRE

moves_fair : (k : ℕ) (core : Core) (how : Motion) (o : Option Connected) → Seated core.units → Fair (suc k) (moves core how o)
moves_fair k core how None h = h
moves_fair k core how (Some u) h = (h, (λ o. h))

inquires_fair : (k : ℕ) (variables : List Variable) (core : Core) (number : Option ℕ) (file : Option (List ℕ)) (asked : List Wanted) (id : Option ℤ) (o : Option Connected) → Seated core.units → Fair (suc k) (inquires variables core number file asked id o)
inquires_fair k variables core number file asked id None h = h
inquires_fair k variables core number file asked id (Some u) h = either (Fair (suc k)) (list_any (λ (w : Wanted). asks_connection w.what) asked) _ _ (h, (λ o. h)) h

-- ---- each kind of statement

own_fair : (k : ℕ) (control : ℕ → List Given) (variables : List Variable) (line : ℕ) (core : Core) (st : Statement) → Seated core.units → length core.units ≤ suc (suc k) → Fair (suc (suc k)) (own control variables line core st)
own_fair k control variables line core (statement.Assign to from) h l = h
own_fair k control variables line core (statement.OpenUnit u spec iostat) h l = open_fair k core u spec (number_of u) h
own_fair k control variables line core (statement.CloseUnit u keep iostat) h l = closes_fair (suc k) core keep (unit_at core (number_of u)) h
own_fair k control variables line core (statement.WaitFor u id iostat) h l = h
own_fair k control variables line core (statement.Move how u iostat) h l = moves_fair (suc k) core how (unit_at core (number_of u)) h
own_fair k control variables line core (statement.Inquire subject asked id iostat done) h l =
    let number = unit_about (unit_named core.units) subject in
    inquires_fair (suc k) variables core number (file_asked subject) asked (number_given core.vars id) (unit_at core number) h
own_fair k control variables line core (statement.Transfer t) h l = transfer_fair k control variables line core t (moved_in variables core.vars t) t.unit h
own_fair k control variables line core statement.End h l = all_fair (suc (suc k)) core.units core Fine l h

pub doing_fair : (k : ℕ) (control : ℕ → List Given) (variables : List Variable) (line : ℕ) (core : Core) (st : Statement) (condition : Condition) → Seated core.units → length core.units ≤ suc (suc k)
    → Fair (suc (suc k)) (doing control variables line core st condition)
doing_fair k control variables line core st condition h l =
    doing_by (Fair (suc (suc k))) control variables line core st (own_fair k control variables line core st h l) (λ vars condition. h)
    (λ u keep iostat condition is. anyway_fair (suc k) core keep condition (unit_at core (number_of u)) h) (λ condition is. all_fair (suc (suc k)) core.units core condition l h) condition

-- the ends of halts before it
halts_fair : (slots : List ℕ) (core : Core) (next : Doing) (k j : ℕ) → length slots + k ≡ j → Seated core.units → Fair k next → Fair j (ends_halts slots core next)
halts_fair [] core next k j e h f = subst (λ n. Fair n next) (let same : k ≡ j = omega (arith, e) in same) f
halts_fair (slot ∷ slots) core next k zero e h f = absurd (omega (arith, e))
halts_fair (slot ∷ slots) core next k (suc j) e h f = (h, (λ number. halts_fair slots core next k j (omega (arith, e)) h f))

few_halted : (told : List Entry) (us : List Connected) → length (halted_slots told us) ≤ length us
few_halted told [] = omega (arith)
few_halted told (u ∷ us) = by (tells_cause told u.number) (few_halted told us)
  where
    by : (b : Bool) → length (halted_slots told us) ≤ length us
        → length (map (λ (v : Connected). v.slot) (if b then u ∷ filter (λ (v : Connected). tells_cause told v.number) us else filter (λ (v : Connected). tells_cause told v.number) us)) ≤ length (u ∷ us)
    by true h = omega (arith, h)
    by false h = omega (arith, h)

-- all that a statement does once its transfers are told
pub told_fair : (variables : List Variable) (st : Stated) (told : List Entry) (core : Core) → Seated core.units → Fair most_jobs (doing_told variables st told core)
told_fair variables st told core h =
    let new : Core = told_core variables st.0.line told core in
    let slots : List ℕ = halted_slots told core.units in
    let few : length core.units ≤ 16 = few_seated core.units h in
    let halted : length slots ≤ length core.units = few_halted told core.units in
    let k : ℕ = 30 - length slots in
    halts_fair slots new (doing st.1 variables st.0.line new st.0.what (condition_of told)) (suc (suc k)) most_jobs (omega (arith, few, halted)) h
    (doing_fair k st.1 variables st.0.line new st.0.what (condition_of told) h (omega (arith, few, halted)))

-- ---- decks

fair_most : (k : ℕ) (d : Doing) → Fair k d → AtMost k d
fair_most k (finishes core condition) h = tt
fair_most zero (gives slot job core next) h = h
fair_most (suc k) (gives slot job core next) h = λ number. fair_most k (next number) (h.1 number)
fair_most zero (awaits slot job core next) h = h
fair_most (suc k) (awaits slot job core next) h = λ o. fair_most k (next o) (h.1 o)

acted_seated : (k : ℕ) (ds : List Desk) (d : Doing) → Fair k d → Seated (acted ds d).0.core.units
acted_seated k ds (finishes core condition) h = h
acted_seated zero ds (gives slot job core next) h = absurd h
acted_seated (suc k) ds (gives slot job core next) h = acted_seated k (carry ds slot job) (next (log_length (slice_get ds slot))) (h.1 (log_length (slice_get ds slot)))
acted_seated zero ds (awaits slot job core next) h = absurd h
acted_seated (suc k) ds (awaits slot job core next) h = acted_seated k (carry ds slot job) (next (desks.outcome ds slot job)) (h.1 (desks.outcome ds slot job))

pub step_seated : (variables : List Variable) (st : Stated) (p : Desked) → Seated p.core.units → Seated (desk_step variables st p).0.core.units
step_seated variables st p h = subst (λ d. Seated d.0.core.units) (sym (step_is variables st p)) (by (rule_of variables st p.core))
  where
    by : (o : Option Rule) → Seated (goes_on st.1 variables st.0.line st.0.what p o).0.core.units
    by (Some rule) = h
    by None = subst (λ d. Seated (completed variables st.0.line st.0.what d).0.core.units) (acts_are variables st p) (acted_seated most_jobs p.desks (does variables st p) (told_fair variables st (waited_at st p) p.core h))

cut_seated : (variables : List Variable) (deck : List Stated) (index : ℕ) (p : Desked) (statement : Stated) (before : Desked) → Seated p.core.units → cut_desks variables index deck p ≡ Some (statement, before) → Seated before.core.units
cut_seated variables [] index p statement before h e = cc
cut_seated variables (st ∷ more) zero p statement before h e =
    let here : p ≡ before = ap (λ (o : Option (Stated × Desked)). elim o as (λ _. Desked) [ None ↦ p | Some x ↦ x.1 ]) e in subst (λ q. Seated q.core.units) here h
cut_seated variables (st ∷ more) (suc index) p statement before h e =
    by (desk_step variables (begun_at p st) p).1 refl (λ f. cut_seated variables more index (desk_step variables (begun_at p st) p).0 statement before (step_seated variables (begun_at p st) p h) f)
  where
    by : (o : Option Ending) → (desk_step variables (begun_at p st) p).1 ≡ o → (cut_desks variables index more (desk_step variables (begun_at p st) p).0 ≡ Some (statement, before) → Seated before.core.units) → Seated before.core.units
    by (Some x) f later =
        absurd (let z : None ≡ Some (statement, before) = sym (ap (λ o. elim o as (λ _. Option (Stated × Desked)) [ None ↦ cut_desks variables index more (desk_step variables (begun_at p st) p).0 | Some y ↦ None ]) f) ∙ e in cc)
    by None f later = later (sym (cut_on variables index st more p f) ∙ e)

pub gives_few_jobs : GivesFewJobs
gives_few_jobs variables deck files index statement before e =
    let h = cut_seated variables deck index (fresh variables files) statement before (record { inside = tt; slots = tt; numbers = tt }) e in
    fair_most most_jobs (does variables statement before) (told_fair variables statement (waited_at statement before) before.core h)
