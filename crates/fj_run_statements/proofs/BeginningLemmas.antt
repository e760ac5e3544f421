-- What each kind of statement does, and the output on unit `*` while it does.
use Rattle.std.proofs.Common.{◌≡◌, ℕ, Bool, true, false, List, [], ◌∷◌, ◌++◌, Option, Some, None, Result, Ok, Err, refl, sym, ap, subst, ◌∙◌}
use Rattle.std.specs.Prelude.{ℤ, ◌&&◌, unwrap_or, if◌then◌else◌, OnErr}
use Rattle.std.specs.List.{list_any}
use Rattle.fj_value.specs.declared.condition.Condition.{Condition}
use Rattle.fj_value.specs.declared.condition.Condition.TheVariants as condition
use Rattle.fj_value.specs.declared.place.Place.{Place}
use Rattle.fj_modes.specs.Modes.{settled}
use Rattle.fj_modes.specs.Modes as mode
use Rattle.fj_modes.specs.declared.modes.Modes.{Modes}
use Rattle.fj_modes.specs.declared.specifiers.OpenSpec.{OpenSpec}
use Rattle.fj_modes.specs.declared.asked.Wanted.{Wanted}
use Rattle.fj_statement.specs.declared.unit.Subject.{Subject}
use Rattle.fj_statement.specs.declared.unit.UnitRef.{UnitRef}
use Rattle.fj_statement.specs.Units.{is_outside}
use Rattle.fj_control.specs.Steps.{Given}
use Rattle.fj_connect.specs.Connection.{Connection}
use Rattle.fj_connect.specs.Opening.{opened_file}
use Rattle.fj_statement.specs.declared.deck.Variable.{Variable}
use Rattle.fj_statement.specs.declared.statement.Operand.{Operand}
use Rattle.fj_statement.specs.declared.statement.Statement.{Statement}
use Rattle.fj_statement.specs.declared.statement.Statement.TheVariants as statement
use Rattle.fj_statement.specs.declared.statement.Transfer.{Transfer}
use Rattle.fj_meaning.specs.Connecting.{file_due, keeps_name}
use Rattle.fj_meaning.specs.Needs.{number_of, number_given, unit_about}
use Rattle.fj_meaning.specs.State.{Output}
use Rattle.fj_meaning.specs.Statement.{control_by, file_asked}
use Rattle.fj_meaning_jobs.specs.Core.{Core, Connected, connected_at, unit_named}
use Rattle.fj_meaning_jobs.specs.Desks.{Outcome, most_slots}
use Rattle.fj_meaning_jobs.specs.Doing.{Doing, finishes}
use Rattle.fj_meaning_jobs.specs.Acting.{all_closed, asks_connection, attaches, changes, closes, closes_anyway, closes_first, connects, connects_at, doing, free_from, if_numbered, inquires, instead, is_taken, opens, opens_unit, opens_with, own, unit_at}
use Rattle.fj_run_items.specs.Handing.{HandsFront, HandsPart, whole_records}
use Rattle.fj_run_items.proofs.Prints.{on_err}
use Rattle.fj_run_statements.specs.Doing.{AsksAbout, looks}
use Rattle.fj_run_statements.specs.State.{core_at}

-- ---- the statement's own action, and what is done in its place

pub own_is : (variables : List Variable) (line : ℕ) (core : Core) (what kind : Statement) → what ≡ kind → own (control_by kind) variables line core kind ≡ own (control_by what) variables line core what
own_is variables line core what kind e = ap (λ (w : Statement). own (control_by w) variables line core w) (sym e)

pub instead_is : (variables : List Variable) (core : Core) (what kind : Statement) (condition : Condition) → what ≡ kind → instead variables core kind condition ≡ instead variables core what condition
instead_is variables core what kind condition e = ap (λ (w : Statement). instead variables core w condition) (sym e)

pub doing_is : (control : ℕ → List Given) (variables : List Variable) (line : ℕ) (core : Core) (what : Statement) (k : Condition) → (k ≡ condition.Fine → ⊥) → instead variables core what k ≡ doing control variables line core what k
doing_is control variables line core what condition.Fine never = absurd (never refl)
doing_is control variables line core what condition.EndOfFile never = refl
doing_is control variables line core what condition.EndOfRecord never = refl
doing_is control variables line core what (condition.Error code) never = refl

-- ---- the output stays

attaches_output : (core : Core) (number slot : ℕ) (r : Result Connection Condition) → (core_at (attaches core number slot r)).output ≡ core.output
attaches_output core number slot (Ok c) = refl
attaches_output core number slot (Err k) = refl

connects_output : (number : ℕ) (spec : OpenSpec) (modes : Modes) (core : Core) (slot : Option ℕ) → (core_at (connects_at number spec modes core slot)).output ≡ core.output
connects_output number spec modes core None = refl
connects_output number spec modes core (Some slot) = attaches_output core number slot (opened_file (core.files (file_due spec number)) (file_due spec number) spec modes)

closes_output : (number : ℕ) (spec : OpenSpec) (modes : Modes) (core : Core) (old : Option Connected) → (core_at (closes_first core old (connects number spec modes))).output ≡ core.output
closes_output number spec modes core None = connects_output number spec modes core (free_from core.units 0 most_slots)
closes_output number spec modes core (Some u) = refl

either_output : (core : Core) (b : Bool) (x y : Doing) → (core_at x).output ≡ core.output → (core_at y).output ≡ core.output → (core_at (if b then x else y)).output ≡ core.output
either_output core true x y first second = first
either_output core false x y first second = second

another_output : (core : Core) (number : ℕ) (spec : OpenSpec) (old : Option Connected) (r : Result Modes Condition) → (core_at (opens_with core number spec old r)).output ≡ core.output
another_output core number spec old (Err k) = refl
another_output core number spec old (Ok modes) =
    either_output core (is_taken core number (file_due spec number)) (finishes core (condition.Error 7)) (closes_first core old (connects number spec modes)) refl (closes_output number spec modes core old)

changes_output : (core : Core) (u : Connected) (r : Result Modes Condition) → (core_at (changes core u r)).output ≡ core.output
changes_output core u (Err k) = refl
changes_output core u (Ok modes) = refl

opens_output : (core : Core) (number : ℕ) (spec : OpenSpec) (old : Option Connected) → (core_at (opens core number spec old)).output ≡ core.output
opens_output core number spec None = another_output core number spec None (settled spec)
opens_output core number spec (Some u) =
    either_output core (keeps_name u.name spec spec.file) (changes core u (mode.changed u.modes spec)) (opens_with core number spec (Some u) (settled spec))
    (changes_output core u (mode.changed u.modes spec)) (another_output core number spec (Some u) (settled spec))

unit_output : (core : Core) (which : UnitRef) (number : ℕ) (spec : OpenSpec) (found : Option Connected) → (core_at (opens_unit core which number spec found)).output ≡ core.output
unit_output core which number spec None = either_output core (is_outside which) (finishes core (condition.Error 3)) (opens core number spec None) refl (opens_output core number spec None)
unit_output core which number spec (Some u) = opens_output core number spec (Some u)

numbered_output : (core : Core) (which : UnitRef) (number : Option ℕ) (spec : OpenSpec) → (core_at (if_numbered core number (λ n. opens_unit core which n spec (connected_at core.units n)))).output ≡ core.output
numbered_output core which None spec = refl
numbered_output core which (Some n) spec = unit_output core which n spec (connected_at core.units n)

inquires_output : (variables : List Variable) (core : Core) (number : Option ℕ) (file : Option (List ℕ)) (asked : List Wanted) (id : Option ℤ) (found : Option Connected) → (core_at (inquires variables core number file asked id found)).output ≡ core.output
inquires_output variables core number file asked id None = refl
inquires_output variables core number file asked id (Some u) = either_output core (list_any (λ (w : Wanted). asks_connection w.what) asked) _ _ refl refl

close_output : (core : Core) (keep : Option Bool) (found : Option Connected) → (core_at (closes core keep found)).output ≡ core.output
close_output core keep None = refl
close_output core keep (Some u) = either_output core (unwrap_or keep false && u.modes.scratch) _ _ refl refl

closed_output : (core : Core) (keep : Option Bool) (k : Condition) (found : Option Connected) → (core_at (closes_anyway core keep k found)).output ≡ core.output
closed_output core keep k None = refl
closed_output core keep k (Some u) = refl

ended_output : (core : Core) (us : List Connected) (k : Condition) → (core_at (all_closed us core k)).output ≡ core.output
ended_output core [] k = refl
ended_output core (u ∷ us) k = refl

instead_output : (variables : List Variable) (core : Core) (what : Statement) (k : Condition) → (core_at (instead variables core what k)).output ≡ core.output
instead_output variables core (statement.OpenUnit unit spec iostat) k = refl
instead_output variables core (statement.Assign to from) k = refl
instead_output variables core (statement.CloseUnit unit keep iostat) k = closed_output core keep k (unit_at core (number_of unit))
instead_output variables core (statement.WaitFor unit id iostat) k = refl
instead_output variables core (statement.Move how unit iostat) k = refl
instead_output variables core (statement.Inquire subject asked id iostat _) k = refl
instead_output variables core (statement.Transfer t) k = refl
instead_output variables core statement.End k = ended_output core core.units k

-- ---- what a sink took

nothing_more : (xs : List ℕ) → xs ≡ xs ++ []
nothing_more [] = refl
nothing_more (x ∷ xs) = ap (λ l. x ∷ l) (nothing_more xs)

hands_nothing : (taken : List ℕ) (old due : Output) → due ≡ old → HandsFront taken taken old due
hands_nothing taken old due e = ([], [], ap whole_records e ∙ nothing_more (whole_records old), nothing_more taken)

-- nothing, where the output stays
pub takes_nothing : {A E : Type 0} (r : Result A E) (taken : List ℕ) (core : Core) (d : Doing) → (core_at d).output ≡ core.output → OnErr r (HandsFront taken taken core.output (core_at d).output)
takes_nothing r taken core d e = on_err r (HandsFront taken taken core.output (core_at d).output) (hands_nothing taken core.output (core_at d).output e)

pub takes_as : {A E : Type 0} (r : Result A E) (taken more : List ℕ) (old : Output) (d e : Doing) → d ≡ e → OnErr r (HandsFront taken more old (core_at d).output) → OnErr r (HandsFront taken more old (core_at e).output)
takes_as r taken more old d e same h = subst (λ (x : Doing). OnErr r (HandsFront taken more old (core_at x).output)) same h

pub part_as : (taken more : List ℕ) (old : Output) (d e : Doing) → d ≡ e → HandsPart taken more old (core_at d).output → HandsPart taken more old (core_at e).output
part_as taken more old d e same h = subst (λ (x : Doing). HandsPart taken more old (core_at x).output) same h

assigns_output : (control : ℕ → List Given) (variables : List Variable) (line : ℕ) (core : Core) (to from : Operand) → (core_at (own control variables line core (statement.Assign to from))).output ≡ core.output
assigns_output control variables line core to from = refl

-- of the kinds whose own action may stop
pub assign_front : {A E : Type 0} (r : Result A E) (taken : List ℕ) (variables : List Variable) (line : ℕ) (core : Core) (what : Statement) (to from : Operand) → what ≡ statement.Assign to from
    → OnErr r (HandsFront taken taken core.output (core_at (own (control_by what) variables line core what)).output)
assign_front r taken variables line core what to from e =
    takes_nothing r taken core (own (control_by what) variables line core what) (ap (λ (d : Doing). (core_at d).output) (sym (own_is variables line core what (statement.Assign to from) e)))

pub open_front : {A E : Type 0} (r : Result A E) (taken : List ℕ) (variables : List Variable) (line : ℕ) (core : Core) (what : Statement) (unit : UnitRef) (spec : OpenSpec) (iostat : Option Place) → what ≡ statement.OpenUnit unit spec iostat
    → OnErr r (HandsFront taken taken core.output (core_at (own (control_by what) variables line core what)).output)
open_front r taken variables line core what unit spec iostat e =
    takes_nothing r taken core (own (control_by what) variables line core what)
    (ap (λ (d : Doing). (core_at d).output) (sym (own_is variables line core what (statement.OpenUnit unit spec iostat) e)) ∙ numbered_output core unit (number_of unit) spec)

pub close_front : {A E : Type 0} (r : Result A E) (taken : List ℕ) (variables : List Variable) (line : ℕ) (core : Core) (what : Statement) (unit : UnitRef) (keep : Option Bool) (iostat : Option Place) → what ≡ statement.CloseUnit unit keep iostat
    → OnErr r (HandsFront taken taken core.output (core_at (own (control_by what) variables line core what)).output)
close_front r taken variables line core what unit keep iostat e =
    takes_nothing r taken core (own (control_by what) variables line core what)
    (ap (λ (d : Doing). (core_at d).output) (sym (own_is variables line core what (statement.CloseUnit unit keep iostat) e)) ∙ close_output core keep (unit_at core (number_of unit)))

pub end_front : {A E : Type 0} (r : Result A E) (taken : List ℕ) (variables : List Variable) (line : ℕ) (core : Core) (what : Statement) → what ≡ statement.End
    → OnErr r (HandsFront taken taken core.output (core_at (own (control_by what) variables line core what)).output)
end_front r taken variables line core what e =
    takes_nothing r taken core (own (control_by what) variables line core what)
    (ap (λ (d : Doing). (core_at d).output) (sym (own_is variables line core what statement.End e)) ∙ ended_output core core.units condition.Fine)

pub inquire_front : {A E : Type 0} (r : Result A E) (taken : List ℕ) (variables : List Variable) (line : ℕ) (core : Core) (what : Statement) (subject : Subject) (asked : List Wanted) (id : Option Operand) (iostat : Option Place) (is_done : Option Bool)
    → what ≡ statement.Inquire subject asked id iostat is_done → OnErr r (HandsFront taken taken core.output (core_at (own (control_by what) variables line core what)).output)
inquire_front r taken variables line core what subject asked id iostat is_done e =
    takes_nothing r taken core (own (control_by what) variables line core what)
    (ap (λ (d : Doing). (core_at d).output) (sym (own_is variables line core what (statement.Inquire subject asked id iostat is_done) e))
    ∙ inquires_output variables core (unit_about (unit_named core.units) subject) (file_asked subject) asked (number_given core.vars id) (unit_at core (unit_about (unit_named core.units) subject)))

pub instead_front : {A E : Type 0} (r : Result A E) (taken : List ℕ) (control : ℕ → List Given) (variables : List Variable) (line : ℕ) (core : Core) (what : Statement) (k : Condition) → (k ≡ condition.Fine → ⊥)
    → OnErr r (HandsFront taken taken core.output (core_at (doing control variables line core what k)).output)
instead_front r taken control variables line core what k never =
    takes_nothing r taken core (doing control variables line core what k)
    (ap (λ (d : Doing). (core_at d).output) (sym (doing_is control variables line core what k never)) ∙ instead_output variables core what k)

-- ---- kinds of statements

pub asks_about : (what : Statement) (subject : Subject) (asked : List Wanted) (id given : Option Operand) (iostat : Option Place) (is_done : Option Bool) → what ≡ statement.Inquire subject asked id iostat is_done → given ≡ id → AsksAbout what subject asked given
asks_about what subject asked id given iostat is_done e same = subst (λ (w : Statement). AsksAbout w subject asked given) (sym e) (refl, refl, sym same)

pub looks_nothing : (variables : List Variable) (core : Core) (what : Statement) (o : Outcome) → ((subject : Subject) (asked : List Wanted) (id : Option Operand) (iostat : Option Place) (is_done : Option Bool) → what ≡ statement.Inquire subject asked id iostat is_done → ⊥) → looks variables core what o ≡ finishes core condition.Fine
looks_nothing variables core (statement.OpenUnit unit spec iostat) o never = refl
looks_nothing variables core (statement.Assign to from) o never = refl
looks_nothing variables core (statement.CloseUnit unit keep iostat) o never = refl
looks_nothing variables core (statement.WaitFor unit id iostat) o never = refl
looks_nothing variables core (statement.Move how unit iostat) o never = refl
looks_nothing variables core (statement.Inquire subject asked id iostat is_done) o never = absurd (never subject asked id iostat is_done refl)
looks_nothing variables core (statement.Transfer t) o never = refl
looks_nothing variables core statement.End o never = refl

pub instead_nothing : (variables : List Variable) (core : Core) (what : Statement) (k : Condition)
    → ((unit : UnitRef) (keep : Option Bool) (iostat : Option Place) → what ≡ statement.CloseUnit unit keep iostat → ⊥)
    → ((subject : Subject) (asked : List Wanted) (id : Option Operand) (iostat : Option Place) (is_done : Option Bool) → what ≡ statement.Inquire subject asked id iostat is_done → ⊥)
    → ((t : Transfer) → what ≡ statement.Transfer t → ⊥) → (what ≡ statement.End → ⊥) → instead variables core what k ≡ finishes core k
instead_nothing variables core (statement.OpenUnit unit spec iostat) k close inquire transfer end = refl
instead_nothing variables core (statement.Assign to from) k close inquire transfer end = refl
instead_nothing variables core (statement.CloseUnit unit keep iostat) k close inquire transfer end = absurd (close unit keep iostat refl)
instead_nothing variables core (statement.WaitFor unit id iostat) k close inquire transfer end = refl
instead_nothing variables core (statement.Move how unit iostat) k close inquire transfer end = refl
instead_nothing variables core (statement.Inquire subject asked id iostat is_done) k close inquire transfer end = absurd (inquire subject asked id iostat is_done refl)
instead_nothing variables core (statement.Transfer t) k close inquire transfer end = absurd (transfer t refl)
instead_nothing variables core statement.End k close inquire transfer end = absurd (end refl)
