-- Each statement over desks is what it means.
use Rattle.std.proofs.Common.{◌≡◌, ◌⊎◌, ℕ, Bool, true, false, List, [], ◌∷◌, map, Option, Some, None, refl, sym, ap, ◌∙◌, subst, inl, inr, ◌&&◌, ◌||◌}
use Rattle.std.specs.Prelude.{◌==◌, if◌then◌else◌, filter}
use Rattle.fj_value.specs.Condition.{code_of}
use Rattle.fj_value.specs.declared.condition.Condition.{Condition}
use Rattle.fj_value.specs.declared.condition.Condition.TheVariants.{Fine, EndOfFile, EndOfRecord, Error}
use Rattle.fj_value.specs.declared.condition.Rule.{Rule}
use Rattle.fj_statement.specs.declared.unit.Subject.{Subject}
use Rattle.fj_statement.specs.declared.unit.Subject.TheVariants as subject
use Rattle.fj_control.specs.Steps.{Given}
use Rattle.fj_bay.specs.Halt.{halts}
use Rattle.fj_statement.specs.declared.deck.Variable.{Variable}
use Rattle.fj_statement.specs.declared.statement.Statement.{Statement}
use Rattle.fj_statement.specs.declared.statement.Statement.TheVariants as statement
use Rattle.fj_store.specs.Variables.{Variables}
use Rattle.fj_meaning.specs.Inquiring.{none_pending}
use Rattle.fj_meaning.specs.Items.{given_back, operand_places, value_of}
use Rattle.fj_book.specs.Prohibitions.{prohibited}
use Rattle.fj_meaning.specs.Needs.{need, need_by, inquiry_need, number_of, subject_places, unit_about, unit_of_file, holders}
use Rattle.fj_meaning.specs.State.{State, Entry, found}
use Rattle.fj_meaning.specs.State as plain
use Rattle.fj_meaning.specs.Telling.{waited, waited_in, of_unit, condition_of, tells_cause, after_tells, is_asynchronous}
use Rattle.fj_meaning.specs.Connecting as plainly
use Rattle.fj_modes.specs.declared.specifiers.OpenSpec.{OpenSpec}
use Rattle.fj_meaning.specs.Transfers.{with_number}
use Rattle.fj_meaning.specs.Statement as meant
use Rattle.fj_meaning.specs.Statement.{Stated, Ending, assigned, iostat_of, new_place, next_new, with_new_unit, ends, step}
use Rattle.fj_meaning_jobs.specs.Core.{Connected, connected_at, unit_named, pending_holders}
use Rattle.fj_meaning_jobs.specs.Desks.{Desk, resumed}
use Rattle.fj_meaning_jobs.specs.Doing.{Desked, acted}
use Rattle.fj_statement.specs.declared.unit.UnitRef.{UnitRef}
use Rattle.fj_meaning_jobs.specs.Acting.{own, instead, doing, if_numbered, opens_unit}
use Rattle.fj_meaning_jobs.specs.Desking.{entries, told_core, acts, completed, goes_on, desk_step}
use Rattle.fj_meaning_jobs.proofs.Apart.{Each, each_map, each_imp}
use Rattle.fj_meaning_jobs.proofs.Seen.{Seen, named_same}
use Rattle.fj_meaning_jobs.proofs.Tied.{Tied, ActTied, Free, with_new, with_vars, holders_same}
use Rattle.fj_meaning_jobs.proofs.Resuming.{without_halt, tells_tied}
use Rattle.fj_meaning_jobs.proofs.Transferring.{transfer_tied, nothing_tied}
use Rattle.fj_meaning_jobs.proofs.Positioning.{moves_tied, inquires_tied}
use Rattle.fj_meaning_jobs.proofs.Closing.{closes_tied, closes_anyway_tied, ends_tied, AllFree}
use Rattle.fj_meaning_jobs.proofs.Opening.{opens_unit_tied}

-- ---- which units are not halted once a statement's transfers were told

-- a unit is not halted, or a pending transfer of it will tell why
abbrev pub Caused : List Entry → plain.Unit → Type 0
Caused book v = (v.halt ≡ None) ⊎ (tells_cause book v.number ≡ true)

cause_of_unit : (number : ℕ) (book : List Entry) → tells_cause book number ≡ true → tells_cause (filter (λ (e : Entry). e.unit == number) book) number ≡ true
cause_of_unit number [] h = h
cause_of_unit number (e ∷ es) h = by (e.unit == number) refl h (λ k. cause_of_unit number es k)
  where
    rest : (a b : Bool) → (a || tells_cause es number) ≡ true → (a ≡ true → ⊥) → tells_cause es number ≡ true
    rest true b h f = absurd (f refl)
    rest false b h f = h

    by : (b : Bool) → (e.unit == number) ≡ b → ((b && halts e.condition) || tells_cause es number) ≡ true
        → (tells_cause es number ≡ true → tells_cause (filter (λ (x : Entry). x.unit == number) es) number ≡ true)
        → tells_cause (if b then e ∷ filter (λ (x : Entry). x.unit == number) es else filter (λ (x : Entry). x.unit == number) es) number ≡ true
    by true q h f = ap (λ k. (k && halts e.condition) || tells_cause (filter (λ (x : Entry). x.unit == number) es) number) q ∙ which (halts e.condition) h
      where
        which : (c : Bool) → (c || tells_cause es number) ≡ true → (c || tells_cause (filter (λ (x : Entry). x.unit == number) es) number) ≡ true
        which true h = refl
        which false h = f h
    by false q h f = f h

-- a halt that was told of has ended
free_one : (told : List Entry) (v : plain.Unit) → Caused told v → (without_halt told v).halt ≡ None
free_one told v (inl none) = by (tells_cause told v.number)
  where
    by : (b : Bool) → (if b then None else v.halt) ≡ None
    by true = refl
    by false = none
free_one told v (inr tells) = ap (λ b. if b then None else v.halt) tells

pub free_unit : (book : List Entry) (number : ℕ) (vs : List plain.Unit) → Each (Caused book) vs → Free number (map (without_halt (of_unit book (Some number))) vs)
free_unit book number vs h =
    each_map (λ (v : plain.Unit). v.number ≡ number → v.halt ≡ None) (without_halt (of_unit book (Some number))) vs
    (each_imp (Caused book) (λ (v : plain.Unit). v.number ≡ number → (without_halt (of_unit book (Some number)) v).halt ≡ None) vs (λ v k e. free_one (of_unit book (Some number)) v (of v e k)) h)
  where
    of : (v : plain.Unit) → v.number ≡ number → Caused book v → Caused (of_unit book (Some number)) v
    of v e (inl none) = inl none
    of v e (inr tells) = inr (subst (λ n. tells_cause (of_unit book (Some number)) n ≡ true) (sym e) (cause_of_unit number book (subst (λ n. tells_cause book n ≡ true) e tells)))

pub free_all : (book : List Entry) (vs : List plain.Unit) → Each (Caused book) vs → AllFree (map (without_halt book) vs)
free_all book vs h = each_map (λ (v : plain.Unit). v.halt ≡ None) (without_halt book) vs (each_imp (Caused book) (λ (v : plain.Unit). (without_halt book v).halt ≡ None) vs (λ v k. free_one book v k) h)

-- what a statement's own action needs
abbrev pub Freed : Statement → List plain.Unit → Type 0
Freed (statement.Assign to from) vs = Unit {0}
Freed (statement.OpenUnit u spec iostat) vs = (n : ℕ) → number_of u ≡ Some n → Free n vs
Freed (statement.CloseUnit u keep iostat) vs = (n : ℕ) → number_of u ≡ Some n → Free n vs
Freed (statement.WaitFor u id iostat) vs = Unit {0}
Freed (statement.Move how u iostat) vs = Unit {0}
Freed (statement.Inquire about asked id iostat _) vs = Unit {0}
Freed (statement.Transfer t) vs = is_asynchronous t ≡ false → (n : ℕ) → number_of t.unit ≡ Some n → Free n vs
Freed statement.End vs = AllFree vs

freed_of : (book : List Entry) (number : Option ℕ) (vs : List plain.Unit) → Each (Caused book) vs → (n : ℕ) → number ≡ Some n → Free n (map (without_halt (of_unit book number)) vs)
freed_of book None vs h n e = cc
freed_of book (Some m) vs h n e = let same : m ≡ n = cc in subst (λ k. Free k (map (without_halt (of_unit book (Some m))) vs)) same (free_unit book m vs h)

pub freed : (book : List Entry) (vars : Variables) (st : Statement) (vs : List plain.Unit) → Each (Caused book) vs → Freed st (map (without_halt (waited_in book vars st)) vs)
freed book vars (statement.Assign to from) vs h = tt
freed book vars (statement.OpenUnit u spec iostat) vs h = λ n e. freed_of book (number_of u) vs h n e
freed book vars (statement.CloseUnit u keep iostat) vs h = λ n e. freed_of book (number_of u) vs h n e
freed book vars (statement.WaitFor u id iostat) vs h = tt
freed book vars (statement.Move how u iostat) vs h = tt
freed book vars (statement.Inquire about asked id iostat _) vs h = tt
freed book vars (statement.Transfer t) vs h = λ q n e. by (is_asynchronous t) q n e
  where
    by : (b : Bool) → b ≡ false → (n : ℕ) → number_of t.unit ≡ Some n → Free n (map (without_halt (if b then [] else of_unit book (number_of t.unit))) vs)
    by true q n e = cc
    by false q n e = freed_of book (number_of t.unit) vs h n e
freed book vars statement.End vs h = free_all book vs h

-- ---- the statement's own action

module _ (control : ℕ → List Given) (variables : List Variable) (line : ℕ) where
  open_tied : (p : Desked) (s : State) (u : UnitRef) (o : Option ℕ) (spec : OpenSpec) → Tied p s → ((n : ℕ) → o ≡ Some n → Free n s.units)
      → ActTied (acted p.desks (if_numbered p.core o (λ n. opens_unit p.core u n spec (connected_at p.core.units n)))) (meant.if_numbered s o (λ n. plainly.opens_unit s u n spec (found s.units n)))
  open_tied p s u None spec t free = (refl, t)
  open_tied p s u (Some n) spec t free = opens_unit_tied p s u n spec t (free n refl)

  own_tied : (p : Desked) (s : State) (st : Statement) → Tied p s → Freed st s.units → ActTied (acted p.desks (own control variables line p.core st)) (meant.own control variables s st)
  own_tied p s (statement.Assign to from) t free = (
    refl,
    with_vars p s (assigned variables (operand_places variables to) (value_of p.core.vars from) p.core.vars) (assigned variables (operand_places variables to) (value_of s.vars from) s.vars)
        (ap (λ v. assigned variables (operand_places variables to) (value_of v from) v) t.same.vars) t,
  )
  own_tied p s (statement.OpenUnit u spec iostat) t free = open_tied p s u (number_of u) spec t free
  own_tied p s (statement.CloseUnit u keep iostat) t free = closes_tied p s keep (number_of u) t free
  own_tied p s (statement.WaitFor u id iostat) t free = (refl, t)
  own_tied p s (statement.Move how u iostat) t free = moves_tied p s how (number_of u) t
  own_tied p s (statement.Inquire about asked id iostat _) t free = inquires_tied variables p s about asked id t
  own_tied p s (statement.Transfer tr) t free = transfer_tied control variables line p s tr t free
  own_tied p s statement.End t free = ends_tied p s Fine t free

  instead_tied : (p : Desked) (s : State) (st : Statement) (condition : Condition) → Tied p s → Freed st s.units → ActTied (acted p.desks (instead variables p.core st condition)) (meant.instead variables s st, condition)
  instead_tied p s (statement.Assign to from) condition t free = (refl, t)
  instead_tied p s (statement.OpenUnit u spec iostat) condition t free = (refl, t)
  instead_tied p s (statement.CloseUnit u keep iostat) condition t free = closes_anyway_tied p s keep condition (number_of u) t free
  instead_tied p s (statement.WaitFor u id iostat) condition t free = (refl, t)
  instead_tied p s (statement.Move how u iostat) condition t free = (refl, t)
  instead_tied p s (statement.Inquire about asked id iostat _) condition t free = (
    refl,
    with_vars p s (given_back variables (none_pending asked) p.core.vars) (given_back variables (none_pending asked) s.vars) (ap (given_back variables (none_pending asked)) t.same.vars) t,
  )
  instead_tied p s (statement.Transfer tr) condition t free = nothing_tied control variables line p s tr condition t
  instead_tied p s statement.End condition t free = ends_tied p s condition t free

  doing_tied : (p : Desked) (s : State) (st : Statement) (condition : Condition) → Tied p s → Freed st s.units → ActTied (acted p.desks (doing control variables line p.core st condition)) (meant.acts control variables s st condition)
  doing_tied p s st Fine t free = own_tied p s st t free
  doing_tied p s st EndOfFile t free = instead_tied p s st EndOfFile t free
  doing_tied p s st EndOfRecord t free = instead_tied p s st EndOfRecord t free
  doing_tied p s st (Error n) t free = instead_tied p s st (Error n) t free

  -- the same ending, and the ties
  abbrev pub StepTied : Desked × Option Ending → State × Option Ending → Type 0
  StepTied x y = (x.1 ≡ y.1) × Tied x.0 y.0

  completed_tied : (st : Statement) (x : Desked × Condition) (y : State × Condition) → ActTied x y → StepTied (completed variables line st x) (meant.completed variables line st y)
  completed_tied st x y h = (
    ap (ends line st) h.0,
    with_vars (record { core = record (x.0.core) { new_unit = next_new (new_place st x.1) x.0.core.new_unit }; desks = x.0.desks }) (record (y.0) { new_unit = next_new (new_place st y.1) y.0.new_unit })
        (defined_vars x.1 x.0.core.new_unit x.0.core.vars) (defined_vars y.1 y.0.new_unit y.0.vars)
        (ap (λ c. defined_vars c x.0.core.new_unit x.0.core.vars) h.0 ∙ ap (λ n. defined_vars y.1 n x.0.core.vars) h.1.same.new_unit ∙ ap (defined_vars y.1 y.0.new_unit) h.1.same.vars)
        (with_new x.0 y.0 (next_new (new_place st x.1) x.0.core.new_unit) (next_new (new_place st y.1) y.0.new_unit)
        (ap (λ c. next_new (new_place st c) x.0.core.new_unit) h.0 ∙ ap (next_new (new_place st y.1)) h.1.same.new_unit) h.1),
  )
    where
      defined_vars : Condition → ℕ → Variables → Variables
      defined_vars condition code vars = with_number variables (iostat_of st) (code_of condition) (with_new_unit variables st condition code vars)

  acts_tied : (p : Desked) (s : State) (st : Statement) → Tied p s → Each (Caused s.book) s.units
      → ActTied (acts control variables line st p (waited s st)) (meant.acts control variables (after_tells variables line (waited s st) s) st (condition_of (waited s st)))
  acts_tied p s st t caused =
      doing_tied (record { core = told_core variables line (waited s st) p.core; desks = resumed (waited s st) p.core.units p.desks }) (after_tells variables line (waited s st) s) st (condition_of (waited s st))
      (tells_tied variables line (waited s st) p s t) (freed s.book s.vars st s.units caused)

  went_tied : (p : Desked) (s : State) (st : Statement) (rule : Option Rule) → Tied p s → Each (Caused s.book) s.units → StepTied (goes_on control variables line st p rule) (meant.goes_on control variables line st s rule)
  went_tied p s st (Some rule) t caused = (refl, t)
  went_tied p s st None t caused =
      subst (λ es. StepTied (completed variables line st (acts control variables line st p es)) (meant.completed variables line st (meant.acts control variables (after_tells variables line (waited s st) s) st (condition_of (waited s st)))))
      (sym waits) (completed_tied st (acts control variables line st p (waited s st)) (meant.acts control variables (after_tells variables line (waited s st) s) st (condition_of (waited s st))) (acts_tied p s st t caused))
    where
      waits : waited_in (entries p) p.core.vars st ≡ waited s st
      waits = ap (λ b. waited_in b p.core.vars st) t.same.book ∙ ap (λ v. waited_in s.book v st) t.same.vars

-- ---- prohibitions

need_same : (variables : List Variable) (vars : Variables) (desks : List Desk) (us : List Connected) (vs : List plain.Unit) (st : Statement) → Seen desks us vs
    → need_by variables vars (unit_named us) st ≡ need_by variables vars (unit_of_file vs) st
need_same variables vars desks us vs (statement.Assign to from) b = refl
need_same variables vars desks us vs (statement.OpenUnit u spec iostat) b = refl
need_same variables vars desks us vs (statement.CloseUnit u keep iostat) b = refl
need_same variables vars desks us vs (statement.WaitFor u id iostat) b = refl
need_same variables vars desks us vs (statement.Move how u iostat) b = refl
need_same variables vars desks us vs (statement.Inquire about asked id iostat _) b = ap (λ n. inquiry_need variables vars n (subject_places about) asked id iostat) (by about)
  where
    by : (about : Subject) → unit_about (unit_named us) about ≡ unit_about (unit_of_file vs) about
    by (subject.Unit ref) = refl
    by (subject.File name) = named_same desks us vs name b
need_same variables vars desks us vs (statement.Transfer t) b = refl
need_same variables vars desks us vs statement.End b = refl

pub prohibited_same : (variables : List Variable) (p : Desked) (s : State) (st : Statement) → Tied p s
    → prohibited p.core.vars (pending_holders p.core.book) (need_by variables p.core.vars (unit_named p.core.units) st) ≡ prohibited s.vars (holders s.book) (need variables s st)
prohibited_same variables p s st t =
    ap (λ v. prohibited v (pending_holders p.core.book) (need_by variables v (unit_named p.core.units) st)) t.same.vars
    ∙ ap (λ h. prohibited s.vars h (need_by variables s.vars (unit_named p.core.units) st)) (holders_same p s t.same)
    ∙ ap (prohibited s.vars (holders s.book)) (need_same variables s.vars p.desks p.core.units s.units st t.same.units)

-- ---- a statement

pub step_tied : (variables : List Variable) (st : Stated) (p : Desked) (s : State) → Tied p s → Each (Caused s.book) s.units
    → ((desk_step variables st p).1 ≡ (step variables st s).1) × Tied (desk_step variables st p).0 (step variables st s).0
unfolding desk_step step
step_tied variables st p s t caused =
    subst (λ r. StepTied st.1 variables st.0.line (goes_on st.1 variables st.0.line st.0.what p r) (meant.goes_on st.1 variables st.0.line st.0.what s (prohibited s.vars (holders s.book) (need variables s st.0.what))))
    (sym (prohibited_same variables p s st.0.what t))
    (went_tied st.1 variables st.0.line p s st.0.what (prohibited s.vars (holders s.book) (need variables s st.0.what)) t caused)
