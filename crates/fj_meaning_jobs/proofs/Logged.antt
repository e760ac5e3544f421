-- The jobs that a statement gives are all that the logs get.
use Rattle.std.proofs.Common.{◌≡◌, ℕ, Bool, true, false, List, [], ◌∷◌, ◌++◌, Option, Some, None, slice_get, refl, sym, ap, ◌∙◌, subst}
use Rattle.std.specs.Prelude.{if◌then◌else◌}
use Rattle.fj_value.specs.declared.condition.Condition.{Condition}
use Rattle.fj_value.specs.declared.condition.Condition.TheVariants.{Fine, EndOfFile, EndOfRecord, Error}
use Rattle.fj_value.specs.declared.condition.Rule.{Rule}
use Rattle.fj_statement.specs.declared.unit.UnitRef.{UnitRef}
use Rattle.fj_statement.specs.declared.unit.Subject.{Subject}
use Rattle.fj_statement.specs.declared.unit.Subject.TheVariants as subject
use Rattle.fj_modes.specs.declared.specifiers.OpenSpec.{OpenSpec}
use Rattle.fj_control.specs.Steps.{Given}
use Rattle.fj_bay.specs.Jobs.{Job, resume}
use Rattle.fj_statement.specs.declared.deck.Variable.{Variable}
use Rattle.fj_statement.specs.declared.statement.Statement.{Statement}
use Rattle.fj_statement.specs.declared.statement.Statement.TheVariants as statement
use Rattle.fj_book.specs.Prohibitions.{prohibited}
use Rattle.fj_meaning.specs.Needs.{need, number_of, number_given, holders, unit_about, unit_asked}
use Rattle.fj_meaning.specs.State.{State, Entry, Files, found, start}
use Rattle.fj_meaning.specs.State as plain
use Rattle.fj_meaning.specs.Telling.{waited, waited_in, condition_of, tells_cause, after_tells}
use Rattle.fj_meaning.specs.Statement as meant
use Rattle.fj_meaning.specs.Statement.{Stated, Ending, executed, file_asked}
use Rattle.fj_meaning_jobs.specs.Core.{Connected, connected_at, unit_named}
use Rattle.fj_meaning_jobs.specs.Desks.{Desk, carry, outcome, resumed, log_length}
use Rattle.fj_meaning_jobs.specs.Doing.{Doing, Desked, acted, given, finishes, gives, awaits}
use Rattle.fj_meaning_jobs.specs.Acting.{own, instead, doing, if_numbered, opens_unit, inquires, unit_at}
use Rattle.fj_meaning_jobs.specs.Both.{Both}
use Rattle.fj_meaning_jobs.specs.Desking.{entries, told_core, acts, completed, goes_on, desk_step}
use Rattle.fj_meaning_jobs.specs.Giving.{numbered_jobs, open_unit_jobs, look_jobs, own_jobs, closing_jobs, jobs_behind, resume_one, resumes, unless_prohibited, jobs, IsGiven, carry_all, GivesJobs}
use Rattle.fj_meaning_jobs.proofs.Apart.{Each}
use Rattle.fj_meaning_jobs.proofs.Seen.{Seen, named_same}
use Rattle.fj_meaning_jobs.proofs.Tied.{Tied, Free}
use Rattle.fj_meaning_jobs.proofs.Resuming.{tells_tied}
use Rattle.fj_meaning_jobs.proofs.Steps.{Caused, Freed, freed, prohibited_same}
use Rattle.fj_meaning_jobs.proofs.Given.{Gives, transfer_given, closes_given, closes_anyway_given, ends_given, moves_given, inquires_given, units_found}
use Rattle.fj_meaning_jobs.proofs.GivenByOpen.{opens_unit_given}

-- ---- the desks then

pub acted_given : (desks : List Desk) (d : Doing) → (acted desks d).0.desks ≡ carry_all desks (given desks d)
acted_given desks (finishes core condition) = refl
acted_given desks (gives slot job core next) = acted_given (carry desks slot job) (next (log_length (slice_get desks slot)))
acted_given desks (awaits slot job core next) = acted_given (carry desks slot job) (next (outcome desks slot job))

carry_append : (desks : List Desk) (xs ys : List (ℕ × Job)) → carry_all desks (xs ++ ys) ≡ carry_all (carry_all desks xs) ys
carry_append desks [] ys = refl
carry_append desks (x ∷ xs) ys = carry_append (carry desks x.0 x.1) xs ys

both_append : {X Y : Type 0} → (R : X → Y → Type 0) (xs xs' : List X) (ys ys' : List Y) → Both R xs ys → Both R xs' ys' → Both R (xs ++ xs') (ys ++ ys')
both_append R [] xs' [] ys' h k = k
both_append R [] xs' (y ∷ ys) ys' h k = absurd h
both_append R (x ∷ xs) xs' [] ys' h k = absurd h
both_append R (x ∷ xs) xs' (y ∷ ys) ys' h k = (h.0, both_append R xs xs' ys ys' h.1 k)

-- ---- the halts that end

abbrev slots_resumed : List Entry → List Connected → List (ℕ × Job)
slots_resumed told [] = []
slots_resumed told (u ∷ us) = (if tells_cause told u.number then (u.slot, resume) ∷ [] else []) ++ slots_resumed told us

resumed_carried : (told : List Entry) (us : List Connected) (desks : List Desk) → resumed told us desks ≡ carry_all desks (slots_resumed told us)
resumed_carried told [] desks = refl
resumed_carried told (u ∷ us) desks = by (tells_cause told u.number) (λ ds. resumed_carried told us ds) ∙ sym (carry_append desks (if tells_cause told u.number then (u.slot, resume) ∷ [] else []) (slots_resumed told us))
  where
    by : (b : Bool) → ((ds : List Desk) → resumed told us ds ≡ carry_all ds (slots_resumed told us)) → resumed told us (if b then carry desks u.slot resume else desks) ≡ carry_all (carry_all desks (if b then (u.slot, resume) ∷ [] else [])) (slots_resumed told us)
    by true rest = rest (carry desks u.slot resume)
    by false rest = rest desks

resumes_given : (before after : List Connected) (told : List Entry) (us : List Connected) (vs : List plain.Unit) (desks : List Desk) → Seen desks us vs → Each (λ (u : Connected). connected_at before u.number ≡ Some u) us
    → Both (IsGiven before after) (slots_resumed told us) (resumes told vs)
resumes_given before after told [] [] desks b f = tt
resumes_given before after told [] (v ∷ vs) desks b f = absurd b
resumes_given before after told (u ∷ us) [] desks b f = absurd b
resumes_given before after told (u ∷ us) (v ∷ vs) desks b f =
    both_append (IsGiven before after) (if tells_cause told u.number then (u.slot, resume) ∷ [] else []) (slots_resumed told us) (resume_one told v) (resumes told vs)
    (by (tells_cause told u.number) (tells_cause told v.number) (ap (tells_cause told) b.0.number)) (resumes_given before after told us vs desks b.1 f.1)
  where
    by : (x y : Bool) → x ≡ y → Both (IsGiven before after) (if x then (u.slot, resume) ∷ [] else []) (if y then (v.number, resume) ∷ [] else [])
    by true true e = ((refl, (u, ap (connected_at before) (sym b.0.number) ∙ f.0, refl)), tt)
    by true false e = cc
    by false true e = cc
    by false false e = tt

-- ---- the statement's own jobs

module _ (control : ℕ → List Given) (variables : List Variable) (line : ℕ) where
  open_given : (p : Desked) (s : State) (u : UnitRef) (o : Option ℕ) (spec : OpenSpec) → Tied p s → ((n : ℕ) → o ≡ Some n → Free n s.units)
      → Gives p (if_numbered p.core o (λ n. opens_unit p.core u n spec (connected_at p.core.units n))) (numbered_jobs o (λ n. open_unit_jobs s u n spec (found s.units n)))
  open_given p s u None spec t free after is = tt
  open_given p s u (Some n) spec t free after is = opens_unit_given p s u n spec t (free n refl) after is

  own_given : (p : Desked) (s : State) (st : Statement) → Tied p s → Freed st s.units → Gives p (own control variables line p.core st) (own_jobs control variables line s st)
  own_given p s (statement.Assign to from) t free after is = tt
  own_given p s (statement.OpenUnit u spec iostat) t free after is = open_given p s u (number_of u) spec t free after is
  own_given p s (statement.CloseUnit u keep iostat) t free after is = closes_given p s keep (number_of u) t after is
  own_given p s (statement.WaitFor u id iostat) t free after is = tt
  own_given p s (statement.Move how u iostat) t free after is = moves_given p s how (number_of u) t after is
  own_given p s (statement.Inquire about asked id iostat _) t free after is =
      subst (λ n. Both (IsGiven p.core.units after) (given p.desks (inquires variables p.core (unit_about (unit_named p.core.units) about) (file_asked about) asked (number_given p.core.vars id) (unit_at p.core (unit_about (unit_named p.core.units) about)))) (look_jobs asked (meant.unit_at s n)))
      (asked_same about)
      (inquires_given variables p s (unit_about (unit_named p.core.units) about) (file_asked about) asked (number_given p.core.vars id) t after is)
    where
      asked_same : (about : Subject) → unit_about (unit_named p.core.units) about ≡ unit_asked s about
      asked_same (subject.Unit ref) = refl
      asked_same (subject.File name) = named_same p.desks p.core.units s.units name t.same.units
  own_given p s (statement.Transfer tr) t free after is = transfer_given control variables line p s tr t free after is
  own_given p s statement.End t free after is = ends_given p s Fine t after is

  instead_given : (p : Desked) (s : State) (st : Statement) (condition : Condition) → Tied p s → Gives p (instead variables p.core st condition) (closing_jobs s st)
  instead_given p s (statement.Assign to from) condition t after is = tt
  instead_given p s (statement.OpenUnit u spec iostat) condition t after is = tt
  instead_given p s (statement.CloseUnit u keep iostat) condition t after is = closes_anyway_given p s keep condition (number_of u) t after is
  instead_given p s (statement.WaitFor u id iostat) condition t after is = tt
  instead_given p s (statement.Move how u iostat) condition t after is = tt
  instead_given p s (statement.Inquire about asked id iostat _) condition t after is = tt
  instead_given p s (statement.Transfer tr) condition t after is = tt
  instead_given p s statement.End condition t after is = ends_given p s condition t after is

  doing_given : (p : Desked) (s : State) (st : Statement) (condition : Condition) → Tied p s → Freed st s.units → Gives p (doing control variables line p.core st condition) (jobs_behind control variables line s st condition)
  doing_given p s st Fine t free after is = own_given p s st t free after is
  doing_given p s st EndOfFile t free after is = instead_given p s st EndOfFile t after is
  doing_given p s st EndOfRecord t free after is = instead_given p s st EndOfRecord t after is
  doing_given p s st (Error n) t free after is = instead_given p s st (Error n) t after is

  went_given : (p : Desked) (s : State) (st : Statement) (rule : Option Rule) → Tied p s → Each (Caused s.book) s.units → GivesJobs p (goes_on control variables line st p rule).0 (unless_prohibited control variables line s st rule)
  went_given p s st (Some rule) t caused = record { given = []; are = tt; desks = refl }
  went_given p s st None t caused =
      subst (λ es. GivesJobs p (completed variables line st (acts control variables line st p es)).0 (unless_prohibited control variables line s st None)) (sym waits) (record {
        given = slots_resumed told p.core.units ++ given told_desks act;
        are = both_append (IsGiven p.core.units after) (slots_resumed told p.core.units) (given told_desks act) (resumes told s.units) (jobs_behind control variables line (after_tells variables line told s) st (condition_of told))
            (resumes_given p.core.units after told p.core.units s.units p.desks t.same.units (units_found p s t))
            (doing_given (record { core = told_core variables line told p.core; desks = told_desks }) (after_tells variables line told s) st (condition_of told) (tells_tied variables line told p s t) (freed s.book s.vars st s.units caused) after refl);
        desks = acted_given told_desks act ∙ ap (λ ds. carry_all ds (given told_desks act)) (resumed_carried told p.core.units p.desks) ∙ sym (carry_append p.desks (slots_resumed told p.core.units) (given told_desks act));
      })
    where
      told : List Entry
      told = waited s st

      told_desks : List Desk
      told_desks = resumed told p.core.units p.desks

      act : Doing
      act = doing control variables line (told_core variables line told p.core) st (condition_of told)

      after : List Connected
      after = (acted told_desks act).0.core.units

      waits : waited_in (entries p) p.core.vars st ≡ told
      waits = ap (λ b. waited_in b p.core.vars st) t.same.book ∙ ap (λ v. waited_in s.book v st) t.same.vars

-- ---- a statement

pub step_given : (variables : List Variable) (st : Stated) (p : Desked) (s : State) → Tied p s → Each (Caused s.book) s.units → GivesJobs p (desk_step variables st p).0 (jobs variables st s)
unfolding desk_step
step_given variables st p s t caused =
    subst (λ r. GivesJobs p (goes_on st.1 variables st.0.line st.0.what p r).0 (jobs variables st s)) (sym (prohibited_same variables p s st.0.what t))
    (went_given st.1 variables st.0.line p s st.0.what (prohibited s.vars (holders s.book) (need variables s st.0.what)) t caused)
