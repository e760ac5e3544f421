-- What the machine and its sink are where a run was cut.
use Rattle.std.proofs.Common.{◌≡◌, ◌≢◌, ◌⊎◌, ℕ, Bool, true, false, cond, List, [], ◌∷◌, ◌++◌, map, length, drop, Option, Some, None, refl, sym, ap, ◌∙◌, subst, inl, inr, append_assoc, append-nil}
use Rattle.fj_outside.specs.Faults.{Rose}
use Rattle.fj_outside.specs.Holdings.{Holdings}
use Rattle.fj_outside.specs.declared.outside.FileStore.{Ghosts}
use Rattle.fj_statement.specs.declared.deck.Deck.{Deck}
use Rattle.fj_slot.specs.Serving.{Meaning}
use Rattle.fj_world.specs.Rack.{Rack}
use Rattle.fj_bay.specs.Bay.{Bay}
use Rattle.fj_bay.specs.Jobs.{Job, Answer}
use Rattle.fj_meaning.specs.State.{Files}
use Rattle.fj_meaning.specs.Statement.{Stated, stated, step}
use Rattle.fj_meaning.specs.Telling.{tell_of}
use Rattle.fj_meaning_jobs.specs.Core.{Core}
use Rattle.fj_meaning_jobs.specs.Desking.{fresh}
use Rattle.fj_meaning_turns.specs.Run.{Run}
use Rattle.fj_meaning_turns.specs.Passing.{turn_output, AsksAt, KnowsAnswers}
use Rattle.fj_meaning_turns.specs.Inside.{waited_at}
use Rattle.fj_meaning_turns.specs.Meant.{IsCutOf}
use Rattle.fj_meaning_turns.proofs.Meant.{cuts_agree}
use Rattle.fj_run_pending.specs.Plain.{tells_of}
use Rattle.fj_run_items.specs.Handing.{whole_records, HandsOver, HandsFront, HandsPart}
use Rattle.fj_run_items.specs.declared.lost.Lost.{Lost}
use Rattle.fj_run_statements.specs.Calling.{calls_disk}
use Rattle.fj_run_statements.specs.State.{core_of}
use Rattle.fj_run_script.specs.Failing.{FailsCall, FailsAtDisk, HandsThen, CallsDisk}
use Rattle.fj_run_script.specs.Machine.{numbered, rest_of}
use Rattle.fj_run_script.specs.declared.machine.Machine.{Machine}
use Rattle.fj_job.specs.Cut.{Untold, Told, Carried, ComesTo}
use Rattle.fj_job.specs.Fitting.{kept_name, AreOut}
use Rattle.fj_job.specs.Cutting.{IsExact, TookFront, TookBegun, IsCut}
use Rattle.fj_job.proofs.CutTexts.{at_hand}
use Rattle.fj_job.proofs.Holding.{HoldsAt, CauseAt, cause_there, holds_there, holds_told}
use Rattle.fj_job.proofs.Learning.{LearnsAt}

-- ---- what is shown

pub shown : (b : Bool) (o : Option Run) (r : Run) → cond b o None ≡ Some r → o ≡ Some r
shown true o r e = e
shown false o r e = cc

pub lost_none : {o : Option Lost} {lost : Lost} {P : Type 0} → o ≡ None → o ≡ Some lost → P
lost_none {lost = lost} none some = absurd (let z : None ≡ Some lost = sym none ∙ some in cc)

-- ---- so many statements are left

numbered_long : (o : Option ℕ) (sts : List Stated) → length (numbered o sts) ≡ length sts
numbered_long None sts = refl
numbered_long (Some n) [] = refl
numbered_long (Some n) (st ∷ more) = refl

pub left_behind : {F : Type 0} {ghosts : Ghosts F} (deck : Deck) (m : Machine F ghosts) → m.deck ≡ deck → length (drop m.at.place (stated deck.statements)) ≡ length (rest_of m)
left_behind deck m same = ap (λ (d : Deck). length (drop m.at.place (stated d.statements))) (sym same) ∙ sym (numbered_long m.at.number (drop m.at.place (stated m.deck.statements)))

-- ---- at a statement

module _ {E J A F : Type 0} {ghosts : Ghosts F} (meaning : Meaning E J A Bay Job Answer) (rack : Rack E J A) (held : Holdings) (before now : ℕ) (Tells : Type 0) (old new : List ℕ)
    (deck : Deck) (files : Files) (m : Machine F ghosts) (same : m.deck ≡ deck) where
  hand : (comes : ComesTo deck files) (run : Run) → run.rest ≡ rest_of m → length run.rest ≡ length (drop comes.index (stated deck.statements))
      → length (drop m.at.place (stated deck.statements)) ≡ length (drop comes.index (stated deck.statements))
  hand comes run rest place = left_behind deck m same ∙ ap length (sym rest) ∙ place

  -- a stop was told there: nothing was done
  pub cut_asking : (run : Run) (left : Files) → AsksAt deck.variables (stated deck.statements) (fresh deck.variables files) run → run.core ≡ core_of left m.state.core → run.rest ≡ rest_of m
      → (Tells → new ≡ old ++ whole_records m.state.core.output) → m.tally.lost ≡ None → (h : HoldsAt meaning rack held before now deck files m run.rest) → AreOut (kept_name m.kept) m.state.core.names m.state.core.units
      → CauseAt meaning rack held before now deck files m run.rest → IsCut meaning rack held before now Tells old new deck files m
  cut_asking run left x core rest took none holds out why =
      let it : IsCutOf deck.variables (stated deck.statements) files x.index x.statement x.before = cuts_agree deck.variables (stated deck.statements) files x.index x.statement x.before x.reached in
      let comes : ComesTo deck files = record { index = x.index; statement = x.statement; before = it.state; there = it.cut_is } in
      let output : m.state.core.output ≡ it.state.output = sym (ap (λ (c : Core). c.output) core) ∙ x.output ∙ it.same.output in
      let tells : tells_of m.state.core.tells ≡ run.core.tells = sym (ap (λ (c : Core). c.tells) core) in
      let there = holds_there meaning rack held before now deck files m run.rest holds comes x.rest in
      let cause = cause_there meaning rack held before now deck files m run.rest why comes x.rest in
      record {
        comes = comes;
        at = at_hand deck files comes m.at.place (hand comes run rest x.rest);
        exact = λ _. elim x.tells [
          | inl e ↦ record { reach = Untold; may = tt; output = output; tells = tells ∙ e ∙ it.same.tells; taken = took; files_are = there; cause = inr cause }
          | inr e ↦ record {
            reach = Told;
            may = tt;
            output = output;
            tells = tells ∙ e ∙ ap (λ ts. ts ++ map (tell_of x.statement.0.line) (waited_at x.statement x.before)) it.same.tells ∙ ap (λ es. it.state.tells ++ map (tell_of x.statement.0.line) es) it.waited_is;
            taken = took;
            files_are = holds_told meaning rack held before now deck files m comes there;
            cause = inr cause;
          }
        ];
        holds = λ lost some. lost_none none some;
        fit = record { held = holds.holding; out = out };
        begun = λ t s. lost_none none s;
        front = λ t. record { reach = Untold; part = whole_records m.state.core.output; rest = []; due = ap whole_records (sym output) ∙ sym (append-nil _); taken = took t };
      }

  -- ---- where a call gave up

  more_taken_to : (taken more before part : List ℕ) → taken ≡ old ++ before → more ≡ taken ++ part → more ≡ old ++ (before ++ part)
  more_taken_to taken more before part a b = b ∙ ap (λ x. x ++ part) a ∙ append_assoc old before part

  more_taken : (taken before part : List ℕ) → taken ≡ old ++ before → new ≡ taken ++ part → new ≡ old ++ (before ++ part)
  more_taken taken before part = more_taken_to taken new before part

  module _ (taken : List ℕ) (was : Machine F ghosts) (early late : ℕ) (TellsThen : Type 0) (on : Tells → TellsThen) (took : Tells → taken ≡ old ++ whole_records was.state.core.output)
      (wide : Rose early late → Rose before now) where
    exact_fails : (run : Run) (x : LearnsAt deck.variables (stated deck.statements) (fresh deck.variables files) run)
        → (it : IsCutOf deck.variables (stated deck.statements) files x.index x.statement x.before) → KnowsAnswers run → FailsAtDisk TellsThen taken new early late run was m
        → HoldsAt meaning rack held before now deck files m run.rest → IsExact meaning rack held before now Tells old new deck files (record { index = x.index; statement = x.statement; before = it.state; there = it.cut_is }) m
    exact_fails run x it known k holds =
        let comes : ComesTo deck files = record { index = x.index; statement = x.statement; before = it.state; there = it.cut_is } in
        let there = holds_there meaning rack held before now deck files m run.rest holds comes x.rest in
        let output : m.state.core.output ≡ it.state.output = k.output ∙ x.output ∙ it.same.output in
        elim (x.tells known) [
          | inl e ↦ record { reach = Untold; may = tt; output = output; tells = k.tells ∙ e ∙ it.same.tells; taken = all; files_are = there; cause = inr (inr (inr (called, wide k.rose))) }
          | inr e ↦ record {
            reach = Told;
            may = tt;
            output = output;
            tells = k.tells ∙ e ∙ ap (λ ts. ts ++ map (tell_of x.statement.0.line) (waited_at x.statement x.before)) it.same.tells ∙ ap (λ es. it.state.tells ++ map (tell_of x.statement.0.line) es) it.waited_is;
            taken = all;
            files_are = holds_told meaning rack held before now deck files m comes there;
            cause = inr (inr (inr (called, wide k.rose)));
          }
        ]
      where
        calls_by : (rest : List Stated) → run.rest ≡ rest → CallsDisk rest → calls_disk x.statement.0.what ≡ true
        calls_by [] e c = absurd c
        calls_by (st ∷ more) e c = x.calls st more e ∙ c

        called : calls_disk x.statement.0.what ≡ true
        called = calls_by run.rest refl k.called

        all : Tells → new ≡ old ++ whole_records m.state.core.output
        all t =
            let h : HandsOver taken new was.state.core.output run.core.output = k.handed (on t) in
            more_taken taken (whole_records was.state.core.output) h.0 (took t) h.2 ∙ ap (λ w. old ++ w) (sym h.1 ∙ ap whole_records (sym k.output))

    front_fails : (run : Run) (x : LearnsAt deck.variables (stated deck.statements) (fresh deck.variables files) run)
        → (it : IsCutOf deck.variables (stated deck.statements) files x.index x.statement x.before) → Tells
        → HandsFront taken new was.state.core.output (turn_output run) ⊎ HandsOver taken new was.state.core.output run.core.output
        → TookFront old new deck files (record { index = x.index; statement = x.statement; before = it.state; there = it.cut_is })
    front_fails run x it t (inl (part, rest, due, is)) = record {
      reach = Carried;
      part = whole_records was.state.core.output ++ part;
      rest = rest;
      due = ap whole_records (sym (x.due ∙ it.output)) ∙ due ∙ sym (append_assoc (whole_records was.state.core.output) part rest);
      taken = more_taken taken (whole_records was.state.core.output) part (took t) is;
    }
    front_fails run x it t (inr (part, due, is)) = record {
      reach = Untold;
      part = whole_records was.state.core.output ++ part;
      rest = [];
      due = ap whole_records (sym (x.output ∙ it.same.output)) ∙ due ∙ sym (append-nil _);
      taken = more_taken taken (whole_records was.state.core.output) part (took t) is;
    }

    begun_fails : (run : Run) (x : LearnsAt deck.variables (stated deck.statements) (fresh deck.variables files) run)
        → (it : IsCutOf deck.variables (stated deck.statements) files x.index x.statement x.before) → Tells → HandsThen taken new was.state.core.output run.core.output (turn_output run)
        → TookBegun old new deck files (record { index = x.index; statement = x.statement; before = it.state; there = it.cut_is })
    begun_fails run x it t (between, (over, whole, is), front) =
        let output : run.core.output ≡ it.state.output = x.output ∙ it.same.output in
        let all : between ≡ old ++ whole_records it.state.output =
        more_taken_to taken between (whole_records was.state.core.output) over (took t) is ∙ ap (λ w. old ++ w) (sym whole ∙ ap whole_records output) in
        subst (λ b. HandsPart b new it.state.output (step deck.variables x.statement it.state).0.output) all
        (subst (λ o. HandsPart between new o (step deck.variables x.statement it.state).0.output) output
        (subst (λ o. HandsPart between new run.core.output o) (x.due ∙ it.output) front))

    pub cut_failing : (r : Run) (f : FailsCall (λ lost. m.tally.lost ≡ Some lost) TellsThen taken new held early late r was m) → LearnsAt deck.variables (stated deck.statements) (fresh deck.variables files) f.run → m.tally.lost ≢ None
        → HoldsAt meaning rack held before now deck files m f.run.rest → AreOut (kept_name m.kept) m.state.core.names m.state.core.units → IsCut meaning rack held before now Tells old new deck files m
    cut_failing r f x lost holds out =
        let it : IsCutOf deck.variables (stated deck.statements) files x.index x.statement x.before = cuts_agree deck.variables (stated deck.statements) files x.index x.statement x.before x.reached in
        let comes : ComesTo deck files = record { index = x.index; statement = x.statement; before = it.state; there = it.cut_is } in
        record {
          comes = comes;
          at = at_hand deck files comes m.at.place (hand comes f.run (sym f.rest) x.rest);
          exact = λ how. elim how [ inl none ↦ absurd (lost none) | inr disk ↦ exact_fails f.run x it (f.outside (inl disk)).known (f.disk disk) holds ];
          holds = λ lost some. holds_there meaning rack held before now deck files m f.run.rest holds comes x.rest;
          fit = record { held = holds.holding; out = out };
          begun = λ t s. begun_fails f.run x it t (f.sink s (on t));
          front = λ t. front_fails f.run x it t (f.front (on t));
        }
