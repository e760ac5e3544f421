-- What a deck that was carried out on slots replies.
use Rattle.std.proofs.Common.{◌≡◌, ℕ, zero, suc, ◌-◌, ◌<◌, Bool, true, false, List, [], ◌∷◌, ◌++◌, length, take, drop, Option, Some, None, IsSome, slice_get, unwrap_or, refl, ap, sym, ◌∙◌, subst, append_assoc, arith}
use Rattle.std.proofs.Math.Seq.{take-length}
use Rattle.std.specs.Option.{option_map}
use Rattle.std.specs.Ordering.{nat_cmp}
use Rattle.std.specs.Cmp.Lexicographic.{slice_cmp}
use Rattle.std.specs.FinMap as map
use Rattle.fj_outside.specs.declared.outside.FileStore.{Ghosts}
use Rattle.fj_outside.specs.Holdings.{Files as Held}
use Rattle.fj_statement.specs.declared.deck.Deck.{Deck}
use Rattle.fj_slot.specs.Serving.{Meaning}
use Rattle.fj_store.specs.Storage.{values_of}
use Rattle.fj_bay.specs.Bay.{Bay}
use Rattle.fj_bay.specs.Jobs.{Job, Answer}
use Rattle.fj_meaning.specs.State.{Files, Output, Unit}
use Rattle.fj_meaning.specs.Statement.{Result, Ending, ended, error_stop, prohibition, plain_execution, stated}
use Rattle.fj_meaning_jobs.specs.Both.{Both}
use Rattle.fj_meaning_jobs.specs.Core.{Core, Connected}
use Rattle.fj_meaning_jobs.specs.Desks.{Desk}
use Rattle.fj_meaning_jobs.specs.Desking.{all_left}
use Rattle.fj_meaning_jobs.specs.Forgetting.{IsSeen, bay_at}
use Rattle.fj_world.specs.Rack.{Rack}
use Rattle.fj_meaning_turns.specs.Executing.{HoldsDesks}
use Rattle.fj_meaning_cut.specs.Stopping.{HoldsGiven}
use Rattle.fj_meaning_turns.specs.Run.{Run, Stage}
use Rattle.fj_meaning_turns.specs.Serving.{first_run}
use Rattle.fj_run_items.specs.Handing.{HandsOver, whole_records, open_record}
use Rattle.fj_run_pending.specs.Plain.{tells_of}
use Rattle.fj_run_statements.specs.State.{core_of}
use Rattle.fj_run_statements.specs.declared.state.Core.{Core as Kept}
use Rattle.fj_run_end.specs.Closing.{AreSeated, AreNamed}
use Rattle.fj_run_end.proofs.Returning.{named}
use Rattle.fj_report.specs.declared.status.Status.{Status}
use Rattle.fj_run_script.specs.Machine.{rest_of, run_of, run_at, stage_at, ending_of}
use Rattle.fj_run_script.specs.declared.ending.Ending.{Ending as Code}
use Rattle.fj_run_script.specs.declared.left.Left.{Left}
use Rattle.fj_run_script.specs.declared.machine.Machine.{Machine}
use Rattle.fj_job.specs.Carrying.{HasRun, HasNotBegun}
use Rattle.fj_job.proofs.Closed.{IsClosed, outputs_are_closed}
use Rattle.fj_job.proofs.Leaving.{one_index}
use Rattle.fj_job.specs.Concluding.{HasEnded, IsReplied, IsResult, run_text}
use Rattle.fj_job.specs.Making.{HasMade, IsMadeReplied, made_text}
use Rattle.fj_job.specs.Reply.{open_feed, report_of, made_lines, made_report, no_files, files_in, Lines}

-- ---- what was written

taken_and_dropped : (n : ℕ) (xs : List ℕ) → take n xs ++ drop n xs ≡ xs
taken_and_dropped zero xs = refl
taken_and_dropped (suc n) [] = refl
taken_and_dropped (suc n) (x ∷ xs) = ap (λ t. x ∷ t) (taken_and_dropped n xs)

-- the records that ended and the open one are the text, with the line feed of the open one
pub whole_and_open : (text : List ℕ) (begun : ℕ) (is_open : Bool) (rest : List ℕ) → let o : Output = record { text = text; begun = begun; is_open = is_open } in
    IsClosed o → whole_records o ++ (open_record o ++ rest) ≡ o.text ++ (open_feed o ++ rest)
whole_and_open text begun false rest c =
    let none : begun ≡ 0 = c refl in
    let all : length text - begun ≡ length text = omega arith in
    ap (λ n. take n text ++ rest) all ∙ ap (λ t. t ++ rest) (take-length text)
whole_and_open text begun true rest c =
    let k = length text - begun in
    ap (λ t. take k text ++ t) (append_assoc (drop k text) (10 ∷ []) rest)
    ∙ sym (append_assoc (take k text) (drop k text) (10 ∷ rest)) ∙ ap (λ t. t ++ (10 ∷ rest)) (taken_and_dropped k text)

-- ---- what the slots hold

is_some_by : (o : Option Desk) (b : Bay) → bay_at o ≡ Some b → IsSome o
is_some_by None b e = cc
is_some_by (Some d) b e = refl

seated : (desks : List Desk) (us : List Connected) (vs : List Unit) → Both (IsSeen desks) us vs → AreSeated desks us
seated desks [] vs both = tt
seated desks (u ∷ us) [] both = absurd both
seated desks (u ∷ us) (v ∷ vs) (seen, more) = (is_some_by (slice_get desks u.slot) _ seen.bay, seated desks us vs more)

-- ---- what the machine came to

module _ {F : Type 0} {ghosts : Ghosts F} (told : F → Bool) (bytes : F → List ℕ) (files : Files) (m : Machine F ghosts) where
  parts_by : (o : Option Stage) (r : Run) → option_map (run_at files m) o ≡ Some r → (r.core ≡ core_of files m.state.core) × (r.ending ≡ option_map ending_of m.state.ending)
  parts_by None r e = cc
  parts_by (Some stage) r e =
      let same : run_at files m stage ≡ r = ap (λ (o : Option Run). unwrap_or o r) e in
      (ap (λ (x : Run). x.core) (sym same), ap (λ (x : Run). x.ending) (sym same))

  pub parts : (r : Run) → run_of told bytes files m ≡ Some r → (r.core ≡ core_of files m.state.core) × (r.ending ≡ option_map ending_of m.state.ending)
  parts r e = parts_by (stage_at told bytes files m) r e

  rest_by : (o : Option Stage) (r : Run) → option_map (run_at files m) o ≡ Some r → r.rest ≡ rest_of m
  rest_by None r e = cc
  rest_by (Some stage) r e =
      let same : run_at files m stage ≡ r = ap (λ (o : Option Run). unwrap_or o r) e in
      ap (λ (x : Run). x.rest) (sym same)

  pub rest_is : (r : Run) → run_of told bytes files m ≡ Some r → r.rest ≡ rest_of m
  rest_is r e = rest_by (stage_at told bytes files m) r e

  -- at first nothing was written
  pub nothing_written : HasNotBegun told bytes m → whole_records m.state.core.output ≡ []
  nothing_written b = ap whole_records (ap (λ (c : Core). c.output) (sym (parts (first_run m.deck.variables (stated m.deck.statements) files) (b.run files)).0))

module _ {E J A F : Type 0} {ghosts : Ghosts F} (meaning : Meaning E J A Bay Job Answer) (told : F → Bool) (bytes : F → List ℕ) (deck : Deck) (files left : Files)
    (m : Machine F ghosts) (rack : Rack E J A) (h : HasRun meaning told bytes deck files left m rack) where
  abbrev pub p : Result
  p = plain_execution deck.variables deck.statements files

  both : (h.run.core ≡ core_of left m.state.core) × (h.run.ending ≡ option_map ending_of m.state.ending)
  both = parts told bytes left m h.run h.is

  abbrev pub desks : List Desk
  desks = h.leaves.desks

  pub ending_is : p.ending ≡ option_map ending_of m.state.ending
  ending_is = ap (λ (r : Result). r.ending) (sym h.leaves.result) ∙ both.1

  -- each job of the slots was given by a statement not behind the one at hand
  pub given_until : IsSome (option_map ending_of m.state.ending) → (index : ℕ) → length (rest_of m) ≡ length (drop index (stated deck.statements)) → index < length (stated deck.statements)
      → HoldsGiven deck.variables (stated deck.statements) files meaning rack index
  given_until some index place low =
      let g = h.given (subst IsSome (sym both.1) some) in
      subst (HoldsGiven deck.variables (stated deck.statements) files meaning rack)
      (one_index (stated deck.statements) g.index index g.within low (sym g.rest ∙ ap length (rest_is told bytes left m h.run h.is) ∙ place)) g.given

  pub output_is : p.output ≡ m.state.core.output
  output_is = ap (λ (r : Result). r.output) (sym h.leaves.result) ∙ ap (λ (c : Core). c.output) both.0

  pub tells_are : p.tells ≡ tells_of m.state.core.tells
  tells_are = ap (λ (r : Result). r.tells) (sym h.leaves.result) ∙ ap (λ (c : Core). c.tells) both.0

  pub vars_are : p.vars ≡ values_of m.state.core.store
  vars_are = ap (λ (r : Result). r.vars) (sym h.leaves.result) ∙ ap (λ (c : Core). c.vars) both.0

  pub files_are : p.files ≡ all_left desks m.state.core.units left
  files_are = ap (λ (r : Result). r.files) (sym h.leaves.result) ∙ ap (λ (c : Core). all_left desks c.units c.files) both.0

  pub holds : HoldsDesks meaning rack desks
  holds = h.leaves.held

  pub are_seated : AreSeated desks m.state.core.units
  are_seated = subst (λ (us : List Connected). AreSeated desks us) (ap (λ (c : Core). c.units) both.0) (seated desks h.run.core.units _ h.leaves.same.same.units)

  pub are_named : AreNamed desks m.state.core.units
  are_named = subst (λ (us : List Connected). AreNamed desks us) (ap (λ (c : Core). c.units) both.0) (named desks h.run.core.units _ h.leaves.same.same.units)

  -- what is left behind the run and the files are those of the result
  pub results : (l : Left F) (now : Files) → l.core ≡ record (m.state.core) { names = l.core.names } → l.ending ≡ m.state.ending → now ≡ all_left desks m.state.core.units left
      → IsResult p now l
  results l now c e f = record {
    ending = ending_is ∙ ap (λ o. option_map ending_of o) (sym e);
    output = output_is ∙ ap (λ (x : Kept). x.output) (sym c);
    tells = tells_are ∙ ap (λ (x : Kept). tells_of x.tells) (sym c);
    vars = vars_are ∙ ap (λ (x : Kept). values_of x.store) (sym c);
    files = files_are ∙ sym f;
  }

-- the same of what the runner left once its files went back
pub came : {E J A F : Type 0} {ghosts : Ghosts F} (meaning : Meaning E J A Bay Job Answer) (told : F → Bool) (bytes : F → List ℕ) (deck given : Deck) (files middle now : Files)
    (m : Machine F ghosts) (rack : Rack E J A) (l : Left F) → HasRun meaning told bytes given files middle m rack → given ≡ deck → l.core ≡ record (m.state.core) { names = l.core.names } → l.ending ≡ m.state.ending
    → ((desks : List Desk) → HoldsDesks meaning rack desks → AreSeated desks m.state.core.units → now ≡ all_left desks m.state.core.units middle)
    → IsResult (plain_execution deck.variables deck.statements files) now l
came {F = F} meaning told bytes deck given files middle now m rack l h e c n back =
    let ds : List Desk = desks meaning told bytes given files middle m rack h in
    let home : now ≡ all_left ds m.state.core.units middle = back ds (holds meaning told bytes given files middle m rack h) (are_seated meaning told bytes given files middle m rack h) in
    subst (λ (d : Deck). IsResult (plain_execution d.variables d.statements files) now l) e
    (results meaning told bytes given files middle m rack h l now c n home)

-- all records that ended were handed on, where nothing was written at first
pub all_taken : (old new : List ℕ) (o p q : Output) → whole_records o ≡ [] → HandsOver old new o p → q ≡ p → new ≡ old ++ whole_records q
all_taken old new o p q e (part, is, taken) same = taken ∙ ap (λ x. old ++ x) (sym (is ∙ ap (λ x. x ++ part) e) ∙ ap whole_records (sym same))

-- ---- what is replied

module _ {F : Type 0} (r : Result) (closed : IsClosed r.output) (now : Files) (l : Left F) (is : IsResult r now l) where
  pub ends_by : (ending : Code) → l.ending ≡ Some ending → r.ending ≡ Some (ending_of ending)
  ends_by ending e = is.ending ∙ ap (λ o. option_map ending_of o) e

  -- the output with the lines behind it, where these are given by what is left
  behind : (text : List ℕ) → r.output.text ++ (open_feed r.output ++ text) ≡ whole_records l.core.output ++ (open_record l.core.output ++ text)
  behind text =
      let o : Output = l.core.output in
      rw is.output (sym (whole_and_open o.text o.begun o.is_open text (subst (λ (x : Output). IsClosed x) is.output closed)))

  report_by : (lines : Lines) (e : Ending) → report_of l.deck lines r e ≡ whole_records l.core.output ++ (open_record l.core.output ++ run_text l.deck.variables lines e l.core)
  report_by lines e = behind _ ∙ ap (λ t. whole_records l.core.output ++ (open_record l.core.output ++ t)) (rw (is.tells, is.vars) refl)

  lines_by : (seed count : ℕ) (e : Ending) → made_lines seed count l.deck r e ≡ made_text seed count e l now
  lines_by seed count ended = rw (is.tells, is.files) refl
  lines_by seed count (error_stop line code) = rw is.vars refl
  lines_by seed count (prohibition line rule) = rw is.vars refl

  made_by : (seed count : ℕ) (e : Ending) → made_report seed count l.deck r e ≡ whole_records l.core.output ++ (open_record l.core.output ++ made_text seed count e l now)
  made_by seed count e = behind _ ∙ ap (λ t. whole_records l.core.output ++ (open_record l.core.output ++ t)) (lines_by seed count e)

-- what was taken first and then
pub taken_both : (old middle new first then : List ℕ) → middle ≡ old ++ first → new ≡ middle ++ then → new ≡ old ++ (first ++ then)
taken_both old middle new first then one two = two ∙ ap (λ x. x ++ then) one ∙ append_assoc old first then

replies_own : {F : Type 0} (lines : Lines) (l : Left F) (before now : Held) (status : Status) (Tells Now : Type 0) (old middle new : List ℕ) → (Tells → Now)
    → IsResult (plain_execution l.deck.variables l.deck.statements (files_in before)) (files_in now) l → HasEnded lines l status Now middle new
    → (Tells → middle ≡ old ++ whole_records l.core.output) → IsReplied l.deck lines before status now (λ output. Tells → new ≡ old ++ output)
replies_own lines l before now status Tells Now old middle new on is h one =
    let r : Result = plain_execution l.deck.variables l.deck.statements (files_in before) in
    let closed : IsClosed r.output = outputs_are_closed l.deck.variables l.deck.statements (files_in before) in
    record {
      reply = record { status = status; output = report_of l.deck lines r (ending_of h.ending); files = r.files };
      is = record {
        ending = ending_of h.ending;
        ends = ends_by r closed (files_in now) l is h.ending h.ends;
        status = h.status_is;
        output = refl;
        files_left = refl;
      };
      answer = refl;
      files_left = sym is.files;
      output = λ t. taken_both old middle new _ _ (one t) (h.output (on t)) ∙ ap (λ x. old ++ x) (sym (report_by r closed (files_in now) l is lines (ending_of h.ending)));
    }

-- what was left is the reply to the deck, where it ended
pub replies : {F : Type 0} (deck : Deck) (lines : Lines) (l : Left F) (before now : Held) (status : Status) (Tells Now : Type 0) (old middle new : List ℕ) → (Tells → Now) → l.deck ≡ deck
    → IsResult (plain_execution deck.variables deck.statements (files_in before)) (files_in now) l → HasEnded lines l status Now middle new
    → (Tells → middle ≡ old ++ whole_records l.core.output) → IsReplied deck lines before status now (λ output. Tells → new ≡ old ++ output)
replies deck lines l before now status Tells Now old middle new on e is h one =
    subst (λ (d : Deck). IsReplied d lines before status now (λ output. Tells → new ≡ old ++ output)) e
    (replies_own lines l before now status Tells Now old middle new on (subst (λ (d : Deck). IsResult (plain_execution d.variables d.statements (files_in before)) (files_in now) l) (sym e) is) h one)

makes_own : {F : Type 0} (seed count : ℕ) (l : Left F) (files now : Files) (status : Status) (Tells Now : Type 0) (old middle new : List ℕ) → (Tells → Now)
    → IsResult (plain_execution l.deck.variables l.deck.statements no_files) now l → HasMade seed count l now status Now middle new
    → (Tells → middle ≡ old ++ whole_records l.core.output) → IsMadeReplied l.deck seed count files status (λ output. Tells → new ≡ old ++ output)
makes_own seed count l files now status Tells Now old middle new on is h one =
    let r : Result = plain_execution l.deck.variables l.deck.statements no_files in
    let closed : IsClosed r.output = outputs_are_closed l.deck.variables l.deck.statements no_files in
    record {
      reply = record { status = status; output = made_report seed count l.deck r (ending_of h.ending); files = files };
      is = record {
        ending = ending_of h.ending;
        ends = ends_by r closed now l is h.ending h.ends;
        status = h.status_is;
        output = refl;
        files_left = refl;
      };
      answer = refl;
      files_left = refl;
      output = λ t. taken_both old middle new _ _ (one t) (h.output (on t)) ∙ ap (λ x. old ++ x) (sym (made_by r closed now l is seed count (ending_of h.ending)));
    }

-- a disk with no file has none by any name
pub none_there : (before : Held) → before ≡ map.empty → files_in before ≡ no_files
none_there before e = ap files_in e ∙ (λ i name. map.get-empty (slice_cmp nat_cmp) name i)

-- the same of a deck that was made, over a disk with no file
pub makes : {F : Type 0} (deck : Deck) (seed count : ℕ) (l : Left F) (files now : Files) (before : Held) (status : Status) (Tells Now : Type 0) (old middle new : List ℕ) → (Tells → Now) → l.deck ≡ deck
    → before ≡ map.empty → IsResult (plain_execution deck.variables deck.statements (files_in before)) now l → HasMade seed count l now status Now middle new
    → (Tells → middle ≡ old ++ whole_records l.core.output) → IsMadeReplied deck seed count files status (λ output. Tells → new ≡ old ++ output)
makes deck seed count l files now before status Tells Now old middle new on e b is h one =
    let own : IsResult (plain_execution l.deck.variables l.deck.statements (files_in before)) now l =
    subst (λ (d : Deck). IsResult (plain_execution d.variables d.statements (files_in before)) now l) (sym e) is in
    subst (λ (d : Deck). IsMadeReplied d seed count files status (λ output. Tells → new ≡ old ++ output)) e
    (makes_own seed count l files now status Tells Now old middle new on
    (subst (λ (f : Files). IsResult (plain_execution l.deck.variables l.deck.statements f) now l) (none_there before b) own) h one)
