-- The statement at hand knows what it looked for: the deck stays sound, and the run goes on there.
use Rattle.std.proofs.Common.{◌≡◌, ℕ, zero, suc, ◌<◌, ◌≤◌, Bool, true, false, List, [], ◌∷◌, ◌++◌, drop, length, slice_get, slice_set, Option, Some, None, is_some, if◌then◌else◌, refl, sym, ap, subst, ◌∙◌, length-set}
use Rattle.std.proofs.lemmas.List.Elements.{All-set}
use Rattle.std.specs.Option.{option_map, option_map_or}
use Rattle.fj_outside.specs.declared.outside.FileStore.{Ghosts}
use Rattle.fj_statement.specs.Sound.{AreRising, Grouped, IsNotEnd, IsSound, IsSoundStatement, NamesGroup, Variables}
use Rattle.fj_statement.specs.Units.{looked}
use Rattle.fj_statement.specs.declared.deck.Deck.{Deck}
use Rattle.fj_statement.specs.declared.deck.Lined.{Lined}
use Rattle.fj_statement.specs.declared.unit.Subject.TheVariants as subject
use Rattle.fj_statement.specs.declared.statement.Statement.{Statement}
use Rattle.fj_statement.specs.declared.statement.Statement.TheVariants as statement
use Rattle.fj_meaning.specs.State.{Files}
use Rattle.fj_meaning.specs.Statement.{stated}
use Rattle.fj_meaning_turns.specs.Run.{Run, Start}
use Rattle.fj_meaning_looks.specs.Inquiring.{Question, asks_whether, question_at, question_here}
use Rattle.fj_meaning_looks.specs.Stretches.{with_rest}
use Rattle.fj_run_statements.specs.State.{core_of}
use Rattle.fj_run_script.specs.Closing.{hand_may_be_at, may_be_at}
use Rattle.fj_run_script.specs.Looking.{question_in, started_by}
use Rattle.fj_run_script.specs.Machine.{rest_of, run_at, run_in, run_of, stage_of}
use Rattle.fj_run_script.specs.declared.machine.Machine.{Machine}
use Rattle.fj_run_script.specs.declared.stage.Stage.{Stage}
use Rattle.fj_run_script.specs.declared.stage.Stage.TheVariants as stage
use Rattle.fj_run_script.proofs.Begun.{all_get}
use Rattle.fj_run_script.proofs.NextAsks.{at_start, rest_none, some_ended, some_same}
use Rattle.fj_run_script.proofs.Scripting.{run_by}

-- ---- lists

pub set_twice : {X : Type 0} (xs : List X) (n : ℕ) (a b : X) → slice_set (slice_set xs n a) n b ≡ slice_set xs n b
set_twice [] n a b = refl
set_twice (x ∷ xs) zero a b = refl
set_twice (x ∷ xs) (suc n) a b = ap (λ ys. x ∷ ys) (set_twice xs n a b)

-- ---- a sound deck

names_known : (groups : List Grouped) (n : ℕ) (b : Bool) (w : Statement) → NamesGroup groups w → NamesGroup groups (looked n b w)
names_known groups n b (statement.Assign to from) s = s
names_known groups n b (statement.OpenUnit u spec iostat) s = s
names_known groups n b (statement.CloseUnit u keep iostat) s = s
names_known groups n b (statement.WaitFor u id iostat) s = s
names_known groups n b (statement.Move how u iostat) s = s
names_known groups n b (statement.Inquire about asked id iostat _) s = tt
names_known groups n b (statement.Transfer t) s = s
names_known groups n b statement.End s = s

statement_known : (vs : Variables) (n : ℕ) (b : Bool) (w : Statement) → IsSoundStatement vs w → IsSoundStatement vs (looked n b w)
statement_known vs n b (statement.Assign to from) s = s
statement_known vs n b (statement.OpenUnit u spec iostat) s = s
statement_known vs n b (statement.CloseUnit u keep iostat) s = s
statement_known vs n b (statement.WaitFor u id iostat) s = s
statement_known vs n b (statement.Move how u iostat) s = s
statement_known vs n b (statement.Inquire (subject.Unit u) asked id iostat _) s = s
statement_known vs n b (statement.Inquire (subject.File name) asked id iostat _) s = record { subject_is = (tt, tt); questions = s.questions; id_is = s.id_is; iostat_is = s.iostat_is }
statement_known vs n b (statement.Transfer t) s = s
statement_known vs n b statement.End s = s

not_end : (n : ℕ) (b : Bool) (w : Statement) → asks_whether w ≡ true → IsNotEnd (looked n b w)
not_end n b (statement.Assign to from) e = tt
not_end n b (statement.OpenUnit u spec iostat) e = tt
not_end n b (statement.CloseUnit u keep iostat) e = tt
not_end n b (statement.WaitFor u id iostat) e = tt
not_end n b (statement.Move how u iostat) e = tt
not_end n b (statement.Inquire about asked id iostat _) e = tt
not_end n b (statement.Transfer t) e = tt
not_end n b statement.End e = let z : false ≡ true = e in cc

rising_set : (above : ℕ) (ls : List Lined) (at : ℕ) (l l' : Lined) → slice_get ls at ≡ Some l → l'.line ≡ l.line → AreRising above ls → AreRising above (slice_set ls at l')
rising_set above [] at l l' e line r = r
rising_set above (x ∷ xs) zero l l' e line r = subst (λ n. (above < n) × AreRising n xs) (ap (λ (y : Lined). y.line) (some_same x l e) ∙ sym line) r
rising_set above (x ∷ xs) (suc n) l l' e line r = (r.0, rising_set x.line xs n l l' e line r.1)

-- END stays the last one
end_set : (body : List Lined) (n at : ℕ) (l l' : Lined) → slice_get (body ++ record { line = n; what = statement.End } ∷ []) at ≡ Some l → asks_whether l.what ≡ true
    → slice_set (body ++ record { line = n; what = statement.End } ∷ []) at l' ≡ slice_set body at l' ++ record { line = n; what = statement.End } ∷ []
end_set [] n zero l l' e asks = let z : false ≡ true = ap (λ (y : Lined). asks_whether y.what) (some_same (record { line = n; what = statement.End }) l e) ∙ asks in cc
end_set [] n (suc at) l l' e asks = cc
end_set (x ∷ body) n zero l l' e asks = refl
end_set (x ∷ body) n (suc at) l l' e asks = ap (λ ys. x ∷ ys) (end_set body n at l l' e asks)

pub sound_known : (deck : Deck) (at : ℕ) (l : Lined) (n : ℕ) (b : Bool) → slice_get deck.statements at ≡ Some l → asks_whether l.what ≡ true → IsSound deck
    → IsSound (record deck { statements = slice_set deck.statements at (record l { what = looked n b l.what }) })
sound_known deck at l n b item asks s =
    let new : Lined = record l { what = looked n b l.what } in
    let P : Lined → Type 0 = λ x. NamesGroup s.names.groups x.what in
    let Q : Lined → Type 0 = λ x. IsSoundStatement deck.variables x.what in
    record {
      variables = s.variables;
      names = record {
        groups = s.names.groups;
        are = s.names.are;
        apart = s.names.apart;
        stand = All-set P deck.statements at new (names_known s.names.groups n b l.what (all_get P deck.statements at l item s.names.stand)) s.names.stand;
      };
      statements = All-set Q deck.statements at new (statement_known deck.variables n b l.what (all_get Q deck.statements at l item s.statements)) s.statements;
      few = subst (λ k. k ≤ 100000) (sym (length-set deck.statements at new)) s.few;
      rising = rising_set 0 deck.statements at l new item refl s.rising;
      body = slice_set s.body at new;
      end_line = s.end_line;
      ends = ap (λ xs. slice_set xs at new) s.ends ∙ end_set s.body s.end_line at l new (ap (λ xs. slice_get xs at) (sym s.ends) ∙ item) asks;
      only = All-set (λ (x : Lined). IsNotEnd x.what) s.body at new (not_end n b l.what asks) s.only;
    }

-- ---- what it looks for, by where it stands

kept_none : {F : Type 0} → (b : Bool) (s : Stage F) → let none : Option Question = None in (if b then none else started_by s none) ≡ none
kept_none true s = refl
kept_none false stage.Start = refl
kept_none false (stage.Waiting whose from) = refl
kept_none false (stage.Resuming slots next condition) = refl
kept_none false (stage.Going next number) = refl
kept_none false (stage.Awaiting slot number next) = refl
kept_none false (stage.Answered next job answer) = refl

begun_none : {F : Type 0} (s : Stage F) (o : Option Question) → (s ≡ stage.Start → ⊥) → started_by s o ≡ None
begun_none stage.Start o begun = absurd (begun refl)
begun_none (stage.Waiting whose from) o begun = refl
begun_none (stage.Resuming slots next condition) o begun = refl
begun_none (stage.Going next number) o begun = refl
begun_none (stage.Awaiting slot number next) o begun = refl
begun_none (stage.Answered next job answer) o begun = refl

started_some : {F : Type 0} (s : Stage F) (o : Option Question) (q : Question) → started_by s o ≡ Some q → (s ≡ stage.Start) × (o ≡ Some q)
started_some stage.Start o q e = (refl, e)
started_some (stage.Waiting whose from) o q e = cc
started_some (stage.Resuming slots next condition) o q e = cc
started_some (stage.Going next number) o q e = cc
started_some (stage.Awaiting slot number next) o q e = cc
started_some (stage.Answered next job answer) o q e = cc

unless_some : (b : Bool) (o : Option Question) (q : Question) → (if b then None else o) ≡ Some q → o ≡ Some q
unless_some true o q e = cc
unless_some false o q e = e

module _ {F : Type 0} {ghosts : Ghosts F} (files : Files) (m : Machine F ghosts) where
  none_here : question_here (run_at files m Start) ≡ None → question_in files m ≡ None
  none_here e = ap (λ o. if m.tally.over then None else started_by m.state.stage o) e ∙ kept_none m.tally.over m.state.stage

  pub none_over : m.tally.over ≡ true → question_in files m ≡ None
  none_over e = ap (λ b. if b then None else started_by m.state.stage (question_here (run_at files m Start))) e

  pub none_ended : is_some m.state.ending ≡ true → question_in files m ≡ None
  none_ended e = none_here (ap (λ b. if b then None else question_at (rest_of m) (run_at files m Start)) (some_ended m.state.ending e))

  none_past : (b : Bool) → length m.deck.statements ≤ m.at.place → (if b then None else question_at (rest_of m) (run_at files m Start)) ≡ None
  none_past true low = refl
  none_past false low = ap (λ rest. question_at rest (run_at files m Start)) (rest_none m low)

  pub none_left : length m.deck.statements ≤ m.at.place → question_in files m ≡ None
  none_left low = none_here (none_past (is_some (run_at files m Start).ending) low)

  pub none_begun : (m.state.stage ≡ stage.Start → ⊥) → question_in files m ≡ None
  none_begun begun =
      ap (λ o. if m.tally.over then None else o) (begun_none m.state.stage (question_here (run_at files m Start)) begun) ∙ by m.tally.over
    where
      by : (b : Bool) → let none : Option Question = None in (if b then none else none) ≡ none
      by true = refl
      by false = refl

  pub question_is : m.tally.over ≡ false → is_some (run_at files m Start).ending ≡ false → m.state.stage ≡ stage.Start → question_in files m ≡ question_at (rest_of m) (run_at files m Start)
  question_is going none start =
      ap (λ b. if b then None else started_by m.state.stage (question_here (run_at files m Start))) going ∙ ap (λ s. started_by s (question_here (run_at files m Start))) start
      ∙ ap (λ b. if b then None else question_at (rest_of m) (run_at files m Start)) none

  -- where it looks for something, the statement at hand has not begun
  pub question_inside : (q : Question) → question_in files m ≡ Some q → (m.state.stage ≡ stage.Start) × (question_at (rest_of m) (run_at files m Start) ≡ Some q)
  question_inside q e =
      let here = started_some m.state.stage (question_here (run_at files m Start)) q (unless_some m.tally.over (started_by m.state.stage (question_here (run_at files m Start))) q e) in
      (here.0, unless_some (is_some (run_at files m Start).ending) (question_at (rest_of m) (run_at files m Start)) q here.1)

-- ---- once it is known

pub start_may : {F : Type 0} (sts : List Lined) (at : ℕ) (s : Stage F) → s ≡ stage.Start → hand_may_be_at sts at s ≡ true
start_may {F = F} sts at s start = ap (hand_may_be_at sts at) start ∙ by (slice_get sts at)
  where
    by : (o : Option Lined) → option_map_or (λ (x : Lined). may_be_at {F = F} x.what stage.Start) o true ≡ true
    by None = refl
    by (Some x) = refl

-- the run goes on with the statements as they are then
pub run_known_at : {F : Type 0} {ghosts : Ghosts F} → (told : F → Bool) (bytes : F → List ℕ) (files : Files) (m : Machine F ghosts) (sts : List Lined) (r : Run) → m.state.stage ≡ stage.Start → run_of told bytes files m ≡ Some r
    → run_by told bytes files (record m.deck { statements = sts }) (record { place = m.at.place; number = None }) m.state ≡ Some (with_rest (drop m.at.place (stated sts)) r)
run_known_at told bytes files m sts r start known =
    ap (λ s. option_map (run_in m.deck.variables (drop m.at.place (stated sts)) files m.state) (stage_of told bytes m.deck.variables (drop m.at.place (stated sts)) (core_of files m.state.core) s)) start
    ∙ ap (λ x. Some (with_rest (drop m.at.place (stated sts)) x)) (some_same (run_at files m Start) r (sym (at_start told bytes files m start) ∙ known))
