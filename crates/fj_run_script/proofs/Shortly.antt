-- A statement that is given up is not behind the one at which the ask would have been.
use Rattle.std.proofs.Common.{◌≡◌, ℕ, suc, ◌≤◌, Bool, true, false, cond, List, [], ◌∷◌, length, drop, Option, Some, None, is_some, if◌then◌else◌, refl, sym, ap, ◌∙◌, subst, arith}
use Rattle.fj_outside.specs.declared.outside.FileStore.{Ghosts}
use Rattle.fj_statement.specs.declared.deck.Deck.{Deck}
use Rattle.fj_value.specs.declared.condition.Rule.{Rule}
use Rattle.fj_meaning.specs.State.{Entry}
use Rattle.fj_meaning.specs.Statement.{Stated, stated, Ending, ends}
use Rattle.fj_meaning_jobs.specs.Doing.{Doing, finishes, gives, awaits}
use Rattle.fj_meaning_turns.specs.Run.{Stage, Start, Waiting, Acting, Awaiting, Run}
use Rattle.fj_meaning_turns.specs.Turns.{Turn, Pauses, Passes, Stops, Asked, doing_told, with_core, with_iostat, finish_by, turn_act, with_tells, wait_by, waited_now, unsettled, start_by, rule_of, hand_at, turn_start, turn_on, turn}
use Rattle.fj_meaning_looks.specs.Looking.{goes_until, turn_until, asked_until}
use Rattle.fj_meaning_looks.specs.Stretches.{with_rest, StandsAtLook}
use Rattle.fj_meaning_looks.proofs.Coming.{by_look, on_turn_is}
use Rattle.fj_meaning_looks.proofs.Rests.{over, turn_is, HasBegun}
use Rattle.fj_run_script.specs.Machine.{numbered, rest_of}
use Rattle.fj_run_script.specs.Short.{IsShort, FallsShort}
use Rattle.fj_run_script.specs.declared.machine.AtHand.{AtHand}
use Rattle.fj_run_script.specs.declared.machine.Machine.{Machine}

-- ---- a turn that does not pass stands at no look

abbrev StandsAtNone : Turn → Type 0
StandsAtNone (Pauses ask run) = HasBegun run.stage
StandsAtNone (Passes run) = Unit {0}
StandsAtNone (Stops run) = is_some run.ending ≡ true

finish_none : (o : Option Ending) (r : Run) → StandsAtNone (finish_by o r)
finish_none None r = tt
finish_none (Some e) r = refl

act_none : (st : Stated) (d : Doing) (r : Run) → StandsAtNone (turn_act st d r)
act_none st (finishes core condition) r = finish_none (ends st.0.line st.0.what condition) (with_core (with_iostat st condition r core) r)
act_none st (gives slot job core next) r = tt
act_none st (awaits slot job core next) r = tt

wait_none : (st : Stated) (es : List Entry) (o : Option ℕ) (r : Run) → StandsAtNone (wait_by st es o r)
wait_none st es None r = act_none st (doing_told r.variables st es r.core) (with_tells st es r)
wait_none st es (Some slot) r = tt

start_none : (st : Stated) (o : Option Rule) (r : Run) → StandsAtNone (start_by st o r)
start_none st (Some rule) r = refl
start_none st None r = wait_none st (waited_now st r) (unsettled (waited_now st r) r.book) r

turn_none : (st : Stated) (stage : Stage) (r : Run) → StandsAtNone (turn_on st stage r)
turn_none st Start r = start_none st (rule_of r.variables st r.core) r
turn_none st Waiting r = wait_none st (waited_now st r) (unsettled (waited_now st r) r.book) r
turn_none st (Acting d) r = act_none st d r
turn_none st (Awaiting slot number next) r = tt

-- ---- how many are left

module _ (looks : Stated → Run → Bool) where
  turn_short : (st : Stated) (more : List Stated) (stage : Stage) (r : Run) → ((next : Run) → length (goes_until looks more next).run.rest ≤ length more)
      → IsShort looks (turn_until looks more (turn st stage (with_rest (st ∷ more) r))) (st ∷ more)
  turn_short st more stage r later =
      subst (λ t. IsShort looks (turn_until looks more t) (st ∷ more)) (sym (turn_is st stage r more)) (by (turn_on (hand_at st stage r) stage r) (turn_none (hand_at st stage r) stage r))
    where
      by : (t : Turn) → StandsAtNone t → IsShort looks (turn_until looks more (over (hand_at st stage r ∷ more) t)) (st ∷ more)
      by (Pauses ask run) none = record { left = omega arith; before_look = λ x. absurd (subst HasBegun x.stage none) }
      by (Passes run) none = let low = later (with_rest (hand_at st stage r ∷ more) run) in record { left = omega (arith, low); before_look = λ x. omega (arith, low) }
      by (Stops run) none = record { left = omega arith; before_look = λ x. absurd (let z : true ≡ false = sym none ∙ ap is_some x.ending in cc) }

  goes_left : (l : List Stated) (r : Run) → length (goes_until looks l r).run.rest ≤ length l
  goes_left [] r = omega arith
  goes_left (st ∷ more) r = by (looks st (with_rest (st ∷ more) r)) refl (λ next. goes_left more next)
    where
      by : (b : Bool) → looks st (with_rest (st ∷ more) r) ≡ b → ((next : Run) → length (goes_until looks more next).run.rest ≤ length more) → length (goes_until looks (st ∷ more) r).run.rest ≤ length (st ∷ more)
      by true e later = let same : length (goes_until looks (st ∷ more) r).run.rest ≡ length (st ∷ more) = ap (λ (a : Asked). length a.run.rest) (by_look looks st more r true e) in omega (arith, same)
      by false e later =
          let x = turn_short st more Start r later in
          subst (λ (a : Asked). length a.run.rest ≤ length (st ∷ more)) (sym (by_look looks st more r false e ∙ on_turn_is looks more (turn_start st (with_rest (st ∷ more) r)))) x.left

  -- by the turn of the statement at hand
  pub hand_short : (st : Stated) (more : List Stated) (r : Run) → r.rest ≡ st ∷ more → IsShort looks (turn_until looks more (turn st r.stage r)) (st ∷ more)
  hand_short st more r is = subst (λ (x : Run). IsShort looks (turn_until looks more (turn st r.stage x)) (st ∷ more)) (ap (λ l. with_rest l r) (sym is)) (turn_short st more r.stage r (goes_left more))

  -- where as many are left
  pub short_as : (a : Asked) (rest rest' : List Stated) → length rest' ≡ length rest → IsShort looks a rest → IsShort looks a rest'
  short_as a rest rest' long x = let low = x.left in record { left = omega (arith, long, low); before_look = λ look. let less = x.before_look look in omega (arith, long, less) }

-- ---- at the same place

numbered_long : (o : Option ℕ) (sts : List Stated) → length (numbered o sts) ≡ length sts
numbered_long None sts = refl
numbered_long (Some n) [] = refl
numbered_long (Some n) (st ∷ more) = refl

pub rest_long : {F : Type 0} {ghosts : Ghosts F} → (m m' : Machine F ghosts) → m'.deck ≡ m.deck → m'.at.place ≡ m.at.place → length (rest_of m') ≡ length (rest_of m)
rest_long m m' deck place =
    numbered_long m'.at.number (drop m'.at.place (stated m'.deck.statements)) ∙ ap (λ (d : Deck). length (drop m'.at.place (stated d.statements))) deck
    ∙ ap (λ n. length (drop n (stated m.deck.statements))) place ∙ sym (numbered_long m.at.number (drop m.at.place (stated m.deck.statements)))

-- ---- where a disk tells

pub short_told : {F : Type 0} {ghosts : Ghosts F} → (looks : Stated → Run → Bool) (decided : Bool) (o : Option Run) (m m' : Machine F ghosts) → (decided ≡ true → FallsShort looks o m m') → FallsShort looks (if decided then o else None) m m'
short_told looks true o m m' go = go refl
short_told looks false o m m' go = λ r e idle going over. cc
