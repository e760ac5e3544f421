-- An ask is that of a statement, behind others that are passed.
use Rattle.std.proofs.Common.{◌≡◌, ◌≢◌, ℕ, ◌+◌, Bool, true, false, List, [], ◌∷◌, length, drop, Option, Some, None, is_some, refl, sym, ap, ◌∙◌, subst}
use Rattle.std.specs.Prelude.{if◌then◌else◌}
use Rattle.fj_value.specs.declared.condition.Rule.{Rule}
use Rattle.fj_world.specs.declared.ask.Ask.TheVariants.{Finished}
use Rattle.fj_meaning.specs.State.{Entry}
use Rattle.fj_meaning.specs.Statement.{Stated, Ending, ends, prohibition}
use Rattle.fj_meaning_jobs.specs.Doing.{Doing, finishes, gives, awaits}
use Rattle.fj_meaning_turns.specs.Run.{Run, Stage, Start, Waiting, Acting, Awaiting}
use Rattle.fj_meaning_turns.specs.Turns.{Turn, Pauses, Passes, Stops, Asked, finish_by, with_core, with_iostat, turn_act, with_tells, doing_told, wait_by, waited_now, unsettled, start_by, rule_of, begun_for, with_hand, turn_start, turn, goes, by_turn, asked_on, asked}
use Rattle.fj_meaning_turns.specs.Passing.{passed_by, passed_on, passes}
use Rattle.fj_run_script.proofs.GivingUp.{passes_both, passes_one}
use Rattle.fj_meaning_turns.proofs.Decks.{goes_is_turn}

-- as many statements are left, and it passes at the start of a statement
abbrev KeepsRest : ℕ → Turn → Type 0
KeepsRest left (Pauses ask run) = length run.rest ≡ left
KeepsRest left (Passes run) = run.stage ≡ Start
KeepsRest left (Stops run) = Unit {0}

finish_keeps : (o : Option Ending) (r : Run) → KeepsRest (length r.rest) (finish_by o r)
finish_keeps None r = refl
finish_keeps (Some e) r = tt

act_keeps : (st : Stated) (does : Doing) (r : Run) → KeepsRest (length r.rest) (turn_act st does r)
act_keeps st (finishes core condition) r = finish_keeps (ends st.0.line st.0.what condition) (with_core (with_iostat st condition r core) r)
act_keeps st (gives slot job core next) r = refl
act_keeps st (awaits slot job core next) r = refl

wait_keeps : (st : Stated) (waited : List Entry) (o : Option ℕ) (r : Run) → KeepsRest (length r.rest) (wait_by st waited o r)
wait_keeps st waited None r = act_keeps st (doing_told r.variables st waited r.core) (with_tells st waited r)
wait_keeps st waited (Some slot) r = refl

start_keeps : (st : Stated) (o : Option Rule) (r : Run) → KeepsRest (length r.rest) (start_by st o r)
start_keeps st (Some rule) r = finish_keeps (Some (prohibition st.0.line rule)) r
start_keeps st None r = wait_keeps st (waited_now st r) (unsettled (waited_now st r) r.book) r

begun_long : (st x : Stated) (more : List Stated) (r : Run) → r.rest ≡ st ∷ more → length (with_hand x r).rest ≡ length r.rest
begun_long st x more r h = ap (λ l. length (x ∷ drop 1 l)) h ∙ ap length (sym h)

turn_keeps : (st : Stated) (more : List Stated) (stage : Stage) (r : Run) → r.rest ≡ st ∷ more → KeepsRest (length r.rest) (turn st stage r)
turn_keeps st more Start r h =
    let hand = begun_for r st in
    subst (λ n. KeepsRest n (turn_start st r)) (begun_long st hand more r h) (start_keeps hand (rule_of r.variables hand r.core) (with_hand hand r))
turn_keeps st more Waiting r h = wait_keeps st (waited_now st r) (unsettled (waited_now st r) r.book) r
turn_keeps st more (Acting does) r h = act_keeps st does r
turn_keeps st more (Awaiting slot number next) r h = refl

-- behind so many statements that it passes, it pauses at one
pub record PausesAt (r : Run) (a : Asked) : Type 0 where
  pub count : ℕ
  pub run : Run
  pub passed : passes count r ≡ Some run
  pub rest : length a.run.rest ≡ length run.rest

pauses_behind : (r half : Run) (a : Asked) → passed_on r.rest r ≡ Some half → PausesAt half a → PausesAt r a
pauses_behind r half a e p = record { count = 1 + p.count; run = p.run; passed = passes_both 1 p.count r half p.run (passes_one r half e) p.passed; rest = p.rest }

turn_pauses : (st : Stated) (more : List Stated) (r : Run) (t : Turn) → r.rest ≡ st ∷ more → turn st r.stage r ≡ t → KeepsRest (length r.rest) t
    → ((run : Run) → run.stage ≡ Start → (goes more run).ask ≢ Finished → PausesAt (record run { rest = more }) (goes more run)) → (by_turn more t).ask ≢ Finished → PausesAt r (by_turn more t)
turn_pauses st more r (Pauses ask run) h e k go n = record { count = 0; run = r; passed = refl; rest = k }
turn_pauses st more r (Passes run) h e k go n =
    pauses_behind r (record run { rest = more }) (goes more run) (ap (λ rest. passed_on rest r) h ∙ ap (passed_by more) e) (go run k n)
turn_pauses st more r (Stops run) h e k go n = absurd (n refl)

goes_pauses : (rest : List Stated) (r : Run) → r.stage ≡ Start → (goes rest r).ask ≢ Finished → PausesAt (record r { rest = rest }) (goes rest r)
goes_pauses [] r s n = absurd (n refl)
goes_pauses (st ∷ more) r s n =
    let run : Run = record r { rest = st ∷ more } in
    let at : turn st run.stage run ≡ turn_start st run = ap (λ x. turn st x run) s in
    let e = goes_is_turn st more r in
    subst (λ a. PausesAt run a) (sym e)
    (turn_pauses st more run (turn_start st run) refl at (subst (λ t. KeepsRest (length run.rest) t) at (turn_keeps st more run.stage run refl)) (goes_pauses more) (subst (λ (a : Asked). a.ask ≢ Finished) e n))

on_pauses : (rest : List Stated) (r : Run) → r.rest ≡ rest → (asked_on rest r).ask ≢ Finished → PausesAt r (asked_on rest r)
on_pauses [] r h n = absurd (n refl)
on_pauses (st ∷ more) r h n = turn_pauses st more r (turn st r.stage r) h refl (turn_keeps st more r.stage r h) (goes_pauses more) n

asked_by : (b : Bool) (r : Run) → let a : Asked = if b then record { ask = Finished; run = r } else asked_on r.rest r in a.ask ≢ Finished → PausesAt r a
asked_by true r n = absurd (n refl)
asked_by false r n = on_pauses r.rest r refl n

pub asked_pauses : (r : Run) → (asked r).ask ≢ Finished → PausesAt r (asked r)
asked_pauses r n = asked_by (is_some r.ending) r n
