-- What is asked next, by what a turn comes to.
use Rattle.std.proofs.Common.{◌≡◌, ℕ, zero, suc, ◌+◌, Bool, true, false, List, [], ◌∷◌, drop, length, ◌<◌, ◌≤◌, get_or, slice_get, Option, Some, None, is_some, unwrap_or, arith, refl, sym, ap, ◌∙◌, subst}
use Rattle.std.specs.Option.{option_map}
use Rattle.fj_outside.specs.declared.outside.FileStore.{Ghosts}
use Rattle.fj_statement.specs.declared.deck.Lined.{Lined}
use Rattle.fj_world.specs.declared.ask.Ask.{Ask}
use Rattle.fj_world.specs.declared.ask.Ask.TheVariants.{Finished}
use Rattle.fj_bay.specs.declared.job.Job.{Job}
use Rattle.fj_meaning.specs.State.{Files}
use Rattle.fj_meaning.specs.Statement.{Stated, stated, control_by}
use Rattle.fj_meaning_turns.specs.Run.{Run, Stage, Start, Waiting, Acting, Awaiting}
use Rattle.fj_meaning_turns.specs.Turns.{Turn, Passes, Stops, ends_halts}
use Rattle.fj_bay.specs.Jobs.{Job as Task}
use Rattle.fj_bay.specs.Plain.{reply_of, task_of}
use Rattle.fj_meaning_jobs.specs.Acting.{doing}
use Rattle.fj_meaning_jobs.specs.Core.{Core}
use Rattle.fj_meaning_jobs.specs.Desks.{Outcome}
use Rattle.fj_meaning_jobs.specs.Doing.{Doing}
use Rattle.fj_meaning_looks.specs.Inquiring.{look_due}
use Rattle.fj_meaning_looks.specs.Looking.{asked_until, goes_until, turn_until}
use Rattle.fj_meaning_looks.proofs.Going.{asked_none, asked_over, goes_stops}
use Rattle.fj_meaning_looks.proofs.Meeting.{until_over}
use Rattle.fj_meaning_looks.proofs.Rests.{HasBegun}
use Rattle.fj_run_statements.specs.Doing.{next_of, then_of}
use Rattle.fj_run_statements.specs.State.{core_of}
use Rattle.fj_run_script.specs.declared.ending.Ending.{Ending as CodeEnding}
use Rattle.fj_run_script.specs.Machine.{at_hand, ending_of, numbered, stage_of, run_in, run_at, run_of, rest_of}
use Rattle.fj_run_script.specs.Handing.{put_in}
use Rattle.fj_run_script.specs.Turned.{Pausing, Stands, IsAsked}
use Rattle.fj_run_script.specs.declared.stage.Stage.{Stage as CodeStage}
use Rattle.fj_run_script.specs.declared.stage.Stage.TheVariants as stage
use Rattle.fj_statement.specs.declared.deck.Variable.{Variable}
use Rattle.fj_run_script.specs.declared.state.State.{State}
use Rattle.fj_run_script.specs.declared.machine.Machine.{Machine}
use Rattle.fj_run_script.proofs.AtHand.{hand_put}

pub some_same : {X : Type 0} (x y : X) → Some x ≡ Some y → x ≡ y
some_same x y e = ap (λ o. unwrap_or o x) e

-- ---- the statement at hand

pub at_hand_is : (sts : List Lined) (at : ℕ) (l : Lined) → slice_get sts at ≡ Some l → drop at (stated sts) ≡ (l, control_by l.what) ∷ drop (at + 1) (stated sts)
at_hand_is [] at l e = cc
at_hand_is (x ∷ xs) zero l e = ap (λ (y : Lined). (y, control_by y.what) ∷ stated xs) (some_same x l e)
at_hand_is (x ∷ xs) (suc n) l e =
    let one : suc (n + 1) ≡ suc n + 1 = omega arith in at_hand_is xs n l e ∙ ap (λ k. (l, control_by l.what) ∷ drop k (stated (x ∷ xs))) one

pub none_at_hand : (sts : List Lined) (at : ℕ) → slice_get sts at ≡ None → drop at (stated sts) ≡ []
none_at_hand [] zero e = refl
none_at_hand [] (suc n) e = refl
none_at_hand (x ∷ xs) zero e = cc
none_at_hand (x ∷ xs) (suc n) e = none_at_hand xs n e

pub found_at : (xs : List Lined) (n : ℕ) (x : Lined) → n < length xs → x ≡ get_or xs n x → slice_get xs n ≡ Some x
found_at [] n x h e = absurd (omega (arith, h))
found_at (y ∷ ys) zero x h e = ap Some (sym e)
found_at (y ∷ ys) (suc n) x h e = let low : n < length ys = omega (arith, h) in found_at ys n x low e

pub read_at_hand : (sts xs : List Lined) (at : ℕ) (l : Lined) → xs ≡ sts → at < length sts → l ≡ get_or xs at l → drop at (stated sts) ≡ (l, control_by l.what) ∷ drop (at + 1) (stated sts)
read_at_hand sts xs at l same low e = at_hand_is sts at l (found_at sts at l low (subst (λ (ys : List Lined). l ≡ get_or ys at l) same e))

-- there is one, with its number
pub some_at : (sts : List Lined) (at : ℕ) → at < length sts → (l : Lined) × (slice_get sts at ≡ Some l)
some_at [] at h = absurd (omega (arith, h))
some_at (x ∷ xs) zero h = (x, refl)
some_at (x ∷ xs) (suc n) h = let low : n < length xs = omega (arith, h) in some_at xs n low

module _ {F : Type 0} {ghosts : Ghosts F} (m : Machine F ghosts) where
  abbrev pub behind_at : List Stated
  behind_at = drop (m.at.place + 1) (stated m.deck.statements)

  pub hand_is : (l : Lined) → slice_get m.deck.statements m.at.place ≡ Some l
      → rest_of m ≡ (record l { what = put_in m.at.number l.what }, control_by (put_in m.at.number l.what)) ∷ behind_at
  hand_is l e = ap (numbered m.at.number) (at_hand_is m.deck.statements m.at.place l e) ∙ hand_put m.at.number l behind_at

  pub here_at : m.at.place < length m.deck.statements → (st : Stated) × (rest_of m ≡ st ∷ behind_at)
  here_at low = let l = some_at m.deck.statements m.at.place low in (_, hand_is l.0 l.1)

-- ---- one turn

pub not_ended : (o : Option CodeEnding) → is_some o ≡ false → option_map ending_of o ≡ None
not_ended None e = refl
not_ended (Some it) e = cc

-- nothing is asked
pub rests_asked : {F : Type 0} {ghosts : Ghosts F} → (looks : Stated → Run → Bool) (told : F → Bool) (bytes : F → List ℕ) (files : Files) (m : Machine F ghosts) (r : Run) → run_of told bytes files m ≡ Some r
    → asked_until looks r ≡ record { ask = Finished; run = r } → IsAsked told bytes files m Finished (asked_until looks r)
rests_asked looks told bytes files m r known e = subst (λ a. IsAsked told bytes files m Finished a) (sym e) (record { run = known; asks = tt })

pub some_ended : (o : Option CodeEnding) → is_some o ≡ true → is_some (option_map ending_of o) ≡ true
some_ended None e = cc
some_ended (Some it) e = refl

-- it has ended
pub ended_asked : {F : Type 0} {ghosts : Ghosts F} → (looks : Stated → Run → Bool) (files : Files) (m : Machine F ghosts) (x : Stage) (r : Run) → run_at files m x ≡ r → is_some m.state.ending ≡ true
    → asked_until looks r ≡ record { ask = Finished; run = r }
ended_asked looks files m x r e ended = asked_over looks r (ap (λ (y : Run). is_some y.ending) (sym e) ∙ some_ended m.state.ending ended)

none_behind : (sts : List Lined) (at : ℕ) → length sts ≤ at → drop at (stated sts) ≡ []
none_behind [] zero h = refl
none_behind [] (suc n) h = refl
none_behind (x ∷ xs) zero h = absurd (omega (arith, h))
none_behind (x ∷ xs) (suc n) h = let low : length xs ≤ n = omega (arith, h) in none_behind xs n low

none_numbered : (o : Option ℕ) → numbered o [] ≡ []
none_numbered None = refl
none_numbered (Some n) = refl

pub rest_none : {F : Type 0} {ghosts : Ghosts F} → (m : Machine F ghosts) → length m.deck.statements ≤ m.at.place → rest_of m ≡ []
rest_none m low = ap (numbered m.at.number) (none_behind m.deck.statements m.at.place low) ∙ none_numbered m.at.number

-- no statement is at hand
pub done_asked : {F : Type 0} {ghosts : Ghosts F} → (looks : Stated → Run → Bool) (files : Files) (m : Machine F ghosts) (x : Stage) (r : Run) → run_at files m x ≡ r → is_some m.state.ending ≡ false
    → length m.deck.statements ≤ m.at.place → asked_until looks r ≡ record { ask = Finished; run = r }
done_asked looks files m x r e going low = asked_none looks r (ap (λ (y : Run). y.ending) (sym e) ∙ not_ended m.state.ending going) (ap (λ (y : Run). y.rest) (sym e) ∙ rest_none m low)

pub run_known : {X Y : Type 0} (f : X → Y) (o : Option X) (r : Y) → option_map f o ≡ Some r → (x : X) × (o ≡ Some x) × (f x ≡ r)
run_known f None r e = cc
run_known f (Some x) r e = (x, refl, some_same (f x) r e)

pub at_start : {F : Type 0} {ghosts : Ghosts F} → (told : F → Bool) (bytes : F → List ℕ) (files : Files) (m : Machine F ghosts) → m.state.stage ≡ stage.Start → run_of told bytes files m ≡ Some (run_at files m Start)
at_start told bytes files m h = ap (λ st. option_map (run_at files m) (stage_of told bytes m.deck.variables (rest_of m) (core_of files m.state.core) st)) h

-- a statement that has begun
acting_begun : (rest : List Stated) (by : Stated → Doing) (x : Stage) → at_hand rest (λ st. Some (Acting (by st))) ≡ Some x → HasBegun x
acting_begun [] by x e = cc
acting_begun (st ∷ more) by x e = subst HasBegun (some_same (Acting (by st)) x e) tt

awaiting_begun : (rest : List Stated) (slot number : ℕ) (by : Stated → Outcome → Doing) (x : Stage) → at_hand rest (λ st. Some (Awaiting slot number (by st))) ≡ Some x → HasBegun x
awaiting_begun [] slot number by x e = cc
awaiting_begun (st ∷ more) slot number by x e = subst HasBegun (some_same (Awaiting slot number (by st)) x e) tt

answered_begun : (rest : List Stated) (o : Option Task) (by : Stated → Task → Doing) (x : Stage) → at_hand rest (λ st. option_map (λ task. Acting (by st task)) o) ≡ Some x → HasBegun x
answered_begun [] o by x e = cc
answered_begun (st ∷ more) None by x e = cc
answered_begun (st ∷ more) (Some task) by x e = subst HasBegun (some_same (Acting (by st task)) x e) tt

pub begun_stage : {F : Type 0} → (told : F → Bool) (bytes : F → List ℕ) (variables : List Variable) (rest : List Stated) (core : Core) (s : CodeStage F) (x : Stage) → stage_of told bytes variables rest core s ≡ Some x
    → (s ≡ stage.Start → ⊥) → HasBegun x
begun_stage told bytes variables rest core stage.Start x e begun = absurd (begun refl)
begun_stage told bytes variables rest core (stage.Waiting whose from) x e begun = subst HasBegun (some_same Waiting x e) tt
begun_stage told bytes variables rest core (stage.Resuming slots next condition) x e begun =
    acting_begun rest (λ st. ends_halts (drop next slots) core (doing st.1 variables st.0.line core st.0.what condition)) x e
begun_stage told bytes variables rest core (stage.Going next number) x e begun = acting_begun rest (λ st. next_of variables st core next number) x e
begun_stage told bytes variables rest core (stage.Awaiting slot number next) x e begun = awaiting_begun rest slot number (λ st. then_of variables st core next) x e
begun_stage told bytes variables rest core (stage.Answered next job answer) x e begun =
    answered_begun rest (task_of told bytes job) (λ st task. then_of variables st core next (task, reply_of answer)) x e

-- ---- what it comes to

module _ {F : Type 0} {ghosts : Ghosts F} (looks : Stated → Run → Bool) (told : F → Bool) (bytes : F → List ℕ) (files : Files) (m : Machine F ghosts) (more : List Stated) (t : Turn) where
  pub pausing_asks : (ask : Ask (Job F)) → Pausing told bytes m.deck.variables (rest_of m) files m.state ask t → IsAsked told bytes files m ask (turn_until looks more t)
  pausing_asks ask p = subst (λ t. IsAsked told bytes files m ask (turn_until looks more t)) (sym p.comes) (record { run = ap (option_map (run_at files m)) p.stands; asks = p.asks })

  pub stops_asks : m.state.stage ≡ stage.Start → t ≡ Stops (run_at files m Start) → IsAsked told bytes files m Finished (turn_until looks more t)
  stops_asks h e = subst (λ t. IsAsked told bytes files m Finished (turn_until looks more t)) (sym e) (record { run = at_start told bytes files m h; asks = tt })

  pub passes_goes : t ≡ Passes (run_at files m Start) → turn_until looks more t ≡ goes_until looks more (run_in m.deck.variables more files m.state Start)
  passes_goes e = ap (turn_until looks more) e ∙ until_over looks more (rest_of m) (run_in m.deck.variables more files m.state Start)

module _ {F : Type 0} {ghosts : Ghosts F} (looks : Stated → Run → Bool) (told : F → Bool) (bytes : F → List ℕ) (files : Files) (m : Machine F ghosts) where
  -- nothing is at hand
  pub ends_asked : m.state.stage ≡ stage.Start → rest_of m ≡ [] → IsAsked told bytes files m Finished (goes_until looks (rest_of m) (run_at files m Start))
  ends_asked h e =
      let none : goes_until looks (rest_of m) (run_at files m Start) ≡ record { ask = Finished; run = run_at files m Start } =
      ap (λ l. goes_until looks l (run_at files m Start)) e ∙ ap (λ l. record { ask = Finished; run = run_in m.deck.variables l files m.state Start }) (sym e) in
      subst (IsAsked told bytes files m Finished) (sym none) (record { run = at_start told bytes files m h; asks = tt })

  -- the statement at hand looks
  pub stops_at : m.state.stage ≡ stage.Start → look_due looks (rest_of m) (run_at files m Start) ≡ true → IsAsked told bytes files m Finished (goes_until looks (rest_of m) (run_at files m Start))
  stops_at h due = subst (IsAsked told bytes files m Finished) (sym (goes_stops looks (run_at files m Start) due)) (record { run = at_start told bytes files m h; asks = tt })

-- a state that is that run
pub stands_run : {F : Type 0} {ghosts : Ghosts F} → (told : F → Bool) (bytes : F → List ℕ) (variables : List Variable) (rest : List Stated) (files : Files) (s : State F ghosts) (r : Run)
    → Stands told bytes variables rest files s r → option_map (run_in variables rest files s) (stage_of told bytes variables rest (core_of files s.core) s.stage) ≡ Some r
stands_run told bytes variables rest files s r stands = ap (option_map (run_in variables rest files s)) stands.stage ∙ ap Some stands.run
