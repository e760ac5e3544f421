-- Where in a deck the runner stands, and the statements that it passes from there.
use Rattle.std.proofs.Common.{◌≡◌, ◌⊎◌, ℕ, zero, suc, ◌<◌, ◌≤◌, true, List, [], ◌∷◌, map, set, get_or, Option, Some, None, is_some, slice_get, length, drop, refl, sym, ap, ◌∙◌, subst, inl, inr, arith}
use Rattle.std.specs.Prelude.{option_and_then, if◌then◌else◌}
use Rattle.fj_statement.specs.declared.deck.Variable.{Variable}
use Rattle.fj_slot.specs.Serving.{Meaning}
use Rattle.fj_slot.specs.Sound.{outcome}
use Rattle.fj_world.specs.declared.ask.Ask.{Ask}
use Rattle.fj_world.specs.declared.ask.Ask.TheVariants.{Submit, Settle, Finished}
use Rattle.fj_world.specs.Plain.{PlainSlot}
use Rattle.fj_bay.specs.Bay.{Bay}
use Rattle.fj_bay.specs.Jobs.{Job, Answer}
use Rattle.fj_meaning.specs.Statement.{Stated, Ending, begins}
use Rattle.fj_meaning.proofs.Begun.{begins_twice}
use Rattle.fj_meaning_jobs.specs.Desks.{Outcome}
use Rattle.fj_meaning_jobs.specs.Doing.{Desked}
use Rattle.fj_meaning_jobs.specs.Core.{Core}
use Rattle.fj_meaning_jobs.specs.Desking.{begun_at, desk_step}
use Rattle.fj_meaning_turns.specs.Run.{Stage, Start, Waiting, Acting, Awaiting, Run}
use Rattle.fj_meaning_turns.specs.Turns.{Turn, Pauses, Passes, Stops, begun_for, hand_at, turn_on, turn_begun, turn_start, turn, Asked, goes, by_turn, asked, told_of}
use Rattle.fj_meaning_turns.specs.Serving.{over_bays, desks_of}
use Rattle.fj_meaning_turns.specs.Awaiting.{IsAwaited, AwaitedAreTold}
use Rattle.fj_meaning_turns.specs.Inside.{does, cut_desks}
use Rattle.fj_meaning_turns.specs.Passing.{passed_by, passed_on, passes, output_due, known_due, tells_due, IsBefore, IsOnward, StandsAt}
use Rattle.fj_meaning_turns.specs.Standing.{HasTold}
use Rattle.fj_meaning_turns.proofs.Awaited.{bump_more, below_or, TurnTold, turn_told}
use Rattle.fj_meaning_turns.proofs.Slots.{same_some}
use Rattle.fj_meaning_turns.proofs.Ties.{Ties, more, given}
use Rattle.fj_meaning_turns.proofs.Reaching.{asked_at}
use Rattle.fj_meaning_turns.proofs.Decks.{goes_is_turn, cut_on, cut_here}
use Rattle.fj_meaning_turns.proofs.Stages.{AtStage, Paused, Passed, TurnComes, Leaves, walk_on}
use Rattle.fj_meaning_turns.proofs.Turned.{stage_comes, stage_leaves, stage_tells}

-- ---- the next statement of a deck

drop_next : (index : ℕ) (deck : List Stated) (st : Stated) (rest : List Stated) → drop index deck ≡ st ∷ rest → drop (suc index) deck ≡ rest
drop_next zero [] st rest e = cc
drop_next zero (x ∷ deck) st rest e = cc
drop_next (suc index) [] st rest e = cc
drop_next (suc index) (x ∷ deck) st rest e = drop_next index deck st rest e

cut_next : (variables : List Variable) (index : ℕ) (deck : List Stated) (p : Desked) (st : Stated) (before : Desked) → cut_desks variables index deck p ≡ Some (st, before) → (desk_step variables st before).1 ≡ None
    → cut_desks variables (suc index) deck p ≡ cut_desks variables zero (drop (suc index) deck) (desk_step variables st before).0
cut_next variables index [] p st before e none = cc
cut_next variables zero (x ∷ deck) p st before e none =
    let same : (begun_at p x, p) ≡ (st, before) = same_some e in
    let done : desk_step variables (begun_at p x) p ≡ desk_step variables st before = ap (λ y. desk_step variables y.0 y.1) same in
    cut_on variables zero x deck p (ap (λ s. s.1) done ∙ none) ∙ ap (λ s. cut_desks variables zero deck s.0) done
cut_next variables (suc index) (x ∷ deck) p st before e none =
    by (desk_step variables (begun_at p x) p).1 refl (λ f. cut_next variables index deck (desk_step variables (begun_at p x) p).0 st before f none)
  where
    by : (o : Option Ending) → (desk_step variables (begun_at p x) p).1 ≡ o
        → (cut_desks variables index deck (desk_step variables (begun_at p x) p).0 ≡ Some (st, before)
        → cut_desks variables (suc index) deck (desk_step variables (begun_at p x) p).0 ≡ cut_desks variables zero (drop (suc index) deck) (desk_step variables st before).0)
        → cut_desks variables (suc (suc index)) (x ∷ deck) p ≡ cut_desks variables zero (drop (suc (suc index)) (x ∷ deck)) (desk_step variables st before).0
    by None f later = cut_on variables (suc index) x deck p f ∙ later (sym (cut_on variables index x deck p f) ∙ e)
    by (Some ending) f later =
        absurd (let z : None ≡ Some (st, before) = sym (ap (λ o. elim o as (λ _. Option (Stated × Desked)) [ None ↦ cut_desks variables index deck (desk_step variables (begun_at p x) p).0 | Some y ↦ None ]) f) ∙ e in cc)

-- ---- the jobs that earlier statements wait for

-- more of each slot were told
told_more : (variables : List Variable) (deck : List Stated) (first : Desked) (last : ℕ) (told more : List ℕ) → ((k : ℕ) → get_or told k 0 ≤ get_or more k 0) → AwaitedAreTold variables deck first last told
    → AwaitedAreTold variables deck first last more
told_more variables deck first last told more h all slot number x = let was = all slot number x in let less = h slot in omega (arith, was, less)

-- and those of one more statement
one_place_more : (variables : List Variable) (deck : List Stated) (first : Desked) (index : ℕ) (st : Stated) (before : Desked) (told : List ℕ) → cut_desks variables index deck first ≡ Some (st, before)
    → AwaitedAreTold variables deck first index told → ((slot number : ℕ) → IsAwaited variables st before slot number → number < get_or told slot 0) → AwaitedAreTold variables deck first (suc index) told
one_place_more variables deck first index st before told e all here slot number x = elim (below_or x.index index x.earlier) [
  | inl low ↦ all slot number (record { index = x.index; earlier = low; statement = x.statement; before = x.before; reached = x.reached; awaited = x.awaited })
  | inr same ↦
      let is : ◌≡◌ {A = Stated × Desked} (x.statement, x.before) (st, before) = same_some (sym x.reached ∙ ap (λ i. cut_desks variables i deck first) same ∙ e) in
      here slot number (subst (λ y. IsAwaited variables y.0 y.1 slot number) is x.awaited)
]

-- where a statement is passed, the runner goes on at the next one
goes_asked : (sts : List Stated) (r : Run) → r.ending ≡ None → r.stage ≡ Start → goes sts r ≡ asked (record r { rest = sts })
goes_asked [] r none start =
    let over : Asked = record { ask = Finished; run = record r { rest = [] } } in
    sym (ap (λ e. if is_some e then over else over) none)
goes_asked (st ∷ rest) r none start =
    goes_is_turn st rest r ∙ ap (λ stage. by_turn rest (turn st stage (record r { rest = st ∷ rest }))) (sym start) ∙ sym (asked_at st rest (record r { rest = st ∷ rest }) none refl)

-- a statement that has begun is as it was
hand_same : {E J A : Type 0} (m : Meaning E J A Bay Job Answer) (variables : List Variable) (st : Stated) (p : Desked) (r : Run) (qs : List (PlainSlot Bay Job)) (stage : Stage) → AtStage m variables st p r qs stage → begun_at p st ≡ st
    → hand_at st stage r ≡ st
hand_same m variables st p r qs Start t fixed = ap (λ (k : Core). begins k.vars k.new_unit st) t.core ∙ fixed
hand_same m variables st p r qs Waiting t fixed = refl
hand_same m variables st p r qs (Acting d) t fixed = refl
hand_same m variables st p r qs (Awaiting slot number next) t fixed = refl

-- none is passed where none is left
pub passes_none : (count : ℕ) (r run : Run) → r.rest ≡ [] → passes count r ≡ Some run → run.rest ≡ []
passes_none zero r run none e = let same : r ≡ run = same_some e in ap (λ x. x.rest) (sym same) ∙ none
passes_none (suc count) r run none e = let z : None ≡ Some run = sym (ap (λ l. option_and_then (passes count) (passed_on l r)) none) ∙ e in cc

module _ {E J A : Type 0} (m : Meaning E J A Bay Job Answer) (variables : List Variable) (deck : List Stated) (first : Desked) where
  -- it stands inside a statement of the deck
  pub record At (r : Run) (qs : List (PlainSlot Bay Job)) : Type 0 where
    pub index : ℕ
    pub statement : Stated
    pub behind : List Stated
    pub before : Desked
    pub reached : cut_desks variables index deck first ≡ Some (statement, before)
    -- the one at hand, which is the statement once it begins, and those behind it
    pub at_hand : Stated
    pub here : r.rest ≡ at_hand ∷ behind
    pub hand : hand_at at_hand r.stage r ≡ statement
    pub fixed : begun_at before statement ≡ statement
    pub place : drop (suc index) deck ≡ behind
    pub variables_are : r.variables ≡ variables
    pub going : r.ending ≡ None
    pub stands : AtStage m variables statement before r qs r.stage
    -- each job that an earlier statement waits for was told
    pub earlier : AwaitedAreTold variables deck first index r.told

  -- the deck ended at a statement, which is the one at hand
  pub record EndedAt (run : Run) : Type 0 where
    pub index : ℕ
    pub statement : Stated
    pub before : Desked
    pub reached : cut_desks variables index deck first ≡ Some (statement, before)
    pub place : length run.rest ≡ length (drop index deck)
    pub ended : (desk_step variables statement before).1 ≡ run.ending
    pub some : is_some run.ending ≡ true
    pub earlier : AwaitedAreTold variables deck first index run.told

  -- no statement is left, or the deck ended
  abbrev pub Over : Run → Type 0
  Over run = ((run.rest ≡ []) × (run.ending ≡ None)) ⊎ EndedAt run

  moved_ties : (rest : List Stated) (r : Run) (qs : List (PlainSlot Bay Job)) (p : Desked) → Ties m r qs p → Ties m (record r { rest = rest }) qs p
  moved_ties rest r qs p t = record { core = t.core; desks = t.desks; sent = t.sent; told = t.told; within = t.within; slots = t.slots; housed = t.housed; same = t.same; kept = t.kept }

  -- where nothing of it is done, its turn is that of the statement that has begun
  started : (r : Run) (qs : List (PlainSlot Bay Job)) (x : At r qs) → begun_for r x.at_hand ≡ x.statement
      → turn_start x.at_hand r ≡ turn_begun x.statement (record r { rest = x.statement ∷ x.behind })
  started r qs x h = ap (λ y. turn_begun y (record r { rest = y ∷ drop 1 r.rest })) h ∙ ap (λ l. turn_begun x.statement (record r { rest = x.statement ∷ drop 1 l })) x.here

  comes_on : (r : Run) (qs : List (PlainSlot Bay Job)) (x : At r qs) (stage : Stage) → AtStage m r.variables x.statement x.before r qs stage → hand_at x.at_hand stage r ≡ x.statement
      → TurnComes m r.variables x.statement x.before (x.statement ∷ x.behind) qs (turn x.at_hand stage r)
  comes_on r qs x Start t h =
      subst (TurnComes m r.variables x.statement x.before (x.statement ∷ x.behind) qs) (sym (started r qs x h))
      (stage_comes m x.statement x.before (record r { rest = x.statement ∷ x.behind }) qs x.going Start (moved_ties (x.statement ∷ x.behind) r qs x.before t))
  comes_on r qs x Waiting t h =
      subst (λ y. TurnComes m r.variables x.statement x.before (x.statement ∷ x.behind) qs (turn y Waiting r)) (sym h)
      (subst (λ l. TurnComes m r.variables x.statement x.before l qs (turn_on x.statement Waiting r)) (x.here ∙ ap (λ y. y ∷ x.behind) h) (stage_comes m x.statement x.before r qs x.going Waiting t))
  comes_on r qs x (Acting d) t h =
      subst (λ y. TurnComes m r.variables x.statement x.before (x.statement ∷ x.behind) qs (turn y (Acting d) r)) (sym h)
      (subst (λ l. TurnComes m r.variables x.statement x.before l qs (turn_on x.statement (Acting d) r)) (x.here ∙ ap (λ y. y ∷ x.behind) h) (stage_comes m x.statement x.before r qs x.going (Acting d) t))
  comes_on r qs x (Awaiting slot number next) t h =
      subst (λ y. TurnComes m r.variables x.statement x.before (x.statement ∷ x.behind) qs (turn y (Awaiting slot number next) r)) (sym h)
      (subst (λ l. TurnComes m r.variables x.statement x.before l qs (turn_on x.statement (Awaiting slot number next) r)) (x.here ∙ ap (λ y. y ∷ x.behind) h)
      (stage_comes m x.statement x.before r qs x.going (Awaiting slot number next) t))

  comes_at : (r : Run) (qs : List (PlainSlot Bay Job)) (x : At r qs) → TurnComes m variables x.statement x.before (x.statement ∷ x.behind) qs (turn x.at_hand r.stage r)
  comes_at r qs x =
      subst (λ v. TurnComes m v x.statement x.before (x.statement ∷ x.behind) qs (turn x.at_hand r.stage r)) x.variables_are
      (comes_on r qs x r.stage (subst (λ v. AtStage m v x.statement x.before r qs r.stage) (sym x.variables_are) x.stands) x.hand)

  leaves_on : (r : Run) (qs : List (PlainSlot Bay Job)) (x : At r qs) (stage : Stage) → AtStage m r.variables x.statement x.before r qs stage → hand_at x.at_hand stage r ≡ x.statement
      → Leaves m r.variables x.statement x.before (turn x.at_hand stage r)
  leaves_on r qs x Start t h =
      subst (Leaves m r.variables x.statement x.before) (sym (started r qs x h))
      (stage_leaves m x.statement x.before (record r { rest = x.statement ∷ x.behind }) qs Start (moved_ties (x.statement ∷ x.behind) r qs x.before t))
  leaves_on r qs x Waiting t h = subst (λ y. Leaves m r.variables x.statement x.before (turn y Waiting r)) (sym h) (stage_leaves m x.statement x.before r qs Waiting t)
  leaves_on r qs x (Acting d) t h = subst (λ y. Leaves m r.variables x.statement x.before (turn y (Acting d) r)) (sym h) (stage_leaves m x.statement x.before r qs (Acting d) t)
  leaves_on r qs x (Awaiting slot number next) t h =
      subst (λ y. Leaves m r.variables x.statement x.before (turn y (Awaiting slot number next) r)) (sym h) (stage_leaves m x.statement x.before r qs (Awaiting slot number next) t)

  leaves_at : (r : Run) (qs : List (PlainSlot Bay Job)) (x : At r qs) → Leaves m variables x.statement x.before (turn x.at_hand r.stage r)
  leaves_at r qs x =
      subst (λ v. Leaves m v x.statement x.before (turn x.at_hand r.stage r)) x.variables_are
      (leaves_on r qs x r.stage (subst (λ v. AtStage m v x.statement x.before r qs r.stage) (sym x.variables_are) x.stands) x.hand)

  -- so many statements are left
  pub long_at : (r : Run) (qs : List (PlainSlot Bay Job)) (x : At r qs) → length r.rest ≡ length (drop x.index deck)
  long_at r qs x = ap length x.here ∙ ap (λ l. suc (length l)) (sym x.place) ∙ sym (cut_here variables x.index deck first (x.statement, x.before) x.reached)

  -- ---- a statement is passed

  next_at : (r : Run) (qs : List (PlainSlot Bay Job)) (x : At r qs) (run : Run) → run.told ≡ r.told → Passed m variables x.statement x.before run qs → (x.behind ≡ []) ⊎ At (record run { rest = x.behind }) qs
  next_at r qs x run same w = by x.behind refl
    where
      by : (sts : List Stated) → x.behind ≡ sts → (x.behind ≡ []) ⊎ At (record run { rest = x.behind }) qs
      by [] e = inl e
      by (st ∷ more) e = inr (record {
        index = suc x.index;
        statement = begun_at (desk_step variables x.statement x.before).0 st;
        behind = more;
        before = (desk_step variables x.statement x.before).0;
        reached = cut_next variables x.index deck first x.statement x.before x.reached w.onward ∙ ap (λ l. cut_desks variables zero l (desk_step variables x.statement x.before).0) (x.place ∙ e);
        at_hand = st;
        here = e;
        hand = ap (λ stage. hand_at st stage (record run { rest = x.behind })) w.start ∙ ap (λ (k : Core). begins k.vars k.new_unit st) w.ties.core;
        fixed = begins_twice (desk_step variables x.statement x.before).0.core.vars (desk_step variables x.statement x.before).0.core.new_unit st;
        place = drop_next (suc x.index) deck st more (x.place ∙ e);
        variables_are = w.variables_same;
        going = w.going;
        stands = subst (AtStage m variables (begun_at (desk_step variables x.statement x.before).0 st) (desk_step variables x.statement x.before).0 (record run { rest = x.behind }) qs) (sym w.start) (moved_ties x.behind run qs (desk_step variables x.statement x.before).0 w.ties);
        earlier = subst (AwaitedAreTold variables deck first (suc x.index)) (sym same)
            (one_place_more variables deck first x.index x.statement x.before r.told x.reached x.earlier (subst (λ ts. (slot number : ℕ) → IsAwaited variables x.statement x.before slot number → number < get_or ts slot 0) same w.awaited));
      })

  passed_at : (r : Run) (qs : List (PlainSlot Bay Job)) (x : At r qs) (count : ℕ) (run : Run)
      → ((r2 : Run) → At r2 qs → passes count r2 ≡ Some run → (run.rest ≡ []) ⊎ At run qs)
      → (t : Turn) → TurnTold r.told t → TurnComes m variables x.statement x.before (x.statement ∷ x.behind) qs t → option_and_then (passes count) (passed_by x.behind t) ≡ Some run → (run.rest ≡ []) ⊎ At run qs
  passed_at r qs x count run later (Pauses ask r2) told w e = absurd (let z : None ≡ Some run = e in cc)
  passed_at r qs x count run later (Stops r2) told w e = absurd (let z : None ≡ Some run = e in cc)
  passed_at r qs x count run later (Passes r2) told w e =
      elim (next_at r qs x r2 told w) [
        | inl none ↦ inl (passes_none count (record r2 { rest = x.behind }) run none e)
        | inr y ↦ later (record r2 { rest = x.behind }) y e
      ]

  -- behind so many statements that are passed it stands at one, or none is left
  pub passes_stand : (count : ℕ) (r : Run) (qs : List (PlainSlot Bay Job)) → At r qs → (run : Run) → passes count r ≡ Some run → (run.rest ≡ []) ⊎ At run qs
  passes_stand zero r qs x run e = let same : r ≡ run = same_some e in inr (subst (λ k. At k qs) same x)
  passes_stand (suc count) r qs x run e =
      passed_at r qs x count run (λ r2 y f. passes_stand count r2 qs y run f) (turn x.at_hand r.stage r) (turn_told x.at_hand r.stage r) (comes_at r qs x)
      (sym (ap (λ l. option_and_then (passes count) (passed_on l r)) x.here) ∙ e)

  -- ---- where it stands

  stage_point : (st : Stated) (p : Desked) (r : Run) (qs : List (PlainSlot Bay Job)) (stage : Stage) → AtStage m variables st p r qs stage
      → IsBefore p r (desks_of m qs) ⊎ IsOnward variables st p r (desks_of m qs)
  stage_point st p r qs Start t = inl (record { core = t.core; desks_are = t.desks })
  stage_point st p r qs Waiting (t, allowed) = inl (record { core = t.core; desks_are = t.desks })
  stage_point st p r qs (Acting d) (w, allowed) = inr (record { tells = w.tells; jobs = w.jobs; desks_are = w.ties.desks ∙ sym (ap (λ z. z.0) w.walk) })
  stage_point st p r qs (Awaiting slot number next) (w, allowed) = inr (record {
    tells = w.tells;
    jobs = suc w.jobs;
    desks_are = w.ties.desks ∙ w.carried ∙ sym (ap (λ z. z.0) (walk_on w.jobs p.desks w.at (does variables st p) _ w.walk));
  })

  stage_output : (st : Stated) (p : Desked) (r : Run) (qs : List (PlainSlot Bay Job)) (stage : Stage) → AtStage m variables st p r qs stage → r.core.output ≡ p.core.output
  stage_output st p r qs Start t = ap (λ k. k.output) t.core
  stage_output st p r qs Waiting (t, allowed) = ap (λ k. k.output) t.core
  stage_output st p r qs (Acting d) (w, allowed) = w.output
  stage_output st p r qs (Awaiting slot number next) (w, allowed) = w.output

  -- it has counted the jobs that were told
  stage_counts : (st : Stated) (p : Desked) (r : Run) (qs : List (PlainSlot Bay Job)) (stage : Stage) → AtStage m variables st p r qs stage → r.told ≡ map (λ (q : PlainSlot Bay Job). q.told) qs
  stage_counts st p r qs Start t = t.told
  stage_counts st p r qs Waiting (t, allowed) = t.told
  stage_counts st p r qs (Acting d) (w, allowed) = w.ties.told
  stage_counts st p r qs (Awaiting slot number next) (w, allowed) = w.ties.told

  pub counts_at : (r : Run) (qs : List (PlainSlot Bay Job)) → At r qs → r.told ≡ map (λ (q : PlainSlot Bay Job). q.told) qs
  counts_at r qs x = stage_counts x.statement x.before r qs r.stage x.stands

  -- the statement's transfers are told, or none of them
  pub tells_at : (r : Run) (qs : List (PlainSlot Bay Job)) (x : At r qs) → (r.core.tells ≡ x.before.core.tells) ⊎ HasTold x.statement x.before r
  tells_at r qs x =
      elim (stage_point x.statement x.before r qs r.stage x.stands) [
        | inl b ↦ inl (ap (λ k. k.tells) b.core)
        | inr w ↦ inr w.tells
      ]

  pub output_at : (r : Run) (qs : List (PlainSlot Bay Job)) (x : At r qs) → r.core.output ≡ x.before.core.output
  output_at r qs x = stage_output x.statement x.before r qs r.stage x.stands

  pub stands_at : (r : Run) (qs : List (PlainSlot Bay Job)) → At r qs → StandsAt variables deck first r (desks_of m qs)
  stands_at r qs x = record {
    index = x.index;
    statement = x.statement;
    before = x.before;
    reached = x.reached;
    rest = long_at r qs x;
    point = stage_point x.statement x.before r qs r.stage x.stands;
    output = output_at r qs x;
    due = ap (λ l. output_due l r) x.here ∙ leaves_at r qs x;
    tells = λ knows. ap (λ l. tells_due l r) x.here ∙ stage_tells m variables x.at_hand x.statement x.before r qs r.stage x.stands x.hand (subst (λ l. known_due l r) x.here knows);
  }

  -- ---- what it asks next

  -- inside a statement that leaves the output that there was; so many were told before the answer
  pub record AtAsk (told : List ℕ) (r : Run) (qs : List (PlainSlot Bay Job)) : Type 0 where
    pub stands : At r qs
    pub leaves : r.core.output ≡ (desk_step variables stands.statement stands.before).0.core.output
    pub before_it : AwaitedAreTold variables deck first stands.index told

  -- once the ask is answered it stands inside a statement; or it has finished
  abbrev pub Led : Ask Job → Run → List (PlainSlot Bay Job) → Type 0
  Led (Submit slot job) run qs = (q : PlainSlot Bay Job) × (slice_get qs slot ≡ Some q) × AtAsk run.told run (set qs slot (given q job))
  Led (Settle slot) run qs =
      (q : PlainSlot Bay Job) × (slice_get qs slot ≡ Some q) × (o : Outcome) × (outcome (over_bays m) q.start q.jobs q.told ≡ Some o) × AtAsk run.told (told_of run o) (set qs slot (more q))
  Led Finished run qs = Over run

  abbrev LedBy : Asked → List (PlainSlot Bay Job) → Type 0
  LedBy a qs = Led a.ask a.run qs

  paused_at : (r : Run) (qs : List (PlainSlot Bay Job)) (x : At r qs) (run : Run) (qs2 : List (PlainSlot Bay Job)) → ((k : ℕ) → get_or r.told k 0 ≤ get_or run.told k 0) → Paused m variables x.statement x.before (x.statement ∷ x.behind) run qs2 → At run qs2
  paused_at r qs x run qs2 further w = record {
    index = x.index;
    statement = x.statement;
    behind = x.behind;
    before = x.before;
    reached = x.reached;
    at_hand = x.statement;
    here = w.rest_same;
    hand = hand_same m variables x.statement x.before run qs2 run.stage w.stands x.fixed;
    fixed = x.fixed;
    place = x.place;
    variables_are = w.variables_same;
    going = w.going;
    stands = w.stands;
    earlier = told_more variables deck first x.index r.told run.told further x.earlier;
  }

  turn_leads : (r : Run) (qs : List (PlainSlot Bay Job)) (x : At r qs) → ((r2 : Run) → At r2 qs → r2.rest ≡ x.behind → LedBy (asked r2) qs)
      → (t : Turn) → TurnTold r.told t → TurnComes m variables x.statement x.before (x.statement ∷ x.behind) qs t → Leaves m variables x.statement x.before t → LedBy (by_turn x.behind t) qs
  unfolding paused_at
  turn_leads r qs x later (Pauses (Submit slot job) run) (told, due) (q, at, w) out = (
    q,
    at,
    record {
      stands = paused_at r qs x run (set qs slot (given q job)) (λ k. let same : get_or run.told k 0 ≡ get_or r.told k 0 = ap (λ ts. get_or ts k 0) told in omega (arith, same)) w;
      leaves = out;
      before_it = subst (AwaitedAreTold variables deck first x.index) (sym told) x.earlier;
    },
  )
  turn_leads r qs x later (Pauses (Settle slot) run) (told, due) (q, at, o, is, w) out = (
    q,
    at,
    o,
    is,
    record {
      stands = paused_at r qs x (told_of run o) (set qs slot (more q))
          (λ k. let same : get_or run.told k 0 ≡ get_or r.told k 0 = ap (λ ts. get_or ts k 0) told in let less = bump_more run.told run.due k in omega (arith, same, less)) w;
      leaves = out;
      before_it = subst (AwaitedAreTold variables deck first x.index) (sym told) x.earlier;
    },
  )
  turn_leads r qs x later (Pauses Finished run) told w out = absurd w
  turn_leads r qs x later (Stops run) told w out = inr (record {
    index = x.index;
    statement = x.statement;
    before = x.before;
    reached = x.reached;
    place = ap length w.rest_same ∙ ap (λ l. suc (length l)) (sym x.place) ∙ sym (cut_here variables x.index deck first (x.statement, x.before) x.reached);
    ended = w.ended;
    some = w.some;
    earlier = subst (AwaitedAreTold variables deck first x.index) (sym told) x.earlier;
  })
  turn_leads r qs x later (Passes run) told w out =
      elim (next_at r qs x run told w) [
        | inl none ↦ subst (λ l. LedBy (goes l run) qs) (sym none) (inl (refl, w.going))
        | inr y ↦ subst (λ a. LedBy a qs) (sym (goes_asked x.behind run w.going w.start)) (later (record run { rest = x.behind }) y refl)
      ]

  asks_lead : (sts : List Stated) (r : Run) (qs : List (PlainSlot Bay Job)) → At r qs → r.rest ≡ sts → LedBy (asked r) qs
  asks_lead [] r qs x e = absurd (let z : [] ≡ x.at_hand ∷ x.behind = sym e ∙ x.here in cc)
  asks_lead (st ∷ sts) r qs x e =
      let same : x.at_hand ∷ x.behind ≡ st ∷ sts = sym x.here ∙ e in
      let behind : x.behind ≡ sts = cc in
      subst (λ a. LedBy a qs) (sym (asked_at x.at_hand x.behind r x.going x.here))
      (turn_leads r qs x (λ r2 y f. asks_lead sts r2 qs y (f ∙ behind)) (turn x.at_hand r.stage r) (turn_told x.at_hand r.stage r) (comes_at r qs x) (leaves_at r qs x))

  pub asked_leads : (r : Run) (qs : List (PlainSlot Bay Job)) → At r qs → LedBy (asked r) qs
  asked_leads r qs x = asks_lead r.rest r qs x refl
