-- No statement looks that a stretch passes: where the execution of the deck comes to one that looks, the stretch stops there or has not come so far.
use Rattle.std.proofs.Common.{◌≡◌, ◌≢◌, ◌⊎◌, ℕ, zero, suc, ◌<◌, ◌≤◌, Bool, true, false, List, [], ◌∷◌, length, drop, Option, Some, None, is_some, slice_get, refl, sym, ap, ◌∙◌, subst, inl, inr, arith}
use Rattle.std.specs.Prelude.{option_and_then}
use Rattle.fj_statement.specs.declared.deck.Lined.{Lined}
use Rattle.fj_statement.specs.declared.deck.Variable.{Variable}
use Rattle.fj_statement.specs.declared.deck.Deck.{Deck}
use Rattle.fj_slot.specs.Serving.{Meaning}
use Rattle.fj_slot.specs.Sound.{outcome}
use Rattle.fj_world.specs.declared.ask.Ask.{Ask}
use Rattle.fj_world.specs.declared.ask.Ask.TheVariants.{Submit, Settle, Finished}
use Rattle.fj_world.specs.Losing.{given_number, given_reply, given_outcome, answered, before_ask, HasAsked}
use Rattle.fj_world.specs.Plain.{Plain, PlainSlot, asked_next, submitted_to, told_from, settled_from, served, next}
use Rattle.fj_world.proofs.Runs.{after_next}
use Rattle.fj_bay.specs.Bay.{Bay}
use Rattle.fj_bay.specs.Jobs.{Job, Answer}
use Rattle.fj_meaning.specs.State.{Files}
use Rattle.fj_meaning.specs.Statement.{Stated, stated, control_by, Ending}
use Rattle.fj_meaning_jobs.specs.Core.{Core}
use Rattle.fj_meaning_jobs.specs.Desks.{Outcome}
use Rattle.fj_meaning_jobs.specs.Doing.{Desked}
use Rattle.fj_meaning_jobs.specs.Desking.{begun_at, desk_step, fresh}
use Rattle.fj_meaning_turns.specs.Inside.{cut_desks}
use Rattle.fj_meaning_turns.specs.Passing.{passed_by, passed_on, passes}
use Rattle.fj_meaning_turns.specs.Run.{Run, Stage, Start, Waiting, Acting, Awaiting}
use Rattle.fj_meaning_turns.specs.Serving.{over_bays, Shows, first_run, fresh_slots}
use Rattle.fj_meaning_turns.specs.Turns.{Turn, Pauses, Passes, Stops, Asked, begun_for, hand_at, turn_on, turn, turn_start, by_turn, asked}
use Rattle.fj_meaning_turns.proofs.Awaited.{below_or}
use Rattle.fj_meaning_turns.proofs.Passed.{At, Over, long_at, Led, asked_leads}
use Rattle.fj_meaning_turns.proofs.Reaching.{asked_at}
use Rattle.fj_meaning_turns.proofs.Slots.{same_some}
use Rattle.fj_meaning_turns.proofs.Stages.{AtStage}
use Rattle.fj_meaning_turns.proofs.Ties.{Ties}
use Rattle.fj_meaning_looks.specs.Inquiring.{looks_for, is_looking}
use Rattle.fj_meaning_looks.specs.Looking.{goes_until, turn_until, asked_until, stretch_conduct}
use Rattle.fj_meaning_looks.specs.Stretches.{with_rest, StandsAtLook, Between, stretch, Follows}
use Rattle.fj_meaning_looks.proofs.Coming.{by_look, on_turn_is}
use Rattle.fj_meaning_looks.proofs.Meeting.{until_stage, until_turn, until_over}
use Rattle.fj_meaning_looks.proofs.Putting.{asks_follow}
use Rattle.fj_meaning_looks.proofs.Rests.{over, turn_is, HasBegun, IsAsking, Leaves, turn_leaves}
use Rattle.fj_job.proofs.Leaving.{same_index}
use Rattle.fj_job.proofs.Passes.{EndsSo, passes_on}
use Rattle.fj_meaning_cut.proofs.Given.{within_deck}
use Rattle.fj_poll.specs.Looks.{Asks}
use Rattle.fj_poll.specs.Stretches.{left_from}
use Rattle.fj_poll.proofs.Standing.{comes_at, between_at}

-- ---- places of a deck

-- the statement that the execution comes to is the one that stands there, as it begins
pub cut_place : (variables : List Variable) (place : ℕ) (ls : List Lined) (p : Desked) (lined : Lined) (st : Stated) (before : Desked) → slice_get ls place ≡ Some lined → cut_desks variables place (stated ls) p ≡ Some (st, before)
    → st ≡ begun_at before (lined, control_by lined.what)
cut_place variables zero [] p lined st before is e = cc
cut_place variables (suc place) [] p lined st before is e = cc
cut_place variables zero (l ∷ ls) p lined st before is e =
    let same : ◌≡◌ {A = Stated × Desked} (begun_at p (l, control_by l.what), p) (st, before) = same_some e in
    let first : l ≡ lined = same_some is in
    sym (ap (λ (x : Stated × Desked). x.0) same) ∙ ap (λ (x : Stated × Desked). begun_at x.1 (l, control_by l.what)) same ∙ ap (λ (x : Lined). begun_at before (x, control_by x.what)) first
cut_place variables (suc place) (l ∷ ls) p lined st before is e =
    by (desk_step variables (begun_at p (l, control_by l.what)) p) (cut_place variables place ls (desk_step variables (begun_at p (l, control_by l.what)) p).0 lined st before is) e
  where
    by : (done : Desked × Option Ending) → (cut_desks variables place (stated ls) done.0 ≡ Some (st, before) → st ≡ begun_at before (lined, control_by lined.what))
        → elim done.1 as (λ _. Option (Stated × Desked)) [ None ↦ cut_desks variables place (stated ls) done.0 | Some ending ↦ None ] ≡ Some (st, before) → st ≡ begun_at before (lined, control_by lined.what)
    by (later, None) on f = on f
    by (later, Some ending) on f = absurd (let z : None ≡ Some (st, before) = f in cc)

-- where it ended at a statement, it comes to none behind
cut_ended : (variables : List Variable) (index place : ℕ) (sts : List Stated) (p : Desked) (st : Stated) (before : Desked) (x : Stated × Desked) → cut_desks variables index sts p ≡ Some (st, before)
    → is_some (desk_step variables st before).1 ≡ true → index < place → cut_desks variables place sts p ≡ Some x → ⊥
cut_ended variables index place [] p st before x e some low f = cc
cut_ended variables zero zero (y ∷ sts) p st before x e some low f = absurd (omega (arith, low))
cut_ended variables (suc index) zero (y ∷ sts) p st before x e some low f = absurd (omega (arith, low))
cut_ended variables zero (suc place) (y ∷ sts) p st before x e some low f =
    let same : ◌≡◌ {A = Stated × Desked} (begun_at p y, p) (st, before) = same_some e in
    by (desk_step variables (begun_at p y) p) (ap (λ (z : Stated × Desked). is_some (desk_step variables z.0 z.1).1) same ∙ some) f
  where
    by : (done : Desked × Option Ending) → is_some done.1 ≡ true → elim done.1 as (λ _. Option (Stated × Desked)) [ None ↦ cut_desks variables place sts done.0 | Some ending ↦ None ] ≡ Some x → ⊥
    by (later, None) over g = let z : false ≡ true = over in cc
    by (later, Some ending) over g = let z : None ≡ Some x = g in cc
cut_ended variables (suc index) (suc place) (y ∷ sts) p st before x e some low f =
    by (desk_step variables (begun_at p y) p) (λ g h. cut_ended variables index place sts (desk_step variables (begun_at p y) p).0 st before x g some (omega (arith, low)) h) e f
  where
    by : (done : Desked × Option Ending) → (cut_desks variables index sts done.0 ≡ Some (st, before) → cut_desks variables place sts done.0 ≡ Some x → ⊥)
        → elim done.1 as (λ _. Option (Stated × Desked)) [ None ↦ cut_desks variables index sts done.0 | Some ending ↦ None ] ≡ Some (st, before)
        → elim done.1 as (λ _. Option (Stated × Desked)) [ None ↦ cut_desks variables place sts done.0 | Some ending ↦ None ] ≡ Some x → ⊥
    by (later, None) on g h = on g h
    by (later, Some ending) on g h = let z : ◌≡◌ {A = Option (Stated × Desked)} None (Some (st, before)) = g in cc

-- fewer are left from a later place on
later_by : (xs : List Stated) (i j : ℕ) → length (drop j xs) < length (drop i xs) → i < j
later_by [] zero zero h = absurd (omega (arith, h))
later_by [] zero (suc j) h = omega arith
later_by [] (suc i) zero h = absurd (omega (arith, h))
later_by [] (suc i) (suc j) h = absurd (omega (arith, h))
later_by (x ∷ xs) zero zero h = absurd (omega (arith, h))
later_by (x ∷ xs) zero (suc j) h = omega arith
later_by (x ∷ xs) (suc i) zero h = absurd (over_whole xs i h)
  where
    over_whole : (ys : List Stated) (k : ℕ) → suc (length ys) < length (drop k ys) → ⊥
    over_whole ys zero g = omega (arith, g)
    over_whole [] (suc k) g = omega (arith, g)
    over_whole (y ∷ ys) (suc k) g = over_whole ys k (omega (arith, g))
later_by (x ∷ xs) (suc i) (suc j) h = let k = later_by xs i j h in omega (arith, k)

-- ---- answers keep the statements that are left

module _ {E J A S : Type 0} (m : Meaning E J A Bay Job Answer) (s : Shows S) where
  abbrev Goes : Plain Bay (stretch_conduct is_looking s) → Plain Bay (stretch_conduct is_looking s) → Run × List (PlainSlot Bay Job) → Type 0
  Goes x y b = ((y ≡ x) ⊎ (y ≡ asked_next (over_bays m) (stretch_conduct is_looking s) b.0 b.1)) × (b.0.rest ≡ x.script.rest)

  served_goes : (ask : Ask Job) (x : Plain Bay (stretch_conduct is_looking s))
      → Goes x (served (over_bays m) (stretch_conduct is_looking s) ask x) (answered (over_bays m) (stretch_conduct is_looking s) ask x)
  served_goes Finished x = (inl refl, refl)
  served_goes (Submit slot job) x = by (slice_get x.slots slot)
    where
      by : (o : Option (PlainSlot Bay Job)) → Goes x (submitted_to (over_bays m) (stretch_conduct is_looking s) o slot job x) (given_number (over_bays m) (stretch_conduct is_looking s) o slot job x)
      by None = (inl refl, refl)
      by (Some q) = (inr refl, refl)
  served_goes (Settle slot) x = by (slice_get x.slots slot)
    where
      told : (o : Option Outcome) (q : PlainSlot Bay Job) → Goes x (told_from (over_bays m) (stretch_conduct is_looking s) o q slot x) (given_reply (over_bays m) (stretch_conduct is_looking s) o q slot x)
      told None q = (inl refl, refl)
      told (Some o) q = (inr refl, refl)

      by : (o : Option (PlainSlot Bay Job)) → Goes x (settled_from (over_bays m) (stretch_conduct is_looking s) o slot x) (given_outcome (over_bays m) (stretch_conduct is_looking s) o slot x)
      by None = (inl refl, refl)
      by (Some q) = told (outcome (over_bays m) q.start q.jobs q.told) q

-- ---- a statement of the deck that looks, and to which the execution comes

module _ {E J A : Type 0} (m : Meaning E J A Bay Job Answer) (deck : Deck) (files : Files) (so : EndsSo (stated deck.statements)) (some : stated deck.statements ≡ [] → ⊥)
    (place : ℕ) (lined : Lined) (item : slice_get deck.statements place ≡ Some lined) (a : Asks deck files place lined) where
  abbrev IsAt : Run → List (PlainSlot Bay Job) → Type 0
  IsAt r qs = At m deck.variables (stated deck.statements) (fresh deck.variables files) r qs

  -- a run there looks
  looks_there : (r : Run) (qs : List (PlainSlot Bay Job)) (x : IsAt r qs) → r.stage ≡ Start → left_from deck place ≡ length r.rest → (st : Stated) (rest : List Stated) → r.rest ≡ st ∷ rest → is_looking st r ≡ true
  looks_there r qs x start left st rest is =
      let sts : List Stated = stated deck.statements in
      let first : Desked = fresh deck.variables files in
      let at : x.index ≡ place = same_index sts x.index place (within_deck deck.variables place sts first (a.statement, a.before) a.there) (sym (left ∙ long_at m deck.variables sts first r qs x)) in
      let both : ◌≡◌ {A = Stated × Desked} (x.statement, x.before) (a.statement, a.before) = same_some (sym x.reached ∙ ap (λ n. cut_desks deck.variables n sts first) at ∙ a.there) in
      let hand : st ≡ x.at_hand = let e : st ∷ rest ≡ x.at_hand ∷ x.behind = sym is ∙ x.here in cc in
      let begun : begun_for r st ≡ begun_at a.before (lined, control_by lined.what) =
      ap (begun_for r) hand ∙ ap (λ stage. hand_at x.at_hand stage r) (sym start) ∙ x.hand ∙ ap (λ (y : Stated × Desked). y.0) both
      ∙ cut_place deck.variables place deck.statements first lined a.statement a.before item a.there in
      let ties : Ties m r qs x.before = subst (AtStage m deck.variables x.statement x.before r qs) start x.stands in
      let core : r.core ≡ a.before.core = ties.core ∙ ap (λ (y : Stated × Desked). y.1.core) both in
      ap (λ vs. is_some (looks_for vs (begun_for r st) r.core)) x.variables_are ∙ ap (λ y. is_some (looks_for deck.variables y r.core)) begun
      ∙ ap (λ (k : Core). is_some (looks_for deck.variables (begun_at a.before (lined, control_by lined.what)) k)) core ∙ ap is_some a.asks

  -- it stopped at a look that is not behind, or has not come so far
  abbrev pub Shown : Ask Job → Run → Type 0
  Shown ask run = ((ask ≡ Finished) × StandsAtLook is_looking run × (left_from deck place ≤ length run.rest)) ⊎ (IsAsking ask × (left_from deck place < length run.rest))

  -- by the turn of a statement before that
  turn_shows : (st : Stated) (rest : List Stated) (r : Run) (qs : List (PlainSlot Bay Job)) (x : IsAt r qs) → r.rest ≡ st ∷ rest → left_from deck place ≤ length rest
      → ((next : Run) → IsAt next qs → next.rest ≡ rest → next.stage ≡ Start → let a' = goes_until is_looking rest next in Shown a'.ask a'.run)
      → let a' = turn_until is_looking rest (turn st r.stage r) in Shown a'.ask a'.run
  turn_shows st rest r qs x is low later =
      let hand : Stated = hand_at st r.stage r in
      let turns : turn st r.stage r ≡ over (hand ∷ rest) (turn_on hand r.stage r) = ap (λ l. turn st r.stage (with_rest l r)) is ∙ turn_is st r.stage r rest in
      subst (λ t. let a' = turn_until is_looking rest t in Shown a'.ask a'.run) (sym turns) (by (turn_on hand r.stage r) turns (turn_leaves hand r.stage r x.going))
    where
      -- the deck ended before that place
      ended : (run : Run) → is_some run.ending ≡ true → run.rest ≡ hand_at st r.stage r ∷ rest → Over m deck.variables (stated deck.statements) (fresh deck.variables files) run → ⊥
      ended run stops behind (inl (none, going)) = let z : true ≡ false = sym stops ∙ ap is_some going in cc
      ended run stops behind (inr y) =
          let long : length (hand_at st r.stage r ∷ rest) ≡ left_from deck y.index = ap length (sym behind) ∙ y.place in
          cut_ended deck.variables y.index place (stated deck.statements) (fresh deck.variables files) y.statement y.before (a.statement, a.before) y.reached (ap is_some y.ended ∙ y.some)
          (later_by (stated deck.statements) y.index place (omega (arith, long, low))) a.there

      by : (t : Turn) → turn st r.stage r ≡ over (hand_at st r.stage r ∷ rest) t → Leaves t → let a' = turn_until is_looking rest (over (hand_at st r.stage r ∷ rest) t) in Shown a'.ask a'.run
      by (Pauses ask run) e k = inr (k.1, omega (arith, low))
      by (Passes run) e k =
          let hand : Stated = hand_at st r.stage r in
          let next : Run = with_rest rest run in
          let passed : passes 1 r ≡ Some next = ap (option_and_then (passes 0)) (ap (λ l. passed_on l r) is ∙ ap (passed_by rest) e) in
          let there : IsAt next qs = passes_on m deck.variables (stated deck.statements) (fresh deck.variables files) so 1 r next qs x passed in
          subst (λ a'. Shown a'.ask a'.run) (until_over is_looking rest rest (with_rest (hand ∷ rest) run)) (later next there refl k.0)
      by (Stops run) e k =
          let hand : Stated = hand_at st r.stage r in
          let stops : asked r ≡ record { ask = Finished; run = with_rest (hand ∷ rest) run } = asked_at st rest r x.going is ∙ ap (by_turn rest) e in
          absurd (ended (with_rest (hand ∷ rest) run) k refl
          (subst (λ (a' : Asked). Led m deck.variables (stated deck.statements) (fresh deck.variables files) a'.ask a'.run qs) stops (asked_leads m deck.variables (stated deck.statements) (fresh deck.variables files) r qs x)))

  -- from the start of a statement on
  goes_shows : (l : List Stated) (r : Run) (qs : List (PlainSlot Bay Job)) → IsAt r qs → r.rest ≡ l → r.stage ≡ Start → left_from deck place ≤ length l → let a' = goes_until is_looking l r in Shown a'.ask a'.run
  goes_shows [] r qs x is start low = absurd (let z : [] ≡ x.at_hand ∷ x.behind = sym is ∙ x.here in cc)
  goes_shows (st ∷ rest) r qs x is start low = by (λ next y f g h. goes_shows rest next qs y f g h) (is_looking st (with_rest (st ∷ rest) r)) refl
    where
      here : with_rest (st ∷ rest) r ≡ r
      here = ap (λ l. with_rest l r) (sym is)

      less : is_looking st (with_rest (st ∷ rest) r) ≡ false → left_from deck place ≤ length rest
      less e = elim (below_or (left_from deck place) (suc (length rest)) (omega (arith, low))) [
        | inl lower ↦ omega (arith, lower)
        | inr same ↦ absurd (let z : true ≡ false = sym (looks_there r qs x start (same ∙ ap length (sym is)) st rest is) ∙ ap (is_looking st) (sym here) ∙ e in cc)
      ]

      by : ((next : Run) → IsAt next qs → next.rest ≡ rest → next.stage ≡ Start → left_from deck place ≤ length rest → let a' = goes_until is_looking rest next in Shown a'.ask a'.run)
          → (b : Bool) → is_looking st (with_rest (st ∷ rest) r) ≡ b → let a' = goes_until is_looking (st ∷ rest) r in Shown a'.ask a'.run
      by later true e =
          subst (λ a'. Shown a'.ask a'.run) (sym (by_look is_looking st rest r true e))
          (inl (refl, record { statement = st; behind = rest; rest = refl; looks_there = e; stage = start; ending = x.going }, low))
      by later false e =
          subst (λ a'. Shown a'.ask a'.run)
          (sym (by_look is_looking st rest r false e ∙ on_turn_is is_looking rest (turn_start st (with_rest (st ∷ rest) r)) ∙ ap (λ (y : Run). turn_until is_looking rest (turn_start st y)) here ∙ ap (λ stage. turn_until is_looking rest (turn st stage r)) (sym start)))
          (turn_shows st rest r qs x is (less e) (λ next y f g. later next y f g (less e)))

  -- by one ask
  asked_shows : (r : Run) (qs : List (PlainSlot Bay Job)) → IsAt r qs → left_from deck place ≤ length r.rest → (HasBegun r.stage → left_from deck place < length r.rest) → let a' = asked_until is_looking r in Shown a'.ask a'.run
  asked_shows r qs x low begun = by r.stage refl
    where
      on : HasBegun r.stage → let a' = asked_until is_looking r in Shown a'.ask a'.run
      on k =
          let less : left_from deck place ≤ length x.behind = let lower = begun k in let long = ap length x.here in omega (arith, lower, long) in
          subst (λ a'. Shown a'.ask a'.run) (sym (until_turn is_looking x.at_hand x.behind r x.going x.here (inl k)))
          (turn_shows x.at_hand x.behind r qs x x.here less (λ next y f g. goes_shows x.behind next qs y f g less))

      by : (stage : Stage) → r.stage ≡ stage → let a' = asked_until is_looking r in Shown a'.ask a'.run
      by Start e = subst (λ a'. Shown a'.ask a'.run) (sym (until_stage is_looking r Start x.going e)) (goes_shows r.rest r qs x refl e low)
      by Waiting e = on (subst HasBegun (sym e) tt)
      by (Acting d) e = on (subst HasBegun (sym e) tt)
      by (Awaiting slot number next) e = on (subst HasBegun (sym e) tt)

  -- by so many entries of a stretch
  module _ {S : Type 0} (s : Shows S) (origin : List Stated) (r : Run) (qs : List (PlainSlot Bay Job)) (b : Between m s (first_run deck.variables origin files) fresh_slots (stated deck.statements) r qs)
      (start : r.stage ≡ Start) (low : left_from deck place ≤ length r.rest) where
    before_at : (n : ℕ) → Follows m s is_looking (first_run deck.variables origin files) fresh_slots (stated deck.statements) r qs n
        → let k = before_ask (over_bays m) (stretch_conduct is_looking s) n r qs in IsAt k.0 k.1
    before_at n f =
        let k = before_ask (over_bays m) (stretch_conduct is_looking s) n r qs in
        comes_at m s deck.variables (stated deck.statements) files so some f.entries f.count k.0 k.1 f.has_asked f.passed f.slots

    -- one more ask
    more_shows : (n : ℕ) → (let x = stretch m s is_looking n r qs in Shown x.hand x.script) → (stretch m s is_looking n r qs).hand ≢ Finished
        → (let a' = asked_until is_looking (before_ask (over_bays m) (stretch_conduct is_looking s) (suc n) r qs).0 in Shown a'.ask a'.run)
    more_shows n (inl look) going = absurd (going look.0)
    more_shows n (inr (asking, less)) going =
        let x = stretch m s is_looking n r qs in
        let k = before_ask (over_bays m) (stretch_conduct is_looking s) (suc n) r qs in
        let f = asks_follow m s is_looking (first_run deck.variables origin files) fresh_slots (stated deck.statements) r qs b (suc n) going in
        let lower : left_from deck place < length k.0.rest = subst (λ l. left_from deck place < length l) (sym (served_goes m s x.hand x).1) less in
        asked_shows k.0 k.1 (before_at (suc n) f) (omega (arith, lower)) (λ begun. lower)

    pub stretch_shows : (n : ℕ) → let x = stretch m s is_looking n r qs in Shown x.hand x.script
    stretch_shows zero =
        asked_shows r qs (between_at m s deck.variables (stated deck.statements) files so some origin r qs b) low (λ begun. absurd (subst HasBegun start begun))
    stretch_shows (suc n) =
        let x = stretch m s is_looking n r qs in
        subst (λ (y : Plain Bay (stretch_conduct is_looking s)). Shown y.hand y.script) (sym (after_next (over_bays m) (stretch_conduct is_looking s) n (asked_next (over_bays m) (stretch_conduct is_looking s) r qs)))
        (by (stretch_shows n) (served_goes m s x.hand x).0)
      where
        by : (let x = stretch m s is_looking n r qs in Shown x.hand x.script)
            → (let x = stretch m s is_looking n r qs in let b = answered (over_bays m) (stretch_conduct is_looking s) x.hand x in
            (served (over_bays m) (stretch_conduct is_looking s) x.hand x ≡ x) ⊎ (served (over_bays m) (stretch_conduct is_looking s) x.hand x ≡ asked_next (over_bays m) (stretch_conduct is_looking s) b.0 b.1))
            → (let y = next (over_bays m) (stretch_conduct is_looking s) (stretch m s is_looking n r qs) in Shown y.hand y.script)
        by h (inl still) = subst (λ (y : Plain Bay (stretch_conduct is_looking s)). Shown y.hand y.script) (sym still) h
        by (inl look) (inr is) =
            let x = stretch m s is_looking n r qs in
            subst (λ (y : Plain Bay (stretch_conduct is_looking s)). Shown y.hand y.script) (sym (ap (λ ask. served (over_bays m) (stretch_conduct is_looking s) ask x) look.0)) (inl look)
        by (inr asking) (inr is) =
            subst (λ (y : Plain Bay (stretch_conduct is_looking s)). Shown y.hand y.script) (sym is) (more_shows n (inr asking) (λ e. subst IsAsking e asking.0))

    -- before an ask, what that is
    pub before_shows : (n : ℕ) → HasAsked (over_bays m) (stretch_conduct is_looking s) n r qs
        → let a' = asked_until is_looking (before_ask (over_bays m) (stretch_conduct is_looking s) n r qs).0 in Shown a'.ask a'.run
    before_shows zero asked = stretch_shows zero
    before_shows (suc n) asked = more_shows n (stretch_shows n) asked
