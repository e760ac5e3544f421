-- Calls that give up, behind statements that are passed.
use Rattle.std.proofs.Common.{◌≡◌, ◌≢◌, ℕ, zero, suc, ◌+◌, ◌≤◌, Bool, true, false, List, ◌∷◌, ◌++◌, Option, Some, None, Result, Err, OnErr, IsSome, inl, inr, refl, sym, ap, ◌∙◌, subst, arith, append_assoc}
use Rattle.std.specs.Prelude.{◌⊎◌, if◌then◌else◌}
use Rattle.std.specs.Option.{option_and_then}
use Rattle.fj_outside.specs.Holdings.{Holdings}
use Rattle.fj_outside.specs.declared.outside.FileStore.{Ghosts}
use Rattle.fj_run_items.specs.Handing.{HandsOver, HandsFront, HandsPart, whole_records}
use Rattle.fj_run_items.specs.declared.lost.Lost.{Lost}
use Rattle.fj_run_items.specs.declared.lost.Lost.TheVariants.{Memory, Disk, Sink, Unfit}
use Rattle.fj_world.specs.Conduct.{IsSubmitting}
use Rattle.fj_meaning.specs.State.{Files, Output}
use Rattle.fj_meaning.specs.Statement.{Stated}
use Rattle.fj_meaning_jobs.specs.Doing.{Doing}
use Rattle.fj_meaning_turns.specs.Run.{Run}
use Rattle.fj_meaning_turns.specs.Turns.{hand_at, turn, turn_on}
use Rattle.fj_meaning_turns.specs.Passing.{passed_by, passed_on, passes, output_of, output_due, turn_output, knows_on, told_on, known_due, tells_due}
use Rattle.fj_meaning_cut.specs.Turning.{doing_on, doing_due, turn_doing, IsUnbegun}
use Rattle.fj_run_units.specs.Files.{files_of}
use Rattle.fj_run_units.specs.Returning.{IsAsDue}
use Rattle.fj_run_pending.specs.Plain.{tells_of}
use Rattle.fj_run_statements.specs.Failing.{StandsWhere}
use Rattle.fj_run_statements.specs.State.{core_at}
use Rattle.fj_run_statements.specs.declared.state.Core.{Core}
use Rattle.fj_run_script.specs.Failing.{IsLoss, FailsStage, StandsAt, StandsDoing, StandsStill, CallsDisk, FailsCall, OfOutside, IsGivenUp, FailsAsking}
use Rattle.fj_run_script.specs.Leaving.{Rests}
use Rattle.fj_run_script.specs.Machine.{rest_of, run_at, run_of, stage_at}
use Rattle.fj_run_script.specs.Tallying.{due_of, first_lost}
use Rattle.fj_run_script.specs.declared.hand.Hand.TheVariants.{Idle}
use Rattle.fj_run_script.specs.declared.machine.Machine.{Machine}
use Rattle.fj_run_script.proofs.AtHand.{calls_hand, comes_on, doing_with, knows_with, rest_same, told_with}
use Rattle.fj_run_script.proofs.NextAsks.{run_known, some_same}
use Rattle.fj_run_script.proofs.Runs.{hands_none}
use Rattle.fj_run_script.proofs.Stepping.{hands_both, rose_before}
use Rattle.fj_run_script.proofs.Tallies.{not_both}

-- ---- statements that are passed

passes_on : (n k : ℕ) (half run : Run) → ((x : Run) → passes n x ≡ Some half → passes (n + k) x ≡ Some run) → (o : Option Run) → option_and_then (passes n) o ≡ Some half → option_and_then (passes (n + k)) o ≡ Some run
passes_on n k half run go None q = cc
passes_on n k half run go (Some x) q = go x q

pub passes_both : (n k : ℕ) (r half run : Run) → passes n r ≡ Some half → passes k half ≡ Some run → passes (n + k) r ≡ Some run
passes_both zero k r half run a b =
    let e : zero + k ≡ k = omega arith in
    ap (λ i. passes i r) e ∙ ap (passes k) (some_same r half a) ∙ b
passes_both (suc n) k r half run a b =
    let e : suc n + k ≡ suc (n + k) = omega arith in
    ap (λ i. passes i r) e ∙ passes_on n k half run (λ x q. passes_both n k x half run q b) (passed_on r.rest r) a

pub passes_one : (r run : Run) → passed_on r.rest r ≡ Some run → passes 1 r ≡ Some run
passes_one r run e = ap (option_and_then (passes 0)) e

-- ---- what a sink took

hands_then : (a b c : List ℕ) (x y due : Output) → HandsOver a b x y → HandsFront b c y due → HandsFront a c x due
hands_then a b c x y due h k = (
  h.0 ++ k.0,
  k.1,
  k.2 ∙ ap (λ w. w ++ (k.0 ++ k.1)) h.1 ∙ append_assoc (whole_records x) h.0 (k.0 ++ k.1) ∙ ap (λ w. whole_records x ++ w) (sym (append_assoc h.0 k.0 k.1)),
  k.3 ∙ ap (λ w. w ++ k.0) h.2 ∙ append_assoc a h.0 k.0,
)

-- ---- what was done on the disk

due_before : (before mid now : ℕ) (found due : Option (List ℕ)) → before ≤ mid → IsAsDue mid now found due → IsAsDue before now found due
due_before before mid now found due h (inl same) = inl same
due_before before mid now found due h (inr (none, rose)) = inr (none, rose_before before mid now h rose)

-- the disk's own number having been less before
where_before : (due : Doing) (core : Core) (held : Holdings) (before mid now : ℕ) → before ≤ mid → StandsWhere due core held mid now → StandsWhere due core held before now
where_before due core held before mid now h f = record {
  units = f.units;
  files = λ name other. due_before before mid now (files_of held name) ((core_at due).files name) h (f.files name other);
}

doing_before : (due : Option Doing) (core : Core) (held : Holdings) (before mid now : ℕ) → before ≤ mid → StandsDoing due core held mid now → StandsDoing due core held before now
doing_before due core held before mid now h f = record { does = f.does; is = f.is; stands = where_before f.does core held before mid now h f.stands }

-- ---- calls

module _ {F : Type 0} {ghosts : Ghosts F} where
  -- behind statements that were passed
  pub fails_behind : (Of : Lost → Type 0) (TellsOut TellsMid : Type 0) (a b c : List ℕ) {held : Holdings} {before between now : ℕ} (n : ℕ) (r half : Run) (m mid m' : Machine F ghosts) → passes n r ≡ Some half → (TellsOut → TellsMid)
      → (TellsOut → HandsOver a b m.state.core.output mid.state.core.output) → before ≤ between → mid.tally.hand ≡ m.tally.hand → FailsCall Of TellsMid b c held between now half mid m' → FailsCall Of TellsOut a c held before now r m m'
  fails_behind Of TellsOut TellsMid a b c {held = held} {before = before} {between = between} {now = now} n r half m mid m' p tells h own hand f = record {
    count = n + f.count;
    run = f.run;
    passed = passes_both n f.count r half f.run p f.passed;
    rest = f.rest;
    front = λ t. by t (f.front (tells t));
    outside = λ o. by_then (f.outside o);
    fits = λ idle fits. elim (f.fits (hand ∙ idle) fits) [ inl s ↦ inl s | inr k ↦ inr (by_then k) ];
    disk = λ d. let k = f.disk d in record {
      output = k.output;
      handed = λ t. hands_both a b c m.state.core.output mid.state.core.output f.run.core.output (h t) (k.handed (tells t));
      tells = k.tells;
      rose = rose_before before between now own k.rose;
      called = k.called;
    };
    sink = λ s t. let k = f.sink s (tells t) in (k.0, hands_both a b k.0 m.state.core.output mid.state.core.output f.run.core.output (h t) k.1, k.2);
  }
    where
      by_then : StandsAt held between now f.run m' → StandsAt held before now f.run m'
      by_then k = record { known = k.known; does = doing_before (turn_doing f.run) m'.state.core held before between now own k.does }

      by : TellsOut → HandsFront b c mid.state.core.output (turn_output f.run) ⊎ HandsOver b c mid.state.core.output f.run.core.output
          → HandsFront a c m.state.core.output (turn_output f.run) ⊎ HandsOver a c m.state.core.output f.run.core.output
      by t (inl k) = inl (hands_then a b c m.state.core.output mid.state.core.output (turn_output f.run) (h t) k)
      by t (inr k) = inr (hands_both a b c m.state.core.output mid.state.core.output f.run.core.output (h t) k)

  -- from another machine with the same output
  pub fails_like : (Of : Lost → Type 0) (TellsOut : Type 0) (a b : List ℕ) {held : Holdings} {before now : ℕ} (r : Run) (m mid m' : Machine F ghosts) → mid.state.core.output ≡ m.state.core.output → mid.tally.hand ≡ m.tally.hand
      → FailsCall Of TellsOut a b held before now r mid m' → FailsCall Of TellsOut a b held before now r m m'
  fails_like Of TellsOut a b r m mid m' e hand f =
      fails_behind Of TellsOut TellsOut a a b 0 r r m mid m' refl (λ t. t) (λ t. hands_none a a m.state.core.output mid.state.core.output refl e) (omega arith) hand f

  -- to another machine with the same state
  pub fails_to : (Of : Lost → Type 0) (TellsOut : Type 0) (a b : List ℕ) {held : Holdings} {before now : ℕ} (r : Run) (m m' m'' : Machine F ghosts) → rest_of m'' ≡ rest_of m' → m''.state.core ≡ m'.state.core
      → FailsCall Of TellsOut a b held before now r m m' → FailsCall Of TellsOut a b held before now r m m''
  fails_to Of TellsOut a b {held = held} {before = before} {now = now} r m m' m'' rest core f = record {
    count = f.count;
    run = f.run;
    passed = f.passed;
    rest = rest ∙ f.rest;
    front = f.front;
    outside = λ o. by (f.outside o);
    fits = λ idle fits. elim (f.fits idle fits) [ inl s ↦ inl (subst (λ (x : Core). StandsStill (IsUnbegun f.run.stage) f.run x held) (sym core) s) | inr k ↦ inr (by k) ];
    disk = λ d. let k = f.disk d in record {
      output = ap (λ (x : Core). x.output) core ∙ k.output;
      handed = k.handed;
      tells = ap (λ (x : Core). tells_of x.tells) core ∙ k.tells;
      rose = k.rose;
      called = k.called;
    };
    sink = f.sink;
  }
    where
      by : StandsAt held before now f.run m' → StandsAt held before now f.run m''
      by k = record { known = k.known; does = subst (λ (x : Core). StandsDoing (turn_doing f.run) x held before now) (sym core) k.does }

  -- by another word for the run
  pub fails_run : (Of : Lost → Type 0) (TellsOut : Type 0) (a b : List ℕ) {held : Holdings} {before now : ℕ} (r r' : Run) (m m' : Machine F ghosts) → r ≡ r' → FailsCall Of TellsOut a b held before now r m m' → FailsCall Of TellsOut a b held before now r' m m'
  fails_run Of TellsOut a b {held = held} {before = before} {now = now} r r' m m' e f = subst (λ x. FailsCall Of TellsOut a b held before now x m m') e f

  -- by another word for what it is for
  pub fails_for : (Of Of' : Lost → Type 0) (TellsOut : Type 0) (a b : List ℕ) {held : Holdings} {before now : ℕ} (r : Run) (m m' : Machine F ghosts) → ((lost : Lost) → Of' lost → Of lost) → (Of Unfit → Of' Unfit) → FailsCall Of TellsOut a b held before now r m m'
      → FailsCall Of' TellsOut a b held before now r m m'
  fails_for Of Of' TellsOut a b r m m' go back f = record {
    count = f.count;
    run = f.run;
    passed = f.passed;
    rest = f.rest;
    front = f.front;
    outside = λ o. f.outside (elim o [ inl d ↦ inl (go Disk d) | inr s ↦ inr (go Sink s) ]);
    fits = λ idle fits. f.fits idle (λ u. fits (back u));
    disk = λ d. f.disk (go Disk d);
    sink = λ s. f.sink (go Sink s);
  }

  -- in the turn of the statement at hand
  pub fails_turn : {W X : Type 0} (tells_out : W → Type 0) (taken : W → List ℕ) (out out' : W) {held : Holdings} {before now : ℕ} (m m' : Machine F ghosts) (x : Result X Lost) (lost : Lost) (first hand : Stated) (more : List Stated) (r : Run) → x ≡ Err lost
      → r.rest ≡ first ∷ more → hand_at first r.stage r ≡ hand → r.core.output ≡ m.state.core.output → rest_of m' ≡ r.rest
      → (tells_out out → x ≡ Err Disk → HandsOver (taken out) (taken out') m.state.core.output m'.state.core.output)
      → FailsStage tells_out taken out m.state.core x out' m'.state.core held before now hand r.stage (record r { rest = hand ∷ more }) → FailsCall (λ lost. x ≡ Err lost) (tells_out out) (taken out) (taken out') held before now r m m'
  fails_turn {X = X} tells_out taken out out' {held = held} {before = before} {now = now} m m' x lost first hand more r is h e o rest still f = record {
    count = 0;
    run = r;
    passed = refl;
    rest = rest;
    front = λ t. by (subst (λ (y : Result X Lost). OnErr y (HandsFront (taken out) (taken out') m.state.core.output (output_of (turn_on hand r.stage rr)) ⊎ (taken out' ≡ taken out))) is (f.front t));
    outside = λ o. there (f.known o) (f.stands o);
    fits = λ idle fits. elim (subst (λ (y : Result X Lost). OnErr y (StandsStill (IsUnbegun r.stage) rr m'.state.core held ⊎ (knows_on hand r.stage rr × StandsDoing (doing_on hand r.stage rr) m'.state.core held before now))) is (f.fits fits)) [
      | inl s ↦ inl (record { may = s.may; units = s.units; files = s.files })
      | inr k ↦ inr (there k.0 k.1)
    ];
    disk = λ d. record {
      output = f.output d ∙ sym o;
      handed = λ t. subst (λ y. HandsOver (taken out) (taken out') m.state.core.output y) (f.output d ∙ sym o) (still t d);
      tells = f.tells d ∙ told_with hand r.stage r (hand ∷ more) ∙ ap (λ y. told_on y r.stage r) (sym e) ∙ ap (λ rest. tells_due rest r) (sym h);
      rose = f.rose d;
      called = subst CallsDisk (sym h) (sym (calls_hand first hand r.stage r e) ∙ f.called d);
    };
    sink = λ s t. (
      taken out,
      hands_none (taken out) (taken out) m.state.core.output r.core.output refl o,
      subst (λ y. HandsPart (taken out) (taken out') y (turn_output r)) (sym o) (subst (λ y. HandsPart (taken out) (taken out') m.state.core.output y) due (f.begun t s)),
    );
  }
    where
      rr : Run
      rr = record r { rest = hand ∷ more }

      there : knows_on hand r.stage rr → StandsDoing (doing_on hand r.stage rr) m'.state.core held before now → StandsAt held before now r m'
      there known stands = record {
        known = subst (λ rest. known_due rest r) (sym h) (subst (λ y. knows_on y r.stage r) (sym e) (knows_with hand r.stage r (hand ∷ more) known));
        does = subst (λ rest. StandsDoing (doing_due rest r) m'.state.core held before now) (sym h)
            (subst (λ d. StandsDoing d m'.state.core held before now) (doing_with hand r.stage r (hand ∷ more) ∙ ap (λ y. doing_on y r.stage r) (sym e)) stands);
      }

      due : output_of (turn_on hand r.stage rr) ≡ turn_output r
      due = ap output_of (sym (comes_on first hand more r.stage r h e)) ∙ ap (λ rest. output_due rest r) (sym h)

      by : HandsFront (taken out) (taken out') m.state.core.output (output_of (turn_on hand r.stage rr)) ⊎ (taken out' ≡ taken out)
          → HandsFront (taken out) (taken out') m.state.core.output (turn_output r) ⊎ HandsOver (taken out) (taken out') m.state.core.output r.core.output
      by (inl k) = inl (subst (λ y. HandsFront (taken out) (taken out') m.state.core.output y) due k)
      by (inr k) = inr (hands_none (taken out) (taken out') m.state.core.output r.core.output k o)

  -- nothing was done
  pub fails_none : (Of : Lost → Type 0) (TellsOut : Type 0) (a : List ℕ) {held : Holdings} {before now : ℕ} (r : Run) (m m' : Machine F ghosts) → rest_of m' ≡ r.rest → r.core.output ≡ m.state.core.output → (OfOutside Of → ⊥) → m.tally.hand ≢ Idle → FailsCall Of TellsOut a a held before now r m m'
  fails_none Of TellsOut a r m m' rest o n asks = record {
    count = 0;
    run = r;
    passed = refl;
    rest = rest;
    front = λ t. inr (hands_none a a m.state.core.output r.core.output refl o);
    outside = λ o. absurd (n o);
    fits = λ idle fits. absurd (asks idle);
    disk = λ d. absurd (n (inl d));
    sink = λ s. absurd (n (inr s));
  }

-- ---- a turn that pauses, whose ask is refused

-- ---- what was lost

pub first_some : {X : Type 0} → (o : Option X) (b : Bool) → (IsSome o → b ≡ true) → b ≡ false → o ≡ None
first_some None b h f = refl
first_some (Some x) b h f = absurd (not_both b (h refl) f)

pub lost_is : {X : Type 0} → {lost other : Lost} → (let r : Result X Lost = Err lost in r) ≡ Err other → lost ≡ other
lost_is e = cc

-- while it is not over nothing is lost
pub only_first : (o : Option Lost) (b : Bool) (lost first : Lost) → (IsSome o → b ≡ true) → b ≡ false → first_lost o lost ≡ Some first → lost ≡ first
only_first o b lost first h f e = let n = first_some o b h f in some_same lost first (sym (ap (λ k. first_lost k lost) n) ∙ e)

loss_of : (lost : Lost) → lost ≢ Unfit → IsLoss (Some lost)
loss_of (Memory error) fits = tt
loss_of Disk fits = tt
loss_of Sink fits = tt
loss_of Unfit fits = absurd (fits refl)

-- what was lost first, if that fits
pub first_loss : (o : Option Lost) (b : Bool) (lost : Lost) → (IsSome o → b ≡ true) → b ≡ false → lost ≢ Unfit → IsLoss (first_lost o lost)
first_loss o b lost h going fits = subst (λ k. IsLoss (first_lost k lost)) (sym (first_some o b h going)) (loss_of lost fits)

-- it gives up at a stop alone
pub only_stop : (done over over' stopped : Bool) → (done ≡ true → over' ≡ over) → (done ≡ false → (over' ≡ true) × (stopped ≡ true)) → over ≡ false → over' ≡ true → stopped ≡ false → ⊥
only_stop true over over' stopped goes halts going up none = not_both over' up (goes refl ∙ going)
only_stop false over over' stopped goes halts going up none = not_both stopped (halts refl).1 none

none_outside : (o : Option Lost) → o ≡ None → OfOutside (λ lost. o ≡ Some lost) → ⊥
none_outside o n (inl d) = let no : None ≡ Some Disk = sym n ∙ d in cc
none_outside o n (inr s) = let no : None ≡ Some Sink = sym n ∙ s in cc

module _ {F : Type 0} {ghosts : Ghosts F} where
  -- a call that touches neither disk nor sink loses nothing of them
  none_rests : (m m' : Machine F ghosts) → Rests m m' → m.tally.over ≡ false → OfOutside (λ lost. m'.tally.lost ≡ Some lost) → ⊥
  none_rests m m' s going o =
      none_outside m.tally.lost (first_some m.tally.lost m.tally.over m.tally.lost_over going) (elim o [ inl d ↦ inl (s.of_disk d) | inr k ↦ inr (s.of_sink k) ])

  pub rests_give_up : (told : F → Bool) (bytes : F → List ℕ) (TellsOut : Type 0) (a : List ℕ) {held : Holdings} {before now : ℕ} (files : Files) (m m' : Machine F ghosts) → m.tally.hand ≢ Idle → Rests m m' → IsGivenUp TellsOut a a held before now (run_of told bytes files m) m m'
  rests_give_up told bytes TellsOut a files m m' asks s r e going over stopped =
      let k = run_known (run_at files m) (stage_at told bytes files m) r e in
      let rest = rest_same m m' s.deck s.at in
      fails_none (λ lost. m'.tally.lost ≡ Some lost) TellsOut a r m m' (rest ∙ ap (λ (x : Run). x.rest) k.2) (sym (ap (λ (x : Run). x.core.output) k.2)) (none_rests m m' s going) asks

  pub rests_ask : {D : Type 0} (disk : D) (m m' : Machine F ghosts) → Rests m m'
      → (m.tally.over ≡ false → m'.tally.over ≡ true → m'.tally.stopped ≡ false → IsSubmitting (due_of m.tally.hand)) → FailsAsking disk disk m m'
  rests_ask disk m m' s submits = record {
    outside = λ going o. absurd (none_rests m m' s going o);
    same_disk = λ asks. refl;
    units = λ asks. s.units;
    at = λ asks. s.at;
    submits = λ asks. submits;
  }

  -- where the disk tells
  pub given_up_told : (TellsOut : Type 0) (a b : List ℕ) {held : Holdings} {before now : ℕ} (decided : Bool) (o : Option Run) (m m' : Machine F ghosts) → (decided ≡ true → IsGivenUp TellsOut a b held before now o m m')
      → IsGivenUp TellsOut a b held before now (if decided then o else None) m m'
  given_up_told TellsOut a b true o m m' go = go refl
  given_up_told TellsOut a b false o m m' go = λ r e going over stopped. cc

-- ---- the statement at hand

pub passed_at : (st : Stated) (more : List Stated) (r : Run) → r.rest ≡ st ∷ more → passed_on r.rest r ≡ passed_by more (turn st r.stage r)
passed_at st more r h = ap (λ rest. passed_on rest r) h
