-- A run with looks between two stretches, and how it goes on.
use Rattle.std.proofs.Common.{◌≡◌, ◌⊎◌, ℕ, zero, suc, ◌+◌, ◌<◌, ◌≤◌, ◌^◌, Bool, true, false, cond, List, [], ◌∷◌, ◌++◌, length, drop, Option, Some, None, is_some, slice_get, refl, sym, ap, ◌∙◌, subst, inl, inr, arith, append_assoc, length-append, length-drop}
use Rattle.std.proofs.lemmas.Bool.{cases_lt}
use Rattle.std.proofs.lemmas.List.Sums.{sum_by-cons}
use Rattle.std.proofs.lemmas.Option.{slice_get_within}
use Rattle.std.specs.Option.{option_map}
use Rattle.std.specs.Prelude.{slice_set}
use Rattle.std.specs.declared.alloc.Global.{Global}
use Rattle.std.specs.declared.vec.Vec.{Vec}
use Rattle.fj_outside.specs.Holdings.{Holdings}
use Rattle.fj_outside.specs.declared.outside.FileStore.{Ghosts}
use Rattle.fj_statement.specs.Sound.{IsSound}
use Rattle.fj_statement.specs.declared.deck.Lined.{Lined}
use Rattle.fj_statement.specs.declared.deck.Deck.{Deck}
use Rattle.fj_slot.specs.Ledger.{Ledger}
use Rattle.fj_slot.specs.Serving.{Meaning}
use Rattle.fj_world.specs.Fits.{SlotsFit}
use Rattle.fj_world.specs.Rack.{Rack}
use Rattle.fj_bay.specs.Bay.{Bay}
use Rattle.fj_bay.specs.Jobs.{Job, Answer}
use Rattle.fj_meaning.specs.State.{Files, Output}
use Rattle.fj_meaning.specs.Statement.{Stated, stated, control_by, begins}
use Rattle.fj_meaning_turns.specs.Run.{Run, Stage, Start}
use Rattle.fj_meaning_turns.specs.Serving.{over_bays, first_run, fresh_slots}
use Rattle.fj_meaning_turns.proofs.Slots.{length_mapped}
use Rattle.fj_meaning_looks.specs.Inquiring.{Question, asks_whether, looks_for, is_looking, question_at}
use Rattle.fj_meaning_looks.specs.Stretches.{with_rest, IsOver, StandsAtLook, Between}
use Rattle.fj_meaning_looks.proofs.Putting.{stretches_begin}
use Rattle.fj_meaning_looks.proofs.Rests.{HasBegun}
use Rattle.fj_run_items.specs.Handing.{HandsOver}
use Rattle.fj_run_items.specs.declared.lost.Lost.{Lost}
use Rattle.fj_run_items.specs.declared.lost.Lost.TheVariants.{Disk}
use Rattle.fj_run_units.specs.Files.{files_of}
use Rattle.fj_run_script.specs.Leaving.{Leaves}
use Rattle.fj_run_script.specs.Looking.{are_done, known_at, look_at, question_in, HasLooked}
use Rattle.fj_run_script.specs.Machine.{ending_of, rest_of, run_at, run_of, stage_at, numbered}
use Rattle.fj_run_script.specs.Room.{looks_left}
use Rattle.fj_run_script.specs.Tallying.{due_of, owed_at}
use Rattle.fj_run_script.specs.declared.ending.Ending.{Ending as Code}
use Rattle.fj_run_script.specs.declared.looking.Look.{Look}
use Rattle.fj_run_script.specs.declared.machine.AtHand.{AtHand}
use Rattle.fj_run_script.specs.declared.machine.Machine.{Machine}
use Rattle.fj_run_script.specs.declared.stage.Stage.{Stage as CodeStage}
use Rattle.fj_run_script.specs.declared.state.State.{State}
use Rattle.fj_run_script.specs.declared.tally.Tally.{Tally}
use Rattle.fj_run_script.specs.declared.stage.Stage.TheVariants as stage
use Rattle.fj_run_script.proofs.Known.{none_ended, none_over, question_inside, question_is, sound_known}
use Rattle.fj_run_script.proofs.Looks.{asks_looked, question_some, some_mapped}
use Rattle.fj_run_script.proofs.NextAsks.{at_hand_is, at_start, begun_stage, some_same}
use Rattle.fj_job.specs.Carrying.{AreFresh, HasNotBegun, HasRun, LeavesButDeck}
use Rattle.fj_job.specs.Cutting.{IsCut, EndsHere}
use Rattle.fj_job.proofs.Executed.{rest_is}
use Rattle.fj_job.proofs.Fresh.{few, owed, fresh_at}
use Rattle.fj_job.proofs.Leading.{leaves_same, but_deck, but_on}
use Rattle.fj_job.proofs.Passes.{ends_so, some_statement}
use Rattle.fj_poll.specs.Looks.{Asks, IsPut, NoneLooks, NoneLooksBefore}
use Rattle.fj_poll.specs.Stretches.{bare, CanBeServed, IsBetween, CameToLook, CameToEnd, HasCome, left_from}
use Rattle.fj_poll.proofs.Looked.{IsPutTo, is_put, item_is, put_on, none_looks, is_look}
use Rattle.fj_poll.proofs.Putting.{LooksTo, drop_front, stated_set, with_at}
use Rattle.fj_poll.proofs.Standing.{between_at}

-- Where the disk tells: what is left of the deck is what stands there from the statement at hand on, and the looks so far are put.
pub record IsOnWay {W D F E J A : Type 0} {ghosts : Ghosts F} (tells_out : W → Type 0) (taken : W → List ℕ) (count_out : W → ℕ) (tells : D → Type 0) (held : D → Holdings) (count refusals : D → ℕ)
    (told : F → Bool) (bytes : F → List ℕ) (meaning : Meaning E J A Bay Job Answer) (out0 : W) (disk0 : D) (m0 : Machine F ghosts) (out : W) (disk : D) (m : Machine F ghosts) (rack : Rack E J A) : Type 0 where
  pub here : IsBetween tells_out taken count_out tells held count refusals told bytes meaning (stated m0.deck.statements) out0 disk0 m0 out disk m rack
  pub rest : here.run.rest ≡ drop m.at.place (stated m.deck.statements)
  pub put : IsPutTo m0.deck m.deck (files_of (held disk0)) m.at.place m.looks.items

-- and where it does not
pub record IsUnderWay {W D F E J A : Type 0} {ghosts : Ghosts F} (tells_out : W → Type 0) (taken : W → List ℕ) (count_out : W → ℕ) (tells : D → Type 0) (held : D → Holdings) (count refusals : D → ℕ)
    (told : F → Bool) (bytes : F → List ℕ) (meaning : Meaning E J A Bay Job Answer) (out0 : W) (disk0 : D) (m0 : Machine F ghosts) (out : W) (disk : D) (m : Machine F ghosts) (rack : Rack E J A) : Type 0 where
  pub ready : CanBeServed meaning m rack
  pub going : m.tally.over ≡ false
  pub leaves : LeavesButDeck tells_out taken count_out tells count refusals out0 disk0 m0 out disk m
  pub sound : IsSound m.deck
  pub way : tells disk0 → IsOnWay tells_out taken count_out tells held count refusals told bytes meaning out0 disk0 m0 out disk m rack

-- ---- at first

-- all are left at the first place alone
first_place : (sts : List Stated) (place : ℕ) → (sts ≡ [] → ⊥) → length (drop place sts) ≡ length sts → place ≡ 0
first_place [] place some e = absurd (some refl)
first_place (x ∷ sts) place some e = let long = length-drop place (x ∷ sts) in omega (arith, long, e)

numbered_long : (o : Option ℕ) (sts : List Stated) → length (numbered o sts) ≡ length sts
numbered_long None sts = refl
numbered_long (Some n) [] = refl
numbered_long (Some n) (st ∷ more) = refl

module _ {W D F E J A : Type 0} {ghosts : Ghosts F} (tells_out : W → Type 0) (taken : W → List ℕ) (count_out : W → ℕ) (tells : D → Type 0) (held : D → Holdings) (count refusals : D → ℕ)
    (told : F → Bool) (bytes : F → List ℕ) (meaning : Meaning E J A Bay Job Answer) where
  -- nothing of the deck was done
  pub first_way : (out : W) (disk : D) (m : Machine F ghosts) (rack : Rack E J A) → HasNotBegun told bytes m → m.looks.items ≡ [] → AreFresh meaning rack.slots → SlotsFit (over_bays meaning) fresh_slots rack
      → IsUnderWay tells_out taken count_out tells held count refusals told bytes meaning out disk m out disk m rack
  first_way out disk m rack begun none fresh fits =
      let leaves = but_deck tells_out taken count_out tells count refusals out out disk disk m m (leaves_same tells_out taken count_out tells count refusals out disk m) in
      record {
        ready = record {
          idle = ap due_of begun.idle;
          sixteen = fresh.sixteen;
          few = few meaning rack fresh m.tally.left begun.few;
          owed = λ at l low e. owed meaning rack fresh m.tally.owed.items begun.owed at l e;
          home = λ at l e. (fresh_at meaning rack fresh at l e).home;
          counted = λ at l e. (fresh_at meaning rack fresh at l e).sound.counted;
        };
        going = begun.going;
        leaves = leaves;
        sound = begun.on.sound;
        way = λ t.
            let r : Run = first_run m.deck.variables (stated m.deck.statements) (files_of (held disk)) in
            let rest : stated m.deck.statements ≡ rest_of m = rest_is told bytes (files_of (held disk)) m r (begun.run (files_of (held disk))) in
            let long : length (drop m.at.place (stated m.deck.statements)) ≡ length (stated m.deck.statements) = sym (ap length rest ∙ numbered_long m.at.number (drop m.at.place (stated m.deck.statements))) in
            let first : m.at.place ≡ 0 = first_place (stated m.deck.statements) m.at.place (some_statement m.deck begun.on.sound) long in
            record {
              here = record {
                on = t;
                begun = begun;
                leaves = leaves;
                sound = begun.on.sound;
                going = begun.going;
                run = r;
                is = begun.run (files_of (held disk));
                start = refl;
                slots = fresh_slots;
                fit = fits;
                between = stretches_begin meaning bare r fresh_slots;
              };
              rest = ap (λ n. drop n (stated m.deck.statements)) (sym first);
              put = record {
                variables = refl;
                groups = refl;
                long = refl;
                bound = 0;
                low = omega arith;
                knows = λ low l e. absurd (omega (arith, low));
                looks_are = subst (λ ls. LooksTo m.deck m.deck (files_of (held disk)) 0 0 ls) (sym none) (omega arith, λ index a b. refl);
                none = λ index l low e a. absurd (omega (arith, low, first));
              };
            };
      }

-- ---- the statement at hand

start_or : {F : Type 0} (s : CodeStage F) → (s ≡ stage.Start) ⊎ (s ≡ stage.Start → ⊥)
start_or stage.Start = inl refl
start_or (stage.Waiting whose from) = inr (λ e. cc)
start_or (stage.Resuming slots next condition) = inr (λ e. cc)
start_or (stage.Going next number) = inr (λ e. cc)
start_or (stage.Awaiting slot number next) = inr (λ e. cc)
start_or (stage.Answered next job answer) = inr (λ e. cc)

-- these are the last ones of a deck, as many as are left from that place on
suffix : (sts front rest : List Stated) (st : Stated) (more : List Stated) (place : ℕ) → sts ≡ front ++ rest → rest ≡ st ∷ more → length (drop place sts) ≡ length rest → drop place sts ≡ rest
suffix sts front rest st more place whole is long =
    let all : length sts ≡ length front + length rest = ap length whole ∙ length-append front rest in
    let left = length-drop place sts in
    let some : length rest ≡ length (st ∷ more) = ap length is in
    let here : place ≡ length front = omega (arith, all, left, some, long) in
    ap (drop place) whole ∙ ap (λ k. drop k (front ++ rest)) here ∙ drop_front front rest

module _ {F : Type 0} {ghosts : Ghosts F} (told : F → Bool) (bytes : F → List ℕ) (files : Files) (m : Machine F ghosts) (r : Run) (is : run_of told bytes files m ≡ Some r) where
  stage_by : (o : Option Stage) → option_map (run_at files m) o ≡ Some r → o ≡ Some r.stage
  stage_by None e = cc
  stage_by (Some x) e = ap (λ (y : Run). Some y.stage) (some_same (run_at files m x) r e)

  has_started : r.stage ≡ Start → m.state.stage ≡ stage.Start
  has_started start = elim (start_or m.state.stage) [
    | inl e ↦ e
    | inr n ↦ absurd (subst HasBegun start (begun_stage told bytes m.deck.variables (rest_of m) _ m.state.stage r.stage (stage_by (stage_at told bytes files m) is) n))
  ]

  run_started : m.state.stage ≡ stage.Start → run_at files m Start ≡ r
  run_started e = some_same (run_at files m Start) r (sym (at_start told bytes files m e) ∙ is)

  -- what it looks for there
  pub asked_here : (q : Question) → question_in files m ≡ Some q → question_at r.rest r ≡ Some q
  asked_here q e =
      let inside = question_inside files m q e in
      ap (λ (y : Run). question_at y.rest y) (sym (run_started inside.0)) ∙ inside.1

  -- where it stands at a look it looks for something
  pub look_asks : m.tally.over ≡ false → StandsAtLook is_looking r → question_in files m ≡ None → ⊥
  look_asks going x none =
      let started = has_started x.stage in
      let same = run_started started in
      let ending : is_some (run_at files m Start).ending ≡ false = ap (λ (y : Run). is_some y.ending) same ∙ ap is_some x.ending in
      let at : question_at r.rest r ≡ None = ap (λ (y : Run). question_at y.rest y) (sym same) ∙ sym (question_is files m going ending started) ∙ none in
      let z : true ≡ false = sym x.looks_there ∙ ap (λ l. is_some (question_at l r)) (sym x.rest) ∙ ap is_some at in cc

  -- and once it is over, for nothing
  pub over_asks : (q : Question) → question_in files m ≡ Some q → IsOver r → ⊥
  over_asks q e (inl over) =
      let inside = question_inside files m q e in
      let ended : is_some m.state.ending ≡ true = sym (some_mapped ending_of m.state.ending) ∙ ap (λ (y : Run). is_some y.ending) (run_started inside.0) ∙ over in
      let z : None ≡ Some q = sym (none_ended files m ended) ∙ e in cc
  over_asks q e (inr none) = let z : None ≡ Some q = sym (ap (λ l. question_at l r) none) ∙ asked_here q e in cc

-- what looks for something is not over
asks_going : {F : Type 0} {ghosts : Ghosts F} (files : Files) (m : Machine F ghosts) (q : Question) → question_in files m ≡ Some q → m.tally.over ≡ false
asks_going files m q e = by m.tally.over refl
  where
    by : (b : Bool) → m.tally.over ≡ b → b ≡ false
    by true over = let z : None ≡ Some q = sym (none_over files m over) ∙ e in cc
    by false over = refl

-- ---- behind a stretch

module _ {W D F E J A : Type 0} {ghosts : Ghosts F} (tells_out : W → Type 0) (taken : W → List ℕ) (count_out : W → ℕ) (tells : D → Type 0) (held : D → Holdings) (count refusals : D → ℕ)
    (told : F → Bool) (bytes : F → List ℕ) (meaning : Meaning E J A Bay Job Answer) (out0 : W) (disk0 : D) (m0 : Machine F ghosts) (out : W) (disk : D) (m : Machine F ghosts) (rack : Rack E J A)
    (u : IsUnderWay tells_out taken count_out tells held count refusals told bytes meaning out0 disk0 m0 out disk m rack) (out' : W) (disk' : D) (m1 : Machine F ghosts) (rack' : Rack E J A)
    (leaves : Leaves tells_out taken count_out tells count refusals out disk m out' disk' m1) where
  -- what it leaves since the run began
  pub far : LeavesButDeck tells_out taken count_out tells count refusals out0 disk0 m0 out' disk' m1
  far =
      but_on tells_out taken count_out tells count refusals out0 out out' disk0 disk disk' m0 m m1 u.leaves
      (but_deck tells_out taken count_out tells count refusals out out' disk disk' m m1 leaves)

  pub sound_still : IsSound m1.deck
  sound_still = subst IsSound (sym leaves.deck) u.sound

  -- the looks so far
  pub put_still : tells disk0 → IsPut m0.deck m1.deck (files_of (held disk0)) m1.looks.items
  put_still t =
      subst (λ (d : Deck). IsPut m0.deck d (files_of (held disk0)) m1.looks.items) (sym leaves.deck)
      (subst (λ ls. IsPut m0.deck m.deck (files_of (held disk0)) ls) (sym (ap (λ (v : Vec Look Global). v.items) leaves.looks)) (is_put m0.deck m.deck (files_of (held disk0)) m.at.place m.looks.items (u.way t).put))

  -- how many are left, by the place
  left_low : (t : tells disk0) (index : ℕ) → m.at.place ≤ index → left_from m.deck index ≤ length (u.way t).here.run.rest
  left_low t index low =
      let a = length-drop index (stated m.deck.statements) in
      let b = length-drop m.at.place (stated m.deck.statements) in
      let c : length (u.way t).here.run.rest ≡ length (drop m.at.place (stated m.deck.statements)) = ap length (u.way t).rest in
      omega (arith, a, b, c, low)

  -- at the end none looks any more
  pub none_still : (t : tells disk0) → CameToEnd told bytes meaning m.deck (files_of (held disk0)) (files_of (held disk')) (u.way t).here.run m1 rack' → NoneLooks m1.deck (files_of (held disk0))
  none_still t e =
      subst (λ (d : Deck). NoneLooks d (files_of (held disk0))) (sym leaves.deck)
      (none_looks m0.deck m.deck (files_of (held disk0)) m.at.place m.looks.items (u.way t).put (λ index l low item asks. e.none index l item asks (left_low t index low)))

  -- ---- at a look

  module _ (ready : CanBeServed meaning m1 rack') (m2 : Machine F ghosts) (done : ℕ) (h : HasLooked told bytes done m1 m2)
      (found : (l : Ledger E J A) → slice_get rack'.slots h.question.slot ≡ Some l → done ≡ l.done) (unfound : slice_get rack'.slots h.question.slot ≡ None → done ≡ 0) where
    going : m1.tally.over ≡ false
    going = let no_files : Files = λ name. None in asks_going no_files m1 h.question (h.is no_files)

    asks : asks_whether h.lined.what ≡ true
    asks =
        let no_files : Files = λ name. None in
        question_some m1 h.lined h.here no_files h.question (question_inside no_files m1 h.question (h.is no_files)).1

    item : slice_get m.deck.statements m1.at.place ≡ Some h.lined
    item = ap (λ (d : Deck). slice_get d.statements m1.at.place) (sym leaves.deck) ∙ h.here

    deck_is : m2.deck ≡ with_at m.deck m1.at.place (known_at h.question done h.lined)
    deck_is = h.deck ∙ ap (λ (d : Deck). with_at d m1.at.place (known_at h.question done h.lined)) leaves.deck

    sound_then : IsSound (with_at m.deck m1.at.place (known_at h.question done h.lined))
    sound_then = sound_known m.deck m1.at.place h.lined h.question.unit (are_done h.question done) item asks u.sound

    ready_then : CanBeServed meaning m2 rack'
    ready_then = record {
      idle = ap (λ (t : Tally). due_of t.hand) h.tally ∙ ready.idle;
      sixteen = ready.sixteen;
      few = λ at l e. subst (λ (t : Tally). length l.jobs + t.left < 2 ^ 62) (sym h.tally) (ready.few at l e);
      owed = λ at l low e. subst (λ (t : Tally). l.told + owed_at t.owed.items at ≡ length l.jobs) (sym h.tally) (ready.owed at l low e);
      home = ready.home;
      counted = ready.counted;
    }

    leaves_then : LeavesButDeck tells_out taken count_out tells count refusals out0 disk0 m0 out' disk' m2
    leaves_then =
        let same = leaves_same tells_out taken count_out tells count refusals out' disk' m1 in
        let lost : m2.tally.lost ≡ m1.tally.lost = ap (λ (t : Tally). t.lost) h.tally in
        but_on tells_out taken count_out tells count refusals out0 out' out' disk0 disk' disk' m0 m1 m2 far (record {
          telling = same.telling;
          later = same.later;
          own = same.own;
          telling_out = same.telling_out;
          later_out = same.later_out;
          output = λ t e. subst (λ (o : Output). HandsOver (taken out') (taken out') m1.state.core.output o) (ap (λ (k : State F ghosts). k.core.output) (sym h.state)) (same.output t (subst (λ (l : Option Lost). (l ≡ None) ⊎ (l ≡ Some Disk)) lost e));
          front = same.front;
          of_disk = λ e. same.of_disk (sym lost ∙ e);
          of_sink = λ e. same.of_sink (sym lost ∙ e);
          first = λ s. lost;
        })

    module _ (t : tells disk0) (c : CameToLook told bytes meaning (stated m0.deck.statements) m.deck (files_of (held disk0)) (files_of (held disk')) (u.way t).here.run m1 rack') where
      -- the run is what stands there from that place on
      there : drop m1.at.place (stated m.deck.statements) ≡ c.run.rest
      there =
          let b = (u.way t).here.between in
          let rest : c.run.rest ≡ rest_of m1 = rest_is told bytes (files_of (held disk')) m1 c.run c.is in
          let long : length (drop m1.at.place (stated m.deck.statements)) ≡ length c.run.rest =
          ap (λ (d : Deck). length (drop m1.at.place (stated d.statements))) (sym leaves.deck) ∙ sym (numbered_long m1.at.number (drop m1.at.place (stated m1.deck.statements))) ∙ sym (ap length rest) in
          suffix (stated m.deck.statements) (b.front ++ c.front) c.run.rest c.look.statement c.look.behind m1.at.place
          (b.whole ∙ ap (λ l. b.front ++ l) c.behind ∙ sym (append_assoc b.front c.front c.run.rest)) c.look.rest long

      hand : drop m1.at.place (stated m.deck.statements) ≡ (h.lined, control_by h.lined.what) ∷ drop (m1.at.place + 1) (stated m.deck.statements)
      hand = at_hand_is m.deck.statements m1.at.place h.lined item

      onward : m.at.place ≤ m1.at.place
      onward =
          let a = length-drop m.at.place (stated m.deck.statements) in
          let b = length-drop m1.at.place (stated m.deck.statements) in
          let low = slice_get_within m.deck.statements m1.at.place h.lined item in
          let all = length_mapped {Y = Stated} (λ (l : Lined). (l, control_by l.what)) m.deck.statements in
          let was : length (drop m.at.place (stated m.deck.statements)) ≡ length (c.front ++ c.run.rest) = ap length (sym (u.way t).rest ∙ c.behind) in
          let both = length-append c.front c.run.rest in
          let is : length (drop m1.at.place (stated m.deck.statements)) ≡ length c.run.rest = ap length there in
          omega (arith, a, b, low, all, was, both, is)

      none_between : (index : ℕ) (l : Lined) → m.at.place ≤ index → index < m1.at.place → slice_get m.deck.statements index ≡ Some l → Asks m.deck (files_of (held disk0)) index l → ⊥
      none_between index l low high e a =
          let more = c.none index l e a (left_low t index low) in
          let x = length-drop index (stated m.deck.statements) in
          let y = length-drop m1.at.place (stated m.deck.statements) in
          let inside = slice_get_within m.deck.statements m1.at.place h.lined item in
          let all = length_mapped {Y = Stated} (λ (l : Lined). (l, control_by l.what)) m.deck.statements in
          let is : length (drop m1.at.place (stated m.deck.statements)) ≡ length c.run.rest = ap length there in
          omega (arith, more, x, y, inside, all, is, high)

      -- the next stretch begins there
      between_then : let sts = stated (with_at m.deck m1.at.place (known_at h.question done h.lined)).statements in
          Between meaning bare (first_run m.deck.variables (stated m0.deck.statements) (files_of (held disk0))) fresh_slots sts (with_rest (drop m1.at.place sts) c.run) c.slots
      between_then =
          subst (λ sts. Between meaning bare (first_run m.deck.variables (stated m0.deck.statements) (files_of (held disk0))) fresh_slots sts (with_rest (drop m1.at.place sts) c.run) c.slots)
          (sym (stated_set m.deck.statements m1.at.place (known_at h.question done h.lined)))
          (c.next m1.at.place (h.lined, control_by h.lined.what) (drop (m1.at.place + 1) (stated m.deck.statements)) (known_at h.question done h.lined, control_by (known_at h.question done h.lined).what) (sym there ∙ hand) hand)

      put_then : IsPutTo m0.deck (with_at m.deck m1.at.place (known_at h.question done h.lined)) (files_of (held disk0)) m1.at.place (m.looks.items ++ look_at h.question done h.lined ∷ [])
      put_then =
          let files : Files = files_of (held disk0) in
          let sts : List Stated = stated (with_at m.deck m1.at.place (known_at h.question done h.lined)).statements in
          let r : Run = with_rest (drop m1.at.place (stated (with_at m.deck m1.at.place (known_at h.question done h.lined)).statements)) c.run in
          let at = between_at meaning bare m.deck.variables (stated (with_at m.deck m1.at.place (known_at h.question done h.lined)).statements) (files_of (held disk0))
          (ends_so (with_at m.deck m1.at.place (known_at h.question done h.lined)) sound_then) (some_statement (with_at m.deck m1.at.place (known_at h.question done h.lined)) sound_then) (stated m0.deck.statements)
          r c.slots between_then in
          let looks : looks_for c.run.variables (begins c.run.core.vars c.run.core.new_unit (h.lined, control_by h.lined.what)) c.run.core ≡ Some h.question =
          ap (λ l. question_at l c.run) (sym hand ∙ there) ∙ asked_here told bytes (files_of (held disk')) m1 c.run c.is h.question (h.is (files_of (held disk'))) in
          put_on m0.deck m.deck (files_of (held disk0)) m.at.place m1.at.place m.looks.items (u.way t).put onward h.lined item asks h.question done none_between
          (is_look meaning m0.deck m.deck (files_of (held disk0)) m1.at.place h.lined item (item_is m0.deck m.deck (files_of (held disk0)) m.at.place m1.at.place m.looks.items (u.way t).put onward h.lined item asks)
          h.question done r c.slots c.look.stage at refl looks rack' c.fit found unfound)

      way_then : IsOnWay tells_out taken count_out tells held count refusals told bytes meaning out0 disk0 m0 out' disk' m2 rack'
      way_then =
          let at_is : m2.at.place ≡ m1.at.place = ap (λ (a : AtHand). a.place) h.at in
          record {
            here = record {
              on = t;
              begun = (u.way t).here.begun;
              leaves = leaves_then;
              sound = subst IsSound (sym deck_is) sound_then;
              going = ap (λ (k : Tally). k.over) h.tally ∙ going;
              run = with_rest (drop m1.at.place (stated m2.deck.statements)) c.run;
              is = h.run (files_of (held disk')) c.run c.is;
              start = c.look.stage;
              slots = c.slots;
              fit = c.fit;
              between = subst (λ (d : Deck). Between meaning bare (first_run d.variables (stated m0.deck.statements) (files_of (held disk0))) fresh_slots (stated d.statements) (with_rest (drop m1.at.place (stated d.statements)) c.run) c.slots)
                  (sym deck_is) between_then;
            };
            rest = ap (λ n. drop n (stated m2.deck.statements)) (sym at_is);
            put = subst (λ (d : Deck). IsPutTo m0.deck d (files_of (held disk0)) m2.at.place m2.looks.items) (sym deck_is)
                (subst (λ n. IsPutTo m0.deck (with_at m.deck m1.at.place (known_at h.question done h.lined)) (files_of (held disk0)) n m2.looks.items) (sym at_is)
                (subst (λ ls. IsPutTo m0.deck (with_at m.deck m1.at.place (known_at h.question done h.lined)) (files_of (held disk0)) m1.at.place ls) (sym (h.looks ∙ ap (λ (v : Vec Look Global). v.items ++ look_at h.question done h.lined ∷ []) leaves.looks)) put_then));
          }

    pub looked_way : ((t : tells disk0) → HasCome tells_out taken held refusals told bytes meaning (stated m0.deck.statements) m.deck (u.way t).here.run out0 disk0 out' disk' m1 rack')
        → IsUnderWay tells_out taken count_out tells held count refusals told bytes meaning out0 disk0 m0 out' disk' m2 rack'
    looked_way come = record {
      ready = ready_then;
      going = ap (λ (k : Tally). k.over) h.tally ∙ going;
      leaves = leaves_then;
      sound = subst IsSound (sym deck_is) sound_then;
      way = λ t. elim ((come t).stands going) [
        | inl c ↦ way_then t c
        | inr e ↦ absurd (over_asks told bytes (files_of (held disk')) m1 e.run e.is h.question (h.is (files_of (held disk'))) e.over)
      ];
    }

  -- ---- at the end

  module _ (come : (t : tells disk0) → HasCome tells_out taken held refusals told bytes meaning (stated m0.deck.statements) m.deck (u.way t).here.run out0 disk0 out' disk' m1 rack')
      (none : question_in (files_of (held disk')) m1 ≡ None) where
    -- where it looks for nothing it is at the end
    ends : (t : tells disk0) → m1.tally.over ≡ false → CameToEnd told bytes meaning m.deck (files_of (held disk0)) (files_of (held disk')) (u.way t).here.run m1 rack'
    ends t going = elim ((come t).stands going) [
      | inl c ↦ absurd (look_asks told bytes (files_of (held disk')) m1 c.run c.is going c.look none)
      | inr e ↦ e
    ]

    pub none_then : tells disk0 → m1.tally.over ≡ false → NoneLooks m1.deck (files_of (held disk0))
    none_then t going = none_still t (ends t going)

    pub before_then : tells disk0 → NoneLooksBefore m1.deck (files_of (held disk0)) (m1.at.place + 1)
    before_then t = by m1.tally.over refl
      where
        by : (over : Bool) → m1.tally.over ≡ over → NoneLooksBefore m1.deck (files_of (held disk0)) (m1.at.place + 1)
        by false going = λ index l low item asks. none_then t going index l item asks
        by true over = subst (λ (d : Deck). NoneLooksBefore d (files_of (held disk0)) (m1.at.place + 1)) (sym leaves.deck) (λ index l low item asks. elim (cases_lt index m.at.place) [
          | inl earlier ↦ (u.way t).put.none index l earlier item asks
          | inr later ↦
              let less = (come t).none over index l item asks (left_low t index later) in
              let x = length-drop index (stated m.deck.statements) in
              let y = length-drop m1.at.place (stated m.deck.statements) in
              let rest : length (rest_of m1) ≡ length (drop m1.at.place (stated m.deck.statements)) =
              numbered_long m1.at.number (drop m1.at.place (stated m1.deck.statements)) ∙ ap (λ (d : Deck). length (drop m1.at.place (stated d.statements))) leaves.deck in
              omega (arith, less, x, y, rest, low)
        ])

    pub ran_then : tells disk0 → m1.tally.over ≡ false → HasRun meaning told bytes m1.deck (files_of (held disk0)) (files_of (held disk')) m1 rack'
    ran_then t going = subst (λ (d : Deck). HasRun meaning told bytes d (files_of (held disk0)) (files_of (held disk')) m1 rack') (sym leaves.deck) (ends t going).ran

    pub ended_then : tells disk0 → m1.tally.over ≡ false → (ending : Code) → m1.state.ending ≡ Some ending → EndsHere m1.deck (files_of (held disk0)) m1
    ended_then t going ending e = subst (λ (d : Deck). EndsHere d (files_of (held disk0)) m1) (sym leaves.deck) ((ends t going).ended ending e)

    pub cut_then : tells disk0 → m1.tally.over ≡ true
        → IsCut meaning rack' (held disk') (refusals disk0) (refusals disk') (tells_out out0) (taken out0) (taken out') m1.deck (files_of (held disk0)) m1
    cut_then t over =
        subst (λ (d : Deck). IsCut meaning rack' (held disk') (refusals disk0) (refusals disk') (tells_out out0) (taken out0) (taken out') d (files_of (held disk0)) m1) (sym leaves.deck) ((come t).cut over)

-- ---- fewer may look

counted : (l : Lined) (sts : List Lined) → looks_left (l ∷ sts) ≡ cond (asks_whether l.what) 1 0 + looks_left sts
counted l sts = sum_by-cons (λ (x : Lined). cond (asks_whether x.what) 1 0) l sts

fewer_by : (was is c n more : ℕ) → more ≡ was + c → n ≡ is + c → is < was → n < more
fewer_by was is c n more e f low = omega (arith, e, f, low)

fewer_behind : (a m n few many : ℕ) → many ≡ a + m → few ≡ a + n → n < m → few < many
fewer_behind a m n few many e f low = omega (arith, e, f, low)

one_for_none : (x l l' : Lined) → x ≡ l → asks_whether l.what ≡ true → asks_whether l'.what ≡ false → cond {A = ℕ} (asks_whether l'.what) 1 0 < cond {A = ℕ} (asks_whether x.what) 1 0
one_for_none x l l' e asked known =
    let was : ◌≡◌ {A = ℕ} (cond (asks_whether x.what) 1 0) 1 = ap (λ (y : Lined). cond (asks_whether y.what) 1 0) e ∙ ap (λ b. cond b 1 0) asked in
    let is : ◌≡◌ {A = ℕ} (cond (asks_whether l'.what) 1 0) 0 = ap (λ b. cond b 1 0) known in
    omega (arith, was, is)

fewer_look : (sts : List Lined) (place : ℕ) (l l' : Lined) → slice_get sts place ≡ Some l → asks_whether l.what ≡ true → asks_whether l'.what ≡ false → looks_left (slice_set sts place l') < looks_left sts
fewer_look [] place l l' e asked known = cc
fewer_look (x ∷ sts) zero l l' e asked known =
    fewer_by _ _ (looks_left sts) (looks_left (l' ∷ sts)) (looks_left (x ∷ sts)) (counted x sts) (counted l' sts) (one_for_none x l l' (some_same x l e) asked known)
fewer_look (x ∷ sts) (suc place) l l' e asked known =
    fewer_behind _ (looks_left sts) (looks_left (slice_set sts place l')) (looks_left (x ∷ slice_set sts place l')) (looks_left (x ∷ sts)) (counted x sts) (counted x (slice_set sts place l')) (fewer_look sts place l l' e asked known)

pub looks_fall : {F : Type 0} {ghosts : Ghosts F} (told : F → Bool) (bytes : F → List ℕ) (done : ℕ) (m m1 m2 : Machine F ghosts) → m1.deck ≡ m.deck → HasLooked told bytes done m1 m2
    → looks_left m2.deck.statements < looks_left m.deck.statements
looks_fall told bytes done m m1 m2 same h =
    let no_files : Files = λ name. None in
    let asks = question_some m1 h.lined h.here no_files h.question (question_inside no_files m1 h.question (h.is no_files)).1 in
    let less = fewer_look m1.deck.statements m1.at.place h.lined (known_at h.question done h.lined) h.here asks (asks_looked h.question.unit (are_done h.question done) h.lined.what) in
    subst (λ (d : Deck). looks_left d.statements < looks_left m.deck.statements) (sym h.deck) (subst (λ (d : Deck). looks_left (slice_set m1.deck.statements m1.at.place (known_at h.question done h.lined)) < looks_left d.statements) same less)
