-- Numbers of jobs, identifiers and slots, after each step.
use Rattle.std.proofs.Common.{◌≡◌, ℕ, ◌+◌, ◌<◌, ◌≤◌, ◌⊎◌, ◌==◌, ◌&&◌, ◌||◌, Bool, true, false, cond, List, [], ◌∷◌, map, length, get_or, slice_set, All, Option, Some, refl, sym, ap, ◌∙◌, subst, inl, inr, arith}
use Rattle.std.specs.List.{list_any}
use Rattle.std.specs.Prelude.{if◌then◌else◌, is_none}
use Rattle.std.proofs.lemmas.Bool.{eq-eqb, ne_eqb, cases_lt, cases_Bool}
use Rattle.std.proofs.lemmas.Bool.Decides.{eqb_tells}
use Rattle.std.proofs.lemmas.List.{get_or-set_same, get_or-set_other, get_or_past}
use Rattle.std.proofs.lemmas.List.Elements.{All-nil, All-cons, All-head, All-tail, All-same, All-push, All-weaker, All-filter, All-map}
use Rattle.fj_bay.specs.declared.job.Job.{Job}
use Rattle.fj_bay.specs.declared.job.Answer.{Answer}
use Rattle.fj_meaning_jobs.specs.Core.{Pending}
use Rattle.fj_meaning_jobs.specs.Desks.{Brought, most_slots}
use Rattle.fj_meaning.specs.State.{Entry}
use Rattle.fj_meaning.specs.Telling.{tells_id}
use Rattle.fj_meaning_turns.specs.Run.{Held as PlainHeld}
use Rattle.fj_meaning_turns.specs.Turns.{is_at, unsettled, with_answer}
use Rattle.fj_run_pending.specs.Plain.{held, held_of, pending_of}
use Rattle.fj_run_pending.specs.Taking.{LeavesSome}
use Rattle.fj_run_pending.specs.declared.held.Held.{Held}
use Rattle.fj_run_statements.specs.Holding.{HoldsMore, MayEnter}
use Rattle.fj_run_statements.specs.Placing.{PendsAt, slot_behind}
use Rattle.fj_run_statements.specs.State.{KeepsPending}
use Rattle.fj_run_statements.specs.declared.doing.Given.{Given}
use Rattle.fj_run_statements.specs.declared.doing.Given.TheVariants as given
use Rattle.fj_run_statements.specs.declared.doing.Then.{Then}
use Rattle.fj_run_statements.specs.declared.state.Core.{Core}
use Rattle.fj_run_script.specs.Answering.{with_own}
use Rattle.fj_run_script.specs.Numbering.{AreGiven, AreNamed, AreSlots, AreUntold, AreWithin, IsLast, IsUntold, OwnIsLast, OwnIsUntold, gave, pends_by, slots_behind}
use Rattle.fj_run_script.specs.Passing.{awaits, is_waiting}
use Rattle.fj_run_script.specs.declared.stage.Stage.{Stage}
use Rattle.fj_run_script.specs.declared.stage.Stage.TheVariants as stage
use Rattle.fj_run_script.proofs.Passed.{answered_pendings}
use Rattle.fj_run_script.proofs.Runs.{pendings_are}

-- ---- two tests at once

both_true : (a b : Bool) → (a && b) ≡ true → (a ≡ true) × (b ≡ true)
both_true true b e = (refl, e)
both_true false b e = let z : false ≡ true = e in cc

pub equal_by : (x y : ℕ) → (x == y) ≡ true → x ≡ y
equal_by x y e = elim (eqb_tells x y) [ inl a ↦ a.1 | inr a ↦ absurd (let z : false ≡ true = sym a.0 ∙ e in cc) ]

pub at_itself : (slot number : ℕ) → ((slot == slot) && (number == number)) ≡ true
at_itself slot number = ap (λ b. b && (number == number)) (eq-eqb slot slot refl) ∙ eq-eqb number number refl

same_at : (own slot last number : ℕ) → ((own == slot) && (last == number)) ≡ true → (own ≡ slot) × (last ≡ number)
same_at own slot last number e =
    let b = both_true (own == slot) (last == number) e in
    (equal_by own slot b.0, equal_by last number b.1)

-- ---- one more job was given to a slot

module _ (sent : List ℕ) (slot more : ℕ) (within : slot < length sent) (is : more ≡ get_or sent slot 0 + 1) where
  here : get_or (slice_set sent slot more) slot 0 ≡ more
  here = get_or-set_same sent slot more 0 within

  pub no_fewer : (at : ℕ) → get_or sent at 0 ≤ get_or (slice_set sent slot more) at 0
  no_fewer at =
      elim (eqb_tells at slot) [
        | inl a ↦ subst (λ k. get_or sent k 0 ≤ get_or (slice_set sent slot more) k 0) (sym a.1) (omega (arith, here, is))
        | inr a ↦ omega (arith, get_or-set_other sent slot at more 0 a.1)
      ]

  pub given_still : (hs : List Held) → AreGiven sent hs → AreGiven (slice_set sent slot more) hs
  given_still hs all = All-weaker (λ (h : Held). h.number < get_or sent h.slot 0) (λ (h : Held). h.number < get_or (slice_set sent slot more) h.slot 0) (λ h low. omega (arith, low, no_fewer h.slot)) hs all

  pub within_still : (told : List ℕ) → AreWithin told sent → AreWithin told (slice_set sent slot more)
  within_still told low = λ at. let l = low at in omega (arith, l, no_fewer at)

  -- it is the last one
  pub own_given : {F : Type 0} → (hs : List Held) (s : Stage F) → AreGiven sent hs → ((at number : ℕ) → gave at number s ≡ true → (at ≡ slot) × (number ≡ get_or sent slot 0))
      → OwnIsLast (slice_set sent slot more) hs s
  own_given hs s all own = λ at number g.
      let o = own at number g in
      let low : number < get_or (slice_set sent slot more) slot 0 = omega (arith, here, is, o.1) in (
        subst (λ k. number < get_or (slice_set sent slot more) k 0) (sym o.0) low,
        All-weaker (λ (h : Held). h.number < get_or sent h.slot 0) (λ (h : Held). h.slot ≡ at → h.number < number)
            (λ h given same. let e : get_or sent h.slot 0 ≡ number = ap (λ k. get_or sent k 0) (same ∙ o.0) ∙ sym o.1 in omega (arith, given, e)) hs all,
      )

-- it is not told
pub own_not_told : {F : Type 0} → (told sent : List ℕ) (slot : ℕ) (s : Stage F) → AreWithin told sent → ((at number : ℕ) → gave at number s ≡ true → (at ≡ slot) × (number ≡ get_or sent slot 0)) → OwnIsUntold told s
own_not_told told sent slot s low own = λ at number g.
    let o = own at number g in
    let l = low slot in
    let e : get_or told at 0 ≡ get_or told slot 0 = ap (λ k. get_or told k 0) o.0 in
    omega (arith, l, e, o.1)

-- ---- a slot that was given a job is one that there is

pub slot_given : (sent : List ℕ) (slot number : ℕ) → length sent ≡ most_slots → number < get_or sent slot 0 → slot < most_slots
slot_given sent slot number e low =
    elim (cases_lt slot (length sent)) [ inl a ↦ omega (arith, a, e) | inr b ↦ absurd (omega (arith, low, get_or_past sent slot 0 b)) ]

unsettled_by : (b : Bool) (slot at : ℕ) (o : Option ℕ) → cond b (Some slot) o ≡ Some at → ((b ≡ true) × (slot ≡ at)) ⊎ (o ≡ Some at)
unsettled_by true slot at o e = inl (refl, let z : Some slot ≡ Some at = e in cc)
unsettled_by false slot at o e = inr e

-- and where an answer is awaited, it was given one that is not told
pub unsettled_slot : (sent told : List ℕ) (es : List Entry) (hs : List Held) (slot : ℕ) → length sent ≡ most_slots → AreGiven sent hs → AreUntold told hs → unsettled es (held hs) ≡ Some slot
    → (slot < most_slots) × (get_or told slot 0 < get_or sent slot 0)
unsettled_slot sent told es [] slot e all none u = cc
unsettled_slot sent told es (h ∷ hs) slot e all none u =
    elim (unsettled_by (tells_id es h.tag.0 && is_none (held_of h).answer) h.slot slot (unsettled es (held hs)) u) [
      | inl same ↦
          let given = All-head (λ (x : Held). x.number < get_or sent x.slot 0) h hs all in
          let low = All-head (λ (x : Held). IsUntold told (held_of x)) h hs none (both_true (tells_id es h.tag.0) (is_none (held_of h).answer) same.0).1 in
          subst (λ k. (k < most_slots) × (get_or told k 0 < get_or sent k 0)) same.1 (slot_given sent h.slot h.number e given, omega (arith, given, low))
      | inr more ↦
          unsettled_slot sent told es hs slot e (All-tail (λ (x : Held). x.number < get_or sent x.slot 0) h hs all) (All-tail (λ (x : Held). IsUntold told (held_of x)) h hs none) more
    ]

-- ---- what a statement gives

pub going_own : (slot n : ℕ) (next : Given) → PendsAt slot next → (at number : ℕ) → pends_by at number next n ≡ true → (at ≡ slot) × (number ≡ n)
going_own slot n (given.Finishes condition) p at number g = let z : false ≡ true = g in cc
going_own slot n (given.Pends unit own) p at number g =
    let s = same_at own at n number g in
    (sym s.0 ∙ p, sym s.1)

pub awaiting_own : (slot n at number : ℕ) → ((slot == at) && (n == number)) ≡ true → (at ≡ slot) × (number ≡ n)
awaiting_own slot n at number g = let s = same_at slot at n number g in (sym s.0, sym s.1)

-- ---- a transfer is made pending

named_still : (old new : Core) → new.pending ≡ old.pending → new.next ≡ old.next → AreNamed old.next old.pending → AreNamed new.next new.pending
named_still old new same next all = subst (λ n. AreNamed n new.pending) (sym next) (subst (AreNamed old.next) (sym same) all)

given_more : (sent : List ℕ) (id slot number : ℕ) (hs hs' : List Held) → number < get_or sent slot 0 → AreGiven sent hs → HoldsMore id slot number hs hs' → AreGiven sent hs'
given_more sent id slot number hs hs' low all m =
    let P : Held → Type 0 = λ (h : Held). h.number < get_or sent h.slot 0 in
    let last : P m.transfer = subst (λ k. m.transfer.number < get_or sent k 0) (sym m.slot_is) (subst (λ k. k < get_or sent slot 0) (sym m.number_is) low) in
    subst (All P) (sym m.behind) (All-push P hs m.transfer all last)

named_more : (id slot number next : ℕ) (hs hs' : List Held) → next ≡ id + 1 → AreNamed id hs → HoldsMore id slot number hs hs' → AreNamed next hs'
named_more id slot number next hs hs' e all m =
    let P : Held → Type 0 = λ (h : Held). h.tag.0 < next in
    let last : P m.transfer = omega (arith, m.id_is, e) in
    subst (All P) (sym m.behind) (All-push P hs m.transfer (All-weaker (λ (h : Held). h.tag.0 < id) P (λ h low. omega (arith, low, e)) hs all) last)

pub given_entered : (sent : List ℕ) (next : Given) (number : ℕ) (old new : Core) → ((slot : ℕ) → pends_by slot number next number ≡ true → IsLast sent old.pending slot number)
    → AreGiven sent old.pending → MayEnter next number old new → AreGiven sent new.pending
given_entered sent (given.Finishes condition) number old new own all m = subst (AreGiven sent) (sym m.0) all
given_entered sent (given.Pends unit slot) number old new own all (inl m) = subst (AreGiven sent) (sym m.0) all
given_entered sent (given.Pends unit slot) number old new own all (inr m) = given_more sent old.next slot number old.pending new.pending (own slot (at_itself slot number)).0 all m.0

pub named_entered : (next : Given) (number : ℕ) (old new : Core) → AreNamed old.next old.pending → MayEnter next number old new → AreNamed new.next new.pending
named_entered (given.Finishes condition) number old new all m = named_still old new m.0 m.1 all
named_entered (given.Pends unit slot) number old new all (inl m) = named_still old new m.0 m.1 all
named_entered (given.Pends unit slot) number old new all (inr m) = named_more old.next slot number new.next old.pending new.pending m.1 all m.0

pub untold_entered : (told : List ℕ) (next : Given) (number : ℕ) (old new : Core) → ((slot : ℕ) → pends_by slot number next number ≡ true → get_or told slot 0 ≤ number)
    → AreUntold told old.pending → MayEnter next number old new → AreUntold told new.pending
untold_entered told (given.Finishes condition) number old new own all m = subst (AreUntold told) (sym m.0) all
untold_entered told (given.Pends unit slot) number old new own all (inl m) = subst (AreUntold told) (sym m.0) all
untold_entered told (given.Pends unit slot) number old new own all (inr m) =
    let P : Held → Type 0 = λ (h : Held). IsUntold told (held_of h) in
    let it = m.0.transfer in
    let last : P it = λ none.
    let low = own slot (at_itself slot number) in
    let e : get_or told it.slot 0 ≡ get_or told slot 0 = ap (λ k. get_or told k 0) m.0.slot_is in
    omega (arith, low, e, m.0.number_is)
    in
    subst (All P) (sym m.0.behind) (All-push P old.pending it all last)

-- nothing is made pending
pub given_same : (sent : List ℕ) (old new : Core) → KeepsPending old new → AreGiven sent old.pending → AreGiven sent new.pending
given_same sent old new k all = subst (AreGiven sent) (sym k.0) all

pub named_same : (old new : Core) → KeepsPending old new → AreNamed old.next old.pending → AreNamed new.next new.pending
named_same old new k all = named_still old new k.0 k.1 all

-- nothing is given yet
pub own_none : {F : Type 0} → (sent : List ℕ) (hs : List Held) (s : Stage F) → s ≡ stage.Start → OwnIsLast sent hs s
own_none sent hs s e = λ slot number g.
    let z : false ≡ true = sym (ap (gave slot number) e) ∙ g in
    cc

pub later_none : {F : Type 0} → (s : Stage F) → s ≡ stage.Start → AreSlots (slots_behind s)
later_none s e = All-same (λ slot. slot < most_slots) (slots_behind s) [] (ap slots_behind e) (All-nil (λ (slot : ℕ). slot < most_slots))

-- ---- transfers are told

pub given_left : (sent : List ℕ) (hs hs' : List Held) → LeavesSome hs hs' → AreGiven sent hs → AreGiven sent hs'
given_left sent hs hs' l all = subst (AreGiven sent) (sym l.1) (All-filter l.0 (λ (h : Held). h.number < get_or sent h.slot 0) hs all)

pub untold_left : (told : List ℕ) (hs hs' : List Held) → LeavesSome hs hs' → AreUntold told hs → AreUntold told hs'
untold_left told hs hs' l all = subst (AreUntold told) (sym l.1) (All-filter l.0 (λ (h : Held). IsUntold told (held_of h)) hs all)

pub named_left : (next next' : ℕ) (hs hs' : List Held) → next' ≡ next → LeavesSome hs hs' → AreNamed next hs → AreNamed next' hs'
named_left next next' hs hs' e l all =
    subst (λ n. AreNamed n hs') (sym e) (subst (AreNamed next) (sym l.1) (All-filter l.0 (λ (h : Held). h.tag.0 < next) hs all))

-- ---- one has its answer

unmapped : {X : Type 0} → (f : Held → X) (P : X → Type 0) (hs : List Held) → All P (map f hs) → All (λ (h : Held). P (f h)) hs
unmapped f P [] all = All-nil (λ (h : Held). P (f h))
unmapped f P (h ∷ hs) all = All-cons (λ (h : Held). P (f h)) h hs (All-head P (f h) (map f hs) all) (unmapped f P hs (All-tail P (f h) (map f hs) all))

pub transfers_same : (slot number : ℕ) (it : Brought) (hs hs' : List Held) → held hs' ≡ with_answer slot number it (held hs) → map pending_of hs' ≡ map pending_of hs
transfers_same slot number it hs hs' e =
    sym (pendings_are hs') ∙ ap (map (λ (h : PlainHeld). h.pending)) e ∙ answered_pendings slot number it (held hs) ∙ pendings_are hs

all_answered : (P : Pending → Type 0) (hs hs' : List Held) → map pending_of hs' ≡ map pending_of hs → All (λ (h : Held). P (pending_of h)) hs → All (λ (h : Held). P (pending_of h)) hs'
all_answered P hs hs' e all = unmapped pending_of P hs' (subst (All P) (sym e) (All-map P pending_of hs all))

pub given_answered : (sent : List ℕ) (hs hs' : List Held) → map pending_of hs' ≡ map pending_of hs → AreGiven sent hs → AreGiven sent hs'
given_answered sent hs hs' e all = all_answered (λ (p : Pending). p.number < get_or sent p.slot 0) hs hs' e all

pub named_answered : (next : ℕ) (hs hs' : List Held) → map pending_of hs' ≡ map pending_of hs → AreNamed next hs → AreNamed next hs'
named_answered next hs hs' e all = all_answered (λ (p : Pending). p.id < next) hs hs' e all

pub own_answered : {F : Type 0} → (sent : List ℕ) (hs hs' : List Held) (s : Stage F) → map pending_of hs' ≡ map pending_of hs → OwnIsLast sent hs s → OwnIsLast sent hs' s
own_answered sent hs hs' s e own = λ slot number g.
    let o = own slot number g in
    (o.0, all_answered (λ (p : Pending). p.slot ≡ slot → p.number < number) hs hs' e o.1)

-- ---- the statement's own job came back

with_by : {F : Type 0} → (b : Bool) (job : Job F) (answer : Answer) (own last slot number : ℕ) (then_ : Then)
    → gave slot number (cond b (stage.Answered then_ job answer) (stage.Awaiting own last then_)) ≡ true → ((own == slot) && (last == number)) ≡ true
with_by true job answer own last slot number then_ g = let z : false ≡ true = g in cc
with_by false job answer own last slot number then_ g = g

gave_with : {F : Type 0} → (at n : ℕ) (job : Job F) (answer : Answer) (s : Stage F) (slot number : ℕ) → gave slot number (with_own at n job answer s) ≡ true → gave slot number s ≡ true
gave_with at n job answer stage.Start slot number g = g
gave_with at n job answer (stage.Waiting whose from) slot number g = g
gave_with at n job answer (stage.Resuming slots next condition) slot number g = g
gave_with at n job answer (stage.Going next last) slot number g = g
gave_with at n job answer (stage.Awaiting own last then_) slot number g = with_by ((own == at) && (last == n)) job answer own last slot number then_ g
gave_with at n job answer (stage.Answered then_ other reply) slot number g = g

pub own_with : {F : Type 0} → (sent : List ℕ) (hs : List Held) (at n : ℕ) (job : Job F) (answer : Answer) (s : Stage F) → OwnIsLast sent hs s → OwnIsLast sent hs (with_own at n job answer s)
own_with sent hs at n job answer s own = λ slot number g. own slot number (gave_with at n job answer s slot number g)

behind_by : {F : Type 0} → (b : Bool) (job : Job F) (answer : Answer) (own last : ℕ) (then_ : Then)
    → slots_behind (cond b (stage.Answered then_ job answer) (stage.Awaiting own last then_)) ≡ slot_behind then_ ∷ []
behind_by true job answer own last then_ = refl
behind_by false job answer own last then_ = refl

pub behind_with : {F : Type 0} → (at n : ℕ) (job : Job F) (answer : Answer) (s : Stage F) → slots_behind (with_own at n job answer s) ≡ slots_behind s
behind_with at n job answer stage.Start = refl
behind_with at n job answer (stage.Waiting whose from) = refl
behind_with at n job answer (stage.Resuming slots next condition) = refl
behind_with at n job answer (stage.Going next last) = refl
behind_with at n job answer (stage.Awaiting own last then_) = behind_by ((own == at) && (last == n)) job answer own last then_
behind_with at n job answer (stage.Answered then_ other reply) = refl

-- ---- a pending transfer does not have the statement's own job

none_at : (slot number : ℕ) (hs : List Held) → All (λ (h : Held). h.slot ≡ slot → h.number < number) hs → list_any (λ (h : PlainHeld). is_at slot number h.pending) (held hs) ≡ false
none_at slot number [] all = refl
none_at slot number (h ∷ hs) all =
    let P : Held → Type 0 = λ (h : Held). h.slot ≡ slot → h.number < number in
    let low = All-head P h hs all in
    let first : ((h.slot == slot) && (h.number == number)) ≡ false =
    elim (eqb_tells h.slot slot) [
      | inl a ↦ ap (λ b. b && (h.number == number)) a.0 ∙ ne_eqb h.number number (λ e. absurd (omega (arith, low a.1, e)))
      | inr a ↦ ap (λ b. b && (h.number == number)) a.0
    ] in
    ap (λ b. b || list_any (λ (x : PlainHeld). is_at slot number x.pending) (held hs)) first ∙ none_at slot number hs (All-tail P h hs all)

awaited_gave : {F : Type 0} → (slot number : ℕ) (s : Stage F) → awaits slot number s ≡ true → gave slot number s ≡ true
awaited_gave slot number stage.Start a = a
awaited_gave slot number (stage.Waiting whose from) a = a
awaited_gave slot number (stage.Resuming slots next condition) a = a
awaited_gave slot number (stage.Going next n) a = let z : false ≡ true = a in cc
awaited_gave slot number (stage.Awaiting own last then_) a = a
awaited_gave slot number (stage.Answered then_ job answer) a = a

pub not_awaited : {F : Type 0} → (sent : List ℕ) (hs : List Held) (slot number : ℕ) (s : Stage F) → OwnIsLast sent hs s
    → list_any (λ (h : PlainHeld). is_at slot number h.pending) (held hs) ≡ true → awaits slot number s ≡ false
not_awaited sent hs slot number s own has =
    elim (cases_Bool (awaits slot number s)) [
      | inl a ↦
          let none = none_at slot number hs (own slot number (awaited_gave slot number s a)).1 in
          let z : true ≡ false = sym has ∙ none in
          cc
      | inr b ↦ b
    ]

-- ---- one more job of a slot is told

module _ (told : List ℕ) (slot more : ℕ) (inside : slot < length told) (is : more ≡ get_or told slot 0 + 1) where
  -- a job that is not this one is not told still
  below : (at number : ℕ) → get_or told at 0 ≤ number → (at ≡ slot → number ≡ get_or told slot 0 → ⊥) → get_or (slice_set told slot more) at 0 ≤ number
  below at number low other =
      elim (eqb_tells at slot) [
        | inl a ↦
            let now : get_or (slice_set told slot more) at 0 ≡ get_or told slot 0 + 1 = ap (λ k. get_or (slice_set told slot more) k 0) a.1 ∙ get_or-set_same told slot more 0 inside ∙ is in
            let was : get_or told at 0 ≡ get_or told slot 0 = ap (λ k. get_or told k 0) a.1 in
            elim (eqb_tells number (get_or told slot 0)) [
              | inl b ↦ absurd (other a.1 b.1)
              | inr b ↦ omega (arith, now, was, low, b.1)
            ]
        | inr a ↦ omega (arith, get_or-set_other told slot at more 0 a.1, low)
      ]

  pub within_told : (sent : List ℕ) → AreWithin told sent → get_or told slot 0 < get_or sent slot 0 → AreWithin (slice_set told slot more) sent
  within_told sent low owed = λ at.
      below at (get_or sent at 0) (low at) (λ e f. let z : get_or sent at 0 ≡ get_or sent slot 0 = ap (λ k. get_or sent k 0) e in let bad : ⊥ = omega (arith, z, f, owed) in bad)

  answer_by : (number : ℕ) (it : Brought) (h : PlainHeld) → number ≡ get_or told slot 0 → (b : Bool) → is_at slot number h.pending ≡ b → IsUntold told h
      → IsUntold (slice_set told slot more) (cond b (record { pending = h.pending; answer = Some it }) h)
  answer_by number it h n true e low = λ none. let z : false ≡ true = none in cc
  answer_by number it h n false e low = λ none.
      below h.pending.slot h.pending.number (low none)
      (λ a b. let z : true ≡ false = sym (ap (λ t. t && (h.pending.number == number)) (eq-eqb h.pending.slot slot a) ∙ eq-eqb h.pending.number number (b ∙ sym n)) ∙ e in let bad : ⊥ = cc in bad)

  untold_with : (number : ℕ) (it : Brought) (hs : List Held) → number ≡ get_or told slot 0 → AreUntold told hs → All (IsUntold (slice_set told slot more)) (with_answer slot number it (held hs))
  untold_with number it hs n all =
      let given : PlainHeld → PlainHeld = λ (h : PlainHeld). if is_at slot number h.pending then record { pending = h.pending; answer = Some it } else h in
      let P : PlainHeld → Type 0 = IsUntold (slice_set told slot more) in
      All-map P given (held hs)
      (All-map (λ h. P (given h)) held_of hs (All-weaker (λ (h : Held). IsUntold told (held_of h)) (λ (h : Held). P (given (held_of h))) (λ h low. answer_by number it (held_of h) n (is_at slot number (held_of h).pending) refl low) hs all))

  -- the transfer whose job it is has its answer
  pub untold_answered : (number : ℕ) (it : Brought) (hs hs' : List Held) → number ≡ get_or told slot 0 → held hs' ≡ with_answer slot number it (held hs) → AreUntold told hs → AreUntold (slice_set told slot more) hs'
  untold_answered number it hs hs' n e all = unmapped held_of (IsUntold (slice_set told slot more)) hs' (subst (All (IsUntold (slice_set told slot more))) (sym e) (untold_with number it hs n all))

  waiting_gave : {F : Type 0} → (at number : ℕ) (s : Stage F) → is_waiting s ≡ true → gave at number s ≡ true → awaits at number s ≡ true
  waiting_gave at number stage.Start w g = g
  waiting_gave at number (stage.Waiting whose from) w g = g
  waiting_gave at number (stage.Resuming slots next condition) w g = g
  waiting_gave at number (stage.Going next n) w g = let z : false ≡ true = w in cc
  waiting_gave at number (stage.Awaiting own last then_) w g = g
  waiting_gave at number (stage.Answered then_ job answer) w g = g

  -- the statement's own job is another one
  pub own_untold_kept : {F : Type 0} → (number : ℕ) (s : Stage F) → number ≡ get_or told slot 0 → is_waiting s ≡ true → awaits slot number s ≡ false → OwnIsUntold told s → OwnIsUntold (slice_set told slot more) s
  own_untold_kept number s n w other own = λ at last g.
      below at last (own at last g)
      (λ a b. let z : awaits slot number s ≡ true = subst (λ k. awaits k number s ≡ true) a (subst (λ k. awaits at k s ≡ true) (b ∙ sym n) (waiting_gave at last s w g)) in let y : true ≡ false = sym z ∙ other in let bad : ⊥ = cc in bad)

  own_by : {F : Type 0} → (b : Bool) (job : Job F) (answer : Answer) (own last at number : ℕ) (then_ : Then) → ((own == at) && (last == number)) ≡ b
      → gave at number (cond b (stage.Answered then_ job answer) (stage.Awaiting own last then_)) ≡ true → ⊥
  own_by true job answer own last at number then_ e g = let z : false ≡ true = g in let bad : ⊥ = cc in bad
  own_by false job answer own last at number then_ e g = let z : false ≡ true = sym e ∙ g in let bad : ⊥ = cc in bad

  own_goes : {F : Type 0} → (at number : ℕ) (job : Job F) (answer : Answer) (s : Stage F) → is_waiting s ≡ true → gave at number (with_own at number job answer s) ≡ true → ⊥
  own_goes at number job answer stage.Start w g = let z : false ≡ true = g in let bad : ⊥ = cc in bad
  own_goes at number job answer (stage.Waiting whose from) w g = let z : false ≡ true = g in let bad : ⊥ = cc in bad
  own_goes at number job answer (stage.Resuming slots next condition) w g = let z : false ≡ true = g in let bad : ⊥ = cc in bad
  own_goes at number job answer (stage.Going next n) w g = let z : false ≡ true = w in let bad : ⊥ = cc in bad
  own_goes at number job answer (stage.Awaiting own last then_) w g = own_by ((own == at) && (last == number)) job answer own last at number then_ refl g
  own_goes at number job answer (stage.Answered then_ other reply) w g = let z : false ≡ true = g in let bad : ⊥ = cc in bad

  -- it is this one, and comes back; or it is another one
  pub own_untold_with : {F : Type 0} → (number : ℕ) (job : Job F) (answer : Answer) (s : Stage F) → number ≡ get_or told slot 0 → is_waiting s ≡ true → OwnIsUntold told s
      → OwnIsUntold (slice_set told slot more) (with_own slot number job answer s)
  own_untold_with number job answer s n w own = λ at last g.
      below at last (own at last (gave_with slot number job answer s at last g))
      (λ a b. own_goes slot number job answer s w (subst (λ k. gave k number (with_own slot number job answer s) ≡ true) a (subst (λ k. gave at k (with_own slot number job answer s) ≡ true) (b ∙ sym n) g)))
