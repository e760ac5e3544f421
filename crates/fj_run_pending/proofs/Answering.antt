-- An answer is put where its transfer stands.
use Rattle.std.proofs.Common.{◌≡◌, ℕ, zero, suc, ◌<◌, ◌≤◌, ◌&&◌, ◌||◌, Bool, true, false, List, [], ◌∷◌, length, get_or, set, Option, Some, None, All, refl, sym, ap, subst, ◌∙◌, inl, inr, arith}
use Rattle.std.specs.Prelude.{if◌then◌else◌, is_some, is_none, ◌==◌, max, IfSome, IfNone}
use Rattle.std.specs.List.{list_any}
use Rattle.std.proofs.lemmas.Bool.{eq-eqb, eqb-true, cases_lt}
use Rattle.std.proofs.lemmas.Bool.Decides.{eqb_tells}
use Rattle.std.proofs.lemmas.List.{get_or-set_same, get_or-set_other, length-set}
use Rattle.std.proofs.lemmas.List.Elements.{All-head, All-tail, All-weaker, All-set}
use Rattle.fj_meaning_jobs.specs.Desks.{Brought}
use Rattle.fj_meaning_turns.specs.Run.{Held as PlainHeld}
use Rattle.fj_meaning_turns.specs.Turns.{with_answer}
use Rattle.fj_meaning_turns.specs.Turns as turns
use Rattle.fj_book.specs.declared.pending.Pending.{Pending}
use Rattle.fj_meaning.proofs.Lists.{pairs_head, pairs_tail, no}
use Rattle.fj_run_pending.specs.declared.busy.Busy.{Busy}
use Rattle.fj_run_pending.specs.declared.held.Held.{Held}
use Rattle.fj_run_pending.specs.declared.held.Told.{Told}
use Rattle.fj_run_pending.specs.declared.mark.Mark.{Mark}
use Rattle.fj_run_pending.specs.Plain.{held, held_of, brought_of}
use Rattle.fj_run_pending.specs.Answers.{is_at, waits_at, with_told, NoneWaits}
use Rattle.fj_run_pending.specs.Busy.{may_have}
use Rattle.fj_run_pending.specs.Tied.{IsAscending, IsRising, IsMarked, IsSame, AreSame, IsTied, mark_at, answered_marks}
use Rattle.fj_run_pending.proofs.Ids.{same_read}
use Rattle.fj_run_pending.proofs.Tying.{own_marked, remarked}
use Rattle.fj_run_pending.proofs.Waited.{some_or_none}

pub both_true : (a b : Bool) → (a && b) ≡ true → (a ≡ true) × (b ≡ true)
both_true true b e = (refl, e)
both_true false b e = no e

pub slot_is : (slot number : ℕ) (h : Held) → is_at slot number h ≡ true → h.slot ≡ slot
slot_is slot number h e = eqb-true h.slot slot (both_true (h.slot == slot) (h.number == number) e).0

pub number_is : (slot number : ℕ) (h : Held) → is_at slot number h ≡ true → h.number ≡ number
number_is slot number h e = eqb-true h.number number (both_true (h.slot == slot) (h.number == number) e).1

pub not_at : (slot number : ℕ) (h : Held) → (h.slot ≡ slot → h.number ≡ number → ⊥) → is_at slot number h ≡ false
not_at slot number h apart = by (h.slot == slot) (h.number == number) refl refl
  where
    by : (b c : Bool) → (h.slot == slot) ≡ b → (h.number == number) ≡ c → (b && c) ≡ false
    by true true e f = absurd (apart (eqb-true h.slot slot e) (eqb-true h.number number f))
    by true false e f = refl
    by false c e f = refl

pub none_answered : (slot number : ℕ) (it : Brought) (hs : List Held) → All (λ h. is_at slot number h ≡ false) hs → with_answer slot number it (held hs) ≡ held hs
none_answered slot number it [] none = refl
none_answered slot number it (h ∷ hs) none =
    ap (λ b. (if b then record { pending = (held_of h).pending; answer = Some it } else held_of h) ∷ with_answer slot number it (held hs)) (All-head (λ x. is_at slot number x ≡ false) h hs none)
    ∙ ap (λ l. held_of h ∷ l) (none_answered slot number it hs (All-tail (λ x. is_at slot number x ≡ false) h hs none))

abbrev rises : Held → Held → Type 0
rises a b = a.slot ≡ b.slot → a.number < b.number

-- the answer of the one transfer with the number at the slot
pub one_answered : (slot number : ℕ) (told : Told) (hs : List Held) (at : ℕ) (y : Held) → IsRising hs → at < length hs → get_or hs at y ≡ y → is_at slot number y ≡ true
    → with_answer slot number (brought_of told) (held hs) ≡ held (set hs at (with_told told y))
one_answered slot number told [] at y up low is here = absurd (omega arith)
one_answered slot number told (h ∷ hs) zero y up low is here =
    ap (λ b. (if b then record { pending = (held_of h).pending; answer = Some (brought_of told) } else held_of h) ∷ with_answer slot number (brought_of told) (held hs)) (ap (is_at slot number) is ∙ here)
    ∙ ap (λ l. held_of (with_told told h) ∷ l) (none_answered slot number (brought_of told) hs
    (All-weaker (rises h) (λ x. is_at slot number x ≡ false) (λ x above. not_at slot number x (λ s n. absurd (omega (arith, above (slot_is slot number h (ap (is_at slot number) is ∙ here) ∙ sym s), number_is slot number h (ap (is_at slot number) is ∙ here), n)))) hs (pairs_head rises h hs up)))
    ∙ ap (λ x. held_of (with_told told x) ∷ held hs) is
one_answered slot number told (h ∷ hs) (suc at) y up low is here =
    let above : rises h y = subst (rises h) is (pairs_head rises h hs up at y (omega arith)) in
    ap (λ b. (if b then record { pending = (held_of h).pending; answer = Some (brought_of told) } else held_of h) ∷ with_answer slot number (brought_of told) (held hs))
    (not_at slot number h (λ s n. absurd (omega (arith, above (s ∙ sym (slot_is slot number y here)), number_is slot number y here, n))))
    ∙ ap (λ l. held_of h ∷ l) (one_answered slot number told hs at y (pairs_tail rises h hs up) (omega arith) is here)

-- ---- all else stays

pub kept_same : (told : Told) (y : Held) (es : List Pending) (hs : List Held) (at : ℕ) → get_or hs at y ≡ y → AreSame es hs → AreSame es (set hs at (with_told told y))
kept_same told y [] [] at is s = s
kept_same told y [] (h ∷ hs) at is s = absurd s
kept_same told y (e ∷ es) [] at is s = absurd s
kept_same told y (e ∷ es) (h ∷ hs) zero is s =
    let it : IsSame e y = subst (IsSame e) is s.0 in
    (record { tag = it.tag; unit = it.unit; input = it.input; places = it.places }, s.1)
kept_same told y (e ∷ es) (h ∷ hs) (suc at) is s = (s.0, kept_same told y es hs at is s.1)

module _ (told : Told) (y : Held) (hs : List Held) (at : ℕ) (is : get_or hs at y ≡ y) (low : at < length hs) where
  read : (k : ℕ) (d : Held) → k < length hs → (z : Held) × (z ≡ get_or (set hs at (with_told told y)) k d) × (z.tag.0 ≡ (get_or hs k d).tag.0) × (z.slot ≡ (get_or hs k d).slot) × (z.number ≡ (get_or hs k d).number)
  read k d within = elim (eqb_tells k at) [
    | inl same ↦
        let here : get_or hs k d ≡ y = ap (λ n. get_or hs n d) same.1 ∙ same_read hs at d y low ∙ is in
        (with_told told y, sym (ap (λ n. get_or (set hs at (with_told told y)) n d) same.1 ∙ get_or-set_same hs at (with_told told y) d low), ap (λ (z : Held). z.tag.0) (sym here), ap (λ (z : Held). z.slot) (sym here), ap (λ (z : Held). z.number) (sym here))
    | inr other ↦ (get_or hs k d, sym (get_or-set_other hs at k (with_told told y) d other.1), refl, refl, refl)
  ]

  still_within : (k : ℕ) → k < length (set hs at (with_told told y)) → k < length hs
  still_within k within = omega (arith, length-set hs at (with_told told y))

  pub still_ascending : IsAscending hs → IsAscending (set hs at (with_told told y))
  still_ascending up i j d lt within =
      let a = read i d (still_within i (omega arith)) in
      let b = read j d (still_within j within) in
      let under = up i j d lt (still_within j within) in
      let low_tag : (get_or (set hs at (with_told told y)) i d).tag.0 ≡ (get_or hs i d).tag.0 = ap (λ (z : Held). z.tag.0) (sym a.1) ∙ a.2 in
      let high_tag : (get_or (set hs at (with_told told y)) j d).tag.0 ≡ (get_or hs j d).tag.0 = ap (λ (z : Held). z.tag.0) (sym b.1) ∙ b.2 in
      omega (arith, under, low_tag, high_tag)

  pub still_rising : IsRising hs → IsRising (set hs at (with_told told y))
  still_rising up i j d lt within same =
      let a = read i d (still_within i (omega arith)) in
      let b = read j d (still_within j within) in
      let low_slot : (get_or (set hs at (with_told told y)) i d).slot ≡ (get_or hs i d).slot = ap (λ (z : Held). z.slot) (sym a.1) ∙ a.3 in
      let high_slot : (get_or (set hs at (with_told told y)) j d).slot ≡ (get_or hs j d).slot = ap (λ (z : Held). z.slot) (sym b.1) ∙ b.3 in
      let low_number : (get_or (set hs at (with_told told y)) i d).number ≡ (get_or hs i d).number = ap (λ (z : Held). z.number) (sym a.1) ∙ a.4 in
      let high_number : (get_or (set hs at (with_told told y)) j d).number ≡ (get_or hs j d).number = ap (λ (z : Held). z.number) (sym b.1) ∙ b.4 in
      let under = up i j d lt (still_within j within) (sym low_slot ∙ same ∙ high_slot) in
      omega (arith, under, low_number, high_number)

answer_marked : (marks : List Mark) (slot number : ℕ) (m : Mark) → m.passed ≡ (mark_at marks slot).passed → m.reached ≡ max (mark_at marks slot).reached number → m.most ≡ (mark_at marks slot).most
    → (x : Held) → IsMarked marks x → x.slot ≡ slot → (x.tag.0 < m.passed → is_some x.answer ≡ true) × (is_some x.answer ≡ true → x.number ≤ m.reached) × (x.number ≤ m.most)
answer_marked marks slot number m p r n x it same =
    let under : x.number ≤ (mark_at marks slot).most = subst (λ j. x.number ≤ (mark_at marks j).most) same it.most in (
      (λ lt. it.passed (subst (λ j. x.tag.0 < (mark_at marks j).passed) (sym same) (let low : x.tag.0 < (mark_at marks slot).passed = omega (arith, lt, p) in low))),
      (λ some. let far : x.number ≤ (mark_at marks slot).reached = subst (λ j. x.number ≤ (mark_at marks j).reached) same (it.reached some) in omega (arith, far, r)),
      omega (arith, under, n),
    )

own_answer : (marks : List Mark) (slot number : ℕ) (m : Mark) → m.reached ≡ max (mark_at marks slot).reached number → m.most ≡ (mark_at marks slot).most
    → (told : Told) (y : Held) → IsMarked marks y → y.slot ≡ slot → y.number ≡ number → IsMarked (set marks slot m) (with_told told y)
own_answer marks slot number m r n told y it same this =
    let under : y.number ≤ (mark_at marks slot).most = subst (λ j. y.number ≤ (mark_at marks j).most) same it.most in
    own_marked marks slot m (with_told told y) (subst (λ j. j < length marks) same it.slot) same (λ lt. refl) (λ some. omega (arith, this, r)) (omega (arith, under, n))

-- an answer is put, and the numbers of the slot that have answers go so far
answered_at : (told : Told) (y : Held) (hs : List Held) (es : List Pending) (marks : List Mark) (units : List Busy) (slot number at : ℕ) → get_or hs at y ≡ y → at < length hs → is_at slot number y ≡ true
    → IsTied hs es marks units → IsTied (set hs at (with_told told y)) es (answered_marks marks slot number) units
answered_at told y hs es marks units slot number at is low here t =
    let m : Mark = record (mark_at marks slot) { reached = max (mark_at marks slot).reached number } in
    record {
      ascending = still_ascending told y hs at is low t.ascending;
      rising = still_rising told y hs at is low t.rising;
      same = kept_same told y es hs at is t.same;
      slots = length-set marks slot m ∙ t.slots;
      marked = All-set (IsMarked (set marks slot m)) hs at (with_told told y)
          (own_answer marks slot number m refl refl told y (subst (IsMarked marks) is (t.marked at y low)) (slot_is slot number y here) (number_is slot number y here))
          (All-weaker (IsMarked marks) (IsMarked (set marks slot m)) (λ x k. remarked marks slot m x k (λ same. answer_marked marks slot number m refl refl refl x k same)) hs t.marked);
      busy = All-set (λ (h : Held). may_have units h.unit h.tag.0 ≡ true) hs at (with_told told y) (subst (λ (h : Held). may_have units h.unit h.tag.0 ≡ true) is (t.busy at y low)) t.busy;
    }

any_of : {X P : Type 0} (xs : List X) (i : ℕ) → i < length xs → (X → P) → P
any_of [] i low f = absurd (omega (arith, low))
any_of (x ∷ xs) i low f = f x

pub answered_is : (told : Told) (hs hs' : List Held) (es : List Pending) (marks : List Mark) (units : List Busy) (slot number at : ℕ) → at < length hs → ((h : Held) → is_at slot number (get_or hs at h) ≡ true)
    → ((h : Held) → hs' ≡ set hs at (with_told told (get_or hs at h))) → IsTied hs es marks units → IsTied hs' es (answered_marks marks slot number) units
answered_is told hs hs' es marks units slot number at low here put t =
    any_of hs at low (λ d.
    let is : get_or hs at (get_or hs at d) ≡ get_or hs at d = same_read hs at (get_or hs at d) d low in
    subst (λ l. IsTied l es (answered_marks marks slot number) units) (sym (put d)) (answered_at told (get_or hs at d) hs es marks units slot number at is low (here d) t))

pub answer_is : (told : Told) (hs hs' : List Held) (slot number at : ℕ) → IsRising hs → at < length hs → ((h : Held) → is_at slot number (get_or hs at h) ≡ true)
    → ((h : Held) → hs' ≡ set hs at (with_told told (get_or hs at h))) → held hs' ≡ with_answer slot number (brought_of told) (held hs)
answer_is told hs hs' slot number at up low here put =
    any_of hs at low (λ d.
    let is : get_or hs at (get_or hs at d) ≡ get_or hs at d = same_read hs at (get_or hs at d) d low in
    ap held (put d) ∙ sym (one_answered slot number told hs at (get_or hs at d) up low is (here d)))

-- ---- where the transfer with the number at the slot does not stand

not_waiting : (marks : List Mark) (slot : ℕ) (h : Held) → IsMarked marks h → h.tag.0 < (mark_at marks slot).passed → waits_at slot h ≡ false
not_waiting marks slot h k lt = by (h.slot == slot) refl
  where
    by : (b : Bool) → (h.slot == slot) ≡ b → (b && is_none h.answer) ≡ false
    by true e = some_or_none h.answer true (k.passed (subst (λ j. h.tag.0 < (mark_at marks j).passed) (sym (eqb-true h.slot slot e)) lt))
    by false e = refl

pub none_waits : (marks : List Mark) (slot n : ℕ) (hs : List Held) → All (IsMarked marks) hs → ((k : ℕ) (h : Held) → k < n → (get_or hs k h).tag.0 < (mark_at marks slot).passed) → NoneWaits slot hs n
none_waits marks slot n hs all below k h low within = not_waiting marks slot (get_or hs k h) (all k h within) (below k h low)

none_or_some : {X : Type 0} (o : Option X) → is_none o ≡ false → is_some o ≡ true
none_or_some None e = (let never : true ≡ false = e in cc)
none_or_some (Some x) e = refl

has_answer : (slot : ℕ) (h : Held) → waits_at slot h ≡ false → h.slot ≡ slot → is_some h.answer ≡ true
has_answer slot h e same = none_or_some h.answer (ap (λ b. b && is_none h.answer) (sym (eq-eqb h.slot slot same)) ∙ e)

above_reached : (marks : List Mark) (slot number : ℕ) (h : Held) → IsMarked marks h → waits_at slot h ≡ false → (mark_at marks slot).reached < number → is_at slot number h ≡ false
above_reached marks slot number h k e over =
    not_at slot number h (λ s n. let far : h.number ≤ (mark_at marks slot).reached = subst (λ j. h.number ≤ (mark_at marks j).reached) s (k.reached (has_answer slot h e s)) in absurd (omega (arith, far, over, n)))

module _ (marks : List Mark) (slot number : ℕ) (hs : List Held) (all : All (IsMarked marks) hs) where
  pub none_by_most : (mark_at marks slot).most < number → All (λ h. is_at slot number h ≡ false) hs
  none_by_most from k d within =
      not_at slot number (get_or hs k d) (λ s n. let under : (get_or hs k d).number ≤ (mark_at marks slot).most = subst (λ j. (get_or hs k d).number ≤ (mark_at marks j).most) s (all k d within).most in absurd (omega (arith, under, from, n)))

  pub none_by_reached : (at : ℕ) → NoneWaits slot hs at → length hs ≤ at → (mark_at marks slot).reached < number → All (λ h. is_at slot number h ≡ false) hs
  none_by_reached at none past over k d within = above_reached marks slot number (get_or hs k d) (all k d within) (none k d (omega (arith, within, past)) within) over

  pub none_between : (at : ℕ) (y : Held) → NoneWaits slot hs at → at < length hs → get_or hs at y ≡ y → waits_at slot y ≡ true → IsRising hs → (mark_at marks slot).reached < number → number < y.number
      → All (λ h. is_at slot number h ≡ false) hs
  none_between at y none low is waits up over under k d within = elim (cases_lt k at) [
    | inl before ↦ above_reached marks slot number (get_or hs k d) (all k d within) (none k d before within) over
    | inr from ↦ not_at slot number (get_or hs k d) (λ s n. elim (eqb_tells at k) [
      | inl same ↦ let this : (get_or hs k d).number ≡ y.number = ap (λ (z : Held). z.number) (ap (λ i. get_or hs i d) (sym same.1) ∙ here d) in absurd (omega (arith, this, n, under))
      | inr other ↦
          let above : (get_or hs at d).number < (get_or hs k d).number = up at k d (omega (arith, from, other.1)) within (ap (λ (z : Held). z.slot) (here d) ∙ own ∙ sym s) in
          let this : (get_or hs at d).number ≡ y.number = ap (λ (z : Held). z.number) (here d) in
          absurd (omega (arith, above, this, n, under))
    ])
  ]
    where
      here : (d : Held) → get_or hs at d ≡ y
      here d = same_read hs at d y low ∙ is

      own : y.slot ≡ slot
      own = eqb-true y.slot slot (both_true (y.slot == slot) (is_none y.answer) waits).0

-- a slot is passed so far as none waits there
pub passed_marks : (marks : List Mark) (slot : ℕ) (m : Mark) (at : ℕ) (hs : List Held) → m.reached ≡ (mark_at marks slot).reached → m.most ≡ (mark_at marks slot).most → NoneWaits slot hs at
    → ((k : ℕ) (h : Held) → k < length hs → (get_or hs k h).tag.0 < m.passed → k < at) → All (IsMarked marks) hs → All (IsMarked (set marks slot m)) hs
passed_marks marks slot m at hs r n none before all k d within =
    let h = get_or hs k d in
    let it = all k d within in
    remarked marks slot m h it (λ same. (
      (λ lt. has_answer slot h (none k d (before k d within lt) within) same),
      (λ some. let far : h.number ≤ (mark_at marks slot).reached = subst (λ j. h.number ≤ (mark_at marks j).reached) same (it.reached some) in omega (arith, far, r)),
      (let under : h.number ≤ (mark_at marks slot).most = subst (λ j. h.number ≤ (mark_at marks j).most) same it.most in omega (arith, under, n)),
    ))

-- ---- whether one has the number at the slot

module _ (slot number : ℕ) where
  any_at : (hs : List Held) (at : ℕ) → at < length hs → ((d : Held) → is_at slot number (get_or hs at d) ≡ true) → list_any (λ (h : PlainHeld). turns.is_at slot number h.pending) (held hs) ≡ true
  any_at [] at low here = absurd (omega (arith, low))
  any_at (h ∷ hs) zero low here = ap (λ b. b || list_any (λ (x : PlainHeld). turns.is_at slot number x.pending) (held hs)) (here h)
  any_at (h ∷ hs) (suc at) low here = ap (λ b. is_at slot number h || b) (any_at hs at (omega arith) here) ∙ or_true (is_at slot number h)
    where
      or_true : (b : Bool) → (b || true) ≡ true
      or_true true = refl
      or_true false = refl

  any_none : (hs : List Held) → All (λ h. is_at slot number h ≡ false) hs → list_any (λ (h : PlainHeld). turns.is_at slot number h.pending) (held hs) ≡ false
  any_none [] none = refl
  any_none (h ∷ hs) none =
      ap (λ b. b || list_any (λ (x : PlainHeld). turns.is_at slot number x.pending) (held hs)) (All-head (λ x. is_at slot number x ≡ false) h hs none) ∙ any_none hs (All-tail (λ x. is_at slot number x ≡ false) h hs none)

  pub has_is : (hs : List Held) (o : Option ℕ) → IfSome o (λ at. (at < length hs) × ((d : Held) → is_at slot number (get_or hs at d) ≡ true)) → IfNone o (All (λ h. is_at slot number h ≡ false) hs)
      → is_some o ≡ list_any (λ (h : PlainHeld). turns.is_at slot number h.pending) (held hs)
  has_is hs None some none = sym (any_none hs none)
  has_is hs (Some at) some none = sym (any_at hs at some.0 some.1)
