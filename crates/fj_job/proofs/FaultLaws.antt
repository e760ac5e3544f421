-- A fault names one statement.
use Rattle.std.proofs.Common.{◌≡◌, ◌≢◌, ◌⊎◌, ◌↔◌, inl, inr, ℕ, zero, suc, ◌<◌, true, false, List, [], ◌∷◌, ◌++◌, length, length-append, append_assoc, Option, Some, None, IsSome, slice_get, refl, sym, ap, ◌∙◌, subst, arith}
use Rattle.fj_statement.specs.Sound.{AreRising}
use Rattle.fj_statement.specs.declared.deck.Variable.{Variable}
use Rattle.fj_statement.specs.declared.deck.Lined.{Lined}
use Rattle.fj_statement.specs.declared.deck.Deck.{Deck}
use Rattle.fj_deck.specs.Deck.{DecksAreSound}
use Rattle.fj_meaning.specs.State.{State, Files, start}
use Rattle.fj_meaning.specs.Statement.{Stated, begun_in, stated, step, Ending, cut}
use Rattle.fj_run_items.specs.Handing.{whole_records}
use Rattle.fj_job.specs.Cut.{Reach, Untold, Told, Carried, reached, MayReach, ComesTo, IsNext, TookBehind}
use Rattle.fj_job.specs.Faulting.{LinesNameStatements, TookThrough, WriteFaultsAreFirst, OneWriteFault}
use Rattle.fj_job.specs.Reply.{Lines}
use Rattle.fj_meaning_turns.proofs.Slots.{same_some}
use Rattle.fj_job.proofs.Closed.{Follows, follows_on, records_follow}
use Rattle.fj_job.proofs.CutTexts.{cut_by, cut_follows, reached_follows, at_hand}

-- ---- lines

rising_above : (xs : List Lined) (above i : ℕ) (x : Lined) → AreRising above xs → slice_get xs i ≡ Some x → above < x.line
rising_above [] above i x r e = cc
rising_above (y ∷ xs) above zero x r e = let same : y ≡ x = same_some e in subst (λ (z : Lined). above < z.line) same r.0
rising_above (y ∷ xs) above (suc i) x r e = let first = r.0 in let more = rising_above xs y.line i x r.1 e in omega (arith, first, more)

one_line : (xs : List Lined) (above i j : ℕ) (x y : Lined) → AreRising above xs → slice_get xs i ≡ Some x → slice_get xs j ≡ Some y → x.line ≡ y.line → i ≡ j
one_line [] above i j x y r e f same = cc
one_line (z ∷ xs) above zero zero x y r e f same = refl
one_line (z ∷ xs) above zero (suc j) x y r e f same =
    let first : z ≡ x = same_some e in
    let more = rising_above xs z.line j y r.1 f in
    absurd (let here : z.line ≡ x.line = ap (λ (l : Lined). l.line) first in omega (arith, more, here, same))
one_line (z ∷ xs) above (suc i) zero x y r e f same =
    let first : z ≡ y = same_some f in
    let more = rising_above xs z.line i x r.1 e in
    absurd (let here : z.line ≡ y.line = ap (λ (l : Lined). l.line) first in omega (arith, more, here, same))
one_line (z ∷ xs) above (suc i) (suc j) x y r e f same = ap suc (one_line xs z.line i j x y r.1 e f same)

pub lines_name : DecksAreSound → LinesNameStatements
lines_name sound text deck is files comes other same =
    let one = at_hand deck files comes comes.index refl in
    let two = at_hand deck files other other.index refl in
    one_line deck.statements 0 comes.index other.index one.0 two.0 (sound text deck is).rising one.1 two.1
    (sym (ap (λ (x : Stated). x.0.line) one.2) ∙ same ∙ ap (λ (x : Stated). x.0.line) two.2)

-- ---- what a sink took

module _ (variables : List Variable) where
  -- behind a statement to which the execution comes it goes on to the later ones
  later_follows : (i j : ℕ) (sts : List Stated) (s : State) (st other : Stated) (before behind : State) → cut variables i sts s ≡ Some (st, before) → cut variables j sts s ≡ Some (other, behind) → i < j
      → ((step variables st before).1 ≡ None) × Follows (step variables st before).0.output behind.output
  later_follows i j [] s st other before behind e f low = cc
  later_follows i zero (x ∷ sts) s st other before behind e f low = absurd (omega (arith, low))
  later_follows zero (suc j) (x ∷ sts) s st other before behind e f low =
      let same : ◌≡◌ {A = Stated × State} (begun_in s x, s) (st, before) = same_some e in
      subst (λ y. ((step variables y.0 y.1).1 ≡ None) × Follows (step variables y.0 y.1).0.output behind.output) same (by (step variables (begun_in s x) s) f)
    where
      by : (done : State × Option Ending) → cut_by variables j sts done.0 done.1 ≡ Some (other, behind) → (done.1 ≡ None) × Follows done.0.output behind.output
      by (next, None) k = (refl, cut_follows variables j sts next other behind k)
      by (next, Some ending) k = absurd (let z : None ≡ Some (other, behind) = k in cc)
  later_follows (suc i) (suc j) (x ∷ sts) s st other before behind e f low =
      by (step variables (begun_in s x) s) (λ g h. later_follows i j sts (step variables (begun_in s x) s).0 st other before behind g h (omega (arith, low))) e f
    where
      by : (done : State × Option Ending)
          → (cut variables i sts done.0 ≡ Some (st, before) → cut variables j sts done.0 ≡ Some (other, behind)
          → ((step variables st before).1 ≡ None) × Follows (step variables st before).0.output behind.output)
          → cut_by variables i sts done.0 done.1 ≡ Some (st, before) → cut_by variables j sts done.0 done.1 ≡ Some (other, behind)
          → ((step variables st before).1 ≡ None) × Follows (step variables st before).0.output behind.output
      by (next, None) later g h = later g h
      by (next, Some ending) later g h = absurd (let z : None ≡ Some (st, before) = g in cc)

not_through : (old new first part rest due more : List ℕ) → rest ≢ [] → due ≡ first ++ (part ++ rest) → new ≡ old ++ (first ++ part) → new ≡ old ++ (due ++ more) → ⊥
not_through old new first part [] due more some is a b = some refl
not_through old new first part (x ∷ rest) due more some is a b =
    omega (
      arith,
      ap length (sym a ∙ b),
      ap length is,
      length-append old (first ++ part),
      length-append first part,
      length-append old (due ++ more),
      length-append due more,
      length-append first (part ++ (x ∷ rest)),
      length-append part (x ∷ rest),
    )

module _ (deck : Deck) (lines : Lines) (files : Files) (old new : List ℕ) where
  -- all records of the statements before
  took_before : (reach : Reach) (comes other : ComesTo deck files) (part : List ℕ) → new ≡ old ++ (whole_records (reached reach deck.variables comes.statement comes.before).output ++ part)
      → other.index < comes.index → TookThrough old new deck files other
  took_before reach comes other part took low =
      let behind = later_follows deck.variables other.index comes.index (stated deck.statements) (start deck.variables files) other.statement comes.statement other.before comes.before other.there comes.there low in
      let more = records_follow _ _ (follows_on _ _ _ behind.1 (reached_follows deck.variables reach comes.statement comes.before)) in (
        more.0 ++ part,
        took ∙ ap (λ w. old ++ (w ++ part)) more.1 ∙ ap (λ w. old ++ w) (append_assoc (whole_records (step deck.variables other.statement other.before).0.output) more.0 part),
      )

  fails_there : (reach : Reach) (comes : ComesTo deck files) (due : List ℕ) → MayReach reach deck.variables comes.statement comes.before → IsNext reach deck lines files comes due
      → TookBehind old new (whole_records (reached reach deck.variables comes.statement comes.before).output) due
      → ((reach ≢ Carried) × (TookThrough old new deck files comes → ⊥)) ⊎ ((reach ≡ Carried) × TookThrough old new deck files comes × IsSome (step deck.variables comes.statement comes.before).1)
  fails_there Untold comes due may next (part, rest, some, is, took) =
      inl ((λ e. cc), (λ through. not_through old new _ part rest due through.0 some is took (through.1 ∙ ap (λ w. old ++ (w ++ through.0)) (sym next))))
  fails_there Told comes due may next (part, rest, some, is, took) =
      inl ((λ e. cc), (λ through. not_through old new _ part rest due through.0 some is took (through.1 ∙ ap (λ w. old ++ (w ++ through.0)) (sym next))))
  fails_there Carried comes due may next (part, rest, some, is, took) = inr (refl, (part, took), may)

pub faults_are_first : WriteFaultsAreFirst
faults_are_first deck lines files old new left before now fault =
    let took = fault.taken tt in (
      (λ comes low. took_before deck lines files old new fault.reach fault.comes comes took.0 took.4 low),
      fails_there deck lines files old new fault.reach fault.comes fault.due fault.may fault.next took,
    )

-- ---- one fault

three : (i j : ℕ) → (i < j) ⊎ (i ≡ j) ⊎ (j < i)
three zero zero = inr (inl refl)
three zero (suc j) = inl (omega arith)
three (suc i) zero = inr (inr (omega arith))
three (suc i) (suc j) = elim (three i j) [
  | inl low ↦ inl (omega (arith, low))
  | inr (inl same) ↦ inr (inl (ap suc same))
  | inr (inr high) ↦ inr (inr (omega (arith, high)))
]

module _ (deck : Deck) (files : Files) (old new : List ℕ) where
  -- as far as a fault there says: not all records of the statement were taken; or they were, and the deck ended at it
  abbrev FailsAt : ComesTo deck files → Type 0 → Type 0
  FailsAt comes Ended =
      ((Ended → ⊥) × (TookThrough old new deck files comes → ⊥)) ⊎ (Ended × TookThrough old new deck files comes × IsSome (step deck.variables comes.statement comes.before).1)

  not_before : (comes other : ComesTo deck files) (Ended : Type 0) → FailsAt comes Ended → TookThrough old new deck files comes → comes.index < other.index → ⊥
  not_before comes other Ended (inl (on, short)) took low = short took
  not_before comes other Ended (inr (ended, whole, some)) took low =
      let behind = later_follows deck.variables comes.index other.index (stated deck.statements) (start deck.variables files) comes.statement other.statement comes.before other.before comes.there other.there low in
      let z : false ≡ true = subst (λ (o : Option Ending). IsSome o) behind.0 some in cc

  same_fault : (comes other : ComesTo deck files) (Ended End : Type 0) → (TookThrough old new deck files comes ↔ TookThrough old new deck files other) → FailsAt comes Ended → FailsAt other End → Ended ↔ End
  same_fault comes other Ended End same (inl (on, short)) (inl (off, less)) = ((λ e. absurd (on e)), (λ e. absurd (off e)))
  same_fault comes other Ended End same (inl (on, short)) (inr (end, took, some)) = absurd (short (same.1 took))
  same_fault comes other Ended End same (inr (ended, took, some)) (inl (off, less)) = absurd (less (same.0 took))
  same_fault comes other Ended End same (inr (ended, took, some)) (inr (end, whole, more)) = ((λ e. end), (λ e. ended))

  -- the same place has the same statement and the same state
  same_took : (comes other : ComesTo deck files) → comes.index ≡ other.index → TookThrough old new deck files comes → TookThrough old new deck files other
  same_took comes other e took =
      let same : ◌≡◌ {A = Stated × State} (comes.statement, comes.before) (other.statement, other.before) =
      same_some (sym comes.there ∙ ap (λ n. cut deck.variables n (stated deck.statements) (start deck.variables files)) e ∙ other.there) in
      subst (λ y. (more : List ℕ) × (new ≡ old ++ (whole_records (step deck.variables y.0 y.1).0.output ++ more))) same took

pub one_fault : OneWriteFault
one_fault deck lines files old new left left' before now before' now' fault other =
    let a = faults_are_first deck lines files old new left before now fault in
    let b = faults_are_first deck lines files old new left' before' now' other in
    elim (three fault.comes.index other.comes.index) [
      | inl low ↦ absurd (not_before deck files old new fault.comes other.comes (fault.reach ≡ Carried) a.1 (b.0 fault.comes low) low)
      | inr (inl same) ↦ (
        same,
        same_fault deck files old new fault.comes other.comes (fault.reach ≡ Carried) (other.reach ≡ Carried)
            (same_took deck files old new fault.comes other.comes same, same_took deck files old new other.comes fault.comes (sym same)) a.1 b.1,
      )
      | inr (inr high) ↦ absurd (not_before deck files old new other.comes fault.comes (other.reach ≡ Carried) b.1 (a.0 other.comes high) high)
    ]
