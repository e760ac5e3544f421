use Rattle.std.proofs.Common.{◌≡◌, ◌<◌, ◌≤◌, ◌+◌, not, true, false, Bool, List, [], ◌∷◌, ◌++◌, length, take, get_or, refl, sym, ap, ◌∙◌, arith}
use Rattle.std.specs.Prelude.{filter}
use Rattle.std.specs.VecDeque.{deque_capacity}
use Rattle.std.proofs.lemmas.Bool.{eq-eqb, ne_eqb}
use Rattle.fj_book.proofs.SiftLemmas.{never_empty, passes, fails, popped_is, goes_behind, leaves}
use Rattle.fj_run_pending.specs.declared.held.Held.{Held}
use Rattle.fj_run_pending.specs.declared.pick.Pick.TheVariants.{OfUnit}
use Rattle.fj_run_pending.specs.Waits.{picks}
use Rattle.fj_run_pending.proofs.Parting.{prefix_low, has_room}
use Rattle.fj_run_pending.proofs.removal.part.Goals as goal
use Rattle.fj_run_pending.proofs.removal.part.Goals.{In_default, then-held-unit, else-held-unit}

empty : (hs : List Held) → length hs ≡ 0 → hs ≡ []
empty [] e = refl
empty (h ∷ hs) e = absurd (omega (arith, e))

-- so many are there
abbrev never : (c : In_default) → ⊥
never c =
    let other : Held → Bool = λ h. not (picks (OfUnit c.args.unit) h) in
    let xs = c.args.helds.now.items in
    let low : c.loop.counter < length xs = omega (arith, c.loop-test.true, c.requires.count) in
    let none : length c.loop.helds.items ≡ 0 = omega (arith, c.loop.helds.ok, c.in_default.ensures.cases) in
    never_empty xs (filter other (take c.loop.counter xs)) c.loop.counter low (sym c.loop.invariant.left ∙ empty c.loop.helds.items none)

pub returns-in_default-clause-told : goal.returns-in_default-clause-told
returns-in_default-clause-told c = absurd (never c)

pub returns-in_default-clause-left : goal.returns-in_default-clause-left
returns-in_default-clause-left c = absurd (never c)

pub push_back_reserved-requires : goal.push_back_reserved-requires
push_back_reserved-requires c =
    let own : Held → Bool = picks (OfUnit c.args.unit) in
    let other : Held → Bool = λ h. not (picks (OfUnit c.args.unit) h) in
    let xs = c.args.helds.now.items in
    let i = c.loop.counter in
    let e = c.in-Some.held in
    let low : i < length xs = omega (arith, c.loop-test.true, c.requires.count) in
    let far : i + 1 ≤ c.args.count = omega (arith, c.loop-test.true) in
    let is : e ≡ get_or xs i e = popped_is other xs c.loop.helds.items c.pop_front.new.self.items i e low c.loop.invariant.left c.in-Some.ensures.items in
    let yes : own e ≡ true = eq-eqb e.unit c.args.unit c.if-held-unit.true in
    let room : length (filter own (take i xs)) < deque_capacity c.args.told.now = has_room (filter own (take i xs)) e (filter own (take (i + 1) xs)) (filter own (take c.args.count xs)) (deque_capacity c.args.told.now)
    (passes own xs i e low is yes) (prefix_low own xs (i + 1) c.args.count far) c.requires.room in
    omega (arith, room, ap length c.loop.invariant.told, c.loop.told.ok, c.loop.invariant.room)

pub loop-preserved : goal.loop-preserved
loop-preserved c =
    let own : Held → Bool = picks (OfUnit c.args.unit) in
    let other : Held → Bool = λ h. not (picks (OfUnit c.args.unit) h) in
    let xs = c.args.helds.now.items in
    let now = c.loop.helds.items in
    let next = c.pop_front.new.self.items in
    let i = c.loop.counter in
    let e = c.in-Some.held in
    let low : i < length xs = omega (arith, c.loop-test.true, c.requires.count) in
    let popped : now ≡ e ∷ next = c.in-Some.ensures.items in
    let is : e ≡ get_or xs i e = popped_is other xs now next i e low c.loop.invariant.left popped in
    elim c.if-held-unit.branch [
      | then-held-unit w ↦
          let yes : own e ≡ true = eq-eqb e.unit c.args.unit w.if-held-unit.true in
          record {
            told = ap (λ d. d.items) w.told-is ∙ w.push_back_reserved.ensures.items ∙ ap (λ l. l ++ e ∷ []) c.loop.invariant.told ∙ sym (passes own xs i e low is yes);
            left = ap (λ d. d.items) w.helds-is ∙ leaves other xs now next i e low c.loop.invariant.left popped (ap not yes);
            room = ap (λ d. deque_capacity d) w.told-is ∙ w.push_back_reserved.ensures.capacity ∙ c.loop.invariant.room;
          }
      | else-held-unit w ↦
          let not_own : own e ≡ false = ne_eqb e.unit c.args.unit w.if-held-unit.false in
          record {
            told = ap (λ d. d.items) w.told-is ∙ c.loop.invariant.told ∙ sym (fails own xs i e low is not_own);
            left = ap (λ d. d.items) w.helds-is ∙ w.push_back_reserved-else-held-unit.ensures.items ∙ goes_behind other xs now next i e low c.loop.invariant.left popped (ap not not_own);
            room = ap (λ d. deque_capacity d) w.told-is ∙ c.loop.invariant.room;
          }
    ]
