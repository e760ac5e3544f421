use Rattle.std.proofs.Common.{◌≡◌, ◌<◌, ◌++◌, not, false, true, List, [], ◌∷◌, length, take, filter, Bool, sym, ap, subst, ◌∙◌, refl, arith}
use Rattle.fj_book.specs.declared.pending.Pending.{Pending}
use Rattle.fj_book.specs.Counting.{AreCounted}
use Rattle.fj_book.specs.Entries.{is_of}
use Rattle.fj_book.proofs.SiftLemmas.{never_empty, goes_behind, leaves, counted_as, counted_turned}
use Rattle.fj_book.proofs.book.sift.Goals as goal
use Rattle.fj_book.proofs.book.sift.Goals.{then-is_of, else-is_of}

pub returns-in_default-clause-left : goal.returns-in_default-clause-left
returns-in_default-clause-left c =
    let left : Pending → Bool = λ e. not (is_of c.args.unit e) in
    let xs = c.args.entries.now.items in
    let low : c.loop.counter < length xs = omega (arith, c.loop-test.true, c.requires) in
    let none : length c.loop.entries.items ≡ 0 = omega (arith, c.loop.entries.ok, c.in_default.ensures.cases) in
    absurd (never_empty xs (filter left (take c.loop.counter xs)) c.loop.counter low (sym c.loop.invariant.left ∙ empty c.loop.entries.items none))
  where
    empty : (es : List Pending) → length es ≡ 0 → es ≡ []
    empty [] e = refl
    empty (x ∷ es) e = absurd (omega (arith, e))

pub loop-preserved : goal.loop-preserved
loop-preserved c =
    let left : Pending → Bool = λ e. not (is_of c.args.unit e) in
    let xs = c.args.entries.now.items in
    let i = c.loop.counter in
    let e = c.in-Some.entry in
    let next = c.pop_front.new.self.items in
    let low : i < length xs = omega (arith, c.loop-test.true, c.requires) in
    let popped : c.loop.entries.items ≡ e ∷ next = c.in-Some.ensures.items in
    elim c.if-is_of.branch [
      | then-is_of w ↦
          let gone : left e ≡ false = ap not (sym c.is_of.ensures ∙ w.if-is_of.true) in
          record {
            left = ap (λ d. d.items) w.entries-is ∙ leaves left xs c.loop.entries.items next i e low c.loop.invariant.left popped gone;
            counted = λ before. counted_as next c.if-is_of.entries.items w.count_off.new.inputs c.if-is_of.inputs w.count_off.new.outputs c.if-is_of.outputs (ap (λ d. d.items) w.entries-is) w.inputs-is w.outputs-is
                (w.count_off.ensures (e ∷ next) 0 (omega arith) (omega (arith, ap length popped, c.loop.entries.ok, c.loop.entries.small)) (λ d. refl) (subst (λ l. AreCounted l c.loop.inputs c.loop.outputs) popped (c.loop.invariant.counted before)));
          }
      | else-is_of w ↦
          let stays : left e ≡ true = ap not (sym c.is_of.ensures ∙ w.if-is_of.false) in
          record {
            left = ap (λ d. d.items) w.entries-is ∙ w.push_back_reserved.ensures.items ∙ goes_behind left xs c.loop.entries.items next i e low c.loop.invariant.left popped stays;
            counted = λ before. counted_as (next ++ e ∷ []) c.if-is_of.entries.items c.loop.inputs c.if-is_of.inputs c.loop.outputs c.if-is_of.outputs
                (ap (λ d. d.items) w.entries-is ∙ w.push_back_reserved.ensures.items) w.inputs-is w.outputs-is
                (counted_turned (e ∷ []) next c.loop.inputs c.loop.outputs (subst (λ l. AreCounted l c.loop.inputs c.loop.outputs) popped (c.loop.invariant.counted before)));
          }
    ]
