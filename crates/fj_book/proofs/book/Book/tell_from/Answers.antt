use Rattle.std.proofs.Common.{◌≡◌, ◌+◌, ◌-◌, Bool, ◌++◌, length, take, drop, not, filter, sym, ap, subst, ◌∙◌, arith}
use Rattle.std.proofs.lemmas.List.{take-append-drop}
use Rattle.fj_book.specs.declared.pending.Pending.{Pending}
use Rattle.fj_book.specs.Counting.{AreCounted}
use Rattle.fj_book.specs.Entries.{is_of, is_told}
use Rattle.fj_book.proofs.SiftLemmas.{turned_back, left_from, kept_from, counted_turned}
use Rattle.fj_book.proofs.book.Book.tell_from.Goals as goal
use Rattle.fj_book.proofs.book.Book.tell_from.Goals.{After-sift}

-- those that are left
abbrev left_is : (c : After-sift) → c.sift.new.entries.items ≡ filter (λ e. not (is_told c.args.unit c.args.first.0 e)) c.self.inside.entries.items
left_is c =
    let es = c.self.inside.entries.items in
    let at = c.below-at.result in
    let n = c.len.result - at in
    let left : Pending → Bool = λ e. not (is_of c.args.unit e) in
    let all : n + at ≡ length es = omega (arith, c.len.ensures, c.self.inside.entries.ok, c.below-at.ensures.bound) in
    c.sift.ensures.left ∙ ap (λ l. drop n l ++ filter left (take n l)) c.rotate_left.ensures.items ∙ turned_back left es at n all
    ∙ left_from c.args.unit c.from.result at es c.below-at.ensures.parted
    ∙ ap (λ t. filter (λ e. not (is_told c.args.unit t e)) es) c.from.ensures

pub returns : goal.returns
returns c = left_is c ∙ ap (filter (λ e. not (is_told c.args.unit c.args.first.0 e))) c.self.view_is

pub invariant_of-self : goal.invariant_of-self
invariant_of-self c =
    let es = c.self.inside.entries.items in
    let at = c.below-at.result in
    let inputs = c.self.inside.inputs in
    let outputs = c.self.inside.outputs in
    let whole : AreCounted (take at es ++ drop at es) inputs outputs = subst (λ l. AreCounted l inputs outputs) (sym (take-append-drop at es)) (c.self.invariant.inputs_counted, c.self.invariant.outputs_counted) in
    let turned : AreCounted c.rotate_left.new.self.items inputs outputs = subst (λ l. AreCounted l inputs outputs) (sym c.rotate_left.ensures.items) (counted_turned (take at es) (drop at es) inputs outputs whole) in
    kept_from c.args.unit c.args.first.0 es c.sift.new.entries.items c.sift.new.inputs c.sift.new.outputs c.self.invariant.ascending (left_is c) (c.sift.ensures.counted turned)
