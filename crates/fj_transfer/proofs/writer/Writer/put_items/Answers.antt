use Rattle.std.proofs.Common.{◌≡◌, ◌-◌, ◌≤◌, ◌++◌, ◌∷◌, replicate, ap, ◌∙◌, arith}
use Rattle.std.proofs.lemmas.Result.{err_from_is_err_and}
use Rattle.fj_format.specs.Unfolding as step
use Rattle.fj_line.specs.Actions.{carried_out}
use Rattle.fj_line.specs.Page.{at_hand}
use Rattle.fj_line.proofs.Carrying.{kept_on}
use Rattle.fj_control.specs.Steps.{Given, gives}
use Rattle.fj_transfer.specs.Writing.{actions_left, texts_left}
use Rattle.fj_transfer.proofs.RowLemmas.{run_cut}
use Rattle.fj_transfer.proofs.WriterLemmas.{first_stops}
use Rattle.fj_transfer.proofs.writer.Writer.put_items.Goals as goal

pub loop-left-preserved-then-row-gt0 : goal.loop-left-preserved-then-row-gt0
loop-left-preserved-then-row-gt0 c =
    let l = c.loop-left in
    let g : Given = gives (step.edit c.args.edit) in
    let row = c.in_ok-row.row in
    record {
      within = c.put_row.ensures.within;
      kept = kept_on _ _ _ _ _ _ l.invariant.kept c.put_row.ensures.kept;
      few = omega (arith, l.invariant.few);
      items = omega (arith, l.invariant.items, c.in_ok-row.ensures.left, c.in_ok-row.ensures.few);
      same = λ more. l.invariant.same more ∙ ap (λ gs. carried_out (at_hand l.self.page l.text) (actions_left l.self gs)) (run_cut g row l.left more c.in_ok-row.ensures.few) ∙ c.in_ok-row.ensures.done (replicate (l.left - row) g ++ more);
      texts = λ more. l.invariant.texts more ∙ ap (texts_left l.text l.self) (run_cut g row l.left more c.in_ok-row.ensures.few) ∙ c.in_ok-row.ensures.texts (replicate (l.left - row) g ++ more);
    }

pub returns-in_err-put_item-clause-done : goal.returns-in_err-put_item-clause-done
returns-in_err-put_item-clause-done c = λ more.
    let p = err_from_is_err_and c.from_residual-in_err-put_item.result c.from_residual-in_err-put_item.ensures.1 in
    let l = c.loop-left in
    let g : Given = gives (step.edit c.args.edit) in
    let here = at_hand l.self.page l.text in
    let none : 0 ≡ c.in_ok-row.row = omega (arith, c.if-row-gt0.false) in
    let all = replicate l.left g ++ more in
    rw (p.1, p.2) (first_stops (at_hand c.args.self.now.page c.args.text.now) (at_hand c.put_row.new.self.page c.put_row.new.text) (at_hand c.put_item.new.self.page c.put_item.new.text) (actions_left c.args.self.now (replicate c.args.count g ++ more))
    (actions_left c.put_row.new.self (g ∷ (replicate (l.left - 1) g ++ more))) (actions_left c.put_item.new.self (replicate (l.left - 1) g ++ more)) (actions_left c.put_item.new.self more) c.in_err-put_item.field-0.0
    (l.invariant.same more ∙ ap (λ n. carried_out here (actions_left l.self (replicate n g ++ all))) none ∙ c.in_ok-row.ensures.done all
    ∙ ap (λ gs. carried_out (at_hand c.put_row.new.self.page c.put_row.new.text) (actions_left c.put_row.new.self gs)) (run_cut g 1 l.left more (omega (arith, c.loop-left-test.true))))
    (c.in_err-put_item.ensures.done (replicate (l.left - 1) g ++ more)))

pub loop-left-preserved : goal.loop-left-preserved
loop-left-preserved c =
    let l = c.loop-left in
    let g : Given = gives (step.edit c.args.edit) in
    let none : 0 ≡ c.in_ok-row.row = omega (arith, c.if-row-gt0.false) in
    let some : 1 ≤ l.left = omega (arith, c.loop-left-test.true) in
    let row = c.put_row.new in
    record {
      within = c.in_ok-put_item.ensures.within;
      kept = kept_on _ _ _ _ _ _ (kept_on _ _ _ _ _ _ l.invariant.kept c.put_row.ensures.kept) c.put_item.ensures.kept;
      few = omega (arith, l.invariant.few);
      items = grind (arith, l.invariant.items, c.in_ok-row.ensures.left, c.in_ok-put_item.ensures.left, none);
      same = λ more.
          let all = replicate l.left g ++ more in
          l.invariant.same more ∙ ap (λ n. carried_out (at_hand l.self.page l.text) (actions_left l.self (replicate n g ++ all))) none ∙ c.in_ok-row.ensures.done all
          ∙ ap (λ gs. carried_out (at_hand row.self.page row.text) (actions_left row.self gs)) (run_cut g 1 l.left more some) ∙ c.in_ok-put_item.ensures.done (replicate (l.left - 1) g ++ more);
      texts = λ more.
          let all = replicate l.left g ++ more in
          l.invariant.texts more ∙ ap (λ n. texts_left l.text l.self (replicate n g ++ all)) none ∙ c.in_ok-row.ensures.texts all
          ∙ ap (texts_left row.text row.self) (run_cut g 1 l.left more some) ∙ c.in_ok-put_item.ensures.texts (replicate (l.left - 1) g ++ more);
    }
