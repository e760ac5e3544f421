use Rattle.std.proofs.Common.{◌≡◌, ◌+◌, ◌++◌, None, length, take, drop, ap, ◌∙◌, arith, ℕ, ℤ, List, length-drop}
use Rattle.std.proofs.Math.Seq.{take-length}
use Rattle.fj_line.specs.Actions.{carried_out}
use Rattle.fj_line.specs.Page.{at_hand}
use Rattle.fj_line.specs.Records.{texts_from}
use Rattle.fj_edit_out.specs.Item.{integers_in}
use Rattle.fj_edit_out.specs.OutputField.{integer_field}
use Rattle.fj_transfer.specs.Writing.{row_of}
use Rattle.fj_list.proofs.Rows.{row_done, row_texts}
use Rattle.fj_transfer.proofs.run.add_row.Goals as goal

-- the position is behind the last character
at_end : (line at : ℕ) (text : List ℕ) → line + at ≡ length text → at ≡ length (drop line text)
at_end line at text e = omega (arith, e, length-drop line text)

pub returns-in-Ok-clause-done : goal.returns-in-Ok-clause-done
returns-in-Ok-clause-done c = λ more.
    let page = c.args.page.now in
    let old = c.args.text.now in
    let all = integers_in c.args.kind c.args.values.now in
    let f : ℤ → List ℕ = integer_field c.args.plus (c.args.w, None) in
    let whole : take c.in_ok-count.count all ≡ all = ap (λ n. take n all) c.in_ok-count.ensures.count ∙ take-length all in
    ap (λ ns. carried_out (at_hand page old) (row_of c.args.plus c.args.w ns ++ more)) whole
    ∙ row_done f all (at_hand page old) (at_hand c.take_in.new.self c.integer_fields.new.out) (at_end page.line page.at old c.requires.end.at) (c.in-Ok.ensures.done old _ c.in_ok-count.ensures.ok c.requires.end) more

pub returns-in-Ok-clause-texts : goal.returns-in-Ok-clause-texts
returns-in-Ok-clause-texts c = λ more.
    let page = c.args.page.now in
    let old = c.args.text.now in
    let all = integers_in c.args.kind c.args.values.now in
    let f : ℤ → List ℕ = integer_field c.args.plus (c.args.w, None) in
    let whole : take c.in_ok-count.count all ≡ all = ap (λ n. take n all) c.in_ok-count.ensures.count ∙ take-length all in
    ap (λ ns. texts_from (at_hand page old).line (row_of c.args.plus c.args.w ns ++ more)) whole
    ∙ row_texts f all (at_hand page old) (at_hand c.take_in.new.self c.integer_fields.new.out) (at_end page.line page.at old c.requires.end.at) (c.in-Ok.ensures.done old _ c.in_ok-count.ensures.ok c.requires.end) more
