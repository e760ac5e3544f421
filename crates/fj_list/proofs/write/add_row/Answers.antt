use Rattle.std.proofs.Common.{◌≡◌, ◌≤◌, ◌+◌, ◌++◌, ◌&&◌, ◌==◌, length, take, flat_map, sym, ap, ◌∙◌, arith, length-append, length-drop}
use Rattle.std.proofs.lemmas.Grind.{common_steps}
use Rattle.std.proofs.lemmas.List.{length-take-le}
use Rattle.fj_line.specs.Actions.{carried_out}
use Rattle.fj_line.specs.Page.{at_hand}
use Rattle.fj_list.specs.Listing.{behind_blank, texts_behind}
use Rattle.fj_list.proofs.Rows.{row_behind, row_done}
use Rattle.fj_list.proofs.write.add_row.Goals as goal

pub returns-in-Ok-clause-done : goal.returns-in-Ok-clause-done
returns-in-Ok-clause-done c = λ characters more.
    let page = c.args.page.now in
    let old = c.args.text.now in
    let modes = c.args.modes in
    let count = c.write_integers-count.result.0 in
    let f = behind_blank modes in
    let vs = take count c.args.values.now in
    let new = at_hand c.take_in.new.self c.push_all.new.self in
    let written = c.write_integers-count.ensures.written in
    let text : c.push_all.new.self ≡ old ++ flat_map f vs = c.in_ok-push_all.ensures.ok ∙ ap (λ l. old ++ l) written in
    let size : length (flat_map f vs) ≡ c.write_integers-count.result.1 = ap length (sym written) ∙ length-take-le c.write_integers-count.result.1 c.write_integers-count.new.row (grind arith) in
    let room : page.at + length (flat_map f vs) ≤ 80 = grind (arith, common_steps, size) in
    let at : page.at + length (flat_map f vs) ≡ c.take_in.new.self.at = omega (arith, c.in-Ok.ensures.at, ap length text, length-append old (flat_map f vs), c.requires.at) in
    let all : length vs ≡ count = length-take-le count c.args.values.now c.write_integers-count.ensures.few in
    ap (carried_out (at_hand page old)) (row_behind modes characters vs more page.at c.write_integers-count.ensures.plain room)
    ∙ row_done f vs (at_hand page old) new (omega (arith, c.requires.at, length-drop page.line old)) (c.in-Ok.ensures.done old (flat_map f vs) text c.requires)
    (texts_behind modes (page.at + length (flat_map f vs)) (characters && (length vs == 0)) more)
    ∙ ap (λ n. carried_out new (texts_behind modes n (characters && (length vs == 0)) more)) at
    ∙ ap (λ n. carried_out new (texts_behind modes c.take_in.new.self.at (characters && (n == 0)) more)) all
