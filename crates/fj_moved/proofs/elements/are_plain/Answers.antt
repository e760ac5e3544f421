use Rattle.std.proofs.Common.{◌≡◌, take, sym, ap, ◌∙◌, arith}
use Rattle.std.specs.List.{list_all}
use Rattle.std.proofs.lemmas.List.{take_all}
use Rattle.fj_moved.proofs.elements.are_plain.Goals as goal

pub returns : goal.returns
returns g c =
    let l = c.loop-item in
    let items = c.args.items.now in
    let all : take l.item-index items ≡ items = take_all l.item-index items (omega arith) in
    sym (ap (list_all g.T.Element.plain) (sym all) ∙ l.invariant)
