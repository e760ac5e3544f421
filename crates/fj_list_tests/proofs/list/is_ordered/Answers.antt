use Rattle.std.proofs.Common.{◌<◌, ◌≤◌, List, ℕ, All, length, get_or, ap, subst, arith}
use Rattle.std.proofs.lemmas.List.{take_all}
use Rattle.std.proofs.lemmas.List.Elements.{All-more}
use Rattle.fj_list_tests.proofs.list.is_ordered.Goals as goal

pub loop-at-preserved : goal.loop-at-preserved
loop-at-preserved c =
    let order = c.args.moved.now.order in
    let i = c.loop-at.at-index in
    let same = c.as_slice-at-items.ensures in
    let inside : i < length order = omega (arith, ap (λ (l : List ℕ). length l) same) in
    let low : get_or order i 0 < length c.args.moved.now.cells = omega (arith, ap (λ (l : List ℕ). get_or l i 0) same) in
    All-more (λ at. at < length c.args.moved.now.cells) order i 0 inside c.loop-at.invariant low

pub returns : goal.returns
returns c = λ _.
    let order = c.args.moved.now.order in
    let past : length order ≤ c.loop-at.at-index = omega (arith, ap (λ (l : List ℕ). length l) c.as_slice-at-items.ensures) in
    subst (λ (l : List ℕ). All (λ at. at < length c.args.moved.now.cells) l) (take_all c.loop-at.at-index order past) c.loop-at.invariant
