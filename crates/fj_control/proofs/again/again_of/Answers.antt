use Rattle.std.proofs.Common.{◌∙◌, sym, subst, ◌≤◌, arith}
use Rattle.fj_format.specs.Unfolding.{height}
use Rattle.fj_control.proofs.Reversion.{again_found, height-again}
use Rattle.fj_control.proofs.again.again_of.Goals as goal

pub returns-then-is_group_item-clause-items : goal.returns-then-is_group_item-clause-items
returns-then-is_group_item-clause-items c =
    again_found c.loop-i.i c.args.items.now c.index-items-i.result (omega arith) (omega arith) c.index-items-i.is c.loop-i.invariant (sym c.is_group_item.ensures ∙ c.if-is_group_item.true)

pub returns-then-is_group_item-clause-low : goal.returns-then-is_group_item-clause-low
returns-then-is_group_item-clause-low c =
    subst (λ xs. height xs ≤ height c.args.items.now)
    (sym (again_found c.loop-i.i c.args.items.now c.index-items-i.result (omega arith) (omega arith) c.index-items-i.is c.loop-i.invariant (sym c.is_group_item.ensures ∙ c.if-is_group_item.true)))
    (height-again c.args.items.now)
