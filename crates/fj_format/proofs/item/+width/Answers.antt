use Rattle.std.proofs.Common.{Bool, sym, ap, ◌∙◌}
use Rattle.fj_format.specs.declared.item.FormatItem.TheFolds.{fold-FormatItem}
use Rattle.fj_format.specs.Unfolding.{unbounded_step}
use Rattle.fj_format.proofs.UnfoldingLaws.{has_width_zero-Group, has_width_zero-Unlimited}
use Rattle.fj_format.proofs.item.+width.Goals as goal

pub item_has_width_zero-returns-in-Group : goal.item_has_width_zero-returns-in-Group
item_has_width_zero-returns-in-Group t c =
    c.has_width_zero.ensures ∙ sym (has_width_zero-Group c.in-Group.r c.in-Group.items) ∙ ap (fold-FormatItem Bool unbounded_step) (sym c.in-Group.is)

pub item_has_width_zero-returns-in-Unlimited : goal.item_has_width_zero-returns-in-Unlimited
item_has_width_zero-returns-in-Unlimited t c =
    c.has_width_zero-in-Unlimited.ensures ∙ sym (has_width_zero-Unlimited c.in-Unlimited.items) ∙ ap (fold-FormatItem Bool unbounded_step) (sym c.in-Unlimited.is)
