use Rattle.std.proofs.Common.{◌≡◌, length, min, sym, subst, ap, ◌∙◌}
use Rattle.fj_format.specs.declared.item.FormatItem.{FormatItem}
use Rattle.fj_format.specs.Unfolding.{written_out}
use Rattle.fj_format.proofs.UnfoldingLaws.{written_out-Unlimited}
use Rattle.fj_format.proofs.Counts.{field_count, slash_count, group_count, counts_more}
use Rattle.fj_format.proofs.count.+count.Goals as goal

pub item_count-returns-in-Field : goal.item_count-returns-in-Field
item_count-returns-in-Field t c =
    subst (λ (x : FormatItem). c.repeated_count.result ≡ min (length (written_out x)) 1000001) (sym c.in-Field.is)
    (field_count c.repeated_count.result c.in-Field.r c.in-Field.edit c.repeated_count.ensures)

pub item_count-returns-in-Slash : goal.item_count-returns-in-Slash
item_count-returns-in-Slash t c =
    subst (λ (x : FormatItem). c.repeated_count-in-Slash.result ≡ min (length (written_out x)) 1000001) (sym c.in-Slash.is)
    (slash_count c.repeated_count-in-Slash.result c.in-Slash.n c.repeated_count-in-Slash.ensures)

pub item_count-returns-in-Group : goal.item_count-returns-in-Group
item_count-returns-in-Group t c =
    subst (λ (x : FormatItem). c.repeated_count-in-Group.result ≡ min (length (written_out x)) 1000001) (sym c.in-Group.is)
    (group_count c.repeated_count-in-Group.result c.pass_count.result c.in-Group.r c.in-Group.items c.pass_count.ensures c.repeated_count-in-Group.ensures)

pub pass_count-loop-item-preserved : goal.pass_count-loop-item-preserved
pass_count-loop-item-preserved t c =
    counts_more c.as_slice-item-items.result.now c.loop-item.item-index c.item-item.result c.loop-item.count c.item_count-more.result c.min-count.result
    c.loop-item-test.true c.item-item.is c.loop-item.invariant c.item_count-more.ensures c.min-count.ensures

pub item_count-returns-in-Unlimited : goal.item_count-returns-in-Unlimited
item_count-returns-in-Unlimited t c =
    c.pass_count-in-Unlimited.ensures ∙ sym (ap (λ l. min (length l) 1000001) (ap written_out c.in-Unlimited.is ∙ written_out-Unlimited c.in-Unlimited.items))
