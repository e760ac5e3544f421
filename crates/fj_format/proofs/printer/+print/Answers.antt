use Rattle.fj_format.proofs.Texts.{items_more}
use Rattle.fj_format.proofs.printer.+print.Goals as goal

pub push_items-loop-i-preserved : goal.push_items-loop-i-preserved
push_items-loop-i-preserved t c =
    items_more c.as_slice-item-items.result.now c.loop-i.i c.item-item.result c.push_all.new.self c.loop-i.text c.push_separator.new.text c.push_item.new.text
    c.loop-i-test.true c.item-item.is c.loop-i.invariant c.in_ok-push_separator.ensures c.in_ok-push_item.ensures
