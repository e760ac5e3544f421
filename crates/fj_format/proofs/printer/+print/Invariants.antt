use Rattle.std.proofs.Common.{◌≡◌, ◌++◌, take, map}
use Rattle.std.specs.List.{join_with_byte}
use Rattle.fj_format.specs.Printing.{item_text}
use Rattle.fj_format.proofs.printer.+print.Given as goal

abbrev pub invariant-push_items-loop-i : goal.invariant-push_items-loop-i
invariant-push_items-loop-i l = l.text ≡ l.initial.text ++ join_with_byte 44 (map item_text (take l.i l.item-items))
