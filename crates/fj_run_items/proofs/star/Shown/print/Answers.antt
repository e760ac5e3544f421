use Rattle.std.proofs.Common.{ap, subst, sym}
use Rattle.fj_moved.specs.declared.moved.Moved.{Moved}
use Rattle.fj_transfer.specs.Printing.{actions_by, control_of, printed_by}
use Rattle.fj_transfer.specs.Writing.{Prints}
use Rattle.fj_run_items.specs.Shown.{IsShownBy, shown_cells}
use Rattle.fj_run_items.specs.declared.star.Shown.{Shown}
use Rattle.fj_run_items.proofs.star.Shown.print.Goals as goal

pub print_items_onto-requires : goal.print_items_onto-requires
print_items_onto-requires c = let P : Shown → Type 0 = λ s. IsShownBy c.args.layout.now s in subst P c.in-Lent.is c.requires

pub print_onto-requires-clause-records : goal.print_onto-requires-clause-records
print_onto-requires-clause-records c = let P : Shown → Type 0 = λ s. IsShownBy c.args.layout.now s in (subst P c.in-Copied.is c.requires).0

pub print_onto-requires-clause-grouped : goal.print_onto-requires-clause-grouped
print_onto-requires-clause-grouped c = let P : Shown → Type 0 = λ s. IsShownBy c.args.layout.now s in (subst P c.in-Copied.is c.requires).1

pub returns-in-Lent : goal.returns-in-Lent
returns-in-Lent c =
    let P : Moved → Type 0 = λ m. Prints c.args.begun (printed_by 65536 c.args.begun (actions_by c.args.layout.now (control_of c.args.layout.now) c.args.modes c.args.advance m)) c.args.out.now c.print_items_onto.result c.print_items_onto.new.out in
    subst P (sym (ap shown_cells c.in-Lent.is)) (c.print_items_onto.ensures c.in-Lent.row (sym c.items.ensures))

pub returns-in-Copied : goal.returns-in-Copied
returns-in-Copied c =
    let P : Moved → Type 0 = λ m. Prints c.args.begun (printed_by 65536 c.args.begun (actions_by c.args.layout.now (control_of c.args.layout.now) c.args.modes c.args.advance m)) c.args.out.now c.print_onto.result c.print_onto.new.out in
    subst P (sym (ap shown_cells c.in-Copied.is)) c.print_onto.ensures
