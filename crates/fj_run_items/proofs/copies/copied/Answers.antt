use Rattle.std.proofs.Common.{arith, ◌∙◌}
use Rattle.fj_store.specs.Pieces.{cells_in}
use Rattle.fj_run_items.proofs.Finds.{length-cells, numbered, run_numbered}
use Rattle.fj_run_items.proofs.Gathers.{moved_is, alone_is}
use Rattle.fj_run_items.proofs.copies.copied.Goals as goal

pub returns-clause-moved : goal.returns-clause-moved
returns-clause-moved c = moved_is c.args.variables.now c.args.store.now c.args.t.now c.in_ok-gathered.gathered c.in_ok-moved.moved c.requires c.in_ok-gathered.ensures.gathered c.in_ok-moved.ensures.moved

pub returns-clause-numbered : goal.returns-clause-numbered
returns-clause-numbered c =
    let size = c.in_ok-gathered.ensures.gathered.size in
    let cells = length-cells c.args.store.now 1 c.in_ok-gathered.gathered.pieces.items in
    numbered (cells_in c.args.store.now c.in_ok-gathered.gathered.pieces.items) c.in_ok-moved.moved c.in_ok-moved.ensures.moved (omega (arith, size, cells))

pub returns-in-Some-clause-moved : goal.returns-in-Some-clause-moved
returns-in-Some-clause-moved c = c.in_ok-copy_of_run.ensures.moved ∙ alone_is c.args.variables.now c.args.store.now c.args.t.now c.in-Some.run' c.requires c.in-Some.ensures

pub returns-in-Some-clause-numbered : goal.returns-in-Some-clause-numbered
returns-in-Some-clause-numbered c = run_numbered c.args.store.now c.in-Some.run' c.in_ok-copy_of_run.field-0 c.in_ok-copy_of_run.ensures.moved (omega arith)
