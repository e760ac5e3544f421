use Rattle.std.proofs.Common.{◌∙◌}
use Rattle.fj_run_items.proofs.Takes.{place_alone, size_cell}
use Rattle.fj_run_items.proofs.copies.size_copied.Goals as goal

pub returns-clause-moved : goal.returns-clause-moved
returns-clause-moved c =
    size_cell c.args.variables.now c.args.store.now c.args.size c.in-Some.place c.in_ok-moved.moved c.in-Some.is c.requires
    (c.in_ok-moved.ensures.moved ∙ place_alone c.args.store.now c.of_place.result c.in-Some.place c.in_ok-load.load c.of_place.ensures c.in_ok-load.ensures.moved)
