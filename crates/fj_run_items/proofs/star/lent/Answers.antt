use Rattle.std.proofs.Common.{◌≡◌, subst}
use Rattle.std.specs.Prelude.{IfSome}
use Rattle.fj_moved.specs.declared.moved.Moved.{Moved}
use Rattle.fj_run_items.proofs.Gathers.{alone_is}
use Rattle.fj_run_items.proofs.star.lent.Goals as goal

pub returns-clause-moved : goal.returns-clause-moved
returns-clause-moved c =
    let P : Moved → Type 0 = λ m. IfSome c.row.result (λ row. row ≡ m) in
    subst P (alone_is c.args.variables.now c.args.store.now c.args.t.now c.in_ok-run.run' c.requires c.in_ok-run.ensures) c.row.ensures.some
