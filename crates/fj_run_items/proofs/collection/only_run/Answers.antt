use Rattle.std.proofs.Common.{refl, sym, subst}
use Rattle.fj_statement.specs.declared.statement.Operand.{Operand}
use Rattle.fj_store.specs.declared.piece.Piece.TheVariants.{Places}
use Rattle.fj_run_items.specs.Gathering.{IsPiece}
use Rattle.fj_run_items.proofs.Gathers.{alone}
use Rattle.fj_run_items.proofs.collection.only_run.Goals as goal

pub returns-in-One : goal.returns-in-One
returns-in-One c =
    let P : Operand → Type 0 = λ x. IsPiece c.args.variables.now x (Places c.of_place.result) in
    alone c.args.variables.now c.args.t.now c.as_slice-items.result.now c.index-items-0.result c.of_place.result c.as_slice-items.ensures c.if-items-ne1.false c.index-items-0.is
    (c.is_of_group.ensures c.if-is_of_group.false) (subst P (sym c.in-One.is) (c.of_place.result, refl, c.of_place.ensures))

pub returns-in-Whole : goal.returns-in-Whole
returns-in-Whole c =
    let P : Operand → Type 0 = λ x. IsPiece c.args.variables.now x (Places c.whole.result) in
    alone c.args.variables.now c.args.t.now c.as_slice-items.result.now c.index-items-0.result c.whole.result c.as_slice-items.ensures c.if-items-ne1.false c.index-items-0.is
    (c.is_of_group.ensures c.if-is_of_group.false) (subst P (sym c.in-Whole.is) (c.whole.result, refl, c.whole.ensures))
