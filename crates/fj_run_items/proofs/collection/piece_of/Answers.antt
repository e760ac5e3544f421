use Rattle.std.proofs.Common.{refl, sym, subst}
use Rattle.fj_statement.specs.declared.statement.Operand.{Operand}
use Rattle.fj_store.specs.declared.piece.Piece.TheVariants.{Places}
use Rattle.fj_run_items.specs.Gathering.{IsPiece}
use Rattle.fj_run_items.proofs.collection.piece_of.Goals as goal

pub returns-in-One : goal.returns-in-One
returns-in-One c =
    let P : Operand → Type 0 = λ item. IsPiece c.args.variables.now item (Places c.of_place.result) in
    subst P (sym c.in-One.is) (c.of_place.result, refl, c.of_place.ensures)

pub returns-in-Whole : goal.returns-in-Whole
returns-in-Whole c =
    let P : Operand → Type 0 = λ item. IsPiece c.args.variables.now item (Places c.whole.result) in
    subst P (sym c.in-Whole.is) (c.whole.result, refl, c.whole.ensures)
