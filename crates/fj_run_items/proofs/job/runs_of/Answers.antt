use Rattle.std.proofs.Common.{◌≡◌, ◌∷◌, ◌++◌, ◌∙◌, map, sym, ap}
use Rattle.fj_store.specs.declared.piece.Piece.TheVariants.{Places, Own}
use Rattle.fj_run_items.proofs.Parts.{no_own}
use Rattle.fj_run_items.proofs.job.runs_of.Goals as goal

pub returns-in-Own-clause-fits : goal.returns-in-Own-clause-fits
returns-in-Own-clause-fits c = λ all same _.
    let first : c.taking.pieces.items ≡ Own c.in-Own.field-0 c.in-Own.field-1 ∷ c.pop_front.new.self.items = c.in-Some.ensures.items ∙ ap (λ p. p ∷ c.pop_front.new.self.items) c.in-Own.is in
    no_own c.taking.runs all c.in-Own.field-0 c.in-Own.field-1 c.pop_front.new.self.items (ap (λ ps. map Places c.taking.runs ++ ps) (sym first) ∙ c.taking.invariant ∙ same)
