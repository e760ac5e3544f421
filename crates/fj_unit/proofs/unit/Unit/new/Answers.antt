use Rattle.std.proofs.Common.{ℕ, List, ap, ◌∙◌}
use Rattle.fj_unit.specs.Held.{unit_of}
use Rattle.fj_unit.proofs.Steps.{fresh_is}
use Rattle.fj_bay.specs.declared.bay.Bay.{Bay}
use Rattle.fj_unit.proofs.unit.Unit.new.Goals as goal

pub returns : goal.returns
returns c = ap unit_of c.new.ensures.fresh ∙ fresh_is c.in_ok-empty.field-0 (ap (λ (b : Bay (List ℕ)). b.connection) c.in_ok-empty.ensures) (ap (λ (b : Bay (List ℕ)). b.halt) c.in_ok-empty.ensures)
