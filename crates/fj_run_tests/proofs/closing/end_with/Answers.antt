use Rattle.std.proofs.Common.{ℕ, List, sym, ap, ◌∙◌}
use Rattle.std.specs.FinSet as set
use Rattle.fj_outside.specs.Holdings.{Names}
use Rattle.fj_run_units.specs.Names.{stands}
use Rattle.fj_run_tests.proofs.closing.end_with.Goals as goal

pub ends_well-fine-requires : goal.ends_well-fine-requires
ends_well-fine-requires c = λ q. ap (λ (s : Names). set.contains s q) c.new-disk.ensures.in_use ∙ set.contains-empty _ q ∙ ap (λ (ns : List (List ℕ)). stands ns q) (sym c.new-names.ensures)
