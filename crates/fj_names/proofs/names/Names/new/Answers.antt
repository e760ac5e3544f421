use Rattle.fj_names.proofs.IndexLemmas.{nothing_indexed}
use Rattle.fj_names.proofs.names.Names.new.Goals as goal

pub invariant_of-result : goal.invariant_of-result
invariant_of-result c = nothing_indexed c.new.result c.new-2.result c.new-3.result c.new-4.result c.new.ensures c.new-2.ensures c.new-4.ensures.empty
