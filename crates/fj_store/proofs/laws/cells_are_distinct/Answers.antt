use Rattle.std.proofs.Common.{[], refl}
use Rattle.fj_store.proofs.LawLemmas.{all_distinct}
use Rattle.fj_store.proofs.laws.cells_are_distinct.Goals as goal

pub returns : goal.returns
returns c items = all_distinct items (record { cells = []; order = [] }) refl
