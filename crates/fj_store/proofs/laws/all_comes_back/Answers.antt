use Rattle.std.proofs.Common.{List, [], Option, refl, ap}
use Rattle.fj_value.specs.declared.value.Value.{Value}
use Rattle.fj_store.specs.Storage.{Storage}
use Rattle.fj_store.proofs.LawLemmas.{all_back}
use Rattle.fj_store.proofs.laws.all_comes_back.Goals as goal

pub returns : goal.returns
returns c s places kinds homes = ap (λ (values : List (List (Option Value))). let t : Storage = record { kinds = s.kinds; values = values } in t) (all_back s places s.values (record { cells = []; order = [] }) kinds homes refl)
