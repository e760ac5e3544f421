use Rattle.std.proofs.Common.{All}
use Rattle.std.specs.FinMap as map
use Rattle.std.specs.FinSet as set
use Rattle.fj_batch.specs.Members.{IsNew}
use Rattle.fjob.proofs.batch.members_of.Given as goal

abbrev pub invariant-naming : goal.invariant-naming
invariant-naming l = All (IsNew (λ _. ⊥) (λ _. record { files = map.empty; in_use = set.empty; hurt = set.empty })) l.members
