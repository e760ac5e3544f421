use Rattle.std.proofs.Common.{length, ◌++◌}
use Rattle.fj_format.specs.Unfolding.{pass}
use Rattle.fj_control.specs.Steps.{round, rounds}
use Rattle.fj_control.proofs.Pairing.{in_order}
use Rattle.fj_transfer.proofs.laws.items_are_in_order.Goals as goal

pub returns : goal.returns
returns c = λ modes f items h. in_order (pass f ++ rounds (length items) (round f)) modes items h
