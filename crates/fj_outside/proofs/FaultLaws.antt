-- What a rise of a count comes to.
use Rattle.std.proofs.Common.{arith}
use Rattle.fj_outside.specs.Faults.{RisesToMoreOrTheEnd}

pub rose : RisesToMoreOrTheEnd
rose before now fits = (λ h. grind arith, λ h. grind arith)
