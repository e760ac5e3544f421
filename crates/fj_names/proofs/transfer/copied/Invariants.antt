use Rattle.std.proofs.Common.{◌≡◌, take}
use Rattle.fj_names.proofs.transfer.copied.Given as goal

abbrev pub invariant-loop-var : goal.invariant-loop-var
invariant-loop-var l = l.copy ≡ take l.var-index l.var-items
