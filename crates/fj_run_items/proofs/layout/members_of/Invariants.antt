use Rattle.std.proofs.Common.{◌≡◌, take}
use Rattle.fj_meaning.specs.Transfers.{members_of}
use Rattle.fj_run_items.proofs.layout.members_of.Given as goal

abbrev pub invariant-loop-var : goal.invariant-loop-var
invariant-loop-var l = l.members ≡ members_of l.variables l.cells (take l.var-index l.vars)
