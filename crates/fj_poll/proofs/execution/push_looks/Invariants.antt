use Rattle.std.proofs.Common.{◌≡◌, ◌++◌, drop}
use Rattle.std.specs.List.{flat_map}
use Rattle.fj_poll.specs.Lines.{line_of}
use Rattle.fj_poll.proofs.execution.push_looks.Given as goal

abbrev pub invariant-adding : goal.invariant-adding
invariant-adding l = l.text ++ flat_map line_of (drop l.look-index l.looks) ≡ l.fn.text ++ flat_map line_of l.fn.looks
