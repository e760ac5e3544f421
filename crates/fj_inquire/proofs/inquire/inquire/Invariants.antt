use Rattle.std.proofs.Common.{◌≡◌, ◌++◌, take}
use Rattle.fj_inquire.specs.Inquiring.{inquired}
use Rattle.fj_inquire.specs.Asking.{seen}
use Rattle.fj_inquire.proofs.inquire.inquire.Given as goal

abbrev pub invariant-loop-wanted : goal.invariant-loop-wanted
invariant-loop-wanted l = l.out ≡ l.initial.out ++ inquired (seen l.about) (take l.wanted-index l.wanted-items)
