use Rattle.std.proofs.Common.{All, take}
use Rattle.fj_namelist.specs.GroupText.{IsWithin}
use Rattle.fj_run_items.proofs.layout.are_within.Given as goal

abbrev pub invariant-loop-member : goal.invariant-loop-member
invariant-loop-member l = All (IsWithin l.cells) (take l.member-index l.members)
