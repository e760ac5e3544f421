use Rattle.std.proofs.Common.{◌≡◌, ◌++◌, take}
use Rattle.fj_list.specs.ListText.{text_of}
use Rattle.fj_namelist.specs.GroupText.{members_written}
use Rattle.fj_namelist.proofs.write.push_members.Given as goal

abbrev pub invariant-loop-member : goal.invariant-loop-member
invariant-loop-member l = l.out ≡ l.fn.out ++ text_of (members_written l.modes (take l.member-index l.members) l.cells)
