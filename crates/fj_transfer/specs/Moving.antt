-- What a transfer moves.
use Rattle.std.specs.Prelude.{List, []}
use Rattle.fj_moved.specs.declared.moved.GroupMember.{GroupMember}
use Rattle.fj_transfer.specs.declared.transfer.Layout.{Layout}
use Rattle.fj_transfer.specs.declared.transfer.Layout.TheVariants.{Group}

-- the variables of a namelist group
abbrev pub members_of : Layout → List GroupMember
members_of (Group name members) = members
members_of _ = []
