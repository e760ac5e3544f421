-- What a statement on an internal file leaves.
use Rattle.fj_value.specs.declared.condition.Condition.{Condition}
use Rattle.fj_transfer.specs.declared.transfer.Transfer.{Transfer}
use Rattle.fj_internal.specs.Internal.{Taken}

-- the values and what SIZE= gets of a statement that was carried out, with its condition
abbrev pub taken : Transfer → Condition → Taken
taken job condition = record { cells = job.moved.cells; count = job.count; condition = condition }
