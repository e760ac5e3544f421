use Rattle.fj_outside.specs.FailingDisk.{disk_held}
use Rattle.fj_outside.proofs.HoldingLaws.{free_of_empty}
use Rattle.fj_bay_tests.proofs.bay.connection.Goals as goal

pub open_file-requires-clause-free : goal.open_file-requires-clause-free
open_file-requires-clause-free c = λ _. free_of_empty (disk_held c.in_ok-disk.disk) _ c.in_ok-disk.ensures
