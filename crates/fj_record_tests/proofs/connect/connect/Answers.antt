use Rattle.fj_outside.proofs.HoldingLaws.{free_of_empty}
use Rattle.fj_record_tests.proofs.connect.connect.Goals as goal

pub open_file-opened-requires-clause-free : goal.open_file-opened-requires-clause-free
open_file-opened-requires-clause-free g c = λ t. free_of_empty (g.D.Disk.held c.args.disk.now) _ (c.requires t)
