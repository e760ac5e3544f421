use Rattle.fj_control.proofs.Control as control
use Rattle.fj_control.proofs.cursor.goes_on_in_the_record.Goals as goal

pub returns : goal.returns
returns c = control.goes_on_in_the_record
