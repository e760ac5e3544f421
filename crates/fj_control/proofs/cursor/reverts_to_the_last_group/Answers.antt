use Rattle.fj_control.proofs.Reversion as reversion
use Rattle.fj_control.proofs.cursor.reverts_to_the_last_group.Goals as goal

pub returns : goal.returns
returns c = record { group = reversion.reverts_to_the_last_group; start = reversion.reverts_to_the_start }
