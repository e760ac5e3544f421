use Rattle.fj_internal.proofs.LawProofs.{refused}
use Rattle.fj_internal.proofs.laws.ends_of_lines_are_refused.Goals as goal

pub returns : goal.returns
returns c = refused
