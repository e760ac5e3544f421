use Rattle.std.proofs.Common.{sym}
use Rattle.fj_internal.proofs.Heads.{end_found, end_none}
use Rattle.fj_internal.proofs.elements.holds_line_end.Goals as goal

pub returns-in-Some : goal.returns-in-Some
returns-in-Some c = sym (end_found _ _ c.in-Some.ensures)

pub returns-in-None : goal.returns-in-None
returns-in-None c = sym (end_none _ c.in-None.ensures)
