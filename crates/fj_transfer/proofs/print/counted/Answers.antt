use Rattle.std.proofs.Common.{subst}
use Rattle.std.specs.Prelude.{Result, OnOk}
use Rattle.fj_line.specs.declared.unwritten.Unwritten.{Unwritten}
use Rattle.fj_line.specs.Actions.{first_record}
use Rattle.fj_line.specs.Page.{at_hand, IsIn, Carries}
use Rattle.fj_transfer.proofs.PrintedLemmas.{prints_fine}
use Rattle.fj_transfer.proofs.print.counted.Goals as goal

pub returns-in-Ok : goal.returns-in-Ok
returns-in-Ok c limit actions carried =
    let P : Result (Unit {0}) Unwritten → Type 0 = λ w. Carries (first_record limit c.args.begun) actions w (at_hand c.args.page.now c.args.text.now) in
    let Q : Result (Unit {0}) Unwritten → Type 0 = λ w. OnOk w (IsIn c.args.page.now c.args.text.now) in
    prints_fine limit c.args.begun c.args.end c.count_at.result actions c.args.page.now c.args.text.now c.requires.begin (subst P c.in-Ok.is carried) (subst Q c.in-Ok.is c.requires.within) c.count_at.ensures
