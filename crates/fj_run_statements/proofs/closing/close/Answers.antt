use Rattle.std.proofs.lemmas.Result.{IfOk-weaker}
use Rattle.fj_meaning.specs.Needs.{number_of}
use Rattle.std.specs.Prelude.{unwrap_or}
use Rattle.std.proofs.Common.{false, sym}
use Rattle.fj_run_units.specs.Units.{connected_of}
use Rattle.fj_run_statements.specs.State.{core_of}
use Rattle.fj_run_statements.proofs.ClosingLemmas.{close_is, may_close}
use Rattle.fj_run_statements.proofs.HavingLemmas.{closing_has, found_at}
use Rattle.fj_run_statements.proofs.closing.close.Goals as goal

pub returns-clause-doing : goal.returns-clause-doing
returns-clause-doing g c = λ variables st files.
    IfOk-weaker c.closing.result _ _ (λ next is. close_is g.F.FileStore.told g.F.FileStore.bytes variables st (core_of files c.args.core.now) c.args.keep (number_of c.args.unit) (connected_of c.in-Some.unit.now) c.unwrap_or-2.result next
    c.in-Some.ensures (may_close c.unwrap_or.result (unwrap_or c.args.keep false) c.in-Some.unit.now.modes.scratch c.unwrap_or.ensures c.else-unwrap_or.either) c.unwrap_or-2.ensures is) c.closing.ensures.next

pub returns-clause-files : goal.returns-clause-files
returns-clause-files g c = λ what have.
    let us = c.args.core.now.units in
    let u = connected_of c.in-Some.unit.now in
    IfOk-weaker c.closing.result _ _ (λ next is. closing_has next u.slot u _ _ c.args.core.now.names us what is (found_at us (number_of c.args.unit) u (sym c.in-Some.ensures)) tt have) c.closing.ensures.next
