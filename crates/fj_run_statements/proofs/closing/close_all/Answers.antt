use Rattle.std.proofs.lemmas.Result.{IfOk-weaker}
use Rattle.std.proofs.Common.{sym}
use Rattle.fj_run_units.specs.Units.{connected_of}
use Rattle.fj_run_statements.specs.State.{core_of}
use Rattle.fj_run_statements.proofs.ClosingLemmas.{close_all_is, close_none_is}
use Rattle.fj_run_statements.proofs.HavingLemmas.{closing_has, found_first}
use Rattle.fj_run_statements.proofs.JobLemmas.{closes_each}
use Rattle.fj_run_statements.proofs.closing.close_all.Goals as goal

pub returns-in-Some-clause-doing : goal.returns-in-Some-clause-doing
returns-in-Some-clause-doing g c = λ variables st files.
    IfOk-weaker c.closing.result _ _ (λ next is. close_all_is g.F.FileStore.told g.F.FileStore.bytes variables st (core_of files c.args.core.now) (connected_of c.in-Some.unit.now) c.args.condition next
    c.in-Some.ensures.unit c.in-Some.ensures.apart is) c.closing.ensures.next

pub returns-in-None-clause-doing : goal.returns-in-None-clause-doing
returns-in-None-clause-doing g c = λ variables st files. close_none_is (core_of files c.args.core.now) c.args.condition c.in-None.ensures.unit

pub returns-in-Some-clause-files : goal.returns-in-Some-clause-files
returns-in-Some-clause-files g c = λ what have.
    let us = c.args.core.now.units in
    let u = connected_of c.in-Some.unit.now in
    IfOk-weaker c.closing.result _ _ (λ next is. closing_has next u.slot u _ _ c.args.core.now.names us what is (found_first us u (sym c.in-Some.ensures.unit)) tt have) c.closing.ensures.next

pub returns-in-Some-clause-jobs : goal.returns-in-Some-clause-jobs
returns-in-Some-clause-jobs g c =
    IfOk-weaker c.closing.result _ _ (λ next is. closes_each next _ _ _ c.args.core.now.units (connected_of c.in-Some.unit.now) c.args.condition is (sym c.in-Some.ensures.unit)) c.closing.ensures.next
