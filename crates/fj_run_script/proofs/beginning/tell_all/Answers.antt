use Rattle.std.proofs.Common.{true, sym, ap}
use Rattle.fj_meaning.specs.Telling.{condition_of}
use Rattle.fj_meaning.proofs.Lists.{filter_true}
use Rattle.fj_run_statements.specs.State.{core_of}
use Rattle.fj_run_pending.specs.Plain.{entries, held}
use Rattle.fj_run_pending.specs.Waits.{waited_of}
use Rattle.fj_run_script.proofs.Beginnings.{told_core_of, told_nothing, left_all}
use Rattle.fj_run_script.proofs.beginning.tell_all.Goals as goal

pub returns-then-is_idle-clause-condition : goal.returns-then-is_idle-clause-condition
returns-then-is_idle-clause-condition c = sym (ap condition_of (c.is_idle.ensures.waited c.if-is_idle.true))

pub returns-then-is_idle-clause-core : goal.returns-then-is_idle-clause-core
returns-then-is_idle-clause-core c = λ variables files kinds.
    told_nothing variables c.args.line (waited_of c.args.whose (entries c.args.core.now.pending)) (core_of files c.args.core.now) (c.is_idle.ensures.waited c.if-is_idle.true)

pub returns-then-is_idle-clause-left : goal.returns-then-is_idle-clause-left
returns-then-is_idle-clause-left c = left_all (waited_of c.args.whose (entries c.args.core.now.pending)) (held c.args.core.now.pending) (c.is_idle.ensures.waited c.if-is_idle.true)

pub returns-then-is_idle-clause-some : goal.returns-then-is_idle-clause-some
returns-then-is_idle-clause-some c = (λ h. true, sym (filter_true c.args.core.now.pending))

pub returns-clause-core : goal.returns-clause-core
returns-clause-core c = λ variables files kinds.
    let old = c.args.core.now in
    told_core_of c.tell.result files variables c.args.line (waited_of c.args.whose (entries old.pending)) old c.tell.new.store c.tell.new.self c.tell.new.tells
    (c.tell.ensures.values variables kinds) c.tell.ensures.left c.tell.ensures.tells
