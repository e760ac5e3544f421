use Rattle.std.proofs.Common.{◌≡◌, None, true, sym, ap, ◌∙◌}
use Rattle.fj_meaning.specs.Statement.{Stated}
use Rattle.fj_meaning_jobs.specs.Core.{Core as PlainCore}
use Rattle.fj_meaning_looks.specs.Inquiring.{asks_whether, looks_for}
use Rattle.fj_run_statements.specs.State.{core_of}
use Rattle.fj_run_script.proofs.Beginnings.{rule_by}
use Rattle.fj_run_script.proofs.Looks.{asked_free, asked_ruled, none_asked}
use Rattle.fj_run_script.proofs.looking.look_for.Goals as goal

pub returns-then-not-asks_whether : goal.returns-then-not-asks_whether
returns-then-not-asks_whether c = λ files st is. sym (none_asked c.args.variables.now st (core_of files c.args.core.now) (ap asks_whether is ∙ sym c.asks_whether.ensures ∙ c.if-not-asks_whether.true))

pub returns-in-None : goal.returns-in-None
returns-in-None c = λ files st is.
    let variables = c.args.variables.now in
    let core : PlainCore = core_of files c.args.core.now in
    let here : Stated = (record st.0 { what = c.args.statement.now }, st.1) in
    let free = rule_by variables c.as_slice.result.now here files c.args.core.now c.unit_asked-named.result c.check-broken.result None c.as_slice.ensures c.check-broken.ensures c.in-None.is c.unit_asked-named.ensures in
    let asks : asks_whether c.args.statement.now ≡ true = sym c.asks_whether.ensures ∙ c.if-not-asks_whether.false in
    c.transfers_of.ensures files ∙ sym (asked_free variables here core asks free) ∙ sym (ap (λ w. let y : Stated = (record st.0 { what = w }, st.1) in looks_for variables y core) is)

pub returns-in-Some : goal.returns-in-Some
returns-in-Some c = λ files st is.
    let variables = c.args.variables.now in
    let core : PlainCore = core_of files c.args.core.now in
    let here : Stated = (record st.0 { what = c.args.statement.now }, st.1) in
    let ruled = rule_by variables c.as_slice.result.now here files c.args.core.now c.unit_asked-named.result c.check-broken.result _ c.as_slice.ensures c.check-broken.ensures c.in-Some.is c.unit_asked-named.ensures in
    sym (asked_ruled variables here core _ ruled) ∙ sym (ap (λ w. let y : Stated = (record st.0 { what = w }, st.1) in looks_for variables y core) is)
