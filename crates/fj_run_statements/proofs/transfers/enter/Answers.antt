use Rattle.std.proofs.Common.{◌≡◌, refl, rules}
use Rattle.std.specs.Prelude.{pos}
use Rattle.fj_store.specs.Storage.{values_of}
use Rattle.fj_meaning.specs.Transfers.{with_number}
use Rattle.fj_run_statements.specs.Holding.{pending_under}
use Rattle.fj_run_statements.specs.declared.state.Core.{Core}
use Rattle.fj_run_statements.proofs.StateLemmas.{answers_more, entered_is}
use Rattle.fj_run_statements.proofs.transfers.enter.Goals as goal

pub returns-clause-entered : goal.returns-clause-entered
returns-clause-entered c = λ files.
    let variables = c.args.variables.now in
    let old = c.args.core.now in
    let t = c.args.t.now in
    let new : Core = record old { store = c.set_number.new.store; pending = c.hold.new.pending; next = c.in-Some.next } in
    let values : values_of c.set_number.new.store ≡ with_number variables t.id (pos old.next) (values_of old.store) = search rules in
    entered_is files variables old new t c.args.unit c.args.slot c.args.number c.in_ok-hold.ensures.ok values c.in-Some.ensures.1 refl refl refl refl

pub returns-clause-pending : goal.returns-clause-pending
returns-clause-pending c =
    let old = c.args.core.now in
    let new : Core = record old { store = c.set_number.new.store; pending = c.hold.new.pending; next = c.in-Some.next } in
    answers_more old new (pending_under c.args.variables.now old.next c.args.t.now c.args.unit c.args.slot c.args.number) c.in_ok-hold.ensures.ok
