use Rattle.std.proofs.Common.{◌≡◌, ap, rules}
use Rattle.fj_store.specs.Storage.{values_of}
use Rattle.fj_meaning.specs.Transfers.{with_cells}
use Rattle.fj_meaning_jobs.specs.Core.{Core}
use Rattle.fj_run_pending.specs.Plain.{brought_of}
use Rattle.fj_run_statements.specs.State.{core_of}
use Rattle.fj_run_statements.proofs.TransferLemmas.{resumes_is, halts_by}
use Rattle.fj_run_statements.proofs.transfers.carry.Goals as goal

pub returns-in-EndOfFile-clause-doing : goal.returns-in-EndOfFile-clause-doing
returns-in-EndOfFile-clause-doing g c = λ st files.
    let variables = c.args.variables.now in
    let old = c.args.core.now in
    let t = c.args.t.now in
    let due : Core = record (core_of files old) { vars = with_cells variables t (brought_of c.args.told).cells (brought_of c.args.told).count (values_of old.store) } in
    let new : Core = record (core_of files old) { vars = values_of c.give_cells.new.store } in
    let values : values_of c.give_cells.new.store ≡ with_cells variables t (brought_of c.args.told).cells (brought_of c.args.told).count (values_of old.store) = search rules in
    resumes_is g.F.FileStore.told g.F.FileStore.bytes variables st due new c.args.slot c.args.told.condition (halts_by c.args.told.condition c.in-EndOfFile.is)
    (ap (λ v. (let r : Core = record (core_of files old) { vars = v } in r)) values)
