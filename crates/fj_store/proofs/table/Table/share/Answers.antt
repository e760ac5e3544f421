use Rattle.std.proofs.Common.{◌≡◌, ◌<◌, length, slice_set, unwrap_or, sym, ap, ◌∙◌, arith}
use Rattle.fj_value.specs.declared.place.Place.{Place}
use Rattle.fj_store.proofs.ListLemmas.{set_itself}
use Rattle.fj_store.proofs.RunLemmas.{row_whole, shared_so}
use Rattle.fj_store.proofs.TableLemmas.{row_read}
use Rattle.fj_store.proofs.table.Table.share.Goals as goal

pub returns-clause-shared : goal.returns-clause-shared
returns-clause-shared g c =
    let run = c.args.run in
    let place : Place = record { var = run.var; index = 1 } in
    let in_rows : run.var < length c.self.inside.rows.items = omega (arith, c.self.inside.rows.ok.0) in
    let here = row_read c.self.inside.rows.items c.args.self.now place c.index.result.now c.self.view_is in_rows c.index.ensures in
    let again = row_read c.self.inside.rows.items c.args.self.now place c.index_mut.result.now c.self.view_is in_rows c.index_mut.ensures.value in
    let same : c.index_mut.result.now ≡ c.index.result.now = ap (λ o. unwrap_or o c.index.result.now) (sym again ∙ here) in
    let ends : run.count ≡ length c.index.result.now = omega arith in
    shared_so c.share.result (λ row e. row_whole c.args.self.now c.index.result.now row run.var run.first run.count here (e ∙ same) (omega arith) ends) c.share.ensures.shared

pub returns-clause-same : goal.returns-clause-same
returns-clause-same g c =
    let in_rows : c.args.run.var < length c.self.inside.rows.items = omega (arith, c.self.inside.rows.ok.0) in
    let row = row_read c.self.inside.rows.items c.args.self.now (record { var = c.args.run.var; index = 1 }) c.index_mut.result.now c.self.view_is in_rows c.index_mut.ensures.value in
    ap (λ xs. slice_set xs c.args.run.var c.share.new.self) c.self.view_is
    ∙ ap (λ r. slice_set c.args.self.now c.args.run.var r) c.share.ensures.same
    ∙ set_itself c.args.self.now c.args.run.var c.index_mut.result.now row
