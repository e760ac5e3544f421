use Rattle.std.proofs.Common.{slice_set, sym, ap, ◌∙◌}
use Rattle.std.specs.Option.{option_and_then}
use Rattle.fj_store.specs.Tables.{element_in}
use Rattle.fj_store.proofs.TableLemmas.{past_rows, with_found, with_lost}
use Rattle.fj_store.proofs.table.Table.replace.Goals as goal

pub returns-then-not-has-clause-old : goal.returns-then-not-has-clause-old
returns-then-not-has-clause-old g c = sym (ap (option_and_then (element_in c.args.place.index)) (past_rows c.args.self.now c.args.place.var c.if-not-has.ensures))

pub returns-then-not-has-clause-new : goal.returns-then-not-has-clause-new
returns-then-not-has-clause-new g c = sym (with_lost c.args.self.now c.args.place c.args.element (past_rows c.args.self.now c.args.place.var c.if-not-has.ensures))

pub returns-clause-old : goal.returns-clause-old
returns-clause-old g c = c.replace_in.ensures.old ∙ sym (ap (option_and_then (element_in c.args.place.index)) c.row_mut.ensures.value)

pub returns-clause-new : goal.returns-clause-new
returns-clause-new g c =
    ap (slice_set c.args.self.now c.args.place.var) c.replace_in.ensures.new ∙ sym (with_found c.args.self.now c.args.place c.args.element c.row_mut.result.now c.row_mut.ensures.value)
