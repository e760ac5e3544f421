use Rattle.std.proofs.Common.{[], ap}
use Rattle.fj_store.specs.Storage.{values_of}
use Rattle.fj_transfer.specs.declared.transfer.TransferSpec.{TransferSpec}
use Rattle.fj_run_items.proofs.Elements.{leaves_one, spec_output}
use Rattle.fj_run_items.proofs.Finds.{of_items}
use Rattle.fj_run_items.proofs.element.written.Goals as goal

pub write_one-requires-clause-output : goal.write_one-requires-clause-output
write_one-requires-clause-output c = spec_output c.args.t.now c.in_ok-spec.spec c.requires.output c.requires.plain c.in_ok-spec.ensures

pub write_one-requires-clause-items : goal.write_one-requires-clause-items
write_one-requires-clause-items c =
    of_items [] c.args.t.now.control [] c.in_ok-spec.spec.layout c.requires.plain.items (ap (λ (x : TransferSpec). x.layout) (c.in_ok-spec.ensures [] [] []))

pub returns-in-Some-clause-one : goal.returns-in-Some-clause-one
returns-in-Some-clause-one c =
    leaves_one c.args.variables.now (values_of c.args.store.now) c.args.t.now c.args.size _ c.in_ok-write_one.field-0 c.in_ok-spec.spec c.in-Some.row c.in_ok-spec.ensures c.in-Some.ensures.moved c.items.ensures c.in_ok-write_one.ensures

pub write_one-requires-2-clause-output : goal.write_one-requires-2-clause-output
write_one-requires-2-clause-output c = spec_output c.args.t.now c.in_ok-spec.spec c.requires.output c.requires.plain c.in_ok-spec.ensures

pub write_one-requires-2-clause-items : goal.write_one-requires-2-clause-items
write_one-requires-2-clause-items c =
    of_items [] c.args.t.now.control [] c.in_ok-spec.spec.layout c.requires.plain.items (ap (λ (x : TransferSpec). x.layout) (c.in_ok-spec.ensures [] [] []))

pub returns-clause-one : goal.returns-clause-one
returns-clause-one c =
    leaves_one c.args.variables.now (values_of c.args.store.now) c.args.t.now c.args.size _ c.in_ok-write_one-2.field-0 c.in_ok-spec.spec c.in_ok-moved.moved c.in_ok-spec.ensures c.in_ok-moved.ensures.moved c.items-2.ensures c.in_ok-write_one-2.ensures
