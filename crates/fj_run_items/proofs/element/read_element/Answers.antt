use Rattle.std.proofs.Common.{[], ap, ◌∙◌}
use Rattle.fj_store.specs.Storage.{values_of}
use Rattle.fj_transfer.specs.declared.transfer.TransferSpec.{TransferSpec}
use Rattle.fj_run_items.proofs.Elements.{read_one_is, spec_input}
use Rattle.fj_run_items.proofs.Finds.{of_items}
use Rattle.fj_run_items.proofs.element.read_element.Goals as goal

pub read_one-requires-clause-input : goal.read_one-requires-clause-input
read_one-requires-clause-input c = spec_input c.args.t.now c.in_ok-spec.spec c.requires.input c.requires.plain c.in_ok-spec.ensures

pub read_one-requires-clause-items : goal.read_one-requires-clause-items
read_one-requires-clause-items c =
    of_items [] c.args.t.now.control [] c.in_ok-spec.spec.layout c.requires.plain.items (ap (λ (x : TransferSpec). x.layout) (c.in_ok-spec.ensures [] [] []))

pub returns-clause-done : goal.returns-clause-done
returns-clause-done c =
    read_one_is c.args.variables.now (values_of c.args.store.now) (values_of c.taken.new.store) (values_of c.undefine_size.new.store) (values_of c.give_taken.new.store) c.args.t.now c.args.place c.in_ok-spec.spec c.bytes.result.now
    c.in_ok-moved.moved c.read_one.new.moved.cells c.in_ok-performed.performed c.requires.input c.in_ok-spec.ensures (c.bytes.ensures ∙ c.in_ok-text.ensures) c.in_ok-moved.ensures.moved c.in_ok-moved.ensures.vars c.undefine_size.ensures.vars
    c.in_ok-performed.ensures.taken c.give_taken.ensures.vars
