use Rattle.std.proofs.Common.{◌+◌, ◌||◌, refl, sym, ap, ◌∙◌, arith, drop}
use Rattle.fj_format.specs.declared.item.FormatItem.TheVariants.{Group, Unlimited}
use Rattle.fj_format.specs.Unfolding.{written_out, pass, has_data}
use Rattle.fj_format.proofs.UnfoldingLaws.{written_out-Field, written_out-Slash, written_out-Unlimited}
use Rattle.fj_format.proofs.DataLemmas.{data_here, group_data, field_data, no_data_repeated}
use Rattle.fj_format.proofs.data.+data.Goals as goal

pub have_data-returns-then-item_has_data : goal.have_data-returns-then-item_has_data
have_data-returns-then-item_has_data t c =
    sym (sym c.loop-item.invariant ∙ data_here c.loop-item.item-index c.args.items.now c.item-item.result (omega arith) c.item-item.is
    ∙ ap (λ b. b || has_data (pass (drop (c.loop-item.item-index + 1) c.args.items.now))) (sym c.item_has_data.ensures ∙ c.if-item_has_data.true))

pub have_data-loop-item-preserved : goal.have_data-loop-item-preserved
have_data-loop-item-preserved t c =
    sym (sym c.loop-item.invariant ∙ data_here c.loop-item.item-index c.args.items.now c.item-item.result (omega arith) c.item-item.is
    ∙ ap (λ b. b || has_data (pass (drop (c.loop-item.item-index + 1) c.args.items.now))) (sym c.item_has_data.ensures ∙ c.if-item_has_data.false))

pub item_has_data-returns-in-Field : goal.item_has_data-returns-in-Field
item_has_data-returns-in-Field t c = field_data c.in-Field.r _ refl ∙ sym (ap has_data (ap written_out c.in-Field.is ∙ written_out-Field c.in-Field.r c.in-Field.edit))

pub item_has_data-returns-then-r-gt0 : goal.item_has_data-returns-then-r-gt0
item_has_data-returns-then-r-gt0 t c =
    c.have_data.ensures ∙ sym (ap has_data (ap written_out (c.in-Group.is ∙ ap (λ xs. Group c.in-Group.r xs) (sym c.as_slice.ensures))) ∙ group_data c.in-Group.r c.as_slice.result.now c.if-r-gt0.true)

pub item_has_data-returns-in-Slash : goal.item_has_data-returns-in-Slash
item_has_data-returns-in-Slash t c = sym (ap has_data (ap written_out c.in-Slash.is ∙ written_out-Slash c.in-Slash.field-0) ∙ no_data_repeated c.in-Slash.field-0 _ refl)

pub item_has_data-returns-in-Unlimited : goal.item_has_data-returns-in-Unlimited
item_has_data-returns-in-Unlimited t c =
    c.have_data-in-Unlimited.ensures ∙ sym (ap has_data (ap written_out (c.in-Unlimited.is ∙ ap (λ xs. Unlimited xs) (sym c.as_slice-in-Unlimited.ensures)) ∙ written_out-Unlimited c.as_slice-in-Unlimited.result.now))
