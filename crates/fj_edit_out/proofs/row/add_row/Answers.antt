use Rattle.std.proofs.Common.{◌≡◌, ◌+◌, ◌≤◌, ◌*◌, length, ◌∙◌, arith}
use Rattle.std.proofs.Math.Nat.{mul-le-mul_right}
use Rattle.std.proofs.lemmas.Grind.{common_steps}
use Rattle.fj_edit_out.proofs.Rows.{row_behind, grown_front}
use Rattle.fj_edit_out.proofs.row.add_row.Goals as goal

pub overflow_mul-count : goal.overflow_mul-count
overflow_mul-count c =
    let few = mul-le-mul_right c.args.w c.write_row-count.ensures.few in
    omega (arith, few, c.requires.short)

pub overflow_add-start-2 : goal.overflow_add-start-2
overflow_add-start-2 c =
    let few = mul-le-mul_right c.args.w c.write_row-count.ensures.few in
    omega (arith, few, c.requires.short)

pub returns-clause-ok : goal.returns-clause-ok
returns-clause-ok c =
    let few = mul-le-mul_right c.args.w c.write_row-count.ensures.few in
    let long : length c.args.bytes.now.items ≡ c.len-start.result = grind arith in
    let size : length c.write_row-count.new.row ≡ length c.args.values.now * c.args.w = grind (arith, common_steps) in
    let fits : c.len-start.result + c.write_row-count.result * c.args.w ≤ c.resize.new.self.len = grind (arith, few) in
    row_behind c.args.bytes.now.items c.deref_mut.result.now c.write_row-count.new.row _ _ c.truncate.new.self.items _ c.len-start.result (c.write_row-count.result * c.args.w) _
    (grown_front c.args.bytes.now.items c.deref_mut.result.now c.len-start.result _ _ long (c.deref_mut.ensures.value ∙ c.in_ok-resize.ensures.items)) long (omega (arith, few, size)) fits c.write_row-count.ensures.row c.truncate.ensures.items
