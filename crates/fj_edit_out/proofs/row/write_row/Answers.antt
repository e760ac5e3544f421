use Rattle.std.proofs.Common.{◌≡◌, ◌+◌, ◌-◌, ◌∷◌, length, take, drop, replicate, None, Some, sym, ap, ◌∙◌, arith}
use Rattle.std.proofs.lemmas.Int.{to_z-of_z}
use Rattle.std.proofs.lemmas.List.{length-replicate}
use Rattle.fj_edit_out.specs.Item.{integers_in}
use Rattle.fj_edit_out.specs.OutputField.{integer_field}
use Rattle.fj_edit_out.proofs.Rows.{integers_are, one_more, within_row, blank_field, blanks_behind, row_more}
use Rattle.fj_edit_out.proofs.row.write_row.Goals as goal

pub write_integer-requires-clause-blank : goal.write_integer-requires-clause-blank
write_integer-requires-clause-blank c =
    let l = c.loop-i in
    let k : l.at + c.args.w - l.at ≡ c.args.w = omega arith in
    let blank = blank_field l.row l.at c.args.w (length c.args.values.now) l.i c.loop-i-test.true l.invariant.blank in
    rw k (blank ∙ ap (λ n. replicate n 32) (sym (ap length blank ∙ length-replicate c.args.w 32)))

pub loop-i-preserved : goal.loop-i-preserved
loop-i-preserved c =
    let l = c.loop-i in
    let kind = c.args.kind in
    let values = c.args.values.now in
    let w = c.args.w in
    let k : l.at + w - l.at ≡ w = omega arith in
    let within = within_row l.row l.at w (length values) l.i c.loop-i-test.true c.requires.some l.invariant.blank in
    let next : integers_in kind (drop l.i values) ≡ c.in-Some.n ∷ integers_in kind (drop (l.i + 1) values) =
    integers_are kind values l.i c.index-values-i.result (Some c.in-Some.n) c.loop-i-test.true c.index-values-i.is (sym c.in-Some.is ∙ c.integer_of.ensures) in
    let size : length (take w (drop l.at l.row)) ≡ w = ap length (blank_field l.row l.at w (length values) l.i c.loop-i-test.true l.invariant.blank) ∙ length-replicate w 32 in
    let whole : length (take (l.at + w - l.at) (drop l.at l.row)) ≡ w = rw k size in
    let long : length c.write_integer.new.field ≡ w = omega (arith, c.write_integer.auto.field, whole) in
    let field : c.write_integer.new.field ≡ integer_field c.args.plus (w, None) c.in-Some.n = grind (arith, to_z-of_z, whole, ap (λ n. integer_field c.args.plus (n, None) c.in-Some.n) whole) in
    record {
      at = ap (λ n. n + w) l.invariant.at ∙ sym (one_more l.i w);
      blank = rw k (blanks_behind l.row c.write_integer.new.field l.at w (length values) l.i c.loop-i-test.true within long l.invariant.blank);
      count = omega (arith, ap length next, l.invariant.count);
      row = rw k (row_more (integer_field c.args.plus (w, None)) l.row c.write_integer.new.field l.at w c.in-Some.n _ _ _ within long field next l.invariant.row);
    }
