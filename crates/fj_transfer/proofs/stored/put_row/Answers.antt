use Rattle.std.proofs.Common.{◌<◌, ◌≤◌, ◌+◌, ◌++◌, length, drop, ap, sym, ◌∙◌, arith, append_assoc}
use Rattle.std.specs.List.{flat_map}
use Rattle.std.proofs.lemmas.List.{at_drop_more, drop_all, append-nil}
use Rattle.fj_unfrec.specs.Stored.{stored}
use Rattle.fj_transfer.proofs.stored.put_row.Goals as goal

pub loop-value-preserved : goal.loop-value-preserved
loop-value-preserved c =
    let kind = c.args.kind in
    let values = c.args.values.now in
    let i = c.loop-value.value-index in
    let v = c.value-item.result in
    let out = c.loop-value.out in
    let more = flat_map (stored kind) (drop (i + 1) values) in
    let low : i < length values = omega (arith, c.loop-value-test.true) in
    c.loop-value.invariant
    ∙ ap (λ l. out ++ l) (at_drop_more (flat_map (stored kind)) values i v low ∙ ap (λ x. stored kind x ++ more) (sym c.value-item.is))
    ∙ sym (append_assoc out (stored kind v) more)
    ∙ ap (λ l. l ++ more) (sym c.in_ok-put_value.ensures.ok)

pub returns : goal.returns
returns c =
    let kind = c.args.kind in
    let values = c.args.values.now in
    let i = c.loop-value.value-index in
    let past : length values ≤ i = omega (arith, c.loop-value-test.false) in
    sym (c.loop-value.invariant ∙ ap (λ l. c.loop-value.out ++ flat_map (stored kind) l) (drop_all i values past) ∙ append-nil c.loop-value.out)
