use Rattle.std.proofs.Common.{◌+◌, drop, get_or, ap, ◌∙◌}
use Rattle.fj_value.specs.declared.place.Place.{Place}
use Rattle.fj_store.specs.Places.{has_twice, is_among}
use Rattle.fj_book.proofs.AnyLemmas.{twice_step, goes_on, same_item, rest_whole}
use Rattle.fj_book.proofs.need.has_twice.Goals as goal

pub loop-at-preserved : goal.loop-at-preserved
loop-at-preserved c =
    let q : Place = get_or c.args.places.now c.loop-at.at (record { var = 0; index = 0 }) in
    goes_on (has_twice (drop c.loop-at.at c.args.places.now)) (has_twice (drop (c.loop-at.at + 1) c.args.places.now)) (has_twice c.args.places.now) c.stands_among.result
    (twice_step c.args.places.now c.loop-at.at q c.stands_among.result c.loop-at-test.true (same_item c.args.places.now c.loop-at.at (record { var = 0; index = 0 }) c.loop-at-test.true)
    (c.stands_among.ensures ∙ ap (λ xs. is_among xs q) (rest_whole c.args.places.now (c.loop-at.at + 1))))
    c.loop-at.invariant c.if-stands_among.false
