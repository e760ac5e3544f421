use Rattle.std.proofs.Common.{◌+◌, ◌≤◌, drop, length, sym, ap, ◌∙◌, arith}
use Rattle.std.specs.List.{list_any}
use Rattle.fj_store.specs.Places.{is_among, places_in, places_of}
use Rattle.fj_book.proofs.AnyLemmas.{among_step, any_never, is_found, goes_on, none_left}
use Rattle.fj_book.proofs.place_test.AmongRunTest.test.Goals as goal

pub returns-then-meets : goal.returns-then-meets
returns-then-meets c =
    let runs = c.args.self.now.runs.now in
    let i = c.loop-other.other-index in
    is_found (list_any (is_among (places_in (drop i runs))) (places_of c.args.run)) (list_any (is_among (places_in (drop (i + 1) runs))) (places_of c.args.run)) (list_any (is_among (places_in runs)) (places_of c.args.run)) c.meets.result
    (among_step runs i c.other-item.result (places_of c.args.run) c.meets.result (omega arith) c.other-item.is c.meets.ensures) c.loop-other.invariant c.if-meets.true

pub loop-other-preserved : goal.loop-other-preserved
loop-other-preserved c =
    let runs = c.args.self.now.runs.now in
    let i = c.loop-other.other-index in
    goes_on (list_any (is_among (places_in (drop i runs))) (places_of c.args.run)) (list_any (is_among (places_in (drop (i + 1) runs))) (places_of c.args.run)) (list_any (is_among (places_in runs)) (places_of c.args.run)) c.meets.result
    (among_step runs i c.other-item.result (places_of c.args.run) c.meets.result (omega arith) c.other-item.is c.meets.ensures) c.loop-other.invariant c.if-meets.false

pub returns : goal.returns
returns c =
    let runs = c.args.self.now.runs.now in
    let past : length runs ≤ c.loop-other.other-index = omega arith in
    sym (any_never (places_of c.args.run)) ∙ ap (λ rs. list_any (is_among (places_in rs)) (places_of c.args.run)) (sym (none_left runs c.loop-other.other-index past)) ∙ c.loop-other.invariant
