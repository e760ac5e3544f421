use Rattle.std.proofs.Common.{◌+◌, drop, ◌∙◌, arith}
use Rattle.std.specs.List.{list_any}
use Rattle.fj_store.specs.Places.{places_of}
use Rattle.fj_book.specs.Counting.{holds_in}
use Rattle.fj_book.proofs.AnyLemmas.{is_found, goes_on}
use Rattle.fj_book.proofs.CountLemmas.{hold_step, none_holds}
use Rattle.fj_book.proofs.counts.some_hold.Goals as goal

pub returns-then-holds_one : goal.returns-then-holds_one
returns-then-holds_one c =
    let es = c.args.entries.now.items in
    let at = c.loop-at.at in
    is_found (list_any (λ place. list_any (holds_in c.args.input place) (drop at es)) (places_of c.args.run)) (list_any (λ place. list_any (holds_in c.args.input place) (drop (at + 1) es)) (places_of c.args.run))
    (list_any (λ place. list_any (holds_in c.args.input place) es) (places_of c.args.run)) c.holds_one.result
    (hold_step c.args.input c.holds_one.result es at c.index.result.now (places_of c.args.run) (omega (arith, c.loop-at-test.true, c.len-at-end.ensures, c.args.entries.now.ok)) c.index.ensures c.holds_one.ensures) c.loop-at.invariant c.if-holds_one.true

pub loop-at-preserved : goal.loop-at-preserved
loop-at-preserved c =
    let es = c.args.entries.now.items in
    let at = c.loop-at.at in
    goes_on (list_any (λ place. list_any (holds_in c.args.input place) (drop at es)) (places_of c.args.run)) (list_any (λ place. list_any (holds_in c.args.input place) (drop (at + 1) es)) (places_of c.args.run))
    (list_any (λ place. list_any (holds_in c.args.input place) es) (places_of c.args.run)) c.holds_one.result
    (hold_step c.args.input c.holds_one.result es at c.index.result.now (places_of c.args.run) (omega (arith, c.loop-at-test.true, c.len-at-end.ensures, c.args.entries.now.ok)) c.index.ensures c.holds_one.ensures) c.loop-at.invariant c.if-holds_one.false

pub returns : goal.returns
returns c =
    none_holds c.args.input c.args.entries.now.items c.loop-at.at (places_of c.args.run) (omega (arith, c.loop-at-test.false, c.len-at-end.ensures, c.args.entries.now.ok)) ∙ c.loop-at.invariant
