use Rattle.std.proofs.Common.{◌≡◌, ℕ, ◌+◌, ◌<◌, ◌≤◌, max, length, ap, arith, ◌∙◌}
use Rattle.fj_store.specs.Places.{places_in}
use Rattle.fj_run_statements.proofs.PlaceLemmas.{gathered_more, gathered_all, alone_told}
use Rattle.fj_run_statements.proofs.places.distinct_places.Goals as goal

pub loop-at-preserved : goal.loop-at-preserved
loop-at-preserved c =
    let runs = c.in_ok-ordered.ordered.items in
    let run = c.index-run.result.now in
    let front = c.reached-front.result in
    let low : c.loop-at.at < length runs = omega arith in
    let end : c.max-end.result ≡ max front (run.first + run.count) =
    c.max-end.ensures ∙ ap (λ (n : ℕ). max front (n + c.from-in-loop-at.result)) c.from.ensures ∙ ap (λ (n : ℕ). max front (run.first + n)) c.from-in-loop-at.ensures in
    gathered_more runs c.loop-at.at run c.loop-at.var c.loop-at.end front c.skipped-count.result c.max-end.result (places_in c.loop-at.places) (places_in c.add_rest.new.places) low
    c.index-run.ensures c.in_ok-ordered.ensures.ascending c.skipped-count.ensures.first c.reached-front.ensures c.skipped-count.ensures.count c.in_ok-add_rest.ensures end c.loop-at.invariant

pub of_runs-requires : goal.of_runs-requires
of_runs-requires c = c.loop-at.invariant.once.once

pub returns : goal.returns
returns c =
    let past : length c.in_ok-ordered.ordered.items ≤ c.loop-at.at = omega arith in
    gathered_all c.of_runs.result c.args.runs.now c.in_ok-ordered.ordered.items c.loop-at.at c.loop-at.var c.loop-at.end (places_in c.loop-at.places)
    c.in_ok-ordered.ensures.same past c.loop-at.invariant c.of_runs.ensures

pub returns-then-runs-eq1 : goal.returns-then-runs-eq1
returns-then-runs-eq1 c = alone_told c.args.runs.now c.index-runs-0.result c.places_of_one.result c.if-runs-eq1.true c.index-runs-0.is c.places_of_one.ensures
