use Rattle.std.proofs.Common.{◌≡◌, ◌-◌, length, take, drop, rules, tests, ap, ◌∙◌, arith}
use Rattle.std.specs.VecDeque.{deque_len}
use Rattle.std.proofs.lemmas.Iterator.Consumers.{count_from_yields_List, YieldsList-at, YieldsList-from_deque, YieldsList-from_filter}
use Rattle.fj_book.proofs.AnyLemmas.{rest_whole}
use Rattle.fj_run_pending.proofs.removal.count_of.Goals as goal

pub returns : goal.returns
returns c =
    let hs = c.args.helds.now.items in
    let long : deque_len c.args.helds.now ≡ length hs = omega (arith, c.args.helds.now.ok) in
    let rest = c.range.ensures.rest ∙ ap (λ n. take (n - c.args.from) (drop c.args.from hs)) long ∙ rest_whole hs c.args.from in
    count_from_yields_List c.filter.result c.count.result c.count.ensures.ran (YieldsList-from_filter _ _ (YieldsList-at c.filter.ensures.source (YieldsList-from_deque (drop c.args.from hs) rest)) c.filter.ensures.closure (λ x r q k. search (rules, tests)))
