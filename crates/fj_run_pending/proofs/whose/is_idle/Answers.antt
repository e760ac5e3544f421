use Rattle.std.proofs.Common.{◌≡◌, [], refl, sym, ◌∙◌, inr, arith}
use Rattle.std.specs.VecDeque.{deque_len}
use Rattle.fj_book.proofs.AnyLemmas.{none_there}
use Rattle.fj_run_pending.proofs.Waited.{idle_waited}
use Rattle.fj_run_pending.proofs.whose.is_idle.Goals as goal

none_pending : (c : goal.Then-is_empty) → c.args.pendings.now ≡ []
none_pending c =
    let all = c.entries.result.now in
    sym c.entries.ensures.entries ∙ none_there all.items (deque_len all) c.is_empty.result (omega (arith, all.ok)) c.is_empty.ensures c.if-is_empty.true

pub returns-then-is_empty-clause-exact : goal.returns-then-is_empty-clause-exact
returns-then-is_empty-clause-exact c = (λ _. inr (none_pending c), λ _. refl)

pub returns-then-is_empty-clause-waited : goal.returns-then-is_empty-clause-waited
returns-then-is_empty-clause-waited c = λ is. idle_waited c.args.whose c.args.pendings.now (none_pending c)
