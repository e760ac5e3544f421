use Rattle.std.proofs.Common.{arith}
use Rattle.fj_deck.specs.Line.{Stating}
use Rattle.fj_deck.proofs.LineLemmas.{state_refused}
use Rattle.fj_deck.proofs.draft.Draft.state.Goals as goal

pub returns-in-Err : goal.returns-in-Err
returns-in-Err c = rw c.from.ensures (state_refused _ _ _ c.in-Err.fault c.in-Err.ensures)

pub returns-then-len-ge-MAX_STATEMENTS : goal.returns-then-len-ge-MAX_STATEMENTS
returns-then-len-ge-MAX_STATEMENTS c = Stating.full c.in-Ok.what c.in-Ok.ensures (omega arith)

pub returns : goal.returns
returns c = rw c.in_ok-push.ensures.ok (Stating.added c.in-Ok.what c.in-Ok.ensures (omega arith))
