use Rattle.fj_deck.proofs.SomeAnswer.{some_answer}
use Rattle.fj_deck.proofs.laws.some_answer.Goals as goal

pub returns : goal.returns
returns c = some_answer
