use Rattle.fj_deck.proofs.LawLemmas.{one_deck, none_is_both, one_refusal}
use Rattle.fj_deck.proofs.laws.one_answer.Goals as goal

pub returns : goal.returns
returns c =
    let reading = c.one_meaning.ensures in
    let meaning = c.one_meaning-2.ensures in
    record {
      deck = one_deck reading meaning;
      apart = none_is_both reading meaning;
      refusal = one_refusal reading meaning;
    }
