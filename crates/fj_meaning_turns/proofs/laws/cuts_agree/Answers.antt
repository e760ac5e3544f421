use Rattle.fj_meaning_turns.proofs.Meant as meant
use Rattle.fj_meaning_turns.proofs.laws.cuts_agree.Goals as goal

pub returns : goal.returns
returns c = meant.cuts_agree
