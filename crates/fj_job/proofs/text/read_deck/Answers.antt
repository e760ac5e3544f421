use Rattle.std.proofs.Common.{rules}
use Rattle.fj_deck.specs.Deck.{IsRefused}
use Rattle.fj_job.proofs.RunLaws.{unread_of}
use Rattle.fj_job.proofs.text.read_deck.Goals as goal

pub returns-in-Err-Refused-clause-refused : goal.returns-in-Err-Refused-clause-refused
returns-in-Err-Refused-clause-refused g c =
    let is : IsRefused c.args.text.now c.in-Err-Refused.line c.in-Err-Refused.reason = search rules in
    unread_of c.refuse_line.result c.in-Err-Refused.line c.in-Err-Refused.reason (Unit {0}) c.args.text.now c.refuse_line.ensures.refused (λ t. is)
