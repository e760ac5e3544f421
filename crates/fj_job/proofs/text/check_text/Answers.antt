use Rattle.std.proofs.Common.{inr, refl, Ok, Err, rules}
use Rattle.fj_job.specs.Reply.{checked, files_in}
use Rattle.fj_job.proofs.ReplyLaws.{ended_by, no_end}
use Rattle.fj_job.proofs.text.check_text.Goals as goal

pub returns-in-Ok-clause-replied : goal.returns-in-Ok-clause-replied
returns-in-Ok-clause-replied g c = λ files a. record {
  reply = checked (Ok c.in-Ok.deck) (files_in files);
  is = (Ok c.in-Ok.deck, c.in-Ok.ensures.answer, refl);
  answer = search rules;
  files_left = refl;
  output = λ t. c.check_deck.ensures.output a t;
}

pub returns-in-Err-Refused-clause-replied : goal.returns-in-Err-Refused-clause-replied
returns-in-Err-Refused-clause-replied g c = λ files a. record {
  reply = checked (Err (c.in-Err-Refused.line, c.in-Err-Refused.reason)) (files_in files);
  is = (Err (c.in-Err-Refused.line, c.in-Err-Refused.reason), search rules, refl);
  answer = search rules;
  files_left = refl;
  output = λ t. c.refuse_line.ensures.output a t;
}

pub returns-in-Ok-clause-ended : goal.returns-in-Ok-clause-ended
returns-in-Ok-clause-ended g c = ended_by c.check_deck.result _ (c.in-Ok.deck, c.in-Ok.ensures.answer)

pub returns-in-Err-Refused-clause-ended : goal.returns-in-Err-Refused-clause-ended
returns-in-Err-Refused-clause-ended g c = no_end _ _ _ tt c.refuse_line.ensures.refused

pub returns-in-Ok-clause-front : goal.returns-in-Ok-clause-front
returns-in-Ok-clause-front g c = λ files w. inr (checked (Ok c.in-Ok.deck) (files_in files), (Ok c.in-Ok.deck, c.in-Ok.ensures.answer, refl), c.check_deck.ensures.front w)

pub returns-in-Err-Refused-clause-front : goal.returns-in-Err-Refused-clause-front
returns-in-Err-Refused-clause-front g c = λ files w. inr (
  checked (Err (c.in-Err-Refused.line, c.in-Err-Refused.reason)) (files_in files),
  (Err (c.in-Err-Refused.line, c.in-Err-Refused.reason), search rules, refl),
  c.refuse_line.ensures.front w,
)
