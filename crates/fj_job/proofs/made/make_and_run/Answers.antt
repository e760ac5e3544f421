use Rattle.std.proofs.Common.{◌∙◌, rules}
use Rattle.fj_report.specs.declared.status.Status.TheVariants.{DeckRefused}
use Rattle.fj_job.proofs.MadeReplies.{made_reply, unmade_reply, made_taken, unmade_taken}
use Rattle.fj_job.proofs.RunLaws.{answered}
use Rattle.fj_job.specs.Reply.{files_in}
use Rattle.fj_job.proofs.made.make_and_run.Goals as goal

pub returns-in-Err-Refused-clause-replied : goal.returns-in-Err-Refused-clause-replied
returns-in-Err-Refused-clause-replied g c = λ text files a.
    answered c.refuse_line.result (DeckRefused c.in-Err-Refused.line c.in-Err-Refused.reason) _ c.refuse_line.ensures.refused a (λ e.
    unmade_reply c.args.seed c.args.count c.bytes.result.now text c.in-Err-Refused.line c.in-Err-Refused.reason files c.refuse_line.result _
    (c.bytes.ensures ∙ c.in-Ok.ensures) (search rules) e (λ t. c.refuse_line.ensures.output a t))

pub returns-in-Ok-parse_deck-clause-replied : goal.returns-in-Ok-parse_deck-clause-replied
returns-in-Ok-parse_deck-clause-replied g c = λ text files a.
    made_reply c.args.seed c.args.count c.bytes.result.now text c.in-Ok-parse_deck.deck files c.run_made.result _ (c.bytes.ensures ∙ c.in-Ok.ensures) c.in-Ok-parse_deck.ensures.answer
    (c.run_made.ensures.replied files a)

pub returns-in-Err-Refused-clause-front : goal.returns-in-Err-Refused-clause-front
returns-in-Err-Refused-clause-front g c = λ text files w.
    unmade_taken c.args.seed c.args.count c.bytes.result.now text c.in-Err-Refused.line c.in-Err-Refused.reason (files_in files) _ _ (c.bytes.ensures ∙ c.in-Ok.ensures) (search rules)
    (c.refuse_line.ensures.front w)

pub returns-in-Ok-parse_deck-clause-front : goal.returns-in-Ok-parse_deck-clause-front
returns-in-Ok-parse_deck-clause-front g c = λ text files w.
    made_taken c.args.seed c.args.count c.bytes.result.now text c.in-Ok-parse_deck.deck (files_in files) _ _ (c.bytes.ensures ∙ c.in-Ok.ensures) c.in-Ok-parse_deck.ensures.answer
    (c.run_made.ensures.front files w)
