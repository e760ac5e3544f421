use Rattle.std.proofs.Common.{Ok, refl, ◌∙◌}
use Rattle.fj_line.specs.declared.page.Page.{Page}
use Rattle.fj_line.specs.Actions.{end_record}
use Rattle.fj_line.specs.Page.{at_hand}
use Rattle.fj_line.proofs.PageLemmas.{alone, record_ended, end_looked_at}
use Rattle.fj_line.proofs.page.Page.end_record.Goals as goal

pub returns-clause-done : goal.returns-clause-done
returns-clause-done c =
    let old = c.args.self.now in
    let new : Page = record { limit = old.limit; start = 0; begin = old.begin; line = c.len-self.result; at = 0 } in
    alone (at_hand old c.args.text.now) end_record (Ok tt) (at_hand new c.push_all.new.self)
    (end_looked_at old c.args.text.now c.requires.begin c.requires.line ∙ c.in_ok-check_end.ensures)
    (record_ended old new c.args.text.now c.push_all.new.self c.requires.begin c.requires.line c.in_ok-push_all.ensures.ok refl refl refl c.len-self.ensures refl)
