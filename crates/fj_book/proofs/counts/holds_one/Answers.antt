use Rattle.std.proofs.Common.{◌∙◌, rules}
use Rattle.fj_store.specs.Places.{places_of}
use Rattle.fj_book.proofs.CountLemmas.{one_holds, other_holds}
use Rattle.fj_book.proofs.counts.holds_one.Goals as goal

pub returns-then-entry-input : goal.returns-then-entry-input
returns-then-entry-input c = c.meet.ensures ∙ one_holds c.args.input c.args.entry.now (places_of c.args.run) (search rules)

pub returns-else-entry-input : goal.returns-else-entry-input
returns-else-entry-input c = other_holds c.args.input c.args.entry.now (places_of c.args.run) (search rules)
