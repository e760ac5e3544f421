use Rattle.std.proofs.Common.{ltb, sym, ap, ◌∙◌}
use Rattle.std.specs.List.{list_any}
use Rattle.fj_book.specs.Counting.{holds_in}
use Rattle.fj_book.proofs.CountLemmas.{any_counted}
use Rattle.fj_book.proofs.counts.any_held.Goals as goal

pub returns-in-Some : goal.returns-in-Some
returns-in-Some c = c.in-Some.ensures (λ place. list_any (holds_in c.args.input place) c.args.entries.now.items)
    (λ p n here. sym (any_counted (holds_in c.args.input p) c.args.entries.now.items) ∙ sym (ap (ltb 0) (c.requires p n here)))
