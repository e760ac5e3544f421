use Rattle.std.proofs.Common.{◌≡◌, ℕ, List, sym, subst, rules}
use Rattle.fj_format.specs.Parsing.{IsOnlyFormat}
use Rattle.fj_format.specs.Printing.{printed}
use Rattle.fj_format.proofs.Decided.{printed_is_only}
use Rattle.fj_format.proofs.printer.print.Goals as goal

pub returns-clause-reads : goal.returns-clause-reads
returns-clause-reads c =
    let text : c.push_items.new.text ≡ printed c.args.format.now = search rules in
    subst (λ (t : List ℕ). IsOnlyFormat t c.args.format.now) (sym text) (printed_is_only c.args.format.now c.items.ensures.sound)
