use Rattle.std.proofs.Common.{◌≡◌, ◌+◌, ◌∙◌, ap, arith}
use Rattle.fj_run_items.specs.Gathering.{count_of}
use Rattle.fj_run_items.proofs.Gathers.{one_more}
use Rattle.fj_run_items.proofs.Parts.{piece_count}
use Rattle.fj_run_items.proofs.collection.add_item.Goals as goal

pub returns-clause-more : goal.returns-clause-more
returns-clause-more c = λ before h.
    one_more c.args.variables.now before c.args.item.now c.in_ok-piece.piece c.args.gathered.now _ h c.in_ok-piece.ensures c.in-Ok.ensures.items
    (ap (λ n. c.args.gathered.now.size + n) c.size_of-more.ensures)

pub returns-clause-size : goal.returns-clause-size
returns-clause-size c =
    let count : c.size_of-more.result ≡ count_of c.args.variables.now c.args.item.now = c.size_of-more.ensures ∙ piece_count c.args.variables.now c.args.item.now c.in_ok-piece.piece c.in_ok-piece.ensures in
    ap (λ n. c.args.gathered.now.size + n) count

pub returns-then-more-gathered-clause-fits : goal.returns-then-more-gathered-clause-fits
returns-then-more-gathered-clause-fits c = λ few _.
    let count : c.size_of-more.result ≡ count_of c.args.variables.now c.args.item.now = c.size_of-more.ensures ∙ piece_count c.args.variables.now c.args.item.now c.in_ok-piece.piece c.in_ok-piece.ensures in
    omega (arith, few, count)
