use Rattle.std.proofs.Common.{arith}
use Rattle.fj_syntax.proofs.TokenLemmas.{literal_closed}
use Rattle.fj_syntax.proofs.scanner.literal.Goals as goal

pub overflow_sub-inside : goal.overflow_sub-inside
overflow_sub-inside c = omega (arith, (literal_closed c.args.delimiter c.args.line.now c.in_ok-behind.behind.now c.requires c.in_ok-behind.ensures).within)

pub slice_bounds-inside-count : goal.slice_bounds-inside-count
slice_bounds-inside-count c = omega (arith, (literal_closed c.args.delimiter c.args.line.now c.in_ok-behind.behind.now c.requires c.in_ok-behind.ensures).within)
