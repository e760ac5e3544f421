use Rattle.std.proofs.Common.{◌+◌, drop, ap, ◌∙◌}
use Rattle.std.proofs.lemmas.List.{take_rest}
use Rattle.fj_list.specs.Stream.{is_no_blank}
use Rattle.fj_list.proofs.Widths.{width_found}
use Rattle.fj_list.proofs.scan.Scan.pass_blanks.Goals as goal

pub returns-clause-at : goal.returns-clause-at
returns-clause-at c = ap (λ n. c.args.self.now.at + n) (width_found is_no_blank (drop c.args.self.now.at c.args.self.now.line) _ _ _ c.no_blank_in.ensures c.width_to-width.ensures (take_rest c.bytes.result.now c.args.self.now.at ∙ ap (drop c.args.self.now.at) c.bytes.ensures))
