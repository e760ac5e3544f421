use Rattle.std.proofs.Common.{ℕ, List, drop, get_or, ap, sym, ◌∙◌}
use Rattle.std.proofs.lemmas.List.{take_rest}
use Rattle.fj_list.specs.ListInput.{ends_constant, is_mark}
use Rattle.fj_list.proofs.Widths.{width_found}
use Rattle.fj_list.proofs.Tokens.{constant_undelimited}
use Rattle.fj_list.proofs.scan.Scan.read_constant.Goals as goal

pub returns-clause-split : goal.returns-clause-split
returns-clause-split c = λ ending to_come.
    let s = c.args.self.now in
    constant_undelimited c.args.comma ending c.args.count s.line s.at c.width_to-width.result to_come c.requires.there
    (ap (λ (l : List ℕ). is_mark (get_or l s.at 0)) (sym c.bytes.ensures) ∙ sym c.is_mark.ensures ∙ c.if-is_mark.false)
    (width_found (ends_constant c.args.comma) (drop s.at s.line) _ _ _ c.end_in.ensures c.width_to-width.ensures (take_rest c.bytes-2.result.now s.at ∙ ap (drop s.at) c.bytes-2.ensures))
