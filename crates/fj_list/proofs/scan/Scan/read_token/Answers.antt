use Rattle.std.proofs.Common.{◌-◌, length, take, drop, ap, ◌∙◌}
use Rattle.std.proofs.lemmas.List.{take_rest}
use Rattle.fj_list.proofs.Tokens.{counted_on, not_counted_on}
use Rattle.fj_list.proofs.scan.Scan.read_token.Goals as goal

pub returns-in-Some-clause-split : goal.returns-in-Some-clause-split
returns-in-Some-clause-split c = λ ending to_come.
    let s = c.args.self.now in
    let line = c.bytes.result.now in
    counted_on s.line (take (length line - s.at) (drop s.at line)) s.at c.in-Some.width c.in-Some.count (take_rest line s.at ∙ ap (drop s.at) c.bytes.ensures) c.in-Some.ensures.some c.args.comma ending to_come
    ∙ c.read_repeated.ensures.split ending to_come

pub returns-in-None-clause-split : goal.returns-in-None-clause-split
returns-in-None-clause-split c = λ ending to_come.
    let s = c.args.self.now in
    let line = c.bytes.result.now in
    not_counted_on s.line (take (length line - s.at) (drop s.at line)) s.at (take_rest line s.at ∙ ap (drop s.at) c.bytes.ensures) c.in-None.ensures.none c.args.comma ending to_come
    ∙ c.read_constant.ensures.split ending to_come
