use Rattle.std.proofs.Common.{get_or, ap, sym, ◌∙◌}
use Rattle.fj_list.specs.ListInput.{is_separator}
use Rattle.fj_list.proofs.Tokens.{value_slash, value_separator, value_token}
use Rattle.fj_list.proofs.scan.Scan.read_value.Goals as goal

pub returns-then-c-eq47-clause-split : goal.returns-then-c-eq47-clause-split
returns-then-c-eq47-clause-split c = λ ending to_come.
    let s = c.args.self.now in
    value_slash c.args.comma ending s.line s.at to_come c.requires.there (sym (ap (λ l. get_or l s.at 0) c.bytes.ensures) ∙ c.if-c-eq47.true)

pub returns-then-is_separator-clause-split : goal.returns-then-is_separator-clause-split
returns-then-is_separator-clause-split c = λ ending to_come.
    let s = c.args.self.now in
    value_separator c.args.comma ending s.line s.at to_come c.requires.there (λ e. c.if-c-eq47.false (ap (λ l. get_or l s.at 0) c.bytes.ensures ∙ e))
    (sym (ap (λ l. is_separator c.args.comma (get_or l s.at 0)) c.bytes.ensures) ∙ sym c.is_separator.ensures ∙ c.if-is_separator.true)

pub returns-clause-split : goal.returns-clause-split
returns-clause-split c = λ ending to_come.
    let s = c.args.self.now in
    value_token c.args.comma ending s.line s.at to_come c.requires.there (λ e. c.if-c-eq47.false (ap (λ l. get_or l s.at 0) c.bytes.ensures ∙ e))
    (sym (ap (λ l. is_separator c.args.comma (get_or l s.at 0)) c.bytes.ensures) ∙ sym c.is_separator.ensures ∙ c.if-is_separator.false)
    ∙ c.read_token.ensures.split ending to_come
