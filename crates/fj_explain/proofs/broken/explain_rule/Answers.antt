use Rattle.std.proofs.Common.{◌≡◌, position, List, None, Err, sym, subst}
use Rattle.fj_statement.specs.declared.deck.Deck.{Deck}
use Rattle.fj_statement.specs.declared.deck.Lined.{Lined}
use Rattle.fj_deck.specs.Deck.{Reads}
use Rattle.fj_deck.specs.declared.fault.DeckFault.{DeckFault}
use Rattle.fj_explain.specs.Breaks.{is_on}
use Rattle.fj_explain.proofs.broken.explain_rule.Goals as goal

-- a text that is refused is no deck
pub returns-in-Err-Refused : goal.returns-in-Err-Refused
returns-in-Err-Refused c deck is =
    let refused = subst (λ (f : DeckFault). Reads c.args.text.now (Err f)) c.in-Err-Refused.field-0-is c.in-Err-Refused.ensures.answer in
    absurd (c.one_answer.ensures.apart c.args.text.now deck _ _ is refused)

-- and a text is one deck
pub returns-in_default : goal.returns-in_default
returns-in_default c deck is =
    let none = subst (λ (statements : List Lined). position (is_on c.args.line) statements ≡ None) c.as_slice-statements.ensures (sym c.in_default.ensures) in
    subst (λ (d : Deck). position (is_on c.args.line) d.statements ≡ None) (c.one_answer.ensures.deck c.args.text.now _ deck c.in-Ok.ensures.answer is) none
