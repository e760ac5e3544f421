use Rattle.std.proofs.Common.{◌≡◌, ap, ◌∙◌, arith}
use Rattle.fj_gen.specs.Draws.{next_state, drawn}
use Rattle.fj_gen.proofs.Steps.{deck_is, drawn_twice}
use Rattle.fj_gen.proofs.deck.generate.Goals as goal

pub loop-before-preserved : goal.loop-before-preserved
loop-before-preserved c =
    let first : c.next_state-first.result ≡ next_state c.loop-before.state = c.next_state-first.ensures in
    let second : c.next_state-second.result ≡ next_state (next_state c.loop-before.state) = c.next_state-second.ensures ∙ ap next_state first in
    drawn_twice c.args.count c.loop-before.before c.loop-before.state c.loop-before.text c.push_transfer.new.text _ _ _ c.loop-before-test.true second
    (c.drawn.ensures ∙ ap drawn first) (c.drawn-in-loop-before.ensures ∙ ap drawn second) c.in_ok-push_transfer.ensures
    ∙ c.loop-before.invariant

pub returns : goal.returns
returns c =
    let all : c.loop-before.before ≡ c.args.count = omega (arith, c.loop-before.auto.before-end, c.loop-before-test.false) in
    c.in_ok-push_all.ensures.ok ∙ deck_is c.args.seed c.args.count c.loop-before.before c.loop-before.state c.loop-before.text c.closing.result.now all
    c.loop-before.invariant c.closing.ensures
