use Rattle.std.proofs.Common.{◌≡◌, ◌++◌, ◌-◌, ◌*◌}
use Rattle.fj_gen.specs.Draws.{draws}
use Rattle.fj_gen.specs.Generated.{opening_text, transfers_text}
use Rattle.fj_gen.proofs.deck.generate.Given as goal

abbrev pub invariant-loop-before : goal.invariant-loop-before
invariant-loop-before l =
    l.text ++ transfers_text l.before (draws (2 * (l.count - l.before)) l.state) ≡ opening_text ++ transfers_text 0 (draws (2 * l.fn.count) l.fn.seed)
