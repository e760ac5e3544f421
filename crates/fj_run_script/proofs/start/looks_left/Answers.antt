use Rattle.std.proofs.Common.{◌≡◌, ◌<◌, get_or, length, sym, ap, ◌∙◌, arith, zero-add}
use Rattle.std.proofs.lemmas.List.Sums.{count_by-le-length}
use Rattle.fj_statement.specs.declared.deck.Lined.{Lined}
use Rattle.fj_meaning_looks.specs.Inquiring.{asks_whether}
use Rattle.fj_run_script.specs.Room.{looks_left}
use Rattle.fj_run_script.proofs.Looks.{more_counted, same_counted}
use Rattle.fj_run_script.proofs.start.looks_left.Goals as goal
use Rattle.fj_run_script.proofs.start.looks_left.Goals.{then-asks_whether, else-asks_whether}

pub loop-lined-init : goal.loop-lined-init
loop-lined-init c = zero-add (looks_left c.args.statements.now)

pub loop-lined-preserved : goal.loop-lined-preserved
loop-lined-preserved c =
    let sts = c.args.statements.now in
    let low : c.loop-lined.lined-index < length sts = omega arith in
    let l = c.lined-item.result in
    let asked : asks_whether (get_or sts c.loop-lined.lined-index l).what ≡ c.asks_whether.result = ap (λ (x : Lined). asks_whether x.what) (sym c.lined-item.is) ∙ sym c.asks_whether.ensures in
    elim c.if-asks_whether.branch [
      | then-asks_whether w ↦ more_counted c.loop-lined.count c.if-asks_whether.count sts c.loop-lined.lined-index l low (asked ∙ w.if-asks_whether.true) w.count-is c.loop-lined.invariant
      | else-asks_whether w ↦ same_counted c.loop-lined.count c.if-asks_whether.count sts c.loop-lined.lined-index l low (asked ∙ w.if-asks_whether.false) w.count-is c.loop-lined.invariant
    ]

pub overflow_add-count : goal.overflow_add-count
overflow_add-count c =
    let few = count_by-le-length (λ (l : Lined). asks_whether l.what) c.args.statements.now in
    omega (arith, c.loop-lined.invariant, few)
