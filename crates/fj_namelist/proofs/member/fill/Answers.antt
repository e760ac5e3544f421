use Rattle.std.proofs.Common.{◌≡◌, ◌<◌, suc, ◌-◌, ◌+◌, Option, List, sym, ap, ◌∙◌, arith}
use Rattle.fj_value.specs.declared.value.Cell.{Cell}
use Rattle.fj_value.specs.declared.condition.Condition.{Condition}
use Rattle.fj_namelist.specs.GroupInput.{Result, filled}
use Rattle.fj_namelist.specs.Walker.{goes}
use Rattle.fj_namelist.proofs.Filling.{fill_none, fill_on}
use Rattle.fj_namelist.proofs.member.fill.Goals as goal

pub returns-then-at-e-clause-filled : goal.returns-then-at-e-clause-filled
returns-then-at-e-clause-filled c = λ next.
    let l = c.loop-k in
    let some : 0 < c.args.count - l.k = omega arith in
    sym (l.invariant.filled next) ∙ fill_none c.args.e c.args.form c.args.chars.now (c.args.count - l.k) l.at l.cells next some (omega arith)

pub returns-in-Some-clause-filled : goal.returns-in-Some-clause-filled
returns-in-Some-clause-filled c = λ next.
    let l = c.loop-k in
    let e = c.args.e in
    let cs = c.args.chars.now in
    let step : c.args.count - l.k ≡ suc (c.args.count - (l.k + 1)) = omega arith in
    let rest : List Cell → Result = λ cells'. filled e c.args.form cs (c.args.count - (l.k + 1)) (l.at + 1) cells' next in
    sym (l.invariant.filled next)
    ∙ fill_on e c.args.form cs (c.args.count - l.k) (c.args.count - (l.k + 1)) l.at l.cells next step (omega arith)
    ∙ c.in_ok-condition.ensures.given rest
    ∙ ap (λ (o : Option Condition). goes o c.give.new.cells rest) c.in-Some.is

pub loop-k-preserved : goal.loop-k-preserved
loop-k-preserved c =
    let l = c.loop-k in
    let e = c.args.e in
    let cs = c.args.chars.now in
    let step : c.args.count - l.k ≡ suc (c.args.count - (l.k + 1)) = omega arith in
    record {
      filled = λ next.
          let rest : List Cell → Result = λ cells'. filled e c.args.form cs (c.args.count - (l.k + 1)) (l.at + 1) cells' next in
          ap (λ (o : Option Condition). goes o c.give.new.cells rest) (sym c.in_default.is)
          ∙ sym (c.in_ok-condition.ensures.given rest)
          ∙ sym (fill_on e c.args.form cs (c.args.count - l.k) (c.args.count - (l.k + 1)) l.at l.cells next step (omega arith))
          ∙ l.invariant.filled next;
      places = c.in_ok-condition.ensures.places ∙ l.invariant.places;
      count = c.in_ok-condition.ensures.count ∙ l.invariant.count;
    }
