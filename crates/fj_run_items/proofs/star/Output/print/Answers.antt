use Rattle.std.proofs.Common.{◌≡◌, ℕ, Bool, ◌||◌, not, List, Result, Err, refl, rules}
use Rattle.fj_run_items.specs.declared.lost.Lost.TheVariants.{Sink}
use Rattle.fj_value.specs.declared.condition.Condition.{Condition}
use Rattle.fj_transfer.specs.Transfer.{is_explicit}
use Rattle.fj_transfer.specs.Printing.{Printed, actions_by, control_of, printed_by}
use Rattle.fj_meaning.specs.State.{Output}
use Rattle.fj_meaning.specs.Transfers.{printed_to}
use Rattle.fj_run_items.specs.Handing.{HandsFront}
use Rattle.fj_run_items.specs.Shown.{shown_cells}
use Rattle.fj_run_items.proofs.Prints.{on_err, kept_low, went_on, went_over, went_front, went_part, none_taken, left_is, went_printed, seen, flat_of}
use Rattle.fj_run_items.proofs.star.Output.print.Goals as goal

pub returns-then-begun-clause-front : goal.returns-then-begun-clause-front
returns-then-begun-clause-front g c = λ _.
    let ends : Bool = c.args.advance || not (is_explicit c.args.layout.now) in
    let R : ℕ → Result Printed Condition = λ b. printed_by 65536 b (actions_by c.args.layout.now (control_of c.args.layout.now) c.args.modes c.args.advance (shown_cells c.args.shown.now)) in
    let taken : List ℕ = g.W.Sink.taken c.args.out.now in
    none_taken ends (R c.args.self.now.begun) c.args.self.now taken taken (kept_low c.self.inside c.args.self.now c.self.view_is) refl

pub returns-in_err-hand_on-in-Ok-clause-front : goal.returns-in_err-hand_on-in-Ok-clause-front
returns-in_err-hand_on-in-Ok-clause-front g c = λ told.
    let ends : Bool = c.args.advance || not (is_explicit c.args.layout.now) in
    let R : ℕ → Result Printed Condition = λ b. printed_by 65536 b (actions_by c.args.layout.now (control_of c.args.layout.now) c.args.modes c.args.advance (shown_cells c.args.shown.now)) in
    let o : Output = c.args.self.now in
    let w = went_on ends R o c.self.inside c.print.new.out c.len-begun.result c.in-Ok.count c.self.view_is c.len-begun.ensures c.in-Ok.ensures in
    let taken : List ℕ = g.W.Sink.taken c.args.out.now in
    let taken' : List ℕ = g.W.Sink.taken c.hand_on.new.out in
    on_err c.from_residual.result (HandsFront taken taken' o (printed_to ends o (R o.begun)).0)
    (went_front ends (R o.begun) o _ c.in-Ok.count taken taken' w (kept_low c.self.inside o c.self.view_is) (c.hand_on.ensures.front told))

pub returns-in_err-hand_on-in-Ok-clause-part : goal.returns-in_err-hand_on-in-Ok-clause-part
returns-in_err-hand_on-in-Ok-clause-part g c = λ told lost.
    let ends : Bool = c.args.advance || not (is_explicit c.args.layout.now) in
    let R : ℕ → Result Printed Condition = λ b. printed_by 65536 b (actions_by c.args.layout.now (control_of c.args.layout.now) c.args.modes c.args.advance (shown_cells c.args.shown.now)) in
    let o : Output = c.args.self.now in
    let w = went_on ends R o c.self.inside c.print.new.out c.len-begun.result c.in-Ok.count c.self.view_is c.len-begun.ensures c.in-Ok.ensures in
    let sink : c.hand_on.result ≡ Err Sink = search rules in
    went_part ends (R o.begun) o _ c.in-Ok.count (g.W.Sink.taken c.args.out.now) (g.W.Sink.taken c.hand_on.new.out) w (kept_low c.self.inside o c.self.view_is) (c.hand_on.ensures.part told sink)

pub returns-in_ok-hand_on-in-Ok-clause-taken : goal.returns-in_ok-hand_on-in-Ok-clause-taken
returns-in_ok-hand_on-in-Ok-clause-taken g c = λ told.
    let ends : Bool = c.args.advance || not (is_explicit c.args.layout.now) in
    let R : ℕ → Result Printed Condition = λ b. printed_by 65536 b (actions_by c.args.layout.now (control_of c.args.layout.now) c.args.modes c.args.advance (shown_cells c.args.shown.now)) in
    let o : Output = c.args.self.now in
    let w = went_on ends R o c.self.inside c.print.new.out c.len-begun.result c.in-Ok.count c.self.view_is c.len-begun.ensures c.in-Ok.ensures in
    let taken : List ℕ = g.W.Sink.taken c.args.out.now in
    let taken' : List ℕ = g.W.Sink.taken c.hand_on.new.out in
    let mid : Output = seen c.self.inside.is_open (flat_of c.self.inside) c.print.new.out in
    went_over ends (R o.begun) o mid c.leave.new.self c.in-Ok.count taken taken' w (kept_low c.self.inside o c.self.view_is)
    (left_is ends c.ends_record.result mid c.hand_on.new.self c.leave.new.self c.in-Ok.count c.in_ok-hand_on-in-Ok.ensures.new c.ends_record.ensures c.leave.ensures)
    (c.in_ok-hand_on-in-Ok.ensures.ok told)

pub returns-in_ok-hand_on-in-Ok-clause-printed : goal.returns-in_ok-hand_on-in-Ok-clause-printed
returns-in_ok-hand_on-in-Ok-clause-printed g c =
    let ends : Bool = c.args.advance || not (is_explicit c.args.layout.now) in
    let R : ℕ → Result Printed Condition = λ b. printed_by 65536 b (actions_by c.args.layout.now (control_of c.args.layout.now) c.args.modes c.args.advance (shown_cells c.args.shown.now)) in
    let o : Output = c.args.self.now in
    let w = went_on ends R o c.self.inside c.print.new.out c.len-begun.result c.in-Ok.count c.self.view_is c.len-begun.ensures c.in-Ok.ensures in
    let mid : Output = seen c.self.inside.is_open (flat_of c.self.inside) c.print.new.out in
    went_printed ends (R o.begun) o mid c.leave.new.self c.in-Ok.count w
    (left_is ends c.ends_record.result mid c.hand_on.new.self c.leave.new.self c.in-Ok.count c.in_ok-hand_on-in-Ok.ensures.new c.ends_record.ensures c.leave.ensures)

pub returns-in-Err-Memory-clause-front : goal.returns-in-Err-Memory-clause-front
returns-in-Err-Memory-clause-front g c = λ _.
    let ends : Bool = c.args.advance || not (is_explicit c.args.layout.now) in
    let R : ℕ → Result Printed Condition = λ b. printed_by 65536 b (actions_by c.args.layout.now (control_of c.args.layout.now) c.args.modes c.args.advance (shown_cells c.args.shown.now)) in
    let taken : List ℕ = g.W.Sink.taken c.args.out.now in
    none_taken ends (R c.args.self.now.begun) c.args.self.now taken taken (kept_low c.self.inside c.args.self.now c.self.view_is) refl
