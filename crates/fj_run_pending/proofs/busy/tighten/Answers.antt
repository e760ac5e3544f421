use Rattle.std.proofs.Common.{subst, sym, ap, ◌∙◌}
use Rattle.fj_run_pending.specs.Busy.{AreBusy, with_transfer}
use Rattle.fj_run_pending.proofs.Idle.{busy_gone, busy_raised, found_low, none_own}
use Rattle.fj_run_pending.proofs.busy.tighten.Goals as goal

pub returns-in-Some : goal.returns-in-Some
returns-in-Some c =
    let hs = c.args.helds.now.items in
    let found = sym c.first_of_unit-first.ensures ∙ c.in-Some.is in
    subst (λ l. AreBusy l hs) (sym (c.add_transfer.ensures ∙ ap (λ l. with_transfer l c.args.unit c.in-Some.first) c.take_off.ensures.left))
    (busy_raised c.args.busy.now.items c.args.unit c.in-Some.first hs c.requires.busy (found_low c.args.unit hs c.in-Some.first c.requires.ascending found))

pub returns-in_default : goal.returns-in_default
returns-in_default c =
    let hs = c.args.helds.now.items in
    let found = sym c.first_of_unit-first.ensures ∙ c.in_default.is in
    subst (λ l. AreBusy l hs) (sym c.take_off.ensures.left) (busy_gone c.args.busy.now.items c.args.unit hs c.requires.busy (none_own c.args.unit hs found))
