use Rattle.std.proofs.Common.{◌≡◌, true, false, not, sym, ap, ◌∙◌, arith}
use Rattle.std.specs.List.{list_any}
use Rattle.fj_store.specs.Slots.{all_read}
use Rattle.fj_store.specs.Variables.{is_undefined}
use Rattle.fj_store.proofs.RunLemmas.{none_in_run}
use Rattle.fj_store.proofs.StoreLemmas.{undefined_at_run, undefined_lost}
use Rattle.fj_store.proofs.store.Store.has_undefined.Goals as goal

pub returns-then-not-is_filled : goal.returns-then-not-is_filled
returns-then-not-is_filled c = undefined_at_run c.self.inside.kinds.items c.self.inside.slots c.args.self.now c.in-Some.values.now c.args.run c.any_undefined.result c.self.view_is c.in-Some.ensures.some c.any_undefined.ensures

pub returns-else-not-is_filled : goal.returns-else-not-is_filled
returns-else-not-is_filled c =
    let slots = c.self.inside.slots in
    let run = c.args.run in
    let filled : c.is_filled.result ≡ true = c.if-not-is_filled.false in
    let none : list_any is_undefined c.in-Some.values.now ≡ false = none_in_run is_undefined (all_read slots) c.in-Some.values.now run.var run.first run.count (c.is_filled.ensures filled) c.in-Some.ensures.some in
    undefined_at_run c.self.inside.kinds.items slots c.args.self.now c.in-Some.values.now run (not c.is_filled.result) c.self.view_is c.in-Some.ensures.some (ap not filled ∙ sym none)

pub returns-in-None : goal.returns-in-None
returns-in-None c = undefined_lost c.self.inside.kinds.items c.self.inside.slots c.args.self.now c.args.run c.self.view_is (c.in-None.ensures.none (omega arith))
