use Rattle.std.proofs.Common.{map, ◌∙◌}
use Rattle.fj_run_units.specs.Units.{connected_of}
use Rattle.fj_run_pending.specs.Plain.{entries}
use Rattle.fj_run_pending.specs.Waits.{waited_of}
use Rattle.fj_run_script.proofs.Beginnings.{no_halts}
use Rattle.fj_run_script.proofs.halted.halted_slots.Goals as goal

pub returns-then-is_idle-clause-halted : goal.returns-then-is_idle-clause-halted
returns-then-is_idle-clause-halted c = c.new-slots.ensures ∙ no_halts (waited_of c.args.whose (entries c.args.pending.now)) (map connected_of c.args.units.now) (c.is_idle.ensures.waited c.if-is_idle.true)
