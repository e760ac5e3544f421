use Rattle.std.proofs.Common.{◌≡◌, ◌++◌, drop, map}
use Rattle.fj_meaning_turns.specs.Turns.{halted_slots}
use Rattle.fj_run_pending.specs.Plain.{entries}
use Rattle.fj_run_pending.specs.Waits.{waited_of}
use Rattle.fj_run_units.specs.Units.{connected_of}
use Rattle.fj_run_script.specs.Numbering.{AreSlots}
use Rattle.fj_run_script.proofs.halted.halted_slots.Given as goal

abbrev pub invariant-loop-at : goal.invariant-loop-at
invariant-loop-at l = record {
  halted : l.slots ++ halted_slots (waited_of l.whose (entries l.pending)) (map connected_of (drop l.at l.units)) ≡ halted_slots (waited_of l.whose (entries l.pending)) (map connected_of l.units);
  slots : AreSlots l.slots;
}
