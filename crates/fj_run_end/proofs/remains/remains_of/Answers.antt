use Rattle.std.proofs.Common.{option_map, ap, ◌∙◌}
use Rattle.fj_slot.specs.declared.stop.Halt.{Halt}
use Rattle.fj_run_end.proofs.remains.remains_of.Goals as goal

pub returns : goal.returns
returns g c = record {
  ledger = c.served-slot.result;
  serves = c.served-slot.ensures.serves;
  finished = c.served-slot.ensures.finished;
  stopped = c.served-slot.ensures.stopped;
  bay = c.retire-bay.result;
  home = c.retire-bay.ensures;
  connection = c.into_connection.ensures;
  stop = c.stop_of-stop.ensures ∙ ap (option_map (λ (h : Halt). h.stop)) c.halted.ensures;
}
