use Rattle.std.proofs.Common.{◌≡◌, drop}
use Rattle.std.specs.List.{list_any}
use Rattle.fj_modes.specs.declared.asked.Wanted.{Wanted}
use Rattle.fj_meaning_jobs.specs.Acting.{asks_connection}
use Rattle.fj_run_statements.proofs.inquiry.needs_look.Given as goal

abbrev pub invariant-loop-wanted : goal.invariant-loop-wanted
invariant-loop-wanted l = list_any (λ (w : Wanted). asks_connection w.what) (drop l.wanted-index l.wanted-items) ≡ list_any (λ (w : Wanted). asks_connection w.what) l.asked
