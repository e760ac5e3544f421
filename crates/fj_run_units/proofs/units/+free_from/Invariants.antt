use Rattle.fj_run_units.proofs.units.+free_from.Given as goal

abbrev pub decreases-free_from : goal.decreases-free_from
decreases-free_from l = l.count
