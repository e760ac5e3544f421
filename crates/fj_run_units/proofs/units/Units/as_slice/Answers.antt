use Rattle.std.proofs.Common.{◌≤◌, length, subst}
use Rattle.fj_meaning_jobs.specs.Desks.{most_slots}
use Rattle.fj_run_units.proofs.Slots.{few_units}
use Rattle.fj_run_units.proofs.units.Units.as_slice.Goals as goal

pub returns-clause-few : goal.returns-clause-few
returns-clause-few c = subst (λ us. length us ≤ most_slots) c.self.view_is (few_units c.self.inside.list.items c.self.invariant.slots)
