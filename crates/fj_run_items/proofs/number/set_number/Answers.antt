use Rattle.std.proofs.Common.{ap, w64}
use Rattle.std.proofs.lemmas.Int.{to_z-of_z}
use Rattle.fj_value.specs.declared.value.Value.TheVariants.{Int}
use Rattle.fj_run_items.proofs.Ends.{number_set}
use Rattle.fj_run_items.proofs.number.set_number.Goals as goal

pub returns-in-Some-clause-vars : goal.returns-in-Some-clause-vars
returns-in-Some-clause-vars c =
    number_set c.args.variables.now c.args.store.now c.set.new.self c.args.place c.in-Some.place c.args.n _ c.in-Some.is c.requires (ap Int (to_z-of_z w64 c.args.n c.ranges.n)) c.set.ensures
