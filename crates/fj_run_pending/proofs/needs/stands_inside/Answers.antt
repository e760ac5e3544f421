use Rattle.std.proofs.Common.{◌++◌}
use Rattle.fj_store.specs.Places.{places_of}
use Rattle.fj_meaning.specs.Needs.{if_given, transfer_places}
use Rattle.fj_run_pending.proofs.Meeting.{stands_in, stands_out}
use Rattle.fj_run_pending.proofs.needs.stands_inside.Goals as goal

pub returns-else-any_specified : goal.returns-else-any_specified
returns-else-any_specified c =
    let t = c.args.transfer.now in
    stands_in c.args.variables.now t.unit c.in-Some.file (places_of c.file_run.result) (if_given t.id ++ if_given t.size ++ if_given t.iostat) (transfer_places c.args.variables.now t) c.any_specified.result c.any_in_transfer.result
    c.in-Some.ensures c.file_run.ensures c.any_specified.ensures c.if-any_specified.false c.any_in_transfer.ensures

pub returns-in-None : goal.returns-in-None
returns-in-None c = let t = c.args.transfer.now in stands_out c.args.variables.now t.unit (if_given t.id ++ if_given t.size ++ if_given t.iostat) (transfer_places c.args.variables.now t) c.in-None.ensures
