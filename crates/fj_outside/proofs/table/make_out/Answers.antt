use Rattle.fj_outside.proofs.TableLaws.{made_out}
use Rattle.fj_outside.proofs.table.make_out.Goals as goal

pub returns-clause-ok : goal.returns-clause-ok
returns-clause-ok c = made_out c.args.table.now.entries c.put.new.values.entries c.args.name.now c.is_hurt.result (record { each = c.in_ok-put.ensures.ok }) c.is_hurt.ensures
