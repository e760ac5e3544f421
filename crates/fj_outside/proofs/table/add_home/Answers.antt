use Rattle.fj_outside.proofs.TableLaws.{added}
use Rattle.fj_outside.proofs.table.add_home.Goals as goal

pub returns-clause-ok : goal.returns-clause-ok
returns-clause-ok c = added c.args.table.now.entries c.put.new.values.entries c.args.name.now c.args.file c.is_hurt.result (record { each = c.in_ok-put.ensures.ok }) c.is_hurt.ensures c.requires
