use Rattle.std.proofs.Common.{sym}
use Rattle.fj_outside.proofs.TableLaws.{in_use_entry, given_back}
use Rattle.fj_outside.proofs.table.give_home.Goals as goal

pub unreachable-requires : goal.unreachable-requires
unreachable-requires c = in_use_entry c.args.table.now.entries c.args.name.now c.requires (sym c.in-None.ensures.before)

pub returns : goal.returns
returns c = given_back c.args.table.now.entries c.swap.new.values.entries c.args.name.now c.args.file c.args.sound (record { each = c.in-Some.ensures.set })
