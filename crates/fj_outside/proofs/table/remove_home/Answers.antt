use Rattle.std.proofs.Common.{sym}
use Rattle.fj_outside.proofs.TableLaws.{exists_entry, removed}
use Rattle.fj_outside.proofs.table.remove_home.Goals as goal

pub unreachable-requires : goal.unreachable-requires
unreachable-requires c = exists_entry c.args.table.now.entries c.args.name.now c.requires.exists (sym c.in-None.ensures.before)

pub returns : goal.returns
returns c = removed c.args.table.now.entries c.swap.new.values.entries c.args.name.now c.is_hurt.result (record { each = c.in-Some.ensures.set }) c.is_hurt.ensures c.requires.free
