use Rattle.std.proofs.Common.{sym, refl}
use Rattle.fj_outside.proofs.TableLaws.{made_out, file_by, home_entry, not_absent, home_slot, some_copied}
use Rattle.fj_outside.proofs.table.take_home.Goals as goal

pub unreachable-requires : goal.unreachable-requires
unreachable-requires c = home_slot c.in-Some.entry.slot c.in-InUse.is (home_entry c.args.table.now.entries c.args.name.now c.in-Some.entry _ (some_copied (λ x. x.now) c.home_file.result _ c.home_file.ensures c.if-is_none.ensures) c.in-Some.ensures.before refl)

pub unreachable-requires-in-None : goal.unreachable-requires-in-None
unreachable-requires-in-None c = not_absent c.args.table.now.entries c.args.name.now (some_copied (λ x. x.now) c.home_file.result _ c.home_file.ensures c.if-is_none.ensures) c.in-None.ensures.before

pub returns-clause-some : goal.returns-clause-some
returns-clause-some c = (
  sym (file_by c.args.table.now.entries c.args.name.now c.in-Some.entry _ c.in-Some.ensures.before c.in-Home.is),
  made_out c.args.table.now.entries c.swap.new.values.entries c.args.name.now c.is_hurt.result (record { each = c.in-Some.ensures.set }) c.is_hurt.ensures,
)
