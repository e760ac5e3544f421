use Rattle.std.proofs.Common.{refl, true, false}
use Rattle.fj_outside.proofs.TableLaws.{exists_by, absent_by}
use Rattle.fj_outside.proofs.table.is_there.Goals as goal

pub returns-in-Home : goal.returns-in-Home
returns-in-Home c = exists_by c.args.table.now.entries c.args.name.now c.in-Some.entry.now _ true c.in-Some.ensures.value c.in-Home.is refl

pub returns-in-InUse : goal.returns-in-InUse
returns-in-InUse c = exists_by c.args.table.now.entries c.args.name.now c.in-Some.entry.now _ true c.in-Some.ensures.value c.in-InUse.is refl

pub returns-in-Gone : goal.returns-in-Gone
returns-in-Gone c = exists_by c.args.table.now.entries c.args.name.now c.in-Some.entry.now _ false c.in-Some.ensures.value c.in-Gone.is refl

pub returns-in-None : goal.returns-in-None
returns-in-None c = absent_by c.args.table.now.entries c.args.name.now c.in-None.ensures.value
