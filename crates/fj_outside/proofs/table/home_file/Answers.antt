use Rattle.std.proofs.Common.{sym, ◌∙◌, refl}
use Rattle.fj_outside.proofs.TableLaws.{file_by, no_file_by, not_home}
use Rattle.fj_outside.proofs.table.home_file.Goals as goal

pub returns-in-Home : goal.returns-in-Home
returns-in-Home c = file_by c.args.table.now.entries c.args.name.now c.in-Some.entry.now _ c.in-Some.ensures.value c.in-Home.is

pub returns-in-InUse : goal.returns-in-InUse
returns-in-InUse c = sym (not_home c.in-Some.entry.now.slot c.in-InUse.is) ∙ file_by c.args.table.now.entries c.args.name.now c.in-Some.entry.now _ c.in-Some.ensures.value refl

pub returns-in-None : goal.returns-in-None
returns-in-None c = no_file_by c.args.table.now.entries c.args.name.now c.in-None.ensures.value
