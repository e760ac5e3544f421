use Rattle.std.proofs.Common.{◌∙◌}
use Rattle.fj_book.proofs.RowLemmas.{all_added, part_added}
use Rattle.fj_book.proofs.row.Row.add.Goals as goal

pub returns-then-to-len : goal.returns-then-to-len
returns-then-to-len c = all_added c.self.inside.all c.args.by c.args.from c.args.to c.self.inside.each.items c.args.self.now c.self.view_is c.if-from-eq0.true (c.if-to-len.true ∙ c.len.ensures ∙ c.self.inside.each.ok.0)

pub returns : goal.returns
returns c = part_added c.self.inside.all c.args.by c.args.from c.args.to c.self.inside.each.items c.add_each.new.each.items c.args.self.now c.self.view_is c.add_each.ensures
