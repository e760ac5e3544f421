use Rattle.std.proofs.Common.{◌-◌, ◌+◌, ◌%◌, ◌^◌, ◌&&◌, ltb, take, drop, sym, ap, ◌∙◌, rules}
use Rattle.std.specs.List.{list_any}
use Rattle.std.proofs.lemmas.Bool.{lt-ltb}
use Rattle.fj_book.proofs.RowLemmas.{any_mapped_part, any_of_same}
use Rattle.fj_book.proofs.row.Row.any.Goals as goal

pub returns-then-self : goal.returns-then-self
returns-then-self c =
    c.any_above.ensures
    ∙ ap (λ xs. list_any (λ n. ltb 0 ((c.self.inside.all + n) % 2 ^ 64)) (take (c.args.to - c.args.from) (drop c.args.from xs))) c.deref.ensures.value
    ∙ any_mapped_part c.self.inside.all c.args.from (c.args.to - c.args.from) c.self.inside.each.items c.args.self.now c.self.view_is

pub returns-then-from-to : goal.returns-then-from-to
returns-then-from-to c =
    ap (λ b. b && ltb 0 c.self.inside.all) (sym (lt-ltb c.args.from c.args.to c.if-from-to.true))
    ∙ sym (any_of_same c.self.inside.all c.args.from c.args.to c.self.inside.each.items c.args.self.now c.self.view_is (c.self.invariant c.if-self.false) (search rules) c.requires.order c.requires.within)
