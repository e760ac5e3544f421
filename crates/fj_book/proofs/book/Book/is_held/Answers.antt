use Rattle.std.proofs.Common.{not, sym, ap, ◌∙◌, arith}
use Rattle.std.specs.List.{list_any}
use Rattle.std.specs.VecDeque.{deque_len}
use Rattle.fj_book.specs.Entries.{holders}
use Rattle.fj_book.specs.Prohibitions.{is_held}
use Rattle.fj_book.proofs.AnyLemmas.{any_never, none_there}
use Rattle.fj_book.proofs.book.Book.is_held.Goals as goal

pub returns-else-not-is_empty : goal.returns-else-not-is_empty
returns-else-not-is_empty g c =
    let places = (g.N.Needs.need c.args.need.now).defines in
    let none = none_there c.self.inside.entries.items (deque_len c.self.inside.entries) c.is_empty.result (omega (arith, c.self.inside.entries.ok)) c.is_empty.ensures c.if-not-is_empty.false in
    ap not c.if-not-is_empty.false ∙ sym (ap (λ es. list_any (is_held (holders es)) places) (sym c.self.view_is ∙ none) ∙ any_never places)
