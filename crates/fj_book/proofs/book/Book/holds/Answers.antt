use Rattle.std.proofs.Common.{◌||◌, false, sym, ap, ◌∙◌}
use Rattle.std.specs.List.{list_any}
use Rattle.fj_store.specs.Places.{places_of}
use Rattle.fj_book.specs.Counting.{holds_in}
use Rattle.fj_book.specs.Entries.{holders}
use Rattle.fj_book.specs.Prohibitions.{is_held}
use Rattle.fj_book.proofs.BookLemmas.{either_is}
use Rattle.fj_book.proofs.book.Book.holds.Goals as goal

pub returns-then-any_held : goal.returns-then-any_held
returns-then-any_held c =
    let es = c.self.inside.entries.items in
    c.if-any_held.true ∙ ap (λ b. b || list_any (λ place. list_any (holds_in false place) es) (places_of c.args.run)) (sym c.if-any_held.true ∙ c.any_held.ensures)
    ∙ either_is es (places_of c.args.run) ∙ ap (λ xs. list_any (is_held (holders xs)) (places_of c.args.run)) c.self.view_is

pub returns-else-any_held : goal.returns-else-any_held
returns-else-any_held c =
    let es = c.self.inside.entries.items in
    c.any_held-else-any_held.ensures ∙ ap (λ b. b || list_any (λ place. list_any (holds_in false place) es) (places_of c.args.run)) (sym c.if-any_held.false ∙ c.any_held.ensures)
    ∙ either_is es (places_of c.args.run) ∙ ap (λ xs. list_any (is_held (holders xs)) (places_of c.args.run)) c.self.view_is
