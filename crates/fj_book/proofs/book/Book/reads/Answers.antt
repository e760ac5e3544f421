use Rattle.std.proofs.Common.{true, ap, ◌∙◌}
use Rattle.std.specs.List.{list_any}
use Rattle.fj_store.proofs.RunLemmas.{any_same}
use Rattle.fj_store.specs.Places.{places_of}
use Rattle.fj_book.specs.Counting.{holds_in}
use Rattle.fj_book.specs.Entries.{holders}
use Rattle.fj_book.specs.Prohibitions.{is_read}
use Rattle.fj_book.proofs.BookLemmas.{read_is}
use Rattle.fj_book.proofs.book.Book.reads.Goals as goal

pub returns : goal.returns
returns c =
    let es = c.self.inside.entries.items in
    c.any_held.ensures ∙ any_same (λ place. list_any (holds_in true place) es) (is_read (holders es)) (λ p. read_is es p) (places_of c.args.run)
    ∙ ap (λ xs. list_any (is_read (holders xs)) (places_of c.args.run)) c.self.view_is
