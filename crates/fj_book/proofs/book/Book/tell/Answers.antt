use Rattle.std.proofs.Common.{◌≡◌, not, filter, remove, sym, ap, ◌∙◌, arith}
use Rattle.std.specs.List.{find}
use Rattle.fj_book.specs.Entries.{has_tag, tag_of}
use Rattle.fj_book.proofs.BookLemmas.{ascending_removed, find_absent, filter_absent, find_at, filter_at, same_read}
use Rattle.fj_book.proofs.CountLemmas.{kept_as}
use Rattle.fj_book.proofs.book.Book.tell.Goals as goal

pub returns-in_err-at-clause-told : goal.returns-in_err-at-clause-told
returns-in_err-at-clause-told c =
    c.from_residual.ensures
    ∙ sym (ap (find (has_tag c.args.tag.0)) (sym c.self.view_is) ∙ ap (λ t. find (has_tag t) c.self.inside.entries.items) (sym c.from.ensures) ∙ find_absent c.from.result c.self.inside.entries.items c.in_err-at.ensures.none)

pub returns-in_err-at-clause-left : goal.returns-in_err-at-clause-left
returns-in_err-at-clause-left c =
    sym (ap (filter (λ e. not (has_tag c.args.tag.0 e))) (sym c.self.view_is) ∙ ap (λ t. filter (λ e. not (has_tag t e)) c.self.inside.entries.items) (sym c.from.ensures)
    ∙ filter_absent c.from.result c.self.inside.entries.items c.in_err-at.ensures.none ∙ c.self.view_is)

pub invariant_of-self-2 : goal.invariant_of-self-2
invariant_of-self-2 c =
    let es = c.self.inside.entries.items in
    let at = c.in_ok-at.at in
    let low = c.in_ok-at.ensures.some.0 in
    kept_as (remove es at) c.remove.new.self.items c.count_out.new.inputs c.count_out.new.outputs c.in_ok-pending.ensures.items (ascending_removed es at low c.self.invariant.ascending)
    (c.count_out.ensures es at low (omega (arith, c.self.inside.entries.ok, c.self.inside.entries.small)) (λ d. same_read es at d c.in_ok-pending.pending low ∙ sym c.in_ok-pending.ensures.value) (c.self.invariant.inputs_counted, c.self.invariant.outputs_counted))

pub returns-clause-told : goal.returns-clause-told
returns-clause-told c =
    let tag : tag_of c.in_ok-pending.pending ≡ c.args.tag.0 = ap tag_of c.in_ok-pending.ensures.value ∙ c.in_ok-at.ensures.some.1 c.in_ok-pending.pending ∙ c.from.ensures in
    sym (ap (find (has_tag c.args.tag.0)) (sym c.self.view_is) ∙ ap (λ t. find (has_tag t) c.self.inside.entries.items) (sym tag)
    ∙ find_at c.self.inside.entries.items c.in_ok-at.at c.in_ok-pending.pending c.self.invariant.ascending c.in_ok-at.ensures.some.0 (sym c.in_ok-pending.ensures.value))

pub returns-clause-left : goal.returns-clause-left
returns-clause-left c =
    let tag : tag_of c.in_ok-pending.pending ≡ c.args.tag.0 = ap tag_of c.in_ok-pending.ensures.value ∙ c.in_ok-at.ensures.some.1 c.in_ok-pending.pending ∙ c.from.ensures in
    c.in_ok-pending.ensures.items
    ∙ sym (ap (filter (λ e. not (has_tag c.args.tag.0 e))) (sym c.self.view_is) ∙ ap (λ t. filter (λ e. not (has_tag t e)) c.self.inside.entries.items) (sym tag)
    ∙ filter_at c.self.inside.entries.items c.in_ok-at.at c.in_ok-pending.pending c.self.invariant.ascending c.in_ok-at.ensures.some.0 (sym c.in_ok-pending.ensures.value))
