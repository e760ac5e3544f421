use Rattle.std.proofs.Common.{IsTrue, [], ◌∷◌, ◌++◌, refl, ap, ◌∙◌, rules}
use Rattle.fj_book.specs.declared.pending.Pending.{Pending}
use Rattle.fj_run_pending.specs.Busy.{with_transfer}
use Rattle.fj_run_pending.specs.Tied.{entered_marks}
use Rattle.fj_run_pending.proofs.Tying.{book_below, entered_is, tied_as}
use Rattle.fj_run_pending.proofs.pendings.Pendings.enter.Goals as goal

pub enter-requires : goal.enter-requires
enter-requires c =
    let next : IsTrue c.is_next.result = search rules in
    book_below c.self.inside.book c.self.inside.helds.items c.args.entered.tag.0 c.self.invariant.same (c.is_next.ensures.next next).id

pub invariant_of-self-2 : goal.invariant_of-self-2
invariant_of-self-2 c =
    let next : IsTrue c.is_next.result = search rules in
    let hs = c.self.inside.helds.items in
    let h = c.args.entered in
    let marks = c.self.inside.marks.items in
    let e : Pending = record { tag = h.tag; unit = h.unit; input = h.input; places = c.args.places; number = h.number } in
    tied_as (hs ++ h ∷ []) c.push_back_reserved.new.self.items (c.self.inside.book ++ e ∷ []) c.enter.new.self (entered_marks marks h) c.mark_entered.new.marks.items (with_transfer c.self.inside.busy.items h.unit h.tag) c.add_transfer.new.busy.items
    (c.push_back_reserved.ensures.items ∙ ap (λ l. l ++ h ∷ []) c.in_ok-reserve.ensures.items) c.in_ok-enter.ensures.ok c.mark_entered.ensures (c.add_transfer.ensures ∙ ap (λ l. with_transfer l h.unit h.tag) c.in_ok-reserve-2.ensures.items)
    (entered_is hs c.self.inside.book marks c.self.inside.busy.items h e c.self.invariant c.requires.unanswered (record { tag = refl; unit = refl; input = refl; places = c.requires.same }) (c.is_next.ensures.next next))
