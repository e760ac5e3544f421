use Rattle.std.proofs.Common.{◌≡◌, not, true, List, [], ◌∷◌, filter, refl, sym, ap, subst, ◌∙◌}
use Rattle.fj_meaning.specs.Telling.{tells_id}
use Rattle.fj_meaning_turns.specs.Run as run
use Rattle.fj_run_pending.specs.declared.held.Held.{Held}
use Rattle.fj_run_pending.specs.Plain.{held, entries}
use Rattle.fj_run_pending.specs.Busy.{AreBusy, without_told}
use Rattle.fj_run_pending.specs.Taking.{without}
use Rattle.fj_run_pending.specs.Tied.{IsAscending}
use Rattle.fj_run_pending.specs.Waits.{waited_of, picks}
use Rattle.fj_run_pending.proofs.Tying.{kept_tied, taken_is, tied_as}
use Rattle.fj_run_pending.proofs.Waited.{left_is, when_done}
use Rattle.fj_run_pending.proofs.pendings.Pendings.tell.Goals as goal

-- all are left
all_left : (hs : List Held) → hs ≡ filter (λ (h : Held). true) hs
all_left [] = refl
all_left (h ∷ hs) = ap (λ l. h ∷ l) (all_left hs)

pub forget-requires-clause-ascending : goal.forget-requires-clause-ascending
forget-requires-clause-ascending c =
    let hs = c.self.inside.helds.items in
    let p = c.picked-pick.result in
    subst IsAscending (sym c.in_ok-told.ensures.left) (taken_is p hs c.self.inside.book c.self.inside.marks.items c.self.inside.busy.items c.self.invariant).ascending

pub forget-requires-clause-busy : goal.forget-requires-clause-busy
forget-requires-clause-busy c =
    let hs = c.self.inside.helds.items in
    let p = c.picked-pick.result in
    subst (λ l. AreBusy (without_told p l) c.take_picked.new.helds.items) (sym c.in_ok-reserve.ensures.items)
    (subst (AreBusy (without_told p c.self.inside.busy.items)) (sym c.in_ok-told.ensures.left) (taken_is p hs c.self.inside.book c.self.inside.marks.items c.self.inside.busy.items c.self.invariant).busy)

pub invariant_of-self-2 : goal.invariant_of-self-2
invariant_of-self-2 c =
    let hs = c.self.inside.helds.items in
    let p = c.picked-pick.result in
    kept_tied c.take_picked.new.helds.items c.leave.new.book c.self.inside.marks.items (without_told p c.self.inside.busy.items) c.forget.new.busy.items c.forget.ensures
    (tied_as (filter (λ (h : Held). not (picks p h)) hs) c.take_picked.new.helds.items (without p c.self.inside.busy.items c.self.inside.book) c.leave.new.book c.self.inside.marks.items c.self.inside.marks.items (without_told p c.self.inside.busy.items)
    (without_told p c.self.inside.busy.items) c.in_ok-told.ensures.left (c.leave.ensures ∙ ap (λ l. without p l c.self.inside.book) c.in_ok-reserve.ensures.items) refl refl (taken_is p hs c.self.inside.book c.self.inside.marks.items c.self.inside.busy.items c.self.invariant))

pub returns-clause-left : goal.returns-clause-left
returns-clause-left c =
    let hs = c.self.inside.helds.items in
    when_done c.deliver.result
    (ap held c.in_ok-told.ensures.left
    ∙ sym (left_is (picks c.picked-pick.result) hs (waited_of c.args.whose (entries hs)) c.self.invariant.ascending c.picked-pick.ensures.picked)
    ∙ ap (λ xs. filter (λ (h : run.Held). not (tells_id (waited_of c.args.whose (entries xs)) h.pending.id)) (held xs)) c.self.view_is)

pub returns-in_err-reserve-clause-some : goal.returns-in_err-reserve-clause-some
returns-in_err-reserve-clause-some c = (λ h. true, c.self.view_is ∙ all_left c.args.self.now)

pub returns-in_err-told-clause-some : goal.returns-in_err-told-clause-some
returns-in_err-told-clause-some c = (λ h. true, c.in_err-told.ensures.err ∙ c.self.view_is ∙ all_left c.args.self.now)

pub returns-clause-some : goal.returns-clause-some
returns-clause-some c =
    let p = c.picked-pick.result in
    (λ h. not (picks p h), c.in_ok-told.ensures.left ∙ ap (filter (λ (h : Held). not (picks p h))) c.self.view_is)
