use Rattle.std.proofs.Common.{◌≡◌, subst, sym, ap, ◌∙◌}
use Rattle.std.specs.Prelude.{filter}
use Rattle.fj_meaning_turns.specs.Turns.{unsettled}
use Rattle.fj_run_pending.specs.declared.pick.Pick.TheVariants.{OfUnit, One, All}
use Rattle.fj_run_pending.specs.Plain.{entries, held}
use Rattle.fj_run_pending.specs.Waits.{waited_of, widest, picks, IsWide}
use Rattle.fj_run_pending.proofs.Waited.{due_is, none_picked, passed_is, passes_on, passes_first, unsettled_nothing}
use Rattle.fj_run_pending.proofs.pendings.unsettled_in.Goals as goal

pub returns-in-None-clause-slot : goal.returns-in-None-clause-slot
returns-in-None-clause-slot c =
    let hs = c.args.helds.now.items in
    let picked = c.picked.ensures.picked ∙ ap (λ p. entries (filter (picks p) hs)) c.in-None.is in
    λ none. sym (ap (λ es. unsettled es (held hs)) (picked ∙ sym (none_picked hs)) ∙ unsettled_nothing (held hs))

pub returns-in-OfUnit-clause-slot : goal.returns-in-OfUnit-clause-slot
returns-in-OfUnit-clause-slot c =
    let hs = c.args.helds.now.items in
    let p = OfUnit c.in-OfUnit.unit in
    let picked : waited_of c.args.whose (entries hs) ≡ entries (filter (picks p) hs) = c.picked.ensures.picked ∙ ap (λ q. entries (filter (picks q) hs)) c.in-OfUnit.is in
    let wide : IsWide (waited_of (widest c.args.whose) (entries hs)) p hs = subst (λ q. IsWide (waited_of (widest c.args.whose) (entries hs)) q hs) c.in-OfUnit.is c.picked.ensures.wide in
    λ none. c.unit_due.ensures.slot (passed_is p hs (waited_of (widest c.args.whose) (entries hs)) c.args.from c.requires.ascending wide none) ∙ sym (due_is p hs (waited_of c.args.whose (entries hs)) c.requires.ascending picked)

pub returns-in-OfUnit-clause-passed : goal.returns-in-OfUnit-clause-passed
returns-in-OfUnit-clause-passed c =
    let hs = c.args.helds.now.items in
    let p = OfUnit c.in-OfUnit.unit in
    let es = waited_of (widest c.args.whose) (entries hs) in
    let wide : IsWide es p hs = subst (λ q. IsWide es q hs) c.in-OfUnit.is c.picked.ensures.wide in
    λ none. passes_on p hs es c.unit_due.result c.requires.ascending wide (c.unit_due.ensures.passed (passed_is p hs es c.args.from c.requires.ascending wide none))

pub returns-in-One-clause-slot : goal.returns-in-One-clause-slot
returns-in-One-clause-slot c =
    let hs = c.args.helds.now.items in
    let p = One c.in-One.id in
    let picked : waited_of c.args.whose (entries hs) ≡ entries (filter (picks p) hs) = c.picked.ensures.picked ∙ ap (λ q. entries (filter (picks q) hs)) c.in-One.is in
    λ none. c.one_due.ensures.slot ∙ sym (due_is p hs (waited_of c.args.whose (entries hs)) c.requires.ascending picked)

pub returns-in-One-clause-passed : goal.returns-in-One-clause-passed
returns-in-One-clause-passed c = λ none. passes_first (held c.args.helds.now.items) (waited_of (widest c.args.whose) (entries c.args.helds.now.items)) c.one_due.result c.one_due.ensures.first

pub returns-in-All-clause-slot : goal.returns-in-All-clause-slot
returns-in-All-clause-slot c =
    let hs = c.args.helds.now.items in
    let picked : waited_of c.args.whose (entries hs) ≡ entries (filter (picks All) hs) = c.picked.ensures.picked ∙ ap (λ q. entries (filter (picks q) hs)) c.in-All.is in
    let wide : IsWide (waited_of (widest c.args.whose) (entries hs)) All hs = subst (λ q. IsWide (waited_of (widest c.args.whose) (entries hs)) q hs) c.in-All.is c.picked.ensures.wide in
    λ none. c.next_due.ensures.slot (passed_is All hs (waited_of (widest c.args.whose) (entries hs)) c.args.from c.requires.ascending wide none) ∙ sym (due_is All hs (waited_of c.args.whose (entries hs)) c.requires.ascending picked)

pub returns-in-All-clause-passed : goal.returns-in-All-clause-passed
returns-in-All-clause-passed c =
    let hs = c.args.helds.now.items in
    let es = waited_of (widest c.args.whose) (entries hs) in
    let wide : IsWide es All hs = subst (λ q. IsWide es q hs) c.in-All.is c.picked.ensures.wide in
    λ none. passes_on All hs es c.next_due.result c.requires.ascending wide (c.next_due.ensures.passed (passed_is All hs es c.args.from c.requires.ascending wide none))
