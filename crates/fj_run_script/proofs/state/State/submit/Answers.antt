use Rattle.std.proofs.Common.{◌≡◌, ◌+◌, ◌≤◌, length, get_or, slice_set, Some, refl, ap, sym, ◌∙◌, subst, arith}
use Rattle.std.proofs.lemmas.List.{get_or_read, length-set}
use Rattle.fj_run_statements.specs.State.{core_of}
use Rattle.fj_meaning_turns.specs.Run.{Run}
use Rattle.fj_run_script.specs.Machine.{run_in, stage_of}
use Rattle.fj_run_script.proofs.Counting.{is_more}
use Rattle.fj_run_script.proofs.Numbering.{given_still, own_given, own_not_told, within_still}
use Rattle.fj_run_script.proofs.Pauses.{submit_pauses}
use Rattle.fj_run_script.specs.Spending.{jobs_at}
use Rattle.fj_run_script.specs.Numbering.{AreSlots, OwnIsLast, OwnIsUntold, slots_behind}
use Rattle.fj_run_script.specs.Going.{HaveAt}
use Rattle.fj_run_script.proofs.state.State.submit.Goals as goal

pub returns-clause-turn : goal.returns-clause-turn
returns-clause-turn g c = λ variables rest files task before after t s.
    let old = c.args.self.now in
    let run : Run = run_in variables rest files old before in
    let n : c.index_mut.result.now ≡ get_or old.sent.items c.args.slot 0 = get_or_read old.sent.items c.args.slot c.index_mut.result.now (omega (arith, old.sent_slots, c.requires.slot)) c.index_mut.ensures.value 0 in
    let more : c.index_mut.result.now + 1 ≡ get_or old.sent.items c.args.slot 0 + 1 = ap (λ k. k + 1) n in
    submit_pauses g.F.FileStore.told g.F.FileStore.bytes variables rest files _ run c.args.slot c.args.job task after t (subst (λ x. stage_of g.F.FileStore.told g.F.FileStore.bytes variables rest (core_of files old.core) x ≡ Some after) (sym c.put_stage.ensures) s) (ap (λ x. record run { sent = slice_set old.sent.items c.args.slot x; stage = after }) more)

pub returns-clause-counts : goal.returns-clause-counts
returns-clause-counts g c =
    let old = c.args.self.now in
    let n : c.index_mut.result.now ≡ get_or old.sent.items c.args.slot 0 = get_or_read old.sent.items c.args.slot c.index_mut.result.now (omega (arith, old.sent_slots, c.requires.slot)) c.index_mut.ensures.value 0 in
    (refl, is_more old.sent.items c.args.slot (c.index_mut.result.now + 1) (omega (arith, old.sent_slots, c.requires.slot)) (ap (λ k. k + 1) n), refl, c.requires.slot)

pub invariant_of-self-clause-sent_slots : goal.invariant_of-self-clause-sent_slots
invariant_of-self-clause-sent_slots g c =
    let old = c.args.self.now in
    length-set old.sent.items c.args.slot (c.index_mut.result.now + 1) ∙ old.sent_slots

pub invariant_of-self-clause-given : goal.invariant_of-self-clause-given
invariant_of-self-clause-given g c =
    let old = c.args.self.now in
    let n : c.index_mut.result.now ≡ get_or old.sent.items c.args.slot 0 = get_or_read old.sent.items c.args.slot c.index_mut.result.now (omega (arith, old.sent_slots, c.requires.slot)) c.index_mut.ensures.value 0 in
    given_still old.sent.items c.args.slot (c.index_mut.result.now + 1) (omega (arith, old.sent_slots, c.requires.slot)) (ap (λ k. k + 1) n) old.core.pending old.given

pub invariant_of-self-clause-own : goal.invariant_of-self-clause-own
invariant_of-self-clause-own g c =
    let old = c.args.self.now in
    let n : c.index_mut.result.now ≡ get_or old.sent.items c.args.slot 0 = get_or_read old.sent.items c.args.slot c.index_mut.result.now (omega (arith, old.sent_slots, c.requires.slot)) c.index_mut.ensures.value 0 in
    subst (OwnIsLast (slice_set old.sent.items c.args.slot (c.index_mut.result.now + 1)) old.core.pending) (sym c.put_stage.ensures)
    (own_given old.sent.items c.args.slot (c.index_mut.result.now + 1) (omega (arith, old.sent_slots, c.requires.slot)) (ap (λ k. k + 1) n) old.core.pending c.args.stage old.given c.requires.own)

pub invariant_of-self-clause-later : goal.invariant_of-self-clause-later
invariant_of-self-clause-later g c = subst (λ s. AreSlots (slots_behind s)) (sym c.put_stage.ensures) c.requires.later

pub invariant_of-self-clause-within : goal.invariant_of-self-clause-within
invariant_of-self-clause-within g c =
    let old = c.args.self.now in
    let n : c.index_mut.result.now ≡ get_or old.sent.items c.args.slot 0 = get_or_read old.sent.items c.args.slot c.index_mut.result.now (omega (arith, old.sent_slots, c.requires.slot)) c.index_mut.ensures.value 0 in
    within_still old.sent.items c.args.slot (c.index_mut.result.now + 1) (omega (arith, old.sent_slots, c.requires.slot)) (ap (λ k. k + 1) n) old.told.items old.within

pub invariant_of-self-clause-own_untold : goal.invariant_of-self-clause-own_untold
invariant_of-self-clause-own_untold g c =
    let old = c.args.self.now in
    subst (OwnIsUntold old.told.items) (sym c.put_stage.ensures) (own_not_told old.told.items old.sent.items c.args.slot c.args.stage old.within c.requires.own)

pub returns-clause-spends : goal.returns-clause-spends
returns-clause-spends g c =
    let units = length c.args.self.now.core.units in
    let n = jobs_at c.args.stage units in
    subst (λ x. jobs_at x units + 1 ≤ n + 1) (sym c.put_stage.ensures) (omega arith)

pub returns-clause-files : goal.returns-clause-files
returns-clause-files g c = λ what have beside.
    let core = c.args.self.now.core in
    (subst (λ s. HaveAt s core.names core.units what) (sym c.put_stage.ensures) have, beside)
