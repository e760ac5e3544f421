use Rattle.std.proofs.Common.{◌≡◌, ◌+◌, ◌<◌, length, true, Some, get_or, slice_set, refl, sym, ap, ◌∙◌, subst, arith}
use Rattle.std.proofs.lemmas.List.{get_or_read, length-set}
use Rattle.fj_bay.specs.Jobs.{resume}
use Rattle.fj_bay.specs.Plain.{reply_of}
use Rattle.fj_run_statements.specs.State.{core_of}
use Rattle.fj_meaning_jobs.specs.Desks.{Brought, Outcome, brought_by}
use Rattle.fj_run_pending.specs.Plain.{brought_of, held}
use Rattle.fj_run_pending.specs.declared.held.Told.{Told}
use Rattle.fj_run_statements.proofs.StepLemmas.{brought_is}
use Rattle.fj_meaning_turns.specs.Turns.{stage_told, with_answer}
use Rattle.fj_run_script.specs.Answering.{with_own}
use Rattle.fj_run_script.specs.Machine.{stage_of}
use Rattle.fj_run_script.specs.Numbering.{AreSlots, OwnIsLast, OwnIsUntold, slots_behind}
use Rattle.fj_run_script.specs.Passing.{is_passed}
use Rattle.fj_run_script.proofs.Passed.{none_answered}
use Rattle.fj_run_script.proofs.Answered.{answered_stands, core_answered, own_stage, kept_stage, own_passed, passed_still}
use Rattle.fj_run_script.proofs.Numbering.{transfers_same, given_answered, named_answered, own_answered, own_with, behind_with, not_awaited, within_told, untold_answered, own_untold_kept, own_untold_with}
use Rattle.fj_run_script.specs.Going.{HaveAt}
use Rattle.fj_run_script.proofs.Counting.{have_with, is_more}
use Rattle.fj_run_script.specs.Spending.{jobs_at}
use Rattle.fj_run_script.proofs.Spending.{own_jobs}
use Rattle.fj_run_script.specs.Closing.{may_be_at}
use Rattle.fj_run_script.proofs.Owning.{own_same}
use Rattle.fj_run_script.proofs.state.State.answer.Goals as goal

pub invariant_of-self : goal.invariant_of-self
invariant_of-self g c =
    let s = c.args.self.now in
    let number = c.index-number.result.now in
    let inside : s.due < length s.told.items = omega (arith, s.told_slots, s.due_slot) in
    let n : number ≡ get_or s.told.items s.due 0 = get_or_read s.told.items s.due number (omega (arith, s.told_slots, s.due_slot)) c.index-number.ensures 0 in
    let more : number + 1 ≡ get_or s.told.items s.due 0 + 1 = ap (λ k. k + 1) n in
    let same = transfers_same s.due number (brought_of c.told_by-told.result) s.core.pending c.keep.new.pending c.keep.ensures in
    record {
      passed = passed_still s.due number (brought_of c.told_by-told.result) s.core.pending c.keep.new.pending s.stage c.keep.ensures s.passed;
      sent_slots = s.sent_slots;
      told_slots = length-set s.told.items s.due (number + 1) ∙ s.told_slots;
      due_slot = s.due_slot;
      given = given_answered s.sent.items s.core.pending c.keep.new.pending same s.given;
      named = named_answered s.core.next s.core.pending c.keep.new.pending same s.named;
      own = own_answered s.sent.items s.core.pending c.keep.new.pending s.stage same s.own;
      within = within_told s.told.items s.due (number + 1) inside more s.sent.items s.within c.requires.owed;
      untold = untold_answered s.told.items s.due (number + 1) inside more number _ s.core.pending c.keep.new.pending n c.keep.ensures s.untold;
      own_untold =
          own_untold_kept s.told.items s.due (number + 1) inside more number s.stage n c.requires.waits (not_awaited s.sent.items s.core.pending s.due number s.stage s.own (sym c.has.ensures ∙ c.if-has.true)) s.own_untold;
      later = s.later;
    }

pub returns-then-has-clause-told : goal.returns-then-has-clause-told
returns-then-has-clause-told g c = λ variables rest files task stage t e.
    let told = g.F.FileStore.told in
    let bytes = g.F.FileStore.bytes in
    let s = c.args.self.now in
    let number = c.index-number.result.now in
    let it : Outcome = (task, reply_of c.args.answer) in
    let n : number ≡ get_or s.told.items s.due 0 = get_or_read s.told.items s.due number (omega (arith, s.told_slots, s.due_slot)) c.index-number.ensures 0 in
    let more : number + 1 ≡ get_or s.told.items s.due 0 + 1 = ap (λ k. k + 1) n in
    let brings = ap (λ (t : Told). brought_of t) c.told_by-told.ensures ∙ brought_is told bytes c.args.job task (reply_of c.args.answer) t in
    let kept : held c.keep.new.pending ≡ with_answer s.due number (brought_by it) (held s.core.pending) = c.keep.ensures ∙ ap (λ b. with_answer s.due number b (held s.core.pending)) brings in
    answered_stands told bytes variables rest files s _ stage it number n
    (kept_stage told bytes variables (core_of files s.core) s.due number it rest s.stage stage (not_awaited s.sent.items s.core.pending s.due number s.stage s.own (sym c.has.ensures ∙ c.if-has.true)) e)
    (core_answered files s.core _ s.due number (brought_by it) refl kept) kept refl (ap (slice_set s.told.items s.due) more) refl refl

pub invariant_of-self-2 : goal.invariant_of-self-2
invariant_of-self-2 g c =
    let s = c.args.self.now in
    let number = c.index-number.result.now in
    let inside : s.due < length s.told.items = omega (arith, s.told_slots, s.due_slot) in
    let n : number ≡ get_or s.told.items s.due 0 = get_or_read s.told.items s.due number (omega (arith, s.told_slots, s.due_slot)) c.index-number.ensures 0 in
    let more : number + 1 ≡ get_or s.told.items s.due 0 + 1 = ap (λ k. k + 1) n in
    let it : Brought = brought_by (resume, reply_of c.args.answer) in
    let stage : c.own.result ≡ with_own s.due number c.args.job c.args.answer s.stage = c.own.ensures ∙ ap (with_own s.due number c.args.job c.args.answer) c.replace-stage.ensures.value in
    record {
      passed = subst (λ x. is_passed s.core.pending x ≡ true)
          (sym stage)
          (own_passed s.core.pending s.due c.index-number.result.now c.args.job c.args.answer s.stage s.passed);
      sent_slots = s.sent_slots;
      told_slots = length-set s.told.items s.due (c.index-number.result.now + 1) ∙ s.told_slots;
      due_slot = s.due_slot;
      given = s.given;
      named = s.named;
      own = subst (OwnIsLast s.sent.items s.core.pending) (sym stage) (own_with s.sent.items s.core.pending s.due c.index-number.result.now c.args.job c.args.answer s.stage s.own);
      within = within_told s.told.items s.due (number + 1) inside more s.sent.items s.within c.requires.owed;
      untold = untold_answered s.told.items s.due (number + 1) inside more number it s.core.pending s.core.pending n
          (sym (none_answered s.due number it (held s.core.pending) (sym c.has.ensures ∙ c.if-has.false))) s.untold;
      own_untold = subst (OwnIsUntold (slice_set s.told.items s.due (number + 1))) (sym stage)
          (own_untold_with s.told.items s.due (number + 1) inside more number c.args.job c.args.answer s.stage n c.requires.waits s.own_untold);
      later = subst AreSlots (sym (ap slots_behind stage ∙ behind_with s.due c.index-number.result.now c.args.job c.args.answer s.stage)) s.later;
    }

pub returns-clause-told : goal.returns-clause-told
returns-clause-told g c = λ variables rest files task stage t e.
    let told = g.F.FileStore.told in
    let bytes = g.F.FileStore.bytes in
    let s = c.args.self.now in
    let number = c.index-number.result.now in
    let it : Outcome = (task, reply_of c.args.answer) in
    let n : number ≡ get_or s.told.items s.due 0 = get_or_read s.told.items s.due number (omega (arith, s.told_slots, s.due_slot)) c.index-number.ensures 0 in
    let more : number + 1 ≡ get_or s.told.items s.due 0 + 1 = ap (λ k. k + 1) n in
    answered_stands told bytes variables rest files s _ stage it number n
    (subst (λ x. stage_of told bytes variables rest (core_of files s.core) x ≡ Some (stage_told stage s.due number it))
    (sym (c.own.ensures ∙ ap (with_own s.due number c.args.job c.args.answer) c.replace-stage.ensures.value))
    (own_stage told bytes variables (core_of files s.core) s.due number c.args.job c.args.answer task t rest s.stage stage e))
    refl (sym (none_answered s.due number (brought_by it) (held s.core.pending) (sym c.has.ensures ∙ c.if-has.false))) refl (ap (slice_set s.told.items s.due) more) refl refl

pub returns-then-has-clause-hears : goal.returns-then-has-clause-hears
returns-then-has-clause-hears g c =
    let s = c.args.self.now in
    let number = c.index-number.result.now in
    let n : number ≡ get_or s.told.items s.due 0 = get_or_read s.told.items s.due number (omega (arith, s.told_slots, s.due_slot)) c.index-number.ensures 0 in
    record {
      files = λ what h. h;
      next = refl;
      ending = refl;
      sent = refl;
      output = refl;
      units = refl;
      jobs = λ units. refl;
      told = is_more s.told.items s.due (number + 1) (omega (arith, s.told_slots, s.due_slot)) (ap (λ k. k + 1) n);
    }

pub returns-clause-hears : goal.returns-clause-hears
returns-clause-hears g c =
    let s = c.args.self.now in
    let number = c.index-number.result.now in
    let n : number ≡ get_or s.told.items s.due 0 = get_or_read s.told.items s.due number (omega (arith, s.told_slots, s.due_slot)) c.index-number.ensures 0 in
    record {
      files = λ what h. subst (λ x. HaveAt x s.core.names s.core.units what) (sym (c.own.ensures ∙ ap (with_own s.due number c.args.job c.args.answer) c.replace-stage.ensures.value))
          (have_with s.due number c.args.job c.args.answer s.stage s.core.names s.core.units what h);
      next = refl;
      ending = refl;
      sent = refl;
      output = refl;
      units = refl;
      jobs = λ units. ap (λ x. jobs_at x units) (c.own.ensures ∙ ap (with_own s.due number c.args.job c.args.answer) c.replace-stage.ensures.value) ∙ own_jobs s.due number c.args.job c.args.answer s.stage units;
      told = is_more s.told.items s.due (number + 1) (omega (arith, s.told_slots, s.due_slot)) (ap (λ k. k + 1) n);
    }

pub returns-clause-may : goal.returns-clause-may
returns-clause-may g c = λ what may.
    let s = c.args.self.now in
    ap (may_be_at what) (c.own.ensures ∙ ap (with_own s.due c.index-number.result.now c.args.job c.args.answer) c.replace-stage.ensures.value)
    ∙ own_same (may_be_at what) s.due c.index-number.result.now c.args.job c.args.answer (λ own last next. refl) s.stage
    ∙ may
