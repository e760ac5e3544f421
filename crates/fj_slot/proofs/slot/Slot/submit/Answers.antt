use Rattle.std.proofs.Common.{rules, arith, ap, subst, sym, ◌∙◌, ◌≡◌, ◌++◌, [], ◌∷◌, ◌≤◌, length}
use Rattle.std.proofs.lemmas.Grind.{common_steps}
use Rattle.fj_slot.proofs.Given.{length-given_jobs}
use Rattle.std.specs.Vec.{vec_len}
use Rattle.fj_slot.specs.Sound.{IsCounted, IsSound}
use Rattle.fj_slot.proofs.Counted.{counted_submit}
use Rattle.fj_slot.proofs.Sound.{submit_keeps}
use Rattle.fj_slot.proofs.Rows.{push_both, one_waits}
use Rattle.fj_slot.proofs.slot.Slot.submit.Goals as goal

pub invariant_of-self-2 : goal.invariant_of-self-2
invariant_of-self-2 g c =
    let s = c.self.inside in
    let inv = c.self.invariant in
    let given = c.reserve.ensures.items in
    let waiting = c.reserve-2.ensures.items in
    let put = c.push_back_reserved.ensures.items ∙ ap (λ xs. xs ++ c.args.job ∷ []) waiting in
    let given_len : vec_len s.given ≡ length s.given.items = s.given.ok.0 in
    let waiting_len : s.waiting.len ≡ length s.waiting.items = s.waiting.ok.0 in
    let added = c.push_reserved.ensures.items ∙ ap (λ xs. xs ++ c.of.result ∷ []) given in
    record {
      total = search rules;
      few = omega (arith, c.push_reserved.ensures.len, c.reserve.ensures.len, given_len, length-given_jobs s, ap (λ l. length l.jobs) c.self.view_is, c.requires);
      room = grind (arith, common_steps);
      place = grind (arith, common_steps);
      reached = search rules;
      in_order = search rules;
      running = search rules;
      waiting = λ running. push_both _ _ _ _ _ _ 0 _ _ added c.of.ensures put (omega arith) (omega (arith, inv.total, given_len, waiting_len, inv.running running)) (inv.waiting running);
      stopped = search rules;
      below = λ h. omega (arith, inv.below h, c.push_reserved.ensures.len, c.reserve.ensures.len);
      behind = λ h p. push_both _ _ _ _ _ _ 0 _ _ added c.of.ensures put (omega arith) (omega (arith, inv.total, given_len)) (inv.behind h p);
      after_stop = λ h p. push_both _ _ _ _ _ _ 1 _ _ added c.of.ensures put (subst (λ n. 1 ≤ n) waiting_len (one_waits _ _ _ _ _ _ inv.total (inv.stopped h) (inv.below h) inv.in_order p)) (omega (arith, inv.below h, given_len)) (inv.after_stop h p);
      rose = search rules;
    }

pub returns-clause-ok : goal.returns-clause-ok
returns-clause-ok g c = grind (arith, common_steps)

pub returns-clause-sound : goal.returns-clause-sound
returns-clause-sound g c = λ s ts t h e.
    subst (λ l. IsSound g.E.Engine.meaning s (ts ++ t ∷ []) l) (sym (returns-clause-ok g c)) (submit_keeps g.E.Engine.meaning s ts t c.args.self.now c.args.job h e)

pub returns-clause-counted : goal.returns-clause-counted
returns-clause-counted g c = λ h.
    subst (λ l. IsCounted g.E.Engine.meaning l) (sym (returns-clause-ok g c)) (counted_submit g.E.Engine.meaning c.args.self.now c.args.job h)
