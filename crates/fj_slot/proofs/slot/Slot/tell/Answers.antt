use Rattle.std.proofs.Common.{rules, arith, refl, true, is_some, IfSome, ap, sym, subst, ◌∙◌, ◌≡◌, ◌<◌}
use Rattle.std.proofs.lemmas.Grind.{common_steps}
use Rattle.fj_slot.specs.Slot.{HasRisen, given_jobs}
use Rattle.fj_slot.specs.declared.told.Told.TheVariants.{Done, Stopped}
use Rattle.fj_slot.specs.Sound.{IsCounted, IsSound}
use Rattle.fj_slot.proofs.Counted.{counted_tell}
use Rattle.fj_slot.proofs.Sound.{tell_keeps, told_is_outcome}
use Rattle.fj_slot.proofs.Rows.{slice_get-drop, told_behind}
use Rattle.fj_slot.proofs.slot.Slot.tell.Goals as goal

pub invariant_of-self-2 : goal.invariant_of-self-2
invariant_of-self-2 g c =
    let inv = c.self.invariant in
    let stopped = c.in-Some-halt.is in
    record {
      total = search rules;
      few = search rules;
      room = search rules;
      place = search rules;
      reached = search rules;
      in_order = search rules;
      running = λ h. cc;
      waiting = λ h. cc;
      stopped = search rules;
      below = search rules;
      behind = λ h p. told_behind _ _ _ _ _ c.pop_front-2.ensures.rest p (inv.behind h) (inv.after_stop h);
      after_stop = λ h p. absurd (omega (arith, inv.reached, c.in_default.ensures.cases));
      rose = search rules;
    }

pub returns-clause-told : goal.returns-clause-told
returns-clause-told g c =
    let inv = c.self.invariant in
    let done = ap (λ l. l.done) c.self.view_is in
    let told = ap (λ l. l.told) c.self.view_is in
    let jobs = ap (λ l. l.jobs) c.self.view_is in
    let stopped = c.in-Some-halt.is in
    let halted : is_some c.self.inside.halt ≡ true = rw stopped refl in
    let risen = subst (λ o. IfSome o HasRisen) stopped inv.rose in (
      search rules,
      search rules,
      risen,
      λ p.
          let behind : c.self.inside.done < c.self.inside.told = omega arith in
          let first = sym (inv.behind halted behind) ∙ c.in-Some-pop_front.ensures.items in
          rw (← told, ← jobs) (slice_get-drop (given_jobs c.self.inside) _ _ _ first),
    )

pub returns-clause-after : goal.returns-clause-after
returns-clause-after g c = search rules

pub returns-clause-sound : goal.returns-clause-sound
returns-clause-sound g c = λ s ts h.
    subst (λ l. IsSound g.E.Engine.meaning s ts l) (sym (returns-clause-after g c)) (tell_keeps g.E.Engine.meaning s ts c.args.self.now h c.requires)

pub returns-clause-counted : goal.returns-clause-counted
returns-clause-counted g c = λ h.
    subst (λ l. IsCounted g.E.Engine.meaning l) (sym (returns-clause-after g c)) (counted_tell g.E.Engine.meaning c.args.self.now h c.requires)

pub returns-clause-outcome : goal.returns-clause-outcome
returns-clause-outcome g c = λ s ts h. told_is_outcome g.E.Engine.meaning s ts c.args.self.now (Stopped _ _ _ _) h (returns-clause-told g c)

pub returns-in-Some-clause-after : goal.returns-in-Some-clause-after
returns-in-Some-clause-after g c = search rules

pub returns-in-Some-clause-told : goal.returns-in-Some-clause-told
returns-in-Some-clause-told g c = grind (arith, common_steps)

pub returns-in-Some-clause-sound : goal.returns-in-Some-clause-sound
returns-in-Some-clause-sound g c = λ s ts h.
    subst (λ l. IsSound g.E.Engine.meaning s ts l) (sym (returns-in-Some-clause-after g c)) (tell_keeps g.E.Engine.meaning s ts c.args.self.now h c.requires)

pub returns-in-Some-clause-counted : goal.returns-in-Some-clause-counted
returns-in-Some-clause-counted g c = λ h.
    subst (λ l. IsCounted g.E.Engine.meaning l) (sym (returns-in-Some-clause-after g c)) (counted_tell g.E.Engine.meaning c.args.self.now h c.requires)

pub returns-in-Some-clause-outcome : goal.returns-in-Some-clause-outcome
returns-in-Some-clause-outcome g c = λ s ts h.
    told_is_outcome g.E.Engine.meaning s ts c.args.self.now (Done c.in-Some.job c.in-Some.answer) h (returns-in-Some-clause-told g c)
