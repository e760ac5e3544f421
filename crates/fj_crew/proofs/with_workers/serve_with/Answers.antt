use Rattle.std.proofs.Common.{ap, ◌∙◌, subst}
use Rattle.fj_world.specs.Rack.{Rack}
use Rattle.fj_world.specs.Keeping.{CanGoOn}
use Rattle.fj_world.specs.Losing.{WasLost}
use Rattle.fj_crew.specs.Plan.{SameNumbers}
use Rattle.fj_crew.proofs.WithWorkers.{numbers_of, numbers_on, few_same, owes_same}
use Rattle.fj_crew.proofs.with_workers.serve_with.Goals as goal

pub returns-then-workers-eq0-clause-keeps : goal.returns-then-workers-eq0-clause-keeps
returns-then-workers-eq0-clause-keeps g c = numbers_of c.args.slots.now c.run_alone.new.slots c.run_alone.ensures.keeps

pub returns-then-workers-eq0-clause-counted : goal.returns-then-workers-eq0-clause-counted
returns-then-workers-eq0-clause-counted g c = c.run_alone.ensures.counted c.requires.counted

pub run_crew-requires-clause-counted : goal.run_crew-requires-clause-counted
run_crew-requires-clause-counted g c = λ _ _. rw c.replace-given.ensures.value c.requires.counted

pub run_crew-requires-clause-sound : goal.run_crew-requires-clause-sound
run_crew-requires-clause-sound g c = λ _ _. rw c.replace-given.ensures.value c.requires.sound

pub run_alone-requires-in-Err-clause-few : goal.run_alone-requires-in-Err-clause-few
run_alone-requires-in-Err-clause-few g c =
    let con = g.S.Script.conduct in
    few_same c.replace-given.result c.in-Err.lost.slots (con.left c.args.script.now) (con.left c.run_crew.new.script) c.in-Err.ensures.lost.2 (ap con.left c.in-Err.ensures.lost.0)
    (rw c.replace-given.ensures.value c.requires.few)

pub run_alone-requires-in-Err-clause-owed : goal.run_alone-requires-in-Err-clause-owed
run_alone-requires-in-Err-clause-owed g c =
    owes_same g.S.Script.conduct c.args.script.now c.run_crew.new.script c.replace-given.result c.in-Err.lost.slots c.in-Err.ensures.lost.2 c.in-Err.ensures.lost.0
    (rw c.replace-given.ensures.value c.requires.owed)

pub returns-in-Ok-clause-alone : goal.returns-in-Ok-clause-alone
returns-in-Ok-clause-alone g c = λ s qs state on fits. c.in-Ok.ensures.alone s qs state on (rw c.replace-given.ensures.value fits)

pub returns-in-Ok-clause-gave_up : goal.returns-in-Ok-clause-gave_up
returns-in-Ok-clause-gave_up g c = λ s qs state on start fits over. c.in-Ok.ensures.gave_up s qs state on start (rw c.replace-given.ensures.value fits) over

pub returns-in-Err-clause-keeps : goal.returns-in-Err-clause-keeps
returns-in-Err-clause-keeps g c =
    numbers_on c.args.slots.now c.in-Err.lost.slots c.run_alone-in-Err.new.slots
    (subst (λ (r : Rack _ _ _). SameNumbers r c.in-Err.lost.slots) c.replace-given.ensures.value c.in-Err.ensures.lost.2)
    (numbers_of c.in-Err.lost.slots c.run_alone-in-Err.new.slots c.run_alone-in-Err.ensures.keeps)

pub returns-in-Err-clause-counted : goal.returns-in-Err-clause-counted
returns-in-Err-clause-counted g c = c.run_alone-in-Err.ensures.counted c.in-Err.ensures.lost_counted

pub returns-in-Err-clause-again : goal.returns-in-Err-clause-again
returns-in-Err-clause-again g c =
    subst (λ z. CanGoOn g.S.Script.conduct z c.run_alone-in-Err.new.script c.run_alone-in-Err.new.slots) c.in-Err.ensures.lost.0 c.run_alone-in-Err.ensures.again

pub returns-in-Err-clause-alone : goal.returns-in-Err-clause-alone
returns-in-Err-clause-alone g c = λ s qs state on fits.
    let con = g.S.Script.conduct in
    let same = c.in-Err.ensures.lost.0 in
    c.run_alone-in-Err.ensures.alone s qs (ap con.state same ∙ state) (ap con.stopped same ∙ on)
    (c.in-Err.ensures.lost_sound s qs state (rw c.replace-given.ensures.value fits))

pub returns-in-Err-clause-gave_up : goal.returns-in-Err-clause-gave_up
returns-in-Err-clause-gave_up g c = λ s qs state on start fits over.
    let con = g.S.Script.conduct in
    let same = c.in-Err.ensures.lost.0 in
    subst (λ z. WasLost g.S.Gear.Engine.meaning con s qs z c.run_alone-in-Err.new.script c.run_alone-in-Err.new.slots) same
    (c.run_alone-in-Err.ensures.gave_up s qs (ap con.state same ∙ state) (ap con.stopped same ∙ on) (ap con.over same ∙ start)
    (c.in-Err.ensures.lost_sound s qs state (rw c.replace-given.ensures.value fits)) over)
