use Rattle.std.proofs.Common.{◌≡◌, true, is_some, refl, sym, ap, ◌∙◌, arith}
use Rattle.std.proofs.lemmas.Grind.{common_steps}
use Rattle.fj_world.proofs.Front.{itself, on_and_on, left_falls}
use Rattle.fj_run_end.proofs.Performing.{may_serve, nothing_left}
use Rattle.fj_run_end.proofs.jobs.served.Goals as goal

pub loop-slot-init : goal.loop-slot-init
loop-slot-init g c = record { serves = itself g.E.Engine.meaning c.args.slot c.requires.home; stopped = λ _. refl }

pub serve_first-requires : goal.serve_first-requires
serve_first-requires g c =
    record { begins = may_serve g.E.Engine.meaning c.loop-slot.slot c.loop-slot.invariant.serves.home (sym c.has_more.ensures.more ∙ c.loop-slot-test.true) }

pub loop-slot-smaller : goal.loop-slot-smaller
loop-slot-smaller g c =
    let can = may_serve g.E.Engine.meaning c.loop-slot.slot c.loop-slot.invariant.serves.home (sym c.has_more.ensures.more ∙ c.loop-slot-test.true) in
    left_falls g.E.Engine.meaning c.loop-slot.slot c.serve_first.new.slot can c.serve_first.ensures.serves c.serve_first.ensures.further

pub loop-slot-preserved : goal.loop-slot-preserved
loop-slot-preserved g c = record {
  serves = on_and_on g.E.Engine.meaning c.args.slot c.loop-slot.slot c.serve_first.new.slot c.loop-slot.invariant.serves c.serve_first.ensures.serves;
  stopped = λ halted.
      let same = c.loop-slot.invariant.stopped halted in
      let more = sym c.has_more.ensures.more ∙ c.loop-slot-test.true in
      let still : is_some c.loop-slot.slot.halt ≡ true = ap (λ z. is_some z.halt) same ∙ halted in
      absurd (grind (arith, common_steps));
}

pub returns-clause-finished : goal.returns-clause-finished
returns-clause-finished g c = nothing_left g.E.Engine.meaning c.loop-slot.slot c.has_more.ensures.sized (sym c.has_more.ensures.more ∙ c.loop-slot-test.false)
