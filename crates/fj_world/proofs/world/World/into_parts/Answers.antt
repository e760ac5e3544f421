use Rattle.std.proofs.Common.{sym, ap, ◌∙◌, subst}
use Rattle.fj_world.specs.Fits.{Fits}
use Rattle.fj_world.proofs.Runs.{drained}
use Rattle.fj_world.proofs.world.World.into_parts.Goals as goal

pub returns-clause-drained : goal.returns-clause-drained
returns-clause-drained g c = λ p fits.
    let s = c.self.inside in
    drained g.S.Gear.Engine.meaning g.S.Script.conduct p (record { start = s.start.value; script = s.script; hand = s.hand; rack = s.slots; workers = s.workers.items })
    (subst (λ w. Fits g.S.Gear.Engine.meaning g.S.Script.conduct p w) (sym c.self.view_is) fits) (ap (λ w. w.hand) c.self.view_is ∙ c.requires.finished)
