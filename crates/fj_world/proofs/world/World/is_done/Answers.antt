use Rattle.std.proofs.Common.{◌≡◌, ◌↔◌, IsTrue, All, None, sym, ap, ◌∙◌, subst}
use Rattle.fj_world.specs.declared.ask.Ask.TheVariants.{Finished}
use Rattle.fj_world.proofs.world.World.is_done.Goals as goal

pub returns-in-Finished : goal.returns-in-Finished
returns-in-Finished g c =
    let hand : c.args.self.now.hand ≡ Finished = ap (λ w. w.hand) (sym c.self.view_is) ∙ c.in-Finished.is in
    let workers : c.deref.result.now ≡ c.args.self.now.workers = c.deref.ensures.value ∙ ap (λ w. w.workers) c.self.view_is in
    subst (λ ws. IsTrue c.are_idle.result ↔ ((c.args.self.now.hand ≡ Finished) × All (λ held. held ≡ None) ws)) workers
    (λ idle. (hand, c.are_idle.ensures.0 idle), λ it. c.are_idle.ensures.1 it.1)
