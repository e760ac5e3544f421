use Rattle.std.proofs.Common.{ap, sym, ◌∙◌}
use Rattle.fj_connect.specs.declared.spot.Look.{Look}
use Rattle.fj_bay.proofs.Performed.{look_empty, look_full}
use Rattle.fj_bay.proofs.bay.Bay.look.Goals as goal

pub returns-in_default : goal.returns-in_default
returns-in_default g c =
    record { serves = λ s st. look_empty g.F.FileStore.told g.F.FileStore.bytes g.F.FileStore.count g.F.FileStore.tells g.met.F.FileStore.decided c.args.self.now s c.args.place.now (sym c.get.ensures ∙ c.in_default.is) st }

pub returns : goal.returns
returns g c =
    record { serves = λ s st. look_full g.F.FileStore.told g.F.FileStore.bytes g.F.FileStore.count g.F.FileStore.tells g.met.F.FileStore.decided c.args.self.now c.in-Some.connection s c.args.place.now c.look.result (sym c.get.ensures ∙ c.in-Some.is) st (ap (λ (l : Look). l.spot) c.look.ensures.value) c.look.ensures.bytes }
