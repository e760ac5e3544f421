use Rattle.std.proofs.Common.{ap}
use Rattle.std.specs.Option.{option_flatten}
use Rattle.fj_store.specs.Storage.{returned}
use Rattle.fj_store.proofs.LawLemmas.{comes_at, stays_at}
use Rattle.fj_store.proofs.laws.cells_come_back.Goals as goal

pub returns : goal.returns
returns c = record {
  comes = λ s before behind cell there last. ap option_flatten (comes_at (returned s.kinds) before behind cell s.values there last);
  stays = λ s cells p other. ap option_flatten (stays_at (returned s.kinds) cells s.values p other);
}
