use Rattle.fj_meaning_looks.proofs.Worlds.{asks_again, stays_orderly}
use Rattle.fj_meaning_looks.proofs.laws.scripts_ask_again.Goals as goal

pub returns : goal.returns
returns g c = record {
  fits = asks_again g.S.Gear.Engine.meaning g.S.Script.conduct;
  orderly = stays_orderly g.S.Gear.Engine.meaning g.S.Script.conduct;
}
