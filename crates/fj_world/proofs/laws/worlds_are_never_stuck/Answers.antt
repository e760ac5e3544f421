use Rattle.fj_world.proofs.WorldLaws.{is_never_stuck}
use Rattle.fj_world.proofs.laws.worlds_are_never_stuck.Goals as goal

pub returns : goal.returns
returns g c = is_never_stuck g.S.Gear.Engine.meaning g.S.Script.conduct
