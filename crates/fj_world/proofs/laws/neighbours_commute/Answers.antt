use Rattle.fj_world.proofs.Commute as law
use Rattle.fj_world.proofs.laws.neighbours_commute.Goals as goal

pub returns : goal.returns
returns g c = law.neighbours_commute g.S.Gear.Engine.meaning g.S.Script.conduct
