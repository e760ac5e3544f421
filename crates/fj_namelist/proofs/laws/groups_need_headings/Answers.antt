use Rattle.fj_namelist.proofs.Meaning.{need_headings}
use Rattle.fj_namelist.proofs.laws.groups_need_headings.Goals as goal

pub returns : goal.returns
returns c = need_headings
