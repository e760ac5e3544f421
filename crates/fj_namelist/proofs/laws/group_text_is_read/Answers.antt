use Rattle.fj_namelist.proofs.Meaning.{text_read}
use Rattle.fj_namelist.proofs.laws.group_text_is_read.Goals as goal

pub returns : goal.returns
returns c = text_read
