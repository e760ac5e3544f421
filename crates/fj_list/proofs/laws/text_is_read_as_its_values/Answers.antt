use Rattle.fj_list.proofs.Understanding.{read_as_values}
use Rattle.fj_list.proofs.laws.text_is_read_as_its_values.Goals as goal

pub returns : goal.returns
returns c = read_as_values
