use Rattle.fj_word_laws.proofs.TransferProofs as laws
use Rattle.fj_word_laws.proofs.transfers_keep.Goals as goal

pub returns : goal.returns
returns c = laws.transfers_keep
