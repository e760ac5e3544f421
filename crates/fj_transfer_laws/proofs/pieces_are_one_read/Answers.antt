use Rattle.fj_transfer_laws.proofs.Cases.{PiecesAre, pieces_are}
use Rattle.fj_transfer_laws.proofs.PieceProofs.{pieces_are_one}
use Rattle.fj_transfer_laws.proofs.pieces_are_one_read.Goals as goal

pub returns : goal.returns
returns c = let _cases : PiecesAre = pieces_are in pieces_are_one
