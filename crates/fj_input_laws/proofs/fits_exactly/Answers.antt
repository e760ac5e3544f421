use Rattle.fj_input_laws.proofs.FittingProofs as laws
use Rattle.fj_input_laws.proofs.fits_exactly.Goals as goal

pub returns : goal.returns
returns c = laws.fits_exactly
