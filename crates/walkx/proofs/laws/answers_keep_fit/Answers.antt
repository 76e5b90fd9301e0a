use Rattle.walkx.proofs.Fitting.{fits_told}
use Rattle.walkx.proofs.laws.answers_keep_fit.Goals as goal

pub returns : goal.returns
returns c = fits_told
