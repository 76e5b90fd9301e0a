use Rattle.pardo_flat.proofs.FlatWhole.{whole}
use Rattle.pardo_law.proofs.laws.fitting_is_flat.Goals as goal

pub returns : goal.returns
returns c program lawful fit = whole program lawful fit
