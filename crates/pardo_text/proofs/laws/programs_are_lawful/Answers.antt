use Rattle.pardo_text.proofs.LawLawful.{programs_are_lawful}
use Rattle.pardo_text.proofs.laws.programs_are_lawful.Goals as goal

pub returns : goal.returns
returns c = programs_are_lawful
