use Rattle.job_text.proofs.Naming.{array_words_lawful}
use Rattle.job_text.proofs.laws.array_words_are_lawful.Goals as goal

pub returns : goal.returns
returns c = λ job h. array_words_lawful job.cells h.cells.1
