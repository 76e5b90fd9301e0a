use Rattle.job_text.proofs.Streaming.{Notes}
use Rattle.job_text.proofs.code.aims_of.Given as goal

abbrev pub invariant-loop-instr : goal.invariant-loop-instr
invariant-loop-instr l = Notes l.code l.instr-index l.aims.items
