use Rattle.std.proofs.Common.{arith}
use Rattle.job_text.proofs.Streaming.{notes_all}
use Rattle.job_text.proofs.code.aims_of.Goals as goal

pub returns : goal.returns
returns c = notes_all c.args.code.now c.loop-instr.instr-index c.loop-instr.aims.items
    (omega arith) c.loop-instr.invariant
