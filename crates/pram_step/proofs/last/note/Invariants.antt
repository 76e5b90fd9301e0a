use Rattle.std.proofs.Common.{◌+◌}
use Rattle.pram_step.proofs.Lasts.{AreNoted}
use Rattle.pram_step.proofs.last.note.Given as goal

abbrev pub invariant-loop-processor : goal.invariant-loop-processor
invariant-loop-processor l = AreNoted l.sight.job.now l.sight.made (l.sight.made + l.sight.times)
    l.sight.running.now l.processor-index l.rows
